-- The numbers that the layouts of replies are made of.
use Rattle.std.specs.Prelude.{ℕ}

-- the kinds of parameters: a volume's, a file's, a directory's (this profile)
abbrev pub volume_kind : ℕ
volume_kind = 0

abbrev pub file_kind : ℕ
file_kind = 1

abbrev pub dir_kind : ℕ
dir_kind = 2

-- the flag of a directory; that of a file is 0 (AFP Reference, FPGetFileDirParms)
abbrev pub directory_flag : ℕ
directory_flag = 0x80

-- the bits that may be asked of a user: the user's id, the id of the primary group (AFP Reference, FPGetUserInfo)
abbrev pub user_info_mask : ℕ
user_info_mask = 0x0003

abbrev pub user_id_bit : ℕ
user_id_bit = 0

abbrev pub group_id_bit : ℕ
group_id_bit = 1

-- the bits that may be asked of a message: the message, and its count in 2 bytes (AFP Reference, FPGetSrvrMsg)
abbrev pub message_mask : ℕ
message_mask = 0x0003

abbrev pub message_bit : ℕ
message_bit = 0

abbrev pub utf8_bit : ℕ
utf8_bit = 1

-- the functions of FPMapID (AFP Reference, FPMapID)
abbrev pub user_id_to_name : ℕ
user_id_to_name = 1

abbrev pub group_id_to_name : ℕ
group_id_to_name = 2

abbrev pub user_id_to_utf8_name : ℕ
user_id_to_utf8_name = 3

abbrev pub group_id_to_utf8_name : ℕ
group_id_to_utf8_name = 4

-- The words by which a server announces itself in its status block, and by which it takes logins (AFP Reference, FPGetSrvrInfo, FPLogin).
use Rattle.std.specs.Prelude.{ℕ, ◌+◌, List, [], ◌∷◌, codes}
use Rattle.afp_calls_grammar.specs.grammar.LoginNames.{version_3_3, version_3_2, version_3_1, no_user, cleartext}

-- what kind of machine the server is
abbrev pub machine_type : List ℕ
machine_type = codes "Macintosh"

-- the AFP versions that the server speaks: it announces them in this order, and takes a login with any of them
abbrev pub versions : List (List ℕ)
versions = version_3_3 ∷ version_3_2 ∷ version_3_1 ∷ []

-- the user authentication methods (UAMs) that it announces, in this order
abbrev pub uams : List (List ℕ)
uams = no_user ∷ cleartext ∷ []

-- the flags of a status block, each a bit (AFP Reference, FPGetSrvrInfo): the server has FPCopyFile; it has messages; the block has a signature;
-- the server speaks TCP; its sessions can be taken up again; the block has its name in UTF-8
abbrev pub copy_file_flag : ℕ
copy_file_flag = 0x0001

abbrev pub server_messages_flag : ℕ
server_messages_flag = 0x0008

abbrev pub server_signature_flag : ℕ
server_signature_flag = 0x0010

abbrev pub tcp_flag : ℕ
tcp_flag = 0x0020

abbrev pub reconnect_flag : ℕ
reconnect_flag = 0x0080

abbrev pub utf8_name_flag : ℕ
utf8_name_flag = 0x0200

-- those that the server sets: 0x02b9
abbrev pub server_flags : ℕ
server_flags = copy_file_flag + server_messages_flag + server_signature_flag + tcp_flag + reconnect_flag + utf8_name_flag

-- The numbers of the commands (AFP Reference, "AFP Commands").
use Rattle.std.specs.Prelude.{ℕ}

abbrev pub byte_range_lock_command : ℕ
byte_range_lock_command = 1

abbrev pub close_vol_command : ℕ
close_vol_command = 2

abbrev pub close_dir_command : ℕ
close_dir_command = 3

abbrev pub close_fork_command : ℕ
close_fork_command = 4

abbrev pub copy_file_command : ℕ
copy_file_command = 5

abbrev pub create_dir_command : ℕ
create_dir_command = 6

abbrev pub create_file_command : ℕ
create_file_command = 7

abbrev pub delete_command : ℕ
delete_command = 8

abbrev pub enumerate_command : ℕ
enumerate_command = 9

abbrev pub flush_command : ℕ
flush_command = 10

abbrev pub flush_fork_command : ℕ
flush_fork_command = 11

abbrev pub get_fork_parms_command : ℕ
get_fork_parms_command = 14

abbrev pub get_srvr_info_command : ℕ
get_srvr_info_command = 15

abbrev pub get_srvr_parms_command : ℕ
get_srvr_parms_command = 16

abbrev pub get_vol_parms_command : ℕ
get_vol_parms_command = 17

abbrev pub login_command : ℕ
login_command = 18

abbrev pub logout_command : ℕ
logout_command = 20

abbrev pub map_id_command : ℕ
map_id_command = 21

abbrev pub map_name_command : ℕ
map_name_command = 22

abbrev pub move_and_rename_command : ℕ
move_and_rename_command = 23

abbrev pub open_vol_command : ℕ
open_vol_command = 24

abbrev pub open_dir_command : ℕ
open_dir_command = 25

abbrev pub open_fork_command : ℕ
open_fork_command = 26

abbrev pub read_command : ℕ
read_command = 27

abbrev pub rename_command : ℕ
rename_command = 28

abbrev pub set_dir_parms_command : ℕ
set_dir_parms_command = 29

abbrev pub set_file_parms_command : ℕ
set_file_parms_command = 30

abbrev pub set_fork_parms_command : ℕ
set_fork_parms_command = 31

abbrev pub set_vol_parms_command : ℕ
set_vol_parms_command = 32

abbrev pub write_command : ℕ
write_command = 33

abbrev pub get_file_dir_parms_command : ℕ
get_file_dir_parms_command = 34

abbrev pub set_file_dir_parms_command : ℕ
set_file_dir_parms_command = 35

abbrev pub get_user_info_command : ℕ
get_user_info_command = 37

abbrev pub get_srvr_msg_command : ℕ
get_srvr_msg_command = 38

abbrev pub create_id_command : ℕ
create_id_command = 39

abbrev pub delete_id_command : ℕ
delete_id_command = 40

abbrev pub resolve_id_command : ℕ
resolve_id_command = 41

abbrev pub exchange_files_command : ℕ
exchange_files_command = 42

abbrev pub open_dt_command : ℕ
open_dt_command = 48

abbrev pub close_dt_command : ℕ
close_dt_command = 49

abbrev pub get_icon_command : ℕ
get_icon_command = 51

abbrev pub get_icon_info_command : ℕ
get_icon_info_command = 52

abbrev pub add_appl_command : ℕ
add_appl_command = 53

abbrev pub remove_appl_command : ℕ
remove_appl_command = 54

abbrev pub get_appl_command : ℕ
get_appl_command = 55

abbrev pub add_comment_command : ℕ
add_comment_command = 56

abbrev pub remove_comment_command : ℕ
remove_comment_command = 57

abbrev pub get_comment_command : ℕ
get_comment_command = 58

abbrev pub byte_range_lock_ext_command : ℕ
byte_range_lock_ext_command = 59

abbrev pub read_ext_command : ℕ
read_ext_command = 60

abbrev pub write_ext_command : ℕ
write_ext_command = 61

abbrev pub login_ext_command : ℕ
login_ext_command = 63

abbrev pub get_session_token_command : ℕ
get_session_token_command = 64

abbrev pub disconnect_old_session_command : ℕ
disconnect_old_session_command = 65

abbrev pub enumerate_ext_command : ℕ
enumerate_ext_command = 66

abbrev pub enumerate_ext2_command : ℕ
enumerate_ext2_command = 68

abbrev pub add_icon_command : ℕ
add_icon_command = 192

use Rattle.std.proofs.Common.{◌≡◌, ◌∙◌, ap, of_z, rules, sym, to_z, w32, w64}
use Rattle.afp_calls_grammar.specs.declared.grammar.call.Call.TheVariants.{AddIcon, DisconnectOldSession, Login, LoginExt, MapName, SetDirParms, SetForkParms, Write, WriteExt}
use Rattle.afp_core_state.proofs.RowLemmas.{call-as, row-as}
use Rattle.afp_core_dispatch.proofs.call.row.Goals as goal

pub returns-in-GetSessionToken : goal.returns-in-GetSessionToken
returns-in-GetSessionToken g c =
    let x = c.in-GetSessionToken in
    call-as c.args.state.now _ c.args.session.0 _ _ _ x.is (c.get_session_token.ensures x.kind x.stamp x.id)

pub returns-in-DisconnectOldSession : goal.returns-in-DisconnectOldSession
returns-in-DisconnectOldSession g c =
    let x = c.in-DisconnectOldSession in
    row-as c.args.state.now _ c.args.session.0 _ _ _ (x.is ∙ ap (DisconnectOldSession x.kind) (sym c.as_slice-in-DisconnectOldSession.ensures)) (c.disconnect_old_session.ensures x.kind)

pub returns-in-Login : goal.returns-in-Login
returns-in-Login g c =
    let version = sym c.as_slice.ensures in
    let uam = sym c.as_slice-in-Login.ensures in
    let tail = sym c.as_slice-in-Login-2.ensures in
    row-as c.args.state.now _ c.args.session.0 _ _ _ (c.in-Login.is ∙ (λ i. Login (version i) (uam i) (tail i))) c.login.ensures

pub returns-in-LoginExt : goal.returns-in-LoginExt
returns-in-LoginExt g c =
    let x = c.in-LoginExt in
    let version = sym c.as_slice-in-LoginExt.ensures in
    let uam = sym c.as_slice-in-LoginExt-2.ensures in
    let name = sym c.as_slice-in-LoginExt-3.ensures in
    let tail = sym c.as_slice-in-LoginExt-4.ensures in
    row-as c.args.state.now _ c.args.session.0 _ _ _ (x.is ∙ (λ i. LoginExt x.flags (version i) (uam i) (name i) x.path_kind x.path (tail i))) (c.login_ext.ensures x.flags x.path_kind x.path)

pub returns-in-GetSrvrInfo : goal.returns-in-GetSrvrInfo
returns-in-GetSrvrInfo g c = call-as c.args.state.now _ c.args.session.0 _ _ _ c.in-GetSrvrInfo.is (c.get_srvr_info.ensures c.args.session.0)

pub returns-in-GetSrvrParms : goal.returns-in-GetSrvrParms
returns-in-GetSrvrParms g c = call-as c.args.state.now _ c.args.session.0 _ _ _ c.in-GetSrvrParms.is (c.get_srvr_parms.ensures c.args.session.0)

pub returns-in-GetSrvrMsg : goal.returns-in-GetSrvrMsg
returns-in-GetSrvrMsg g c = call-as c.args.state.now _ c.args.session.0 _ _ _ c.in-GetSrvrMsg.is (c.get_srvr_msg.ensures c.args.session.0)

pub returns-in-GetUserInfo : goal.returns-in-GetUserInfo
returns-in-GetUserInfo g c = call-as c.args.state.now _ c.args.session.0 _ _ _ c.in-GetUserInfo.is c.get_user_info.ensures

pub returns-in-MapID : goal.returns-in-MapID
returns-in-MapID g c = call-as c.args.state.now _ c.args.session.0 _ _ _ c.in-MapID.is (c.map_id.ensures c.args.session.0)

pub returns-in-MapName : goal.returns-in-MapName
returns-in-MapName g c =
    let x = c.in-MapName in
    call-as c.args.state.now _ c.args.session.0 _ _ _ (x.is ∙ ap (MapName x.function) (sym c.as_slice-in-MapName.ensures)) (c.map_name.ensures c.args.session.0)

pub returns-in-Logout : goal.returns-in-Logout
returns-in-Logout g c = row-as c.args.state.now _ c.args.session.0 _ _ _ c.in-Logout.is c.logout.ensures

pub returns-in-SetForkParms : goal.returns-in-SetForkParms
returns-in-SetForkParms g c =
    let x = c.in-SetForkParms in
    call-as c.args.state.now _ c.args.session.0 _ _ _ (x.is ∙ ap (SetForkParms x.reference x.bits) (sym c.as_slice-in-SetForkParms.ensures)) c.set_fork_parms.ensures

pub returns-in-Write : goal.returns-in-Write
returns-in-Write g c =
    let x = c.in-Write in
    let offset : to_z w32 (of_z w32 x.offset) ≡ x.offset = search rules in
    let piece = c.as_slice-in-Write.ensures in
    call-as c.args.state.now _ c.args.session.0 _ _ _ (x.is ∙ (λ i. Write x.flag x.reference (sym offset i) x.count (sym piece i))) (c.write.ensures x.count)

pub returns-in-WriteExt : goal.returns-in-WriteExt
returns-in-WriteExt g c =
    let x = c.in-WriteExt in
    let offset : to_z w64 (of_z w64 x.offset) ≡ x.offset = search rules in
    let count : to_z w64 (of_z w64 x.count) ≡ x.count = search rules in
    let piece = c.as_slice-in-WriteExt.ensures in
    call-as c.args.state.now _ c.args.session.0 _ _ _ (x.is ∙ (λ i. WriteExt x.flag x.reference (sym offset i) (sym count i) (sym piece i))) c.write_ext.ensures

pub create_file-requires : goal.create_file-requires
create_file-requires g c = let x = c.in-CreateFile in record { flag = x.flag; dir = x.dir; path = x.path; is = x.is }

pub delete-requires : goal.delete-requires
delete-requires g c = let x = c.in-Delete in record { dir = x.dir; path = x.path; is = x.is }

pub move_and_rename-requires : goal.move_and_rename-requires
move_and_rename-requires g c = let x = c.in-MoveAndRename in record { dir = x.dir; target_dir = x.target_dir; path = x.path; target_path = x.target_path; new_path = x.new_path; is = x.is }

pub rename-requires : goal.rename-requires
rename-requires g c = let x = c.in-Rename in record { dir = x.dir; path = x.path; new_path = x.new_path; is = x.is }

pub set_file_dir_parms-requires : goal.set_file_dir_parms-requires
set_file_dir_parms-requires g c = let x = c.in-SetFileDirParms in record { dir = x.dir; bits = x.bits; path = x.path; tail = x.tail; is = x.is }

pub set_file_parms-requires : goal.set_file_parms-requires
set_file_parms-requires g c = let x = c.in-SetFileParms in record { dir = x.dir; bits = x.bits; path = x.path; tail = x.tail; is = x.is }

pub set_vol_parms-requires : goal.set_vol_parms-requires
set_vol_parms-requires g c = let x = c.in-SetVolParms in record { bits = x.bits; tail = x.tail; is = x.is }

pub set_dir_parms-requires : goal.set_dir_parms-requires
set_dir_parms-requires g c =
    let x = c.in-SetDirParms in
    record { dir = x.dir; path = x.path; is = x.is ∙ ap (SetDirParms x.volume x.dir x.bits x.path) (sym c.as_slice-in-SetDirParms.ensures) }

pub returns-in-AddIcon : goal.returns-in-AddIcon
returns-in-AddIcon g c =
    let x = c.in-AddIcon in
    call-as c.args.state.now _ c.args.session.0 _ _ _ (x.is ∙ ap (AddIcon x.dt x.creator x.kind x.icon_kind x.tag x.size) (sym c.as_slice-in-AddIcon.ensures)) (c.add_icon.ensures x.size)

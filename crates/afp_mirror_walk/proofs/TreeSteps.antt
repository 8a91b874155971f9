-- Lists, and changes of the tree, that are told Ok.
use Rattle.std.proofs.Common.{◌≡◌, ℕ, true, false, List, [], Option, Some, None, refl, sym, ap, ◌∙◌, subst}
use Rattle.std.specs.Prelude.{◌≢◌, max}
use Rattle.afp_base.specs.Choice.{first_holding}
use Rattle.afp_base.specs.declared.code.Code.{Code}
use Rattle.afp_base.specs.declared.code.Code.TheVariants as code
use Rattle.afp_base.specs.declared.ids.NodeId.{NodeId}
use Rattle.afp_base.specs.declared.ids.VolumeId.{VolumeId}
use Rattle.afp_calls_grammar.specs.declared.grammar.call.Call.{Call}
use Rattle.afp_calls_grammar.specs.declared.grammar.call.Call.TheVariants as calls
use Rattle.afp_names.specs.Path.{PathValue}
use Rattle.afp_replies.specs.Replies.{Shows}
use Rattle.afp_replies.specs.declared.reply.Reply.{Reply}
use Rattle.afp_replies.specs.declared.reply.Reply.TheVariants.{Empty, Node}
use Rattle.afp_serial.specs.CreateDir.{node_id}
use Rattle.afp_serial.specs.Enumerate.{enumerate_reply}
use Rattle.afp_serial.specs.OnVolume.{changes_tree_unless, done_on, on_volume, opened_on, tells_of, with_state, with_volume_state}
use Rattle.afp_serial.specs.ReplyKinds.{reply_kind}
use Rattle.afp_serial.specs.Rows.{effect, refusal, row}
use Rattle.afp_serial.specs.Users.{user_ids}
use Rattle.afp_serial.specs.World.{Effect, Session, World, at_moment, session_at, user_of, volume_at}
use Rattle.afp_serial.proofs.OnVolumeRows.{Passes, else-none, on-passes}
use Rattle.afp_serial.proofs.VolumeStates.{state-at, state-other}
use Rattle.volume_spec.specs.CreateDir.{create_dir_id}
use Rattle.volume_spec.specs.Enumerate.{ListAsked, enumerate_refusal}
use Rattle.volume_spec.specs.SetFileDirParms.{set_dir_parms_behind}
use Rattle.volume_spec.specs.Shared.{refused_else}
use Rattle.volume_spec.specs.TreeSteps.{TreeCall, tree_effect, tree_refusal}
use Rattle.volume_spec.specs.TreeSteps as trees
use Rattle.volume_spec.specs.VolumeState.{VolumeState}
use Rattle.afp_mirror_walk.specs.Asks.{create, list, place_of, set_bits}
use Rattle.afp_mirror_walk.specs.Ports.{Home}
use Rattle.afp_mirror_walk.specs.Steps.{ChangesOk, ListsOk, RunsOk, list_asked}

pub lists-run : (h g : Home) (volume : VolumeId) (dir : NodeId) (start : ℕ) (block : List ℕ) → RunsOk h (list volume dir start) block g → ListsOk h volume.0 dir.0 start block g
unfolding row
lists-run h g volume dir start block r =
    let w : World = at_moment h.world r.now in
    let asked : ListAsked = list_asked r.session start in
    let p = on-passes w r.session volume.0 (λ (v : VolumeState). enumerate_refusal v (opened_on w volume.0) asked dir.0 (place_of [])) r.passes in
    let does : VolumeState → Effect = λ (v : VolumeState). record { world = w; reply = enumerate_reply v (opened_on w volume.0) asked dir.0 (place_of []) } in
    let is : done_on (volume_at w.volumes volume.0) w does ≡ does p.state = ap (λ (o : Option VolumeState). done_on o w does) p.there in
    record {
      now = r.now;
      session = r.session;
      attached = r.attached;
      v = p.state;
      there = p.there;
      passes = p.passes;
      shows = subst (λ (e : Effect). Shows e.reply (reply_kind (list volume dir start)) code.Ok block) is r.shows;
      stays = r.volumes ∙ ap (λ (e : Effect). e.world.volumes) is;
    }

-- a change of the tree, whatever it tells, and whatever refuses it behind the volume
changes-run : (h g : Home) (call : Call) (block : List ℕ) (volume : ℕ) (behind : World → Option Code) (tree : TreeCall) (reply : VolumeState → Reply) → RunsOk h call block g
    → ((w : World) (s : Session) → refusal w s call ≡ first_holding ((changes_tree_unless behind volume tree reply).refusals w s))
    → ((w : World) (s : Session) → effect w s call ≡ (changes_tree_unless behind volume tree reply).effect w s)
    → ChangesOk h volume tree g
changes-run h g call block volume behind tree reply r refuses does =
    let w : World = at_moment h.world r.now in
    let user : ℕ = user_of r.session in
    let p = on-passes w r.session volume (λ (v : VolumeState). refused_else (behind w) (tree_refusal v user (opened_on w volume) tree)) (sym (refuses w r.session) ∙ r.passes) in
    let new : VolumeState = tree_effect p.state user (max h.world.latest r.now) tree in
    let goes : VolumeState → Effect = λ (v : VolumeState). record { world = with_volume_state w volume (tree_effect v user w.latest tree); reply = reply v } in
    let is : effect w r.session call ≡ goes p.state = does w r.session ∙ ap (λ (o : Option VolumeState). done_on o w goes) p.there in
    let left : g.world.volumes ≡ with_state h.world.volumes volume new = r.volumes ∙ ap (λ (e : Effect). e.world.volumes) is in
    record {
      now = r.now;
      session = r.session;
      attached = r.attached;
      v = p.state;
      there = p.there;
      passes = else-none (behind w) (tree_refusal p.state user (opened_on w volume) tree) p.passes;
      after = ap (λ (vs : List VolumeState). volume_at vs volume) left ∙ state-at h.world.volumes volume p.state new p.there;
      others = λ other differs. ap (λ (vs : List VolumeState). volume_at vs other) left ∙ state-other h.world.volumes volume other new differs;
    }

pub dirs-made : (h g : Home) (volume : VolumeId) (parent : NodeId) (name block : List ℕ) → RunsOk h (create true volume parent name) block g → ChangesOk h volume.0 (trees.CreateDir parent.0 (place_of name)) g
unfolding row
dirs-made h g volume parent name block r = changes-run h g (create true volume parent name) block volume.0 (λ w. None) (trees.CreateDir parent.0 (place_of name)) (λ v. Node (node_id (create_dir_id v))) r (λ w s. refl) (λ w s. refl)

pub files-made : (h g : Home) (volume : VolumeId) (parent : NodeId) (name block : List ℕ) → RunsOk h (create false volume parent name) block g → ChangesOk h volume.0 (trees.CreateFile false parent.0 (place_of name)) g
unfolding row
files-made h g volume parent name block r = changes-run h g (create false volume parent name) block volume.0 (λ w. None) (trees.CreateFile false parent.0 (place_of name)) (λ v. Empty) r (λ w s. refl) (λ w s. refl)

pub files-set : (h g : Home) (volume : VolumeId) (parent : NodeId) (name rest block : List ℕ) → RunsOk h (calls.SetFileParms volume parent set_bits (place_of name) rest) block g → ChangesOk h volume.0 (trees.SetFileParms parent.0 set_bits (place_of name) rest) g
unfolding row
files-set h g volume parent name rest block r = changes-run h g (calls.SetFileParms volume parent set_bits (place_of name) rest) block volume.0 (λ w. None) (trees.SetFileParms parent.0 set_bits (place_of name) rest) (λ v. Empty) r (λ w s. refl) (λ w s. refl)

pub dirs-set : (h g : Home) (volume : VolumeId) (dir : NodeId) (rest block : List ℕ) → RunsOk h (calls.SetDirParms volume dir set_bits (place_of []) rest) block g → ChangesOk h volume.0 (trees.SetDirParms dir.0 set_bits (place_of []) rest) g
unfolding row
dirs-set h g volume dir rest block r = changes-run h g (calls.SetDirParms volume dir set_bits (place_of []) rest) block volume.0 (λ w. set_dir_parms_behind (user_ids w.house.users) set_bits rest) (trees.SetDirParms dir.0 set_bits (place_of []) rest) (λ v. Empty) r (λ w s. refl) (λ w s. refl)

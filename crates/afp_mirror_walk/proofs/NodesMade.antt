-- Nodes that are made, and pieces that are copied.
use Rattle.std.proofs.Common.{◌≡◌, ℕ, ◌+◌, ◌==◌, ◌≤◌, ◌<◌, Bool, true, false, List, [], length, take, Option, Some, None, refl, sym, ap, ◌∙◌, subst, arith}
use Rattle.std.specs.Prelude.{max, nat_lt, option_map}
use Rattle.std.proofs.lemmas.Bool.{lt-ltb}
use Rattle.afp_base.specs.ForkBytes.{splice, taken}
use Rattle.afp_base.specs.declared.ids.ForkRef.{ForkRef}
use Rattle.afp_base.specs.declared.ids.NodeId.{NodeId}
use Rattle.afp_base.specs.declared.ids.VolumeId.{VolumeId}
use Rattle.afp_names.specs.Name.{IsName, name_key}
use Rattle.afp_serial.proofs.VolumeStates.{served-at}
use Rattle.afp_serial.specs.OnFork.{OpenFile, bytes_of, with_bytes}
use Rattle.afp_serial.specs.OnVolume.{opened_on}
use Rattle.afp_serial.specs.World.{World, at_moment, user_of, volume_at}
use Rattle.afp_mirror_walk.proofs.Copied.{piece-copied, piece-counted}
use Rattle.afp_mirror_walk.proofs.NewNodes.{new-there, others-before}
use Rattle.afp_mirror_walk.proofs.Paths.{dir-created, file-created}
use Rattle.afp_mirror_walk.specs.Names.{MakesAt, in_dir}
use Rattle.volume_spec.specs.Edits.{change_at, modified_at}
use Rattle.volume_spec.specs.SoundVolume.{IsSoundVolume}
use Rattle.volume_spec.specs.VolumeState.{Row, VolumeState, new_row}
use Rattle.volume_spec.specs.Walk.{row_at}
use Rattle.afp_mirror_walk.specs.Asks.{create}
use Rattle.afp_mirror_walk.specs.Standing.{most_piece}
use Rattle.afp_mirror_walk.specs.Ports.{Home, IsHome}
use Rattle.afp_mirror_walk.specs.Steps.{ChangesOk, IsMadeDir, IsMadeFile, ReadsOk, RunsOk, WritesOk}
use Rattle.afp_mirror_walk.proofs.TreeSteps.{dirs-made, files-made}

-- the target's fork was written where it ended
written-there : (k l : Home) (to : ForkRef) (offset : ℕ) (piece bytes : List ℕ) (w : WritesOk k to offset piece l) → bytes_of w.f ≡ take offset bytes → piece ≡ taken bytes offset most_piece → length (taken bytes offset most_piece) ≡ most_piece → offset ≤ length bytes
    → l.world.volumes ≡ (with_bytes (at_moment k.world w.now) w.f true (take (offset + most_piece) bytes)).volumes
written-there k l to offset piece bytes w had is whole within =
    let some : nat_lt 0 (length piece) ≡ true = lt-ltb 0 (length piece) (omega (arith, whole, ap (λ (xs : List ℕ). length xs) is)) in
    let put : splice (bytes_of w.f) offset piece ≡ take (offset + most_piece) bytes = (λ i. splice (had i) offset (is i)) ∙ piece-copied bytes offset most_piece within in
    w.after ∙ (λ i. (with_bytes (at_moment k.world w.now) w.f (some i) (put i)).volumes)

pub copies-piece : (h g k l : Home) (from to : ForkRef) (offset : ℕ) (piece block : List ℕ) → (r : ReadsOk h from offset block g) → (w : WritesOk k to offset piece l)
    → piece ≡ taken (bytes_of r.f) offset most_piece → bytes_of w.f ≡ take offset (bytes_of r.f)
    → (l.world.volumes ≡ (with_bytes (at_moment k.world w.now) w.f true (take (offset + most_piece) (bytes_of r.f))).volumes) × (offset + most_piece ≤ length (bytes_of r.f))
copies-piece h g k l from to offset piece block r w is had =
    let counted : offset + most_piece ≤ length (bytes_of r.f) = piece-counted (bytes_of r.f) offset most_piece (omega arith) r.whole in
    (written-there k l to offset piece (bytes_of r.f) w had is r.whole (omega (arith, counted)), counted)

sound-of : (h : Home) (volume : ℕ) (v : VolumeState) → IsHome h → volume_at h.world.volumes volume ≡ Some v → IsSoundVolume v
sound-of h volume v home there = (served-at h.world volume v home.sound there).sound

pub dir-made : (h g : Home) (volume : VolumeId) (parent : NodeId) (name block : List ℕ) → IsHome h → IsName name → RunsOk h (create true volume parent name) block g → IsMadeDir h volume.0 parent.0 name block g
dir-made h g volume parent name block home named r =
    let c = dirs-made h g volume parent name block r in
    let now : ℕ = max h.world.latest c.now in
    let m = dir-created c.v (user_of c.session) now parent.0 name named c.passes in
    let sound = sound-of h volume.0 c.v home c.there in
    record {
      now = c.now;
      session = c.session;
      old = c.v;
      new = _;
      was = c.there;
      is = c.after;
      free = m.free;
      there = ap (λ (v : VolumeState). row_at v.rows c.v.next_id) m.made_is ∙ new-there true (user_of c.session) now c.v (in_dir parent.0 name) sound m.directory;
      others_there = λ id differ. ap (λ (v : VolumeState). row_at v.rows id) m.made_is ∙ others-before true (user_of c.session) now c.v (in_dir parent.0 name) id differ;
      others = c.others;
    }

pub file-made : (h g : Home) (volume : VolumeId) (parent : NodeId) (name block : List ℕ) → IsHome h → IsName name → RunsOk h (create false volume parent name) block g → IsMadeFile h volume.0 parent.0 name g
file-made h g volume parent name block home named r =
    let c = files-made h g volume parent name block r in
    let now : ℕ = max h.world.latest c.now in
    let m = file-created c.v (user_of c.session) now parent.0 (opened_on (at_moment h.world c.now) volume.0) name named c.passes in
    let sound = sound-of h volume.0 c.v home c.there in
    record {
      now = c.now;
      session = c.session;
      old = c.v;
      new = _;
      was = c.there;
      is = c.after;
      free = m.free;
      there = ap (λ (v : VolumeState). row_at v.rows c.v.next_id) m.made_is ∙ new-there false (user_of c.session) now c.v (in_dir parent.0 name) sound m.directory;
      others_there = λ id differ. ap (λ (v : VolumeState). row_at v.rows id) m.made_is ∙ others-before false (user_of c.session) now c.v (in_dir parent.0 name) id differ;
      others = c.others;
    }

-- Calls on forks that are told Ok.
use Rattle.std.proofs.Common.{◌≡◌, ℕ, ◌+◌, ◌≤◌, ◌<◌, Bool, true, false, not, cond, List, [], ◌∷◌, length, take, drop, Option, Some, None, refl, sym, ap, ◌∙◌, subst, arith}
use Rattle.std.specs.Prelude.{◌==◌, pos, min, nat_lt}
use Rattle.std.proofs.lemmas.Bool.{ltb-false}
use Rattle.std.proofs.lemmas.List.{length-take}
use Rattle.afp_base.specs.Choice.{first_holding}
use Rattle.afp_base.specs.ForkBytes.{splice, taken}
use Rattle.afp_base.specs.declared.code.Code.TheVariants as code
use Rattle.afp_base.specs.declared.ids.ForkRef.{ForkRef}
use Rattle.afp_base.specs.declared.ids.NodeId.{NodeId}
use Rattle.afp_base.specs.declared.ids.VolumeId.{VolumeId}
use Rattle.afp_replies.specs.Replies.{Shows}
use Rattle.afp_replies.specs.declared.reply.Reply.{Reply}
use Rattle.afp_replies.specs.declared.reply.Reply.TheVariants.{EndExt, Piece}
use Rattle.afp_serial.specs.Fork.{OpenAsked, file_asked, opens_fork}
use Rattle.afp_serial.specs.ForkBytes.{ReadAsked, WriteAsked, meets_end, read_bytes, read_refusals, read_reply, write_refusals, writes_some, written_bytes, write_end}
use Rattle.afp_serial.specs.OnFork.{OpenFile, bytes_of, done_with, on_fork, open_file, with_bytes}
use Rattle.afp_serial.specs.OnVolume.{done_on}
use Rattle.afp_serial.specs.OpenVol.{opens_volume, state_named, volume_named}
use Rattle.afp_serial.specs.ReplyKinds.{reply_kind}
use Rattle.afp_serial.specs.Rows.{effect, refusal, row}
use Rattle.afp_serial.specs.World.{Effect, Refusal, Session, World, at_moment, closing, plain, with_empty_reply, session_at, volume_at}
use Rattle.afp_serial.proofs.OnForkRows.{none-refused}
use Rattle.volume_spec.specs.VolumeState.{Row as File, VolumeState}
use Rattle.afp_mirror_walk.specs.Asks.{close, find_file, open_fork, open_volume, place_of, read, write}
use Rattle.afp_mirror_walk.specs.Standing.{most_piece}
use Rattle.afp_mirror_walk.specs.Ports.{Home}
use Rattle.afp_mirror_walk.specs.Steps.{ReadsOk, RunsOk, WritesOk}

-- what is not refused of an open fork: it is open, and is not refused
record Holds (o : Option OpenFile) (refuses : OpenFile → List Refusal) : Type 0 where
  f : OpenFile
  is : o ≡ Some f
  passes : first_holding (refuses f) ≡ None

holds : (o : Option OpenFile) (refuses : OpenFile → List Refusal) → first_holding (on_fork o refuses) ≡ None → Holds o refuses
holds None refuses h = absurd (cc)
holds (Some f) refuses h = record { f = f; is = refl; passes = h }

-- what is asked by a read of a mirror, and what it reads
abbrev asked_from : ℕ → ReadAsked
asked_from offset = record { offset = pos offset; count = pos most_piece; mask = 0; character = 0 }

reads-taken : (bytes : List ℕ) (offset : ℕ) → read_bytes bytes (asked_from offset) ≡ taken bytes offset most_piece
unfolding read_bytes
reads-taken bytes offset = refl

not-end : (bytes : List ℕ) (offset : ℕ) → meets_end bytes (asked_from offset) ≡ false → length (taken bytes offset most_piece) ≡ most_piece
unfolding meets_end
not-end bytes offset h =
    let enough : most_piece ≤ length (taken bytes offset most_piece) = ltb-false (length (taken bytes offset most_piece)) most_piece h in
    omega (arith, enough, length-take most_piece (drop offset bytes))

pub reads-run : (h g : Home) (reference : ForkRef) (offset : ℕ) (block : List ℕ) → RunsOk h (read reference offset) block g → ReadsOk h reference offset block g
unfolding row
reads-run h g reference offset block r =
    let w : World = at_moment h.world r.now in
    let asked : ReadAsked = asked_from offset in
    let k = holds (open_file w r.session reference.0) (read_refusals asked w) r.passes in
    let none = none-refused (read_refusals asked w k.f) k.passes in
    let does : OpenFile → Effect = λ (f : OpenFile). record { world = w; reply = read_reply asked f } in
    let is : done_with (open_file w r.session reference.0) w does ≡ does k.f = ap (λ (o : Option OpenFile). done_with o w does) k.is in
    record {
      now = r.now;
      session = r.session;
      attached = r.attached;
      f = k.f;
      held = k.is;
      whole = not-end (bytes_of k.f) offset none.1.1.1.0;
      shows = subst (λ (piece : List ℕ). Shows (Piece piece) (reply_kind (read reference offset)) code.Ok block) (reads-taken (bytes_of k.f) offset)
          (subst (λ (e : Effect). Shows e.reply (reply_kind (read reference offset)) code.Ok block) is r.shows);
      stays = r.volumes ∙ ap (λ (e : Effect). e.world.volumes) is;
    }

abbrev asked_to : ℕ → List ℕ → WriteAsked
asked_to offset piece = record { from_end = false; offset = pos offset; count = pos (length piece); piece = piece }

pub writes-run : (h g : Home) (reference : ForkRef) (offset : ℕ) (piece block : List ℕ) → RunsOk h (write reference offset piece) block g → WritesOk h reference offset piece g
unfolding row
writes-run h g reference offset piece block r =
    let w : World = at_moment h.world r.now in
    let asked : WriteAsked = asked_to offset piece in
    let k = holds (open_file w r.session reference.0) (write_refusals asked w) r.passes in
    let does : OpenFile → Effect = λ (f : OpenFile). record { world = with_bytes w f (writes_some asked) (written_bytes f asked); reply = EndExt (write_end f asked) } in
    let is : done_with (open_file w r.session reference.0) w does ≡ does k.f = ap (λ (o : Option OpenFile). done_with o w does) k.is in
    record {
      now = r.now;
      session = r.session;
      attached = r.attached;
      f = k.f;
      held = k.is;
      after = r.volumes ∙ ap (λ (e : Effect). e.world.volumes) is;
    }

opens-volumes : (w : World) (s : Session) (asked : OpenAsked) (o : Option File) → (opens_fork w s asked o).world.volumes ≡ w.volumes
opens-volumes w s asked None = refl
opens-volumes w s asked (Some file) = refl

pub opens-stay-put : (h g : Home) (resource : Bool) (volume : VolumeId) (mode : ℕ) (parent : NodeId) (name block : List ℕ) → RunsOk h (open_fork resource volume mode parent name) block g → g.world.volumes ≡ h.world.volumes
unfolding row
opens-stay-put h g resource volume mode parent name block r = r.volumes ∙ opens-volumes (at_moment h.world r.now) r.session _ _

pub closes-stay-put : (h g : Home) (reference : ForkRef) (block : List ℕ) → RunsOk h (close reference) block g → g.world.volumes ≡ h.world.volumes
unfolding row
closes-stay-put h g reference block r = r.volumes ∙ by (open_file (at_moment h.world r.now) r.session reference.0)
  where
    by : (o : Option OpenFile) → (done_with o (at_moment h.world r.now) (λ f. with_empty_reply (closing (at_moment h.world r.now) (λ p. not (p.reference == reference.0))))).world.volumes ≡ h.world.volumes
    by None = refl
    by (Some f) = refl

named-volumes : (w : World) (s : Session) (bits : ℕ) (id : Option ℕ) (v : Option VolumeState) → (opens_volume w s bits id v).world.volumes ≡ w.volumes
named-volumes w s bits None v = refl
named-volumes w s bits (Some id) None = refl
named-volumes w s bits (Some id) (Some v) = refl

pub volume-stays-put : (h g : Home) (name block : List ℕ) → RunsOk h (open_volume name) block g → g.world.volumes ≡ h.world.volumes
unfolding row
volume-stays-put h g name block r = let w : World = at_moment h.world r.now in r.volumes ∙ named-volumes w r.session 0x20 (volume_named w name) (state_named w (volume_named w name))

told-volumes : (o : Option VolumeState) (w : World) (reply : VolumeState → Reply) → (done_on o w (λ v. record { world = w; reply = reply v })).world.volumes ≡ w.volumes
told-volumes None w reply = refl
told-volumes (Some v) w reply = refl

pub finds-stay-put : (h g : Home) (volume : VolumeId) (parent : NodeId) (name block : List ℕ) → RunsOk h (find_file volume parent name) block g → g.world.volumes ≡ h.world.volumes
unfolding row
finds-stay-put h g volume parent name block r = r.volumes ∙ told-volumes (volume_at h.world.volumes volume.0) (at_moment h.world r.now) _

-- What is written is seen, and stays.
use Rattle.std.proofs.Common.{◌==◌, ◌≡◌, ◌∙◌, ap, sym, refl, ℕ, ◌+◌, ◌<◌, ◌≤◌, arith, Bool, true, false, ◌&&◌, ◌||◌, cond, List, [], ◌∷◌, length, take, drop, max, Some}
use Rattle.std.specs.Prelude.{nat_le, nat_lt, option_map, slice_index}
use Rattle.std.specs.Bool.{beq}
use Rattle.std.specs.List.{list_all}
use Rattle.std.proofs.lemmas.Bool.{and_parts, eqb-false, eqb-true, eq-eqb, false_from_ne_true, leb-true, ltb-true}
use Rattle.std.proofs.lemmas.List.{ext_get_or, get_or-drop, get_or-take, length-drop, length-take}
use Rattle.afp_base.specs.Limits.{payload_limit}
use Rattle.afp_base.proofs.DefinitionLaws.{one_fork}
use Rattle.afp_base.specs.DenyMode.{Fork, is_one_fork}
use Rattle.afp_base.specs.ForkBytes.{HasLength, KeepsFront, LeavesBefore, LeavesBehind, PutsBetween, Reaches, resized, splice, taken}
use Rattle.afp_replies.specs.declared.reply.Reply.{Reply}
use Rattle.afp_serial.proofs.OnForkRows.{IsHeld, IsHeldFile, held-file, sound-file}
use Rattle.afp_serial.proofs.VolumeStates.{state-at, state-other}
use Rattle.afp_serial.specs.World.{with_empty_reply, volume_at, World, Session, OpenFork}
use Rattle.afp_serial.specs.Fork.{is_other_length, length_for, set_fork_parms_row}
use Rattle.afp_serial.specs.ForkBytes.{WriteAsked, ahead, meets_end, most_read, read_bytes, write_end, writes, writes_some, written_bytes}
use Rattle.afp_serial.specs.OnFork.{OpenFile, bytes_of, done_with, file_on, file_under, open_file, own_fork, with_bytes}
use Rattle.afp_serial.specs.OnVolume.{with_state}
use Rattle.afp_serial.specs.Sound.{IsSound}
use Rattle.afp_serial.specs.WriteLaws.{becomes, ForkChange, puts, sets_length, bytes_under, changed_by, changed_by_all, misses, read_of}
use Rattle.volume_spec.proofs.ForkEffects.{fork-given, fork-lets-be}
use Rattle.volume_spec.specs.ForkEffect.{fork_effect, fork_of, written}
use Rattle.volume_spec.specs.VolumeState.{Row as File, VolumeState}
use Rattle.volume_spec.specs.Walk.{row_at}
use Rattle.afp_base.proofs.Facts.{beq-itself, either}

-- seen under a reference

-- what is found under a reference, by the three steps
under : (w : World) (s : Session) (reference : ℕ) (o : OpenFork) (v : VolumeState) (file : File) → own_fork w s reference ≡ Some o → volume_at w.volumes o.fork.volume ≡ Some v → row_at v.rows o.fork.node ≡ Some file → bytes_under w s reference ≡ Some (fork_of o.fork.resource file)
unfolding open_file
under w s reference o v file own there row =
    ap (λ q. option_map bytes_of (file_under w q)) own
    ∙ ap (λ q. option_map bytes_of (file_on o q)) there
    ∙ ap (λ q. option_map bytes_of (option_map (λ (x : File). record { fork = o; volume = v; file = x }) q)) row

pub other-bytes : (now : ℕ) (resource : Bool) (bytes : List ℕ) (file : File) (r : Bool) → fork_of r (written now resource bytes true file) ≡ cond (beq r resource) bytes (fork_of r file)
other-bytes now true bytes file true = refl
other-bytes now true bytes file false = refl
other-bytes now false bytes file true = refl
other-bytes now false bytes file false = refl

pub one-kind : (f g : Fork) → is_one_fork g f ≡ true → g ≡ f
one-kind f g h = (one_fork g f).0 h

-- the volume of the fork, after its bytes are others
given-at : (w : World) (s : Session) (reference : ℕ) (f : OpenFile) (bytes : List ℕ) → IsHeld w s reference f → volume_at (with_state w.volumes f.fork.fork.volume (fork_effect w.latest f.file.id f.fork.fork.resource bytes true f.volume)) f.fork.fork.volume ≡ Some (fork_effect w.latest f.file.id f.fork.fork.resource bytes true f.volume)
given-at w s reference f bytes held = state-at w.volumes f.fork.fork.volume f.volume (fork_effect w.latest f.file.id f.fork.fork.resource bytes true f.volume) held.there

pub bytes-seen : (w : World) (s t : Session) (reference other : ℕ) (f g : OpenFile) (bytes : List ℕ) → IsSound w → open_file w s reference ≡ Some f → open_file w t other ≡ Some g → is_one_fork g.fork.fork f.fork.fork ≡ true → bytes_under (with_bytes w f true bytes) t other ≡ Some bytes
bytes-seen w s t reference other f g bytes h is_f is_g same =
    let held = held-file w s reference f is_f in
    let seen = held-file w t other g is_g in
    let its = sound-file w s reference f h held in
    let one : g.fork.fork ≡ f.fork.fork = one-kind f.fork.fork g.fork.fork same in
    let new : VolumeState = fork_effect w.latest f.file.id f.fork.fork.resource bytes true f.volume in
    let row : row_at f.volume.rows f.file.id ≡ Some f.file = ap (row_at f.volume.rows) its.node ∙ held.row in
    under (with_bytes w f true bytes) t other g.fork new (written w.latest f.fork.fork.resource bytes true f.file) seen.found
    (ap (λ (k : Fork). volume_at (with_state w.volumes f.fork.fork.volume new) k.volume) one ∙ given-at w s reference f bytes held)
    (ap (λ (k : Fork). row_at new.rows k.node) one ∙ ap (row_at new.rows) (sym its.node) ∙ fork-given f.volume w.latest f.file.id f.fork.fork.resource true bytes f.file row)
    ∙ ap Some (ap (λ (k : Fork). fork_of k.resource (written w.latest f.fork.fork.resource bytes true f.file)) one
    ∙ other-bytes w.latest f.fork.fork.resource bytes f.file f.fork.fork.resource
    ∙ ap (λ b. cond b bytes (fork_of f.fork.fork.resource f.file)) (beq-itself f.fork.fork.resource))

pub writes-seen : (w : World) (s t : Session) (reference other : ℕ) (f g : OpenFile) (asked : WriteAsked) (reply : ℕ → Reply) → IsSound w → open_file w s reference ≡ Some f → open_file w t other ≡ Some g → is_one_fork g.fork.fork f.fork.fork ≡ true → writes_some asked ≡ true
    → bytes_under ((writes reference asked reply).effect w s).world t other ≡ Some (written_bytes f asked)
writes-seen w s t reference other f g asked reply h is_f is_g same some =
    ap (λ q. bytes_under (done_with q w (λ x. record { world = with_bytes w x (writes_some asked) (written_bytes x asked); reply = reply (write_end x asked) })).world t other) is_f
    ∙ ap (λ b. bytes_under (with_bytes w f b (written_bytes f asked)) t other) some
    ∙ bytes-seen w s t reference other f g (written_bytes f asked) h is_f is_g same

pub lengths-seen : (w : World) (s t : Session) (reference other bits : ℕ) (rest : List ℕ) (f g : OpenFile) → IsSound w → open_file w s reference ≡ Some f → open_file w t other ≡ Some g → is_one_fork g.fork.fork f.fork.fork ≡ true → is_other_length bits rest f ≡ true
    → bytes_under ((set_fork_parms_row reference bits rest).effect w s).world t other ≡ Some (resized (bytes_of f) (length_for bits rest f))
lengths-seen w s t reference other bits rest f g h is_f is_g same some =
    ap (λ q. bytes_under (done_with q w (λ x. with_empty_reply (with_bytes w x (is_other_length bits rest x) (resized (bytes_of x) (length_for bits rest x))))).world t other) is_f
    ∙ ap (λ b. bytes_under (with_bytes w f b (resized (bytes_of f) (length_for bits rest f))) t other) some
    ∙ bytes-seen w s t reference other f g (resized (bytes_of f) (length_for bits rest f)) h is_f is_g same

-- other forks

pub others-stay : (w : World) (s t : Session) (reference other : ℕ) (f g : OpenFile) (some : Bool) (bytes : List ℕ) → IsSound w → open_file w s reference ≡ Some f → open_file w t other ≡ Some g → is_one_fork g.fork.fork f.fork.fork ≡ false → bytes_under (with_bytes w f some bytes) t other ≡ Some (bytes_of g)
others-stay w s t reference other f g false bytes h is_f is_g apart = let seen = held-file w t other g is_g in under w t other g.fork g.volume g.file seen.found seen.there seen.row
others-stay w s t reference other f g true bytes h is_f is_g apart = by-volume (g.fork.fork.volume == f.fork.fork.volume) refl
  where
    held : IsHeld w s reference f
    held = held-file w s reference f is_f

    seen : IsHeld w t other g
    seen = held-file w t other g is_g

    its : IsHeldFile w reference f
    its = sound-file w s reference f h held

    new : VolumeState
    new = fork_effect w.latest f.file.id f.fork.fork.resource bytes true f.volume

    new-at : g.fork.fork.volume ≡ f.fork.fork.volume → volume_at (with_state w.volumes f.fork.fork.volume new) g.fork.fork.volume ≡ Some new
    new-at one = ap (volume_at (with_state w.volumes f.fork.fork.volume new)) one ∙ given-at w s reference f bytes held

    old-state : g.fork.fork.volume ≡ f.fork.fork.volume → g.volume ≡ f.volume
    old-state one = let same : Some g.volume ≡ Some f.volume = sym seen.there ∙ ap (volume_at w.volumes) one ∙ held.there in cc

    by-kind : g.fork.fork.volume ≡ f.fork.fork.volume → g.fork.fork.node ≡ f.fork.fork.node → (b : Bool) → beq g.fork.fork.resource f.fork.fork.resource ≡ b → bytes_under (with_bytes w f true bytes) t other ≡ Some (bytes_of g)
    by-kind volume node true kind =
        let all : is_one_fork g.fork.fork f.fork.fork ≡ true = (λ i. (eq-eqb g.fork.fork.volume f.fork.fork.volume volume i) && ((eq-eqb g.fork.fork.node f.fork.fork.node node i) && kind i)) in
        absurd (cc)
    by-kind volume node false kind =
        let row : row_at f.volume.rows f.file.id ≡ Some f.file = ap (row_at f.volume.rows) its.node ∙ held.row in
        let file : g.file ≡ f.file = (let same : Some g.file ≡ Some f.file = sym seen.row ∙ ap (λ (v : VolumeState). row_at v.rows g.fork.fork.node) (old-state volume) ∙ ap (row_at f.volume.rows) node ∙ held.row in cc) in
        under (with_bytes w f true bytes) t other g.fork new (written w.latest f.fork.fork.resource bytes true f.file) seen.found (new-at volume)
        (ap (row_at new.rows) (node ∙ sym its.node) ∙ fork-given f.volume w.latest f.file.id f.fork.fork.resource true bytes f.file row)
        ∙ ap Some (other-bytes w.latest f.fork.fork.resource bytes f.file g.fork.fork.resource
        ∙ ap (λ b. cond b bytes (fork_of g.fork.fork.resource f.file)) kind
        ∙ ap (fork_of g.fork.fork.resource) (sym file))

    by-node : g.fork.fork.volume ≡ f.fork.fork.volume → (b : Bool) → (g.fork.fork.node == f.fork.fork.node) ≡ b → bytes_under (with_bytes w f true bytes) t other ≡ Some (bytes_of g)
    by-node volume true node = by-kind volume (eqb-true g.fork.fork.node f.fork.fork.node node) (beq g.fork.fork.resource f.fork.fork.resource) refl
    by-node volume false node =
        under (with_bytes w f true bytes) t other g.fork new g.file seen.found (new-at volume)
        (fork-lets-be f.volume w.latest f.file.id g.fork.fork.node f.fork.fork.resource true bytes (ap (λ n. g.fork.fork.node == n) its.node ∙ node)
        ∙ ap (λ (v : VolumeState). row_at v.rows g.fork.fork.node) (sym (old-state volume)) ∙ seen.row)

    by-volume : (b : Bool) → (g.fork.fork.volume == f.fork.fork.volume) ≡ b → bytes_under (with_bytes w f true bytes) t other ≡ Some (bytes_of g)
    by-volume true volume = by-node (eqb-true g.fork.fork.volume f.fork.fork.volume volume) (g.fork.fork.node == f.fork.fork.node) refl
    by-volume false volume =
        under (with_bytes w f true bytes) t other g.fork g.volume g.file seen.found
        (state-other w.volumes f.fork.fork.volume g.fork.fork.volume new (eqb-false g.fork.fork.volume f.fork.fork.volume volume) ∙ seen.there) seen.row

-- bytes that stay

-- the laws of splices and of lengths
pub record Splices : Type 0 where
  pub before : LeavesBefore
  pub between : PutsBetween
  pub behind : LeavesBehind
  pub reaches : Reaches
  pub len : HasLength
  pub front : KeepsFront

-- the bytes are there, from a place on
record Holds (bytes : List ℕ) (at : ℕ) (piece : List ℕ) : Type 0 where
  reach : at + length piece ≤ length bytes
  same : (k : ℕ) → k < length piece → slice_index bytes (at + k) ≡ slice_index piece k

holds-taken : (bytes : List ℕ) (at : ℕ) (piece : List ℕ) → Holds bytes at piece → taken bytes at (length piece) ≡ piece
holds-taken bytes at piece h =
    let size = length-take (length piece) (drop at bytes) in
    let behind = length-drop at bytes in
    let reach : at + length piece ≤ length bytes = h.reach in
    let all : length (take (length piece) (drop at bytes)) ≡ length piece = omega (arith, size, behind, reach) in
    ext_get_or 0 (take (length piece) (drop at bytes)) piece all
    (λ k within. let low : k < length piece = omega (arith, all, within) in get_or-take (length piece) (drop at bytes) k 0 low ∙ get_or-drop at bytes k 0 ∙ h.same k low)

put-holds : (s : Splices) (old : List ℕ) (at : ℕ) (piece : List ℕ) → 0 < length piece → Holds (splice old at piece) at piece
put-holds s old at piece some = record {
  reach = let len = s.reaches old piece at some in omega (arith, len);
  same = λ k low. s.between old piece at k low;
}

change-holds : (s : Splices) (bytes : List ℕ) (at : ℕ) (piece : List ℕ) (change : ForkChange) → misses at (length piece) change ≡ true → Holds bytes at piece → Holds (changed_by change bytes) at piece
change-holds s bytes at piece (sets_length n) missed h =
    let far = leb-true (at + length piece) n missed in
    let len : length (resized bytes n) ≡ n = s.len bytes n in
    record {
      reach = omega (arith, far, len);
      same = λ k low. s.front bytes n (at + k) (omega (arith, far, low)) ∙ h.same k low;
    }
change-holds s bytes at piece (becomes others) missed h = absurd (cc)
change-holds s bytes at piece (puts place []) missed h = h
change-holds s bytes at piece (puts place (b ∷ bs)) missed h =
    let len : length (splice bytes place (b ∷ bs)) ≡ max (length bytes) (place + length (b ∷ bs)) = s.reaches bytes (b ∷ bs) place (omega arith) in
    let reach : at + length piece ≤ length bytes = h.reach in
    record {
      reach = omega (arith, len, reach);
      same = λ k low. either (nat_le (place + length (b ∷ bs)) at) (nat_le (at + length piece) place) (not-empty (length (b ∷ bs) == 0) refl missed)
          (λ ends. let far = leb-true (place + length (b ∷ bs)) at ends in s.behind bytes (b ∷ bs) place (at + k) (omega (arith, far)) ∙ h.same k low)
          (λ begins. let far = leb-true (at + length piece) place begins in s.before bytes (b ∷ bs) place (at + k) (omega (arith, far, low)) ∙ h.same k low);
    }
  where
    not-empty : (e : Bool) → (length (b ∷ bs) == 0) ≡ e → (e || (nat_le (place + length (b ∷ bs)) at || nat_le (at + length piece) place)) ≡ true → (nat_le (place + length (b ∷ bs)) at || nat_le (at + length piece) place) ≡ true
    not-empty true is k = let bad = eqb-true (length (b ∷ bs)) 0 is in absurd (omega (arith, bad))
    not-empty false is k = k

changes-hold : (s : Splices) (bytes : List ℕ) (at : ℕ) (piece : List ℕ) (changes : List ForkChange) → list_all (misses at (length piece)) changes ≡ true → Holds bytes at piece → Holds (changed_by_all changes bytes) at piece
changes-hold s bytes at piece [] missed h = h
changes-hold s bytes at piece (change ∷ changes) missed h =
    let e = and_parts (misses at (length piece) change) (list_all (misses at (length piece)) changes) missed in
    changes-hold s (changed_by change bytes) at piece changes e.1 (change-holds s bytes at piece change e.0 h)

pub written-stay : Splices → (old piece : List ℕ) (at : ℕ) (changes : List ForkChange) → 0 < length piece → list_all (misses at (length piece)) changes ≡ true → taken (changed_by_all changes (splice old at piece)) at (length piece) ≡ piece
written-stay s old piece at changes some missed = holds-taken (changed_by_all changes (splice old at piece)) at piece (changes-hold s (splice old at piece) at piece changes missed (put-holds s old at piece some))

-- a read

pub reads-there : (bytes piece : List ℕ) (at character : ℕ) → length piece ≤ payload_limit → taken bytes at (length piece) ≡ piece → (read_bytes bytes (read_of at (length piece) character) ≡ piece) × (meets_end bytes (read_of at (length piece) character) ≡ false)
unfolding read_bytes meets_end
reads-there bytes piece at character few there =
    let most : most_read (read_of at (length piece) character) ≡ length piece = omega (arith, few) in
    let all : ahead bytes (read_of at (length piece) character) ≡ piece = ap (taken bytes at) most ∙ there in (
      all,
      false_from_ne_true (nat_lt (length (ahead bytes (read_of at (length piece) character))) (most_read (read_of at (length piece) character)))
          (λ low. let less = ltb-true (length (ahead bytes (read_of at (length piece) character))) (most_read (read_of at (length piece) character)) low in
          let size : length (ahead bytes (read_of at (length piece) character)) ≡ length piece = ap length all in absurd (omega (arith, less, size, most))),
    )

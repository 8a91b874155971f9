-- What holds of open forks and locks, in plain words; and what their refusals tell is shown.
use Rattle.std.proofs.Common.{◌==◌, ◌≡◌, ◌↔◌, ◌∙◌, ap, sym, refl, ℕ, zero, suc, pos, negsuc, ◌+◌, ◌<◌, ◌≤◌, arith, Bool, true, false, ◌&&◌, List, [], ◌∷◌, length, Option, Some, None, min, ◌||◌, not}
use Rattle.std.specs.Prelude.{nat_le, slice_index_or}
use Rattle.std.specs.List.{Contains, list_any, list_all}
use Rattle.std.proofs.lemmas.Bool.{and_parts, and_from, cond_both, eq-eqb, le-leb, leb-true, or_left, or_right, both_ways, false_from_ne_true}
use Rattle.afp_base.proofs.DefinitionLaws.{tells_conflicts}
use Rattle.afp_base.specs.DenyMode.{do_conflict}
use Rattle.afp_base.specs.Overlap.{Covers, Range, do_meet}
use Rattle.afp_base.specs.declared.code.Code.TheVariants.{DenyConflict, EOFErr}
use Rattle.afp_base.specs.declared.ids.NodeId.{NodeId}
use Rattle.afp_base.specs.declared.ids.VolumeId.{VolumeId}
use Rattle.afp_bitmap.specs.Bits.{file_mask, is_outside}
use Rattle.afp_names.specs.Path.{PathValue}
use Rattle.afp_replies.proofs.Showing.{what_fits_a_request}
use Rattle.afp_replies.specs.Commands.{rows, shape_in, shape_of}
use Rattle.afp_replies.specs.Replies.{Shows, canonical_reply}
use Rattle.afp_replies.specs.Requested.{FitsRequest}
use Rattle.afp_replies.specs.declared.reply.Reply.TheVariants.{Opened}
use Rattle.afp_calls_grammar.specs.declared.grammar.call.Call.TheVariants as calls
use Rattle.afp_calls_grammar.specs.declared.grammar.call.Call.TheVariants.{Read, ReadExt}
use Rattle.afp_serial.proofs.ForkRows.{file-answer}
use Rattle.afp_serial.proofs.ListShown.{within}
use Rattle.afp_serial.proofs.OpenForkRow.{IsFileFound, found-file}
use Rattle.afp_serial.proofs.SoundParts.{do_clash, do_overlap, locks-parts, opens-parts, same_reference}
use Rattle.afp_serial.proofs.VolumeStates.{IsServed, served-at}
use Rattle.afp_serial.specs.Fork.{OpenAsked, file_asked, fork_ref, is_denied, opened_reply}
use Rattle.afp_serial.specs.ForkBytes.{read_bytes, read_reply}
use Rattle.afp_serial.specs.ForkLaws.{DenialIsShown, DeniesConflicts, EndIsShown, NoByteTwice, NoTwoConflict, RangesCount, RangesEnd, RangesToLastByte, MeetsNoneBehind, MeetsUpToLastByte, is_lock_range}
use Rattle.afp_serial.specs.Lock.{range_to}
use Rattle.afp_base.specs.Limits.{last_byte}
use Rattle.afp_serial.specs.OnFork.{bytes_of, is_met_by_other, meets_lock}
use Rattle.afp_serial.specs.OnVolume.{opened_on}
use Rattle.afp_serial.specs.ReplyKinds.{reply_kind}
use Rattle.afp_serial.specs.World.{volume_at, World, OpenFork, Lock}
use Rattle.afp_serial.specs.Sound.{share_fork}
use Rattle.volume_spec.specs.OpenFork.{fork_values}
use Rattle.volume_spec.specs.VolumeState.{Row as File, VolumeState}
use Rattle.afp_base.proofs.Facts.{either, never}
use Rattle.afp_base.proofs.ListFacts.{apart-places}

-- conflicts

any-some : {A : Type 0} (p : A → Bool) (xs : List A) → list_any p xs ≡ true → (x : A) × Contains xs x × (p x ≡ true)
any-some p [] h = absurd (cc)
any-some p (x ∷ xs) h =
    either (p x) (list_any p xs) h
    (λ here. (x, (0, omega arith, refl), here))
    (λ later. let r = any-some p xs later in (r.0, (suc r.1.0, omega (arith, r.1.1), r.1.2), r.2))

pub some-any : {A : Type 0} (p : A → Bool) (xs : List A) (x : A) (k : ℕ) → k < length xs → slice_index_or xs k x ≡ x → p x ≡ true → list_any p xs ≡ true
some-any p [] x k within is h = absurd (omega (arith, within))
some-any p (y ∷ ys) x zero within is h = or_left (p y) (list_any p ys) (ap p is ∙ h)
some-any p (y ∷ ys) x (suc k) within is h = or_right (p y) (list_any p ys) (some-any p ys x k (omega (arith, within)) is h)

pub denies-conflicts : DeniesConflicts
unfolding is_denied
denies-conflicts w fork access = (
  λ h. let r = any-some (λ (o : OpenFork). do_conflict o.fork o.access fork access) w.opens h in (r.0, r.1, (tells_conflicts r.0.fork fork r.0.access access).0 r.2),
  λ r. some-any (λ (o : OpenFork). do_conflict o.fork o.access fork access) w.opens r.0 r.1.0 r.1.1 r.1.2 ((tells_conflicts r.0.fork fork r.0.access access).1 r.2),
)

pub no-two-conflict : NoTwoConflict
no-two-conflict w j k a b h before at_j at_k =
    let p = opens-parts w h.opens in (
      λ same. never (same_reference a b) (eq-eqb a.reference b.reference same) (apart-places same_reference w.opens j k a b p.references before at_j at_k),
      λ clash. never (do_clash a b) ((tells_conflicts a.fork b.fork a.access b.access).1 clash) (apart-places do_clash w.opens j k a b p.clashes before at_j at_k),
    )

pub no-byte-twice : NoByteTwice
no-byte-twice w j k byte a b h before at_j at_k shared covers_a covers_b =
    let p = locks-parts w h.locks in
    never (do_overlap w.opens a b)
    (and_from (share_fork w.opens a.reference b.reference) (do_meet a.range b.range) shared
    (and_from (nat_le a.range.from b.range.to) (nat_le b.range.from a.range.to) (le-leb a.range.from b.range.to (omega (arith, covers_a.0, covers_b.1))) (le-leb b.range.from a.range.to (omega (arith, covers_b.0, covers_a.1)))))
    (apart-places (do_overlap w.opens) w.locks j k a b p.overlaps before at_j at_k)

-- ranges

record IsRange (from to : ℕ) (r : Range) : Type 0 where
  starts : r.from ≡ from
  ends : r.to ≡ to
  order : from ≤ to
  top : to ≤ last_byte

range-is : (from to : ℕ) (r : Range) → range_to from to ≡ Some r → IsRange from to r
range-is from to r is =
    cond_both (nat_le from to && nat_le to last_byte) (Some (record { from = from; to = to })) None (λ o. o ≡ Some r → IsRange from to r)
    (λ good h.
    let e = and_parts (nat_le from to) (nat_le to last_byte) good in
    let a : from ≡ r.from = cc in
    let b : to ≡ r.to = cc in
    record { starts = sym a; ends = sym b; order = leb-true from to e.0; top = leb-true to last_byte e.1 })
    (λ bad h. absurd (cc)) is

covers-range : (from to byte : ℕ) (r : Range) → IsRange from to r → (Covers r byte ↔ ((from ≤ byte) × (byte ≤ to)))
covers-range from to byte r i = (λ c. (omega (arith, i.starts, c.0), omega (arith, i.ends, c.1)), λ c. (omega (arith, i.starts, c.0), omega (arith, i.ends, c.1)))

pub ranges-count : RangesCount
ranges-count from more byte r is = covers-range from (from + more) byte r (range-is from (from + more) r is)

pub ranges-to-top : RangesToLastByte
ranges-to-top from byte r is = covers-range from last_byte byte r (range-is from last_byte r is)

ends-of : (from to : ℕ) (r : Range) → IsRange from to r → (r.from ≤ r.to) × (r.to ≤ last_byte)
ends-of from to r i = (omega (arith, i.starts, i.ends, i.order), omega (arith, i.ends, i.top))

pub ranges-end : RangesEnd
ranges-end (negsuc n) length r is = absurd (cc)
ranges-end (pos from) (pos zero) r is = absurd (cc)
ranges-end (pos from) (pos (suc more)) r is = ends-of from (from + more) r (range-is from (from + more) r is)
ranges-end (pos from) (negsuc zero) r is = ends-of from last_byte r (range-is from last_byte r is)
ranges-end (pos from) (negsuc (suc n)) r is = absurd (cc)

-- what refusals tell

pub end-shown : EndIsShown
unfolding shape_of shape_in rows
end-shown (Read reference offset count mask character) asked f is = what_fits_a_request (read_reply asked f) (reply_kind (Read reference offset count mask character)) EOFErr (record { fits = tt; told = (read_bytes (bytes_of f) asked, refl) })
end-shown (ReadExt reference offset count) asked f is = what_fits_a_request (read_reply asked f) (reply_kind (ReadExt reference offset count)) EOFErr (record { fits = tt; told = (read_bytes (bytes_of f) asked, refl) })
end-shown call asked f is = absurd (cc)

denial-fits : (w : World) (flag : ℕ) (volume : VolumeId) (dir : NodeId) (bits mode : ℕ) (path : PathValue) (asked : OpenAsked) (v : VolumeState) (file : File) → asked.bits ≡ bits → IsServed v asked.volume → IsFileFound v file → is_outside file_mask bits ≡ false
    → FitsRequest (reply_kind (calls.OpenFork flag volume dir bits mode path)) DenyConflict (opened_reply w asked 0 file)
unfolding shape_of shape_in rows opened_reply
denial-fits w flag volume dir bits mode path asked v file same served f inside = record {
  fits = (omega arith, record { within = within file_mask asked.bits (ap (is_outside file_mask) same ∙ inside); answer = file-answer v (opened_on w asked.volume) asked.bits f.id file f.row f.kind served.sound served.typed });
  told = (fork_values (opened_on w asked.volume) asked.bits file, ap (λ n. Opened n (fork_ref 0) (fork_values (opened_on w asked.volume) asked.bits file)) same);
}

pub denial-shown : DenialIsShown
denial-shown w user flag volume dir bits mode path resource access file h inside is = by (volume_at w.volumes volume.0) refl is
  where
    by : (q : Option VolumeState) → volume_at w.volumes volume.0 ≡ q → file_asked q user dir.0 path ≡ Some file
        → Shows (opened_reply w (record { volume = volume.0; bits = bits; resource = resource; access = access }) 0 file) (reply_kind (calls.OpenFork flag volume dir bits mode path)) DenyConflict (canonical_reply (opened_reply w (record { volume = volume.0; bits = bits; resource = resource; access = access }) 0 file))
    by None there k = absurd (cc)
    by (Some v) there k =
        what_fits_a_request (opened_reply w (record { volume = volume.0; bits = bits; resource = resource; access = access }) 0 file) (reply_kind (calls.OpenFork flag volume dir bits mode path)) DenyConflict
        (denial-fits w flag volume dir bits mode path (record { volume = volume.0; bits = bits; resource = resource; access = access }) v file refl (served-at w volume.0 v h there) (found-file v user dir.0 path file k) inside)

-- bytes behind the last one

same-leb : (a b c : ℕ) → (a ≤ b → a ≤ c) → (a ≤ c → a ≤ b) → nat_le a b ≡ nat_le a c
same-leb a b c to from = by (nat_le a b) (nat_le a c) refl refl
  where
    by : (p q : Bool) → nat_le a b ≡ p → nat_le a c ≡ q → p ≡ q
    by true true h k = refl
    by false false h k = refl
    by true false h k = absurd (both_ways (nat_le a c) k (le-leb a c (to (leb-true a b h))))
    by false true h k = absurd (both_ways (nat_le a b) h (le-leb a b (from (leb-true a c k))))

pub any-same : {A : Type 0} (q p r : A → Bool) (xs : List A) → list_all q xs ≡ true → ((x : A) → q x ≡ true → p x ≡ r x) → list_any p xs ≡ list_any r xs
any-same q p r [] all same = refl
any-same q p r (x ∷ xs) all same =
    let e = and_parts (q x) (list_all q xs) all in
    λ i. same x e.0 i || any-same q p r xs e.1 same i

pub meets-up-to-top : MeetsUpToLastByte
unfolding is_met_by_other
meets-up-to-top w o from to all =
    any-same (λ (lock : Lock). is_lock_range lock.range) (λ lock. meets_lock w o (record { from = from; to = to }) lock && not (lock.reference == o.reference)) (λ lock. meets_lock w o (record { from = from; to = min to last_byte }) lock && not (lock.reference == o.reference)) w.locks all
    (λ lock good.
    let e = and_parts (nat_le lock.range.from lock.range.to) (nat_le lock.range.to last_byte) good in
    let order = leb-true lock.range.from lock.range.to e.0 in
    let top = leb-true lock.range.to last_byte e.1 in
    ap (λ b. (share_fork w.opens lock.reference o.reference && (b && nat_le from lock.range.to)) && not (lock.reference == o.reference))
    (same-leb lock.range.from to (min to last_byte) (λ low. omega (arith, low, order, top)) (λ low. omega (arith, low))))

pub meets-none-behind : MeetsNoneBehind
unfolding is_met_by_other
meets-none-behind w o r all behind =
    any-same (λ (lock : Lock). is_lock_range lock.range) (λ lock. meets_lock w o r lock && not (lock.reference == o.reference)) (λ lock. false) w.locks all
    (λ lock good.
    let e = and_parts (nat_le lock.range.from lock.range.to) (nat_le lock.range.to last_byte) good in
    let top = leb-true lock.range.to last_byte e.1 in
    let none : nat_le r.from lock.range.to ≡ false = false_from_ne_true (nat_le r.from lock.range.to) (λ low. let is = leb-true r.from lock.range.to low in absurd (omega (arith, is, top, behind))) in
    by (share_fork w.opens lock.reference o.reference) (nat_le lock.range.from r.to) (nat_le r.from lock.range.to) (not (lock.reference == o.reference)) none)
    ∙ nothing w.locks
  where
    by : (a b c d : Bool) → c ≡ false → ((a && (b && c)) && d) ≡ false
    by true true c d none = ap (λ x. x && d) none
    by true false c d none = refl
    by false b c d none = refl

    nothing : (xs : List Lock) → list_any (λ (lock : Lock). false) xs ≡ false
    nothing [] = refl
    nothing (x ∷ xs) = nothing xs

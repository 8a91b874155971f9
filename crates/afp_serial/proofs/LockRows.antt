-- What the calls on the locks of open forks owe: FPByteRangeLock and FPByteRangeLockExt.
use Rattle.std.proofs.Common.{◌==◌, ◌≡◌, ◌∙◌, ap, sym, refl, ℕ, zero, suc, ℤ, pos, negsuc, ◌+◌, ◌≤◌, arith, Bool, true, false, not, ◌&&◌, cond, List, length, Option, Some, None}
use Rattle.std.specs.Prelude.{count_by, filter, nat_abs, nat_le}
use Rattle.std.specs.List.{list_all, list_any}
use Rattle.std.proofs.lemmas.Bool.{and_parts, and_from, cond_both, eqb-true, eq-eqb, leb-true, leb-false, le-leb}
use Rattle.afp_base.specs.Limits.{most_locks, payload_limit, most_fork_bytes}
use Rattle.afp_base.proofs.DefinitionLaws.{one_fork}
use Rattle.afp_base.specs.Choice.{first_holding}
use Rattle.afp_base.specs.DenyMode.{Fork, is_one_fork}
use Rattle.afp_base.specs.Overlap.{Range, do_meet}
use Rattle.afp_base.specs.declared.ids.ForkRef.{ForkRef}
use Rattle.afp_replies.specs.Commands.{rows, shape_in, shape_of}
use Rattle.afp_replies.specs.Replies.{canonical_reply}
use Rattle.afp_replies.specs.declared.reply.Reply.{Reply}
use Rattle.afp_replies.specs.declared.reply.Reply.TheVariants.{Start, StartExt}
use Rattle.afp_calls_grammar.specs.grammar.Words.{i32, i64}
use Rattle.afp_calls_grammar.specs.declared.grammar.call.Call.{Call}
use Rattle.afp_calls_grammar.specs.declared.grammar.call.Call.TheVariants.{ByteRangeLock, ByteRangeLockExt}
use Rattle.afp_serial.proofs.Closed.{within}
use Rattle.afp_serial.proofs.LawfulCalls.{field-lawful}
use Rattle.afp_serial.proofs.OnForkRows.{IsHeld, fork-row-sound, is_own, none-refused, sound-file}
use Rattle.afp_serial.proofs.OnVolumeRows.{Asks, IsToldTo}
use Rattle.afp_serial.proofs.PlacedLists.{all-placed, any-pair, apart-placed, count-placed, find-any, one_if}
use Rattle.afp_serial.proofs.SoundParts.{KeptLimits, LawfulLocks, do_overlap, keeps_locks, limits-parts, limits-whole, locks-parts, locks-whole}
use Rattle.afp_serial.proofs.SoundRow.{IsSoundRow, is_refused, no_more-refuses}
use Rattle.afp_serial.proofs.WriteRows.{start-small}
use Rattle.afp_serial.specs.World.{Refusal, is_open, World, Session, OpenFork, Lock}
use Rattle.afp_serial.specs.ForkBytes.{start_in}
use Rattle.afp_serial.specs.LawfulCall.{is_lawful_call, is_signed}
use Rattle.afp_serial.specs.Lock.{LockAsked, byte_range_lock_ext_row, byte_range_lock_row, has_most_locks, is_lock, is_met_by_own, lock_asked, locked, locking_refusals, locks, locks_range, range_asked, range_of, range_refusals, range_to, unlocked}
use Rattle.afp_serial.specs.OnFork.{OpenFile, bytes_of, is_met_by_other, meets_lock, placed}
use Rattle.afp_serial.specs.Sound.{IsSound, has_apart_sessions, has_lawful_caches, has_lawful_opens, has_typed_fields, share_fork, has_known_users}
use Rattle.volume_spec.proofs.ForkEffects.{fork-few}
use Rattle.afp_base.proofs.Facts.{contra}
use Rattle.afp_base.proofs.ListFacts.{all-both, all-filter, all-weaker, any-weaker, apart-filter, count-filter, none-all}

-- which of two comes first makes no difference

pub fork-sym : (a b : Fork) → is_one_fork a b ≡ true → is_one_fork b a ≡ true
fork-sym a b h = (one_fork b a).1 (sym ((one_fork a b).0 h))

meet-sym : (a b : Range) → do_meet a b ≡ true → do_meet b a ≡ true
meet-sym a b h = let e = and_parts (nat_le a.from b.to) (nat_le b.from a.to) h in and_from (nat_le b.from a.to) (nat_le a.from b.to) e.1 e.0

share-sym : (opens : List OpenFork) (a b : ℕ) → share_fork opens a b ≡ true → share_fork opens b a ≡ true
share-sym opens a b h =
    any-weaker
    (λ y. (y.reference == b) && list_any (λ x. (x.reference == a) && is_one_fork x.fork y.fork) opens)
    (λ y. (y.reference == b) && list_any (λ x. (x.reference == a) && is_one_fork y.fork x.fork) opens)
    opens
    (λ y both.
    let e = and_parts (y.reference == b) (list_any (λ x. (x.reference == a) && is_one_fork x.fork y.fork) opens) both in
    and_from (y.reference == b) (list_any (λ x. (x.reference == a) && is_one_fork y.fork x.fork) opens) e.0
    (any-weaker (λ x. (x.reference == a) && is_one_fork x.fork y.fork) (λ x. (x.reference == a) && is_one_fork y.fork x.fork) opens
    (λ x one. let f = and_parts (x.reference == a) (is_one_fork x.fork y.fork) one in and_from (x.reference == a) (is_one_fork y.fork x.fork) f.0 (fork-sym x.fork y.fork f.1)) e.1))
    (any-pair (λ (x : OpenFork). x.reference == a) (λ (y : OpenFork). y.reference == b) (λ x y. is_one_fork x.fork y.fork) opens opens h)

-- a lock that meets none

abbrev new_lock : OpenFork → Range → Lock
new_lock o range = record { reference = o.reference; range = range }

-- no lock, its own or another's, meets the range
none-met : (w : World) (o : OpenFork) (range : Range) → is_met_by_other w o range ≡ false → is_met_by_own w o range ≡ false → list_all (λ lock. not (meets_lock w o range lock)) w.locks ≡ true
unfolding is_met_by_other is_met_by_own
none-met w o range other own =
    all-both (λ lock. not (meets_lock w o range lock && not (lock.reference == o.reference))) (λ lock. not (meets_lock w o range lock && (lock.reference == o.reference))) (λ lock. not (meets_lock w o range lock)) w.locks
    (λ lock p q. by (meets_lock w o range lock) (lock.reference == o.reference) p q)
    (none-all (λ lock. meets_lock w o range lock && not (lock.reference == o.reference)) w.locks (ap not other))
    (none-all (λ lock. meets_lock w o range lock && (lock.reference == o.reference)) w.locks (ap not own))
  where
    by : (m n : Bool) → not (m && not n) ≡ true → not (m && n) ≡ true → not m ≡ true
    by false n p q = refl
    by true true p q = cc
    by true false p q = cc

locked-locks : (w : World) (o : OpenFork) (range : Range) → is_open w.opens o.reference ≡ true → list_all (λ lock. not (meets_lock w o range lock)) w.locks ≡ true → LawfulLocks w → LawfulLocks (locked w o range)
locked-locks w o range there free p = record {
  held = all-placed (λ (lock : Lock). lock.reference) (new_lock o range) (λ lock. is_open w.opens lock.reference) w.locks there p.held;
  overlaps = apart-placed (λ (lock : Lock). lock.reference) (new_lock o range) (do_overlap w.opens) w.locks
      (all-weaker (λ lock. not (meets_lock w o range lock)) (λ lock. not (do_overlap w.opens (new_lock o range) lock)) w.locks
      (λ lock h. contra (meets_lock w o range lock) (do_overlap w.opens (new_lock o range) lock) (λ both. turned lock both) h) free)
      free p.overlaps;
}
  where
    turned : (lock : Lock) → do_overlap w.opens (new_lock o range) lock ≡ true → meets_lock w o range lock ≡ true
    turned lock both =
        let e = and_parts (share_fork w.opens o.reference lock.reference) (do_meet range lock.range) both in
        and_from (share_fork w.opens lock.reference o.reference) (do_meet lock.range range) (share-sym w.opens o.reference lock.reference e.0) (meet-sym range lock.range e.1)

locked-limits : (w : World) (o : OpenFork) (range : Range) → has_most_locks w o ≡ false → KeptLimits w → KeptLimits (locked w o range)
unfolding has_most_locks
locked-limits w o range room p = record {
  users = p.users;
  volumes = p.volumes;
  sessions = p.sessions;
  forks = p.forks;
  locks = all-weaker (keeps_locks w.locks) (keeps_locks (placed (λ (lock : Lock). lock.reference) (new_lock o range) w.locks)) w.opens (λ x h. by x (o.reference == x.reference) refl h) p.locks;
}
  where
    counted : (x : OpenFork) (n : ℕ) → one_if (o.reference == x.reference) + count_by (λ (lock : Lock). lock.reference == x.reference) w.locks ≡ n → n ≤ most_locks → keeps_locks (placed (λ (lock : Lock). lock.reference) (new_lock o range) w.locks) x ≡ true
    counted x n is few = ap (λ m. nat_le m most_locks) (count-placed (λ (lock : Lock). lock.reference) (new_lock o range) (λ (lock : Lock). lock.reference == x.reference) w.locks ∙ is) ∙ le-leb n most_locks few

    by : (x : OpenFork) (b : Bool) → (o.reference == x.reference) ≡ b → keeps_locks w.locks x ≡ true → keeps_locks (placed (λ (lock : Lock). lock.reference) (new_lock o range) w.locks) x ≡ true
    by x true same h =
        let count : count_by (λ (lock : Lock). lock.reference == x.reference) w.locks ≡ count_by (λ (lock : Lock). lock.reference == o.reference) w.locks = ap (λ r. count_by (λ (lock : Lock). lock.reference == r) w.locks) (sym (eqb-true o.reference x.reference same)) in
        let low = leb-false most_locks (count_by (λ (lock : Lock). lock.reference == o.reference) w.locks) room in
        counted x (1 + count_by (λ (lock : Lock). lock.reference == x.reference) w.locks) (ap (λ b. one_if b + count_by (λ (lock : Lock). lock.reference == x.reference) w.locks) same) (omega (arith, count, low))
    by x false other h =
        counted x (count_by (λ (lock : Lock). lock.reference == x.reference) w.locks) (let gone : one_if (o.reference == x.reference) ≡ 0 = ap one_if other in omega (arith, gone))
        (leb-true (count_by (λ (lock : Lock). lock.reference == x.reference) w.locks) most_locks h)

locked-sound : (w : World) (o : OpenFork) (range : Range) → is_open w.opens o.reference ≡ true → is_met_by_other w o range ≡ false → is_met_by_own w o range ≡ false → has_most_locks w o ≡ false → IsSound w → IsSound (locked w o range)
unfolding has_apart_sessions has_known_users has_lawful_opens has_lawful_caches has_typed_fields
locked-sound w o range there other own room h = record {
  house = h.house;
  typed = h.typed;
  volumes = h.volumes;
  sessions = h.sessions;
  users = h.users;
  opens = h.opens;
  locks = locks-whole (locked w o range) (locked-locks w o range there (none-met w o range other own) (locks-parts w h.locks));
  caches = h.caches;
  limits = limits-whole (locked w o range) (locked-limits w o range room (limits-parts w h.limits));
}

-- a lock less

unlocked-sound : (w : World) (o : OpenFork) (range : Range) → IsSound w → IsSound (unlocked w o range)
unfolding has_apart_sessions has_known_users has_lawful_opens has_lawful_caches has_typed_fields
unlocked-sound w o range h =
    let stays : Lock → Bool = λ lock. not (is_lock o.reference range lock) in
    let p = locks-parts w h.locks in
    let q = limits-parts w h.limits in
    record {
      house = h.house;
      typed = h.typed;
      volumes = h.volumes;
      sessions = h.sessions;
      users = h.users;
      opens = h.opens;
      locks = locks-whole (unlocked w o range) (record { held = all-filter (λ (lock : Lock). is_open w.opens lock.reference) stays w.locks p.held; overlaps = apart-filter (do_overlap w.opens) stays w.locks p.overlaps });
      caches = h.caches;
      limits = limits-whole (unlocked w o range) (record {
        users = q.users;
        volumes = q.volumes;
        sessions = q.sessions;
        forks = q.forks;
        locks = all-weaker (keeps_locks w.locks) (keeps_locks (filter stays w.locks)) w.opens
            (λ x. within (count_by (λ lock. lock.reference == x.reference) (filter stays w.locks)) (count_by (λ lock. lock.reference == x.reference) w.locks) most_locks (count-filter (λ (lock : Lock). lock.reference == x.reference) stays w.locks))
            q.locks;
      });
    }

-- the start of a range

range-start : (start length : ℤ) (range : Range) → range_of start length ≡ Some range → range.from ≤ nat_abs start
range-start (negsuc n) length range is = absurd (cc)
range-start (pos from) (pos zero) range is = absurd (cc)
range-start (pos from) (pos (suc more)) range is = to-start from (from + more) range is
  where
    to-start : (a b : ℕ) (r : Range) → range_to a b ≡ Some r → r.from ≤ a
    to-start a b r h =
        cond_both (nat_le a b && nat_le b 9223372036854775807) (Some (record { from = a; to = b })) None (λ o. o ≡ Some r → r.from ≤ a)
        (λ good k. let same : a ≡ r.from = cc in omega (arith, same)) (λ bad k. absurd (cc)) h
range-start (pos from) (negsuc zero) range is = to-start from 9223372036854775807 range is
  where
    to-start : (a b : ℕ) (r : Range) → range_to a b ≡ Some r → r.from ≤ a
    to-start a b r h =
        cond_both (nat_le a b && nat_le b 9223372036854775807) (Some (record { from = a; to = b })) None (λ o. o ≡ Some r → r.from ≤ a)
        (λ good k. let same : a ≡ r.from = cc in omega (arith, same)) (λ bad k. absurd (cc)) h
range-start (pos from) (negsuc (suc n)) range is = absurd (cc)

-- the rows

-- an open fork of the session is open
held-open : (w : World) (s : Session) (reference : ℕ) (f : OpenFile) → IsHeld w s reference f → is_open w.opens f.fork.reference ≡ true
held-open w s reference f held = find-any (is_own s reference) (λ o. o.reference == f.fork.reference) w.opens f.fork held.found (eq-eqb f.fork.reference f.fork.reference refl)

locks-sound : (w : World) (unlocks : Bool) (o : OpenFork) (reply : ℕ → Reply) (q : Option Range) → is_open w.opens o.reference ≡ true → first_holding (range_refusals unlocks w o q) ≡ None → IsSound w → IsSound (locks_range unlocks w o reply q).world
locks-sound w unlocks o reply None there passes h = h
locks-sound w true o reply (Some range) there passes h = unlocked-sound w o range h
locks-sound w false o reply (Some range) there passes h =
    let none = none-refused (locking_refusals w o range) passes in
    locked-sound w o range there none.0 none.1.0 none.1.1.0 h

lock-refused : (w : World) (unlocks : Bool) (o : OpenFork) (q : Option Range) → list_all (λ (r : Refusal). is_refused r.1) (range_refusals unlocks w o q) ≡ true
lock-refused w unlocks o None = refl
lock-refused w true o (Some range) = refl
lock-refused w false o (Some range) = refl

lock-sessions : (w : World) (unlocks : Bool) (o : OpenFork) (reply : ℕ → Reply) (q : Option Range) → (locks_range unlocks w o reply q).world.sessions ≡ w.sessions
lock-sessions w unlocks o reply None = refl
lock-sessions w true o reply (Some range) = refl
lock-sessions w false o reply (Some range) = refl

lock-next : (w : World) (unlocks : Bool) (o : OpenFork) (reply : ℕ → Reply) (q : Option Range) → (locks_range unlocks w o reply q).world.next_link ≡ w.next_link
lock-next w unlocks o reply None = refl
lock-next w true o reply (Some range) = refl
lock-next w false o reply (Some range) = refl

-- where a lock starts
asked-small : (w : World) (s : Session) (reference : ℕ) (f : OpenFile) (asked : LockAsked) (bound : ℕ) (range : Range) → IsHeld w s reference f → IsSound w → is_signed bound asked.offset ≡ true → range_asked f asked ≡ Some range → range.from ≤ most_fork_bytes + bound
unfolding range_asked
asked-small w s reference f asked bound range held h signed is = by asked.unlocks is
  where
    few : length (bytes_of f) ≤ most_fork_bytes
    few = fork-few f.volume f.fork.fork.node f.fork.fork.resource f.file held.row (sound-file w s reference f h held).served.sound

    by : (unlocks : Bool) → range_of (cond unlocks asked.offset (start_in (bytes_of f) asked.from_end asked.offset)) asked.length ≡ Some range → range.from ≤ most_fork_bytes + bound
    by true k =
        let low = range-start asked.offset asked.length range k in
        let start = start-small (bytes_of f) false asked.offset bound few signed in
        omega (arith, low, start)
    by false k =
        let low = range-start (start_in (bytes_of f) asked.from_end asked.offset) asked.length range k in
        let start = start-small (bytes_of f) asked.from_end asked.offset bound few signed in
        omega (arith, low, start)

lock-told : (call : Call) (w : World) (unlocks : Bool) (o : OpenFork) (reply : ℕ → Reply) (q : Option Range) → first_holding (range_refusals unlocks w o q) ≡ None → ((range : Range) → q ≡ Some range → IsToldTo call (reply range.from)) → IsToldTo call (locks_range unlocks w o reply q).reply
lock-told call w unlocks o reply None passes tells = absurd (cc)
lock-told call w unlocks o reply (Some range) passes tells = tells range refl

all-locks-sound : (call : Call) (reference : ℕ) (asked : LockAsked) (bound : ℕ) (reply : ℕ → Reply) → (is_lawful_call call ≡ true → is_signed bound asked.offset ≡ true) → ((n : ℕ) → n ≤ most_fork_bytes + bound → IsToldTo call (reply n)) → IsSoundRow call (locks reference asked reply)
all-locks-sound call reference asked bound reply ranges tells = fork-row-sound call reference _ _ _ (record {
  refused = λ w f r is. no_more-refuses call (range_refusals asked.unlocks w f.fork (range_asked f asked)) r is (lock-refused w asked.unlocks f.fork (range_asked f asked));
  sound = λ w s f lawful held passes h. locks-sound w asked.unlocks f.fork reply (range_asked f asked) (held-open w s reference f held) passes h;
  told = λ w s f lawful held passes h. lock-told call w asked.unlocks f.fork reply (range_asked f asked) passes (λ range is. tells range.from (asked-small w s reference f asked bound range held h (ranges lawful) is));
  sessions = λ w f. lock-sessions w asked.unlocks f.fork reply (range_asked f asked);
  next = λ w f. lock-next w asked.unlocks f.fork reply (range_asked f asked);
  keeper = λ w f index names. absurd (cc);
})

byte-range-lock-asks : (flags : ℕ) (reference : ForkRef) (offset length : ℤ) (start : ℕ) → Asks (ByteRangeLock flags reference offset length) (Start start)
unfolding shape_of shape_in rows
byte-range-lock-asks flags reference offset length start = refl

start-told : (call : Call) (n : ℕ) → Asks call (Start n) → n ≤ most_fork_bytes + 2147483648 → IsToldTo call (Start n)
start-told call n asks small = record {
  short = let h : length (canonical_reply (Start n)) ≡ 4 = refl in le-leb (length (canonical_reply (Start n))) payload_limit (omega (arith, h));
  fits = record { fits = omega (arith, small); told = asks };
}

pub byte-range-lock-sound : (flags : ℕ) (reference : ForkRef) (offset length : ℤ) → IsSoundRow (ByteRangeLock flags reference offset length) (byte_range_lock_row flags reference.0 offset length)
byte-range-lock-sound flags reference offset length =
    all-locks-sound (ByteRangeLock flags reference offset length) reference.0 (lock_asked flags offset length) 2147483648 (λ start. Start start)
    (λ lawful. field-lawful (ByteRangeLock flags reference offset length) 3 (i32 offset) lawful refl)
    (λ n small. start-told (ByteRangeLock flags reference offset length) n (byte-range-lock-asks flags reference offset length n) small)

byte-range-lock-ext-asks : (flags : ℕ) (reference : ForkRef) (offset length : ℤ) (start : ℕ) → Asks (ByteRangeLockExt flags reference offset length) (StartExt start)
unfolding shape_of shape_in rows
byte-range-lock-ext-asks flags reference offset length start = refl

start-ext-told : (call : Call) (n : ℕ) → Asks call (StartExt n) → n ≤ most_fork_bytes + 9223372036854775808 → IsToldTo call (StartExt n)
start-ext-told call n asks small = record {
  short = let h : length (canonical_reply (StartExt n)) ≡ 8 = refl in le-leb (length (canonical_reply (StartExt n))) payload_limit (omega (arith, h));
  fits = record { fits = omega (arith, small); told = asks };
}

pub byte-range-lock-ext-sound : (flags : ℕ) (reference : ForkRef) (offset length : ℤ) → IsSoundRow (ByteRangeLockExt flags reference offset length) (byte_range_lock_ext_row flags reference.0 offset length)
byte-range-lock-ext-sound flags reference offset length =
    all-locks-sound (ByteRangeLockExt flags reference offset length) reference.0 (lock_asked flags offset length) 9223372036854775808 (λ start. StartExt start)
    (λ lawful. field-lawful (ByteRangeLockExt flags reference offset length) 3 (i64 offset) lawful refl)
    (λ n small. start-ext-told (ByteRangeLockExt flags reference offset length) n (byte-range-lock-ext-asks flags reference offset length n) small)

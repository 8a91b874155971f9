-- What the calls on open forks owe that give a fork other bytes: FPWrite, FPWriteExt and FPSetForkParms.
use Rattle.std.proofs.Common.{◌≡◌, ◌∙◌, ap, refl, ℕ, zero, suc, ℤ, pos, negsuc, ◌+ℤ◌, ◌+◌, ◌-◌, ◌≤◌, arith, Bool, true, false, List, [], ◌∷◌, ◌++◌, length, take, drop, replicate, Some, None}
use Rattle.std.specs.Prelude.{nat_abs}
use Rattle.std.specs.List.{list_all}
use Rattle.std.proofs.lemmas.Bool.{and_parts, le-leb, ltb-true}
use Rattle.std.proofs.lemmas.Int.{ints}
use Rattle.std.proofs.lemmas.List.{length-append}
use Rattle.afp_base.specs.Limits.{payload_limit, most_fork_bytes}
use Rattle.afp_base.proofs.DefinitionLaws.{length-resized}
use Rattle.afp_base.specs.Choice.{first_holding}
use Rattle.afp_base.specs.ForkBytes.{resized, splice}
use Rattle.afp_base.specs.declared.ids.ForkRef.{ForkRef}
use Rattle.afp_replies.specs.Commands.{rows, shape_in, shape_of}
use Rattle.afp_replies.specs.Replies.{canonical_reply}
use Rattle.afp_replies.specs.declared.reply.Reply.{Reply}
use Rattle.afp_replies.specs.declared.reply.Reply.TheVariants.{Empty, End, EndExt}
use Rattle.afp_calls_grammar.specs.grammar.Call.{layout_of}
use Rattle.afp_calls_grammar.specs.grammar.Words.{i32, i64}
use Rattle.afp_calls_grammar.specs.declared.grammar.call.Call.{Call}
use Rattle.afp_calls_grammar.specs.declared.grammar.call.Call.TheVariants.{SetForkParms, Write, WriteExt}
use Rattle.afp_serial.proofs.LawfulCalls.{field-lawful}
use Rattle.afp_serial.proofs.OnForkRows.{IsHeld, IsHeldFile, fork-row-sound, none-refused, sound-file}
use Rattle.afp_serial.proofs.OnVolumeRows.{Asks, IsToldTo}
use Rattle.afp_serial.proofs.SoundRow.{IsSoundRow, no_more-refuses}
use Rattle.afp_serial.proofs.ToldReplies.{empty-told}
use Rattle.afp_serial.proofs.VolumeStates.{moment-date, state-sound}
use Rattle.afp_serial.specs.Fork.{is_other_length, length_for, set_fork_parms_refusals, set_fork_parms_row}
use Rattle.afp_serial.specs.ForkBytes.{WriteAsked, is_from_end, start_in, write_end, write_ext_row, write_refusals, write_row, write_start, writes, writes_some, written_bytes}
use Rattle.afp_serial.specs.LawfulCall.{is_lawful_call, is_lawful_field, is_lawful_piece, is_signed}
use Rattle.afp_serial.specs.OnFork.{OpenFile, bytes_of, keeper_if, own_keeper, with_bytes}
use Rattle.afp_serial.specs.Sound.{IsSound}
use Rattle.afp_serial.specs.World.{World, Session}
use Rattle.volume_spec.proofs.ForkEffects.{files-stay, fork-bytes-typed, fork-few, fork-sound, fork-typed, new-few}
use Rattle.volume_spec.proofs.TypedEdits.{drop-bytes, take-bytes}
use Rattle.volume_spec.specs.ForkEffect.{fork_effect, would_pass}
use Rattle.volume_spec.specs.TypedVolume.{are_bytes}
use Rattle.volume_spec.specs.VolumeState.{VolumeState}
use Rattle.volume_spec.specs.Walk.{row_at}
use Rattle.volume_spec.proofs.NameBytes.{bytes-append}

-- the world with other bytes

-- the file by its own id
own-row : (w : World) (s : Session) (reference : ℕ) (f : OpenFile) → IsHeld w s reference f → IsHeldFile w reference f → row_at f.volume.rows f.file.id ≡ Some f.file
own-row w s reference f held its = ap (row_at f.volume.rows) its.node ∙ held.row

effect-named : (now id : ℕ) (resource : Bool) (bytes : List ℕ) (v : VolumeState) → (fork_effect now id resource bytes true v).name ≡ v.name
unfolding fork_effect
effect-named now id resource bytes v = refl

pub bytes-sound : (w : World) (s : Session) (reference : ℕ) (f : OpenFile) (writes : Bool) (bytes : List ℕ) → IsHeld w s reference f → IsSound w → are_bytes bytes ≡ true → would_pass f.volume (length (bytes_of f)) (length bytes) ≡ false → IsSound (with_bytes w f writes bytes)
bytes-sound w s reference f false bytes held h small room = h
bytes-sound w s reference f true bytes held h small room =
    let its = sound-file w s reference f h held in
    let resource : Bool = f.fork.fork.resource in
    state-sound w f.fork.fork.volume f.volume (fork_effect w.latest f.file.id resource bytes true f.volume) h (record {
      there = held.there;
      named = effect-named w.latest f.file.id resource bytes f.volume;
      files = λ id busy had. files-stay f.volume w.latest f.file.id id resource true bytes ∙ had;
      sound = fork-sound f.volume w.latest f.file.id resource true bytes f.file (own-row w s reference f held its) its.file room its.served.sound;
      typed = fork-typed f.volume w.latest f.file.id resource true bytes (moment-date w h) small its.served.typed;
    })

same-sessions : (w : World) (f : OpenFile) (writes : Bool) (bytes : List ℕ) → (with_bytes w f writes bytes).sessions ≡ w.sessions
same-sessions w f true bytes = refl
same-sessions w f false bytes = refl

same-next : (w : World) (f : OpenFile) (writes : Bool) (bytes : List ℕ) → (with_bytes w f writes bytes).next_link ≡ w.next_link
same-next w f true bytes = refl
same-next w f false bytes = refl

keeper-is : (f : OpenFile) (writes : Bool) (index : ℕ) → keeper_if writes f ≡ Some index → own_keeper f ≡ Some index
keeper-is f true index names = names
keeper-is f false index names = absurd (cc)

-- bytes

zero-bytes : (n : ℕ) → are_bytes (replicate n 0) ≡ true
zero-bytes zero = refl
zero-bytes (suc n) = zero-bytes n

resized-bytes : (old : List ℕ) (n : ℕ) → are_bytes old ≡ true → are_bytes (resized old n) ≡ true
resized-bytes old n h = bytes-append (take n old) (replicate (n - length old) 0) (take-bytes n old h) (zero-bytes (n - length old))

spliced-bytes : (old : List ℕ) (at : ℕ) (piece : List ℕ) → are_bytes old ≡ true → are_bytes piece ≡ true → are_bytes (splice old at piece) ≡ true
spliced-bytes old at [] h new = h
spliced-bytes old at (b ∷ bs) h new =
    bytes-append (resized old at ++ (b ∷ bs)) (drop (at + length (b ∷ bs)) old) (bytes-append (resized old at) (b ∷ bs) (resized-bytes old at h) new) (drop-bytes (at + length (b ∷ bs)) old h)

old-bytes : (w : World) (s : Session) (reference : ℕ) (f : OpenFile) → IsHeld w s reference f → IsSound w → are_bytes (bytes_of f) ≡ true
old-bytes w s reference f held h =
    fork-bytes-typed f.volume f.fork.fork.node f.fork.fork.resource f.file held.row (sound-file w s reference f h held).served.typed

-- what comes with a lawful call is bytes
lawful-piece : (call : Call) → is_lawful_call call ≡ true → is_lawful_piece (layout_of call).enclosed ≡ true
unfolding is_lawful_call
lawful-piece call h = (and_parts (list_all is_lawful_field (layout_of call).fields) (is_lawful_piece (layout_of call).enclosed) h).1

-- where a write ends

sum-small : (n : ℕ) (z y : ℤ) → pos n +ℤ z ≡ y → nat_abs y ≤ n + nat_abs z
sum-small n (pos m) (pos k) is = omega (arith, ints, is)
sum-small n (pos m) (negsuc k) is = omega (arith, ints, is)
sum-small n (negsuc m) (pos k) is = omega (arith, ints, is)
sum-small n (negsuc m) (negsuc k) is = omega (arith, ints, is)

signed-small : (bound : ℕ) (z : ℤ) → is_signed bound z ≡ true → nat_abs z ≤ bound
signed-small bound (pos n) h = let low = ltb-true n bound h in omega (arith, low)
signed-small bound (negsuc n) h = let low = ltb-true n bound h in omega (arith, low)

pub start-small : (bytes : List ℕ) (from_end : Bool) (offset : ℤ) (bound : ℕ) → length bytes ≤ most_fork_bytes → is_signed bound offset ≡ true → nat_abs (start_in bytes from_end offset) ≤ most_fork_bytes + bound
start-small bytes true offset bound few h =
    let low = signed-small bound offset h in
    let sum = sum-small (length bytes) offset (pos (length bytes) +ℤ offset) refl in
    omega (arith, few, low, sum)
start-small bytes false offset bound few h = let low = signed-small bound offset h in omega (arith, low)

splice-reaches : (old : List ℕ) (at : ℕ) (b : ℕ) (bs : List ℕ) → at + length (b ∷ bs) ≤ length (splice old at (b ∷ bs))
splice-reaches old at b bs =
    let front : length (resized old at ++ (b ∷ bs)) ≡ length (resized old at) + length (b ∷ bs) = length-append (resized old at) (b ∷ bs) in
    let all : length (splice old at (b ∷ bs)) ≡ length (resized old at ++ (b ∷ bs)) + length (drop (at + length (b ∷ bs)) old) = length-append (resized old at ++ (b ∷ bs)) (drop (at + length (b ∷ bs)) old) in
    let gap : length (resized old at) ≡ at = length-resized old at in
    omega (arith, front, all, gap)

end-small : (w : World) (s : Session) (reference : ℕ) (f : OpenFile) (asked : WriteAsked) (bound : ℕ) → IsHeld w s reference f → IsSound w → is_signed bound asked.offset ≡ true
    → would_pass f.volume (length (bytes_of f)) (length (written_bytes f asked)) ≡ false → write_end f asked ≤ most_fork_bytes + bound
end-small w s reference f asked bound held h signed room = by asked.piece refl
  where
    few : length (bytes_of f) ≤ most_fork_bytes
    few = fork-few f.volume f.fork.fork.node f.fork.fork.resource f.file held.row (sound-file w s reference f h held).served.sound

    new : length (written_bytes f asked) ≤ most_fork_bytes
    new = new-few f.volume f.fork.fork.node f.fork.fork.resource f.file (length (written_bytes f asked)) held.row room

    by : (piece : List ℕ) → asked.piece ≡ piece → write_end f asked ≤ most_fork_bytes + bound
    by [] is =
        let none : length asked.piece ≡ 0 = ap length is in
        let low = start-small (bytes_of f) asked.from_end asked.offset bound few signed in
        omega (arith, none, low)
    by (b ∷ bs) is =
        let same : length asked.piece ≡ length (b ∷ bs) = ap length is in
        let whole : length (written_bytes f asked) ≡ length (splice (bytes_of f) (nat_abs (write_start f asked)) (b ∷ bs)) = ap (λ piece. length (splice (bytes_of f) (nat_abs (write_start f asked)) piece)) is in
        let reach = splice-reaches (bytes_of f) (nat_abs (write_start f asked)) b bs in
        omega (arith, same, whole, reach, new)

-- FPWrite and FPWriteExt

writes-sound : (call : Call) (reference : ℕ) (asked : WriteAsked) (bound : ℕ) (reply : ℕ → Reply)
    → (is_lawful_call call ≡ true → (are_bytes asked.piece ≡ true) × (is_signed bound asked.offset ≡ true))
    → ((n : ℕ) → n ≤ most_fork_bytes + bound → IsToldTo call (reply n))
    → IsSoundRow call (writes reference asked reply)
writes-sound call reference asked bound reply ranges tells = fork-row-sound call reference _ _ _ (record {
  refused = λ w f r is. no_more-refuses call (write_refusals asked w f) r is refl;
  sound = λ w s f lawful held passes h.
      bytes-sound w s reference f (writes_some asked) (written_bytes f asked) held h (spliced-bytes (bytes_of f) (nat_abs (write_start f asked)) asked.piece (old-bytes w s reference f held h) (ranges lawful).0) (room w f passes);
  told = λ w s f lawful held passes h. tells (write_end f asked) (end-small w s reference f asked bound held h (ranges lawful).1 (room w f passes));
  sessions = λ w f. same-sessions w f (writes_some asked) (written_bytes f asked);
  next = λ w f. same-next w f (writes_some asked) (written_bytes f asked);
  keeper = λ w f index names. keeper-is f (writes_some asked) index names;
})
  where
    room : (w : World) (f : OpenFile) → first_holding (write_refusals asked w f) ≡ None → would_pass f.volume (length (bytes_of f)) (length (written_bytes f asked)) ≡ false
    room w f passes = (none-refused (write_refusals asked w f) passes).1.1.1.0

write-asks : (flag : ℕ) (reference : ForkRef) (offset : ℤ) (count : ℕ) (piece : List ℕ) (end : ℕ) → Asks (Write flag reference offset count piece) (End end)
unfolding shape_of shape_in rows
write-asks flag reference offset count piece end = refl

end-told : (call : Call) (n : ℕ) → Asks call (End n) → n ≤ most_fork_bytes + 2147483648 → IsToldTo call (End n)
end-told call n asks small = record {
  short = let h : length (canonical_reply (End n)) ≡ 4 = refl in le-leb (length (canonical_reply (End n))) payload_limit (omega (arith, h));
  fits = record { fits = omega (arith, small); told = asks };
}

pub write-sound : (flag : ℕ) (reference : ForkRef) (offset : ℤ) (count : ℕ) (piece : List ℕ) → IsSoundRow (Write flag reference offset count piece) (write_row flag reference.0 offset count piece)
write-sound flag reference offset count piece =
    writes-sound (Write flag reference offset count piece) reference.0 (record { from_end = is_from_end flag; offset = offset; count = pos count; piece = piece }) 2147483648 (λ end. End end)
    (λ lawful. (lawful-piece (Write flag reference offset count piece) lawful, field-lawful (Write flag reference offset count piece) 3 (i32 offset) lawful refl))
    (λ n small. end-told (Write flag reference offset count piece) n (write-asks flag reference offset count piece n) small)

write-ext-asks : (flag : ℕ) (reference : ForkRef) (offset count : ℤ) (piece : List ℕ) (end : ℕ) → Asks (WriteExt flag reference offset count piece) (EndExt end)
unfolding shape_of shape_in rows
write-ext-asks flag reference offset count piece end = refl

end-ext-told : (call : Call) (n : ℕ) → Asks call (EndExt n) → n ≤ most_fork_bytes + 9223372036854775808 → IsToldTo call (EndExt n)
end-ext-told call n asks small = record {
  short = let h : length (canonical_reply (EndExt n)) ≡ 8 = refl in le-leb (length (canonical_reply (EndExt n))) payload_limit (omega (arith, h));
  fits = record { fits = omega (arith, small); told = asks };
}

pub write-ext-sound : (flag : ℕ) (reference : ForkRef) (offset count : ℤ) (piece : List ℕ) → IsSoundRow (WriteExt flag reference offset count piece) (write_ext_row flag reference.0 offset count piece)
write-ext-sound flag reference offset count piece =
    writes-sound (WriteExt flag reference offset count piece) reference.0 (record { from_end = is_from_end flag; offset = offset; count = count; piece = piece }) 9223372036854775808 (λ end. EndExt end)
    (λ lawful. (lawful-piece (WriteExt flag reference offset count piece) lawful, field-lawful (WriteExt flag reference offset count piece) 3 (i64 offset) lawful refl))
    (λ n small. end-ext-told (WriteExt flag reference offset count piece) n (write-ext-asks flag reference offset count piece n) small)

-- FPSetForkParms

set-fork-parms-asks : (reference : ForkRef) (bits : ℕ) (rest : List ℕ) → Asks (SetForkParms reference bits rest) Empty
unfolding shape_of shape_in rows
set-fork-parms-asks reference bits rest = refl

pub set-fork-parms-sound : (reference : ForkRef) (bits : ℕ) (rest : List ℕ) → IsSoundRow (SetForkParms reference bits rest) (set_fork_parms_row reference.0 bits rest)
set-fork-parms-sound reference bits rest = fork-row-sound (SetForkParms reference bits rest) reference.0 _ _ _ (record {
  refused = λ w f r is. no_more-refuses (SetForkParms reference bits rest) (set_fork_parms_refusals bits rest w f) r is refl;
  sound = λ w s f lawful held passes h.
      let n : ℕ = length_for bits rest f in
      let room : would_pass f.volume (length (bytes_of f)) n ≡ false = (none-refused (set_fork_parms_refusals bits rest w f) passes).1.1.1.1.0 in
      bytes-sound w s reference.0 f (is_other_length bits rest f) (resized (bytes_of f) n) held h (resized-bytes (bytes_of f) n (old-bytes w s reference.0 f held h))
      (ap (would_pass f.volume (length (bytes_of f))) (length-resized (bytes_of f) n) ∙ room);
  told = λ w s f lawful held passes h. empty-told (SetForkParms reference bits rest) (set-fork-parms-asks reference bits rest);
  sessions = λ w f. same-sessions w f (is_other_length bits rest f) (resized (bytes_of f) (length_for bits rest f));
  next = λ w f. same-next w f (is_other_length bits rest f) (resized (bytes_of f) (length_for bits rest f));
  keeper = λ w f index names. keeper-is f (is_other_length bits rest f) index names;
})

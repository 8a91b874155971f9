-- What the calls on open forks owe that change no fork: FPCloseFork, FPFlushFork, FPGetForkParms, FPRead and FPReadExt.
use Rattle.std.proofs.Common.{◌==◌, ◌≡◌, sym, refl, subst, ℕ, ℤ, pos, ◌+◌, ◌≤◌, arith, inl, Bool, true, false, cond, List, [], ◌∷◌, length, drop, Option, Some, None}
use Rattle.std.specs.Prelude.{not, nat_abs}
use Rattle.std.proofs.lemmas.Bool.{le-leb}
use Rattle.std.proofs.lemmas.List.{append-nil, length-take}
use Rattle.afp_base.specs.Limits.{payload_limit}
use Rattle.afp_base.specs.Choice.{first_holding}
use Rattle.afp_base.specs.declared.code.Code.TheVariants.{AccessDenied, BitmapErr, EOFErr, LockErr, ParamErr}
use Rattle.afp_base.specs.declared.ids.ForkRef.{ForkRef}
use Rattle.afp_bitmap.specs.Bits.{file_mask, is_outside}
use Rattle.afp_bitmap.specs.Params.{params, IsAnswer}
use Rattle.afp_bitmap.specs.declared.file.FileValues.{FileValues}
use Rattle.afp_bitmap.specs.declared.params.Values.{Values}
use Rattle.afp_bitmap.specs.declared.params.Values.TheVariants.{Dir, File as FileParams}
use Rattle.afp_replies.specs.Bytes.{u16_bytes}
use Rattle.afp_replies.specs.Commands.{rows, shape_in, shape_of}
use Rattle.afp_replies.specs.Replies.{canonical_reply}
use Rattle.afp_replies.specs.Requested.{IsTold}
use Rattle.afp_replies.specs.declared.reply.Reply.TheVariants.{Empty, Params, Piece}
use Rattle.afp_calls_grammar.specs.declared.grammar.call.Call.{Call}
use Rattle.afp_calls_grammar.specs.declared.grammar.call.Call.TheVariants.{CloseFork, FlushFork, GetForkParms, Read, ReadExt}
use Rattle.afp_serial.proofs.Closed.{closing-sound}
use Rattle.afp_serial.proofs.ListShown.{within}
use Rattle.afp_serial.proofs.OnForkRows.{fork-row-sound, sound-file}
use Rattle.afp_serial.proofs.OnVolumeRows.{Asks, IsToldTo}
use Rattle.afp_serial.proofs.ParamsSize.{params-size, two-parts}
use Rattle.afp_serial.proofs.SoundRow.{IsRefusedTo, IsSoundRow, first-told, is_short, no_more-refuses, no_more-told}
use Rattle.afp_serial.proofs.ToldReplies.{empty-told}
use Rattle.afp_serial.specs.World.{plain}
use Rattle.afp_serial.specs.Fork.{close_fork_row, flush_fork_row, get_fork_parms_row}
use Rattle.afp_serial.specs.ForkBytes.{ReadAsked, ahead, most_read, read_bytes, read_ext_row, read_refusals, read_reply, read_row, reads, stop_in, up_to}
use Rattle.afp_serial.specs.OnFork.{OpenFile, bytes_of}
use Rattle.afp_serial.specs.OnVolume.{opened_on}
use Rattle.afp_serial.specs.ReplyKinds.{command_of, reply_kind}
use Rattle.volume_spec.proofs.ToldValues.{node-told}
use Rattle.volume_spec.specs.Shared.{Opened}
use Rattle.volume_spec.specs.NodeValues.{dir_values, file_values, node_values}
use Rattle.volume_spec.specs.OpenFork.{fork_values}
use Rattle.volume_spec.specs.SoundVolume.{IsSoundVolume}
use Rattle.volume_spec.specs.TypedVolume.{is_typed_volume}
use Rattle.volume_spec.specs.VolumeState.{Row as File, VolumeState, guest}
use Rattle.volume_spec.specs.Walk.{row_at}

-- FPCloseFork

close-fork-asks : (reference : ForkRef) → Asks (CloseFork reference) Empty
unfolding shape_of shape_in rows
close-fork-asks reference = refl

pub close-fork-sound : (reference : ForkRef) → IsSoundRow (CloseFork reference) (close_fork_row reference.0)
close-fork-sound reference = fork-row-sound (CloseFork reference) reference.0 _ _ _ (record {
  refused = λ w f r is. no_more-refuses (CloseFork reference) [] r is refl;
  sound = λ w s f lawful held passes h. closing-sound w (λ o. not (o.reference == reference.0)) h;
  told = λ w s f lawful held passes h. empty-told (CloseFork reference) (close-fork-asks reference);
  sessions = λ w f. refl;
  next = λ w f. refl;
  keeper = λ w f index names. absurd (cc);
})

-- FPFlushFork

flush-fork-asks : (reference : ForkRef) → Asks (FlushFork reference) Empty
unfolding shape_of shape_in rows
flush-fork-asks reference = refl

pub flush-fork-sound : (reference : ForkRef) → IsSoundRow (FlushFork reference) (flush_fork_row reference.0)
flush-fork-sound reference = fork-row-sound (FlushFork reference) reference.0 _ _ _ (record {
  refused = λ w f r is. no_more-refuses (FlushFork reference) [] r is refl;
  sound = λ w s f lawful held passes h. h;
  told = λ w s f lawful held passes h. empty-told (FlushFork reference) (flush-fork-asks reference);
  sessions = λ w f. refl;
  next = λ w f. refl;
  keeper = λ w f index names. names;
})

-- FPGetForkParms

pub file-answer : (v : VolumeState) (opens : List Opened) (bits id : ℕ) (file : File) → row_at v.rows id ≡ Some file → file.dir ≡ false → IsSoundVolume v → is_typed_volume v ≡ true → IsAnswer 1 bits (fork_values opens bits file)
unfolding node_values
file-answer v opens bits id file found is_file sound typed =
    subst (λ (dir : Bool). IsAnswer (cond dir 2 1) (cond dir bits bits) (cond dir (Dir (dir_values v.rows guest bits file)) (FileParams (file_values opens bits file)))) is_file
    (node-told v guest opens bits bits id file found sound typed)

pub file-params-told : (call : Call) (bits : ℕ) (file : FileValues) → Asks call (Params bits (FileParams file)) → IsAnswer 1 bits (FileParams file) → is_outside file_mask bits ≡ false → IsToldTo call (Params bits (FileParams file))
file-params-told call bits file asks answer inside =
    let values : Values = FileParams file in
    let size = params-size 1 bits values answer in
    let whole : length (canonical_reply (Params bits values)) ≡ 2 + length (params bits values) = two-parts (u16_bytes bits) (params bits values) in
    record {
      short = le-leb (length (canonical_reply (Params bits values))) payload_limit (omega (arith, size, whole));
      fits = record { fits = (omega arith, record { within = within file_mask bits inside; answer = answer }); told = asks };
    }

get-fork-parms-asks : (reference : ForkRef) (bits : ℕ) (values : FileValues) → Asks (GetForkParms reference bits) (Params bits (FileParams values))
unfolding shape_of shape_in rows
get-fork-parms-asks reference bits values = (refl, refl)

pub get-fork-parms-sound : (reference : ForkRef) (bits : ℕ) → IsSoundRow (GetForkParms reference bits) (get_fork_parms_row reference.0 bits)
get-fork-parms-sound reference bits = fork-row-sound (GetForkParms reference bits) reference.0 _ _ _ (record {
  refused = λ w f r is. no_more-refuses (GetForkParms reference bits) ((is_outside file_mask bits, plain BitmapErr) ∷ []) r is refl;
  sound = λ w s f lawful held passes h. h;
  told = λ w s f lawful held passes h.
      let its = sound-file w s reference.0 f h held in
      file-params-told (GetForkParms reference bits) bits (file_values (opened_on w f.fork.fork.volume) bits f.file)
      (get-fork-parms-asks reference bits (file_values (opened_on w f.fork.fork.volume) bits f.file))
      (file-answer f.volume (opened_on w f.fork.fork.volume) bits f.fork.fork.node f.file held.row its.file its.served.sound its.served.typed)
      (one-passes (is_outside file_mask bits) passes);
  sessions = λ w f. refl;
  next = λ w f. refl;
  keeper = λ w f index names. absurd (cc);
})
  where
    one-passes : (b : Bool) → first_holding ((b, plain BitmapErr) ∷ []) ≡ None → b ≡ false
    one-passes true h = absurd (cc)
    one-passes false h = refl

-- FPRead and FPReadExt

up-to-short : (place : Option ℕ) (bytes : List ℕ) (n : ℕ) → length bytes ≤ n → length (up_to place bytes) ≤ n
up-to-short None bytes n h = h
up-to-short (Some place) bytes n h = let is = length-take (place + 1) bytes in omega (arith, is, h)

pub read-short : (bytes : List ℕ) (asked : ReadAsked) → length (read_bytes bytes asked) ≤ payload_limit
unfolding read_bytes
read-short bytes asked =
    let few : length (ahead bytes asked) ≤ most_read asked = let is = length-take (most_read asked) (drop (nat_abs asked.offset) bytes) in omega (arith, is) in
    up-to-short (stop_in asked (ahead bytes asked)) (ahead bytes asked) payload_limit (omega (arith, few))

piece-short : (asked : ReadAsked) (f : OpenFile) → is_short (read_reply asked f) ≡ true
piece-short asked f =
    le-leb (length (canonical_reply (read_reply asked f))) payload_limit
    (subst (λ (l : List ℕ). length l ≤ payload_limit) (sym (append-nil (read_bytes (bytes_of f) asked))) (read-short (bytes_of f) asked))

-- at the end of the fork it is told what it read
abbrev Ends : Call → Type 0
Ends call = (piece : List ℕ) → IsTold (shape_of (command_of call)) EOFErr (reply_kind call) (Piece piece)

reads-sound : (call : Call) (reference : ℕ) (asked : ReadAsked) → ((piece : List ℕ) → Asks call (Piece piece)) → Ends call → IsSoundRow call (reads reference asked)
reads-sound call reference asked asks ends = fork-row-sound call reference _ _ _ (record {
  refused = λ w f r is.
      let at_end : IsRefusedTo call (record { code = EOFErr; reply = read_reply asked f }) = record { code = refl; kept = refl; short = piece-short asked f; fits = record { fits = tt; told = ends (read_bytes (bytes_of f) asked) } } in
      first-told call (read_refusals asked w f) r is (no_more-told call (plain ParamErr) refl, (no_more-told call (plain AccessDenied) refl, (no_more-told call (plain LockErr) refl, (at_end, tt))));
  sound = λ w s f lawful held passes h. h;
  told = λ w s f lawful held passes h. record { short = piece-short asked f; fits = record { fits = tt; told = asks (read_bytes (bytes_of f) asked) } };
  sessions = λ w f. refl;
  next = λ w f. refl;
  keeper = λ w f index names. absurd (cc);
})

read-asks : (reference : ForkRef) (offset : ℤ) (count mask character : ℕ) (piece : List ℕ) → Asks (Read reference offset count mask character) (Piece piece)
unfolding shape_of shape_in rows
read-asks reference offset count mask character piece = inl refl

read-ends : (reference : ForkRef) (offset : ℤ) (count mask character : ℕ) → Ends (Read reference offset count mask character)
unfolding shape_of shape_in rows
read-ends reference offset count mask character piece = (piece, refl)

pub read-sound : (reference : ForkRef) (offset : ℤ) (count mask character : ℕ) → IsSoundRow (Read reference offset count mask character) (read_row reference.0 offset count mask character)
read-sound reference offset count mask character =
    reads-sound (Read reference offset count mask character) reference.0 (record { offset = offset; count = pos count; mask = mask; character = character }) (read-asks reference offset count mask character) (read-ends reference offset count mask character)

read-ext-asks : (reference : ForkRef) (offset count : ℤ) (piece : List ℕ) → Asks (ReadExt reference offset count) (Piece piece)
unfolding shape_of shape_in rows
read-ext-asks reference offset count piece = inl refl

read-ext-ends : (reference : ForkRef) (offset count : ℤ) → Ends (ReadExt reference offset count)
unfolding shape_of shape_in rows
read-ext-ends reference offset count piece = (piece, refl)

pub read-ext-sound : (reference : ForkRef) (offset count : ℤ) → IsSoundRow (ReadExt reference offset count) (read_ext_row reference.0 offset count)
read-ext-sound reference offset count =
    reads-sound (ReadExt reference offset count) reference.0 (record { offset = offset; count = count; mask = 0; character = 0 }) (read-ext-asks reference offset count) (read-ext-ends reference offset count)

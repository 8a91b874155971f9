-- The rows of FPCloseFork, FPFlushFork, FPGetForkParms and FPSetForkParms.
use Rattle.std.proofs.Common.{◌≡◌, ◌==◌, ◌∙◌, ap, sym, refl, ℕ, Bool, true, false, not, List, [], ◌∷◌, ◌++◌, length, Option, Some, None}
use Rattle.std.specs.Prelude.{Result}
use Rattle.std.proofs.lemmas.List.{append_assoc, append-nil}
use Rattle.byteorder.specs.Endian.{big_bytes}
use Rattle.afp_base.specs.Choice.{first_holding}
use Rattle.afp_base.specs.DenyMode.{Fork}
use Rattle.afp_base.specs.ForkBytes.{HasLength, resized}
use Rattle.afp_base.specs.declared.bytes.OutOfMemory.{OutOfMemory}
use Rattle.afp_base.specs.declared.code.Code.{Code}
use Rattle.afp_base.specs.declared.code.Code.TheVariants.{AccessDenied, BitmapErr, DiskFull, LockErr, ParamErr}
use Rattle.afp_base.specs.declared.ids.ForkRef.{ForkRef}
use Rattle.afp_bitmap.specs.Bits.{file_mask, is_outside}
use Rattle.afp_bitmap.specs.Params.{params}
use Rattle.afp_bitmap.specs.declared.params.Values.{Values}
use Rattle.afp_replies.specs.Replies.{canonical_reply}
use Rattle.afp_replies.specs.declared.reply.Reply.TheVariants.{Empty, Opened, Params}
use Rattle.afp_calls_grammar.specs.declared.grammar.call.Call.TheVariants as call
use Rattle.afp_serial.specs.World.{Refusal, plain, with_empty_reply, closing, OpenFork}
use Rattle.afp_serial.specs.Fork.{get_fork_parms_reply, is_locked_between, is_other_length, length_for, set_fork_parms_refusals}
use Rattle.afp_serial.specs.OnFork.{bytes_of, keeper_if, keeps_all, own_keeper, with_bytes}
use Rattle.afp_serial.specs.OnVolume.{opened_on}
use Rattle.afp_serial.specs.Rows.{row}
use Rattle.afp_serial.specs.declared.ask.Outcome.{Outcome}
use Rattle.afp_serial.specs.declared.ask.Told.{Told}
use Rattle.volume_spec.specs.ForkEffect.{fork_of, would_pass}
use Rattle.volume_spec.specs.OpenFork.{fork_values}
use Rattle.volume_spec.specs.SetForkParms.{asks_length, has_no_length, length_in}
use Rattle.afp_core_state.specs.OnForks.{IsForkAt}
use Rattle.afp_core_state.specs.Planned.{RunsPlan}
use Rattle.afp_core_state.specs.KeptWorld.{KeptWorld}
use Rattle.afp_core_calls.specs.fork.lemma.SettingLength.{length_refusal}
use Rattle.afp_core_state.specs.Running.{RunsRow}
use Rattle.afp_core_state.specs.declared.on_fork.OwnFork.{OwnFork}
use Rattle.afp_core_calls.proofs.OfFork.OnForkLemmas.{RowOnFork, fork-plans}
use Rattle.volume_keeper.specs.kept.ForkChanging.{PlansBytes}
use Rattle.volume_edits.specs.edits.Planned.{PlanValue}
use Rattle.volume_tree.specs.declared.resolve.PlanFault.{PlanFault}

pub close_fork-row : (reference : ForkRef) → RowOnFork (call.CloseFork reference) reference.0 (λ w f. []) (λ w f. with_empty_reply (closing w (λ (o : OpenFork). not (o.reference == reference.0)))) keeps_all
unfolding row
close_fork-row reference = record { row_is = refl; goes_on = refl }

pub flush_fork-row : (reference : ForkRef) → RowOnFork (call.FlushFork reference) reference.0 (λ w f. []) (λ w f. with_empty_reply w) (λ w f. own_keeper f)
unfolding row
flush_fork-row reference = record { row_is = refl; goes_on = refl }

pub get_fork_parms-row : (reference : ForkRef) (bits : ℕ) → RowOnFork (call.GetForkParms reference bits) reference.0 (λ w f. (is_outside file_mask bits, plain BitmapErr) ∷ []) (λ w f. record { world = w; reply = get_fork_parms_reply bits w f }) keeps_all
unfolding row
get_fork_parms-row reference bits = record { row_is = refl; goes_on = refl }

pub set_fork_parms-row : (reference : ForkRef) (bits : ℕ) (tail : List ℕ)
    → RowOnFork (call.SetForkParms reference bits tail) reference.0 (set_fork_parms_refusals bits tail)
    (λ w f. with_empty_reply (with_bytes w f (is_other_length bits tail f) (resized (bytes_of f) (length_for bits tail f)))) (λ w f. keeper_if (is_other_length bits tail f) f)
unfolding row
set_fork_parms-row reference bits tail = record { row_is = refl; goes_on = refl }

-- FPGetForkParms on an open fork
pub parms-told : (k : KeptWorld) (number : ℕ) (reference : ForkRef) (own : OwnFork) (here : IsForkAt k number reference.0 own) (bits : ℕ) (block : List ℕ)
    → block ≡ canonical_reply (Params bits (fork_values (opened_on k.world own.fork.volume) bits here.file.file)) → block ≡ canonical_reply (get_fork_parms_reply bits k.world here.file)
parms-told k number reference own here bits block is =
    is ∙ ap (λ (f : Fork). canonical_reply (Params bits (fork_values (opened_on k.world f.volume) bits here.file.file))) (sym here.fork_is)

pub parms-refused : (bits : ℕ) (outside : Bool) → outside ≡ true → outside ≡ is_outside file_mask bits → first_holding ((is_outside file_mask bits, plain BitmapErr) ∷ []) ≡ Some (plain BitmapErr)
parms-refused bits outside is same = ap (λ b. first_holding ((b, plain BitmapErr) ∷ [])) (sym same ∙ is)

pub parms-passes : (bits : ℕ) (outside : Bool) → outside ≡ false → outside ≡ is_outside file_mask bits → first_holding ((is_outside file_mask bits, plain BitmapErr) ∷ []) ≡ None
parms-passes bits outside is same = ap (λ b. first_holding ((b, plain BitmapErr) ∷ [])) (sym same ∙ is)

-- the bytes that tell of a file
pub params-bytes : (bits : ℕ) (values : Values) (before one two : List ℕ) → before ≡ [] → one ≡ before ++ big_bytes 2 bits → two ≡ one ++ params bits values → two ≡ canonical_reply (Params bits values)
params-bytes bits values before one two none at_one at_two =
    at_two ∙ ap (λ l. l ++ params bits values) (at_one ∙ ap (λ l. l ++ big_bytes 2 bits) none) ∙ ap (λ l. big_bytes 2 bits ++ l) (sym (append-nil (params bits values)))

pub opened-bytes : (bits : ℕ) (reference : ForkRef) (values : Values) (before one two three : List ℕ) → before ≡ [] → one ≡ before ++ big_bytes 2 bits → two ≡ one ++ big_bytes 2 reference.0 → three ≡ two ++ params bits values
    → three ≡ canonical_reply (Opened bits reference values)
opened-bytes bits reference values before one two three none at_one at_two at_three =
    at_three ∙ ap (λ l. l ++ params bits values) (at_two ∙ ap (λ l. l ++ big_bytes 2 reference.0) (at_one ∙ ap (λ l. l ++ big_bytes 2 bits) none))
    ∙ append_assoc (big_bytes 2 bits) (big_bytes 2 reference.0) (params bits values)
    ∙ ap (λ l. big_bytes 2 bits ++ (big_bytes 2 reference.0 ++ l)) (sym (append-nil (params bits values)))

-- a code that is refused first
length-refused : (a b : Bool) (rest : List Refusal) (code : Code) → first_holding ((a, BitmapErr) ∷ (b, ParamErr) ∷ []) ≡ Some code → first_holding ((a, plain BitmapErr) ∷ (b, plain ParamErr) ∷ rest) ≡ Some (plain code)
length-refused true b rest code h = ap (λ (o : Option Code). Some (plain (or_else o))) h
  where
    or_else : Option Code → Code
    or_else None = BitmapErr
    or_else (Some c) = c
length-refused false true rest code h = ap (λ (o : Option Code). Some (plain (or_else o))) h
  where
    or_else : Option Code → Code
    or_else None = ParamErr
    or_else (Some c) = c
length-refused false false rest code h = absurd (cc h)

length-passes : (a b : Bool) (rest : List Refusal) → first_holding ((a, BitmapErr) ∷ (b, ParamErr) ∷ []) ≡ None → first_holding ((a, plain BitmapErr) ∷ (b, plain ParamErr) ∷ rest) ≡ first_holding rest
length-passes true b rest h = absurd (cc h)
length-passes false true rest h = absurd (cc h)
length-passes false false rest h = refl

-- FPSetForkParms on an open fork
module _ (k : KeptWorld) (number : ℕ) (reference : ForkRef) (own : OwnFork) (here : IsForkAt k number reference.0 own) (bits : ℕ) (tail : List ℕ) where
  resource-is : here.file.fork.fork.resource ≡ own.fork.resource
  resource-is = ap (λ (f : Fork). f.resource) here.fork_is

  abbrev pub bytes : List ℕ
  bytes = fork_of own.fork.resource here.file.file

  -- what is refused behind the length
  abbrev behind : ℕ → List Refusal
  behind len =
      (not own.mode.write, plain AccessDenied)
      ∷ (is_locked_between k.world here.file.fork (length bytes) len, plain LockErr)
      ∷ (would_pass here.file.volume (length bytes) len, plain DiskFull)
      ∷ []

  set-refuses : first_holding (set_fork_parms_refusals bits tail k.world here.file)
      ≡ first_holding ((not (asks_length own.fork.resource bits), plain BitmapErr) ∷ (has_no_length own.fork.resource bits tail, plain ParamErr) ∷ behind (length_in own.fork.resource bits tail))
  set-refuses = λ i. first_holding (
      (not (asks_length (resource-is i) bits), plain BitmapErr)
      ∷ (has_no_length (resource-is i) bits tail, plain ParamErr)
      ∷ (not (here.access_is i).write, plain AccessDenied)
      ∷ (is_locked_between k.world here.file.fork (length (fork_of (resource-is i) here.file.file)) (length_in (resource-is i) bits tail), plain LockErr)
      ∷ (would_pass here.file.volume (length (fork_of (resource-is i) here.file.file)) (length_in (resource-is i) bits tail), plain DiskFull)
      ∷ [])

  pub set-no_length : (code : Code) → length_refusal own.fork.resource bits tail ≡ Some code → first_holding (set_fork_parms_refusals bits tail k.world here.file) ≡ Some (plain code)
  set-no_length code h =
      set-refuses ∙ length-refused (not (asks_length own.fork.resource bits)) (has_no_length own.fork.resource bits tail) (behind (length_in own.fork.resource bits tail)) code h

  module _ (len : ℕ) (asked : length_refusal own.fork.resource bits tail ≡ None) (len_is : len ≡ length_in own.fork.resource bits tail) where
    set-behind : first_holding (set_fork_parms_refusals bits tail k.world here.file) ≡ first_holding (behind len)
    set-behind =
        set-refuses ∙ length-passes (not (asks_length own.fork.resource bits)) (has_no_length own.fork.resource bits tail) (behind (length_in own.fork.resource bits tail)) asked
        ∙ ap (λ n. first_holding (behind n)) (sym len_is)

    pub set-denied : own.mode.write ≡ false → first_holding (set_fork_parms_refusals bits tail k.world here.file) ≡ Some (plain AccessDenied)
    set-denied h = set-behind ∙ rw h refl

    module _ (writes : own.mode.write ≡ true) where
      pub set-locked : is_locked_between k.world here.file.fork (length bytes) len ≡ true → first_holding (set_fork_parms_refusals bits tail k.world here.file) ≡ Some (plain LockErr)
      set-locked h = set-behind ∙ rw (writes, h) refl

      set-passes : (b : Bool) → is_locked_between k.world here.file.fork (length bytes) len ≡ false → would_pass here.file.volume (length bytes) len ≡ b
          → first_holding (set_fork_parms_refusals bits tail k.world here.file) ≡ first_holding ((b, plain DiskFull) ∷ [])
      set-passes b unlocked h = set-behind ∙ rw (writes, unlocked, h) refl

      pub set-runs : HasLength → is_locked_between k.world here.file.fork (length bytes) len ≡ false → (new : KeptWorld) (answer : Result PlanValue PlanFault) (block : List ℕ) (result : Result (Told × Outcome) OutOfMemory)
          → PlansBytes here.file.volume k.world.latest own.fork.node own.fork.resource (not (len == length bytes)) bytes (resized bytes len) answer
          → block ≡ [] → RunsPlan k own.index answer block result new → RunsRow k number (call.SetForkParms reference bits tail) result new
      set-runs law unlocked new answer block result plans empty runs =
          let length_is : length_in here.file.fork.fork.resource bits tail ≡ len = ap (λ r. length_in r bits tail) resource-is ∙ sym len_is in
          let many : length (resized bytes len) ≡ len = law bytes len in
          fork-plans k number (call.SetForkParms reference bits tail) reference.0 _ _ _ (set_fork_parms-row reference bits tail) own here (not (len == length bytes)) bytes (resized bytes len) Empty
          (λ b h. set-passes b unlocked (ap (would_pass here.file.volume (length bytes)) (sym many) ∙ h))
          (λ i. with_empty_reply (with_bytes k.world here.file (not (length_is i == length (fork_of (resource-is i) here.file.file))) (resized (fork_of (resource-is i) here.file.file) (length_is i))))
          (λ i. keeper_if (not (length_is i == length (fork_of (resource-is i) here.file.file))) here.file)
          answer block result new plans (λ room. empty) runs

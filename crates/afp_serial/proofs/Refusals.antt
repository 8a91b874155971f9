-- What a refused call is told fits in a frame, and is not Ok.
use Rattle.std.proofs.Common.{◌≡◌, ap, refl, not, true, ◌&&◌, cond, List, [], ◌∷◌, ℕ, Bool, Option, Some, None}
use Rattle.std.specs.Prelude.{is_none}
use Rattle.std.proofs.lemmas.Bool.{and_from, cond_both}
use Rattle.afp_base.specs.Cached.{Request, Answer, cached_answer}
use Rattle.afp_base.specs.declared.code.Code.TheVariants.{CallNotSupported, UserNotAuth}
use Rattle.afp_calls_grammar.specs.grammar.Spelt.{is_command, spelt_call}
use Rattle.afp_calls_grammar.specs.declared.grammar.call.Call.{Call}
use Rattle.afp_serial.proofs.RowsSound.{row-sound}
use Rattle.afp_serial.proofs.SoundRow.{IsRefusedTo, is_ok, is_short}
use Rattle.afp_serial.specs.World.{Refused, plain, World, Session}
use Rattle.afp_serial.specs.Rows.{refusal}
use Rattle.afp_serial.specs.Sound.{IsSound}
use Rattle.afp_serial.specs.Answer.{Verdict, repeats, refused, runs, needs_user, verdict_of_row, verdict_of_spelling, verdict_of_block, verdict_of_kept, verdict}
use Rattle.afp_serial.specs.KeptAnswers.{block_of, enclosed_of}

abbrev pub refuses_shortly : Verdict → Bool
refuses_shortly (repeats answer) = true
refuses_shortly (refused r) = is_short r.reply && not (is_ok r.code)
refuses_shortly (runs call) = true

row-short : (call : Call) (q : Option Refused) → ((r : Refused) → q ≡ Some r → IsRefusedTo call r) → refuses_shortly (verdict_of_row call q) ≡ true
row-short call None told = refl
row-short call (Some r) told = let t = told r refl in and_from (is_short r.reply) (not (is_ok r.code)) t.short (ap not t.code)

spelling-short : (w : World) (s : Session) (spelt : Option Call) → IsSound w → refuses_shortly (verdict_of_spelling w s spelt) ≡ true
spelling-short w s None h = refl
spelling-short w s (Some call) h = row-short call (refusal w s call) (λ r is. (row-sound call).refuses w s r is h)

block-short : (w : World) (s : Session) (r : Request) (block : List ℕ) → IsSound w → refuses_shortly (verdict_of_block w s r block) ≡ true
block-short w s r [] h = refl
block-short w s r (command ∷ fields) h =
    cond_both (not (is_command command)) (refused (plain CallNotSupported)) behind (λ v. refuses_shortly v ≡ true) (λ unknown. refl)
    (λ known. cond_both (is_none s.user && needs_user command) (refused (plain UserNotAuth)) (verdict_of_spelling w s (spelt_call (block_of r) (enclosed_of r)))
    (λ v. refuses_shortly v ≡ true) (λ lacks. refl) (λ has. spelling-short w s (spelt_call (block_of r) (enclosed_of r)) h))
  where
    behind : Verdict
    behind = cond (is_none s.user && needs_user command) (refused (plain UserNotAuth)) (verdict_of_spelling w s (spelt_call (block_of r) (enclosed_of r)))

kept-short : (w : World) (s : Session) (r : Request) (kept : Option Answer) → IsSound w → refuses_shortly (verdict_of_kept w s r kept) ≡ true
kept-short w s r (Some answer) h = refl
kept-short w s r None h = block-short w s r (block_of r) h

pub verdict-short : (w : World) (s : Session) (r : Request) → IsSound w → refuses_shortly (verdict w s r) ≡ true
unfolding verdict
verdict-short w s r h = kept-short w s r (cached_answer s.cache r) h

-- What a verdict says of a request.
use Rattle.std.proofs.Common.{◌≡◌, ◌∙◌, ap, sym, refl, inl, inr, ◌⊎◌, ℕ, Bool, true, false, not, ◌&&◌, cond, List, [], ◌∷◌, Option, Some, None}
use Rattle.std.specs.Prelude.{is_none}
use Rattle.std.proofs.lemmas.Bool.{cond_both, not-false}
use Rattle.afp_base.specs.Cached.{Request, Answer, cached_answer}
use Rattle.afp_base.specs.declared.code.Code.TheVariants.{CallNotSupported, ParamErr, UserNotAuth}
use Rattle.afp_calls_grammar.specs.grammar.Spelt.{is_command, spelt_call}
use Rattle.afp_calls_grammar.specs.declared.grammar.call.Call.{Call}
use Rattle.afp_serial.proofs.SoundRow.{is_refused}
use Rattle.afp_serial.specs.Laws.{ComesToCall}
use Rattle.afp_serial.specs.World.{Refused, plain, World, Session}
use Rattle.afp_serial.specs.Rows.{refusal}
use Rattle.afp_serial.specs.Answer.{Verdict, repeats, refused, runs, needs_user, verdict_of_row, verdict_of_spelling, verdict_of_block, verdict_of_kept, verdict}
use Rattle.afp_serial.specs.KeptAnswers.{block_of, enclosed_of}

row-runs : (c call : Call) (code : Option Refused) → verdict_of_row c code ≡ runs call → (c ≡ call) × (code ≡ None)
row-runs c call (Some code) h = absurd (cc)
row-runs c call None h = (cc, refl)

spelling-runs : (w : World) (s : Session) (spelt : Option Call) (call : Call) → verdict_of_spelling w s spelt ≡ runs call → (spelt ≡ Some call) × (refusal w s call ≡ None)
spelling-runs w s None call h = absurd (cc)
spelling-runs w s (Some c) call h =
    let e : (c ≡ call) × (refusal w s c ≡ None) = row-runs c call (refusal w s c) h in
    (ap Some e.0, ap (refusal w s) (sym e.0) ∙ e.1)

block-runs : (w : World) (s : Session) (r : Request) (block : List ℕ) (call : Call) → cached_answer s.cache r ≡ None → block_of r ≡ block → verdict_of_block w s r block ≡ runs call → ComesToCall w s r call
block-runs w s r [] call new is h = absurd (cc)
block-runs w s r (command ∷ fields) call new is h =
    cond_both (not (is_command command)) (refused (plain CallNotSupported)) (behind)
    (λ v. v ≡ runs call → ComesToCall w s r call)
    (λ unknown h. absurd (cc))
    (λ known h.
    cond_both (is_none s.user && needs_user command) (refused (plain UserNotAuth)) (verdict_of_spelling w s (spelt_call (block_of r) (enclosed_of r)))
    (λ v. v ≡ runs call → ComesToCall w s r call)
    (λ lacks h. absurd (cc))
    (λ has h.
    let e = spelling-runs w s (spelt_call (block_of r) (enclosed_of r)) call h in
    record { new = new; command = command; fields = fields; block = is; known = not-false (is_command command) known; user = has; spelt = e.0; passes = e.1 })
    h)
    h
  where
    behind : Verdict
    behind = cond (is_none s.user && needs_user command) (refused (plain UserNotAuth)) (verdict_of_spelling w s (spelt_call (block_of r) (enclosed_of r)))

kept-runs : (w : World) (s : Session) (r : Request) (kept : Option Answer) (call : Call) → cached_answer s.cache r ≡ kept → verdict_of_kept w s r kept ≡ runs call → ComesToCall w s r call
kept-runs w s r (Some answer) call is h = absurd (cc)
kept-runs w s r None call is h = block-runs w s r (block_of r) call is refl h

pub comes-to : (w : World) (s : Session) (r : Request) (call : Call) → verdict w s r ≡ runs call → ComesToCall w s r call
unfolding verdict
comes-to w s r call h = kept-runs w s r (cached_answer s.cache r) call refl h

-- a repeated answer is a kept one

row-repeats : (c : Call) (code : Option Refused) (a : Answer) → verdict_of_row c code ≡ repeats a → ⊥
row-repeats c (Some code) a h = cc
row-repeats c None a h = cc

spelling-repeats : (w : World) (s : Session) (spelt : Option Call) (a : Answer) → verdict_of_spelling w s spelt ≡ repeats a → ⊥
spelling-repeats w s None a h = cc
spelling-repeats w s (Some c) a h = row-repeats c (refusal w s c) a h

block-repeats : (w : World) (s : Session) (r : Request) (block : List ℕ) (a : Answer) → verdict_of_block w s r block ≡ repeats a → ⊥
block-repeats w s r [] a h = cc
block-repeats w s r (command ∷ fields) a h =
    cond_both (not (is_command command)) (refused (plain CallNotSupported)) (behind)
    (λ v. v ≡ repeats a → ⊥)
    (λ unknown h. cc)
    (λ known h.
    cond_both (is_none s.user && needs_user command) (refused (plain UserNotAuth)) (verdict_of_spelling w s (spelt_call (block_of r) (enclosed_of r)))
    (λ v. v ≡ repeats a → ⊥)
    (λ lacks h. cc)
    (λ has h. spelling-repeats w s (spelt_call (block_of r) (enclosed_of r)) a h)
    h)
    h
  where
    behind : Verdict
    behind = cond (is_none s.user && needs_user command) (refused (plain UserNotAuth)) (verdict_of_spelling w s (spelt_call (block_of r) (enclosed_of r)))

kept-repeats : (w : World) (s : Session) (r : Request) (kept : Option Answer) (a : Answer) → verdict_of_kept w s r kept ≡ repeats a → kept ≡ Some a
kept-repeats w s r (Some answer) a h = cc
kept-repeats w s r None a h = absurd (block-repeats w s r (block_of r) a h)

pub repeats-kept : (w : World) (s : Session) (r : Request) (a : Answer) → verdict w s r ≡ repeats a → cached_answer s.cache r ≡ Some a
unfolding verdict
repeats-kept w s r a h = kept-repeats w s r (cached_answer s.cache r) a h

pub kept-verdict : (w : World) (s : Session) (r : Request) (a : Answer) → cached_answer s.cache r ≡ Some a → verdict w s r ≡ repeats a
unfolding verdict
kept-verdict w s r a h = ap (verdict_of_kept w s r) h

-- a request that comes to a call runs it
pub runs-of : (w : World) (s : Session) (r : Request) (call : Call) → ComesToCall w s r call → verdict w s r ≡ runs call
unfolding verdict
runs-of w s r call c =
    ap (verdict_of_kept w s r) c.new
    ∙ ap (verdict_of_block w s r) c.block
    ∙ chosen (is_command c.command) (is_none s.user && needs_user c.command) c.known c.user
    ∙ ap (verdict_of_spelling w s) c.spelt
    ∙ ap (verdict_of_row call) c.passes
  where
    chosen : (known lacks : Bool) → known ≡ true → lacks ≡ false
        → cond (not known) (refused (plain CallNotSupported)) (cond lacks (refused (plain UserNotAuth)) (verdict_of_spelling w s (spelt_call (block_of r) (enclosed_of r))))
        ≡ verdict_of_spelling w s (spelt_call (block_of r) (enclosed_of r))
    chosen true false p q = refl
    chosen true true p q = cc
    chosen false lacks p q = cc

-- what is refused is refused by the row of the call that is spelt, or before that, where it is told nothing

abbrev pub Refuses : World → Session → Option Call → Refused → Type 0
Refuses w s spelt x = ((call : Call) × (spelt ≡ Some call) × (refusal w s call ≡ Some x)) ⊎ (is_refused x ≡ true)

row-refused : (c : Call) (q : Option Refused) (x : Refused) → verdict_of_row c q ≡ refused x → q ≡ Some x
row-refused c (Some y) x h = let same : y ≡ x = cc in ap Some same
row-refused c None x h = absurd (cc)

plain-refused : (w : World) (s : Session) (spelt : Option Call) (y x : Refused) → is_refused y ≡ true → refused y ≡ refused x → Refuses w s spelt x
plain-refused w s spelt y x no_more h = let same : y ≡ x = cc in inr (ap is_refused (sym same) ∙ no_more)

spelling-refused : (w : World) (s : Session) (spelt : Option Call) (x : Refused) → verdict_of_spelling w s spelt ≡ refused x → Refuses w s spelt x
spelling-refused w s None x h = plain-refused w s None (plain ParamErr) x refl h
spelling-refused w s (Some c) x h = inl (c, refl, row-refused c (refusal w s c) x h)

block-refused : (w : World) (s : Session) (r : Request) (block : List ℕ) (x : Refused) → verdict_of_block w s r block ≡ refused x → Refuses w s (spelt_call (block_of r) (enclosed_of r)) x
block-refused w s r [] x h = plain-refused w s (spelt_call (block_of r) (enclosed_of r)) (plain ParamErr) x refl h
block-refused w s r (command ∷ fields) x h = by (is_command command) (is_none s.user && needs_user command) h
  where
    by : (known lacks : Bool) → cond (not known) (refused (plain CallNotSupported)) (cond lacks (refused (plain UserNotAuth)) (verdict_of_spelling w s (spelt_call (block_of r) (enclosed_of r)))) ≡ refused x
        → Refuses w s (spelt_call (block_of r) (enclosed_of r)) x
    by false lacks k = plain-refused w s (spelt_call (block_of r) (enclosed_of r)) (plain CallNotSupported) x refl k
    by true true k = plain-refused w s (spelt_call (block_of r) (enclosed_of r)) (plain UserNotAuth) x refl k
    by true false k = spelling-refused w s (spelt_call (block_of r) (enclosed_of r)) x k

kept-refused : (w : World) (s : Session) (r : Request) (kept : Option Answer) (x : Refused) → verdict_of_kept w s r kept ≡ refused x → Refuses w s (spelt_call (block_of r) (enclosed_of r)) x
kept-refused w s r (Some answer) x h = absurd (cc)
kept-refused w s r None x h = block-refused w s r (block_of r) x h

pub refused-by : (w : World) (s : Session) (r : Request) (x : Refused) → verdict w s r ≡ refused x → Refuses w s (spelt_call (block_of r) (enclosed_of r)) x
unfolding verdict
refused-by w s r x h = kept-refused w s r (cached_answer s.cache r) x h

-- A call of the law on the link of the one session: what it is told and leaves, whichever link that is; and asked again it is told the same.
use Rattle.std.proofs.Common.{◌≡◌, refl, sym, ap, ◌∙◌, subst, ℕ, Bool, true, false, ◌&&◌, cond, List, [], ◌∷◌, Option, Some, None}
use Rattle.std.specs.Prelude.{◌==◌, is_none, nat_eq, not}
use Rattle.std.specs.Cmp.Lexicographic.{pointwise}
use Rattle.std.proofs.lemmas.Bool.{and_from, cond-true, eq-eqb}
use Rattle.afp_base.specs.Cached.{Answer, Request, cached_answer, is_repeat, is_same_frame}
use Rattle.afp_base.specs.declared.code.Code.{Code}
use Rattle.afp_base.specs.declared.code.Code.TheVariants as code
use Rattle.afp_calls_grammar.specs.grammar.Spelt.{is_command, spelt_call}
use Rattle.afp_calls_grammar.specs.declared.grammar.call.Call.{Call}
use Rattle.afp_replies.specs.Replies.{canonical_reply}
use Rattle.afp_serial.proofs.KeptWishes.{refused-kept}
use Rattle.afp_serial.proofs.Verdicts.{comes-to, kept-verdict, repeats-kept}
use Rattle.afp_serial.specs.Answer.{Verdict, after_at, after_call, after_verdict, answer_at, needs_user, newly_kept, refused, repeats, request, runs, told_call, told_verdict, verdict, verdict_of_block, verdict_of_kept, verdict_of_row, verdict_of_spelling}
use Rattle.afp_serial.specs.History.{is_opened}
use Rattle.afp_serial.specs.KeptAnswers.{block_of, enclosed_of, is_kept, is_kept_code, is_kept_command, keeping, kept_answer, with_answer}
use Rattle.afp_serial.specs.KeptLaws.{FindsKept}
use Rattle.afp_serial.specs.Rows.{effect, ends_session, refusal, row}
use Rattle.afp_serial.specs.SessionViews.{wish_of_call}
use Rattle.afp_serial.specs.Sound.{IsSound}
use Rattle.afp_serial.specs.World.{Effect, Refusal, Session, World, session_at, plain}
use Rattle.afp_base.specs.Choice.{first_holding}
use Rattle.afp_serial.specs.declared.ask.Ask.{Ask}
use Rattle.afp_serial.specs.declared.ask.Ask.TheVariants as ask
use Rattle.afp_serial.specs.declared.ask.Outcome.TheVariants.{Done}
use Rattle.afp_serial.specs.declared.ask.Told.{Told}
use Rattle.afp_serial.specs.declared.ask.Told.TheVariants as told
use Rattle.once_across_breaks.proofs.OfSame.Rows.{IsSteady, held, held_effect}
use Rattle.once_across_breaks.specs.same.Laws.{on_link}
use Rattle.once_across_breaks.specs.same.Steps.{asks_back, is_back, is_ok}

-- What an ask on the session's link does: the same on each link. Asked again it is told the same, and changes nothing.
pub record Goes (w : World) (s : Session) (a : Ask) : Type 0 where
  pub world : World
  pub session : Session
  pub told : Told
  pub tells : (link next : ℕ) → answer_at (held w s link next) link a Done ≡ told
  pub after : (link next : ℕ) → after_at (held w s link next) link a Done ≡ held world session link next
  pub tells_again : (link next : ℕ) → answer_at (held world session link next) link a Done ≡ told
  pub after_again : (link next : ℕ) → after_at (held world session link next) link a Done ≡ held world session link next
  pub number : session.number ≡ s.number
  pub user : session.user ≡ s.user
  pub house : world.house ≡ w.house
  pub latest : world.latest ≡ w.latest
  pub opens_none : is_opened told ≡ false
  pub back_none : (t : Told) → is_back a t ≡ false

-- the session that has the link
on-it : (w : World) (s : Session) (link next : ℕ) → session_at (held w s link next) link ≡ Some (on_link link s)
on-it w s link next = cond-true (link == link) (Some (on_link link s)) None (eq-eqb link link refl)

tells-of : (w : World) (s : Session) (link next id : ℕ) (write : Bool) (offset : ℕ) (payload : List ℕ)
    → answer_at (held w s link next) link (ask.Call id write offset payload) Done
    ≡ told_verdict (held w s link next) (on_link link s) (verdict (held w s link next) (on_link link s) (request id write offset payload)) Done
unfolding answer_at
tells-of w s link next id write offset payload = ap (λ o. told_call (held w s link next) o (request id write offset payload) Done) (on-it w s link next)

pub after-of : (w : World) (s : Session) (link next id : ℕ) (write : Bool) (offset : ℕ) (payload : List ℕ)
    → after_at (held w s link next) link (ask.Call id write offset payload) Done
    ≡ after_call (held w s link next) (Some (on_link link s)) (request id write offset payload) Done
unfolding after_at
after-of w s link next id write offset payload = ap (λ o. after_call (held w s link next) o (request id write offset payload) Done) (on-it w s link next)

-- an equal request is a repeat
same-frame : (write : Bool) (offset : ℕ) → is_same_frame write write offset offset ≡ true
same-frame true offset = eq-eqb offset offset refl
same-frame false offset = refl

same-bytes : (bytes : List ℕ) → pointwise nat_eq bytes bytes ≡ true
same-bytes [] = refl
same-bytes (b ∷ bytes) = (λ i. eq-eqb b b refl i && pointwise nat_eq bytes bytes) ∙ same-bytes bytes

repeats-itself : (r : Request) → is_repeat r r ≡ true
repeats-itself r = (λ i. eq-eqb r.id r.id refl i && (same-frame r.write r.offset i && same-bytes r.payload i))

-- the session with what is newly kept
abbrev keeps : Session → Request → Option Answer → Session
keeps s r None = s
keeps s r (Some a) = with_answer r a s

kept-held : (w : World) (s : Session) (link next : ℕ) (r : Request) (a : Option Answer) → keeping (held w s link next) s.number r a ≡ held w (keeps s r a) link next
kept-held w s link next r None = refl
kept-held w s link next r (Some a) =
    ap (λ b. record w { next_link = next; sessions = cond b (with_answer r a (on_link link s)) (on_link link s) ∷ [] }) (eq-eqb s.number s.number refl)

module _ (w : World) (s : Session) (id : ℕ) (write : Bool) (offset : ℕ) (payload : List ℕ) (call : Call)
    (spelt : spelt_call (block_of (request id write offset payload)) (enclosed_of (request id write offset payload)) ≡ Some call)
    (kept : is_kept_command (block_of (request id write offset payload)) ≡ true)
    (stands : (b : Bool) → asks_back (wish_of_call b (Some call)) ≡ false)
    (stays : ends_session call ≡ false)
    (steady : IsSteady (row call))
    (finds : FindsKept)
    (first : ℕ) (first_next : ℕ) (sound : IsSound (held w s first first_next)) where
  abbrev r : Request
  r = request id write offset payload

  abbrev base : World
  base = held w s 0 0

  abbrev first_session : Session
  first_session = on_link 0 s

  refusal-same : (link next : ℕ) → refusal (held w s link next) (on_link link s) call ≡ refusal base first_session call
  refusal-same link next = ap (λ (x : List Refusal). first_holding x) (steady.refusals w s link next)

  by-spelling : (link next : ℕ) (found : Option Call) → found ≡ Some call → verdict_of_spelling (held w s link next) (on_link link s) found ≡ verdict_of_spelling base first_session found
  by-spelling link next found is =
      ap (verdict_of_spelling (held w s link next) (on_link link s)) is ∙ ap (verdict_of_row call) (refusal-same link next) ∙ sym (ap (verdict_of_spelling base first_session) is)

  by-block : (link next : ℕ) (block : List ℕ) → verdict_of_block (held w s link next) (on_link link s) r block ≡ verdict_of_block base first_session r block
  by-block link next [] = refl
  by-block link next (command ∷ fields) =
      ap (λ v. cond (not (is_command command)) (refused (plain code.CallNotSupported)) (cond (is_none s.user && needs_user command) (refused (plain code.UserNotAuth)) v))
      (by-spelling link next (spelt_call (block_of r) (enclosed_of r)) spelt)

  by-kept : (link next : ℕ) (found : Option Answer) → verdict_of_kept (held w s link next) (on_link link s) r found ≡ verdict_of_kept base first_session r found
  by-kept link next (Some a) = refl
  by-kept link next None = by-block link next (block_of r)

  verdict-same : (link next : ℕ) → verdict (held w s link next) (on_link link s) r ≡ verdict base first_session r
  unfolding verdict
  verdict-same link next = by-kept link next (cached_answer s.cache r)

  it : Verdict
  it = verdict base first_session r

  runs-call : (c : Call) → verdict base first_session r ≡ runs c → c ≡ call
  runs-call c is = let h : Some c ≡ Some call = sym (comes-to base first_session r c is).spelt ∙ spelt in cc

  same-effect : (link next : ℕ) (c : Call) → c ≡ call → effect (held w s link next) (on_link link s) c ≡ held_effect s link next (effect base first_session c)
  same-effect link next c is =
      subst (λ (x : Call). effect (held w s link next) (on_link link s) x ≡ held_effect s link next (effect base first_session x)) (sym is) (steady.effect w s link next)

  told-same : (link next : ℕ) (v : Verdict) → ((c : Call) → v ≡ runs c → c ≡ call) → told_verdict (held w s link next) (on_link link s) v Done ≡ told_verdict base first_session v Done
  told-same link next (repeats a) is = refl
  told-same link next (refused x) is = refl
  told-same link next (runs c) is = ap (λ (e : Effect). told.Reply code.Ok (canonical_reply e.reply) (ends_session c)) (same-effect link next c (is c refl))

  after-same : (link next : ℕ) (v : Verdict) → ((c : Call) → v ≡ runs c → c ≡ call) → after_verdict (held w s link next) (on_link link s) v Done ≡ held (after_verdict base first_session v Done) s link next
  after-same link next (repeats a) is = refl
  after-same link next (refused x) is = refl
  after-same link next (runs c) is = ap (λ (e : Effect). e.world) (same-effect link next c (is c refl))

  house-same : (v : Verdict) → ((c : Call) → v ≡ runs c → c ≡ call) → (after_verdict base first_session v Done).house ≡ w.house
  house-same (repeats a) is = refl
  house-same (refused x) is = refl
  house-same (runs c) is = subst (λ (x : Call). (effect base first_session x).world.house ≡ w.house) (sym (is c refl)) (steady.house w s)

  latest-same : (v : Verdict) → ((c : Call) → v ≡ runs c → c ≡ call) → (after_verdict base first_session v Done).latest ≡ w.latest
  latest-same (repeats a) is = refl
  latest-same (refused x) is = refl
  latest-same (runs c) is = subst (λ (x : Call). (effect base first_session x).world.latest ≡ w.latest) (sym (is c refl)) (steady.latest w s)

  abbrev its_told : Told
  its_told = told_verdict base first_session (verdict base first_session r) Done

  abbrev its_newly : Option Answer
  its_newly = newly_kept r (verdict base first_session r) its_told

  abbrev its_world : World
  its_world = after_verdict base first_session (verdict base first_session r) Done

  abbrev its_session : Session
  its_session = keeps s r its_newly

  tells : (link next : ℕ) → answer_at (held w s link next) link (ask.Call id write offset payload) Done ≡ its_told
  tells link next =
      tells-of w s link next id write offset payload
      ∙ ap (λ v. told_verdict (held w s link next) (on_link link s) v Done) (verdict-same link next)
      ∙ told-same link next (verdict base first_session r) runs-call

  after-verdict-is : (link next : ℕ) → after_verdict (held w s link next) (on_link link s) (verdict (held w s link next) (on_link link s) r) Done ≡ held its_world s link next
  after-verdict-is link next =
      ap (λ v. after_verdict (held w s link next) (on_link link s) v Done) (verdict-same link next) ∙ after-same link next (verdict base first_session r) runs-call

  newly-is : (link next : ℕ) → newly_kept r (verdict (held w s link next) (on_link link s) r) (told_verdict (held w s link next) (on_link link s) (verdict (held w s link next) (on_link link s) r) Done) ≡ its_newly
  newly-is link next =
      ap (λ v. newly_kept r v (told_verdict (held w s link next) (on_link link s) v Done)) (verdict-same link next)
      ∙ ap (newly_kept r (verdict base first_session r)) (told-same link next (verdict base first_session r) runs-call)

  after : (link next : ℕ) → after_at (held w s link next) link (ask.Call id write offset payload) Done ≡ held its_world its_session link next
  after link next =
      after-of w s link next id write offset payload
      ∙ (λ i. keeping (after-verdict-is link next i) s.number r (newly-is link next i))
      ∙ kept-held its_world s link next r its_newly

  -- what it was told is kept

  abbrev Keeps_it : Type 0
  Keeps_it = (a : Answer) × (its_told ≡ told.Reply a.code a.block false) × (cached_answer its_session.cache r ≡ Some a)

  kept-now : (v : Verdict) (c : Code) (block : List ℕ) → its_told ≡ told.Reply c block false → newly_kept r v its_told ≡ kept_answer r its_told → verdict base first_session r ≡ v → is_kept_code c ≡ true → Keeps_it
  kept-now v c block tells_it newly is on =
      let a : Answer = record { code = c; block = block } in
      let keeps_code : is_kept r c ≡ true = and_from (is_kept_code c) (is_kept_command (block_of r)) on kept in
      let now : its_newly ≡ Some a = ap (λ x. newly_kept r x its_told) is ∙ newly ∙ ap (kept_answer r) tells_it ∙ cond-true (is_kept r c) (Some a) None keeps_code in (
        a,
        tells_it,
        ap (λ (x : Option Answer). cached_answer (keeps s r x).cache r) now ∙ finds s.cache (record { request = r; answer = a }) r (repeats-itself r),
      )

  keeps-it : (v : Verdict) → verdict base first_session r ≡ v → Keeps_it
  keeps-it (repeats a) is = (
    a,
    ap (λ v. told_verdict base first_session v Done) is,
    ap (λ (x : Option Answer). cached_answer (keeps s r x).cache r) (ap (λ v. newly_kept r v its_told) is) ∙ repeats-kept base first_session r a is,
  )
  keeps-it (refused x) is =
      kept-now (refused x) x.code (canonical_reply x.reply) (ap (λ v. told_verdict base first_session v Done) is) refl is (refused-kept (held w s first first_next) (on_link first s) r x sound (verdict-same first first_next ∙ is))
  keeps-it (runs c) is =
      kept-now (runs c) code.Ok (canonical_reply (effect base first_session c).reply)
      (ap (λ v. told_verdict base first_session v Done) is ∙ ap (λ b. told.Reply code.Ok (canonical_reply (effect base first_session c).reply) b) (ap ends_session (runs-call c is) ∙ stays))
      refl is refl

  abbrev Again : World → Session → Type 0
  Again v t = (link next : ℕ) → (answer_at (held v t link next) link (ask.Call id write offset payload) Done ≡ its_told) × (after_at (held v t link next) link (ask.Call id write offset payload) Done ≡ held v t link next)

  again-told : (v : World) (t : Session) (a : Answer) → its_told ≡ told.Reply a.code a.block false → cached_answer t.cache r ≡ Some a → Again v t
  again-told v t a tells_it cached link next =
      let is : verdict (held v t link next) (on_link link t) r ≡ repeats a = kept-verdict (held v t link next) (on_link link t) r a cached in (
        tells-of v t link next id write offset payload ∙ ap (λ x. told_verdict (held v t link next) (on_link link t) x Done) is ∙ sym tells_it,
        after-of v t link next id write offset payload
            ∙ ap (λ x. keeping (after_verdict (held v t link next) (on_link link t) x Done) t.number r (newly_kept r x (told_verdict (held v t link next) (on_link link t) x Done))) is,
      )

  number-of : (a : Option Answer) → (keeps s r a).number ≡ s.number
  number-of None = refl
  number-of (Some a) = refl

  user-of : (a : Option Answer) → (keeps s r a).user ≡ s.user
  user-of None = refl
  user-of (Some a) = refl

  no-opening : (v : Verdict) → is_opened (told_verdict base first_session v Done) ≡ false
  no-opening (repeats a) = refl
  no-opening (refused x) = refl
  no-opening (runs c) = refl

  pub call-goes : Goes w s (ask.Call id write offset payload)
  call-goes =
      let k : Keeps_it = keeps-it (verdict base first_session r) refl in
      let again : Again its_world its_session = again-told its_world its_session k.0 k.1 k.2 in
      record {
        world = its_world;
        session = its_session;
        told = its_told;
        tells = tells;
        after = after;
        tells_again = λ link next. (again link next).0;
        after_again = λ link next. (again link next).1;
        number = number-of its_newly;
        user = user-of its_newly;
        house = house-same (verdict base first_session r) runs-call;
        latest = latest-same (verdict base first_session r) runs-call;
        opens_none = no-opening (verdict base first_session r);
        back_none = λ t. ap (λ b. b && is_ok t) (ap (λ o. asks_back (wish_of_call (is_kept_command (block_of r)) o)) spelt ∙ stands (is_kept_command (block_of r)));
      }

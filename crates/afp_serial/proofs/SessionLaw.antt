-- Each legal entry changes the view of a session in one of few ways.
use Rattle.std.proofs.Common.{◌≡◌, ◌≢◌, ◌∙◌, ◌⊎◌, inl, inr, refl, sym, ap, subst, ℕ, suc, ◌+◌, ◌<◌, Bool, true, false, not, ◌&&◌, cond, List, [], ◌∷◌, Option, Some, None, arith}
use Rattle.std.specs.Prelude.{nat_eq, nat_lt, is_none, is_some, ◌==◌, bytes_eq}
use Rattle.std.specs.List.{list_all}
use Rattle.std.proofs.lemmas.Bool.{and_from, cond_both, eqb-true, eq-eqb, ne_eqb, false≢true, cond-true, cond-false, and_parts, ltb-true}
use Rattle.afp_base.proofs.Facts.{bytes_same}
use Rattle.afp_base.proofs.ListFacts.{find-all}
use Rattle.afp_base.specs.Cached.{Request, Answer, Kept, cached_answer, with_kept}
use Rattle.afp_base.specs.Choice.{first_holding}
use Rattle.afp_base.specs.declared.code.Code.{Code}
use Rattle.afp_base.specs.declared.code.Code.TheVariants as code
use Rattle.afp_base.specs.declared.ids.LinkNumber.{LinkNumber}
use Rattle.afp_calls_grammar.specs.grammar.Commands.{logout_command}
use Rattle.afp_calls_grammar.specs.grammar.Spelt.{is_command, spelt_call}
use Rattle.afp_calls_grammar.specs.declared.grammar.call.Call.{Call}
use Rattle.afp_calls_grammar.specs.declared.grammar.call.Call.TheVariants.{DisconnectOldSession, GetSessionToken, Logout}
use Rattle.afp_replies.specs.Replies.{canonical_reply}
use Rattle.afp_replies.specs.declared.reply.Reply.TheVariants.{Token}
use Rattle.afp_serial.proofs.KeptWishes.{back-unkept, kept-parts, lawful-kept, logout-begins, logout-unkept, refused-kept, token-unkept}
use Rattle.afp_serial.proofs.Keeps.{IsKnown}
use Rattle.afp_serial.proofs.Refusals.{refuses_shortly, verdict-short}
use Rattle.afp_serial.proofs.RowsSound.{row-sound}
use Rattle.afp_serial.proofs.SessionLists.{NumbersDiffer, or_else, differ-filter, found-by, of-number, of-push, of-without, put-changed}
use Rattle.afp_serial.proofs.SessionSteps.{adopting, detaching, view-adopted, view-detached, view-stored}
use Rattle.afp_serial.proofs.SessionViews.{holder_of, OnLink, on-link, view-ended, view-swept, row-view, Has, holder-is, has-holds, holds-has, sound-numbers, sound-links}
use Rattle.afp_serial.proofs.SoundRow.{is_ok, is_short}
use Rattle.afp_serial.proofs.SoundParts.{caches-parts, is_below, sessions-parts}
use Rattle.afp_serial.proofs.StaysSound.{IsLawful, after-sound, legal-lawful, legal-moment, moment-sound}
use Rattle.afp_serial.proofs.Verdicts.{comes-to, kept-verdict, repeats-kept, runs-of}
use Rattle.afp_serial.specs.declared.ask.Ask.{Ask}
use Rattle.afp_serial.specs.declared.ask.Ask.TheVariants as ask
use Rattle.afp_serial.specs.declared.ask.Outcome.{Outcome}
use Rattle.afp_serial.specs.declared.ask.Outcome.TheVariants as outcome
use Rattle.afp_serial.specs.declared.ask.Told.{Told}
use Rattle.afp_serial.specs.declared.ask.Told.TheVariants as told
use Rattle.afp_serial.specs.declared.attachment.Attachment.{Attachment}
use Rattle.afp_serial.specs.declared.attachment.Attachment.TheVariants.{Attached, Detached}
use Rattle.afp_serial.specs.Answer.{after_at, after_call, after_lost, after_parting, after_verdict, answer_at, committed_at, committed_by, committed_in, committed_of, effect_reply, is_full, is_legal_outcome, link_number, losing, needs_user, new_session, newly_kept, refusal_reply, request, told_call, told_parting, told_pulse, told_verdict, with_new_session, Verdict, repeats, refused, runs, verdict}
use Rattle.afp_serial.specs.KeptAnswers.{block_of, enclosed_of, is_kept, is_kept_code, is_kept_command, keeping, kept_answer, kept_in}
use Rattle.afp_serial.specs.Ranges.{is_typed_entry}
use Rattle.afp_serial.specs.Rows.{committed, effect, ends_session, refusal, row}
use Rattle.afp_serial.specs.SessionLaws.{moves_sessions}
use Rattle.afp_serial.specs.SessionToken.{is_old_session, old_session, old_session_in, old_session_refusals, rejoins}
use Rattle.afp_serial.specs.SessionViews.{AskChanges, CallChanges, ChangesViews, HolderIsThere, IsAnswered, IsBack, IsFault, IsKeptNow, IsLoggedOut, IsRepeated, View, AsksKept, AsksUnkept, cache_of, detached, ended, number_of, opened, session_of, set, stored, view_at, wish_of, wish_of_call}
use Rattle.afp_serial.specs.Sound.{IsSound, is_lawful_cache, is_link_below}
use Rattle.afp_serial.specs.Token.{session_token}
use Rattle.afp_serial.specs.World.{is_expired, is_on_link, plain, Effect, Refused, Session, World, at_moment, session_at, with_session, without_session}

-- ---- Open

below-of : (next : ℕ) (ss : List Session) (n : ℕ) (s : Session) → list_all (is_below next) ss ≡ true → session_of ss n ≡ Some s → is_below next s ≡ true
below-of next [] n s h e = absurd (cc)
below-of next (x ∷ ss) n s h e =
    let p = and_parts (is_below next x) (list_all (is_below next) ss) h in
    cond_both (nat_eq x.number n) (Some x) (session_of ss n) (λ o. o ≡ Some s → is_below next s ≡ true) (λ f g. let is : x ≡ s = cc in ap (is_below next) (sym is) ∙ p.0) (λ f g. below-of next ss n s p.1 g) e

pub sound-below : (w : World) (n : ℕ) (s : Session) → IsSound w → session_of w.sessions n ≡ Some s → n < w.next_link
sound-below w n s sound e =
    let p = and_parts (nat_lt s.number w.next_link) (is_link_below w.next_link s.place) (below-of w.next_link w.sessions n s (sessions-parts w sound.sessions).below e) in
    subst (λ m. m < w.next_link) (of-number w.sessions n s e) (ltb-true s.number w.next_link p.0)

sound-link-below : (w : World) (n j : ℕ) (s : Session) → IsSound w → session_of w.sessions n ≡ Some s → s.place ≡ Attached (link_number j) → j < w.next_link
sound-link-below w n j s sound e on =
    let p = and_parts (nat_lt s.number w.next_link) (is_link_below w.next_link s.place) (below-of w.next_link w.sessions n s (sessions-parts w sound.sessions).below e) in
    ltb-true j w.next_link (ap (is_link_below w.next_link) (sym on) ∙ p.1)

view-opened : (w : World) (n : ℕ) → IsSound w → IsSound (with_new_session w) → view_at (with_new_session w) n ≡ opened n (view_at w n)
view-opened w n sound sound' =
    λ i. record {
      holder = λ j. holder-is (with_new_session w) (set (holder_of w) w.next_link (Some w.next_link)) sound' to back j i;
      alive = (ap is_some (of n) ∙ alive (session_of w.sessions n) (nat_eq w.next_link n)) i;
      cache = (ap cache_of (of n) ∙ cache (session_of w.sessions n) (nat_eq w.next_link n) refl refl) i;
      next = next i;
    }
  where
    new : Session
    new = new_session w.next_link

    next : w.next_link + 1 ≡ suc w.next_link
    next = omega arith

    of : (m : ℕ) → session_of (with_new_session w).sessions m ≡ or_else (session_of w.sessions m) (cond (nat_eq w.next_link m) (Some new) None)
    of m = of-push w.sessions new m

    missing : (m : ℕ) → m ≡ w.next_link → (o : Option Session) → session_of w.sessions m ≡ o → o ≡ None
    missing m e None f = refl
    missing m e (Some s) f = absurd (let less = sound-below w m s sound f in omega arith)

    last : (m : ℕ) (s : Session) (b : Bool) → nat_eq w.next_link m ≡ b → cond b (Some new) None ≡ Some s → (m ≡ w.next_link) × (s ≡ new)
    last m s true f g = (sym (eqb-true w.next_link m f), (let h : new ≡ s = cc in sym h))
    last m s false f g = absurd (cc)

    either : (m : ℕ) (s : Session) (o : Option Session) → or_else o (cond (nat_eq w.next_link m) (Some new) None) ≡ Some s → (o ≡ Some s) ⊎ ((m ≡ w.next_link) × (s ≡ new))
    either m s None f = inr (last m s (nat_eq w.next_link m) refl f)
    either m s (Some t) f = inl f

    before : (m : ℕ) (s : Session) → session_of (with_new_session w).sessions m ≡ Some s → (session_of w.sessions m ≡ Some s) ⊎ ((m ≡ w.next_link) × (s ≡ new))
    before m s e = either m s (session_of w.sessions m) (sym (of m) ∙ e)

    to : (m j : ℕ) → Has (with_new_session w).sessions m j → set (holder_of w) w.next_link (Some w.next_link) j ≡ Some m
    to m j h = elim (before m h.session h.is) [
      | inl old ↦ cond-false (nat_eq j w.next_link) (Some w.next_link) (holder_of w j) (ne_eqb j w.next_link (λ e. absurd (let less = sound-link-below w m j h.session sound old h.on in omega arith)))
          ∙ has-holds w.sessions m j (sound-numbers w sound) (sound-links w sound j) (record { session = h.session; is = old; on = h.on })
      | inr fresh ↦
          let e : Attached (link_number w.next_link) ≡ Attached (link_number j) = ap (λ (y : Session). y.place) (sym fresh.1) ∙ h.on in
          let f : link_number w.next_link ≡ link_number j = cc in
          cond-true (nat_eq j w.next_link) (Some w.next_link) (holder_of w j) (eq-eqb j w.next_link (sym (ap (λ (l : LinkNumber). l.0) f))) ∙ ap (λ k. Some k) (sym fresh.0)
    ]

    back : (m j : ℕ) → set (holder_of w) w.next_link (Some w.next_link) j ≡ Some m → Has (with_new_session w).sessions m j
    back m j = cond_both (nat_eq j w.next_link) (Some w.next_link) (holder_of w j) (λ x. x ≡ Some m → Has (with_new_session w).sessions m j)
        (λ e f. let g : w.next_link ≡ m = cc in record { session = new; is = of m ∙ (λ i. or_else (missing m (sym g) (session_of w.sessions m) refl i) (cond (eq-eqb w.next_link m g i) (Some new) None)); on = ap (λ k. Attached (link_number k)) (sym (eqb-true j w.next_link e)) })
        (λ e f. let h = holds-has w.sessions m j (sound-numbers w sound) f in record { session = h.session; is = of m ∙ ap (λ o. or_else o (cond (nat_eq w.next_link m) (Some new) None)) h.is; on = h.on })

    alive : (o : Option Session) (b : Bool) → is_some (or_else o (cond b (Some new) None)) ≡ cond b true (is_some o)
    alive None true = refl
    alive None false = refl
    alive (Some s) true = refl
    alive (Some s) false = refl

    cache : (o : Option Session) (b : Bool) → session_of w.sessions n ≡ o → nat_eq w.next_link n ≡ b → cache_of (or_else o (cond b (Some new) None)) ≡ cond b [] (cache_of o)
    cache None true e f = refl
    cache None false e f = refl
    cache (Some s) true e f = absurd (let less = sound-below w n s sound e in let is = eqb-true w.next_link n f in omega arith)
    cache (Some s) false e f = refl

-- ---- an answer is kept

-- behind a world of the same view, in which one more answer is kept
view-kept : (w mid : World) (n : ℕ) (s : Session) (r : Request) (a : Answer) → IsSound mid → IsSound (kept_in mid s.number r a) → session_of w.sessions s.number ≡ Some s → ((m : ℕ) → view_at mid m ≡ view_at w m) → view_at (kept_in mid s.number r a) n ≡ stored n (view_at w n) s.number (record { request = r; answer = a })
view-kept w mid n s r a sound sound' there same = by (session_of mid.sessions s.number) refl
  where
    newest : Kept
    newest = record { request = r; answer = a }

    alive : is_some (session_of mid.sessions s.number) ≡ true
    alive = ap (λ (v : View). v.alive) (same s.number) ∙ ap is_some there

    by : (o : Option Session) → session_of mid.sessions s.number ≡ o → view_at (kept_in mid s.number r a) n ≡ stored n (view_at w n) s.number newest
    by None e = absurd (false≢true (sym (ap is_some e) ∙ alive))
    by (Some x) e = view-stored mid n s.number x (λ c. with_kept c newest) sound sound' e ∙ ap (λ v. stored n v s.number newest) (same n)

kept-none : (r : Request) (c : Code) (block : List ℕ) (ends : Bool) → is_kept r c ≡ false → kept_answer r (told.Reply c block ends) ≡ None
kept-none r c block ends off = cond-false (is_kept r c) (Some (record { code = c; block = block })) None off

kept-some : (r : Request) (c : Code) (block : List ℕ) (ends : Bool) → is_kept r c ≡ true → kept_answer r (told.Reply c block ends) ≡ Some (record { code = c; block = block })
kept-some r c block ends on = cond-true (is_kept r c) (Some (record { code = c; block = block })) None on

and-false : (a b : Bool) → b ≡ false → (a && b) ≡ false
and-false true b e = e
and-false false b e = refl

unkept : (r : Request) (c : Code) → is_kept_command (block_of r) ≡ false → is_kept r c ≡ false
unkept r c off = and-false (is_kept_code c) (is_kept_command (block_of r)) off

kept-by : (r : Request) (c : Code) → is_kept_code c ≡ true → is_kept_command (block_of r) ≡ true → is_kept r c ≡ true
kept-by r c on kept = and_from (is_kept_code c) (is_kept_command (block_of r)) on kept

-- ---- what the rows of the three calls do

logout-world : (w : World) (s : Session) → (effect w s Logout).world ≡ without_session w s.number
unfolding row
logout-world w s = refl

logout-told : (w : World) (s : Session) → effect_reply Logout (effect w s Logout) ≡ told.Reply code.Ok [] true
unfolding row
logout-told w s = refl

logout-passes : (w : World) (s : Session) → refusal w s Logout ≡ None
unfolding row
logout-passes w s = refl

logout-commits : (w : World) (s : Session) → committed w s Logout ≡ None
unfolding row
logout-commits w s = refl

logout-known : is_command logout_command ≡ true
unfolding is_command
logout-known = refl

token-effect : (w : World) (s : Session) (kind : ℕ) (stamp : Option ℕ) (id : List ℕ) → effect w s (GetSessionToken kind stamp id) ≡ record { world = w; reply = Token (session_token w.house.token_key s.number) }
unfolding row
token-effect w s kind stamp id = refl

back-effect : (w : World) (s : Session) (kind : ℕ) (token : List ℕ) → effect w s (DisconnectOldSession kind token) ≡ rejoins w s (old_session_in w s token)
unfolding row
back-effect w s kind token = refl

back-refusal : (w : World) (s : Session) (kind : ℕ) (token : List ℕ) → refusal w s (DisconnectOldSession kind token) ≡ first_holding (old_session_refusals s (old_session_in w s token))
unfolding row
back-refusal w s kind token = refl

ends-not : (call : Call) → moves_sessions call ≡ false → ends_session call ≡ false
ends-not Logout e = absurd (cc)
ends-not call e = refl

-- the world in which the old session has this link
back-world : (w : World) (l : ℕ) (s old : Session) → IsSound w → OnLink w l s → session_of w.sessions old.number ≡ Some old → (old.number ≡ s.number → ⊥) → (rejoins w s (Some old)).world ≡ adopting w l s.number old.number
back-world w l s old sound on there other =
    ap (λ (p : Attachment). with_session mid (record old { place = p })) on.on
    ∙ ap (λ (ss : List Session). record mid { sessions = ss }) (put-changed mid.sessions old (λ x. record x { place = Attached (link_number l) }) differ old-there)
  where
    mid : World
    mid = without_session w s.number

    differ : NumbersDiffer mid.sessions
    differ = differ-filter (λ x. not (nat_eq x.number s.number)) w.sessions (sound-numbers w sound)

    old-there : session_of mid.sessions old.number ≡ Some old
    old-there =
        of-without w.sessions s.number old.number (sound-numbers w sound)
        ∙ cond-false (nat_eq s.number old.number) None (session_of w.sessions old.number) (ne_eqb s.number old.number (λ e. other (sym e)))
        ∙ there

-- ---- a call

module _ (w : World) (l n : ℕ) (s : Session) (r : Request) (sound : IsSound w) (knows : (c : Call) → spelt_call (block_of r) (enclosed_of r) ≡ Some c → IsLawful c) (at : session_at w l ≡ Some s) where
  abbrev asked : Option Call
  asked = spelt_call (block_of r) (enclosed_of r)

  abbrev new_of : Outcome → World
  new_of o = after_call w (Some s) r o

  abbrev told_of : Outcome → Told
  told_of o = told_call w (Some s) r o

  on : OnLink w l s
  on = on-link w l s sound at

  lawful : is_lawful_cache s.cache ≡ true
  lawful = find-all (λ x. is_on_link l x.place) (λ x. is_lawful_cache x.cache) w.sessions s at (caches-parts w sound.caches)

  -- what is seen of the cache where the session is that of n
  own : nat_eq s.number n ≡ true → cache_of (session_of w.sessions n) ≡ s.cache
  own e = ap cache_of (ap (session_of w.sessions) (sym (eqb-true s.number n e)) ∙ on.is)

  own-answer : (o : Option Answer) → cached_answer s.cache r ≡ o → nat_eq s.number n ≡ true → cached_answer (view_at w n).cache r ≡ o
  own-answer o is e = ap (λ (c : List Kept). cached_answer c r) (own e) ∙ is

  -- a request whose command is not kept has no kept answer
  none-cached : is_kept_command (block_of r) ≡ false → cached_answer s.cache r ≡ None
  none-cached off = by (cached_answer s.cache r) refl
    where
      by : (o : Option Answer) → cached_answer s.cache r ≡ o → o ≡ None
      by None is = refl
      by (Some a) is = absurd (false≢true (sym off ∙ (kept-parts r a.code (lawful-kept s.cache r a lawful is)).1))

  -- one that is not told again has none either
  abbrev is_new : Verdict → Bool
  is_new (repeats a) = false
  is_new (refused x) = true
  is_new (runs call) = true

  new-cached : (v : Verdict) → verdict w s r ≡ v → is_new v ≡ true → cached_answer s.cache r ≡ None
  new-cached v is fresh = by (cached_answer s.cache r) refl
    where
      by : (o : Option Answer) → cached_answer s.cache r ≡ o → o ≡ None
      by None e = refl
      by (Some a) e = absurd (false≢true (ap is_new (sym (kept-verdict w s r a e) ∙ is) ∙ fresh))

  not-again : is_kept_command (block_of r) ≡ false → (a : Answer) → verdict w s r ≡ repeats a → ⊥
  not-again off a is = let bad : Some a ≡ None = sym (repeats-kept w s r a is) ∙ none-cached off in cc

  told-is : (v : Verdict) (o : Outcome) → verdict w s r ≡ v → told_of o ≡ told_verdict w s v o
  told-is v o is = ap (λ (x : Verdict). told_verdict w s x o) is

  world-is : (v : Verdict) (o : Outcome) (kept : Option Answer) → verdict w s r ≡ v → newly_kept r v (told_verdict w s v o) ≡ kept → new_of o ≡ keeping (after_verdict w s v o) s.number r kept
  world-is v o kept is newly =
      ap (λ (x : Verdict). keeping (after_verdict w s x o) s.number r (newly_kept r x (told_verdict w s x o))) is
      ∙ ap (keeping (after_verdict w s v o) s.number r) newly

  -- where nothing is kept, and the world is as it was
  unchanged : (v : Verdict) (o : Outcome) → verdict w s r ≡ v → newly_kept r v (told_verdict w s v o) ≡ None → after_verdict w s v o ≡ w → view_at (new_of o) n ≡ view_at w n
  unchanged v o is newly stays = ap (λ (x : World). view_at x n) (world-is v o None is newly ∙ stays)

  not-ok : (x : Refused) → verdict w s r ≡ refused x → x.code ≢ code.Ok
  not-ok x is ok =
      let short = and_parts (is_short x.reply) (not (is_ok x.code)) (ap refuses_shortly (sym is) ∙ verdict-short w s r sound) in
      false≢true (sym (ap (λ (c : Code). not (is_ok c)) ok) ∙ short.1)

  effect-sound : (call : Call) → verdict w s r ≡ runs call → IsSound (effect w s call).world
  effect-sound call is = let c = comes-to w s r call is in (row-sound call).sound w s (λ x. is_on_link l x.place) (knows call c.spelt) at c.passes sound

  -- the answers that change nothing

  abbrev Same : Outcome → Answer → Type 0
  Same o a = IsAnswered (view_at w n) (told_of o) (view_at (new_of o) n) a

  same-refused : (x : Refused) (o : Outcome) → is_kept_command (block_of r) ≡ false → verdict w s r ≡ refused x → Same o (record { code = x.code; block = canonical_reply x.reply })
  same-refused x o off is = record {
    tells = told-is (refused x) o is;
    left = unchanged (refused x) o is (kept-none r x.code (canonical_reply x.reply) false (unkept r x.code off)) refl;
  }

  same-fault : (call : Call) → verdict w s r ≡ runs call → Same outcome.Fault (record { code = code.MiscErr; block = [] })
  same-fault call is = record {
    tells = told-is (runs call) outcome.Fault is;
    left = unchanged (runs call) outcome.Fault is (kept-none r code.MiscErr [] false refl) refl;
  }

  -- FPLogout

  logs-out : is_kept_command (block_of r) ≡ false → asked ≡ Some Logout → verdict w s r ≡ runs Logout
  logs-out off e =
      let b = logout-begins (block_of r) (enclosed_of r) e in
      runs-of w s r Logout (record {
        new = none-cached off;
        command = logout_command;
        fields = b.fields;
        block = b.is;
        known = logout-known;
        user = and-false (is_none s.user) (needs_user logout_command) refl;
        spelt = e;
        passes = logout-passes w s;
      })

  logout-changes : (o : Outcome) → IsSound (new_of o) → is_legal_outcome (committed_in w (Some s) r) o ≡ true → asked ≡ Some Logout → IsLoggedOut n (view_at w n) l s.number o (told_of o) (view_at (new_of o) n)
  logout-changes outcome.Fault sound' legal e =
      let is = logs-out (logout-unkept (block_of r) (enclosed_of r) e) e in
      absurd (false≢true (sym (ap (λ (v : Verdict). is_some (committed_by w s v)) is ∙ ap is_some (logout-commits w s)) ∙ legal))
  logout-changes outcome.Done sound' legal e =
      let off = logout-unkept (block_of r) (enclosed_of r) e in
      let is = logs-out off e in
      let tells : told_verdict w s (runs Logout) outcome.Done ≡ told.Reply code.Ok [] true = logout-told w s in
      let newly : newly_kept r (runs Logout) (told_verdict w s (runs Logout) outcome.Done) ≡ None = ap (kept_answer r) tells ∙ kept-none r code.Ok [] true (unkept r code.Ok off) in
      let world : new_of outcome.Done ≡ without_session w s.number = world-is (runs Logout) outcome.Done None is newly ∙ logout-world w s in
      record {
        done = refl;
        tells = told-is (runs Logout) outcome.Done is ∙ tells;
        left = ap (λ (x : World). view_at x n) world ∙ view-ended w n l s sound (subst IsSound world sound') on;
      }

  -- FPGetSessionToken

  abbrev Asked : Outcome → Type 0
  Asked o = (a : Answer) × Same o a × (a.code ≡ code.Ok → a.block ≡ canonical_reply (Token (session_token w.house.token_key s.number)))

  token-changes : (kind : ℕ) (stamp : Option ℕ) (id : List ℕ) (o : Outcome) → asked ≡ Some (GetSessionToken kind stamp id) → Asked o
  token-changes kind stamp id o e = by (verdict w s r) o refl
    where
      off : is_kept_command (block_of r) ≡ false
      off = token-unkept (block_of r) (enclosed_of r) kind stamp id e

      runs-it : (call : Call) → verdict w s r ≡ runs call → call ≡ GetSessionToken kind stamp id
      runs-it call is = let h : Some call ≡ Some (GetSessionToken kind stamp id) = sym (comes-to w s r call is).spelt ∙ e in cc

      by : (v : Verdict) (o : Outcome) → verdict w s r ≡ v → Asked o
      by (repeats a) o is = absurd (not-again off a is)
      by (refused x) o is = (record { code = x.code; block = canonical_reply x.reply }, same-refused x o off is, λ ok. absurd (not-ok x is ok))
      by (runs call) outcome.Fault is = (record { code = code.MiscErr; block = [] }, same-fault call is, λ ok. absurd (cc))
      by (runs call) outcome.Done is =
          let call-is = runs-it call is in
          let does : effect w s call ≡ record { world = w; reply = Token (session_token w.house.token_key s.number) } = ap (effect w s) call-is ∙ token-effect w s kind stamp id in
          let tells : told_verdict w s (runs call) outcome.Done ≡ told.Reply code.Ok (canonical_reply (Token (session_token w.house.token_key s.number))) false =
          (λ i. told.Reply code.Ok (canonical_reply (does i).reply) (ends_session (call-is i))) in (
            record { code = code.Ok; block = canonical_reply (Token (session_token w.house.token_key s.number)) },
            record {
              tells = told-is (runs call) outcome.Done is ∙ tells;
              left = unchanged (runs call) outcome.Done is (ap (kept_answer r) tells ∙ kept-none r code.Ok (canonical_reply (Token (session_token w.house.token_key s.number))) false (unkept r code.Ok off)) (ap (λ (x : Effect). x.world) does);
            },
            λ ok. refl,
          )

  -- FPDisconnectOldSession

  abbrev Back : List ℕ → Outcome → Type 0
  Back token o = ((a : Answer) × Same o a × (a.code ≢ code.Ok)) ⊎ ((m : ℕ) × IsBack w.house.token_key n (view_at w n) l s.number token o (told_of o) (view_at (new_of o) n) m)

  back-done : (kind : ℕ) (token : List ℕ) (old : Session) → asked ≡ Some (DisconnectOldSession kind token) → verdict w s r ≡ runs (DisconnectOldSession kind token) → old_session_in w s token ≡ Some old → IsSound (new_of outcome.Done) → Back token outcome.Done
  unfolding old_session
  back-done kind token old e is found sound' =
      let off = back-unkept (block_of r) (enclosed_of r) kind token e in
      let of = found-by (is_old_session w.house.token_key w.latest s.number token) w.sessions old (sound-numbers w sound) found in
      let p = and_parts (not (nat_eq old.number s.number)) (not (is_expired w.latest old.place) && bytes_eq (session_token w.house.token_key old.number) token) of.1 in
      let q = and_parts (not (is_expired w.latest old.place)) (bytes_eq (session_token w.house.token_key old.number) token) p.1 in
      let other : old.number ≡ s.number → ⊥ = λ same. false≢true (sym (ap not (eq-eqb old.number s.number same)) ∙ p.0) in
      let does : effect w s (DisconnectOldSession kind token) ≡ rejoins w s (Some old) = back-effect w s kind token ∙ ap (rejoins w s) found in
      let tells : told_verdict w s (runs (DisconnectOldSession kind token)) outcome.Done ≡ told.Reply code.Ok [] false = ap (λ (x : Effect). told.Reply code.Ok (canonical_reply x.reply) false) does in
      let newly : newly_kept r (runs (DisconnectOldSession kind token)) (told_verdict w s (runs (DisconnectOldSession kind token)) outcome.Done) ≡ None = ap (kept_answer r) tells ∙ kept-none r code.Ok [] false (unkept r code.Ok off) in
      let world : new_of outcome.Done ≡ adopting w l s.number old.number =
      world-is (runs (DisconnectOldSession kind token)) outcome.Done None is newly ∙ ap (λ (x : Effect). x.world) does ∙ back-world w l s old sound on of.0 other in
      inr (
        old.number,
        record {
          is_token = sym (bytes_same (session_token w.house.token_key old.number) token q.1);
          other = other;
          drawn = sound-below w old.number old sound of.0;
          done = refl;
          tells = told-is (runs (DisconnectOldSession kind token)) outcome.Done is ∙ tells;
          left = ap (λ (x : World). view_at x n) world ∙ view-adopted w n l s old sound (subst IsSound world sound') on of.0 other;
        },
      )

  back-changes : (kind : ℕ) (token : List ℕ) (o : Outcome) → IsSound (new_of o) → asked ≡ Some (DisconnectOldSession kind token) → Back token o
  back-changes kind token o sound' e = by (verdict w s r) o refl sound'
    where
      off : is_kept_command (block_of r) ≡ false
      off = back-unkept (block_of r) (enclosed_of r) kind token e

      runs-it : (call : Call) → verdict w s r ≡ runs call → call ≡ DisconnectOldSession kind token
      runs-it call is = let h : Some call ≡ Some (DisconnectOldSession kind token) = sym (comes-to w s r call is).spelt ∙ e in cc

      there : (q : Option Session) → old_session_in w s token ≡ q → first_holding (old_session_refusals s q) ≡ None → verdict w s r ≡ runs (DisconnectOldSession kind token) → IsSound (new_of outcome.Done) → Back token outcome.Done
      there None found passes is sound' = absurd (let bad : Some (plain code.ItemNotFound) ≡ None = passes in cc)
      there (Some old) found passes is sound' = back-done kind token old e is found sound'

      by : (v : Verdict) (o : Outcome) → verdict w s r ≡ v → IsSound (new_of o) → Back token o
      by (repeats a) o is sound' = absurd (not-again off a is)
      by (refused x) o is sound' = inl (record { code = x.code; block = canonical_reply x.reply }, same-refused x o off is, not-ok x is)
      by (runs call) outcome.Fault is sound' = inl (record { code = code.MiscErr; block = [] }, same-fault call is, λ ok. cc)
      by (runs call) outcome.Done is sound' =
          let call-is = runs-it call is in
          let so : verdict w s r ≡ runs (DisconnectOldSession kind token) = is ∙ ap runs call-is in
          let passes : refusal w s (DisconnectOldSession kind token) ≡ None = ap (refusal w s) (sym call-is) ∙ (comes-to w s r call is).passes in
          there (old_session_in w s token) refl (sym (back-refusal w s kind token) ∙ passes) so sound'

  -- the other calls

  module _ (stays : (c : Call) → asked ≡ Some c → moves_sessions c ≡ false) where
    stays-of : (call : Call) → verdict w s r ≡ runs call → moves_sessions call ≡ false
    stays-of call is = stays call (comes-to w s r call is).spelt

    view-done : (call : Call) (m : ℕ) → verdict w s r ≡ runs call → view_at (effect w s call).world m ≡ view_at w m
    view-done call m is = row-view w s call m (stays-of call is) sound (effect-sound call is) on.is

    done-tells : (call : Call) → verdict w s r ≡ runs call → told_verdict w s (runs call) outcome.Done ≡ told.Reply code.Ok (canonical_reply (effect w s call).reply) false
    done-tells call is = ap (λ (b : Bool). told.Reply code.Ok (canonical_reply (effect w s call).reply) b) (ends-not call (stays-of call is))

    unkept-changes : (o : Outcome) → is_kept_command (block_of r) ≡ false → (a : Answer) × Same o a
    unkept-changes o off = by (verdict w s r) o refl
      where
        by : (v : Verdict) (o : Outcome) → verdict w s r ≡ v → (a : Answer) × Same o a
        by (repeats a) o is = absurd (not-again off a is)
        by (refused x) o is = (record { code = x.code; block = canonical_reply x.reply }, same-refused x o off is)
        by (runs call) outcome.Fault is = (record { code = code.MiscErr; block = [] }, same-fault call is)
        by (runs call) outcome.Done is =
            let tells = done-tells call is in
            let newly : newly_kept r (runs call) (told_verdict w s (runs call) outcome.Done) ≡ None = ap (kept_answer r) tells ∙ kept-none r code.Ok (canonical_reply (effect w s call).reply) false (unkept r code.Ok off) in (
              record { code = code.Ok; block = canonical_reply (effect w s call).reply },
              record {
                tells = told-is (runs call) outcome.Done is ∙ tells;
                left = ap (λ (x : World). view_at x n) (world-is (runs call) outcome.Done None is newly) ∙ view-done call n is;
              },
            )

    abbrev Kept_changes : Outcome → Type 0
    Kept_changes o = ((a : Answer) × IsRepeated n (view_at w n) s.number r (told_of o) (view_at (new_of o) n) a)
        ⊎ (IsFault n (view_at w n) s.number r o (told_of o) (view_at (new_of o) n) ⊎ ((a : Answer) × IsKeptNow n (view_at w n) s.number r (told_of o) (view_at (new_of o) n) a))

    kept-changes : (o : Outcome) → IsSound (new_of o) → is_kept_command (block_of r) ≡ true → Kept_changes o
    kept-changes o sound' kept = by (verdict w s r) o refl sound'
      where
        by : (v : Verdict) (o : Outcome) → verdict w s r ≡ v → IsSound (new_of o) → Kept_changes o
        by (repeats a) o is sound' = inl (
          a,
          record {
            kept = own-answer (Some a) (repeats-kept w s r a is);
            answered = record { tells = told-is (repeats a) o is; left = unchanged (repeats a) o is refl refl };
          },
        )
        by (refused x) o is sound' =
            let a : Answer = record { code = x.code; block = canonical_reply x.reply } in
            let keeps = kept-by r x.code (refused-kept w s r x sound is) kept in
            let world : new_of o ≡ kept_in w s.number r a = world-is (refused x) o (Some a) is (kept-some r x.code (canonical_reply x.reply) false keeps) in
            inr (inr (
              a,
              record {
                new = own-answer None (new-cached (refused x) is refl);
                keeps = keeps;
                tells = told-is (refused x) o is;
                left = ap (λ (y : World). view_at y n) world ∙ view-kept w w n s r a sound (subst IsSound world sound') on.is (λ m. refl);
              },
            ))
        by (runs call) outcome.Fault is sound' = inr (inl (record { new = own-answer None (new-cached (runs call) is refl); fault = refl; answered = same-fault call is }))
        by (runs call) outcome.Done is sound' =
            let a : Answer = record { code = code.Ok; block = canonical_reply (effect w s call).reply } in
            let keeps = kept-by r code.Ok refl kept in
            let tells = done-tells call is in
            let newly : newly_kept r (runs call) (told_verdict w s (runs call) outcome.Done) ≡ Some a = ap (kept_answer r) tells ∙ kept-some r code.Ok (canonical_reply (effect w s call).reply) false keeps in
            let world : new_of outcome.Done ≡ kept_in (effect w s call).world s.number r a = world-is (runs call) outcome.Done (Some a) is newly in
            inr (inr (
              a,
              record {
                new = own-answer None (new-cached (runs call) is refl);
                keeps = keeps;
                tells = told-is (runs call) outcome.Done is ∙ tells;
                left = ap (λ (y : World). view_at y n) world ∙ view-kept w (effect w s call).world n s r a (effect-sound call is) (subst IsSound world sound') on.is (λ m. view-done call m is);
              },
            ))

    plain-changes : (o : Outcome) → IsSound (new_of o) → CallChanges w.house.token_key n (view_at w n) l s.number r o (told_of o) (view_at (new_of o) n) (cond (is_kept_command (block_of r)) AsksKept AsksUnkept)
    plain-changes o sound' =
        cond_both (is_kept_command (block_of r)) AsksKept AsksUnkept (λ q. CallChanges w.house.token_key n (view_at w n) l s.number r o (told_of o) (view_at (new_of o) n) q)
        (λ kept. kept-changes o sound' kept)
        (λ off. unkept-changes o off)

  wish-changes : (q : Option Call) (o : Outcome) → asked ≡ q → IsSound (new_of o) → is_legal_outcome (committed_in w (Some s) r) o ≡ true
      → CallChanges w.house.token_key n (view_at w n) l s.number r o (told_of o) (view_at (new_of o) n) (wish_of_call (is_kept_command (block_of r)) q)
  wish-changes None o e sound' legal = plain-changes (λ c is. absurd (let bad : None ≡ Some c = sym e ∙ is in cc)) o sound'
  wish-changes (Some Logout) o e sound' legal = logout-changes o sound' legal e
  wish-changes (Some (GetSessionToken kind stamp id)) o e sound' legal = token-changes kind stamp id o e
  wish-changes (Some (DisconnectOldSession kind token)) o e sound' legal = back-changes kind token o sound' e
  wish-changes (Some call) o e sound' legal = plain-changes (λ c is. let h : Some c ≡ Some call = sym is ∙ e in let same : c ≡ call = cc in ap moves_sessions same) o sound'

  found-changes : (o : Outcome) → IsSound (new_of o) → is_legal_outcome (committed_in w (Some s) r) o ≡ true
      → CallChanges w.house.token_key n (view_at w n) l s.number r o (told_of o) (view_at (new_of o) n) (wish_of r)
  found-changes o sound' legal = wish-changes asked o refl sound' legal

-- ---- every ask

abbrev Changes : World → ℕ → ℕ → Option ℕ → Ask → Outcome → Told → World → Type 0
Changes w n l holder a o t v = AskChanges w.house.token_key n (view_at w n) l holder a o t (view_at v n)

open-changes : (w : World) (n l : ℕ) (h : Option ℕ) (attention : ℕ) (o : Outcome) (full : Bool) → IsSound w → IsSound (cond full w (with_new_session w))
    → Changes w n l h (ask.Open attention) o (cond full (refusal_reply code.NoMoreSessions) (told.Opened (link_number w.next_link))) (cond full w (with_new_session w))
open-changes w n l h attention o true sound sound' = inr (record { code = code.NoMoreSessions; block = [] }, record { tells = refl; left = refl }, λ ok. cc)
open-changes w n l h attention o false sound sound' = inl (refl, view-opened w n sound sound')

call-changes : (w : World) (n l id : ℕ) (write : Bool) (offset : ℕ) (payload : List ℕ) (o : Outcome) (found : Option Session)
    → ((c : Call) → spelt_call (block_of (request id write offset payload)) (enclosed_of (request id write offset payload)) ≡ Some c → IsLawful c)
    → IsSound w → IsSound (after_call w found (request id write offset payload) o) → session_at w l ≡ found → is_legal_outcome (committed_in w found (request id write offset payload)) o ≡ true
    → Changes w n l (number_of found) (ask.Call id write offset payload) o (told_call w found (request id write offset payload) o) (after_call w found (request id write offset payload) o)
call-changes w n l id write offset payload o None knows sound sound' at legal = (refl, refl)
call-changes w n l id write offset payload o (Some s) knows sound sound' at legal = found-changes w l n s (request id write offset payload) sound knows at o sound' legal

pulse-told : (w : World) (link : ℕ) (found : Option Session) → (told_pulse w link found ≡ told.Displaced) ⊎ ((drain : Option ℕ) × (told_pulse w link found ≡ told.Live drain))
pulse-told w link None = cond_both (link == 0) (told.Live w.drain) told.Displaced (λ t. (t ≡ told.Displaced) ⊎ ((drain : Option ℕ) × (t ≡ told.Live drain))) (λ none. inr (w.drain, refl)) (λ some. inl refl)
pulse-told w link (Some s) = inr (w.drain, refl)

bye-changes : (w : World) (n l : ℕ) (o : Outcome) (found : Option Session) → IsSound w → IsSound (after_parting w found) → session_at w l ≡ found → Changes w n l (number_of found) ask.Bye o (told_parting found) (after_parting w found)
bye-changes w n l o None sound sound' at = (refl, refl)
bye-changes w n l o (Some s) sound sound' at = (refl, view-ended w n l s sound sound' (on-link w l s sound at))

-- a session that waits is another one in its place
waits-world : (w : World) (s : Session) → IsSound w → session_of w.sessions s.number ≡ Some s → with_session w (record s { place = Detached w.latest }) ≡ detaching w s.number w.latest
waits-world w s sound there = ap (λ (ss : List Session). record w { sessions = ss }) (put-changed w.sessions s (λ x. record x { place = Detached w.latest }) (sound-numbers w sound) there)

lost-changes : (w : World) (n l : ℕ) (o : Outcome) (found : Option Session) → IsSound w → IsSound (after_lost w found) → session_at w l ≡ found → Changes w n l (number_of found) ask.Lost o (told_parting found) (after_lost w found)
lost-changes w n l o None sound sound' at = (refl, refl)
lost-changes w n l o (Some s) sound sound' at = (refl, by s.user sound')
  where
    on : OnLink w l s
    on = on-link w l s sound at

    by : (user : Option ℕ) → IsSound (losing w s user) → (view_at (losing w s user) n ≡ ended n (view_at w n) l s.number) ⊎ (view_at (losing w s user) n ≡ detached (view_at w n) l)
    by None sound' = inl (view-ended w n l s sound sound' on)
    by (Some user) sound' =
        let world = waits-world w s sound on.is in
        inr (ap (λ (x : World). view_at x n) world ∙ view-detached w n l w.latest s sound (subst IsSound world sound') on)

at-changes : (w : World) (n l : ℕ) (a : Ask) (o : Outcome) → IsKnown IsLawful a → IsSound w → IsSound (after_at w l a o) → is_legal_outcome (committed_at w l a) o ≡ true
    → Changes w n l (holder_of w l) a o (answer_at w l a o) (after_at w l a o)
unfolding after_at answer_at committed_at
at-changes w n l (ask.Open attention) o knows sound sound' legal = open-changes w n l (holder_of w l) attention o (is_full w) sound sound'
at-changes w n l (ask.Call id write offset payload) o knows sound sound' legal = call-changes w n l id write offset payload o (session_at w l) knows sound sound' refl legal
at-changes w n l ask.Pulse o knows sound sound' legal = (view-swept w n sound sound', pulse-told w l (session_at w l))
at-changes w n l ask.Bye o knows sound sound' legal = bye-changes w n l o (session_at w l) sound sound' refl
at-changes w n l ask.Lost o knows sound sound' legal = lost-changes w n l o (session_at w l) sound sound' refl
at-changes w n l ask.Drain o knows sound sound' legal = (refl, refl)

pub changes-views : ChangesViews
changes-views w e n sound legal =
    at-changes (at_moment w e.at) n e.link.0 e.ask e.outcome (legal-lawful w e legal) (moment-sound w e.at (legal-moment w e legal) sound) (after-sound w e sound legal)
    (and_parts (is_typed_entry e) (is_legal_outcome (committed_of w e) e.outcome) legal).1

pub holder-is-there : HolderIsThere
holder-is-there w n l sound e =
    let h = holds-has w.sessions n l (sound-numbers w sound) e in
    (ap is_some h.is, sound-below w n h.session sound h.is)

-- Breaks change nothing: step by step.
use Rattle.std.proofs.Common.{◌≡◌, refl, sym, ap, ◌∙◌, subst, ℕ, suc, max, ◌+◌, ◌<◌, Bool, true, false, ◌&&◌, cond, List, [], ◌∷◌, ◌++◌, length, map, Option, Some, None, arith}
use Rattle.std.specs.Prelude.{◌==◌, drop, nat_lt, sum_by}
use Rattle.std.specs.List.{AllByRecursion, list_all}
use Rattle.std.proofs.lemmas.Bool.{and_from, and_parts, lt-ltb, ltb-true, ne_eqb}
use Rattle.std.proofs.lemmas.List.{drop_at, take_at}
use Rattle.std.proofs.lemmas.List.Sums.{sum_by-append, sum_by-cons}
use Rattle.afp_calls_grammar.specs.grammar.Call.{canonical_call, canonical_data}
use Rattle.afp_calls_grammar.specs.grammar.Laws.{CanonicalIsReadAgain}
use Rattle.afp_calls_grammar.specs.grammar.Spelt.{spelt_call}
use Rattle.afp_calls_grammar.specs.declared.grammar.call.Call.{Call}
use Rattle.afp_calls_grammar.specs.declared.grammar.call.Call.TheVariants.{ByteRangeLock, CloseFork, CreateFile, Delete, EnumerateExt2, OpenFork, Rename, Write}
use Rattle.afp_serial.proofs.Grows.{stand-append}
use Rattle.afp_serial.proofs.SoundParts.{is_below, sessions-parts}
use Rattle.afp_serial.proofs.StaysSound.{moment-sound}
use Rattle.afp_serial.specs.Answer.{after, after_at, answer, answer_at, is_legal, link_number}
use Rattle.afp_serial.specs.History.{answers, entry, is_opened, opened_in, stand}
use Rattle.afp_serial.specs.KeptAnswers.{is_kept_command}
use Rattle.afp_serial.specs.KeptLaws.{FindsKept}
use Rattle.afp_serial.specs.Laws.{KeepsSound}
use Rattle.afp_serial.specs.Limits.{links_end}
use Rattle.afp_serial.specs.Ranges.{is_moment, is_typed_ask, is_typed_entry}
use Rattle.afp_serial.specs.Rows.{ends_session}
use Rattle.afp_serial.specs.SessionViews.{AsksKept, AsksUnkept, wish_of_call}
use Rattle.afp_serial.specs.Sound.{IsSound, is_link_below}
use Rattle.afp_serial.specs.SweepLaws.{EndsNone}
use Rattle.afp_serial.specs.Token.{session_token}
use Rattle.afp_serial.specs.Users.{guest_id}
use Rattle.afp_serial.specs.World.{Session, World, at_moment}
use Rattle.afp_serial.specs.declared.ask.Ask.TheVariants as ask
use Rattle.afp_serial.specs.declared.ask.Entry.{Entry}
use Rattle.afp_serial.specs.declared.ask.Outcome.TheVariants.{Done}
use Rattle.afp_serial.specs.declared.ask.Told.{Told}
use Rattle.volume_spec.specs.TypedVolume.{is_quad}
use Rattle.once_across_breaks.proofs.OfSame.Asking.{Goes, call-goes}
use Rattle.once_across_breaks.proofs.OfSame.Rejoining.{IsOwned, back-none, owned, rejoined, rejoining-back, rejoining-told}
use Rattle.once_across_breaks.proofs.OfSame.Rows.{held, row-steady}
use Rattle.once_across_breaks.specs.declared.same.breaks.Break.{Break}
use Rattle.once_across_breaks.specs.declared.same.breaks.Break.TheVariants.{Before, Behind, Never}
use Rattle.once_across_breaks.specs.same.Laws.{BreaksChangeNoResult, IsAlone, IsStep, is_of_law, on_link, with_link}
use Rattle.once_across_breaks.specs.same.Steps.{Step, all_asks, ask_with, asks_back, back_in, breaks_in, call_ask, first_asks, is_back, is_broken, last_ask, link_behind, rejoins, results, step_asks, step_call, unbroken}

-- ---- histories

answers-append : (w : World) (a b : List Entry) → answers w (a ++ b) ≡ answers w a ++ answers (stand w a) b
answers-append w [] b = refl
answers-append w (e ∷ a) b = ap (λ (l : List Told). answer w e ∷ l) (answers-append (after w e) a b)

pub opened-append : (w : World) (a b : List Entry) → opened_in w (a ++ b) ≡ opened_in w a + opened_in (stand w a) b
opened-append w a b = ap (λ (l : List Told). sum_by (λ t. cond (is_opened t) 1 0) l) (answers-append w a b) ∙ sum_by-append (λ t. cond (is_opened t) 1 0) (answers w a) (answers (stand w a) b)

pub opened-one : (w : World) (e : Entry) (t : Told) → answer w e ≡ t → is_opened t ≡ false → opened_in w (e ∷ []) ≡ 0
opened-one w e t tells none = ap (λ x. sum_by (λ t. cond (is_opened t) 1 0) (x ∷ [])) tells ∙ sum_by-cons (λ t. cond (is_opened t) 1 0) t [] ∙ ap (λ b. cond b 1 0 + 0) none

pub back-append : (w : World) (a b : List Entry) → back_in w (a ++ b) ≡ back_in w a + back_in (stand w a) b
back-append w [] b = omega arith
back-append w (e ∷ a) b = let rest = back-append (after w e) a b in omega (arith, rest)

-- the latest moment is there already
at-twice : (w : World) (moment : ℕ) → at_moment (at_moment w moment) moment ≡ at_moment w moment
at-twice w moment = let same : max (max w.latest moment) moment ≡ max w.latest moment = omega arith in λ i. record w { latest = same i }

stand-later : (w : World) (e : Entry) (es : List Entry) → stand w (e ∷ es) ≡ stand (at_moment w e.at) (e ∷ es)
stand-later w e es = ap (λ x. stand (after_at x e.link.0 e.ask e.outcome) es) (sym (at-twice w e.at))

answers-later : (w : World) (e : Entry) (es : List Entry) → answers w (e ∷ es) ≡ answers (at_moment w e.at) (e ∷ es)
answers-later w e es = ap (λ x. answer_at x e.link.0 e.ask e.outcome ∷ answers (after_at x e.link.0 e.ask e.outcome) es) (sym (at-twice w e.at))

back-later : (w : World) (e : Entry) (es : List Entry) → back_in w (e ∷ es) ≡ back_in (at_moment w e.at) (e ∷ es)
back-later w e es = ap (λ x. cond (is_back e.ask (answer_at x e.link.0 e.ask e.outcome)) 1 0 + back_in (after_at x e.link.0 e.ask e.outcome) es) (sym (at-twice w e.at))

-- ---- the law's calls

kept-call : (call : Call) → is_of_law call ≡ true → is_kept_command (canonical_call call) ≡ true
unfolding canonical_call
kept-call (CreateFile flag volume dir path) h = refl
kept-call (Delete volume dir path) h = refl
kept-call (Rename volume dir path new_path) h = refl
kept-call (OpenFork flag volume dir bits mode path) h = refl
kept-call (CloseFork reference) h = refl
kept-call (ByteRangeLock flags reference offset length) h = refl
kept-call (Write flag reference offset count piece) h = refl
kept-call (EnumerateExt2 volume dir file_bits dir_bits count start size path) h = refl
kept-call call h = absurd (cc)

pub unasked : (b : Bool) → asks_back (cond b AsksKept AsksUnkept) ≡ false
unasked true = refl
unasked false = refl

stands-call : (call : Call) → is_of_law call ≡ true → (b : Bool) → asks_back (wish_of_call b (Some call)) ≡ false
stands-call (CreateFile flag volume dir path) h = unasked
stands-call (Delete volume dir path) h = unasked
stands-call (Rename volume dir path new_path) h = unasked
stands-call (OpenFork flag volume dir bits mode path) h = unasked
stands-call (CloseFork reference) h = unasked
stands-call (ByteRangeLock flags reference offset length) h = unasked
stands-call (Write flag reference offset count piece) h = unasked
stands-call (EnumerateExt2 volume dir file_bits dir_bits count start size path) h = unasked
stands-call call h = absurd (cc)

stays-call : (call : Call) → is_of_law call ≡ true → ends_session call ≡ false
stays-call (CreateFile flag volume dir path) h = refl
stays-call (Delete volume dir path) h = refl
stays-call (Rename volume dir path new_path) h = refl
stays-call (OpenFork flag volume dir bits mode path) h = refl
stays-call (CloseFork reference) h = refl
stays-call (ByteRangeLock flags reference offset length) h = refl
stays-call (Write flag reference offset count piece) h = refl
stays-call (EnumerateExt2 volume dir file_bits dir_bits count start size path) h = refl
stays-call call h = absurd (cc)

-- a world where a client is alone, by its session and its link
pub alone-held : (w : World) (s : Session) (link : ℕ) → IsAlone w s link → w ≡ held w s link (suc link)
alone-held w s link h =
    (λ i. record w { next_link = h.next i; sessions = h.only i })
    ∙ (λ i. record w { next_link = suc link; sessions = record { number = s.number; place = h.place i; user = s.user; volumes = s.volumes; cache = s.cache } ∷ [] })

module _ (again : CanonicalIsReadAgain) (finds : FindsKept) (none : EndsNone) (keeps : KeepsSound) where
  -- what a step's call does, on each link
  goes-with : (w : World) (s : Session) (id : ℕ) (call : Call) (bytes : Option (List ℕ)) (first next : ℕ)
      → is_of_law call ≡ true → spelt_call (canonical_call call) bytes ≡ Some call → IsSound (held w s first next) → Goes w s (ask_with id call bytes)
  goes-with w s id call None first next h spelt sound =
      call-goes w s id false 0 (canonical_call call) call spelt (kept-call call h) (stands-call call h) (stays-call call h) (row-steady call h) finds first next sound
  goes-with w s id call (Some bytes) first next h spelt sound =
      let n : ℕ = length (canonical_call call) in
      let block = take_at (canonical_call call) bytes n refl in
      let rest = drop_at (canonical_call call) bytes n refl in
      call-goes w s id true n (canonical_call call ++ bytes) call
      ((λ i. spelt_call (block i) (Some (rest i))) ∙ spelt)
      (ap is_kept_command block ∙ kept-call call h)
      (stands-call call h) (stays-call call h) (row-steady call h) finds first next sound

  goes : (w : World) (s : Session) (step : Step) (first next : ℕ) → IsStep step → IsSound (held w s first next) → Goes w s (call_ask step.id step.call)
  goes w s step first next h sound = goes-with w s step.id step.call (canonical_data step.call) first next h.call (again step.call h.typed h.spellable) sound

  -- a step on a link that may break
  module _ (w : World) (s : Session) (step : Step) (link : ℕ) (user : s.user ≡ Some guest_id) (below : s.number < suc link) (room : suc link < links_end)
      (own : IsOwned w s.number) (g : Goes (at_moment w step.moment) s (call_ask step.id step.call)) (own_after : IsOwned g.world g.session.number) where
    abbrev token : List ℕ
    token = session_token w.house.token_key s.number

    abbrev now : World
    now = at_moment w step.moment

    abbrev start : World
    start = held w s link (suc link)

    other : (n : ℕ) → n ≡ s.number → (n == suc link) ≡ false
    other n is = ne_eqb n (suc link) (λ e. absurd (omega (arith, below, is, e)))

    -- the client comes back, where the latest moment is that of the step

    named : (x : World) (t : Session) (l n : ℕ) → t.user ≡ Some guest_id → held x t l n ≡ held x (record { number = t.number; place = t.place; user = Some guest_id; volumes = t.volumes; cache = t.cache }) l n
    named x t l n e = λ i. held x (record { number = t.number; place = t.place; user = e i; volumes = t.volumes; cache = t.cache }) l n

    back : (x : World) (t : Session) → max x.latest step.moment ≡ x.latest → x.house ≡ w.house → t.number ≡ s.number → t.user ≡ Some guest_id → IsOwned x t.number
        → stand (held x t link (suc link)) (rejoins token link step.moment) ≡ held x t (suc link) (suc (suc link))
    back x t latest house number is_guest owns =
        ap (λ y. stand y (rejoins token link step.moment)) (named x t link (suc link) is_guest)
        ∙ (λ i. stand (held x (record { number = t.number; place = t.place; user = Some guest_id; volumes = t.volumes; cache = t.cache }) link (suc link)) (rejoins (session_token (sym house i).token_key (sym number i)) link step.moment))
        ∙ rejoined again x step.moment latest t.number link t.volumes t.cache owns (other t.number number) room
        ∙ sym (named x t (suc link) (suc (suc link)) is_guest)

    back-opens : (x : World) (t : Session) → max x.latest step.moment ≡ x.latest → x.house ≡ w.house → t.number ≡ s.number → t.user ≡ Some guest_id → IsOwned x t.number
        → opened_in (held x t link (suc link)) (rejoins token link step.moment) ≡ 1
    back-opens x t latest house number is_guest owns =
        ap (λ y. opened_in y (rejoins token link step.moment)) (named x t link (suc link) is_guest)
        ∙ (λ i. opened_in (held x (record { number = t.number; place = t.place; user = Some guest_id; volumes = t.volumes; cache = t.cache }) link (suc link)) (rejoins (session_token (sym house i).token_key (sym number i)) link step.moment))
        ∙ ap (λ (l : List Told). sum_by (λ y. cond (is_opened y) 1 0) l) (rejoining-told again x step.moment latest t.number link t.volumes t.cache owns (other t.number number) room)

    back-comes : (x : World) (t : Session) → max x.latest step.moment ≡ x.latest → x.house ≡ w.house → t.number ≡ s.number → t.user ≡ Some guest_id → IsOwned x t.number
        → back_in (held x t link (suc link)) (rejoins token link step.moment) ≡ 1
    back-comes x t latest house number is_guest owns =
        ap (λ y. back_in y (rejoins token link step.moment)) (named x t link (suc link) is_guest)
        ∙ (λ i. back_in (held x (record { number = t.number; place = t.place; user = Some guest_id; volumes = t.volumes; cache = t.cache }) link (suc link)) (rejoins (session_token (sym house i).token_key (sym number i)) link step.moment))
        ∙ rejoining-back again x step.moment latest t.number link t.volumes t.cache owns (other t.number number) room

    later : max now.latest step.moment ≡ now.latest
    later = omega arith

    world-later : max g.world.latest step.moment ≡ g.world.latest
    world-later = let is = g.latest in omega (arith, is)

    first-left : stand start (rejoins token link step.moment) ≡ held now s (suc link) (suc (suc link))
    first-left = stand-later start (entry step.moment (link_number link) ask.Lost Done) (drop 1 (rejoins token link step.moment)) ∙ back now s later refl refl user (record { opens = own.opens; locks = own.locks })

    first-opens : opened_in start (rejoins token link step.moment) ≡ 1
    first-opens =
        ap (λ (l : List Told). sum_by (λ y. cond (is_opened y) 1 0) l) (answers-later start (entry step.moment (link_number link) ask.Lost Done) (drop 1 (rejoins token link step.moment)))
        ∙ back-opens now s later refl refl user (record { opens = own.opens; locks = own.locks })

    behind-left : stand start (step_call link step ∷ rejoins token link step.moment) ≡ held g.world g.session (suc link) (suc (suc link))
    behind-left = ap (λ y. stand y (rejoins token link step.moment)) (g.after link (suc link)) ∙ back g.world g.session world-later g.house g.number (g.user ∙ user) own_after

    behind-opens : opened_in start (step_call link step ∷ rejoins token link step.moment) ≡ 1
    behind-opens =
        sum_by-cons (λ y. cond (is_opened y) 1 0) (answer start (step_call link step)) (answers (after start (step_call link step)) (rejoins token link step.moment))
        ∙ (λ i. cond (is_opened (g.tells link (suc link) i)) 1 0 + opened_in (g.after link (suc link) i) (rejoins token link step.moment))
        ∙ (λ i. cond (g.opens_none i) 1 0 + back-opens g.world g.session world-later g.house g.number (g.user ∙ user) own_after i)

    first-back : back_in start (rejoins token link step.moment) ≡ 1
    first-back =
        back-later start (entry step.moment (link_number link) ask.Lost Done) (drop 1 (rejoins token link step.moment)) ∙ back-comes now s later refl refl user (record { opens = own.opens; locks = own.locks })

    behind-back : back_in start (step_call link step ∷ rejoins token link step.moment) ≡ 1
    behind-back =
        back-none start (step_call link step) (rejoins token link step.moment) (g.back_none (answer start (step_call link step)))
        ∙ ap (λ y. back_in y (rejoins token link step.moment)) (g.after link (suc link))
        ∙ back-comes g.world g.session world-later g.house g.number (g.user ∙ user) own_after

    fixed-now : (l n : ℕ) → at_moment (held now s l n) step.moment ≡ held now s l n
    fixed-now l n = at-twice (held w s l n) step.moment

    fixed-world : (l n : ℕ) → at_moment (held g.world g.session l n) step.moment ≡ held g.world g.session l n
    fixed-world l n = λ i. record g.world { latest = world-later i; next_link = n; sessions = on_link l g.session ∷ [] }

    -- what its call is told where the reply comes to the client
    step-told : (b : Break) → answer (stand start (first_asks token link step b)) (step_call (link_behind link b) step) ≡ g.told
    step-told Never = g.tells link (suc link)
    step-told Before =
        ap (λ y. answer y (step_call (suc link) step)) first-left
        ∙ ap (λ y. answer_at y (suc link) (call_ask step.id step.call) Done) (fixed-now (suc link) (suc (suc link)))
        ∙ g.tells (suc link) (suc (suc link))
    step-told Behind =
        ap (λ y. answer y (step_call (suc link) step)) behind-left
        ∙ ap (λ y. answer_at y (suc link) (call_ask step.id step.call) Done) (fixed-world (suc link) (suc (suc link)))
        ∙ g.tells_again (suc link) (suc (suc link))

    last-left : (b : Break) → after (stand start (first_asks token link step b)) (step_call (link_behind link b) step) ≡ held g.world g.session (link_behind link b) (suc (link_behind link b))
    last-left Never = g.after link (suc link)
    last-left Before =
        ap (λ y. after y (step_call (suc link) step)) first-left
        ∙ ap (λ y. after_at y (suc link) (call_ask step.id step.call) Done) (fixed-now (suc link) (suc (suc link)))
        ∙ g.after (suc link) (suc (suc link))
    last-left Behind =
        ap (λ y. after y (step_call (suc link) step)) behind-left
        ∙ ap (λ y. after_at y (suc link) (call_ask step.id step.call) Done) (fixed-world (suc link) (suc (suc link)))
        ∙ g.after_again (suc link) (suc (suc link))

    step-left : stand start (step_asks token link step) ≡ held g.world g.session (link_behind link step.breaks) (suc (link_behind link step.breaks))
    step-left = stand-append start (first_asks token link step step.breaks) (last_ask link step ∷ []) ∙ last-left step.breaks

    first-opened : (b : Break) → opened_in start (first_asks token link step b) ≡ is_broken b
    first-opened Never = refl
    first-opened Before = first-opens
    first-opened Behind = behind-opens

    step-opened : opened_in start (step_asks token link step) ≡ is_broken step.breaks
    step-opened =
        opened-append start (first_asks token link step step.breaks) (last_ask link step ∷ [])
        ∙ (λ i. first-opened step.breaks i + opened-one (stand start (first_asks token link step step.breaks)) (last_ask link step) g.told (step-told step.breaks) g.opens_none i)
        ∙ omega arith

    first-backs : (b : Break) → back_in start (first_asks token link step b) ≡ is_broken b
    first-backs Never = refl
    first-backs Before = first-back
    first-backs Behind = behind-back

    step-back : back_in start (step_asks token link step) ≡ is_broken step.breaks
    step-back =
        back-append start (first_asks token link step step.breaks) (last_ask link step ∷ [])
        ∙ (λ i. first-backs step.breaks i + (cond (g.back_none (answer (stand start (first_asks token link step step.breaks)) (last_ask link step)) i) 1 0 + 0))
        ∙ omega arith

  -- ---- all steps

  first-legal : (x : World) (first : ℕ) (step : Step) → IsStep step → first < links_end → is_legal x (step_call first step) ≡ true
  unfolding is_typed_entry
  first-legal x first step h small =
      and_from (is_moment step.moment && (is_quad first && is_typed_ask (call_ask step.id step.call))) true
      (and_from (is_moment step.moment) (is_quad first && is_typed_ask (call_ask step.id step.call)) h.moment (and_from (is_quad first) (is_typed_ask (call_ask step.id step.call)) (lt-ltb first links_end small) h.ask))
      refl

  behind-more : (link : ℕ) (b : Break) → link_behind link b ≡ link + is_broken b
  behind-more link Never = omega arith
  behind-more link Before = omega arith
  behind-more link Behind = omega arith

  record Changes (w : World) (s : Session) (token : List ℕ) (first link : ℕ) (steps : List Step) : Type 0 where
    told : results (held w s link (suc link)) token link steps ≡ results (held w s first (suc first)) token first (map unbroken steps)
    left : stand (held w s link (suc link)) (all_asks token link steps) ≡ with_link (link + breaks_in steps) (stand (held w s first (suc first)) (all_asks token first (map unbroken steps)))
    opened : opened_in (held w s link (suc link)) (all_asks token link steps) ≡ breaks_in steps
    back : back_in (held w s link (suc link)) (all_asks token link steps) ≡ breaks_in steps

  changes : (steps : List Step) (w : World) (s : Session) (token : List ℕ) (first link : ℕ)
      → IsSound (held w s first (suc first)) → s.user ≡ Some guest_id → s.number < suc link → token ≡ session_token w.house.token_key s.number
      → first < links_end → suc (link + breaks_in steps) < links_end → AllByRecursion IsStep steps → Changes w s token first link steps
  changes [] w s token first link sound user below is small room good = record {
    told = refl;
    left = let same : link ≡ link + 0 = omega arith in λ i. held w s (same i) (suc (same i));
    opened = refl;
    back = refl;
  }
  changes (step ∷ steps) w s token first link sound user below is small room good =
      let x : World = held w s first (suc first) in
      let g = goes (at_moment w step.moment) s step first (suc first) good.0 (moment-sound x step.moment good.0.moment sound) in
      let sound' : IsSound (held g.world g.session first (suc first)) = subst IsSound (g.after first (suc first)) (keeps x (step_call first step) sound (first-legal x first step good.0 small)) in
      let own = owned none w s first (suc first) sound in
      let own' = owned none g.world g.session first (suc first) sound' in
      let more = behind-more link step.breaks in
      let number = g.number in
      let house = g.house in
      let link' : ℕ = link_behind link step.breaks in
      let rest : Changes g.world g.session token first link' steps =
      changes steps g.world g.session token first link' sound' (g.user ∙ user) (omega (arith, below, more, number)) (is ∙ (λ i. session_token (sym house i).token_key (sym number i))) small (omega (arith, room, more)) good.1 in
      let tells : answer (stand (held w s link (suc link)) (first_asks token link step step.breaks)) (last_ask link step) ≡ g.told =
      ap (λ t. answer (stand (held w s link (suc link)) (first_asks t link step step.breaks)) (last_ask link step)) is ∙ step-told w s step link user below (omega (arith, room)) own g own' step.breaks in
      let leaves : stand (held w s link (suc link)) (step_asks token link step) ≡ held g.world g.session link' (suc link') =
      ap (λ t. stand (held w s link (suc link)) (step_asks t link step)) is ∙ step-left w s step link user below (omega (arith, room)) own g own' in
      let opens : opened_in (held w s link (suc link)) (step_asks token link step) ≡ is_broken step.breaks =
      ap (λ t. opened_in (held w s link (suc link)) (step_asks t link step)) is ∙ step-opened w s step link user below (omega (arith, room)) own g own' in
      let backs : back_in (held w s link (suc link)) (step_asks token link step) ≡ is_broken step.breaks =
      ap (λ t. back_in (held w s link (suc link)) (step_asks t link step)) is ∙ step-back w s step link user below (omega (arith, room)) own g own' in
      record {
        told = (λ i. tells i ∷ results (leaves i) token link' steps) ∙ (λ i. g.told ∷ rest.told i) ∙ sym (λ i. g.tells first (suc first) i ∷ results (g.after first (suc first) i) token first (map unbroken steps));
        left = stand-append (held w s link (suc link)) (step_asks token link step) (all_asks token link' steps)
            ∙ ap (λ y. stand y (all_asks token link' steps)) leaves
            ∙ rest.left
            ∙ (let sum : link' + breaks_in steps ≡ link + (is_broken step.breaks + breaks_in steps) = omega (arith, more) in λ i. with_link (sum i) (stand (sym (g.after first (suc first)) i) (all_asks token first (map unbroken steps))));
        opened = opened-append (held w s link (suc link)) (step_asks token link step) (all_asks token link' steps)
            ∙ (λ i. opens i + opened_in (leaves i) (all_asks token link' steps))
            ∙ ap (λ n. is_broken step.breaks + n) rest.opened;
        back = back-append (held w s link (suc link)) (step_asks token link step) (all_asks token link' steps)
            ∙ (λ i. backs i + back_in (leaves i) (all_asks token link' steps))
            ∙ ap (λ n. is_broken step.breaks + n) rest.back;
      }

  number-below : (w : World) (s : Session) (link : ℕ) → IsAlone w s link → s.number < suc link
  number-below w s link h =
      let all : list_all (is_below (suc link)) (s ∷ []) ≡ true = (λ i. list_all (is_below (sym h.next i)) (sym h.only i)) ∙ (sessions-parts w h.sound.sessions).below in
      let one = and_parts (is_below (suc link) s) true all in
      ltb-true s.number (suc link) (and_parts (nat_lt s.number (suc link)) (is_link_below (suc link) s.place) one.0).0

  pub breaks-change-nothing : BreaksChangeNoResult
  breaks-change-nothing w s link steps h good room =
      let whole = alone-held w s link h in
      let token : List ℕ = session_token w.house.token_key s.number in
      let c = changes steps w s token link link (subst IsSound whole h.sound) h.user (number-below w s link h) refl (omega (arith, room)) room good in
      record {
        told = (λ i. results (whole i) token link steps) ∙ c.told ∙ sym (λ i. results (whole i) token link (map unbroken steps));
        left = (λ i. stand (whole i) (all_asks token link steps)) ∙ c.left ∙ sym (λ i. with_link (link + breaks_in steps) (stand (whole i) (all_asks token link (map unbroken steps))));
        opened = (λ i. opened_in (whole i) (all_asks token link steps)) ∙ c.opened;
        back = (λ i. back_in (whole i) (all_asks token link steps)) ∙ c.back;
      }

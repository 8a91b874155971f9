-- A client that has opened its first link is alone at its server.
use Rattle.std.proofs.Common.{◌≡◌, refl, sym, ap, ◌∙◌, subst, ℕ, suc, true, false, ◌&&◌, cond, List, [], ◌∷◌, Option, Some, None}
use Rattle.std.proofs.lemmas.Bool.{and_from, eq-eqb}
use Rattle.afp_base.specs.Cached.{Answer, Request}
use Rattle.afp_calls_grammar.specs.grammar.Call.{canonical_call, canonical_data}
use Rattle.afp_calls_grammar.specs.grammar.Laws.{CanonicalIsReadAgain}
use Rattle.afp_calls_grammar.specs.grammar.Spelt.{spelt_call}
use Rattle.afp_calls_grammar.specs.declared.grammar.call.Call.{Call}
use Rattle.afp_calls_grammar.specs.declared.grammar.call.Call.TheVariants as calls
use Rattle.afp_serial.proofs.RowsSound.{row-sound}
use Rattle.afp_serial.proofs.Verdicts.{comes-to}
use Rattle.afp_serial.specs.Answer.{Verdict, after, after_at, after_call, after_verdict, is_legal, link_number, newly_kept, refused, repeats, request, runs, told_verdict, verdict}
use Rattle.afp_serial.specs.History.{entry, stand}
use Rattle.afp_serial.specs.Household.{Household}
use Rattle.afp_serial.specs.KeptAnswers.{block_of, enclosed_of, keeping, with_answer}
use Rattle.afp_serial.specs.KeptLaws.{FindsKept}
use Rattle.afp_serial.specs.Laws.{FreshWorldIsSound, KeepsSound, StartsSound}
use Rattle.afp_serial.specs.OpenVol.{opens_volume as opens_volume_with, state_named, volume_named}
use Rattle.afp_serial.specs.Ranges.{is_moment, is_typed_ask, is_typed_entry}
use Rattle.afp_serial.specs.Rows.{effect, row}
use Rattle.afp_serial.specs.SessionLaws.{LeavesSessions, SessionsAfter, all_stay, asking_changes, logs_in, moves_sessions}
use Rattle.afp_serial.specs.Sound.{IsSound}
use Rattle.afp_serial.specs.SweepLaws.{EndsNone}
use Rattle.afp_serial.specs.Token.{session_token}
use Rattle.afp_serial.specs.World.{Session, World, at_moment, fresh_volumes, fresh_world, with_session}
use Rattle.afp_serial.specs.declared.ask.Ask.{Ask}
use Rattle.afp_serial.specs.declared.ask.Ask.TheVariants as ask
use Rattle.afp_serial.specs.declared.ask.Outcome.TheVariants.{Done}
use Rattle.volume_spec.specs.TypedVolume.{is_quad}
use Rattle.volume_spec.specs.VolumeState.{VolumeState}
use Rattle.once_across_breaks.proofs.OfSame.Asking.{after-of}
use Rattle.once_across_breaks.proofs.OfSame.Beginning.{token-alone, token-spelt}
use Rattle.once_across_breaks.proofs.OfSame.Beginning as begun
use Rattle.once_across_breaks.proofs.OfSame.Changing.{alone-held, breaks-change-nothing}
use Rattle.once_across_breaks.proofs.OfSame.Rejoining.{spelt-alone}
use Rattle.once_across_breaks.proofs.OfSame.Rows.{held}
use Rattle.once_across_breaks.specs.same.Laws.{BreaksChangeNothing, BreaksChangeNothingBehindOpenings, IsAlone, IsOpening, on_link, opened_world}
use Rattle.once_across_breaks.specs.same.Steps.{ask_with, asks_token, call_ask, calls_on, login, opens, quantum}

-- ---- a call that moves no session leaves the client alone

pub record StaysAlone (first : Household) (w : World) (s : Session) (link : ℕ) : Type 0 where
  pub session : Session
  pub number : session.number ≡ s.number
  pub alone : IsAlone w session link
  pub house : w.house ≡ first

-- the sessions behind a call's effect: one, the same but for its volumes
record IsOne (v : World) (s : Session) : Type 0 where
  session : Session
  only : v.sessions ≡ session ∷ []
  number : session.number ≡ s.number
  place : session.place ≡ s.place
  user : session.user ≡ s.user

one-after : (w v : World) (s : Session) → w.sessions ≡ s ∷ [] → SessionsAfter false w s v → IsOne v s
one-after w v s only (all_stay same) = record { session = s; only = same ∙ only; number = refl; place = refl; user = refl }
one-after w v s only (asking_changes t number place cache user changes) = record {
  session = t;
  only = changes ∙ ap (λ (l : List Session). (with_session (record w { sessions = l }) t).sessions) only ∙ ap (λ b. cond b t s ∷ []) (eq-eqb s.number t.number (sym number));
  number = number;
  place = place;
  user = user refl;
}

one-kept : (v : World) (s : Session) (r : Request) (a : Option Answer) → IsOne v s → IsOne (keeping v s.number r a) s
one-kept v s r None o = o
one-kept v s r (Some a) o = record {
  session = with_answer r a o.session;
  only = ap (λ (l : List Session). (keeping (record v { sessions = l }) s.number r (Some a)).sessions) o.only ∙ ap (λ b. cond b (with_answer r a o.session) o.session ∷ []) (eq-eqb o.session.number s.number o.number);
  number = o.number;
  place = o.place;
  user = o.user;
}

next-kept : (v : World) (number : ℕ) (r : Request) (a : Option Answer) → (keeping v number r a).next_link ≡ v.next_link
next-kept v number r None = refl
next-kept v number r (Some a) = refl

house-kept : (v : World) (number : ℕ) (r : Request) (a : Option Answer) → (keeping v number r a).house ≡ v.house
house-kept v number r None = refl
house-kept v number r (Some a) = refl

-- a call that leaves the house
abbrev LeavesHouse : Call → Type 0
LeavesHouse call = (w : World) (s : Session) → (effect w s call).world.house ≡ w.house

module _ (leaves : LeavesSessions) (w : World) (s : Session) (link : ℕ) (r : Request) (call : Call)
    (spelt : spelt_call (block_of r) (enclosed_of r) ≡ Some call) (stays : moves_sessions call ≡ false) (no_login : logs_in call ≡ false) (only : w.sessions ≡ s ∷ []) where
  one-verdict : (v : Verdict) → ((c : Call) → v ≡ runs c → c ≡ call) → IsOne (after_verdict w s v Done) s
  one-verdict (repeats a) is = record { session = s; only = only; number = refl; place = refl; user = refl }
  one-verdict (refused x) is = record { session = s; only = only; number = refl; place = refl; user = refl }
  one-verdict (runs c) is =
      let same = is c refl in
      one-after w (effect w s c).world s only (subst (λ b. SessionsAfter b w s (effect w s c).world) (ap logs_in same ∙ no_login) (leaves w s c (ap moves_sessions same ∙ stays)))

  next-verdict : (v : Verdict) → (after_verdict w s v Done).next_link ≡ w.next_link
  next-verdict (repeats a) = refl
  next-verdict (refused x) = refl
  next-verdict (runs c) = (row-sound c).next w s

  runs-it : (c : Call) → verdict w s r ≡ runs c → c ≡ call
  runs-it c is = let h : Some c ≡ Some call = sym (comes-to w s r c is).spelt ∙ spelt in cc

  house-verdict : LeavesHouse call → (v : Verdict) → ((c : Call) → v ≡ runs c → c ≡ call) → (after_verdict w s v Done).house ≡ w.house
  house-verdict stays_there (repeats a) is = refl
  house-verdict stays_there (refused x) is = refl
  house-verdict stays_there (runs c) is = subst (λ (d : Call). (effect w s d).world.house ≡ w.house) (sym (is c refl)) (stays_there w s)

  house-call : LeavesHouse call → (after_call w (Some s) r Done).house ≡ w.house
  house-call stays_there = house-kept (after_verdict w s (verdict w s r) Done) s.number r (newly_kept r (verdict w s r) (told_verdict w s (verdict w s r) Done)) ∙ house-verdict stays_there (verdict w s r) runs-it

  one-call : IsOne (after_call w (Some s) r Done) s
  one-call = one-kept (after_verdict w s (verdict w s r) Done) s r (newly_kept r (verdict w s r) (told_verdict w s (verdict w s r) Done)) (one-verdict (verdict w s r) runs-it)

  next-call : (after_call w (Some s) r Done).next_link ≡ w.next_link
  next-call = next-kept (after_verdict w s (verdict w s r) Done) s.number r (newly_kept r (verdict w s r) (told_verdict w s (verdict w s r) Done)) ∙ next-verdict (verdict w s r)

-- an entry of such a call, in a Command
module _ (again : CanonicalIsReadAgain) (leaves : LeavesSessions) (keeps_sound : KeepsSound) where
  stays-alone : (w : World) (s : Session) (link moment id : ℕ) (call : Call) → IsAlone w s link
      → canonical_data call ≡ None → spelt_call (canonical_call call) None ≡ Some call → moves_sessions call ≡ false → logs_in call ≡ false → LeavesHouse call → is_legal w (calls_on link moment id call) ≡ true
      → StaysAlone w.house (after w (calls_on link moment id call)) s link
  stays-alone w s link moment id call h alone spelt stays no_login stays_there legal =
      let x : World = at_moment w moment in
      let r : Request = request id false 0 (canonical_call call) in
      let t : Session = on_link link s in
      let y : World = held x s link (suc link) in
      let same : x ≡ y = ap (λ (v : World). at_moment v moment) (alone-held w s link h) in
      let left : after w (calls_on link moment id call) ≡ after_call y (Some t) r Done =
      (λ i. after_at (same i) link (ask_with id call (alone i)) Done) ∙ after-of x s link (suc link) id false 0 (canonical_call call) in
      let one = one-call leaves y t link r call spelt stays no_login refl in
      let next = next-call leaves y t link r call spelt stays no_login refl in
      let house = house-call leaves y t link r call spelt stays no_login refl stays_there in
      record {
        session = one.session;
        number = one.number;
        alone = record {
          sound = keeps_sound w (calls_on link moment id call) h.sound legal;
          only = ap (λ (v : World). v.sessions) left ∙ one.only;
          place = one.place;
          user = one.user ∙ h.user;
          next = ap (λ (v : World). v.next_link) left ∙ next;
        };
        house = ap (λ (v : World). v.house) left ∙ house;
      }

-- ---- the opening

token-house : LeavesHouse (calls.GetSessionToken 0 None [])
unfolding row
token-house w s = refl

volume-house : (bits : ℕ) (name : List ℕ) → LeavesHouse (calls.OpenVol bits name)
unfolding row
volume-house bits name w s = by (volume_named w name) (state_named w (volume_named w name))
  where
    by : (id : Option ℕ) (v : Option VolumeState) → (opens_volume_with w s bits id v).world.house ≡ w.house
    by None v = refl
    by (Some id) None = refl
    by (Some id) (Some v) = refl

module _ (again : CanonicalIsReadAgain) (leaves : LeavesSessions) (keeps_sound : KeepsSound) (starts : StartsSound) (fresh : FreshWorldIsSound)
    (house : Household) (moment bits : ℕ) (name : List ℕ) (h : IsOpening house moment bits name) where
  abbrev first_world : World
  first_world = fresh_world house moment

  abbrev new_world : World
  new_world = begun.new_world house moment

  abbrev logged : Session
  logged = begun.logged house moment

  abbrev logged_world : World
  logged_world = begun.logged_world house moment

  swept : after first_world (entry moment (link_number 0) ask.Pulse Done) ≡ first_world
  swept = begun.swept house moment

  opened : after first_world (entry moment (link_number 0) (ask.Open quantum) Done) ≡ new_world
  opened = begun.opened house moment

  logged-in : after new_world (calls_on 1 moment 1 login) ≡ logged_world
  logged-in = begun.logged-in house moment again

  legal-by : (w : World) (link : ℕ) (a : Ask) → is_quad link ≡ true → is_typed_ask a ≡ true → is_legal w (entry moment (link_number link) a Done) ≡ true
  unfolding is_typed_entry
  legal-by w link a small typed =
      and_from (is_moment moment && (is_quad link && is_typed_ask a)) true (and_from (is_moment moment) (is_quad link && is_typed_ask a) h.at (and_from (is_quad link) (is_typed_ask a) small typed)) refl

  login-typed : is_typed_ask (call_ask 1 login) ≡ true
  unfolding canonical_call canonical_data
  login-typed = refl

  first-sound : IsSound first_world
  first-sound = starts house moment (fresh_volumes house moment) h.faultless h.typed h.at (fresh house moment h.faultless h.at)

  first-alone : IsAlone logged_world logged 1
  first-alone =
      let pulse = keeps_sound first_world (entry moment (link_number 0) ask.Pulse Done) first-sound (legal-by first_world 0 ask.Pulse refl refl) in
      let opens_it = keeps_sound first_world (entry moment (link_number 0) (ask.Open quantum) Done) (subst IsSound swept pulse) (legal-by first_world 0 (ask.Open quantum) refl refl) in
      let logs_it = keeps_sound new_world (calls_on 1 moment 1 login) (subst IsSound opened opens_it) (legal-by new_world 1 (call_ask 1 login) refl login-typed) in
      record { sound = subst IsSound logged-in logs_it; only = refl; place = refl; user = refl; next = refl }

  -- FPGetSessionToken and FPOpenVol

  abbrev opens_volume : Call
  opens_volume = calls.OpenVol bits name

  token-typed : is_typed_ask (call_ask 2 asks_token) ≡ true
  unfolding canonical_call canonical_data
  token-typed = refl

  volume-alone : canonical_data opens_volume ≡ None
  unfolding canonical_data
  volume-alone = refl

  volume-typed : is_typed_ask (call_ask 3 opens_volume) ≡ true
  volume-typed = ap (λ d. is_typed_ask (ask_with 3 opens_volume d)) volume-alone ∙ h.bytes

  pub opening-alone : StaysAlone house (opened_world house moment bits name) logged 1
  opening-alone =
      let to_logged : stand first_world (opens moment bits name) ≡ stand logged_world (calls_on 1 moment 2 asks_token ∷ calls_on 1 moment 3 opens_volume ∷ []) =
      ap (λ x. stand x (entry moment (link_number 0) (ask.Open quantum) Done ∷ calls_on 1 moment 1 login ∷ calls_on 1 moment 2 asks_token ∷ calls_on 1 moment 3 opens_volume ∷ [])) swept
      ∙ ap (λ x. stand x (calls_on 1 moment 1 login ∷ calls_on 1 moment 2 asks_token ∷ calls_on 1 moment 3 opens_volume ∷ [])) opened
      ∙ ap (λ x. stand x (calls_on 1 moment 2 asks_token ∷ calls_on 1 moment 3 opens_volume ∷ [])) logged-in in
      let token = stays-alone again leaves keeps_sound logged_world logged 1 moment 2 asks_token first-alone token-alone (token-spelt again) refl refl token-house (legal-by logged_world 1 (call_ask 2 asks_token) refl token-typed) in
      let v : World = after logged_world (calls_on 1 moment 2 asks_token) in
      let volume = stays-alone again leaves keeps_sound v token.session 1 moment 3 opens_volume token.alone volume-alone (spelt-alone again opens_volume h.bits_typed h.spellable volume-alone) refl refl (volume-house bits name) (legal-by v 1 (call_ask 3 opens_volume) refl volume-typed) in
      record { session = volume.session; number = volume.number ∙ token.number; alone = subst (λ x. IsAlone x volume.session 1) (sym to_logged) volume.alone; house = ap (λ (x : World). x.house) to_logged ∙ volume.house ∙ token.house }

pub behind-openings : CanonicalIsReadAgain → FindsKept → EndsNone → KeepsSound → StartsSound → FreshWorldIsSound → LeavesSessions → BreaksChangeNothingBehindOpenings
behind-openings again finds none keeps_sound starts fresh leaves house moment bits name steps h good room =
    let o = opening-alone again leaves keeps_sound starts fresh house moment bits name h in
    subst (λ token. BreaksChangeNothing (opened_world house moment bits name) token 1 steps) (λ i. session_token (o.house i).token_key (o.number i))
    (breaks-change-nothing again finds none keeps_sound (opened_world house moment bits name) o.session 1 steps o.alone good room)

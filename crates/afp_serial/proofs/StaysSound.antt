-- A sound world stays sound, and what is told there is an answer to the ask and fits in a frame.
use Rattle.std.proofs.Common.{◌≡◌, ◌∙◌, ap, sym, refl, ℕ, ◌≤◌, zero, suc, max, arith, Bool, true, not, ◌&&◌, cond, List, [], ◌∷◌, length, take, Option, Some, None}
use Rattle.std.specs.Prelude.{find, is_none, nat_le, ◌==◌, ◌||◌}
use Rattle.std.specs.List.{list_all}
use Rattle.std.proofs.lemmas.Bool.{and_parts, cond_both, le-leb, leb-true}
use Rattle.afp_base.specs.Limits.{payload_limit, replay_cache_size}
use Rattle.afp_base.specs.Cached.{Request, Answer, Kept, is_repeat, either, cached_answer}
use Rattle.afp_base.specs.declared.code.Code.TheVariants as code
use Rattle.afp_base.specs.Apart.{are_apart}
use Rattle.afp_calls_grammar.specs.grammar.Spelt.{spelt_call}
use Rattle.afp_calls_grammar.specs.declared.grammar.call.Call.{Call}
use Rattle.afp_serial.proofs.Closed.{ending-sound}
use Rattle.afp_serial.proofs.Keeps.{IsKnown, Keeps, after-keeps}
use Rattle.afp_serial.proofs.KeptAnswers.{has_none, kept-sound}
use Rattle.afp_serial.proofs.OtherPlaces.{only-number, waits-sound}
use Rattle.afp_serial.proofs.LawfulCalls.{ask-lawful}
use Rattle.afp_serial.proofs.Opened.{opened-sound}
use Rattle.afp_serial.proofs.RowsSound.{row-sound}
use Rattle.afp_serial.proofs.SoundParts.{caches-parts, fields-parts, fields-whole, sessions-parts}
use Rattle.afp_serial.proofs.Refusals.{refuses_shortly, verdict-short}
use Rattle.afp_serial.proofs.SoundRow.{is_ok, is_short}
use Rattle.afp_serial.proofs.Verdicts.{comes-to, kept-verdict, repeats-kept}
use Rattle.afp_serial.specs.declared.ask.Ask.{Ask}
use Rattle.afp_serial.specs.declared.ask.Ask.TheVariants as ask
use Rattle.afp_serial.specs.declared.ask.Entry.{Entry}
use Rattle.afp_serial.specs.declared.ask.Outcome.{Outcome}
use Rattle.afp_serial.specs.declared.ask.Outcome.TheVariants as outcome
use Rattle.afp_serial.specs.declared.ask.Told.{Told}
use Rattle.afp_serial.specs.declared.ask.Told.TheVariants as told
use Rattle.afp_serial.specs.Answer.{answer, after, committed_of, drain_moment, is_legal, is_legal_outcome, request, refusal_reply, link_number, is_full, after_verdict, newly_kept, told_verdict, told_call, told_pulse, told_parting, answer_at, Verdict, repeats, refused, runs, verdict}
use Rattle.afp_serial.specs.KeptAnswers.{block_of, enclosed_of, is_kept, kept_answer}
use Rattle.afp_serial.specs.History.{is_lawful, stand}
use Rattle.afp_serial.specs.LawfulCall.{is_lawful_call}
use Rattle.afp_serial.specs.Ranges.{is_moment, is_moment_or_none, is_typed_ask, is_typed_entry}
use Rattle.volume_spec.specs.TypedVolume.{is_quad}
use Rattle.afp_serial.specs.World.{is_on_link, session_at, World, Session, at_moment}
use Rattle.afp_serial.specs.Shown.{fits_frame, is_answer_to, is_parting_answer}
use Rattle.afp_serial.specs.Sound.{IsSound, has_apart_sessions, has_lawful_opens, has_lawful_locks, is_lawful_cache, has_lawful_caches, keeps_all_limits, has_known_users}
use Rattle.afp_base.proofs.ListFacts.{find-all}

-- a later moment, and a drain moment, in their ranges
is_moment-max : (m n : ℕ) → is_moment m ≡ true → is_moment n ≡ true → is_moment (max m n) ≡ true
is_moment-max m n p q =
    let a : m ≤ 2147483647 = leb-true m 2147483647 p in
    let b : n ≤ 2147483647 = leb-true n 2147483647 q in
    le-leb (max m n) 2147483647 (omega arith)

pub moment-sound : (w : World) (now : ℕ) → is_moment now ≡ true → IsSound w → IsSound (at_moment w now)
unfolding has_apart_sessions has_known_users has_lawful_opens has_lawful_locks has_lawful_caches keeps_all_limits
moment-sound w now typed h =
    let fields = fields-parts w h.typed in
    record {
      house = h.house;
      typed = fields-whole (at_moment w now) (record { latest = is_moment-max w.latest now fields.latest typed; drain = fields.drain; house = fields.house });
      volumes = h.volumes;
      sessions = h.sessions;
      users = h.users;
      opens = h.opens;
      locks = h.locks;
      caches = h.caches;
      limits = h.limits;
    }

drained : (moment : ℕ) (since : Option ℕ) → is_moment moment ≡ true → is_moment_or_none since ≡ true → is_moment_or_none (drain_moment moment since) ≡ true
drained moment None p q = p
drained moment (Some first) p q = q

drain-sound : (w : World) → IsSound w → IsSound (record w { drain = drain_moment w.latest w.drain })
unfolding has_apart_sessions has_known_users has_lawful_opens has_lawful_locks has_lawful_caches keeps_all_limits
drain-sound w h =
    let fields = fields-parts w h.typed in
    record {
      house = h.house;
      typed = fields-whole (record w { drain = drain_moment w.latest w.drain }) (record { latest = fields.latest; drain = drained w.latest w.drain fields.latest fields.drain; house = fields.house });
      volumes = h.volumes;
      sessions = h.sessions;
      users = h.users;
      opens = h.opens;
      locks = h.locks;
      caches = h.caches;
      limits = h.limits;
    }

-- what is known of the calls of a legal entry
abbrev pub IsLawful : Call → Type 0
IsLawful call = is_lawful_call call ≡ true

-- what a call is told fits in a frame

abbrev is_short_answer : Kept → Bool
is_short_answer kept = nat_le (length kept.answer.block) payload_limit

abbrev pub is_kept_one : Kept → Bool
is_kept_one kept = is_kept kept.request kept.answer.code

either-fits : (a b : Option Answer) (x : Answer) → ((y : Answer) → a ≡ Some y → nat_le (length y.block) payload_limit ≡ true) → ((y : Answer) → b ≡ Some y → nat_le (length y.block) payload_limit ≡ true) → either a b ≡ Some x → nat_le (length x.block) payload_limit ≡ true
either-fits (Some a) b x p q h = p x h
either-fits None b x p q h = q x h

kept-fits : (cache : List Kept) (r : Request) (x : Answer) → list_all is_short_answer cache ≡ true → cached_answer cache r ≡ Some x → nat_le (length x.block) payload_limit ≡ true
kept-fits [] r x short h = absurd (cc)
kept-fits (k ∷ ks) r x short h =
    let e = and_parts (is_short_answer k) (list_all is_short_answer ks) short in
    either-fits (cached_answer ks r) (cond (is_repeat k.request r) (Some k.answer) None) x
    (λ y is. kept-fits ks r y e.1 is)
    (λ y. cond_both (is_repeat k.request r) (Some k.answer) None (λ o. o ≡ Some y → nat_le (length y.block) payload_limit ≡ true)
    (λ same is. let this : k.answer ≡ y = cc in ap (λ (a : Answer). nat_le (length a.block) payload_limit) (sym this) ∙ e.0)
    (λ other is. absurd (cc)))
    h

short-cache : (cache : List Kept) → is_lawful_cache cache ≡ true → list_all is_short_answer cache ≡ true
short-cache cache h =
    let e = and_parts (nat_le (length cache) replay_cache_size) (are_apart (λ a b. is_repeat a.request b.request) cache && (list_all is_short_answer cache && list_all is_kept_one cache)) h in
    let f = and_parts (are_apart (λ a b. is_repeat a.request b.request) cache) (list_all is_short_answer cache && list_all is_kept_one cache) e.1 in
    (and_parts (list_all is_short_answer cache) (list_all is_kept_one cache) f.1).0

pub kept-cache : (cache : List Kept) → is_lawful_cache cache ≡ true → list_all is_kept_one cache ≡ true
kept-cache cache h =
    let e = and_parts (nat_le (length cache) replay_cache_size) (are_apart (λ a b. is_repeat a.request b.request) cache && (list_all is_short_answer cache && list_all is_kept_one cache)) h in
    let f = and_parts (are_apart (λ a b. is_repeat a.request b.request) cache) (list_all is_short_answer cache && list_all is_kept_one cache) e.1 in
    (and_parts (list_all is_short_answer cache) (list_all is_kept_one cache) f.1).1

verdict-fits : (w : World) (s : Session) (r : Request) → ((call : Call) → spelt_call (block_of r) (enclosed_of r) ≡ Some call → IsLawful call) → IsSound w → is_lawful_cache s.cache ≡ true → (v : Verdict) (o : Outcome) → verdict w s r ≡ v → fits_frame (told_verdict w s v o) ≡ true
verdict-fits w s r knows h lawful (repeats answer) o is = kept-fits s.cache r answer (short-cache s.cache lawful) (repeats-kept w s r answer is)
verdict-fits w s r knows h lawful (refused x) o is = (and_parts (is_short x.reply) (not (is_ok x.code)) (ap refuses_shortly (sym is) ∙ verdict-short w s r h)).0
verdict-fits w s r knows h lawful (runs call) outcome.Fault is = refl
verdict-fits w s r knows h lawful (runs call) outcome.Done is = let c = comes-to w s r call is in (row-sound call).fits w s (knows call c.spelt) c.passes h

-- what is newly kept is short, and nothing was kept before

newly-answer : (r : Request) (t : Told) (a : Answer) → kept_answer r t ≡ Some a → fits_frame t ≡ true → nat_le (length a.block) payload_limit ≡ true
newly-answer r (told.Reply c block ends) a is fits =
    cond_both (is_kept r c) (Some (record { code = c; block = block })) None (λ o. o ≡ Some a → nat_le (length a.block) payload_limit ≡ true)
    (λ kept h. let same : block ≡ a.block = cc in ap (λ (b : List ℕ). nat_le (length b) payload_limit) (sym same) ∙ fits)
    (λ not_kept h. absurd (cc))
    is
newly-answer r (told.Opened l) a is fits = absurd (cc)
newly-answer r (told.Live d) a is fits = absurd (cc)
newly-answer r told.Done a is fits = absurd (cc)
newly-answer r told.Displaced a is fits = absurd (cc)
newly-answer r told.Memory a is fits = absurd (cc)

newly-short : (r : Request) (v : Verdict) (t : Told) (a : Answer) → newly_kept r v t ≡ Some a → fits_frame t ≡ true → nat_le (length a.block) payload_limit ≡ true
newly-short r (repeats answer) t a is fits = absurd (cc)
newly-short r (refused x) t a is fits = newly-answer r t a is fits
newly-short r (runs call) t a is fits = newly-answer r t a is fits

kept-answer-kept : (r : Request) (t : Told) (a : Answer) → kept_answer r t ≡ Some a → is_kept r a.code ≡ true
kept-answer-kept r (told.Reply c block ends) a is =
    cond_both (is_kept r c) (Some (record { code = c; block = block })) None (λ o. o ≡ Some a → is_kept r a.code ≡ true)
    (λ kept h. let same : c ≡ a.code = cc in ap (is_kept r) (sym same) ∙ kept)
    (λ not_kept h. absurd (cc))
    is
kept-answer-kept r (told.Opened l) a is = absurd (cc)
kept-answer-kept r (told.Live d) a is = absurd (cc)
kept-answer-kept r told.Done a is = absurd (cc)
kept-answer-kept r told.Displaced a is = absurd (cc)
kept-answer-kept r told.Memory a is = absurd (cc)

newly-is-kept : (r : Request) (v : Verdict) (t : Told) (a : Answer) → newly_kept r v t ≡ Some a → is_kept r a.code ≡ true
newly-is-kept r (repeats answer) t a is = absurd (cc)
newly-is-kept r (refused x) t a is = kept-answer-kept r t a is
newly-is-kept r (runs call) t a is = kept-answer-kept r t a is

newly-none : (w : World) (s : Session) (r : Request) (v : Verdict) (t : Told) (a : Answer) → verdict w s r ≡ v → newly_kept r v t ≡ Some a → is_none (cached_answer s.cache r) ≡ true
newly-none w s r v t a comes is = by (cached_answer s.cache r) refl
  where
    by : (o : Option Answer) → cached_answer s.cache r ≡ o → is_none o ≡ true
    by None kept = refl
    by (Some x) kept = let again : v ≡ repeats x = sym comes ∙ kept-verdict w s r x kept in absurd (let e : newly_kept r (repeats x) t ≡ Some a = ap (λ (y : Verdict). newly_kept r y t) (sym again) ∙ is in cc)

none-after : (w : World) (s : Session) (r : Request) (test : Session → Bool) (v : Verdict) (o : Outcome) → find test w.sessions ≡ Some s → list_all (has_none s.number r) w.sessions ≡ true → list_all (has_none s.number r) (after_verdict w s v o).sessions ≡ true
none-after w s r test (repeats a) o found h = h
none-after w s r test (refused x) o found h = h
none-after w s r test (runs call) outcome.Fault found h = h
none-after w s r test (runs call) outcome.Done found h = (row-sound call).cached w s test found (λ n c. not (n == s.number) || is_none (cached_answer c r)) h

pub sound-keeps : Keeps IsLawful IsSound
sound-keeps = record {
  opens = opened-sound;
  calls = λ w s call test lawful found passes h. (row-sound call).sound w s test lawful found passes h;
  ends = ending-sound;
  drains = drain-sound;
  loses = λ w s test found h. waits-sound w s test found h;
  stores = λ w s r test o a knows found is h q.
      kept-sound (after_verdict w s (verdict w s r) o) s.number r a
      (newly-short r (verdict w s r) (told_verdict w s (verdict w s r) o) a is
      (verdict-fits w s r knows h (find-all test (λ x. is_lawful_cache x.cache) w.sessions s found (caches-parts w h.caches)) (verdict w s r) o refl))
      (newly-is-kept r (verdict w s r) (told_verdict w s (verdict w s r) o) a is)
      (none-after w s r test (verdict w s r) o found (only-number test (λ x. is_none (cached_answer x.cache r)) w.sessions s (sessions-parts w h.sessions).numbers found (newly-none w s r (verdict w s r) (told_verdict w s (verdict w s r) o) a refl is)))
      q;
}

-- a legal entry's moment
pub legal-moment : (w : World) (e : Entry) → is_legal w e ≡ true → is_moment e.at ≡ true
unfolding is_typed_entry
legal-moment w e legal =
    (and_parts (is_moment e.at) (is_quad e.link.0 && is_typed_ask e.ask) (and_parts (is_typed_entry e) (is_legal_outcome (committed_of w e) e.outcome) legal).0).0

-- a legal entry's ask spells lawful calls alone
pub legal-lawful : (w : World) (e : Entry) → is_legal w e ≡ true → IsKnown IsLawful e.ask
unfolding is_typed_entry
legal-lawful w e legal =
    ask-lawful e.ask (and_parts (is_quad e.link.0) (is_typed_ask e.ask) (and_parts (is_moment e.at) (is_quad e.link.0 && is_typed_ask e.ask) (and_parts (is_typed_entry e) (is_legal_outcome (committed_of w e) e.outcome) legal).0).1).1

pub after-sound : (w : World) (e : Entry) → IsSound w → is_legal w e ≡ true → IsSound (after w e)
after-sound w e h legal = after-keeps sound-keeps w e (legal-lawful w e legal) (moment-sound w e.at (legal-moment w e legal) h)

pub stood-sound : (start : World) (h : List Entry) → IsSound start → is_lawful start h ≡ true → IsSound (stand start h)
stood-sound start [] sound lawful = sound
stood-sound start (e ∷ es) sound lawful =
    let both = and_parts (is_legal start e) (is_lawful (after start e) es) lawful in
    stood-sound (after start e) es (after-sound start e sound both.0) both.1

-- at each place of a lawful history
pub stand-sound : (start : World) (h : List Entry) → IsSound start → is_lawful start h ≡ true → (k : ℕ) → IsSound (stand start (take k h))
stand-sound start [] sound lawful zero = sound
stand-sound start [] sound lawful (suc k) = sound
stand-sound start (e ∷ es) sound lawful zero = sound
stand-sound start (e ∷ es) sound lawful (suc k) =
    let both = and_parts (is_legal start e) (is_lawful (after start e) es) lawful in
    stand-sound (after start e) es (after-sound start e sound both.0) both.1 k

-- what is told fits in a frame

call-fits : (w : World) (link : ℕ) (session : Option Session) (r : Request) (o : Outcome) → ((call : Call) → spelt_call (block_of r) (enclosed_of r) ≡ Some call → IsLawful call) → IsSound w → session_at w link ≡ session → fits_frame (told_call w session r o) ≡ true
call-fits w link None r o knows h is = refl
call-fits w link (Some s) r o knows h is =
    verdict-fits w s r knows h (find-all (λ x. is_on_link link x.place) (λ x. is_lawful_cache x.cache) w.sessions s is (caches-parts w h.caches)) (verdict w s r) o refl

pulse-fits : (w : World) (link : ℕ) (session : Option Session) → fits_frame (told_pulse w link session) ≡ true
pulse-fits w link None = cond_both (link == 0) (told.Live w.drain) told.Displaced (λ t. fits_frame t ≡ true) (λ none. refl) (λ other. refl)
pulse-fits w link (Some s) = refl

parting-fits : (session : Option Session) → fits_frame (told_parting session) ≡ true
parting-fits None = refl
parting-fits (Some s) = refl

at-fits : (w : World) (link : ℕ) (a : Ask) (o : Outcome) → IsKnown IsLawful a → IsSound w → fits_frame (answer_at w link a o) ≡ true
unfolding answer_at
at-fits w link (ask.Open attention) o knows h = cond_both (is_full w) (refusal_reply code.NoMoreSessions) (told.Opened (link_number w.next_link)) (λ t. fits_frame t ≡ true) (λ full. refl) (λ room. refl)
at-fits w link (ask.Call id write offset payload) o knows h = call-fits w link (session_at w link) (request id write offset payload) o knows h refl
at-fits w link ask.Pulse o knows h = pulse-fits w link (session_at w link)
at-fits w link ask.Bye o knows h = parting-fits (session_at w link)
at-fits w link ask.Lost o knows h = parting-fits (session_at w link)
at-fits w link ask.Drain o knows h = refl

pub answer-fits : (w : World) (e : Entry) → IsSound w → is_legal w e ≡ true → fits_frame (answer w e) ≡ true
answer-fits w e h legal = at-fits (at_moment w e.at) e.link.0 e.ask e.outcome (legal-lawful w e legal) (moment-sound w e.at (legal-moment w e legal) h)

-- what is told is an answer to the ask

verdict-kind : (w : World) (s : Session) (id : ℕ) (write : Bool) (offset : ℕ) (payload : List ℕ) (v : Verdict) (o : Outcome) → is_answer_to (ask.Call id write offset payload) (told_verdict w s v o) ≡ true
verdict-kind w s id write offset payload (repeats answer) o = refl
verdict-kind w s id write offset payload (refused code) o = refl
verdict-kind w s id write offset payload (runs call) outcome.Fault = refl
verdict-kind w s id write offset payload (runs call) outcome.Done = refl

call-kind : (w : World) (session : Option Session) (id : ℕ) (write : Bool) (offset : ℕ) (payload : List ℕ) (r : Request) (o : Outcome) → is_answer_to (ask.Call id write offset payload) (told_call w session r o) ≡ true
call-kind w None id write offset payload r o = refl
call-kind w (Some s) id write offset payload r o = verdict-kind w s id write offset payload (verdict w s r) o

pulse-kind : (w : World) (link : ℕ) (session : Option Session) → is_answer_to ask.Pulse (told_pulse w link session) ≡ true
pulse-kind w link None = cond_both (link == 0) (told.Live w.drain) told.Displaced (λ t. is_answer_to ask.Pulse t ≡ true) (λ none. refl) (λ other. refl)
pulse-kind w link (Some s) = refl

parting-kind : (session : Option Session) → is_parting_answer (told_parting session) ≡ true
parting-kind None = refl
parting-kind (Some s) = refl

at-kind : (w : World) (link : ℕ) (a : Ask) (o : Outcome) → is_answer_to a (answer_at w link a o) ≡ true
unfolding answer_at
at-kind w link (ask.Open attention) o = cond_both (is_full w) (refusal_reply code.NoMoreSessions) (told.Opened (link_number w.next_link)) (λ t. is_answer_to (ask.Open attention) t ≡ true) (λ full. refl) (λ room. refl)
at-kind w link (ask.Call id write offset payload) o = call-kind w (session_at w link) id write offset payload (request id write offset payload) o
at-kind w link ask.Pulse o = pulse-kind w link (session_at w link)
at-kind w link ask.Bye o = parting-kind (session_at w link)
at-kind w link ask.Lost o = parting-kind (session_at w link)
at-kind w link ask.Drain o = refl

pub answer-kind : (w : World) (e : Entry) → is_answer_to e.ask (answer w e) ≡ true
answer-kind w e = at-kind (at_moment w e.at) e.link.0 e.ask e.outcome

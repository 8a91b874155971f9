-- MiscErr is told of a fault alone, and NoMemory never.
use Rattle.std.proofs.Common.{◌≡◌, ◌∙◌, ◌⊎◌, inl, inr, ap, sym, refl, ℕ, Bool, true, false, [], Option, Some, None}
use Rattle.std.specs.Prelude.{is_none, not, ◌==◌, ◌||◌}
use Rattle.std.specs.List.{list_all}
use Rattle.std.proofs.lemmas.Bool.{cond_both, false≢true, or_cases}
use Rattle.afp_base.proofs.Facts.{never}
use Rattle.afp_base.proofs.ListFacts.{find-all, find-passes}
use Rattle.afp_base.specs.Cached.{Request, Answer, cached_answer}
use Rattle.afp_base.specs.declared.code.Code.TheVariants as code
use Rattle.afp_serial.proofs.KeptAnswers.{has_none}
use Rattle.afp_serial.proofs.KeptWishes.{kept-parts, lawful-kept, refused-kept}
use Rattle.afp_serial.proofs.OtherPlaces.{only-number}
use Rattle.afp_serial.proofs.RowsSound.{row-sound}
use Rattle.afp_serial.proofs.SoundParts.{caches-parts, sessions-parts}
use Rattle.afp_serial.proofs.StaysSound.{legal-moment, moment-sound}
use Rattle.afp_serial.proofs.Verdicts.{repeats-kept}
use Rattle.afp_serial.specs.declared.ask.Ask.{Ask}
use Rattle.afp_serial.specs.declared.ask.Ask.TheVariants as ask
use Rattle.afp_serial.specs.declared.ask.Entry.{Entry}
use Rattle.afp_serial.specs.declared.ask.Outcome.{Outcome}
use Rattle.afp_serial.specs.declared.ask.Outcome.TheVariants as outcome
use Rattle.afp_serial.specs.declared.ask.Told.{Told}
use Rattle.afp_serial.specs.declared.ask.Told.TheVariants as told
use Rattle.afp_serial.specs.Answer.{answer, answer_at, is_full, is_legal, link_number, refusal_reply, request, told_call, told_parting, told_pulse, told_verdict, Verdict, repeats, refused, runs, verdict}
use Rattle.afp_serial.specs.KeptAnswers.{is_kept_code}
use Rattle.afp_serial.specs.Rows.{effect}
use Rattle.afp_serial.specs.SessionLaws.{KeepsNoneNew}
use Rattle.afp_serial.specs.SessionViews.{FaultsAlone, NeverNoMemory}
use Rattle.afp_serial.specs.Sound.{IsSound, is_lawful_cache}
use Rattle.afp_serial.specs.World.{is_on_link, session_at, World, Session, at_moment}

-- what is told is no reply, or one under another code
abbrev tells_kept : Told → Bool
tells_kept (told.Reply c block ends) = is_kept_code c
tells_kept t = true

-- or it is that of a fault
abbrev IsRight : Outcome → Told → Type 0
IsRight o t = (tells_kept t ≡ true) ⊎ ((o ≡ outcome.Fault) × (t ≡ refusal_reply code.MiscErr))

verdict-right : (w : World) (s : Session) (r : Request) (v : Verdict) (o : Outcome) → IsSound w → is_lawful_cache s.cache ≡ true → verdict w s r ≡ v → IsRight o (told_verdict w s v o)
verdict-right w s r (repeats a) o h lawful is = inl (kept-parts r a.code (lawful-kept s.cache r a lawful (repeats-kept w s r a is))).0
verdict-right w s r (refused x) o h lawful is = inl (refused-kept w s r x h is)
verdict-right w s r (runs call) outcome.Fault h lawful is = inr (refl, refl)
verdict-right w s r (runs call) outcome.Done h lawful is = inl refl

call-right : (w : World) (link : ℕ) (found : Option Session) (r : Request) (o : Outcome) → IsSound w → session_at w link ≡ found → IsRight o (told_call w found r o)
call-right w link None r o h at = inl refl
call-right w link (Some s) r o h at =
    verdict-right w s r (verdict w s r) o h (find-all (λ x. is_on_link link x.place) (λ x. is_lawful_cache x.cache) w.sessions s at (caches-parts w h.caches)) refl

pulse-right : (w : World) (link : ℕ) (found : Option Session) (o : Outcome) → IsRight o (told_pulse w link found)
pulse-right w link None o = inl (cond_both (link == 0) (told.Live w.drain) told.Displaced (λ t. tells_kept t ≡ true) (λ none. refl) (λ some. refl))
pulse-right w link (Some s) o = inl refl

parting-right : (found : Option Session) (o : Outcome) → IsRight o (told_parting found)
parting-right None o = inl refl
parting-right (Some s) o = inl refl

at-right : (w : World) (link : ℕ) (a : Ask) (o : Outcome) → IsSound w → IsRight o (answer_at w link a o)
unfolding answer_at
at-right w link (ask.Open attention) o h = inl (cond_both (is_full w) (refusal_reply code.NoMoreSessions) (told.Opened (link_number w.next_link)) (λ t. tells_kept t ≡ true) (λ full. refl) (λ room. refl))
at-right w link (ask.Call id write offset payload) o h = call-right w link (session_at w link) (request id write offset payload) o h refl
at-right w link ask.Pulse o h = pulse-right w link (session_at w link) o
at-right w link ask.Bye o h = parting-right (session_at w link) o
at-right w link ask.Lost o h = parting-right (session_at w link) o
at-right w link ask.Drain o h = inl refl

answer-right : (w : World) (e : Entry) → IsSound w → is_legal w e ≡ true → IsRight e.outcome (answer w e)
answer-right w e h legal = at-right (at_moment w e.at) e.link.0 e.ask e.outcome (moment-sound w e.at (legal-moment w e legal) h)

pub faults-alone : FaultsAlone
faults-alone w e block ends h legal tells = elim (answer-right w e h legal) [
  | inl kept ↦ absurd (false≢true (sym (ap tells_kept tells) ∙ kept))
  | inr fault ↦ fault.0
]

pub never-no-memory : NeverNoMemory
never-no-memory w e block ends h legal tells = elim (answer-right w e h legal) [
  | inl kept ↦ false≢true (sym (ap tells_kept tells) ∙ kept)
  | inr fault ↦ let bad : told.Reply code.MiscErr [] false ≡ told.Reply code.NoMemory block ends = sym fault.1 ∙ tells in cc
]

-- what was not kept is not kept behind a call's effect

is-none : (o : Option Answer) → is_none o ≡ true → o ≡ None
is-none (Some a) h = absurd (cc)
is-none None h = refl

pub keeps-none-new : KeepsNoneNew
keeps-none-new w s x test call r h found none after_it =
    let before : list_all (has_none s.number r) w.sessions ≡ true = only-number test (λ y. is_none (cached_answer y.cache r)) w.sessions s (sessions-parts w h.sessions).numbers found (ap is_none none) in
    let all : list_all (has_none s.number r) (effect w s call).world.sessions ≡ true = (row-sound call).cached w s test found (λ n c. not (n == s.number) || is_none (cached_answer c r)) before in
    let holds : has_none s.number r x ≡ true = find-all (λ y. y.number == s.number) (has_none s.number r) (effect w s call).world.sessions x after_it all in
    let same : (x.number == s.number) ≡ true = find-passes (λ y. y.number == s.number) (effect w s call).world.sessions x after_it in
    elim (or_cases (not (x.number == s.number)) (is_none (cached_answer x.cache r)) holds) [
      | inl other ↦ absurd (never (x.number == s.number) same other)
      | inr its ↦ is-none (cached_answer x.cache r) its
    ]

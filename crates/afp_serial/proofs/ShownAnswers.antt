-- An answer Ok is a kept one, or is shown by its row's reply.
use Rattle.std.proofs.Common.{◌≡◌, ◌∙◌, ap, sym, refl, subst, ℕ, Bool, true, false, not, List, [], inl, inr, ◌⊎◌, Option, Some, None}
use Rattle.std.specs.Prelude.{◌==◌}
use Rattle.std.proofs.lemmas.Bool.{and_parts, cond_both, not-true}
use Rattle.afp_base.specs.declared.code.Code.{Code}
use Rattle.afp_base.specs.declared.code.Code.TheVariants as code
use Rattle.afp_replies.specs.Replies.{Shows, canonical_reply}
use Rattle.afp_serial.proofs.Refusals.{refuses_shortly, verdict-short}
use Rattle.afp_serial.proofs.Keeps.{IsKnown}
use Rattle.afp_serial.proofs.RowsSound.{row-sound}
use Rattle.afp_serial.proofs.SoundRow.{is_ok, is_short}
use Rattle.afp_base.proofs.ListFacts.{find-all}
use Rattle.afp_serial.proofs.SoundParts.{users-parts}
use Rattle.afp_serial.specs.Users.{is_user_of}
use Rattle.afp_serial.proofs.StaysSound.{IsLawful, legal-lawful, legal-moment, moment-sound}
use Rattle.afp_serial.proofs.Verdicts.{comes-to, repeats-kept}
use Rattle.afp_serial.specs.declared.ask.Ask.{Ask}
use Rattle.afp_serial.specs.declared.ask.Ask.TheVariants as ask
use Rattle.afp_serial.specs.declared.ask.Entry.{Entry}
use Rattle.afp_serial.specs.declared.ask.Outcome.{Outcome}
use Rattle.afp_serial.specs.declared.ask.Outcome.TheVariants as outcome
use Rattle.afp_serial.specs.declared.ask.Told.{Told}
use Rattle.afp_serial.specs.declared.ask.Told.TheVariants as told
use Rattle.afp_serial.specs.Answer.{answer_at, is_full, link_number, refusal_reply, request, told_call, told_parting, told_pulse, told_verdict, Verdict, refused, repeats, runs, verdict}
use Rattle.afp_serial.specs.Laws.{IsEffectAnswer, IsKeptAnswer, TellsShown}
use Rattle.afp_serial.specs.ReplyKinds.{reply_kind}
use Rattle.afp_serial.specs.Rows.{effect}
use Rattle.afp_serial.specs.World.{is_on_link, session_at, World, Session, at_moment}
use Rattle.afp_serial.specs.Sound.{IsSound}

-- a reply's parts
abbrev pub code_of : Told → Code
code_of (told.Reply c block ends) = c
code_of t = code.MiscErr

abbrev pub block_in : Told → List ℕ
block_in (told.Reply c block ends) = block
block_in t = []

abbrev pub ends_in : Told → Bool
ends_in (told.Reply c block ends) = ends
ends_in t = false

told_ok : (t : Told) (block : List ℕ) (ends : Bool) → is_ok (code_of t) ≡ false → t ≡ told.Reply code.Ok block ends → ⊥
told_ok t block ends other is = let e : true ≡ false = ap (λ (x : Told). is_ok (code_of x)) (sym is) ∙ other in cc

module _ (w : World) (e : Entry) (block : List ℕ) (ends : Bool) (knows : IsKnown IsLawful e.ask) (h : IsSound (at_moment w e.at)) where
  -- of a request of the entry
  knows-of : (id : ℕ) (write : Bool) (offset : ℕ) (payload : List ℕ) → e.ask ≡ ask.Call id write offset payload → IsKnown IsLawful (ask.Call id write offset payload)
  knows-of id write offset payload asked = subst (IsKnown IsLawful) asked knows

  verdict-shown : (id : ℕ) (write : Bool) (offset : ℕ) (payload : List ℕ) (s : Session) (v : Verdict) (o : Outcome)
      → e.ask ≡ ask.Call id write offset payload → session_at w e.link.0 ≡ Some s → verdict (at_moment w e.at) s (request id write offset payload) ≡ v → e.outcome ≡ o
      → told_verdict (at_moment w e.at) s v o ≡ told.Reply code.Ok block ends → IsKeptAnswer w e code.Ok block ends ⊎ IsEffectAnswer w e block ends
  verdict-shown id write offset payload s (repeats a) o asked attached is went tells = inl (record {
    id = id;
    write = write;
    offset = offset;
    payload = payload;
    asked = asked;
    session = s;
    attached = attached;
    kept = repeats-kept (at_moment w e.at) s (request id write offset payload) a is ∙ (λ i. Some (record { code = code_of (tells i); block = block_in (tells i) }));
    ends_not = ap ends_in (sym tells);
  })
  verdict-shown id write offset payload s (refused r) o asked attached is went tells =
      absurd (told_ok (told_verdict (at_moment w e.at) s (refused r) o) block ends (not-true (is_ok r.code) (and_parts (is_short r.reply) (not (is_ok r.code)) (ap refuses_shortly (sym is) ∙ verdict-short (at_moment w e.at) s (request id write offset payload) h)).1) tells)
  verdict-shown id write offset payload s (runs call) outcome.Fault asked attached is went tells = absurd (told_ok (refusal_reply code.MiscErr) block ends refl tells)
  verdict-shown id write offset payload s (runs call) outcome.Done asked attached is went tells =
      let runs_to = comes-to (at_moment w e.at) s (request id write offset payload) call is in
      let same : canonical_reply (effect (at_moment w e.at) s call).reply ≡ block = ap block_in tells in
      inr (record {
        id = id;
        write = write;
        offset = offset;
        payload = payload;
        asked = asked;
        session = s;
        attached = attached;
        call = call;
        runs = runs_to;
        done = went;
        block_is = sym same;
        shows = subst (λ (b : List ℕ). Shows (effect (at_moment w e.at) s call).reply (reply_kind call) code.Ok b) same ((row-sound call).shown (at_moment w e.at) s (knows-of id write offset payload asked call runs_to.spelt) runs_to.passes h
            (λ asks. find-all (λ x. is_on_link e.link.0 x.place) (λ x. is_user_of w.house.users x.user) w.sessions s attached (users-parts (at_moment w e.at) h.users)));
        ends_is = ap ends_in (sym tells);
      })

  call-shown : (id : ℕ) (write : Bool) (offset : ℕ) (payload : List ℕ) (session : Option Session) (o : Outcome)
      → e.ask ≡ ask.Call id write offset payload → session_at w e.link.0 ≡ session → e.outcome ≡ o
      → told_call (at_moment w e.at) session (request id write offset payload) o ≡ told.Reply code.Ok block ends → IsKeptAnswer w e code.Ok block ends ⊎ IsEffectAnswer w e block ends
  call-shown id write offset payload None o asked at went tells = absurd (told_ok told.Displaced block ends refl tells)
  call-shown id write offset payload (Some s) o asked at went tells =
      verdict-shown id write offset payload s (verdict (at_moment w e.at) s (request id write offset payload)) o asked at refl went tells

  pulse-not : (v : World) (link : ℕ) (session : Option Session) → is_ok (code_of (told_pulse v link session)) ≡ false
  pulse-not v link None = cond_both (link == 0) (told.Live v.drain) told.Displaced (λ t. is_ok (code_of t) ≡ false) (λ none. refl) (λ other. refl)
  pulse-not v link (Some s) = refl

  parting-not : (session : Option Session) → is_ok (code_of (told_parting session)) ≡ false
  parting-not None = refl
  parting-not (Some s) = refl

  ask-shown : (a : Ask) (o : Outcome) → e.ask ≡ a → e.outcome ≡ o → answer_at (at_moment w e.at) e.link.0 a o ≡ told.Reply code.Ok block ends
      → IsKeptAnswer w e code.Ok block ends ⊎ IsEffectAnswer w e block ends
  unfolding answer_at
  ask-shown (ask.Open attention) o asked went tells =
      absurd (told_ok (answer_at (at_moment w e.at) e.link.0 (ask.Open attention) o) block ends
      (cond_both (is_full (at_moment w e.at)) (refusal_reply code.NoMoreSessions) (told.Opened (link_number w.next_link)) (λ t. is_ok (code_of t) ≡ false) (λ full. refl) (λ room. refl)) tells)
  ask-shown (ask.Call id write offset payload) o asked went tells = call-shown id write offset payload (session_at w e.link.0) o asked refl went tells
  ask-shown ask.Pulse o asked went tells = absurd (told_ok (told_pulse (at_moment w e.at) e.link.0 (session_at w e.link.0)) block ends (pulse-not (at_moment w e.at) e.link.0 (session_at w e.link.0)) tells)
  ask-shown ask.Bye o asked went tells = absurd (told_ok (told_parting (session_at w e.link.0)) block ends (parting-not (session_at w e.link.0)) tells)
  ask-shown ask.Lost o asked went tells = absurd (told_ok (told_parting (session_at w e.link.0)) block ends (parting-not (session_at w e.link.0)) tells)
  ask-shown ask.Drain o asked went tells = absurd (told_ok told.Done block ends refl tells)

pub tells-shown : TellsShown
tells-shown w e block ends sound legal tells = ask-shown w e block ends (legal-lawful w e legal) (moment-sound w e.at (legal-moment w e legal) sound) e.ask e.outcome refl refl tells

-- An answer that is not Ok is a kept one, or the shown refusal of a row, or tells nothing.
use Rattle.std.proofs.Common.{◌≡◌, ◌≢◌, ◌∙◌, ap, sym, refl, subst, ℕ, Bool, true, false, List, [], cond, inl, inr, ◌⊎◌, Option, Some, None}
use Rattle.std.specs.Prelude.{◌==◌}
use Rattle.std.proofs.lemmas.Bool.{cond_both}
use Rattle.afp_base.specs.declared.code.Code.{Code}
use Rattle.afp_base.specs.declared.code.Code.TheVariants as code
use Rattle.afp_replies.proofs.Asking.{nothing_fits}
use Rattle.afp_replies.proofs.Showing.{what_fits_a_request}
use Rattle.afp_replies.specs.Commands.{shape_of}
use Rattle.afp_replies.specs.Replies.{Shows, canonical_reply}
use Rattle.afp_replies.specs.Requested.{tells_nothing}
use Rattle.afp_replies.specs.declared.reply.Reply.TheVariants.{Empty}
use Rattle.afp_replies.specs.declared.reply.ReplyKind.{ReplyKind}
use Rattle.afp_calls_grammar.specs.grammar.Spelt.{spelt_call}
use Rattle.afp_serial.proofs.RowsSound.{row-sound}
use Rattle.afp_serial.proofs.ShownAnswers.{block_in, code_of, ends_in}
use Rattle.afp_serial.proofs.SoundRow.{is_refused, no_more-nothing, no_more-parts}
use Rattle.afp_serial.proofs.StaysSound.{legal-moment, moment-sound}
use Rattle.afp_serial.proofs.Verdicts.{Refuses, refused-by, repeats-kept}
use Rattle.afp_serial.specs.declared.ask.Ask.{Ask}
use Rattle.afp_serial.specs.declared.ask.Ask.TheVariants as ask
use Rattle.afp_serial.specs.declared.ask.Entry.{Entry}
use Rattle.afp_serial.specs.declared.ask.Outcome.{Outcome}
use Rattle.afp_serial.specs.declared.ask.Outcome.TheVariants as outcome
use Rattle.afp_serial.specs.declared.ask.Told.{Told}
use Rattle.afp_serial.specs.declared.ask.Told.TheVariants as told
use Rattle.afp_serial.specs.Answer.{answer_at, is_full, link_number, refusal_reply, refused_reply, request, told_call, told_parting, told_pulse, told_verdict, Verdict, refused, repeats, runs, verdict}
use Rattle.afp_serial.specs.KeptAnswers.{block_of, enclosed_of}
use Rattle.afp_serial.specs.World.{Refused, session_at, World, Session, at_moment}
use Rattle.afp_serial.specs.Laws.{IsKeptAnswer, IsRowRefusal, RefusesShown, TellsNothing}
use Rattle.afp_serial.specs.ReplyKinds.{reply_kind}
use Rattle.afp_serial.specs.Sound.{IsSound}

abbrev is_reply : Told → Bool
is_reply (told.Reply c block ends) = true
is_reply t = false

-- no request is told more under the code
abbrev IsBare : Code → Type 0
IsBare c = (command : ℕ) → tells_nothing (shape_of command) c ≡ true

nothing-shown : (c : Code) (kind : ReplyKind) → IsBare c → Shows Empty kind c []
nothing-shown c kind bare = what_fits_a_request Empty kind c (nothing_fits kind c (bare kind.command))

-- what an answer says that is not Ok
abbrev Says : World → Entry → Code → List ℕ → Bool → Type 0
Says w e c block ends = (ends ≡ false) × (IsKeptAnswer w e c block ends ⊎ (IsRowRefusal w e c block ⊎ TellsNothing c block))

module _ (w : World) (e : Entry) (c : Code) (block : List ℕ) (ends : Bool) (other : c ≢ code.Ok) (h : IsSound (at_moment w e.at)) where
  no-reply : (t : Told) → is_reply t ≡ false → t ≡ told.Reply c block ends → Says w e c block ends
  no-reply t none tells = let bad : true ≡ false = sym (ap is_reply tells) ∙ none in absurd (cc)

  says-nothing : (x : Code) → IsBare x → refusal_reply x ≡ told.Reply c block ends → Says w e c block ends
  says-nothing x bare tells = (
    sym (ap ends_in tells),
    inr (inr (record {
      bytes = sym (ap block_in tells);
      shows = λ kind. subst (λ (t : Told). Shows Empty kind (code_of t) (block_in t)) tells (nothing-shown x kind bare);
    })),
  )

  says-no_more : (x : Refused) → is_refused x ≡ true → refused_reply x ≡ told.Reply c block ends → Says w e c block ends
  says-no_more x no_more tells =
      let parts = no_more-parts x no_more in
      says-nothing x.code (λ command. no_more-nothing command x.code parts.1) (ap (λ r. told.Reply x.code (canonical_reply r) false) (sym parts.0) ∙ tells)

  module _ (id : ℕ) (write : Bool) (offset : ℕ) (payload : List ℕ) (asked : e.ask ≡ ask.Call id write offset payload) where
    says-refused : (s : Session) (x : Refused) → session_at w e.link.0 ≡ Some s → Refuses (at_moment w e.at) s (spelt_call (block_of (request id write offset payload)) (enclosed_of (request id write offset payload))) x → refused_reply x ≡ told.Reply c block ends → Says w e c block ends
    says-refused s x attached (inl r) tells = (
      sym (ap ends_in tells),
      inr (inl (record {
        id = id;
        write = write;
        offset = offset;
        payload = payload;
        asked = asked;
        session = s;
        attached = attached;
        call = r.0;
        spelt = r.1;
        told_by = x;
        refuses = r.2;
        code_is = sym (ap code_of tells);
        block_is = sym (ap block_in tells);
        shows = subst (λ (t : Told). Shows x.reply (reply_kind r.0) (code_of t) (block_in t)) tells (what_fits_a_request x.reply (reply_kind r.0) x.code ((row-sound r.0).refuses (at_moment w e.at) s x r.2 h).fits);
      })),
    )
    says-refused s x attached (inr no_more) tells = says-no_more x no_more tells

    verdict-refused : (s : Session) (v : Verdict) (o : Outcome) → session_at w e.link.0 ≡ Some s → verdict (at_moment w e.at) s (request id write offset payload) ≡ v → told_verdict (at_moment w e.at) s v o ≡ told.Reply c block ends → Says w e c block ends
    verdict-refused s (repeats a) o attached is tells = (
      sym (ap ends_in tells),
      inl (record {
        id = id;
        write = write;
        offset = offset;
        payload = payload;
        asked = asked;
        session = s;
        attached = attached;
        kept = repeats-kept (at_moment w e.at) s (request id write offset payload) a is ∙ (λ i. Some (record { code = code_of (tells i); block = block_in (tells i) }));
        ends_not = sym (ap ends_in tells);
      }),
    )
    verdict-refused s (refused x) o attached is tells = says-refused s x attached (refused-by (at_moment w e.at) s (request id write offset payload) x is) tells
    verdict-refused s (runs call) outcome.Fault attached is tells = says-nothing code.MiscErr (λ command. refl) tells
    verdict-refused s (runs call) outcome.Done attached is tells = absurd (other (sym (ap code_of tells)))

    call-refused : (session : Option Session) (o : Outcome) → session_at w e.link.0 ≡ session → told_call (at_moment w e.at) session (request id write offset payload) o ≡ told.Reply c block ends → Says w e c block ends
    call-refused None o at tells = no-reply told.Displaced refl tells
    call-refused (Some s) o at tells = verdict-refused s (verdict (at_moment w e.at) s (request id write offset payload)) o at refl tells

  open-refused : (full : Bool) (l : ℕ) → cond full (refusal_reply code.NoMoreSessions) (told.Opened (link_number l)) ≡ told.Reply c block ends → Says w e c block ends
  open-refused true l tells = says-nothing code.NoMoreSessions (λ command. refl) tells
  open-refused false l tells = no-reply (told.Opened (link_number l)) refl tells

  pulse-refused : (v : World) (link : ℕ) (session : Option Session) → told_pulse v link session ≡ told.Reply c block ends → Says w e c block ends
  pulse-refused v link None tells = no-reply (told_pulse v link None) (cond_both (link == 0) (told.Live v.drain) told.Displaced (λ t. is_reply t ≡ false) (λ none. refl) (λ some. refl)) tells
  pulse-refused v link (Some s) tells = no-reply (told.Live v.drain) refl tells

  parting-refused : (session : Option Session) → told_parting session ≡ told.Reply c block ends → Says w e c block ends
  parting-refused None tells = no-reply told.Displaced refl tells
  parting-refused (Some s) tells = no-reply told.Done refl tells

  ask-refused : (a : Ask) (o : Outcome) → e.ask ≡ a → answer_at (at_moment w e.at) e.link.0 a o ≡ told.Reply c block ends → Says w e c block ends
  unfolding answer_at
  ask-refused (ask.Open attention) o asked tells = open-refused (is_full (at_moment w e.at)) w.next_link tells
  ask-refused (ask.Call id write offset payload) o asked tells = call-refused id write offset payload asked (session_at w e.link.0) o refl tells
  ask-refused ask.Pulse o asked tells = pulse-refused (at_moment w e.at) e.link.0 (session_at w e.link.0) tells
  ask-refused ask.Bye o asked tells = parting-refused (session_at w e.link.0) tells
  ask-refused ask.Lost o asked tells = parting-refused (session_at w e.link.0) tells
  ask-refused ask.Drain o asked tells = no-reply told.Done refl tells

pub refuses-shown : RefusesShown
refuses-shown w e c block ends sound legal tells other = ask-refused w e c block ends other (moment-sound w e.at (legal-moment w e legal) sound) e.ask e.outcome refl tells

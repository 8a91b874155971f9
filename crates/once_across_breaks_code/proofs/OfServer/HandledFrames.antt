-- What a link does with a frame is what the law says.
use Rattle.std.proofs.Common.{◌≡◌, ◌∙◌, inl, inr, refl, sym, ap, subst, ℕ, Bool, true, false, cond, List, [], ◌∷◌, ◌++◌, Option, Some, None, append-nil}
use Rattle.std.specs.Prelude.{◌||◌, map}
use Rattle.std.proofs.Math.Nat.{mod-eq_of_lt}
use Rattle.std.proofs.lemmas.Bool.{cond_both}
use Rattle.afp_base.specs.declared.code.Code.{Code}
use Rattle.afp_base.specs.declared.code.Code.TheVariants as code
use Rattle.afp_base.specs.declared.ids.LinkNumber.{LinkNumber}
use Rattle.afp_serial.specs.declared.ask.Ask as asks
use Rattle.afp_serial.specs.declared.ask.Ask.TheVariants as ask
use Rattle.afp_serial.specs.declared.ask.Entry as entries
use Rattle.afp_serial.specs.declared.ask.Outcome as outcomes
use Rattle.afp_serial.specs.declared.ask.Told as tolds
use Rattle.afp_serial.specs.declared.ask.Told.TheVariants as told
use Rattle.afp_serial.specs.Answer.{after, answer, answer_at, is_full, link_number, refusal_reply}
use Rattle.afp_serial.specs.Laws.{HidesNoRefusal, KeepsSound}
use Rattle.afp_serial.specs.SessionViews.{FaultsAlone, NeverNoMemory}
use Rattle.afp_serial.specs.Sound.{IsSound}
use Rattle.afp_serial.specs.Went.{Step, step}
use Rattle.afp_serial.specs.World.{World, at_moment}
use Rattle.afp_server.specs.link.Calls.{AsksCall, CallTold}
use Rattle.afp_server.specs.link.Did.{Did, is_bad}
use Rattle.afp_server.specs.link.OpenSession.{OpenTold, OpensSession, no_link, option_bytes}
use Rattle.afp_server.specs.link.Script.{FrameDoes, FreshDoes, OpenDoes}
use Rattle.afp_server.specs.declared.link.stage.FrameEnd.{FrameEnd}
use Rattle.afp_server.specs.declared.link.stage.FrameEnd.TheVariants as ends
use Rattle.afp_server.specs.declared.link.stage.Stage.{Stage}
use Rattle.afp_server.specs.declared.link.stage.Stage.TheVariants as stages
use Rattle.dsi_frame.specs.Frame.{Frame}
use Rattle.dsi_frame.specs.Replies.{code_word, listed, reply_to}
use Rattle.dsi_frame.specs.declared.frame.DsiCommand.{DsiCommand}
use Rattle.dsi_frame.specs.declared.frame.Reason.TheVariants as reasons
use Rattle.dsi_session.specs.OptionLaws.{IsReadOneWay}
use Rattle.dsi_session.specs.Options.{attention_of}
use Rattle.once_across_breaks.specs.once.Dsi.{answered_block, answered_code, call_command, told_options}
use Rattle.once_across_breaks.specs.once.Fits.{IsId}
use Rattle.once_across_breaks.specs.once.Frames.{End, Handled, Heard, HeardCall, HeardOpen, call_by, call_entry, call_told, dropped, handles, handles_open, open_told, replied}
use Rattle.once_across_breaks.specs.once.Messages.{Answer, Body, wire_id}
use Rattle.once_across_breaks.specs.once.Run.{Wish, comes}
use Rattle.once_across_breaks.specs.once.Serial.{Setup, answer_by, ask_of, entry_of, machine, told_of, written}
use Rattle.once_across_breaks.specs.once.Server as law
use Rattle.once_across_breaks.specs.once.Server.{Calls, Open, Pulse, Ran, entry}
use Rattle.once_across_breaks_code.specs.server.Asked.{AskedAlone, AskedBy, BecomesEntry}
use Rattle.once_across_breaks_code.specs.server.Handling.{FramesAreHandled, IsHandled, OthersAreDropped, any_fault, is_memory, wish_by}
use Rattle.once_across_breaks_code.specs.server.Ties.{AreEntries, CarriesFramed, IsEndBehind, OpensLink, answered, plain, reply_frames}
use Rattle.once_across_breaks_code.proofs.OfServer.Entries.{IsAs, as-entry, as-ran, call-entry, entries-join, entries-none, law_outcome, one-alone, open-uncommitted, pulse-uncommitted}

-- what the crates below say
pub record Laws : Type 0 where
  pub exclusive : IsReadOneWay
  pub faults : FaultsAlone
  pub memory : NeverNoMemory
  pub hides : HidesNoRefusal
  pub keeps : KeepsSound

pub laws-of : IsReadOneWay → FaultsAlone → NeverNoMemory → HidesNoRefusal → KeepsSound → Laws
laws-of exclusive faults memory hides keeps = record { exclusive = exclusive; faults = faults; memory = memory; hides = hides; keeps = keeps }

-- ---- a reply is the law's

-- MiscErr and NoMemory come with no bytes
pub record IsBare (c : Code) (block : List ℕ) : Type 0 where
  pub fault : c ≡ code.MiscErr → block ≡ []
  pub memory : c ≡ code.NoMemory → block ≡ []

bare-told : Laws → (w : World) (s : Step) (es : List entries.Entry) (behind : World) (c : Code) (block : List ℕ) (ends : Bool) → IsSound w → BecomesEntry w s es behind → s.told ≡ told.Reply c block ends → IsBare c block
bare-told laws w s es behind c block ends sound (e, all, b) tells =
    let is : answer w e ≡ told.Reply c block ends = sym b.told ∙ tells in
    record {
      fault = λ same.
          let miss : answer w e ≡ told.Reply code.MiscErr block ends = is ∙ ap (λ (x : Code). told.Reply x block ends) same in
          let fails = laws.hides w e (laws.faults w e block ends sound b.legal miss) b.legal in
          let both : told.Reply code.MiscErr block ends ≡ told.Reply code.MiscErr [] false = sym miss ∙ fails.answered in
          cc;
      memory = λ same. absurd (laws.memory w e block ends sound b.legal (is ∙ ap (λ (x : Code). told.Reply x block ends) same));
    }

exact : (c : Code) (block : List ℕ) → IsBare c block → (answered_code (answer_by c block) ≡ c) × (answered_block (answer_by c block) ≡ block)
exact code.Ok block bare = (refl, refl)
exact code.MiscErr block bare = (refl, sym (bare.fault refl))
exact code.NoMemory block bare = (refl, sym (bare.memory refl))
exact c block bare = (refl, refl)

-- what was done, by its parts
handled-by : (u : Setup) (r : ℕ × Heard) (did : Did) (es : List entries.Entry) (behind : World) (h : Handled World) (reply : Option Frame) (stage : Stage) (end : Option FrameEnd)
    → did.reply ≡ reply → did.stage ≡ stage → did.end ≡ end → h.world ≡ behind → AreEntries u h.entries es → IsEndBehind stage end h.end → listed reply ≡ reply_frames u (answered r h.reply)
    → IsHandled u r did es behind h
handled-by u r did es behind h reply stage end p q o world all ends says = record {
  world = world;
  asked = all;
  comes = subst (λ (s : Stage). IsEndBehind s did.end h.end) (sym q) (subst (λ (x : Option FrameEnd). IsEndBehind stage x h.end) (sym o) ends);
  says = ap listed p ∙ says;
}

-- ---- a call

-- the law's call comes to what was told
pub record Comes (u : Setup) (w : World) (es : List entries.Entry) (behind : World) (e : End) (body : Body) (t : tolds.Told) (h : Handled World) : Type 0 where
  pub x : law.Entry
  pub asked : AreEntries u (x ∷ []) es
  pub is : h ≡ call_told behind (x ∷ []) e body (told_of t)

call-comes : (u : Setup) (now : ℕ) (link : LinkNumber) (id : ℕ) (body : Body) (w behind : World) (es : List entries.Entry) (e : End) (t : tolds.Told)
    → BecomesEntry w (step now link (ask_of u (Calls id body)) t) es behind
    → Comes u w es behind e body t (call_by (machine u) w e body (call_entry (machine u) w link.0 now (Calls id body) (any_fault es)))
call-comes u now link id body w behind es e t b =
    let x : law.Entry = entry link.0 now (Calls id body) (law_outcome b.2.outcome) in
    let is = as-entry u w now link (ask_of u (Calls id body)) t (Calls id body) es behind refl b in
    record {
      x = x;
      asked = is.asked;
      is = ap (call_by (machine u) w e body) (call-entry u w now link t (Calls id body) es behind refl b) ∙ (λ i. call_told (is.left i) (x ∷ []) e body (told_of (is.told i)));
    }

says-call : (u : Setup) (n id : ℕ) (body : Body) (f : Frame) (c : Code) (block : List ℕ) → CarriesFramed id (written u body) f → IsBare c block
    → reply_to f c block ∷ [] ≡ reply_frames u (((n, HeardCall id body), answer_by c block) ∷ [])
says-call u n id body f c block carries bare =
    let same = exact c block bare in
    λ k. record { reply = true; command = carries.command k; id = carries.numbered k; word = code_word (sym same.0 k); payload = sym same.1 k } ∷ []

abbrev IsCallHandled : Setup → ℕ → LinkNumber → ℕ → ℕ → Body → World → World → List entries.Entry → End → Did → tolds.Told → Type 0
IsCallHandled u now link n id body w behind es e did t =
    IsHandled u (n, HeardCall id body) did es behind (handles (machine u) w now (wish_by (step now link (ask_of u (Calls id body)) t ∷ []) es) e (Some link.0) (HeardCall id body))

call-handled : Laws → (u : Setup) (now : ℕ) (link : LinkNumber) (f : Frame) (n id : ℕ) (body : Body) (w behind : World) (es : List entries.Entry) (e : End) (did : Did) (t : tolds.Told)
    → IsSound w
    → CarriesFramed id (written u body) f
    → e.number ≡ Some link.0
    → e.ended ≡ false
    → AskedBy w (step now link (ask_of u (Calls id body)) t) t es behind
    → CallTold f link t did.reply did.stage did.end
    → IsCallHandled u now link n id body w behind es e did t
call-handled laws u now link f n id body w behind es e did (told.Reply c block true) sound carries number live b (reply, stage, end) =
    let x = call-comes u now link id body w behind es e (told.Reply c block true) b in
    subst (λ (h : Handled World). IsHandled u (n, HeardCall id body) did es behind h) (sym x.is)
    (handled-by u (n, HeardCall id body) did es behind (replied behind (x.x ∷ []) (record { number = e.number; ended = true; got = e.got || comes body (answer_by c block) }) (answer_by c block))
    (Some (reply_to f c block)) stages.Closing (Some ends.Closed) reply stage end refl x.asked refl (says-call u n id body f c block carries (bare-told laws w (step now link (ask_of u (Calls id body)) (told.Reply c block true)) es behind c block true sound b refl)))
call-handled laws u now link f n id body w behind es e did (told.Reply c block false) sound carries number live b (reply, stage, end) =
    let x = call-comes u now link id body w behind es e (told.Reply c block false) b in
    subst (λ (h : Handled World). IsHandled u (n, HeardCall id body) did es behind h) (sym x.is)
    (handled-by u (n, HeardCall id body) did es behind (replied behind (x.x ∷ []) (record { number = e.number; ended = false; got = e.got || comes body (answer_by c block) }) (answer_by c block))
    (Some (reply_to f c block)) (stages.Open link) None reply stage end refl x.asked (number, refl) (says-call u n id body f c block carries (bare-told laws w (step now link (ask_of u (Calls id body)) (told.Reply c block false)) es behind c block false sound b refl)))
call-handled laws u now link f n id body w behind es e did told.Memory sound carries number live (none, same) (reply, stage, end) =
    handled-by u (n, HeardCall id body) did es behind (replied w [] e (answer_by code.NoMemory []))
    (Some (reply_to f code.NoMemory [])) (stages.Open link) None reply stage end (sym same) (entries-none u es none) (number, live) (says-call u n id body f code.NoMemory [] carries (record { fault = λ is. refl; memory = λ is. refl }))
call-handled laws u now link f n id body w behind es e did told.Displaced sound carries number live b (reply, stage, end) =
    let x = call-comes u now link id body w behind es e told.Displaced b in
    subst (λ (h : Handled World). IsHandled u (n, HeardCall id body) did es behind h) (sym x.is)
    (handled-by u (n, HeardCall id body) did es behind (dropped behind (x.x ∷ []) e) None stages.Closing (Some ends.Displaced) reply stage end refl x.asked refl refl)
call-handled laws u now link f n id body w behind es e did (told.Opened other) sound carries number live b t = absurd t
call-handled laws u now link f n id body w behind es e did (told.Live drain) sound carries number live b t = absurd t
call-handled laws u now link f n id body w behind es e did told.Done sound carries number live b t = absurd t

pub carried-id : (id : ℕ) (f : Frame) → IsId id → f.id ≡ id → f.id ≡ wire_id id
carried-id id f fits numbered = numbered ∙ sym (mod-eq_of_lt fits)

-- the frame asks what the law asks
pub asks-framed : (block : List ℕ) (now : ℕ) (link : LinkNumber) (f : Frame) (did : Did) (c : DsiCommand) (b : Bool) (i offset : ℕ) (payload : List ℕ)
    → c ≡ call_command b → f.id ≡ i → offset ≡ cond b f.word 0 → f.payload ≡ payload → OpenDoes block now link c f did → AsksCall now link f (ask.Call i b offset payload) did
asks-framed block now link f did c true i offset payload command id place bytes does =
    subst (λ (a : asks.Ask). AsksCall now link f a did) (λ k. ask.Call (id k) true (sym place k) (bytes k)) (subst (λ (d : DsiCommand). OpenDoes block now link d f did) command does)
asks-framed block now link f did c false i offset payload command id place bytes does =
    subst (λ (a : asks.Ask). AsksCall now link f a did) (λ k. ask.Call (id k) false (sym place k) (bytes k)) (subst (λ (d : DsiCommand). OpenDoes block now link d f did) command does)

open-call : Laws → (u : Setup) (block : List ℕ) (now : ℕ) (link : LinkNumber) (f : Frame) (did : Did) (n id : ℕ) (body : Body) (w behind : World) (es : List entries.Entry) (e : End)
    → IsSound w → OpenDoes block now link f.command f did → CarriesFramed id (written u body) f → AskedAlone w did.steps es behind → e.number ≡ Some link.0 → e.ended ≡ false
    → IsHandled u (n, HeardCall id body) did es behind (handles (machine u) w now (wish_by did.steps es) e (Some link.0) (HeardCall id body))
open-call laws u block now link f did n id body w behind es e sound does carries asked number live =
    let call = asks-framed block now link f did f.command (written u body).write (wire_id id) (written u body).offset (written u body).payload carries.command (carried-id id f carries.fits carries.numbered) carries.offset carries.payload does in
    let s : Step = step now link (ask_of u (Calls id body)) call.answer in
    subst (λ (ss : List Step). IsHandled u (n, HeardCall id body) did es behind (handles (machine u) w now (wish_by ss es) e (Some link.0) (HeardCall id body))) (sym call.steps)
    (call-handled laws u now link f n id body w behind es e did call.answer sound carries number live
    (one-alone w s es behind (subst (λ (ss : List Step). AskedAlone w ss es behind) call.steps asked)) call.told)

-- ---- OpenSession

-- Open is refused by one code, with no bytes
refused-open : (w : World) (att : ℕ) (o : outcomes.Outcome) (link : ℕ) (c : Code) (block : List ℕ) (ends : Bool) → told.Reply c block ends ≡ answer_at w link (ask.Open att) o → (c ≡ code.NoMoreSessions) × (block ≡ [])
unfolding answer_at
refused-open w att o link c block ends =
    cond_both (is_full w) (refusal_reply code.NoMoreSessions) (told.Opened (link_number w.next_link)) (λ t. told.Reply c block ends ≡ t → (c ≡ code.NoMoreSessions) × (block ≡ []))
    (λ full is. (cc, cc)) (λ room is. absurd (cc))

refused-code : (c : Code) (block : List ℕ) → c ≡ code.NoMoreSessions → answered_code (answer_by c block) ≡ c
refused-code c block is = subst (λ (x : Code). answered_code (answer_by x block) ≡ x) (sym is) refl

refused-block : (c : Code) (block : List ℕ) → c ≡ code.NoMoreSessions → block ≡ [] → told_options (answer_by c block) ≡ block
refused-block c block is none = subst (λ (x : Code). told_options (answer_by x block) ≡ block) (sym is) refl

says-open : (u : Setup) (n : ℕ) (f : Frame) (c : Code) (block : List ℕ) (a : Answer) → OpensLink n f → answered_code a ≡ c → told_options a ≡ block → reply_to f c block ∷ [] ≡ reply_frames u (((n, HeardOpen), a) ∷ [])
says-open u n f c block a opens p q =
    λ k. record { reply = true; command = opens.command k; id = opens.numbered k; word = code_word (sym p k); payload = sym q k } ∷ []

abbrev pub open_wish : Bool → tolds.Told → Bool → Wish
open_wish no_sweep t fault = record { no_sweep = no_sweep; memory = is_memory t; fault = fault }

open-is : (u : Setup) (w behind : World) (now : ℕ) (es : List entries.Entry) (e : End) (t : tolds.Told) (swept : List law.Entry) → IsAs u w es behind t (entry 0 now Open Ran)
    → open_told (after w (entry_of u (entry 0 now Open Ran))) (swept ++ entry 0 now Open Ran ∷ []) e (told_of (answer w (entry_of u (entry 0 now Open Ran)))) ≡ open_told behind (swept ++ entry 0 now Open Ran ∷ []) e (told_of t)
open-is u w behind now es e t swept is = λ i. open_told (is.left i) (swept ++ entry 0 now Open Ran ∷ []) e (told_of (is.told i))

pub opened-handled : (u : Setup) (n now att : ℕ) (f : Frame) (w behind : World) (es fs : List entries.Entry) (e : End) (did : Did) (swept : List law.Entry) (no_sweep fault : Bool) (t : tolds.Told)
    → OpensLink n f
    → e.number ≡ None
    → e.ended ≡ false
    → AreEntries u swept es
    → AskedBy w (step now no_link (ask.Open att) t) t fs behind
    → OpenTold f t did.reply did.stage
    → did.end ≡ None
    → IsHandled u (n, HeardOpen) did (es ++ fs) behind (handles_open (machine u) w swept now (open_wish no_sweep t fault) e)
opened-handled u n now att f w behind es fs e did swept no_sweep fault (told.Opened link) opens number live first b (reply, stage) end =
    let is = as-ran u w now no_link (ask.Open att) (told.Opened link) Open fs behind refl (open-uncommitted att) b in
    subst (λ (h : Handled World). IsHandled u (n, HeardOpen) did (es ++ fs) behind h) (sym (open-is u w behind now fs e (told.Opened link) swept is))
    (handled-by u (n, HeardOpen) did (es ++ fs) behind (replied behind (swept ++ entry 0 now Open Ran ∷ []) (record { number = Some link.0; ended = e.ended; got = e.got }) (answer_by code.Ok []))
    (Some (reply_to f code.Ok option_bytes)) (stages.Open link) None reply stage end refl (entries-join u swept (entry 0 now Open Ran ∷ []) es fs first is.asked) (refl, live)
    (says-open u n f code.Ok option_bytes (answer_by code.Ok []) opens refl refl))
opened-handled u n now att f w behind es fs e did swept no_sweep fault (told.Reply c block ends) opens number live first b (reply, stage) end =
    let is = as-ran u w now no_link (ask.Open att) (told.Reply c block ends) Open fs behind refl (open-uncommitted att) b in
    let refused = refused-open (at_moment w now) att b.2.outcome 0 c block ends (b.2.told ∙ ap (λ (y : entries.Entry). answer w y) b.2.is) in
    subst (λ (h : Handled World). IsHandled u (n, HeardOpen) did (es ++ fs) behind h) (sym (open-is u w behind now fs e (told.Reply c block ends) swept is))
    (handled-by u (n, HeardOpen) did (es ++ fs) behind (replied behind (swept ++ entry 0 now Open Ran ∷ []) e (answer_by c block))
    (Some (reply_to f c block)) stages.Fresh None reply stage end refl (entries-join u swept (entry 0 now Open Ran ∷ []) es fs first is.asked) (number, live)
    (says-open u n f c block (answer_by c block) opens (refused-code c block refused.0) (refused-block c block refused.0 refused.1)))
opened-handled u n now att f w behind es fs e did swept no_sweep fault told.Memory opens number live first (none, same) (reply, stage) end =
    handled-by u (n, HeardOpen) did (es ++ fs) behind (replied w swept e (answer_by code.NoMemory []))
    (Some (reply_to f code.NoMemory [])) stages.Fresh None reply stage end (sym same)
    (first ∙ sym (ap (λ (l : List entries.Entry). map plain (es ++ l)) none ∙ ap (map plain) (append-nil es))) (number, live)
    (says-open u n f code.NoMemory [] (answer_by code.NoMemory []) opens refl refl)
opened-handled u n now att f w behind es fs e did swept no_sweep fault (told.Live drain) opens number live first b t end = absurd t
opened-handled u n now att f w behind es fs e did swept no_sweep fault told.Done opens number live first b t end = absurd t
opened-handled u n now att f w behind es fs e did swept no_sweep fault told.Displaced opens number live first b t end = absurd t

-- the sweep, by what its Pulse is told
abbrev IsOpenHandled : Setup → ℕ → ℕ → World → World → List entries.Entry → End → Did → tolds.Told → tolds.Told → Bool → Type 0
IsOpenHandled u n now w behind es e did p t fault =
    IsHandled u (n, HeardOpen) did es behind (handles (machine u) w now (open_wish (is_memory p) t fault) e None HeardOpen)

swept-handled : (u : Setup) (n now att : ℕ) (f : Frame) (w mid behind : World) (es fs : List entries.Entry) (e : End) (did : Did) (fault : Bool) (p t : tolds.Told)
    → OpensLink n f → e.number ≡ None → e.ended ≡ false
    → BecomesEntry w (step now no_link ask.Pulse p) es mid
    → AskedBy mid (step now no_link (ask.Open att) t) t fs behind
    → OpenTold f t did.reply did.stage
    → did.end ≡ None
    → IsHandled u (n, HeardOpen) did (es ++ fs) behind (handles_open (machine u) (after w (entry_of u (entry 0 now Pulse Ran))) (entry 0 now Pulse Ran ∷ []) now (open_wish false t fault) e)
swept-handled u n now att f w mid behind es fs e did fault p t opens number live b asked answer end =
    let is = as-ran u w now no_link ask.Pulse p Pulse es mid refl pulse-uncommitted b in
    subst (λ (v : World). IsHandled u (n, HeardOpen) did (es ++ fs) behind (handles_open (machine u) v (entry 0 now Pulse Ran ∷ []) now (open_wish false t fault) e)) (sym is.left)
    (opened-handled u n now att f mid behind es fs e did (entry 0 now Pulse Ran ∷ []) false fault t opens number live is.asked asked answer end)

open-handled : (u : Setup) (n now att : ℕ) (f : Frame) (w mid behind : World) (es fs : List entries.Entry) (e : End) (did : Did) (fault : Bool) (p t : tolds.Told)
    → OpensLink n f → e.number ≡ None → e.ended ≡ false
    → AskedBy w (step now no_link ask.Pulse p) p es mid
    → AskedBy mid (step now no_link (ask.Open att) t) t fs behind
    → OpenTold f t did.reply did.stage
    → did.end ≡ None
    → IsOpenHandled u n now w behind (es ++ fs) e did p t fault
open-handled u n now att f w mid behind es fs e did fault (told.Opened l) t opens number live b asked answer end = swept-handled u n now att f w mid behind es fs e did fault (told.Opened l) t opens number live b asked answer end
open-handled u n now att f w mid behind es fs e did fault (told.Reply c block ends) t opens number live b asked answer end = swept-handled u n now att f w mid behind es fs e did fault (told.Reply c block ends) t opens number live b asked answer end
open-handled u n now att f w mid behind es fs e did fault (told.Live drain) t opens number live b asked answer end = swept-handled u n now att f w mid behind es fs e did fault (told.Live drain) t opens number live b asked answer end
open-handled u n now att f w mid behind es fs e did fault told.Done t opens number live b asked answer end = swept-handled u n now att f w mid behind es fs e did fault told.Done t opens number live b asked answer end
open-handled u n now att f w mid behind es fs e did fault told.Displaced t opens number live b asked answer end = swept-handled u n now att f w mid behind es fs e did fault told.Displaced t opens number live b asked answer end
open-handled u n now att f w mid behind es fs e did fault told.Memory t opens number live (none, same) asked answer end =
    subst (λ (v : World). IsHandled u (n, HeardOpen) did (es ++ fs) behind (handles_open (machine u) v [] now (open_wish true t fault) e)) same
    (opened-handled u n now att f mid behind es fs e did [] true fault t opens number live (entries-none u es none) asked answer end)

fresh-open : IsReadOneWay → (u : Setup) (n now : ℕ) (f : Frame) (did : Did) (w behind : World) (es : List entries.Entry) (e : End)
    → OpensSession now f did → OpensLink n f → AskedAlone w did.steps es behind → e.number ≡ None → e.ended ≡ false
    → IsHandled u (n, HeardOpen) did es behind (handles (machine u) w now (wish_by did.steps es) e None HeardOpen)
fresh-open exclusive u n now f did w behind es e (inr refuses) opens asked number live = absurd (exclusive f.payload opens.options refuses.options refuses.at opens.fit refuses.stops)
fresh-open exclusive u n now f did w behind es e (inl o) opens asked number live =
    let p : Step = step now no_link ask.Pulse o.pulsed in
    let t : Step = step now no_link (ask.Open (attention_of o.options)) o.opened in
    let both : AskedAlone w (p ∷ t ∷ []) es behind = subst (λ (ss : List Step). AskedAlone w ss es behind) o.steps asked in
    subst (λ (ss : List Step). IsHandled u (n, HeardOpen) did es behind (handles (machine u) w now (wish_by ss es) e None HeardOpen)) (sym o.steps)
    (subst (λ (l : List entries.Entry). IsHandled u (n, HeardOpen) did l behind (handles (machine u) w now (open_wish (is_memory o.pulsed) o.opened (any_fault es)) e None HeardOpen)) (sym both.5)
    (open-handled u n now (attention_of o.options) f w both.2 behind both.0 both.1 e did (any_fault es) o.pulsed o.opened opens number live both.3 (one-alone both.2 t both.1 behind both.4) o.answer o.end))

-- ---- what may not come

fresh-bad : (block : List ℕ) (now : ℕ) (f : Frame) (did : Did) (c : DsiCommand) (b : Bool) → c ≡ call_command b → FreshDoes block now c f did → did ≡ is_bad reasons.Phase stages.Fresh
fresh-bad block now f did c true command does = subst (λ (d : DsiCommand). FreshDoes block now d f did) command does
fresh-bad block now f did c false command does = subst (λ (d : DsiCommand). FreshDoes block now d f did) command does

is-dropped : (u : Setup) (r : ℕ × Heard) (stage : Stage) (did : Did) (w behind : World) (es : List entries.Entry) (e : End) → did ≡ is_bad reasons.Phase stage → AskedAlone w did.steps es behind
    → IsHandled u r did es behind (dropped w [] e)
is-dropped u r stage did w behind es e bad asked =
    let none : AskedAlone w [] es behind = subst (λ (ss : List Step). AskedAlone w ss es behind) (ap (λ (d : Did). d.steps) bad) asked in
    handled-by u r did es behind (dropped w [] e) None stage (Some (ends.Bad reasons.Phase))
    (ap (λ (d : Did). d.reply) bad) (ap (λ (d : Did). d.stage) bad) (ap (λ (d : Did). d.end) bad) (sym none.1) (entries-none u es none.0) refl refl

-- ---- the laws

-- a request, by whether it is one
abbrev Done : List ℕ → ℕ → Stage → Frame → Did → Bool → Type 0
Done block now stage f did reply = FrameDoes block now stage reply f did

pub frame-handled : Laws → FramesAreHandled
frame-handled laws u block now stages.Fresh f did (n, HeardOpen) w behind es e sound does opens asked (number, live) =
    subst (λ (m : Option ℕ). IsHandled u (n, HeardOpen) did es behind (handles (machine u) w now (wish_by did.steps es) e m HeardOpen)) (sym number)
    (fresh-open laws.exclusive u n now f did w behind es e (subst (λ (c : DsiCommand). FreshDoes block now c f did) opens.command (subst (Done block now stages.Fresh f did) opens.request does)) opens asked number live)
frame-handled laws u block now stages.Fresh f did (n, HeardCall id body) w behind es e sound does carries asked (number, live) =
    subst (λ (m : Option ℕ). IsHandled u (n, HeardCall id body) did es behind (handles (machine u) w now (wish_by did.steps es) e m (HeardCall id body))) (sym number)
    (is-dropped u (n, HeardCall id body) stages.Fresh did w behind es e
    (fresh-bad block now f did f.command (written u body).write carries.command (subst (Done block now stages.Fresh f did) carries.request does)) asked)
frame-handled laws u block now (stages.Open link) f did (n, HeardOpen) w behind es e sound does opens asked (number, live) =
    subst (λ (m : Option ℕ). IsHandled u (n, HeardOpen) did es behind (handles (machine u) w now (wish_by did.steps es) e m HeardOpen)) (sym number)
    (is-dropped u (n, HeardOpen) (stages.Open link) did w behind es e
    (subst (λ (c : DsiCommand). OpenDoes block now link c f did) opens.command (subst (Done block now (stages.Open link) f did) opens.request does)) asked)
frame-handled laws u block now (stages.Open link) f did (n, HeardCall id body) w behind es e sound does carries asked (number, live) =
    subst (λ (m : Option ℕ). IsHandled u (n, HeardCall id body) did es behind (handles (machine u) w now (wish_by did.steps es) e m (HeardCall id body))) (sym number)
    (open-call laws u block now link f did n id body w behind es e sound (subst (Done block now (stages.Open link) f did) carries.request does) carries asked number live)
frame-handled laws u block now stages.Closing f did r w behind es e sound does carries asked end = absurd does

pub others-dropped : OthersAreDropped
others-dropped u block now stages.Fresh f did (n, HeardOpen) w e wish does opens early (number, live) = absurd early
others-dropped u block now stages.Fresh f did (n, HeardCall id body) w e wish does carries early (number, live) = (
  fresh-bad block now f did f.command (written u body).write carries.command (subst (Done block now stages.Fresh f did) carries.request does),
  ap (λ (m : Option ℕ). handles (machine u) w now wish e m (HeardCall id body)) number,
)
others-dropped u block now (stages.Open link) f did (n, HeardOpen) w e wish does opens early (number, live) = (
  subst (λ (c : DsiCommand). OpenDoes block now link c f did) opens.command (subst (Done block now (stages.Open link) f did) opens.request does),
  ap (λ (m : Option ℕ). handles (machine u) w now wish e m HeardOpen) number,
)
others-dropped u block now (stages.Open link) f did (n, HeardCall id body) w e wish does carries early (number, live) = absurd early
others-dropped u block now stages.Closing f did r w e wish does carries early end = absurd does

-- The rows of the session machine.
use Rattle.std.proofs.Common.{◌≡◌, ◌≢◌, ℕ, Bool, true, false, List, [], refl, sym, ap, ◌∙◌, subst, append-nil}
use Rattle.std.specs.Prelude.{Option, Some, None, MatchBool}
use Rattle.afp_base.specs.declared.code.Code.{Code}
use Rattle.afp_base.specs.declared.code.Code.TheVariants as code
use Rattle.afp_base.specs.declared.ids.LinkNumber.{LinkNumber}
use Rattle.afp_serial.specs.declared.ask.Ask.{Ask}
use Rattle.afp_serial.specs.declared.ask.Ask.TheVariants as asks
use Rattle.afp_serial.specs.declared.ask.Told.{Told}
use Rattle.afp_serial.specs.declared.ask.Told.TheVariants as tells
use Rattle.afp_serial.specs.Shown.{Shown, is_answer_to}
use Rattle.afp_serial.specs.Went.{Step, Went}
use Rattle.afp_serial.proofs.Grows.{went-none}
use Rattle.dsi_frame.specs.Frame.{Frame, canonical_frame}
use Rattle.afp_server.specs.link.Calls.{CallTold}
use Rattle.afp_server.specs.link.Did.{Did}
use Rattle.afp_server.specs.link.OpenSession.{OpenTold, option_bytes}
use Rattle.dsi_frame.specs.Replies.{code_word, reply_to, listed, spelling_of}
use Rattle.afp_server.specs.link.Script.{ReplyDoes, FrameDoes, Does}
use Rattle.afp_server.specs.link.Tally.{tallied, and_told, and_reply}
use Rattle.afp_server.specs.declared.link.tally.Tally.{Tally}
use Rattle.afp_server.proofs.OfLink.Tallies.{tallied-none, tallied-reply}
use Rattle.afp_server.specs.link.lemma.SessionState.{SessionState, Acts, CalledBy, IsCall, IsCallAnswer, IsOpenAnswer}
use Rattle.afp_server.specs.declared.link.stage.Stage.{Stage}
use Rattle.afp_server.specs.declared.link.stage.Stage.TheVariants.{Fresh, Open, Closing}
use Rattle.afp_server.specs.declared.link.stage.FrameEnd.TheVariants as ends

pub true_part : (P Q : Type 0) (b : Bool) → b ≡ true → MatchBool b P Q → P
true_part P Q true is p = p
true_part P Q false is p = absurd (cc is)

pub false_part : (P Q : Type 0) (b : Bool) → b ≡ false → MatchBool b P Q → Q
false_part P Q true is q = absurd (cc is)
false_part P Q false is q = q

-- a frame's row, by the phase

pub does-reply : (block : List ℕ) (now : ℕ) (stage : Stage) (f : Frame) (did : Did) → stage ≢ Closing → f.reply ≡ true → ReplyDoes f.command stage did → Does block now stage f did
does-reply block now Fresh f did live is row = subst (λ (r : Bool). FrameDoes block now Fresh r f did) (sym is) row
does-reply block now (Open link) f did live is row = subst (λ (r : Bool). FrameDoes block now (Open link) r f did) (sym is) row
does-reply block now Closing f did live is row = absurd (live refl)

-- nothing was asked

pub went-nothing : (a : Shown) (steps : List Step) → steps ≡ [] → Went a steps a
went-nothing a steps none = subst (λ (ss : List Step). Went a ss a) (sym none) (went-none a)

pub acts-still : (old new : SessionState) (a : Shown) (did : Did) → new.block ≡ old.block → new.stage ≡ did.stage → new.reply ≡ [] → new.tally ≡ old.tally → did.steps ≡ [] → did.reply ≡ None
    → Acts old a did new a
acts-still old new a did block stage reply tally steps none =
    let nothing : new.reply ≡ spelling_of (listed did.reply) = reply ∙ sym (ap (λ (r : Option Frame). spelling_of (listed r)) none) in
    let kept : new.tally ≡ tallied old.tally did.steps (listed did.reply) = tally ∙ tallied-none old.tally did.steps did.reply steps none in
    record { state = λ i. record { block = block i; stage = stage i; reply = nothing i; tally = kept i }; went = went-nothing a did.steps steps }

pub replied : (f : Frame) (o : Option Frame) → o ≡ Some f → canonical_frame f ≡ spelling_of (listed o)
replied f o is = sym (append-nil (canonical_frame f)) ∙ sym (ap (λ (r : Option Frame). spelling_of (listed r)) is)

pub acts-replies : (old new : SessionState) (a : Shown) (did : Did) (f : Frame) → new.block ≡ old.block → new.stage ≡ did.stage → new.reply ≡ canonical_frame f → new.tally ≡ and_reply f.word old.tally → did.steps ≡ [] → did.reply ≡ Some f
    → Acts old a did new a
acts-replies old new a did f block stage reply tally steps some =
    let bytes : new.reply ≡ spelling_of (listed did.reply) = reply ∙ replied f did.reply some in
    let kept : new.tally ≡ tallied old.tally did.steps (listed did.reply) = tally ∙ tallied-reply old.tally did.steps did.reply f steps some in
    record { state = λ i. record { block = block i; stage = stage i; reply = bytes i; tally = kept i }; went = went-nothing a did.steps steps }

-- some was

pub acts-asks : (old new : SessionState) (a b : Shown) (did : Did) → new.block ≡ old.block → new.stage ≡ did.stage → new.reply ≡ spelling_of (listed did.reply)
    → new.tally ≡ tallied old.tally did.steps (listed did.reply) → Went a did.steps b → Acts old a did new b
acts-asks old new a b did block stage reply tally went = record { state = λ i. record { block = block i; stage = stage i; reply = reply i; tally = tally i }; went = went }

-- what an Open is told

pub opened-session : (f : Frame) (t : Told) (link : LinkNumber) (payload : List ℕ) (old : Tally) (new : SessionState) → t ≡ tells.Opened link → payload ≡ option_bytes → new.stage ≡ Open link
    → new.reply ≡ canonical_frame (reply_to f code.Ok payload) → new.tally ≡ and_reply (code_word code.Ok) old
    → (x : Frame) × OpenTold f t (Some x) new.stage × (new.reply ≡ canonical_frame x) × (new.tally ≡ and_reply x.word (record old { answered = and_told t old.answered }))
opened-session f t link payload old new is same stage reply tally = (
  reply_to f code.Ok option_bytes,
  subst (λ (u : Told). OpenTold f u (Some (reply_to f code.Ok option_bytes)) new.stage) (sym is) (refl, stage),
  reply ∙ ap (λ (p : List ℕ). canonical_frame (reply_to f code.Ok p)) same,
  tally ∙ ap (λ (u : Told). and_reply (code_word code.Ok) (record old { answered = and_told u old.answered })) (sym is),
)

pub opened-refused : (f : Frame) (t : Told) (c : Code) (block payload : List ℕ) (e : Bool) (old : Tally) (new : SessionState) → t ≡ tells.Reply c block e → payload ≡ block → new.stage ≡ Fresh
    → new.reply ≡ canonical_frame (reply_to f c payload) → new.tally ≡ and_reply (code_word c) old
    → (x : Frame) × OpenTold f t (Some x) new.stage × (new.reply ≡ canonical_frame x) × (new.tally ≡ and_reply x.word (record old { answered = and_told t old.answered }))
opened-refused f t c block payload e old new is same stage reply tally = (
  reply_to f c block,
  subst (λ (u : Told). OpenTold f u (Some (reply_to f c block)) new.stage) (sym is) (refl, stage),
  reply ∙ ap (λ (p : List ℕ). canonical_frame (reply_to f c p)) same,
  tally ∙ ap (λ (u : Told). and_reply (code_word c) (record old { answered = and_told u old.answered })) (sym is),
)

pub opened-memory : (f : Frame) (t : Told) (old : Tally) (new : SessionState) → t ≡ tells.Memory → new.stage ≡ Fresh
    → new.reply ≡ canonical_frame (reply_to f code.NoMemory []) → new.tally ≡ and_reply (code_word code.NoMemory) (record old { answered = false })
    → (x : Frame) × OpenTold f t (Some x) new.stage × (new.reply ≡ canonical_frame x) × (new.tally ≡ and_reply x.word (record old { answered = and_told t old.answered }))
opened-memory f t old new is stage reply tally = (
  reply_to f code.NoMemory [],
  subst (λ (u : Told). OpenTold f u (Some (reply_to f code.NoMemory [])) new.stage) (sym is) (refl, stage),
  reply,
  tally ∙ ap (λ (u : Told). and_reply (code_word code.NoMemory) (record old { answered = and_told u old.answered })) (sym is),
)

-- what a call is told

pub called-ends : (f : Frame) (t : Told) (c : Code) (block payload : List ℕ) (e : Bool) (old new : SessionState) → t ≡ tells.Reply c block e → e ≡ true → payload ≡ block → new.stage ≡ Closing
    → new.reply ≡ canonical_frame (reply_to f c payload) → new.block ≡ old.block → new.tally ≡ and_reply (code_word c) old.tally → (reply : Option Frame) × CalledBy f t reply old new (Some ends.Closed)
called-ends f t c block payload e old new is ends_it same stage reply kept tally = (
  Some (reply_to f c block),
  record {
    called = λ link at. subst (λ (u : Told). CallTold f link u (Some (reply_to f c block)) new.stage (Some ends.Closed)) (sym (is ∙ ap (λ (b : Bool). tells.Reply c block b) ends_it)) (refl, stage, refl);
    replied = reply ∙ ap (λ (p : List ℕ). canonical_frame (reply_to f c p)) same ∙ replied (reply_to f c block) (Some (reply_to f c block)) refl;
    block = kept;
    tally = tally ∙ ap (λ (u : Told). and_reply (code_word c) (record old.tally { answered = and_told u old.tally.answered })) (sym is);
    goes_on = tt;
  },
)

pub called-goes_on : (f : Frame) (t : Told) (c : Code) (block payload : List ℕ) (e : Bool) (old new : SessionState) → t ≡ tells.Reply c block e → e ≡ false → payload ≡ block
    → new ≡ record { block = old.block; stage = old.stage; reply = canonical_frame (reply_to f c payload); tally = and_reply (code_word c) old.tally } → (reply : Option Frame) × CalledBy f t reply old new None
called-goes_on f t c block payload e old new is stays same state = (
  Some (reply_to f c block),
  record {
    called = λ link at. subst (λ (u : Told). CallTold f link u (Some (reply_to f c block)) new.stage None) (sym (is ∙ ap (λ (b : Bool). tells.Reply c block b) stays)) (refl, ap (λ (s : SessionState). s.stage) state ∙ at, refl);
    replied = ap (λ (s : SessionState). s.reply) state ∙ ap (λ (p : List ℕ). canonical_frame (reply_to f c p)) same ∙ replied (reply_to f c block) (Some (reply_to f c block)) refl;
    block = ap (λ (s : SessionState). s.block) state;
    tally = ap (λ (s : SessionState). s.tally) state ∙ ap (λ (u : Told). and_reply (code_word c) (record old.tally { answered = and_told u old.tally.answered })) (sym is);
    goes_on = ap (λ (s : SessionState). s.stage) state;
  },
)

pub called-memory : (f : Frame) (t : Told) (old new : SessionState) → t ≡ tells.Memory
    → new ≡ record { block = old.block; stage = old.stage; reply = canonical_frame (reply_to f code.NoMemory []); tally = and_reply (code_word code.NoMemory) (record old.tally { answered = false }) } → (reply : Option Frame) × CalledBy f t reply old new None
called-memory f t old new is state = (
  Some (reply_to f code.NoMemory []),
  record {
    called = λ link at. subst (λ (u : Told). CallTold f link u (Some (reply_to f code.NoMemory [])) new.stage None) (sym is) (refl, ap (λ (s : SessionState). s.stage) state ∙ at, refl);
    replied = ap (λ (s : SessionState). s.reply) state ∙ replied (reply_to f code.NoMemory []) (Some (reply_to f code.NoMemory [])) refl;
    block = ap (λ (s : SessionState). s.block) state;
    tally = ap (λ (s : SessionState). s.tally) state ∙ ap (λ (u : Told). and_reply (code_word code.NoMemory) (record old.tally { answered = and_told u old.tally.answered })) (sym is);
    goes_on = ap (λ (s : SessionState). s.stage) state;
  },
)

-- what may be told

pub call-told : (a : Ask) (t : Told) → IsCall a → is_answer_to a t ≡ true → IsCallAnswer t
call-told (asks.Call id write offset payload) t is may = may
call-told (asks.Open attention) t is may = absurd is
call-told asks.Pulse t is may = absurd is
call-told asks.Bye t is may = absurd is
call-told asks.Lost t is may = absurd is
call-told asks.Drain t is may = absurd is

pub open-told : (n : ℕ) (a : Ask) (t : Told) → a ≡ asks.Open n → is_answer_to a t ≡ true → IsOpenAnswer t
open-told n a t is may = subst (λ (x : Ask). is_answer_to x t ≡ true) is may

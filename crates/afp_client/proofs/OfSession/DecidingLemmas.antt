-- What the frame at the front decides.
use Rattle.std.proofs.Common.{◌≡◌, ◌⊎◌, ℕ, List, Option, Some, None, true, false, refl, ap, sym, subst, ◌∙◌, inl, inr}
use Rattle.std.specs.Int.{w32, cast_signed}
use Rattle.afp_base.specs.Code.{number_of}
use Rattle.afp_base.specs.declared.code.Code.{Code}
use Rattle.afp_base.specs.declared.code.Code.TheVariants.{Ok, NoMemory, NoMoreSessions, AccessDenied, BadUAM, BadVersNum, BitmapErr, CantMove, DenyConflict, DirNotEmpty, DiskFull, EOFErr, FileBusy, ItemNotFound, LockErr, MiscErr, NoMoreLocks, ObjectExists, ObjectNotFound, ParamErr, RangeNotLocked, RangeOverlap, UserNotAuth, CallNotSupported, ObjectTypeErr, TooManyFilesOpen, CantRename, DirNotFound, VolLocked, ObjectLocked, IDNotFound, IDExists, SameObjectErr, BadIDErr}
use Rattle.afp_base.proofs.Codes.{own_number}
use Rattle.dsi_frame.specs.Frame.{Frame, IsBadHeader}
use Rattle.dsi_frame.specs.Replies.{code_word}
use Rattle.dsi_frame.specs.Stream.{Begins, IsUnfinished}
use Rattle.dsi_frame.specs.declared.frame.Reason.{Reason}
use Rattle.dsi_frame.proofs.FrameLemmas.{one_frame_begins, bad_is_no_frame}
use Rattle.afp_client.specs.session.State.{Client, ClientState, is_lost}
use Rattle.afp_client.specs.session.Takes.{IsCodeIn, step, takes}
use Rattle.afp_client.specs.session.Takes as S
use Rattle.afp_client.specs.session.Happens.{TakesNext, MeetsBad, HasNone}
use Rattle.afp_client.specs.session.Laws.{IsDecided, IsMade, FrameDecides, NoneDecides, BadHeaderDecides}
use Rattle.afp_client.specs.declared.session.event.Event.{Event}
use Rattle.afp_client.specs.declared.session.event.Event.TheVariants as events

-- the number of a code from its word
signed_word : (c : Code) → cast_signed w32 (code_word c) ≡ number_of c
signed_word Ok = refl
signed_word NoMemory = refl
signed_word NoMoreSessions = refl
signed_word AccessDenied = refl
signed_word BadUAM = refl
signed_word BadVersNum = refl
signed_word BitmapErr = refl
signed_word CantMove = refl
signed_word DenyConflict = refl
signed_word DirNotEmpty = refl
signed_word DiskFull = refl
signed_word EOFErr = refl
signed_word FileBusy = refl
signed_word ItemNotFound = refl
signed_word LockErr = refl
signed_word MiscErr = refl
signed_word NoMoreLocks = refl
signed_word ObjectExists = refl
signed_word ObjectNotFound = refl
signed_word ParamErr = refl
signed_word RangeNotLocked = refl
signed_word RangeOverlap = refl
signed_word UserNotAuth = refl
signed_word CallNotSupported = refl
signed_word ObjectTypeErr = refl
signed_word TooManyFilesOpen = refl
signed_word CantRename = refl
signed_word DirNotFound = refl
signed_word VolLocked = refl
signed_word ObjectLocked = refl
signed_word IDNotFound = refl
signed_word IDExists = refl
signed_word SameObjectErr = refl
signed_word BadIDErr = refl

one_code : (c d : Code) → code_word c ≡ code_word d → c ≡ d
one_code c d same = own_number c d (sym (signed_word c) ∙ (ap (λ (word : ℕ). cast_signed w32 word) same ∙ signed_word d))

-- a word tells one code, or none
same_code : (word : ℕ) (found other : Option Code) → IsCodeIn word found → IsCodeIn word other → found ≡ other
same_code word None None a b = refl
same_code word None (Some d) a b = absurd (a d b)
same_code word (Some c) None a b = absurd (b c a)
same_code word (Some c) (Some d) a b = ap Some (one_code c d (a ∙ sym b))

same_step : (s : ClientState) (f g : Frame) (found other : Option Code) → f ≡ g → IsCodeIn f.word found → IsCodeIn g.word other → takes s other g ≡ takes s found f
same_step s f g found other same a b =
    let codes_are : found ≡ other = same_code g.word found other (subst (λ (frame : Frame). IsCodeIn frame.word found) same a) b in
    ap (λ (o : Option Code). takes s o g) (sym codes_are) ∙ ap (λ (frame : Frame). takes s found frame) (sym same)

decided_none : (expected : Option S.Step) (old new : Client) (out out_after : List ℕ) (event : Event) → expected ≡ None → event ≡ events.Bad old.held.place
    → IsDecided expected old out event new out_after
decided_none None old new out out_after event e b = inl b
decided_none (Some s) old new out out_after event e b = cc

made : (s t : S.Step) (new : Client) (out out_after : List ℕ) (event : Event) → s ≡ t → IsMade s out event new out_after → IsMade t out event new out_after
made s t new out out_after event same m = subst (λ (x : S.Step). IsMade x out event new out_after) same m

decided_some : (expected : Option S.Step) (old new : Client) (out out_after : List ℕ) (event : Event) (s : S.Step) → expected ≡ Some s → IsMade s out event new out_after
    → IsDecided expected old out event new out_after
decided_some None old new out out_after event s e m = cc
decided_some (Some t) old new out out_after event s e m = inl (let same : s ≡ t = cc in made s t new out out_after event same m)

decided_memory : (expected : Option S.Step) (old new : Client) (out out_after : List ℕ) → IsDecided expected old out events.Memory new out_after
decided_memory None old new out out_after = inr refl
decided_memory (Some s) old new out out_after = inr refl

by_taking : (old new : Client) (out out_after : List ℕ) (event : Event) (f : Frame) (found : Option Code) → Begins old.held.rest f → IsCodeIn f.word found
    → TakesNext old out event new out_after → IsDecided (takes old.state found f) old out event new out_after
by_taking old new out out_after event f found begins code t =
    let same : f ≡ t.frame = one_frame_begins old.held.rest f t.frame begins (record { first = t.first; more = new.held.rest; whole = t.whole; spelling = t.spelling }) in
    decided_some (takes old.state found f) old new out out_after event (step new.state t.writes event)
    (sym (same_step old.state f t.frame found t.found same code t.tells) ∙ t.taken) (record { comes = refl; state = refl; sent = t.sent })

by_bad : (old new : Client) (out out_after : List ℕ) (at : ℕ) (f : Frame) (found : Option Code) → Begins old.held.rest f → IsCodeIn f.word found
    → MeetsBad old out at new out_after → IsDecided (takes old.state found f) old out (events.Bad at) new out_after
by_bad old new out out_after at f found begins code m =
    elim m.bad [
      | inl h ↦ absurd (bad_is_no_frame old.held.rest h.0 h.1 f begins)
      | inr h ↦
          decided_none (takes old.state found f) old new out out_after (events.Bad at)
          (sym (same_step old.state f h.0 found h.1 (one_frame_begins old.held.rest f h.0 begins h.2) code h.3) ∙ h.4) (ap events.Bad m.place)
    ]

by_none : (old new : Client) (out out_after : List ℕ) (f : Frame) → is_lost old.state.stage ≡ false → Begins old.held.rest f → HasNone old out new out_after → ⊥
by_none old new out out_after f live begins h = elim h.none [ inl lost ↦ cc | inr rest ↦ rest.no_frame f begins ]

pub frame_decides : FrameDecides
frame_decides old new out out_after events.NotYet f found live begins code h = absurd (by_none old new out out_after f live begins h)
frame_decides old new out out_after (events.Bad at) f found live begins code h = by_bad old new out out_after at f found begins code h
frame_decides old new out out_after events.Memory f found live begins code h = decided_memory (takes old.state found f) old new out out_after
frame_decides old new out out_after events.Step f found live begins code h = by_taking old new out out_after events.Step f found begins code h
frame_decides old new out out_after events.Ready f found live begins code h = by_taking old new out out_after events.Ready f found begins code h
frame_decides old new out out_after (events.Told c block) f found live begins code h = by_taking old new out out_after (events.Told c block) f found begins code h
frame_decides old new out out_after (events.Refused c) f found live begins code h = by_taking old new out out_after (events.Refused c) f found begins code h
frame_decides old new out out_after (events.Lost c) f found live begins code h = by_taking old new out out_after (events.Lost c) f found begins code h
frame_decides old new out out_after events.Tickle f found live begins code h = by_taking old new out out_after events.Tickle f found begins code h
frame_decides old new out out_after (events.Attention word) f found live begins code h = by_taking old new out out_after (events.Attention word) f found begins code h
frame_decides old new out out_after events.Closed f found live begins code h = by_taking old new out out_after events.Closed f found begins code h

no_taking : (old new : Client) (out out_after : List ℕ) (event : Event) → (is_lost old.state.stage ≡ true) ⊎ IsUnfinished old.held.rest → TakesNext old out event new out_after → ⊥
no_taking old new out out_after event (inl lost) t = let live = t.live in cc
no_taking old new out out_after event (inr rest) t = rest.no_frame t.frame (record { first = t.first; more = new.held.rest; whole = t.whole; spelling = t.spelling })

no_bad : (old new : Client) (out out_after : List ℕ) (at : ℕ) → (is_lost old.state.stage ≡ true) ⊎ IsUnfinished old.held.rest → MeetsBad old out at new out_after → ⊥
no_bad old new out out_after at (inl lost) m = let live = m.live in cc
no_bad old new out out_after at (inr rest) m = elim m.bad [ inl h ↦ rest.no_bad_header h.0 h.1 | inr h ↦ rest.no_frame h.0 h.2 ]

pub none_decides : NoneDecides
none_decides old new out out_after events.NotYet none h = inl refl
none_decides old new out out_after events.Memory none h = inr refl
none_decides old new out out_after (events.Bad at) none h = absurd (no_bad old new out out_after at none h)
none_decides old new out out_after events.Step none h = absurd (no_taking old new out out_after events.Step none h)
none_decides old new out out_after events.Ready none h = absurd (no_taking old new out out_after events.Ready none h)
none_decides old new out out_after (events.Told c block) none h = absurd (no_taking old new out out_after (events.Told c block) none h)
none_decides old new out out_after (events.Refused c) none h = absurd (no_taking old new out out_after (events.Refused c) none h)
none_decides old new out out_after (events.Lost c) none h = absurd (no_taking old new out out_after (events.Lost c) none h)
none_decides old new out out_after events.Tickle none h = absurd (no_taking old new out out_after events.Tickle none h)
none_decides old new out out_after (events.Attention word) none h = absurd (no_taking old new out out_after (events.Attention word) none h)
none_decides old new out out_after events.Closed none h = absurd (no_taking old new out out_after events.Closed none h)

header_not_taken : (old new : Client) (out out_after : List ℕ) (event : Event) (reason : Reason) → IsBadHeader old.held.rest reason → TakesNext old out event new out_after → ⊥
header_not_taken old new out out_after event reason header t =
    bad_is_no_frame old.held.rest reason header t.frame (record { first = t.first; more = new.held.rest; whole = t.whole; spelling = t.spelling })

header_is_some : (old new : Client) (out out_after : List ℕ) (reason : Reason) → is_lost old.state.stage ≡ false → IsBadHeader old.held.rest reason → HasNone old out new out_after → ⊥
header_is_some old new out out_after reason live header h = elim h.none [ inl lost ↦ cc | inr rest ↦ rest.no_bad_header reason header ]

pub bad_header_decides : BadHeaderDecides
bad_header_decides old new out out_after events.NotYet reason live header h = absurd (header_is_some old new out out_after reason live header h)
bad_header_decides old new out out_after events.Memory reason live header h = inr refl
bad_header_decides old new out out_after (events.Bad at) reason live header h = inl (ap events.Bad h.place)
bad_header_decides old new out out_after events.Step reason live header h = absurd (header_not_taken old new out out_after events.Step reason header h)
bad_header_decides old new out out_after events.Ready reason live header h = absurd (header_not_taken old new out out_after events.Ready reason header h)
bad_header_decides old new out out_after (events.Told c block) reason live header h = absurd (header_not_taken old new out out_after (events.Told c block) reason header h)
bad_header_decides old new out out_after (events.Refused c) reason live header h = absurd (header_not_taken old new out out_after (events.Refused c) reason header h)
bad_header_decides old new out out_after (events.Lost c) reason live header h = absurd (header_not_taken old new out out_after (events.Lost c) reason header h)
bad_header_decides old new out out_after events.Tickle reason live header h = absurd (header_not_taken old new out out_after events.Tickle reason header h)
bad_header_decides old new out out_after (events.Attention word) reason live header h = absurd (header_not_taken old new out out_after (events.Attention word) reason header h)
bad_header_decides old new out out_after events.Closed reason live header h = absurd (header_not_taken old new out out_after events.Closed reason header h)

-- Frames of the Data Stream Interface tell the client what its request is answered.
use Rattle.std.proofs.Common.{◌≡◌, ◌∙◌, refl, sym, ap, ℕ, ◌<◌, ◌≤◌, ◌^◌, Bool, true, false, List, [], length, Some, arith, lit≤, lit<}
use Rattle.afp_base.specs.Limits.{payload_limit}
use Rattle.afp_base.specs.declared.code.Code.{Code}
use Rattle.afp_base.specs.declared.code.Code.TheVariants as code
use Rattle.dsi_frame.specs.Frame.{IsGood}
use Rattle.dsi_frame.specs.Replies.{code_word}
use Rattle.once_across_breaks.specs.once.Messages.{Answer, Fine, MiscErr, NoMemory, Refuses}
use Rattle.once_across_breaks.specs.once.Fits.{FitsAnswer, FitsOpening, IsId, is_refusal}
use Rattle.once_across_breaks.specs.once.Frames.{Heard, HeardCall, HeardOpen, OfCall, OfOpening}
use Rattle.once_across_breaks.specs.once.Serial.{Setup, answer_by, written}
use Rattle.afp_calls_grammar.specs.grammar.Laws.{CanonicalIsReadAgain}
use Rattle.once_across_breaks.specs.once.Bytes.{FitsReply, FitsReplyTo, IsCodec, seen_reply}
use Rattle.once_across_breaks.specs.once.Dsi.{FramesAreCodecs, answered_block, answered_code, call_command, code_in, dsi_down, read_down, read_reply, reply_frame, told_options, without_options}
use Rattle.once_across_breaks.proofs.OfOnce.DsiFront.{frame-part, frame-whole}
use Rattle.once_across_breaks.proofs.OfOnce.DsiUp.{up-codec}

-- the words of codes: in 32 bits, and each of one code
record WordOf (c : Code) : Type 0 where
  small : code_word c < 2 ^ 32
  again : code_in (code_word c) ≡ Some c

word-of : (c : Code) → WordOf c
word-of code.Ok = record { small = lit< tt; again = refl }
word-of code.NoMemory = record { small = lit< tt; again = refl }
word-of code.NoMoreSessions = record { small = lit< tt; again = refl }
word-of code.AccessDenied = record { small = lit< tt; again = refl }
word-of code.BadUAM = record { small = lit< tt; again = refl }
word-of code.BadVersNum = record { small = lit< tt; again = refl }
word-of code.BitmapErr = record { small = lit< tt; again = refl }
word-of code.CantMove = record { small = lit< tt; again = refl }
word-of code.DenyConflict = record { small = lit< tt; again = refl }
word-of code.DirNotEmpty = record { small = lit< tt; again = refl }
word-of code.DiskFull = record { small = lit< tt; again = refl }
word-of code.EOFErr = record { small = lit< tt; again = refl }
word-of code.FileBusy = record { small = lit< tt; again = refl }
word-of code.ItemNotFound = record { small = lit< tt; again = refl }
word-of code.LockErr = record { small = lit< tt; again = refl }
word-of code.MiscErr = record { small = lit< tt; again = refl }
word-of code.NoMoreLocks = record { small = lit< tt; again = refl }
word-of code.ObjectExists = record { small = lit< tt; again = refl }
word-of code.ObjectNotFound = record { small = lit< tt; again = refl }
word-of code.ParamErr = record { small = lit< tt; again = refl }
word-of code.RangeNotLocked = record { small = lit< tt; again = refl }
word-of code.RangeOverlap = record { small = lit< tt; again = refl }
word-of code.UserNotAuth = record { small = lit< tt; again = refl }
word-of code.CallNotSupported = record { small = lit< tt; again = refl }
word-of code.ObjectTypeErr = record { small = lit< tt; again = refl }
word-of code.TooManyFilesOpen = record { small = lit< tt; again = refl }
word-of code.CantRename = record { small = lit< tt; again = refl }
word-of code.DirNotFound = record { small = lit< tt; again = refl }
word-of code.VolLocked = record { small = lit< tt; again = refl }
word-of code.ObjectLocked = record { small = lit< tt; again = refl }
word-of code.IDNotFound = record { small = lit< tt; again = refl }
word-of code.IDExists = record { small = lit< tt; again = refl }
word-of code.SameObjectErr = record { small = lit< tt; again = refl }
word-of code.BadIDErr = record { small = lit< tt; again = refl }

-- ---- an answer, from its code and block

pub refuses-again : (c : Code) (block : List ℕ) → is_refusal c ≡ true → answer_by c block ≡ Refuses c block
refuses-again code.Ok block is = absurd (cc)
refuses-again code.MiscErr block is = absurd (cc)
refuses-again code.NoMemory block is = absurd (cc)
refuses-again c block is = refl

pub answer-again : (a : Answer) → FitsAnswer a → answer_by (answered_code a) (answered_block a) ≡ a
answer-again (Fine block) fits = refl
answer-again MiscErr fits = refl
answer-again NoMemory fits = refl
answer-again (Refuses c block) fits = refuses-again c block fits.0

opening-again : (a : Answer) → FitsAnswer a → FitsOpening a → without_options (answer_by (answered_code a) (told_options a)) ≡ a
opening-again (Fine block) fits none = ap Fine (sym none)
opening-again MiscErr fits none = refl
opening-again NoMemory fits none = refl
opening-again (Refuses c block) fits none = ap without_options (refuses-again c block fits.0)

-- ---- its frame is good

block-short : (a : Answer) → FitsAnswer a → length (answered_block a) ≤ payload_limit
block-short (Fine block) fits = fits
block-short MiscErr fits = lit≤ tt
block-short NoMemory fits = lit≤ tt
block-short (Refuses c block) fits = fits.1

options-short : (a : Answer) → FitsAnswer a → length (told_options a) ≤ payload_limit
options-short (Fine block) fits = lit≤ tt
options-short MiscErr fits = lit≤ tt
options-short NoMemory fits = lit≤ tt
options-short (Refuses c block) fits = fits.1

pub reply-good : (u : Setup) (last : ℕ) (h : Heard) (a : Answer) → IsId last → FitsReplyTo h a → IsGood (reply_frame u (last, h) a)
reply-good u last HeardOpen a small fits = record { id = omega (arith, small); word = (word-of (answered_code a)).small; payload = options-short a fits.0; offset = tt }
reply-good u last (HeardCall id body) a small fits = record { id = omega (arith, fits.0); word = (word-of (answered_code a)).small; payload = block-short a fits.1; offset = tt }

-- ---- and it is read again

call-read : (write : Bool) (id : ℕ) (c : Code) (payload : List ℕ) → read_reply true (call_command write) id (Some c) payload [] ≡ Some ((OfCall id, answer_by c payload), [])
call-read true id c payload = refl
call-read false id c payload = refl

reply-again : (u : Setup) (last : ℕ) (h : Heard) (a : Answer) → FitsReplyTo h a → read_down (Some (reply_frame u (last, h) a, [])) ≡ Some (seen_reply ((last, h), a), [])
reply-again u last HeardOpen a fits =
    ap (λ o. read_reply true (reply_frame u (last, HeardOpen) a).command last o (told_options a) []) (word-of (answered_code a)).again
    ∙ ap (λ x. Some ((OfOpening, x), [])) (opening-again a fits.0 fits.1)
reply-again u last (HeardCall id body) a fits =
    ap (λ o. read_reply true (call_command (written u body).write) id o (answered_block a) []) (word-of (answered_code a)).again
    ∙ call-read (written u body).write id (answered_code a) (answered_block a)
    ∙ ap (λ x. Some ((OfCall id, x), [])) (answer-again a fits.1)

down-codec : (u : Setup) → IsCodec FitsReply seen_reply (dsi_down u)
down-codec u = record {
  nothing = refl;
  whole = λ x fits. ap read_down (frame-whole (reply_frame u x.0 x.1) (reply-good u x.0.0 x.0.1 x.1 fits.0 fits.1)) ∙ reply-again u x.0.0 x.0.1 x.1 fits.1;
  part = λ x a b fits same some. ap read_down (frame-part (reply_frame u x.0 x.1) a b (reply-good u x.0.0 x.0.1 x.1 fits.0 fits.1) same some);
}

pub dsi-codecs : CanonicalIsReadAgain → FramesAreCodecs
dsi-codecs again u = record { up = up-codec again u; down = down-codec u }

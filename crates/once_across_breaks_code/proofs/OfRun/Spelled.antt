-- The frames that are under way, as bytes.
use Rattle.std.proofs.Common.{◌≡◌, ◌∙◌, refl, sym, ap, subst, ℕ, Bool, true, false, List, [], ◌∷◌, ◌++◌, Option, Some, None, arith, append_assoc, eq-eqb}
use Rattle.std.specs.Prelude.{◌&&◌, ◌==◌, ◌%◌, map}
use Rattle.std.proofs.Math.Nat.{mod-eq_of_lt, mod-lt}
use Rattle.afp_base.proofs.ListFacts.{all-ends}
use Rattle.afp_base.specs.declared.code.Code.{Code}
use Rattle.afp_base.specs.declared.code.Code.TheVariants as code
use Rattle.dsi_frame.specs.Frame.{Frame, IsGood, canonical_frame, command_number, header}
use Rattle.dsi_frame.specs.Replies.{listed}
use Rattle.dsi_frame.specs.declared.frame.DsiCommand.TheVariants as commands
use Rattle.volume_spec.specs.TypedVolume.{are_bytes, is_byte}
use Rattle.afp_client.specs.session.Takes.{answers}
use Rattle.afp_client.specs.session.Takes as client_takes
use Rattle.once_across_breaks.proofs.OfOnce.DsiDown.{answer-again, refuses-again}
use Rattle.once_across_breaks.specs.once.Bytes.{FitsReplyTo, FitsRequest, own_id}
use Rattle.once_across_breaks.specs.once.Dsi.{answered_block, answered_code, call_command, reply_frame, request_frame, told_options}
use Rattle.once_across_breaks.specs.once.Fits.{FitsAnswer, IsId, is_refusal}
use Rattle.once_across_breaks.specs.once.Frames.{HeardCall, HeardOpen, heard}
use Rattle.once_across_breaks.specs.once.Messages.{Answer, Fine, MiscErr, NoMemory, Refuses, wire_id}
use Rattle.once_across_breaks.specs.once.Run.{Asks, Opens, Request}
use Rattle.once_across_breaks.specs.once.Serial.{Setup, answer_by, written}
use Rattle.once_across_breaks.specs.once.UnderWay.{AllFit, RepliesAreGood}
use Rattle.once_across_breaks_code.specs.client.Requests as requests
use Rattle.once_across_breaks_code.specs.client.Requests.{IsAnswer, frame_of, without_block}
use Rattle.once_across_breaks_code.specs.run.Mirrors.{AreUnderWay, IsReplyWith}

-- ---- requests

-- the frame that the client writes is the one that the law's line writes
pub same-frame : (u : Setup) (k : ℕ) (r : Request) → FitsRequest r → requests.request_frame u k (heard r) ≡ request_frame u (wire_id k) (heard r)
same-frame u k Opens fits = refl
same-frame u k (Asks id body again) fits =
    let is : id % 65536 ≡ id = mod-eq_of_lt fits.0 in
    λ i. record { reply = false; command = call_command (written u body).write; id = is i; word = (written u body).offset; payload = (written u body).payload }

pub own-fits : (k : ℕ) (r : Request) → FitsRequest r → IsId (own_id (wire_id k) r)
own-fits k Opens fits = mod-lt k (omega arith)
own-fits k (Asks id body again) fits = fits.0

pub writes-under : (u : Setup) (k : ℕ) (o : Option Frame) (rs : List Request) → listed o ≡ map (frame_of u k) rs → AllFit rs → AreUnderWay u (wire_id k) (client_takes.written o) rs
writes-under u k None [] same fits = refl
writes-under u k None (r ∷ rs) same fits = absurd (cc)
writes-under u k (Some f) [] same fits = absurd (cc)
writes-under u k (Some f) (r ∷ []) same fits =
    let is : f ≡ frame_of u k r = cc in
    ((own-fits k r fits.0, fits.0), ap canonical_frame (is ∙ same-frame u k r fits.0))
writes-under u k (Some f) (r ∷ s ∷ rs) same fits = absurd (cc)

-- where nothing was under way
pub more-under : (u : Setup) (last : ℕ) (held up more : List ℕ) (rs : List Request) → held ++ up ≡ [] → AreUnderWay u last more rs → AreUnderWay u last (held ++ (up ++ more)) rs
more-under u last held up more rs none under =
    let is : held ++ (up ++ more) ≡ more = sym (append_assoc held up more) ∙ ap (λ (l : List ℕ). l ++ more) none in
    subst (λ (l : List ℕ). AreUnderWay u last l rs) (sym is) under

-- ---- replies

opening-again : (a : Answer) → FitsAnswer a → without_block a ≡ without_block (answer_by (answered_code a) (told_options a))
opening-again (Fine block) fits = refl
opening-again MiscErr fits = refl
opening-again NoMemory fits = refl
opening-again (Refuses c block) fits = ap without_block (sym (refuses-again c block fits.0))

call-answers : (write : Bool) (id : ℕ) → ((command_number (call_command write) == command_number (call_command write)) && (id == id)) ≡ true
call-answers true id = eq-eqb id id refl
call-answers false id = eq-eqb id id refl

-- the frame of a reply, where that to an OpenSession has the id of its request
pub reply-with : RepliesAreGood → (u : Setup) (k n : ℕ) (r : Request) (a : Answer) (f : Frame) → FitsRequest r → FitsReplyTo (heard r) a → f ≡ reply_frame u (n, heard r) a → (heard r ≡ HeardOpen → f.id ≡ wire_id k) → are_bytes f.payload ≡ true
    → IsReplyWith u k r a f
reply-with good u k n Opens a f fits told is numbered typed =
    let id : n ≡ wire_id k = sym (ap (λ (g : Frame). g.id) is) ∙ numbered refl in
    record {
      good = subst IsGood (sym is) (good u n HeardOpen a (subst IsId (sym id) (mod-lt k (omega arith))) told);
      reply = record {
        reply = ap (λ (g : Frame). g.reply) is;
        same = subst (λ (g : Frame). answers commands.OpenSession (wire_id k) g ≡ true) (sym is) (eq-eqb n (wire_id k) id);
      };
      code = answered_code a;
      word = sym (ap (λ (g : Frame). g.word) is);
      answer = opening-again a told.0 ∙ ap (λ (g : Frame). without_block (answer_by (answered_code a) g.payload)) (sym is);
      typed = typed;
    }
reply-with good u k n (Asks id body again) a f fits told is numbered typed =
    let small : id % 65536 ≡ id = mod-eq_of_lt fits.0 in
    record {
      good = subst IsGood (sym is) (good u 0 (HeardCall id body) a (omega arith) told);
      reply = record {
        reply = ap (λ (g : Frame). g.reply) is;
        same = subst (λ (g : Frame). answers (call_command (written u body).write) (wire_id id) g ≡ true) (sym is)
            (subst (λ (j : ℕ). ((command_number (call_command (written u body).write) == command_number (call_command (written u body).write)) && (id == j)) ≡ true) (sym small) (call-answers (written u body).write id));
      };
      code = answered_code a;
      word = sym (ap (λ (g : Frame). g.word) is);
      answer = sym (answer-again a told.1) ∙ ap (λ (g : Frame). answer_by (answered_code a) g.payload) (sym is);
      typed = typed;
    }

-- ---- bytes of a frame's payload

pub payload-typed : (f : Frame) → are_bytes (canonical_frame f) ≡ true → are_bytes f.payload ≡ true
payload-typed f typed = (all-ends is_byte (header (0 ∷ 0 ∷ 0 ∷ 0 ∷ []) f) f.payload typed).1

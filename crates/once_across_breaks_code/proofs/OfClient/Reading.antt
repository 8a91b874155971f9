-- What the client takes of bytes that came is what the law's client reads of them.
use Rattle.std.proofs.Common.{◌≡◌, ◌∙◌, refl, sym, ap, subst, ℕ, Bool, true, false, List, ◌++◌, Option, Some, None, IfSome, arith, append-nil}
use Rattle.std.specs.Prelude.{◌==◌}
use Rattle.std.proofs.lemmas.Bool.{and_parts}
use Rattle.afp_base.proofs.ListFacts.{all-ends}
use Rattle.afp_base.specs.Bytes.{IsBytes}
use Rattle.afp_base.specs.declared.code.Code.{Code}
use Rattle.afp_base.specs.declared.code.Code.TheVariants as codes
use Rattle.dsi_frame.specs.Frame.{Frame, canonical_frame, command_number}
use Rattle.dsi_frame.specs.Replies.{code_word, listed, spelling_of}
use Rattle.dsi_frame.specs.Stream.{Begins, IsUnfinished}
use Rattle.dsi_frame.specs.declared.frame.DsiCommand.{DsiCommand}
use Rattle.dsi_frame.specs.declared.frame.DsiCommand.TheVariants as commands
use Rattle.dsi_session.specs.RequestIds.{CountsInRounds}
use Rattle.volume_spec.specs.TypedVolume.{are_bytes, is_byte}
use Rattle.afp_client.specs.session.Takes.{IsCodeIn, Step, step, takes}
use Rattle.afp_client.specs.session.Takes as real_steps
use Rattle.once_across_breaks.specs.once.Messages.{Answer, Does, Fine, MiscErr, NoMemory, Refuses, wire_id}
use Rattle.once_across_breaks.specs.once.Run.{id_of}
use Rattle.once_across_breaks.specs.once.Frames.{Heard, HeardCall, HeardOpen}
use Rattle.once_across_breaks.specs.once.Serial.{Setup, answer_by, written}
use Rattle.once_across_breaks.specs.once.Dsi as dsi
use Rattle.once_across_breaks.specs.once.Dsi.{FindsFrame, call_command, code_in, dsi_down, dsi_up, frame_at, read_down, read_reply, without_options}
use Rattle.once_across_breaks_code.specs.client.Requests.{IsAnswer, request_frame, tag_by, tag_in, without_block}
use Rattle.once_across_breaks_code.specs.client.Moves.{Takes}
use Rattle.once_across_breaks_code.specs.client.Steps.{IsTaken}
use Rattle.once_across_breaks_code.specs.client.OverBytes.{AsksAreSpelt, BeginsAreSpelt, TakenIsRead, UnfinishedIsUnread}
use Rattle.once_across_breaks_code.proofs.OfClient.Asking.{is-asked}
use Rattle.once_across_breaks_code.proofs.OfClient.Few.{writes-are-spelt}
use Rattle.once_across_breaks_code.proofs.OfClient.Replying.{alike-taken, only-replies-are-taken}
use Rattle.once_across_breaks_code.proofs.OfClient.Typed.{bytes-typed, frame-typed}

-- ---- a reply

code-again : (c : Code) → code_in (code_word c) ≡ Some c
code-again codes.Ok = refl
code-again c = refl

-- what is read of an answer, by the command of the reply
abbrev read_by : DsiCommand → Answer → Answer
read_by commands.OpenSession a = without_options a
read_by kind a = a

open-read : (kind : DsiCommand) (id : ℕ) (c : Code) (payload rest : List ℕ) → (command_number kind == 4) ≡ true → read_reply true kind id (Some c) payload rest ≡ Some ((tag_by kind id, read_by kind (answer_by c payload)), rest)
open-read commands.OpenSession id c payload rest is = refl
open-read kind id c payload rest is = absurd (cc)

call-read : (write : Bool) (kind : DsiCommand) (id : ℕ) (c : Code) (payload rest : List ℕ) → (command_number kind == command_number (call_command write)) ≡ true
    → read_reply true kind id (Some c) payload rest ≡ Some ((tag_by kind id, read_by kind (answer_by c payload)), rest)
call-read true commands.Write id c payload rest is = refl
call-read false commands.Command id c payload rest is = refl
call-read true kind id c payload rest is = absurd (cc)
call-read false kind id c payload rest is = absurd (cc)

reply-read : (u : Setup) (opening : ℕ) (r : Heard) (kind : DsiCommand) (id : ℕ) (c : Code) (payload rest : List ℕ) → (command_number kind == command_number (request_frame u opening r).command) ≡ true
    → read_reply true kind id (Some c) payload rest ≡ Some ((tag_by kind id, read_by kind (answer_by c payload)), rest)
reply-read u opening HeardOpen kind id c payload rest is = open-read kind id c payload rest is
reply-read u opening (HeardCall n body) kind id c payload rest is = call-read (written u body).write kind id c payload rest is

-- the client reads as much of it
without-same : (kind : DsiCommand) (a : Answer) → without_block (read_by kind a) ≡ without_block a
without-same commands.OpenSession (Fine block) = refl
without-same commands.OpenSession MiscErr = refl
without-same commands.OpenSession NoMemory = refl
without-same commands.OpenSession (Refuses c block) = refl
without-same kind a = refl

call-same : (write : Bool) (kind : DsiCommand) (a : Answer) → (command_number kind == command_number (call_command write)) ≡ true → read_by kind a ≡ a
call-same true commands.OpenSession a is = absurd (cc)
call-same false commands.OpenSession a is = absurd (cc)
call-same write kind a is = refl

reads-it : (u : Setup) (opening : ℕ) (r : Heard) (kind : DsiCommand) (a : Answer) → (command_number kind == command_number (request_frame u opening r).command) ≡ true → IsAnswer r (read_by kind a) a
reads-it u opening HeardOpen kind a is = without-same kind a
reads-it u opening (HeardCall id body) kind a is = call-same (written u body).write kind a is

-- ---- bytes

written-listed : (writes : Option Frame) → real_steps.written writes ≡ spelling_of (listed writes)
written-listed None = refl
written-listed (Some f) = sym (append-nil (canonical_frame f))

pub taken-is-read : CountsInRounds → FindsFrame → TakenIsRead
taken-is-read counts finds u c old new out out_after event h few are next reply =
    let f : Frame = next.frame in
    let begun : Begins old.held.rest f = record { first = next.first; more = new.held.rest; whole = next.whole; spelling = next.spelling } in
    let found : frame_at old.held.rest ≡ Some (f, new.held.rest) = (finds old.held.rest new.held.rest f are).1 (begun, refl) in
    let parts = all-ends is_byte next.first new.held.rest (subst (λ (xs : List ℕ). are_bytes xs ≡ true) next.whole (bytes-typed old.held.rest are)) in
    let typed : are_bytes f.payload ≡ true = frame-typed next.first f parts.0 next.spelling in
    let st : Step = step new.state next.writes event in
    let x : IsTaken u c next.found f st = subst (λ (o : Option Step). IfSome o (IsTaken u c next.found f)) next.taken (only-replies-are-taken counts u c old.state next.found f h reply typed) in
    let word : code_word x.code ≡ f.word = subst (λ (o : Option Code). IsCodeIn f.word o) x.found_is next.tells in
    let code : code_in f.word ≡ Some x.code = ap (λ (n : ℕ). code_in n) (sym word) ∙ code-again x.code in
    let kind = (and_parts (command_number f.command == command_number (request_frame u c.opening_id x.request).command) (f.id == (request_frame u c.opening_id x.request).id) x.reply.same).0 in
    let a : Answer = read_by f.command (answer_by x.code f.payload) in
    let same = alike-taken c x.request (tag_in f) a (answer_by x.code f.payload) x.waits (reads-it u c.opening_id x.request f.command (answer_by x.code f.payload) kind) in
    let wrote = writes-are-spelt u c old.state (Takes (tag_in f) (answer_by x.code f.payload)) x.taken h few x.takes in
    record {
      tag = tag_in f;
      answer = a;
      taken = x.taken;
      front = ap read_down found ∙ (λ i. read_reply (reply i) f.command f.id (code i) f.payload new.held.rest) ∙ reply-read u c.opening_id x.request f.command f.id x.code f.payload new.held.rest kind;
      takes = same ∙ x.takes;
      client = x.one.client;
      few = wrote.0;
      sent = next.sent ∙ ap (λ (bytes : List ℕ). out ++ bytes) (written-listed next.writes ∙ ap (λ (fs : List Frame). spelling_of fs) x.one.writes ∙ wrote.1);
      results = x.one.results;
      waits = x.one.waits;
    }

read-none : (bytes : List ℕ) (o : Option (Frame × List ℕ)) → FindsFrame → IsBytes bytes → IsUnfinished bytes → frame_at bytes ≡ o → read_down o ≡ None
read-none bytes None finds are less is = refl
read-none bytes (Some x) finds are less is = absurd (less.no_frame x.0 ((finds bytes x.1 x.0 are).0 is).0)

pub unfinished-is-unread : FindsFrame → UnfinishedIsUnread
unfinished-is-unread finds u bytes are less = read-none bytes (frame_at bytes) finds are less refl

-- ---- what is written

drawn-same : (first drawn : ℕ) → wire_id (id_of first drawn) ≡ id_of first drawn
drawn-same first drawn = omega arith

pub asks-are-spelt : CountsInRounds → AsksAreSpelt
asks-are-spelt counts u c s command call h ready is =
    let one = is-asked counts u c s command call h ready is in
    sym (append-nil _) ∙ ap (λ (fs : List Frame). spelling_of fs) one.writes ∙ append-nil _ ∙ (λ i. canonical_frame (dsi.request_frame u c.opening_id (HeardCall (drawn-same c.first c.drawn i) (Does command))))

pub begins-are-spelt : BeginsAreSpelt
begins-are-spelt u = refl

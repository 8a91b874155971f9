-- A link on which good frames are coming is served whole.
use Rattle.std.proofs.Common.{◌≡◌, ◌⊎◌, ℕ, ◌+◌, ◌-◌, ◌<◌, List, [], ◌∷◌, ◌++◌, length, refl, sym, ap, ◌∙◌, subst, inl, inr, append_assoc, append-nil, length-append, arith}
use Rattle.std.specs.Prelude.{Option, Some, None, IfSome, MatchOption, option_map}
use Rattle.afp_outside.specs.ends.Link.{LinkState, Event}
use Rattle.afp_serial.specs.Went.{Step}
use Rattle.dsi_frame.specs.Frame.{Frame, IsSpelling}
use Rattle.dsi_frame.specs.Stream.{Begins, IsUnfinished, Spelled, Framed, Stopped}
use Rattle.dsi_frame.specs.declared.frame.Reason.{Reason}
use Rattle.dsi_frame.proofs.FrameLemmas.{bad_is_no_frame, bad_header-append}
use Rattle.dsi_frame.proofs.StreamLemmas.{stopped-append}
use Rattle.afp_server.specs.link.Complete.{ScriptEnds, IsScripted, BeginsScript, GoesBehind, BringsGood, RunsStill, IsUnhindered, Wrote, ServesAll, IsComplete}
use Rattle.afp_server.specs.link.LinkRun.{Moves, Fills, EndsBy, IsServed, bytes_read}
use Rattle.dsi_frame.specs.Replies.{listed, only_replies, spelling_of}
use Rattle.afp_server.specs.link.Script.{Script}
use Rattle.afp_server.specs.link.Trace.{events_in, frames_in, replies_in, sent_in, frame_steps_in, begun, Cause, closed, bad}
use Rattle.afp_server.specs.declared.link.serve.LinkEnd.{LinkEnd}
use Rattle.afp_server.specs.declared.link.serve.LinkEnd.TheVariants as links
use Rattle.afp_server.specs.declared.link.stage.FrameEnd.{FrameEnd}
use Rattle.afp_server.specs.declared.link.stage.FrameEnd.TheVariants as ends
use Rattle.afp_server.specs.declared.link.stage.Stage.{Stage}
use Rattle.afp_server.specs.declared.link.stage.Stage.TheVariants as stages
use Rattle.afp_server.proofs.OfLink.FrameSteps.{spelling_takes}
use Rattle.afp_server.proofs.OfLink.ScriptLaws.{scripted}
use Rattle.afp_server.proofs.OfLink.Traces.{fills-one}

-- the laws of frames and streams that this stands on
pub record StreamLaws : Type 0 where
  pub same : (bytes : List ℕ) (f g : Frame) → Begins bytes f → Begins bytes g → f ≡ g
  pub parted : (first more other others : List ℕ) (f g : Frame) → IsSpelling first f → IsSpelling other g → first ++ more ≡ other ++ others → (first ≡ other) × (more ≡ others)
  pub exclusive : (bytes rest : List ℕ) (frames others : List Frame) (at : ℕ) (reason : Reason) → Framed bytes frames rest → Stopped bytes others at reason → ⊥
  pub one_rest : (bytes rest other : List ℕ) (frames others : List Frame) → Framed bytes frames rest → Framed bytes others other → (frames ≡ others) × (rest ≡ other)

-- no frame begins where no byte is
none_begins : (f : Frame) (first more : List ℕ) → IsSpelling first f → first ++ more ≡ [] → ⊥
none_begins f first more s empty = omega (arith, spelling_takes first f s, ap length empty, length-append first more)

nothing_unfinished : IsUnfinished []
nothing_unfinished = record {
  no_frame = λ f b. none_begins f b.first b.more b.spelling (sym b.whole);
  no_bad_header = λ reason bad. omega (arith, bad.0);
}

framed-whole : (bytes : List ℕ) (frames : List Frame) → Spelled bytes frames → Framed bytes frames []
framed-whole bytes frames s = record { filled = bytes; spelled = s; whole = sym (append-nil bytes); unfinished = nothing_unfinished }

-- what is left behind some of the frames is the others
left_frames : StreamLaws → (filled left : List ℕ) (frames all : List Frame) → Spelled filled frames → Spelled (filled ++ left) all
    → (others : List Frame) × (all ≡ frames ++ others)
left_frames laws filled left [] all empty whole = (all, refl)
left_frames laws filled left (f ∷ frames) [] s whole = absurd (none_begins f s.0 (s.1 ++ left) s.3 (sym (ap (λ (b : List ℕ). b ++ left) s.2 ∙ append_assoc s.0 s.1 left) ∙ whole))
left_frames laws filled left (f ∷ frames) (g ∷ all) s t =
    let joined : s.0 ++ (s.1 ++ left) ≡ t.0 ++ t.1 = sym (ap (λ (b : List ℕ). b ++ left) s.2 ∙ append_assoc s.0 s.1 left) ∙ t.2 in
    let parts = laws.parted s.0 (s.1 ++ left) t.0 t.1 f g s.3 t.3 joined in
    let equal : f ≡ g = laws.same (s.0 ++ (s.1 ++ left)) f g (record { first = s.0; more = s.1 ++ left; whole = refl; spelling = s.3 }) (record { first = t.0; more = t.1; whole = joined; spelling = t.3 }) in
    let rest = left_frames laws s.1 left frames all s.4 (subst (λ (b : List ℕ). Spelled b all) (sym parts.1) t.4) in
    (rest.0, λ i. sym equal i ∷ rest.1 i)

-- Of two lists of frames that begin the same bytes one is the first of the other.
compared : StreamLaws → (front left filled behind : List ℕ) (done frames : List Frame) → Spelled front done → Spelled filled frames → front ++ left ≡ filled ++ behind
    → ((others : List Frame) × (frames ≡ done ++ others)) ⊎ ((f : Frame) × (others : List Frame) × (done ≡ frames ++ f ∷ others))
compared laws front left filled behind [] frames s t same = inl (frames, refl)
compared laws front left filled behind (d ∷ done) [] s t same = inr (d, done, refl)
compared laws front left filled behind (d ∷ done) (f ∷ frames) s t same =
    let joined : s.0 ++ (s.1 ++ left) ≡ t.0 ++ (t.1 ++ behind) =
    sym (ap (λ (b : List ℕ). b ++ left) s.2 ∙ append_assoc s.0 s.1 left) ∙ same ∙ (ap (λ (b : List ℕ). b ++ behind) t.2 ∙ append_assoc t.0 t.1 behind) in
    let parts = laws.parted s.0 (s.1 ++ left) t.0 (t.1 ++ behind) d f s.3 t.3 joined in
    let equal : d ≡ f = laws.same (s.0 ++ (s.1 ++ left)) d f (record { first = s.0; more = s.1 ++ left; whole = refl; spelling = s.3 }) (record { first = t.0; more = t.1 ++ behind; whole = joined; spelling = t.3 }) in
    elim (compared laws s.1 left t.1 behind done frames s.4 t.4 parts.1) [
      | inl others ↦ inl (others.0, λ i. sym equal i ∷ others.1 i)
      | inr past ↦ inr (past.0, past.1, λ i. equal i ∷ past.2 i)
    ]

-- Frames behind which none begins are the most that begin the bytes.
maximal : StreamLaws → (front left filled behind : List ℕ) (done frames : List Frame) → Spelled front done → Spelled filled frames → front ++ left ≡ filled ++ behind
    → ((f : Frame) → Begins left f → ⊥) → (others : List Frame) × (done ≡ frames ++ others)
maximal laws front left filled behind done [] s t same none = (done, refl)
maximal laws front left filled behind [] (f ∷ frames) s t same none = absurd (none f record {
  first = t.0;
  more = t.1 ++ behind;
  whole = sym (ap (λ (b : List ℕ). b ++ left) s) ∙ same ∙ (ap (λ (b : List ℕ). b ++ behind) t.2 ∙ append_assoc t.0 t.1 behind);
  spelling = t.3;
})
maximal laws front left filled behind (d ∷ done) (f ∷ frames) s t same none =
    let joined : s.0 ++ (s.1 ++ left) ≡ t.0 ++ (t.1 ++ behind) =
    sym (ap (λ (b : List ℕ). b ++ left) s.2 ∙ append_assoc s.0 s.1 left) ∙ same ∙ (ap (λ (b : List ℕ). b ++ behind) t.2 ∙ append_assoc t.0 t.1 behind) in
    let parts = laws.parted s.0 (s.1 ++ left) t.0 (t.1 ++ behind) d f s.3 t.3 joined in
    let equal : d ≡ f = laws.same (s.0 ++ (s.1 ++ left)) d f (record { first = s.0; more = s.1 ++ left; whole = refl; spelling = s.3 }) (record { first = t.0; more = t.1 ++ behind; whole = joined; spelling = t.3 }) in
    let rest = maximal laws s.1 left t.1 behind done frames s.4 t.4 parts.1 none in
    (rest.0, λ i. equal i ∷ rest.1 i)

-- the bytes that were coming are those taken, and those that are left
still_coming : (o : Option (List ℕ)) (front bytes : List ℕ) → Some bytes ≡ option_map (λ left. front ++ left) o → (left : List ℕ) × (bytes ≡ front ++ left)
still_coming None front bytes e = absurd (cc e)
still_coming (Some left) front bytes e = (left, cc e)

-- where nothing comes any more, all bytes were taken
all_taken : (o : Option (List ℕ)) (front bytes : List ℕ) → Some bytes ≡ option_map (λ left. front ++ left) o → IfSome o (λ coming. coming ≡ []) → bytes ≡ front
all_taken None front bytes e empty = absurd (cc e)
all_taken (Some left) front bytes e empty =
    let split : bytes ≡ front ++ left = cc e in
    split ∙ ap (λ (l : List ℕ). front ++ l) empty ∙ append-nil front

nothing_behind : (xs ys : List Frame) → xs ++ ys ≡ [] → ys ≡ []
nothing_behind [] ys e = e
nothing_behind (x ∷ xs) ys e = absurd (cc e)

behind-next : (block : List ℕ) (next after : Stage) (frames others : List Frame) (more : List Step) (sent : List Frame) (o end : Option FrameEnd)
    → MatchOption o (Script block next (frames ++ others) more sent after end) (λ e. (frames ++ others ≡ []) × (more ≡ []) × (sent ≡ []) × (after ≡ next) × (end ≡ Some e))
    → (others ≡ [] → end ≡ None)
    → (Script block next (frames ++ others) more sent after end → (first : List Step) × (later : List Step) × (replies : List Frame) × (mid : Stage) × (more ≡ first ++ later) × Script block next frames first replies mid None)
    → (first : List Step) × (later : List Step) × (replies : List Frame) × (mid : Stage) × (more ≡ first ++ later)
    × MatchOption o (Script block next frames first replies mid None) (λ e. (frames ≡ []) × (first ≡ []) × (replies ≡ []) × (mid ≡ next) × ((let none : Option FrameEnd = None in none) ≡ Some e))
behind-next block next after frames others more sent None end rest still go = go rest
behind-next block next after frames others more sent (Some e) end rest still go = absurd (cc (still (nothing_behind frames others rest.0), rest.4))

-- A script goes on behind its first frames, with the first of its steps.
script-behind : (block : List ℕ) (stage after : Stage) (frames others : List Frame) (steps : List Step) (replies : List Frame) (end : Option FrameEnd)
    → Script block stage (frames ++ others) steps replies after end → (others ≡ [] → end ≡ None)
    → (first : List Step) × (later : List Step) × (sent : List Frame) × (mid : Stage) × (steps ≡ first ++ later) × Script block stage frames first sent mid None
script-behind block stage after [] others steps replies end s still = ([], steps, [], stage, refl, (refl, refl, refl, refl))
script-behind block stage after (f ∷ frames) others steps replies end (now, did, more, sent, does, all, replied, rest) still =
    let n = behind-next block did.stage after frames others more sent did.end end rest still (λ s. script-behind block did.stage after frames others more sent end s still) in
    (did.steps ++ n.0, n.1, listed did.reply ++ n.2, n.3, all ∙ ap (λ (l : List Step). did.steps ++ l) n.4 ∙ sym (append_assoc did.steps n.0 n.1), (now, did, n.0, n.2, does, refl, refl, n.5))

-- A run, with what is known of its bytes.
record Run (block bytes : List ℕ) (frames : List Frame) (turns : ℕ) (old : LinkState) (answer : LinkEnd) (new : LinkState) (steps : List Step) : Type 0 where
  pub served : IsServed block turns old answer new steps
  pub coming : old.coming ≡ Some bytes
  pub good : BringsGood block bytes frames (frame_steps_in served.comes.trace)

split_run : (block bytes : List ℕ) (frames : List Frame) (turns : ℕ) (old : LinkState) (answer : LinkEnd) (new : LinkState) (steps : List Step) → (r : Run block bytes frames turns old answer new steps)
    → (left : List ℕ) × (bytes ≡ bytes_read r.served.comes.trace ++ left)
split_run block bytes frames turns old answer new steps r = still_coming new.coming (bytes_read r.served.comes.trace) bytes (sym r.coming ∙ r.served.comes.moves.coming)

script_run : (block bytes : List ℕ) (frames : List Frame) (turns : ℕ) (old : LinkState) (answer : LinkEnd) (new : LinkState) (steps : List Step) → (r : Run block bytes frames turns old answer new steps)
    → IsScripted block stages.Fresh r.served.comes.trace r.served.comes.last.stage r.served.comes.cause
script_run block bytes frames turns old answer new steps r = scripted block (begun old) r.served.comes.last r.served.comes.trace r.served.comes.cause r.served.comes.follows

-- where no byte is behind the frames, all bytes are theirs
spelled_run : (block bytes : List ℕ) (frames : List Frame) (steps : List Step) → (g : BringsGood block bytes frames steps) → g.behind ≡ [] → Spelled bytes frames
spelled_run block bytes frames steps g none =
    subst (λ (b : List ℕ). Spelled b frames) (sym (g.fills.whole ∙ ap (λ (b : List ℕ). g.fills.filled ++ b) none ∙ append-nil g.fills.filled)) g.fills.spelled

-- where the frames handled begin with those, the link went on behind them
goes_run : (block bytes : List ℕ) (frames : List Frame) (turns : ℕ) (old : LinkState) (answer : LinkEnd) (new : LinkState) (steps : List Step) → (r : Run block bytes frames turns old answer new steps)
    → (others : List Frame) → frames_in r.served.comes.trace ≡ frames ++ others
    → (others ≡ [] → (script_run block bytes frames turns old answer new steps r).end ≡ None) → GoesBehind block frames (frame_steps_in r.served.comes.trace)
goes_run block bytes frames turns old answer new steps r others same still =
    let trace = r.served.comes.trace in
    let sc = script_run block bytes frames turns old answer new steps r in
    let b = script-behind block stages.Fresh sc.after frames others (frame_steps_in trace) (replies_in trace) sc.end
    (subst (λ (fs : List Frame). Script block stages.Fresh fs (frame_steps_in trace) (replies_in trace) sc.after sc.end) same sc.script) still in
    record { first = b.0; later = b.1; split = b.4; replies = b.2; after = b.3; script = b.5 }

-- the frames handled are the first of those that are coming
first_run : StreamLaws → (block bytes : List ℕ) (frames : List Frame) (turns : ℕ) (old : LinkState) (answer : LinkEnd) (new : LinkState) (steps : List Step) → (r : Run block bytes frames turns old answer new steps)
    → (left : List ℕ) → Fills (bytes_read r.served.comes.trace) (frames_in r.served.comes.trace) left → (others : List Frame) × (frames ≡ frames_in r.served.comes.trace ++ others)
first_run laws block bytes frames turns old answer new steps r left fills =
    let trace = r.served.comes.trace in
    let split = split_run block bytes frames turns old answer new steps r in
    let whole : bytes ≡ fills.filled ++ (left ++ split.0) = split.1 ∙ ap (λ (b : List ℕ). b ++ split.0) fills.whole ∙ append_assoc fills.filled left split.0 in
    elim r.good.last [
      | inl none ↦
          left_frames laws fills.filled (left ++ split.0) (frames_in trace) frames fills.spelled (subst (λ (b : List ℕ). Spelled b frames) whole (spelled_run block bytes frames (frame_steps_in trace) r.good none))
      | inr stops ↦
          elim (compared laws fills.filled (left ++ split.0) r.good.fills.filled r.good.behind (frames_in trace) frames fills.spelled r.good.fills.spelled (sym whole ∙ r.good.fills.whole)) [
            | inl others ↦ others
            | inr past ↦ absurd (stops (goes_run block bytes frames turns old answer new steps r (past.0 ∷ past.1) past.2 (λ e. absurd (cc e))))
          ]
    ]

-- they are a script, with the steps that they asked
begins_run : StreamLaws → (block bytes : List ℕ) (frames : List Frame) (turns : ℕ) (old : LinkState) (answer : LinkEnd) (new : LinkState) (steps : List Step) → (r : Run block bytes frames turns old answer new steps)
    → (end : Option FrameEnd) (left : List ℕ) → Fills (bytes_read r.served.comes.trace) (frames_in r.served.comes.trace) left
    → (script_run block bytes frames turns old answer new steps r).end ≡ end → BeginsScript block frames (frame_steps_in r.served.comes.trace) end (replies_in r.served.comes.trace)
begins_run laws block bytes frames turns old answer new steps r end left fills ends =
    let trace = r.served.comes.trace in
    let sc = script_run block bytes frames turns old answer new steps r in
    let first = first_run laws block bytes frames turns old answer new steps r left fills in record {
      done = frames_in trace;
      others = first.0;
      split = first.1;
      after = sc.after;
      script = subst (λ (e : Option FrameEnd). Script block stages.Fresh (frames_in trace) (frame_steps_in trace) (replies_in trace) sc.after e) ends sc.script;
    }

end_of : (cause : Option Cause) (c : Cause) (last after : Stage) (end : Option FrameEnd) → cause ≡ Some c → ScriptEnds cause last after end → ScriptEnds (Some c) last after end
end_of cause c last after end is s = subst (λ (x : Option Cause). ScriptEnds x last after end) is s

none_of : (cause : Option Cause) (last after : Stage) (end : Option FrameEnd) → cause ≡ None → ScriptEnds cause last after end → end ≡ None
none_of cause last after end is s = let t : ScriptEnds None last after end = subst (λ (x : Option Cause). ScriptEnds x last after end) is s in t.1

wrote-replies : (old new : LinkState) (wrote : List ℕ) (events : List Event) (failed : ℕ) (replies sent : List Frame) → Moves old events wrote failed new → wrote ≡ spelling_of sent → only_replies sent ≡ replies → Wrote old replies new
wrote-replies old new wrote events failed replies sent moves is only = (sent, only, moves.written ∙ ap (λ (w : List ℕ). option_map (λ before. before ++ w) old.written) is)

-- where all bytes were taken, and less than a frame is left behind the frames handled, the link went on behind the others
past_run : StreamLaws → (block bytes : List ℕ) (frames : List Frame) (turns : ℕ) (old : LinkState) (answer : LinkEnd) (new : LinkState) (steps : List Step) → (r : Run block bytes frames turns old answer new steps)
    → (filled left : List ℕ) → Spelled filled (frames_in r.served.comes.trace) → bytes ≡ filled ++ left → ((f : Frame) → Begins left f → ⊥) → r.served.comes.cause ≡ None
    → GoesBehind block frames (frame_steps_in r.served.comes.trace)
past_run laws block bytes frames turns old answer new steps r filled left spelled whole none why =
    let c = r.served.comes in
    let sc = script_run block bytes frames turns old answer new steps r in
    let most = maximal laws filled left r.good.fills.filled r.good.behind (frames_in c.trace) frames spelled r.good.fills.spelled (sym whole ∙ r.good.fills.whole) none in
    goes_run block bytes frames turns old answer new steps r most.0 most.1 (λ e. none_of c.cause c.last.stage sc.after sc.end why sc.ends)

-- a bad header comes only behind the frames, where the link went on
bad_header_run : StreamLaws → (block bytes : List ℕ) (frames : List Frame) (turns : ℕ) (old : LinkState) (answer : LinkEnd) (new : LinkState) (steps : List Step) → (r : Run block bytes frames turns old answer new steps)
    → (at : ℕ) (reason : Reason) → Stopped (bytes_read r.served.comes.trace) (frames_in r.served.comes.trace) at reason → r.served.comes.cause ≡ None → ⊥
bad_header_run laws block bytes frames turns old answer new steps r at reason stopped why =
    let c = r.served.comes in
    let split = split_run block bytes frames turns old answer new steps r in
    let bad_rest = bad_header-append stopped.left split.0 reason stopped.bad_header in
    let whole : bytes ≡ stopped.filled ++ (stopped.left ++ split.0) = split.1 ∙ ap (λ (b : List ℕ). b ++ split.0) stopped.whole ∙ append_assoc stopped.filled stopped.left split.0 in
    elim r.good.last [
      | inl none ↦
          laws.exclusive bytes [] frames (frames_in c.trace) at reason (framed-whole bytes frames (spelled_run block bytes frames (frame_steps_in c.trace) r.good none))
          (subst (λ (x : List ℕ). Stopped x (frames_in c.trace) at reason) (sym split.1) (stopped-append (bytes_read c.trace) split.0 (frames_in c.trace) at reason stopped))
      | inr stops ↦
          stops (past_run laws block bytes frames turns old answer new steps r stopped.filled (stopped.left ++ split.0) stopped.spelled whole (λ f b. bad_is_no_frame (stopped.left ++ split.0) reason bad_rest f b) why)
    ]

by_answer : StreamLaws → (block bytes : List ℕ) (frames : List Frame) (turns : ℕ) (old : LinkState) (answer : LinkEnd) (new : LinkState) (steps : List Step) → (r : Run block bytes frames turns old answer new steps)
    → EndsBy turns old r.served.comes.trace r.served.comes.last r.served.comes.cause r.served.comes.wrote answer new
    → RunsStill old new → IsUnhindered answer → length bytes + (new.quiets - old.quiets) < turns → ServesAll block frames old answer new (frame_steps_in r.served.comes.trace)
by_answer laws block bytes frames turns old links.Memory new steps r e still free below = inl refl
by_answer laws block bytes frames turns old links.Closed new steps r e still free below =
    let c = r.served.comes in
    let sc = script_run block bytes frames turns old links.Closed new steps r in
    inr (inl (
      replies_in c.trace,
      refl,
      begins_run laws block bytes frames turns old links.Closed new steps r (Some ends.Closed) e.0.answered.left e.0.answered.fills (end_of c.cause closed c.last.stage sc.after sc.end e.0.why sc.ends).1,
      wrote-replies old new c.wrote (events_in c.trace) 0 (replies_in c.trace) (sent_in c.trace) c.moves e.0.answered.sent sc.no_others,
    ))
by_answer laws block bytes frames turns old links.Ended new steps r e still free below =
    let c = r.served.comes in
    let sc = script_run block bytes frames turns old links.Ended new steps r in
    let framed = e.goes_on.framed in
    let all : bytes ≡ bytes_read c.trace = all_taken new.coming (bytes_read c.trace) bytes (sym r.coming ∙ c.moves.coming) e.nothing_comes in
    elim r.good.last [
      | inl none ↦
          let same = laws.one_rest (bytes_read c.trace) [] [] (frames_in c.trace) frames framed
          (framed-whole (bytes_read c.trace) frames (subst (λ (b : List ℕ). Spelled b frames) all (spelled_run block bytes frames (frame_steps_in c.trace) r.good none))) in
          inr (inr (
            replies_in c.trace,
            sc.after,
            refl,
            subst (λ (fs : List Frame). Script block stages.Fresh fs (frame_steps_in c.trace) (replies_in c.trace) sc.after None) same.0
                (subst (λ (x : Option FrameEnd). Script block stages.Fresh (frames_in c.trace) (frame_steps_in c.trace) (replies_in c.trace) sc.after x) (none_of c.cause c.last.stage sc.after sc.end e.goes_on.why sc.ends) sc.script),
            wrote-replies old new c.wrote (events_in c.trace) 0 (replies_in c.trace) (sent_in c.trace) c.moves e.goes_on.sent sc.no_others,
          ))
      | inr stops ↦
          absurd (stops (past_run laws block bytes frames turns old links.Ended new steps r framed.filled [] framed.spelled (all ∙ framed.whole) framed.unfinished.no_frame e.goes_on.why))
    ]
by_answer laws block bytes frames turns old (links.Cut at) new steps r e still free below =
    let c = r.served.comes in
    let framed = e.goes_on.framed in
    let all : bytes ≡ bytes_read c.trace = all_taken new.coming (bytes_read c.trace) bytes (sym r.coming ∙ c.moves.coming) e.nothing_comes in
    absurd (elim r.good.last [
      | inl none ↦
          let same = laws.one_rest (bytes_read c.trace) e.left [] (frames_in c.trace) frames framed
          (framed-whole (bytes_read c.trace) frames (subst (λ (b : List ℕ). Spelled b frames) all (spelled_run block bytes frames (frame_steps_in c.trace) r.good none))) in
          let some : ⊥ = omega (arith, ap length same.1, e.something_left) in some
      | inr stops ↦
          stops (past_run laws block bytes frames turns old (links.Cut at) new steps r framed.filled e.left framed.spelled (all ∙ framed.whole) framed.unfinished.no_frame e.goes_on.why)
    ])
by_answer laws block bytes frames turns old (links.Bad b) new steps r e still free below =
    let c = r.served.comes in
    let sc = script_run block bytes frames turns old (links.Bad b) new steps r in
    absurd (elim e.0 [
      | inl header ↦ bad_header_run laws block bytes frames turns old (links.Bad b) new steps r b.at b.reason header.stopped header.why
      | inr frame ↦
          r.good.none_bad b.reason (replies_in c.trace)
          (begins_run laws block bytes frames turns old (links.Bad b) new steps r (Some (ends.Bad b.reason)) frame.begins.more
          (subst (λ (fs : List Frame). Fills (bytes_read c.trace) fs frame.begins.more) (sym frame.frames)
          (fills-one (bytes_read c.trace) frame.left frame.begins.first frame.begins.more frame.before frame.last frame.fills frame.begins.spelling frame.begins.whole)) (end_of c.cause (bad b.reason) c.last.stage sc.after sc.end frame.why sc.ends).1)
    ])
by_answer laws block bytes frames turns old (links.Silent last now) new steps r e still free below = absurd free
by_answer laws block bytes frames turns old links.Displaced new steps r e still free below = absurd free
by_answer laws block bytes frames turns old links.Drained new steps r e still free below = absurd free
by_answer laws block bytes frames turns old links.ReadFault new steps r e still free below = absurd (omega (arith, e.0.fault, still.read_faults, still.reads_count))
by_answer laws block bytes frames turns old links.WriteFault new steps r e still free below = absurd (omega (arith, r.served.comes.moves.write_faults, still.write_faults, still.writes_count))
by_answer laws block bytes frames turns old links.Spent new steps r e still free below =
    let split = split_run block bytes frames turns old links.Spent new steps r in
    absurd (omega (arith, e.0.reached, r.served.comes.moves.quiets, still.quiets_count, ap length split.1, length-append (bytes_read r.served.comes.trace) split.0))

pub complete : StreamLaws → IsComplete
complete laws block bytes frames turns old new answer steps served coming good still free below =
    by_answer laws block bytes frames turns old answer new steps (record { served = served; coming = coming; good = good }) served.comes.ends still free below

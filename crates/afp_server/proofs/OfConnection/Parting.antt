-- A link that has ended, and parts.
use Rattle.std.proofs.Common.{ℕ, List, ◌++◌, refl, inl, inr}
use Rattle.afp_outside.specs.ends.Gate.{Passed}
use Rattle.afp_outside.specs.ends.Link.{LinkState}
use Rattle.afp_serial.specs.Shown.{Shown}
use Rattle.afp_serial.specs.Went.{Step, Went}
use Rattle.afp_serial.proofs.Grows.{went-join}
use Rattle.dsi_frame.specs.Buffered.{Buffered}
use Rattle.afp_server.specs.link.LinkRun.{Parts}
use Rattle.afp_server.specs.link.Requests.{Requests}
use Rattle.afp_server.specs.link.Trace.{standing, steps_in}
use Rattle.afp_server.specs.link.Progress.{Start, point}
use Rattle.afp_server.specs.connection.Turn.{shown_to}
use Rattle.afp_server.specs.connection.Standing.{StandsBy}
use Rattle.afp_server.specs.connection.Connection.{WasServed}
use Rattle.afp_server.specs.declared.connection.standing.Standing.TheVariants as stands
use Rattle.afp_server.specs.declared.link.serve.LinkEnd.{LinkEnd}
use Rattle.afp_server.specs.declared.link.stage.Stage.{Stage}
use Rattle.afp_server.proofs.OfLink.Passing.{through-all, through-more, parts-calls}
use Rattle.afp_server.proofs.OfConnection.Turning.{turn-own}

pub was-served : {A : Type 0} (passed : A → Passed) (log : A) (start : Start) (cost : ℕ) (end : LinkEnd) (held : Buffered) (stage : Stage) (requests : Requests) (link : LinkState) (before after : Shown) (own : List ℕ) (parting : List Step)
    → Parts stage link.now parting → (w : Went before parting after) → StandsBy start cost (stands.Over end) (point held stage requests link (shown_to own before) (passed log))
    → WasServed passed start end link log (shown_to (own ++ w.places) after)
was-served passed log start cost end held stage requests link before after own parting parts w (inl e) = record {
  steps = e.asked ++ parting;
  went = went-join start.shown (shown_to own before) (shown_to (own ++ w.places) after) e.asked parting e.went (turn-own before after parting own w);
  served = inl record { asked = e.asked; parting = parting; stage = stage; comes = e.comes; parts = parts; all = refl };
  passes = record { log = log; through = through-more end (passed log) e.asked parting e.through (parts-calls stage link.now parting parts) };
}
was-served passed log start cost end held stage requests link before after own parting parts w (inr u) =
    let s = u.so_far in record {
      steps = steps_in s.trace ++ parting;
      went = went-join start.shown (shown_to own before) (shown_to (own ++ w.places) after) (steps_in s.trace) parting s.went (turn-own before after parting own w);
      served = inr record {
        memory = u.memory;
        trace = s.trace;
        last = standing stage requests link;
        follows = s.follows;
        now = refl;
        last_read = refl;
        moves = s.moves;
        ended = s.ended;
        reads = s.reads;
        left = u.held.rest;
        fills = s.fills;
        some = u.some;
        parting = parting;
        parts = parts;
        all = refl;
      };
      passes = record { log = log; through = through-more end (passed log) (steps_in s.trace) parting (through-all end (passed log) (steps_in s.trace) s.through) (parts-calls stage link.now parting parts) };
    }

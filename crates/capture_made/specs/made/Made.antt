-- A made capture (this profile).
use Rattle.std.specs.Prelude.{◌≡◌, ℕ, List, [], ◌∷◌, ◌++◌}
use Rattle.capture_log.specs.Standing.{uncompared}
use Rattle.capture_log_server.specs.CaptureState.{CaptureState, Leads, TakesGoodLine, begins}
use Rattle.capture_log_lines.specs.made.Lines.{house_lines, in_line, out_line, end_line}
use Rattle.capture_made.specs.requests.Requests.{requests}
use Rattle.capture_made.specs.declared.requests.request.Request.{Request}

-- A request and its reply: its bytes come on its connection, and what the server answers there is named, all of it.
pub record Exchange (s : CaptureState) (r : Request) (lines : List (List ℕ)) (t : CaptureState) : Type 0 where
  pub fed : CaptureState
  pub came : TakesGoodLine s (in_line r.link r.at r.frame) fed
  pub answered : TakesGoodLine fed (out_line r.link r.at (uncompared (fed.connections r.link))) t
  pub lines_are : lines ≡ in_line r.link r.at r.frame ∷ out_line r.link r.at (uncompared (fed.connections r.link)) ∷ []

-- requests, one after the other, each followed by its reply
abbrev pub Exchanges : CaptureState → List Request → List (List ℕ) → CaptureState → Type 0
Exchanges s [] lines t = (lines ≡ []) × (t ≡ s)
Exchanges s (r ∷ rs) lines t =
    (m : CaptureState) × (first : List (List ℕ)) × (more : List (List ℕ)) × Exchange s r first m × Exchanges m rs more t × (lines ≡ first ++ more)

-- The lines of the capture that is made of a number and so many steps, and where they lead: those of the house, each request with its
-- reply, and the end. Each line is good behind those before it, so that a replay of them is the same.
pub record IsMade (number steps : ℕ) (lines : List (List ℕ)) (t : CaptureState) : Type 0 where
  pub opened : CaptureState
  pub events : List (List ℕ)
  pub answered : CaptureState
  pub house : Leads begins house_lines opened
  pub exchanges : Exchanges opened (requests number steps) events answered
  pub ends : TakesGoodLine answered end_line t
  pub lines_are : lines ≡ house_lines ++ (events ++ end_line ∷ [])
  pub judged : Leads begins lines t

-- What runs where a client has its links: the client itself, the server ends of its links, what is under way on them, and what the teller behind them shows (this profile).
use Rattle.std.specs.Prelude.{ℕ, Bool, false, List, [], None}
use Rattle.afp_base.specs.Cached.{Answer}
use Rattle.afp_calls_grammar.specs.declared.grammar.call.Call as grammar
use Rattle.afp_client.specs.session.State.{Client}
use Rattle.afp_client.specs.session.Takes.{begun}
use Rattle.afp_client.specs.declared.session.login.Login as logins
use Rattle.afp_serial.specs.Shown.{Shown}
use Rattle.afp_server.specs.link.Tally.{no_tally}
use Rattle.afp_server.specs.link.Wire.{WireState}
use Rattle.afp_server.specs.declared.link.stage.Stage.TheVariants as stages
use Rattle.afp_client.specs.session.Opening.{open_session_frame}
use Rattle.dsi_frame.specs.Frame.{canonical_frame}
use Rattle.dsi_session.specs.RequestIds.{first_request_id}
use Rattle.once_across_breaks_code.specs.client.Related.{made_client}

-- A link: its server end, and whether that has ended; the bytes under way to it, and those under way to the client.
pub record Lane : Type 0 where
  pub wire : WireState
  pub ended : Bool
  pub up : List ℕ
  pub down : List ℕ

-- The links are numbered from 0; the newest has the number top. The calls are those that the client was asked, and the results what it was told of them, in order.
pub record Things : Type 0 where
  pub client : Client
  pub top : ℕ
  pub lanes : ℕ → Lane
  pub shown : Shown
  pub calls : List grammar.Call
  pub results : List Answer

-- a link that the client has begun: OpenSession is under way
abbrev pub begun_lane : List ℕ → Lane
begun_lane block = record {
  wire = record { block = block; held = record { place = 0; rest = [] }; stage = stages.Fresh; tally = no_tally; end = None };
  ended = false;
  up = canonical_frame (open_session_frame first_request_id);
  down = [];
}

-- a client that has begun its first link, and nothing was asked
abbrev pub begun_things : List ℕ → logins.Login → Shown → Things
begun_things block login shown = record {
  client = record { state = begun (made_client login); held = record { place = 0; rest = [] } };
  top = 0;
  lanes = λ i. begun_lane block;
  shown = shown;
  calls = [];
  results = [];
}

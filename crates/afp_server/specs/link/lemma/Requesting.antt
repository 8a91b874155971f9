-- What the code of a link's requests goes by; no public contract cites it.
use Rattle.std.specs.Prelude.{ℕ, List, [], ◌∷◌}
use Rattle.dsi_frame.specs.Frame.{Frame}
use Rattle.afp_server.specs.link.Requests.{Requests, tickle, attention}
use Rattle.afp_server.specs.declared.link.requests.Request.{Request}
use Rattle.afp_server.specs.declared.link.requests.Request.TheVariants as variants

-- these bytes of a reply were written at this moment, or none
abbrev pub after_bytes : ℕ → List ℕ → Requests → Requests
after_bytes now [] a = a
after_bytes now (b ∷ bytes) a = record { last_write = now; drain_told = a.drain_told; next_id = a.next_id }

-- the frame of a request
abbrev pub request_frame : Request → Frame
request_frame (variants.Attention id) = attention id
request_frame (variants.Tickle id) = tickle id

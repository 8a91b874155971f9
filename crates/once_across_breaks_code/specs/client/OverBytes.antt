-- The same over bytes: what the client writes, and what it takes of those that came, is what the law's client spells and reads.
use Rattle.std.specs.Prelude.{◌≡◌, ◌≤◌, ◌+◌, ℕ, true, false, List, ◌++◌, Some, None}
use Rattle.afp_base.specs.Bytes.{IsBytes}
use Rattle.dsi_frame.specs.Frame.{canonical_frame}
use Rattle.dsi_frame.specs.Replies.{spelling_of}
use Rattle.dsi_frame.specs.Stream.{IsUnfinished}
use Rattle.dsi_session.specs.RequestIds.{first_request_id}
use Rattle.afp_calls_grammar.specs.declared.grammar.call.Call as grammar
use Rattle.afp_client.specs.session.Happens.{TakesNext}
use Rattle.afp_client.specs.session.Opening.{open_session_frame}
use Rattle.afp_client.specs.session.State as states
use Rattle.afp_client.specs.session.State.{ClientState, IsReady, call_frame}
use Rattle.afp_client.specs.declared.session.event.Event.{Event}
use Rattle.once_across_breaks.specs.once.Messages.{Answer, Call, Does}
use Rattle.once_across_breaks.specs.once.Run.{Asks, Client, Entering, Gone, Joining, Opening, Opens, Ready, Stage, id_of}
use Rattle.once_across_breaks.specs.once.Frames.{Tag, Taken}
use Rattle.once_across_breaks.specs.once.Serial.{Setup}
use Rattle.once_across_breaks.specs.once.Bytes.{spelt}
use Rattle.once_across_breaks.specs.once.Dsi.{dsi_down, dsi_up}
use Rattle.once_across_breaks_code.specs.client.Requests.{IsCall}
use Rattle.once_across_breaks_code.specs.client.Related.{IsClient}
use Rattle.once_across_breaks_code.specs.client.Moves.{Move, Takes, frames_of, moved}
use Rattle.once_across_breaks_code.specs.client.Steps.{call_of, results_with, waits_behind}

-- the ids of an opening are few: three requests, each written at most three times again
abbrev pub AreFew : Stage → ℕ → ℕ → Type 0
AreFew Opening tries id = (id ≤ tries) × (tries ≤ 3)
AreFew Entering tries id = (id ≤ 4 + tries) × (tries ≤ 3)
AreFew Joining tries id = (id ≤ 8 + tries) × (tries ≤ 3)
AreFew Ready tries id = id ≤ 11
AreFew Gone tries id = id ≤ 11

abbrev pub HasFewIds : Client → Type 0
HasFewIds c = AreFew c.stage c.tries c.opening_id

-- So they stay whatever the law's client does, and then its frames are spelt as the law spells its requests.
abbrev pub WritesAreSpelt : Type 0
WritesAreSpelt =
    (u : Setup) (c : Client) (s : ClientState) (move : Move) (t : Taken)
    → IsClient u c s
    → HasFewIds c
    → moved c move ≡ Some t
    → HasFewIds t.client × (spelling_of (frames_of u t) ≡ spelt (dsi_up u) t.client.opening_id t.writes)

-- the bytes of a call that is asked, and those of the beginning of a link
abbrev pub AsksAreSpelt : Type 0
AsksAreSpelt =
    (u : Setup) (c : Client) (s : ClientState) (command : Call) (call : grammar.Call)
    → IsClient u c s
    → IsReady s
    → IsCall u command call
    → canonical_frame (call_frame s.next_id call) ≡ (dsi_up u).spell (c.opening_id, Asks (id_of c.first c.drawn) (Does command) false)

abbrev pub BeginsAreSpelt : Type 0
BeginsAreSpelt = (u : Setup) → canonical_frame (open_session_frame first_request_id) ≡ (dsi_up u).spell (0, Opens)

-- Of bytes that came, the law's client reads the reply that the client takes, and leaves the same rest; it takes it, both are one behind it, and what the client wrote are
-- the bytes that the law's client writes.
pub record IsRead (u : Setup) (c : Client) (old : states.Client) (out : List ℕ) (event : Event) (new : states.Client) (out_after : List ℕ) : Type 0 where
  pub tag : Tag
  pub answer : Answer
  pub taken : Taken
  pub front : (dsi_down u).front old.held.rest ≡ Some ((tag, answer), new.held.rest)
  pub takes : moved c (Takes tag answer) ≡ Some taken
  pub client : IsClient u taken.client new.state
  pub few : HasFewIds taken.client
  pub sent : out_after ≡ out ++ spelt (dsi_up u) taken.client.opening_id taken.writes
  pub results : taken.client.results ≡ c.results ++ results_with event c.wait
  pub waits : call_of taken.client.wait ≡ waits_behind event (call_of c.wait)

abbrev pub TakenIsRead : Type 0
TakenIsRead =
    (u : Setup) (c : Client) (old new : states.Client) (out out_after : List ℕ) (event : Event)
    → IsClient u c old.state
    → HasFewIds c
    → IsBytes old.held.rest
    → (next : TakesNext old out event new out_after)
    → next.frame.reply ≡ true
    → IsRead u c old out event new out_after

-- and where no frame is whole yet it reads none
abbrev pub UnfinishedIsUnread : Type 0
UnfinishedIsUnread = (u : Setup) (bytes : List ℕ) → IsBytes bytes → IsUnfinished bytes → (dsi_down u).front bytes ≡ None

-- What a history says in the words of the client's steps (this profile).
use Rattle.std.specs.Prelude.{◌≡◌, List, [], ◌∷◌, ◌++◌}
use Rattle.std.specs.List.{flat_map}
use Rattle.afp_outside.specs.ends.Link.{bytes_taken}
use Rattle.dsi_frame.specs.Frame.{Frame, canonical_frame}
use Rattle.dsi_frame.specs.Replies.{listed}
use Rattle.dsi_session.specs.RequestIds.{first_request_id}
use Rattle.afp_client.specs.session.Opening.{open_session_frame}
use Rattle.afp_client.specs.session.State.{ClientState, call_frame}
use Rattle.afp_client.specs.session.Run as R
use Rattle.afp_client.specs.links.History.{Happening, received, was_quiet, read_last, tickled, limited, asks, took, events_in, came_in, to_write, tickle_frame, Leads}

-- the steps of the client on the link, the oldest first
abbrev pub actions_in : List Happening → List R.Action
actions_in [] = R.begins ∷ []
actions_in (received before now bytes ∷ all) = actions_in all
actions_in (was_quiet before now ∷ all) = actions_in all
actions_in (read_last before now ∷ all) = actions_in all
actions_in (tickled ∷ all) = actions_in all
actions_in (limited l ∷ all) = actions_in all
actions_in (asks s call ∷ all) = actions_in all ++ R.asks call ∷ []
actions_in (took s f st ∷ all) = actions_in all ++ R.takes_frame f st ∷ []

-- the frames that they write
abbrev pub frames_in : List Happening → List Frame
frames_in [] = open_session_frame first_request_id ∷ []
frames_in (received before now bytes ∷ all) = frames_in all
frames_in (was_quiet before now ∷ all) = frames_in all
frames_in (read_last before now ∷ all) = frames_in all
frames_in (tickled ∷ all) = frames_in all
frames_in (limited l ∷ all) = frames_in all
frames_in (asks s call ∷ all) = frames_in all ++ call_frame s.next_id call ∷ []
frames_in (took s f st ∷ all) = frames_in all ++ listed st.writes

-- and with the Tickles
abbrev pub all_frames_in : List Happening → List Frame
all_frames_in [] = open_session_frame first_request_id ∷ []
all_frames_in (received before now bytes ∷ all) = all_frames_in all
all_frames_in (was_quiet before now ∷ all) = all_frames_in all
all_frames_in (read_last before now ∷ all) = all_frames_in all
all_frames_in (tickled ∷ all) = all_frames_in all ++ tickle_frame ∷ []
all_frames_in (limited l ∷ all) = all_frames_in all
all_frames_in (asks s call ∷ all) = all_frames_in all ++ call_frame s.next_id call ∷ []
all_frames_in (took s f st ∷ all) = all_frames_in all ++ listed st.writes

-- What happened are the client's steps from the beginning of the link on, and they write these frames.
abbrev pub LeadsFollows : Type 0
LeadsFollows = (s t : ClientState) (all : List Happening) → Leads s all t → R.Follows s (actions_in all) t (frames_in all)

-- What is to be written is the spelling of these frames and the Tickles.
abbrev pub WritesFrames : Type 0
WritesFrames = (all : List Happening) → to_write all ≡ flat_map canonical_frame (all_frames_in all)

-- The bytes that came are those of the link's events.
abbrev pub TakesBytes : Type 0
TakesBytes = (all : List Happening) → bytes_taken (events_in all) ≡ came_in all

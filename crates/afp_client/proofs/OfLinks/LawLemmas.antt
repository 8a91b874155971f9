-- Histories in the words of the client's steps.
use Rattle.std.proofs.Common.{◌≡◌, ℕ, List, [], ◌∷◌, ◌++◌, Option, Some, None, refl, sym, ap, ◌∙◌, append-nil, append_assoc}
use Rattle.std.specs.List.{flat_map}
use Rattle.std.proofs.lemmas.List.Concat.{flat_map-append}
use Rattle.afp_outside.specs.ends.Link.{Event, piece, quiet, bytes_taken}
use Rattle.dsi_frame.specs.Frame.{Frame, canonical_frame}
use Rattle.dsi_frame.specs.Replies.{listed}
use Rattle.afp_client.specs.session.State.{ClientState, call_frame}
use Rattle.afp_client.specs.session.Takes.{begun, written}
use Rattle.dsi_session.specs.RequestIds.{first_request_id}
use Rattle.afp_client.specs.session.Opening.{open_session_frame}
use Rattle.afp_client.specs.session.Run as R
use Rattle.afp_client.specs.session.Laws.{FollowsJoin}
use Rattle.afp_client.specs.links.History.{received, was_quiet, read_last, tickled, limited, asks, took, events_in, came_in, to_write, tickle_frame}
use Rattle.afp_client.specs.links.Laws.{LeadsFollows, WritesFrames, TakesBytes, actions_in, frames_in, all_frames_in}

one-action : FollowsJoin → (s mid t : ClientState) (d : R.Action) (actions : List R.Action) (frames : List Frame) → R.Follows s actions mid frames → R.Does mid d t → R.Follows s (actions ++ d ∷ []) t (frames ++ R.writes_of mid d)
one-action join s mid t d actions frames f does =
    join s mid t actions (d ∷ []) frames (R.writes_of mid d) f (t, [], does, sym (append-nil (R.writes_of mid d)), (refl, refl))

pub leads_follows : FollowsJoin → LeadsFollows
leads_follows join s t [] l = (begun s, [], refl, refl, (l, refl))
leads_follows join s t (received before now bytes ∷ all) l = leads_follows join s t all l
leads_follows join s t (was_quiet before now ∷ all) l = leads_follows join s t all l
leads_follows join s t (read_last before now ∷ all) l = leads_follows join s t all l
leads_follows join s t (tickled ∷ all) l = leads_follows join s t all l
leads_follows join s t (limited m ∷ all) l = leads_follows join s t all l
leads_follows join s t (asks mid call ∷ all) l = one-action join s mid t (R.asks call) (actions_in all) (frames_in all) (leads_follows join s mid all l.0) (l.1, l.2)
leads_follows join s t (took mid f st ∷ all) l = one-action join s mid t (R.takes_frame f st) (actions_in all) (frames_in all) (leads_follows join s mid all l.0) (l.1, l.2, l.3, l.4, l.5)

spells-one : (f : Frame) → flat_map canonical_frame (f ∷ []) ≡ canonical_frame f
spells-one f = append-nil (canonical_frame f)

spells-listed : (o : Option Frame) → flat_map canonical_frame (listed o) ≡ written o
spells-listed None = refl
spells-listed (Some f) = spells-one f

more-frames : (bytes more : List ℕ) (frames others : List Frame) → bytes ≡ flat_map canonical_frame frames → flat_map canonical_frame others ≡ more → bytes ++ more ≡ flat_map canonical_frame (frames ++ others)
more-frames bytes more frames others a b = ap (λ (x : List ℕ). x ++ more) a ∙ ap (λ (x : List ℕ). flat_map canonical_frame frames ++ x) (sym b) ∙ sym (flat_map-append canonical_frame frames others)

pub writes_frames : WritesFrames
writes_frames [] = sym (spells-one (open_session_frame first_request_id))
writes_frames (received before now bytes ∷ all) = writes_frames all
writes_frames (was_quiet before now ∷ all) = writes_frames all
writes_frames (read_last before now ∷ all) = writes_frames all
writes_frames (tickled ∷ all) = more-frames (to_write all) (canonical_frame tickle_frame) (all_frames_in all) (tickle_frame ∷ []) (writes_frames all) (spells-one tickle_frame)
writes_frames (limited l ∷ all) = writes_frames all
writes_frames (asks s call ∷ all) = more-frames (to_write all) (canonical_frame (call_frame s.next_id call)) (all_frames_in all) (call_frame s.next_id call ∷ []) (writes_frames all) (spells-one (call_frame s.next_id call))
writes_frames (took s f st ∷ all) = more-frames (to_write all) (written st.writes) (all_frames_in all) (listed st.writes) (writes_frames all) (spells-listed st.writes)

taken-one : (es fs : List Event) → bytes_taken (es ++ fs) ≡ bytes_taken es ++ bytes_taken fs
taken-one [] fs = refl
taken-one (piece w n bytes ∷ es) fs = ap (λ (rest : List ℕ). bytes ++ rest) (taken-one es fs) ∙ sym (append_assoc bytes (bytes_taken es) (bytes_taken fs))
taken-one (quiet w n ∷ es) fs = taken-one es fs

pub takes_bytes : TakesBytes
takes_bytes [] = refl
takes_bytes (received before now bytes ∷ all) = taken-one (events_in all) (piece before now bytes ∷ []) ∙ ap (λ (x : List ℕ). x ++ (bytes ++ [])) (takes_bytes all) ∙ ap (λ (x : List ℕ). came_in all ++ x) (append-nil bytes)
takes_bytes (was_quiet before now ∷ all) = taken-one (events_in all) (quiet before now ∷ []) ∙ append-nil (bytes_taken (events_in all)) ∙ takes_bytes all
takes_bytes (read_last before now ∷ all) = takes_bytes all
takes_bytes (tickled ∷ all) = takes_bytes all
takes_bytes (limited l ∷ all) = takes_bytes all
takes_bytes (asks s call ∷ all) = takes_bytes all
takes_bytes (took s f st ∷ all) = takes_bytes all

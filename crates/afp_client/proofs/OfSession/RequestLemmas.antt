-- The frame of a call.
use Rattle.std.proofs.lemmas.List.{append-nil}
use Rattle.std.proofs.Common.{◌≡◌, ℕ, Bool, true, false, List, ◌++◌, length, is_some, refl, ap}
use Rattle.dsi_frame.specs.Frame.{frame_of}
use Rattle.dsi_frame.specs.declared.frame.Header.{Header}
use Rattle.afp_calls_grammar.specs.grammar.Call.{canonical_call, canonical_data, canonical_piece, layout_of}
use Rattle.afp_calls_grammar.specs.grammar.Words.{Enclosed, Nothing, Piece, canonical_enclosed, enclosed_bytes}
use Rattle.afp_calls_grammar.specs.declared.grammar.call.Call.{Call}
use Rattle.afp_client.specs.session.State.{call_frame, framed_call}
use Rattle.afp_client.specs.session.lemma.Requests.{call_header}

by_enclosed : (id n : ℕ) (call : Call) (e : Enclosed) (b : Bool) → b ≡ is_some (canonical_enclosed e)
    → frame_of (call_header b id (length (canonical_call call)) n) (canonical_call call ++ enclosed_bytes e) ≡ framed_call id call (canonical_enclosed e)
by_enclosed id n call Nothing true h = cc
by_enclosed id n call Nothing false h = ap (λ (bytes : List ℕ). frame_of (call_header false id 0 n) bytes) (append-nil (canonical_call call))
by_enclosed id n call (Piece size piece) true h = refl
by_enclosed id n call (Piece size piece) false h = cc

-- the frame with a call's header and its bytes
pub call_framed : (id n : ℕ) (call : Call) (b : Bool) (header : Header) (place : ℕ) (payload : List ℕ) → b ≡ is_some (canonical_data call) → header ≡ call_header b id place n
    → place ≡ length (canonical_call call) → payload ≡ canonical_call call ++ canonical_piece call → frame_of header payload ≡ call_frame id call
unfolding canonical_data canonical_piece
call_framed id n call b header place payload d h p e =
    let all = by_enclosed id n call (layout_of call).enclosed b d in
    cc

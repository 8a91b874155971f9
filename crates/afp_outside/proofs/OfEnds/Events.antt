-- the events of reads, when one read more is gave of
use Rattle.std.proofs.Common.{◌≡◌, ℕ, ◌+◌, ◌≤◌, List, [], ◌∷◌, ◌++◌, length, take, drop, Some, sym, ap, ◌∙◌, add_assoc, add-zero, zero-add, arith}
use Rattle.std.proofs.lemmas.List.{drop-drop, length-drop, append-nil, append_assoc}
use Rattle.afp_outside.specs.ends.Link.{piece, quiet}
use Rattle.afp_outside.specs.ends.Tape.{PastRead, event_of, gave_size, events_of, size_of}
use Rattle.afp_outside.specs.declared.ends.link.ReadResult.TheVariants.{Got, Quiet}

pub size-more : (them : List PastRead) (it : PastRead) → size_of (them ++ it ∷ []) ≡ size_of them + gave_size it.gave
size-more [] it = add-zero (gave_size it.gave) ∙ sym (zero-add (gave_size it.gave))
size-more (first ∷ them) it = ap (λ k. gave_size first.gave + k) (size-more them it) ∙ sym (add_assoc (gave_size first.gave) (size_of them) (gave_size it.gave))

pub events-more : (bytes : List ℕ) (them : List PastRead) (it : PastRead) → events_of bytes (them ++ it ∷ []) ≡ events_of bytes them ++ event_of it.gave it.written it.moment (drop (size_of them) bytes)
events-more bytes [] it = append-nil (event_of it.gave it.written it.moment bytes)
events-more bytes (first ∷ them) it =
    ap (λ es. event_of first.gave first.written first.moment bytes ++ es) (events-more (drop (gave_size first.gave) bytes) them it
    ∙ ap (λ rest. events_of (drop (gave_size first.gave) bytes) them ++ event_of it.gave it.written it.moment rest) (drop-drop (size_of them) (gave_size first.gave) bytes))
    ∙ sym (append_assoc (event_of first.gave first.written first.moment bytes) (events_of (drop (gave_size first.gave) bytes) them) (event_of it.gave it.written it.moment (drop (gave_size first.gave + size_of them) bytes)))

pub got_place : (bytes : List ℕ) (n place : ℕ) → place ≤ length bytes → n ≤ length (drop place bytes) → place + n ≤ length bytes
got_place bytes n place p h = let e = length-drop place bytes in omega arith

-- a read that gave n bytes at a place
pub got_size : (them : List PastRead) (it : PastRead) (n place : ℕ) → it.gave ≡ Got n → size_of them ≡ place → size_of (them ++ it ∷ []) ≡ place + n
got_size them it n place is e = size-more them it ∙ ap (λ gave. size_of them + gave_size gave) is ∙ ap (λ k. k + n) e

pub got_events : (bytes : List ℕ) (them : List PastRead) (it : PastRead) (n : ℕ) (written : List ℕ) (moment place : ℕ) → it ≡ record { gave = Got n; written = written; moment = moment } → size_of them ≡ place
    → events_of bytes (them ++ it ∷ []) ≡ events_of bytes them ++ piece (Some written) moment (take n (drop place bytes)) ∷ []
got_events bytes them it n written moment place is e =
    events-more bytes them it
    ∙ ap (λ (x : PastRead). events_of bytes them ++ event_of x.gave x.written x.moment (drop (size_of them) bytes)) is
    ∙ ap (λ k. events_of bytes them ++ piece (Some written) moment (take n (drop k bytes)) ∷ []) e

-- a read that gave a quiet
pub quiet_size : (them : List PastRead) (it : PastRead) (place : ℕ) → it.gave ≡ Quiet → size_of them ≡ place → size_of (them ++ it ∷ []) ≡ place
quiet_size them it place is e = size-more them it ∙ ap (λ gave. size_of them + gave_size gave) is ∙ add-zero (size_of them) ∙ e

pub quiet_events : (bytes : List ℕ) (them : List PastRead) (it : PastRead) (written : List ℕ) (moment : ℕ) → it ≡ record { gave = Quiet; written = written; moment = moment }
    → events_of bytes (them ++ it ∷ []) ≡ events_of bytes them ++ quiet (Some written) moment ∷ []
quiet_events bytes them it written moment is =
    events-more bytes them it
    ∙ ap (λ (x : PastRead). events_of bytes them ++ event_of x.gave x.written x.moment (drop (size_of them) bytes)) is

-- Tallies of steps and replies.
use Rattle.std.proofs.Common.{◌≡◌, ℕ, Bool, List, [], ◌∷◌, ◌++◌, refl, sym, ap, ◌∙◌}
use Rattle.std.specs.Prelude.{Option, Some, None}
use Rattle.afp_serial.specs.Went.{Step}
use Rattle.dsi_frame.specs.Frame.{Frame}
use Rattle.dsi_frame.specs.Replies.{listed}
use Rattle.afp_server.specs.link.Tally.{replies_after, refused_after, refused_more, answered_after, and_told, tallied, and_reply}
use Rattle.afp_server.specs.declared.link.tally.Tally.{Tally}
use Rattle.afp_base.specs.Counts.{counted}

replies-join : (n : ℕ) (fs gs : List Frame) → replies_after (replies_after n fs) gs ≡ replies_after n (fs ++ gs)
replies-join n [] gs = refl
replies-join n (f ∷ fs) gs = replies-join (counted 1 n) fs gs

refused-join : (n : ℕ) (fs gs : List Frame) → refused_after (refused_after n fs) gs ≡ refused_after n (fs ++ gs)
refused-join n [] gs = refl
refused-join n (f ∷ fs) gs = refused-join (refused_more f.word n) fs gs

answered-join : (b : Bool) (ss ts : List Step) → answered_after (answered_after b ss) ts ≡ answered_after b (ss ++ ts)
answered-join b [] ts = refl
answered-join b (s ∷ ss) ts = answered-join (and_told s.told b) ss ts

-- what came first, and what came then
pub tallied-join : (t : Tally) (ss ts : List Step) (fs gs : List Frame) → tallied (tallied t ss fs) ts gs ≡ tallied t (ss ++ ts) (fs ++ gs)
tallied-join t ss ts fs gs = λ i. record { replies = replies-join t.replies fs gs i; refused = refused-join t.refused fs gs i; answered = answered-join t.answered ss ts i }

-- nothing was asked or replied
pub tallied-none : (t : Tally) (ss : List Step) (o : Option Frame) → ss ≡ [] → o ≡ None → t ≡ tallied t ss (listed o)
tallied-none t ss o steps none = sym (ap (λ (xs : List Step). tallied t xs (listed o)) steps ∙ ap (λ (r : Option Frame). tallied t [] (listed r)) none)

-- there was one reply, and nothing was asked
pub tallied-reply : (t : Tally) (ss : List Step) (o : Option Frame) (f : Frame) → ss ≡ [] → o ≡ Some f → and_reply f.word t ≡ tallied t ss (listed o)
tallied-reply t ss o f steps some = sym (ap (λ (xs : List Step). tallied t xs (listed o)) steps ∙ ap (λ (r : Option Frame). tallied t [] (listed r)) some)

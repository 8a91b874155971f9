-- The table of a mirror's answers.
use Rattle.std.proofs.Common.{◌≡◌, ℕ, zero, suc, ◌+◌, ◌≤◌, ◌<◌, Bool, true, false, cond, List, [], ◌∷◌, Option, Some, None, length, refl, sym, ap, ◌∙◌, subst, arith}
use Rattle.std.specs.Prelude.{slice_get}
use Rattle.std.proofs.lemmas.Bool.{cond-false}
use Rattle.afp_base.specs.declared.code.Code.{Code}
use Rattle.afp_base.specs.declared.ids.NodeId.{NodeId}
use Rattle.afp_replies.specs.declared.reply.Reply.{Reply}
use Rattle.afp_mirror_walk.specs.Asks.{Asked, asked_at, asks, of_first, of_node}
use Rattle.afp_mirror_walk.specs.Follows.{Next, checked_from, checked_to, closed_from, closed_to, ends, ends_fork, ends_list, first_id, follows, follows_at, found_file, goes, is_ok, listed, looked, made, must, opened_from, opened_to, read_from, read_piece, read_to, read_told, refused, set_dir, set_file, shut_from, shut_to, source_at, target_at, written}
use Rattle.afp_mirror_walk.specs.Standing.{Fits, FitsChecking, FitsCopying, Standing}
use Rattle.afp_mirror_walk.specs.Table.{IsRefused, is_aside}
use Rattle.afp_mirror_walk.specs.declared.walk.ends.Side.{Side}
use Rattle.afp_mirror_walk.specs.declared.walk.ends.Side.TheVariants.{From, To}
use Rattle.afp_mirror_walk.specs.declared.walk.standing.Found.{Found}
use Rattle.afp_mirror_walk.specs.declared.walk.standing.Made.{Made}
use Rattle.afp_mirror_walk.specs.declared.walk.standing.Stage.{Stage}
use Rattle.afp_mirror_walk.specs.declared.walk.standing.Stage.TheVariants as stages

record Refuses (stage : Stage) (w : Standing) (c : Code) (reply : Reply) : Type 0 where
  asked : Asked
  next : asked_at stage w ≡ Some asked
  ended : follows_at stage w c reply ≡ ends (refused asked.side c asked.node)

-- a call that must be told Ok
not-ok : (c : Code) (side : Side) (node : NodeId) (next : Next) → is_ok c ≡ false → must c side node next ≡ ends (refused side c node)
not-ok c side node next h = cond-false (is_ok c) next (ends (refused side c node)) h

-- where the node is another's name
not-ok-at : (c : Code) (side : Side) (node other : NodeId) (next : Next) → node ≡ other → is_ok c ≡ false → must c side node next ≡ ends (refused side c other)
not-ok-at c side node other next is h = not-ok c side node next h ∙ ap (λ (n : NodeId). ends (refused side c n)) is

-- the first node of a page, and the node of an index
record HasFirst (page : List Found) : Type 0 where
  first : Found
  asks_it : (f : Found → Asked) → of_first page f ≡ Some (f first)
  id : first_id page ≡ first.id

first-there : (page : List Found) → 0 < length page → HasFirst page
first-there [] h = absurd (omega (arith, h))
first-there (f ∷ page) h = record { first = f; asks_it = λ asks. refl; id = refl }

record HasNode (nodes : List Made) (index : ℕ) : Type 0 where
  node : Made
  asks_it : (f : Made → Asked) → of_node (slice_get nodes index) f ≡ Some (f node)
  source : source_at (slice_get nodes index) ≡ node.source
  target : target_at (slice_get nodes index) ≡ node.target

node-there : (nodes : List Made) (index : ℕ) → index < length nodes → HasNode nodes index
node-there [] index h = absurd (omega (arith, h))
node-there (node ∷ nodes) zero h = record { node = node; asks_it = λ asks. refl; source = refl; target = refl }
node-there (node ∷ nodes) (suc index) h =
    let n = node-there nodes index (omega (arith, h)) in
    record { node = n.node; asks_it = n.asks_it; source = n.source; target = n.target }

refuses : (stage : Stage) (w : Standing) (c : Code) (reply : Reply) → Fits stage (length w.page) (length w.nodes) (length w.piece) → is_ok c ≡ false → is_aside stage c ≡ false → Refuses stage w c reply
unfolding looked listed made found_file opened_from opened_to read_piece written closed_from closed_to set_file set_dir checked_from checked_to read_from read_to shut_from shut_to
refuses stages.OpensSource w c reply fits h k = record { asked = _; next = refl; ended = not-ok c _ _ _ h }
refuses stages.OpensTarget w c reply fits h k = record { asked = _; next = refl; ended = not-ok c _ _ _ h }
refuses stages.Looks w c reply fits h k = record { asked = _; next = refl; ended = rw h (rw k refl) }
refuses stages.Lists w c reply fits h k = record { asked = _; next = refl; ended = rw h (rw k refl) }
refuses stages.Makes w c reply fits h k = let f = first-there w.page fits in record { asked = _; next = f.asks_it _; ended = not-ok c _ _ _ h }
refuses stages.Finds w c reply fits h k = let f = first-there w.page fits in record { asked = _; next = f.asks_it _; ended = not-ok c _ _ _ h }
refuses (stages.OpensFrom copying) w c reply fits h k = let f = first-there w.page fits.there in record { asked = _; next = f.asks_it _; ended = not-ok-at c From _ _ _ f.id h }
refuses (stages.OpensTo copying) w c reply fits h k = let f = first-there w.page fits.there in record { asked = _; next = f.asks_it _; ended = not-ok c _ _ _ h }
refuses (stages.Reads copying) w c reply fits h k = let f = first-there w.page fits.there in record { asked = _; next = f.asks_it _; ended = rw h (rw k (ap (λ (n : NodeId). ends (refused From c n)) f.id)) }
refuses (stages.Writes copying last) w c reply fits h k = record { asked = _; next = refl; ended = not-ok c _ _ _ h }
refuses (stages.ClosesFrom copying) w c reply fits h k = let f = first-there w.page fits.there in record { asked = _; next = f.asks_it _; ended = not-ok-at c From _ _ _ f.id h }
refuses (stages.ClosesTo copying) w c reply fits h k = record { asked = _; next = refl; ended = not-ok c _ _ _ h }
refuses (stages.SetsFile target) w c reply fits h k = let f = first-there w.page fits in record { asked = _; next = f.asks_it _; ended = not-ok c _ _ _ h }
refuses (stages.SetsDir index) w c reply fits h k = let n = node-there w.nodes index fits in record { asked = _; next = n.asks_it _; ended = not-ok-at c To _ _ _ n.target h }
refuses (stages.ChecksFrom checking) w c reply fits h k = let n = node-there w.nodes checking.index fits.there in record { asked = _; next = n.asks_it _; ended = not-ok-at c From _ _ _ n.source h }
refuses (stages.ChecksTo checking) w c reply fits h k = let n = node-there w.nodes checking.index fits.there in record { asked = _; next = n.asks_it _; ended = not-ok-at c To _ _ _ n.target h }
refuses (stages.ReadsFrom checking) w c reply fits h k = let n = node-there w.nodes checking.index fits.there in record { asked = _; next = n.asks_it _; ended = rw h (rw k (ap (λ (n : NodeId). ends (refused From c n)) n.source)) }
refuses (stages.ReadsTo checking last) w c reply fits h k = let n = node-there w.nodes checking.index fits.there in record { asked = _; next = n.asks_it _; ended = rw h (rw k (ap (λ (n : NodeId). ends (refused To c n)) n.target)) }
refuses (stages.ShutsFrom checking) w c reply fits h k = let n = node-there w.nodes checking.index fits.there in record { asked = _; next = n.asks_it _; ended = not-ok-at c From _ _ _ n.source h }
refuses (stages.ShutsTo checking) w c reply fits h k = let n = node-there w.nodes checking.index fits.there in record { asked = _; next = n.asks_it _; ended = not-ok-at c To _ _ _ n.target h }

pub refusals-end : (w : Standing) (c : Code) (reply : Reply) → Fits w.stage (length w.page) (length w.nodes) (length w.piece) → is_ok c ≡ false → is_aside w.stage c ≡ false → IsRefused w c reply
unfolding asks follows
refusals-end w c reply fits h k = let r = refuses w.stage w c reply fits h k in record { asked = r.asked; next = r.next; ended = r.ended }

-- How histories of tellers go on.
use Rattle.std.proofs.Common.{◌≡◌, ◌∙◌, sym, ap, ℕ, ◌+◌, ◌≤◌, List, [], ◌∷◌, ◌++◌, length, length-append, append-nil, append_assoc, Option, Some, None, inl, inr, arith}
use Rattle.afp_base.specs.declared.ids.LinkNumber.{LinkNumber}
use Rattle.afp_serial.proofs.Grows.{went-one}
use Rattle.afp_serial.specs.Shown.{Asked, Rising, Shown}
use Rattle.afp_serial.specs.Went.{Step, Went, step}
use Rattle.afp_serial.specs.declared.ask.Ask.{Ask}
use Rattle.afp_serial.specs.declared.ask.Entry.{Entry}
use Rattle.afp_serial.specs.declared.ask.Told.{Told}
use Rattle.afp_server.specs.link.Wire.{FeedPoint, FeedStart, Feeds}
use Rattle.afp_server.specs.declared.link.wire.WireEnd.{WireEnd}
use Rattle.afp_server.specs.declared.link.wire.WireEnd.TheVariants as wire_ends
use Rattle.dsi_frame.specs.Buffered.{Buffered}
use Rattle.once_across_breaks_live.specs.Steps.{WentOn}

pub rising-most : (from : ℕ) (ks : List ℕ) (n : ℕ) → Rising from ks n → from + length ks ≤ n
rising-most from [] n r = omega (arith, r)
rising-most from (k ∷ ks) n r = let more = rising-most (k + 1) ks n r.1 in omega (arith, r.0, more)

pub went-goes : (a b : Shown) (steps : List Step) → Went a steps b → WentOn a b
went-goes a b steps w = record {
  more = w.between;
  start = w.start;
  history = w.history;
  own = omega (arith, rising-most (length a.history) w.places (length b.history) w.within, ap length w.history, length-append a.history w.between, ap length w.mine, length-append a.mine w.places);
}

pub asked-goes : (a b : Shown) (now : ℕ) (link : LinkNumber) (ask : Ask) (told : Told) → Asked a now link ask told b → WentOn a b
asked-goes a b now link ask told asked = went-goes a b (step now link ask told ∷ []) (went-one a b now link ask told asked)

pub same-goes : (a b : Shown) → b ≡ a → WentOn a b
same-goes a b same = record {
  more = [];
  start = ap (λ (x : Shown). x.start) same;
  history = ap (λ (x : Shown). x.history) same ∙ sym (append-nil a.history);
  own = omega (arith, ap (λ (x : Shown). length x.mine) same);
}

pub then-goes : (a b c : Shown) → WentOn a b → WentOn b c → WentOn a c
then-goes a b c x y = record {
  more = x.more ++ y.more;
  start = y.start ∙ x.start;
  history = y.history ∙ ap (λ (h : List Entry). h ++ y.more) x.history ∙ append_assoc a.history x.more y.more;
  own = omega (arith, x.own, y.own, length-append x.more y.more);
}

pub feeds-goes : (start : FeedStart) (bytes : List ℕ) (result : Option WireEnd) (held : Buffered) (p : FeedPoint) → Feeds start bytes result held p → WentOn start.shown p.shown
feeds-goes start bytes None held p f = went-goes start.shown p.shown f.0.handled.steps f.0.handled.went
feeds-goes start bytes (Some wire_ends.Closed) held p f = went-goes start.shown p.shown f.handled.steps f.handled.went
feeds-goes start bytes (Some wire_ends.Displaced) held p f = went-goes start.shown p.shown f.handled.steps f.handled.went
feeds-goes start bytes (Some (wire_ends.Bad b)) held p (inl f) = went-goes start.shown p.shown f.handled.steps f.handled.went
feeds-goes start bytes (Some (wire_ends.Bad b)) held p (inr f) = went-goes start.shown p.shown f.handled.steps f.handled.went
feeds-goes start bytes (Some wire_ends.Memory) held p f = went-goes start.shown p.shown f.handled.steps f.handled.went

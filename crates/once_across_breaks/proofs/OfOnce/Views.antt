-- The views of the serial file server, and how asks change them, as such a server has them.
use Rattle.std.proofs.Common.{◌≡◌, refl, ℕ, Bool, true, false, cond, List, []}
use Rattle.std.specs.Prelude.{nat_eq}
use Rattle.afp_base.specs.Cached as base
use Rattle.afp_base.specs.Cached.{Request, with_kept}
use Rattle.afp_serial.specs.SessionViews as views
use Rattle.once_across_breaks.specs.once.Messages.{Command, request_of, store}
use Rattle.once_across_breaks.specs.once.Server.{adopted, detached, ended, opened, storing, swept}
use Rattle.once_across_breaks.specs.once.Serial.{newest_first, view_of}
use Rattle.once_across_breaks.proofs.OfOnce.Caches.{newest-kept, read}

emptied : (b : Bool) (c : List base.Kept) → newest_first (cond b [] c) ≡ cond b [] (newest_first c)
emptied true c = refl
emptied false c = refl

pub view-opened : (n : ℕ) (v : views.View) → view_of (views.opened n v) ≡ opened n (view_of v)
view-opened n v = λ i. record { holder = (opened n (view_of v)).holder; alive = (opened n (view_of v)).alive; cache = emptied (nat_eq v.next n) v.cache i; next = (opened n (view_of v)).next }

pub view-ended : (n : ℕ) (v : views.View) (l k : ℕ) → view_of (views.ended n v l k) ≡ ended n (view_of v) l k
view-ended n v l k = λ i. record { holder = (ended n (view_of v) l k).holder; alive = (ended n (view_of v) l k).alive; cache = emptied (nat_eq k n) v.cache i; next = v.next }

pub view-adopted : (n : ℕ) (v : views.View) (l k m : ℕ) → view_of (views.adopted n v l k m) ≡ adopted n (view_of v) l k m
view-adopted n v l k m = λ i. record { holder = (adopted n (view_of v) l k m).holder; alive = (adopted n (view_of v) l k m).alive; cache = emptied (nat_eq k n) v.cache i; next = v.next }

kept-one : (b : Bool) (c : List base.Kept) (r : Request) (a : base.Answer) → newest_first (cond b (with_kept c (record { request = r; answer = a })) c) ≡ cond b (store (newest_first c) r (read a)) (newest_first c)
kept-one true c r a = newest-kept c r a
kept-one false c r a = refl

pub view-stored : (n : ℕ) (v : views.View) (k id : ℕ) (command : Command) (a : base.Answer) → view_of (views.stored n v k (record { request = request_of id command.sent; answer = a })) ≡ storing n (view_of v) k id command (read a)
view-stored n v k id command a = λ i. record { holder = v.holder; alive = v.alive; cache = kept-one (nat_eq k n) v.cache (request_of id command.sent) a i; next = v.next }

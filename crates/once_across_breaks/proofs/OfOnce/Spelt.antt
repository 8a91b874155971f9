-- Bytes and lists of frames are one.
use Rattle.std.proofs.Common.{◌≡◌, ◌∙◌, ◌⊎◌, inl, inr, refl, sym, ap, subst, ℕ, zero, suc, ◌<◌, Bool, true, false, cond, List, [], ◌∷◌, ◌++◌, take, drop, Option, Some, None, append-nil, append_assoc, lit<}
use Rattle.std.specs.Prelude.{nat_eq, ◌||◌}
use Rattle.std.proofs.lemmas.Bool.{cases_eq}
use Rattle.once_across_breaks.specs.once.Messages.{Call, Answer, Does}
use Rattle.once_across_breaks.specs.once.Server.{set, Ask, Pulse, Bye, Lost, Told, Opened, Reply, Live, Parted, Displaced, Ran, Entry, entry, Machine, Server}
use Rattle.once_across_breaks.specs.once.Run.{Request, Opens, Asks, Slot, Idle, Coming, Going, Stage, Opening, Entering, Joining, Ready, Gone, Wait, Client, Run, Wish, Event, id_of, draws, begins, step, run_of, start}
use Rattle.once_across_breaks.specs.once.Run.{Commands as FCommands, ToServer as FToServer, ToClient as FToClient, Quiet as FQuiet, Loses as FLoses, Drains as FDrains, Ends as FEnds, Breaks as FBreaks, Others as FOthers}
use Rattle.once_across_breaks.specs.once.Once.{Allowed, AllAllowed, OnceInOrder, is_again}
use Rattle.once_across_breaks.specs.once.Frames.{Heard, heard, Tag, tag_of, Handled, handles, Taken, client_takes, Carrier, Net, ended_end, fresh_end, is_again_first, net_commands, net_handled, net_arrives, net_to_server, net_taken, net_to_client, net_breaks, net_ends, net_tells, net_quiet, net_quiet_by, net_parts, net_step, replies_of}
use Rattle.once_across_breaks.specs.once.Bytes.{AreCodecs, Codec, IsCodec, Codecs, FitsNumbered, FitsReply, own_id, seen_reply, seen_request, Line, ByteEvent, Commands, ToServer, ToClient, Quiet, Loses, Drains, Ends, Breaks, Others, spelt, spelt_reply, line_commands, line_front, line_fed, line_to_server, line_taken, line_reply, line_to_client, line_breaks, line_tells, line_ends, line_quiet_by, line_quiet, line_parts, line_step, line_run, line_start, is_again_at, LineAllowed, AllLineAllowed, LineOnce, CommandsOnceInBytes}
use Rattle.once_across_breaks.proofs.OfOnce.Steps.{upd}
use Rattle.once_across_breaks.proofs.OfOnce.Events.{set-at, set-off}
use Rattle.once_across_breaks.proofs.OfOnce.Carried.{Same, Locked, LockedAt, ups, downs, flat, cond-map, step-same, locked-start, starts-same}
use Rattle.once_across_breaks.specs.once.Fits.{IsId}
use Rattle.once_across_breaks.specs.once.UnderWay.{AllFit, AllIds}
use Rattle.once_across_breaks.proofs.OfOnce.Fitting.{Facts, Fitting, MayReply, command-fits, facts, fitting-run, fitting-start}
use Rattle.once_across_breaks.proofs.OfOnce.Theorem.{commands-once}

-- ---- how bytes stand for the frames of lists

abbrev UpOk : Codec (ℕ × Request) (ℕ × Heard) → List Request → Bool → List ℕ → List ℕ → Bool → Type 0
UpOk c [] ended held up mark = (held ≡ []) × (up ≡ [])
UpOk c (r ∷ []) ended held up mark = (last : ℕ) × IsId (own_id last r) × (held ++ up ≡ c.spell (last, r)) × (ended ≡ false → up ≡ [] → ⊥) × (mark ≡ is_again_first (r ∷ []))
UpOk c (r ∷ q ∷ rs) ended held up mark = ⊥

abbrev DownOk : Codec ((ℕ × Heard) × Answer) (Tag × Answer) → Client → List (Request × Answer) → List ℕ → List ℕ → Type 0
DownOk c client [] taken down = (taken ≡ []) × (down ≡ [])
DownOk c client (x ∷ []) taken down = (id : ℕ) × IsId id × (taken ++ down ≡ c.spell ((id, heard x.0), x.1)) × (down ≡ [] → client_takes client client.stage (tag_of (heard x.0)) x.1 ≡ None)
DownOk c client (x ∷ y ∷ zs) taken down = ⊥

abbrev made : {W : Type 0} → Net W → (ℕ → List ℕ) → (ℕ → List ℕ) → (ℕ → List ℕ) → (ℕ → Bool) → List ℕ → Line W
made net up held down marks taken = record { client = net.client; top = net.top; ends = λ j. (net.links j).end; world = net.world; history = net.history; up = up; held = held; down = down; again = marks; taken = taken }

record Spells {W : Type 0} (c : Codecs) (net : Net W) (up held down : ℕ → List ℕ) (marks : ℕ → Bool) (taken : List ℕ) : Type 0 where
  ups_ok : (j : ℕ) → UpOk c.up (net.links j).up (net.links j).end.ended (held j) (up j) (marks j)
  down_ok : DownOk c.down net.client (net.links net.top).down taken (down net.top)

record Rel {W : Type 0} (c : Codecs) (run : Run W) (x : Line W) : Type 0 where
  locked : Locked run
  up : ℕ → List ℕ
  held : ℕ → List ℕ
  down : ℕ → List ℕ
  marks : ℕ → Bool
  taken : List ℕ
  is : x ≡ made (flat run) up held down marks taken
  ok : Spells c (flat run) up held down marks taken

-- an event of bytes is one of frames, or none
record Res {W : Type 0} (c : Codecs) (s : Machine W) (n : ℕ) (run : Run W) (x : Line W) : Type 0 where
  events : List Event
  allowed : AllAllowed s n run events
  next : Rel c (run_of s run events) x

res-none : {W : Type 0} (c : Codecs) (s : Machine W) (n : ℕ) (run : Run W) (x : Line W) (up held down : ℕ → List ℕ) (marks : ℕ → Bool) (taken : List ℕ) → Locked run → x ≡ made (flat run) up held down marks taken → Spells c (flat run) up held down marks taken → Res c s n run x
res-none c s n run x up held down marks taken l is ok = record { events = []; allowed = tt; next = record { locked = l; up = up; held = held; down = down; marks = marks; taken = taken; is = is; ok = ok } }

res-one : {W : Type 0} (c : Codecs) (s : Machine W) (n : ℕ) (run : Run W) (x : Line W) (e : Event) (net : Net W) (up held down : ℕ → List ℕ) (marks : ℕ → Bool) (taken : List ℕ)
    → Allowed s n run e → Same (step s run e) net → x ≡ made net up held down marks taken → Spells c net up held down marks taken → x.client.row < 1900 → Res c s n run x
res-one {W} c s n run x e net up held down marks taken ok same is spells less =
    let now : x ≡ made (flat (step s run e)) up held down marks taken = is ∙ ap (λ y. made y up held down marks taken) (sym same.same) in
    record {
      events = e ∷ [];
      allowed = (ok, subst (λ (y : Line W). y.client.row < 1900) now less, tt);
      next = record { locked = same.locked; up = up; held = held; down = down; marks = marks; taken = taken; is = now; ok = subst (λ y. Spells c y up held down marks taken) (sym same.same) spells };
    }

-- ---- lists and codecs

split : (n : ℕ) (xs : List ℕ) → take n xs ++ drop n xs ≡ xs
split zero xs = refl
split (suc n) [] = refl
split (suc n) (x ∷ xs) = ap (λ ys. x ∷ ys) (split n xs)

take-none : (n : ℕ) (xs : List ℕ) → xs ≡ [] → take n xs ≡ []
take-none zero xs e = refl
take-none (suc n) [] e = refl
take-none (suc n) (x ∷ xs) e = absurd (cc)

drop-none : (n : ℕ) (xs : List ℕ) → xs ≡ [] → drop n xs ≡ []
drop-none zero xs e = e
drop-none (suc n) [] e = refl
drop-none (suc n) (x ∷ xs) e = absurd (cc)

moved : (n : ℕ) (held up all : List ℕ) → held ++ up ≡ all → (held ++ take n up) ++ drop n up ≡ all
moved n held up all e = append_assoc held (take n up) (drop n up) ∙ ap (λ ys. held ++ ys) (split n up) ∙ e

spell-some : {F G : Type 0} (Fits : F → Type 0) (seen : F → G) (c : Codec F G) → IsCodec Fits seen c → (f : F) → Fits f → c.spell f ≡ [] → ⊥
spell-some Fits seen c ok f fits e = absurd (let g : None ≡ Some (seen f, []) = sym ok.nothing ∙ ap c.front (sym e) ∙ ok.whole f fits in cc)

none-or : (xs : List ℕ) → (xs ≡ []) ⊎ (xs ≡ [] → ⊥)
none-or [] = inl refl
none-or (x ∷ xs) = inr (λ e. absurd (cc))

-- what is held is whole, or no first part
front-whole : {F G : Type 0} (Fits : F → Type 0) (seen : F → G) (c : Codec F G) → IsCodec Fits seen c → (f : F) (holds under : List ℕ) → Fits f → holds ++ under ≡ c.spell f → under ≡ [] → c.front holds ≡ Some (seen f, [])
front-whole Fits seen c ok f holds under fits e none = ap c.front (sym (append-nil holds) ∙ ap (λ ys. holds ++ ys) (sym none) ∙ e) ∙ ok.whole f fits

up-write : (c : Codec (ℕ × Request) (ℕ × Heard)) → IsCodec FitsNumbered seen_request c → (us : List Request) (last : ℕ) (r : Request) (ended : Bool) (held up : List ℕ) (mark : Bool) → FitsNumbered (last, r) → us ≡ [] → UpOk c us ended held up mark → UpOk c (us ++ r ∷ []) ended held (up ++ c.spell (last, r)) (is_again_first (r ∷ []))
up-write c codec [] last r ended held up mark fits e ok = (last, fits.0, (λ i. ok.0 i ++ (ok.1 i ++ c.spell (last, r))), (λ f g. spell-some FitsNumbered seen_request c codec (last, r) fits ((λ i. sym ok.1 i ++ c.spell (last, r)) ∙ g)), refl)
up-write c codec (u ∷ us) last r ended held up mark fits e ok = absurd (cc)

down-idle : (c : Codec ((ℕ × Heard) × Answer) (Tag × Answer)) (client next : Client) (ds : List (Request × Answer)) (taken down : List ℕ) → ds ≡ [] → DownOk c client ds taken down → DownOk c next ds taken down
down-idle c client next [] taken down e ok = ok
down-idle c client next (x ∷ xs) taken down e ok = absurd (cc)

up-ended : (c : Codec (ℕ × Request) (ℕ × Heard)) (us : List Request) (ended : Bool) (held up : List ℕ) (mark : Bool) → UpOk c us ended held up mark → UpOk c us true held up mark
up-ended c [] ended held up mark ok = ok
up-ended c (r ∷ []) ended held up mark ok = (ok.0, ok.1, ok.2, (λ f. absurd (cc)), ok.4)
up-ended c (r ∷ q ∷ rs) ended held up mark ok = ok

-- an end of a link in both
end-set : (links : ℕ → Carrier) (i : ℕ) (c : Carrier) (j : ℕ) → set (λ k. (links k).end) i c.end j ≡ (set links i c j).end
end-set links i c j = sym (cond-map (λ (y : Carrier). y.end) (nat_eq j i) c (links j))

end-kept : (links : ℕ → Carrier) (i : ℕ) (c : Carrier) → c.end ≡ (links i).end → (j : ℕ) → (links j).end ≡ (set links i c j).end
end-kept links i c e j = sym (upd links i c (λ k y. y.end ≡ (links k).end) e (λ k other. refl) j)

-- ---- the client asks

commands-res : {W : Type 0} (c : Codecs) (s : Machine W) (n : ℕ) (run : Run W) (up held down : ℕ → List ℕ) (marks : ℕ → Bool) (taken : List ℕ) (stage : Stage) (wait : Option Wait) (call : Call)
    → IsCodec FitsNumbered seen_request c.up → run.client.stage ≡ stage → run.client.wait ≡ wait → Locked run → Spells c (flat run) up held down marks taken
    → (line_commands c (made (flat run) up held down marks taken) stage wait call).client.row < 1900
    → Res c s n run (line_commands c (made (flat run) up held down marks taken) stage wait call)
commands-res {W} c s n run up held down marks taken Ready None call codec ready none l ok less =
    let idle : (run.links run.top).slot ≡ Idle = subst (λ (y : Stage × Option Wait). LockedAt y.0 y.1 (run.links run.top).slot) (λ k. (ready k, none k)) l in
    let r : Request = Asks (id_of run.client.first run.client.drawn) (Does call) false in
    let cell : Carrier = record { end = ((flat run).links run.top).end; up = ((flat run).links run.top).up ++ r ∷ []; down = ((flat run).links run.top).down } in
    let same = step-same s run (FCommands call) l in
    res-one c s n run (line_commands c (made (flat run) up held down marks taken) Ready None call) (FCommands call) (net_commands (flat run) Ready None call)
    (set up run.top (up run.top ++ c.up.spell (run.client.opening_id, r))) held down (set marks run.top false) taken tt
    (record { same = same.same ∙ (λ k. net_commands (flat run) (ready k) (none k) call); locked = same.locked })
    (λ k. record { client = draws run.client call 0 run.client.row run.client.results; top = run.top; ends = λ j. end-kept (flat run).links run.top cell refl j k; world = run.world; history = run.history; up = set up run.top (up run.top ++ c.up.spell (run.client.opening_id, r)); held = held; down = down; again = set marks run.top false; taken = taken })
    (record {
      ups_ok = λ j. elim (cases_eq j run.top) [
        | inl at_top ↦ subst (λ (y : Carrier × List ℕ × ℕ × Bool). UpOk c.up y.0.up y.0.end.ended (held y.2) y.1 y.3) (λ k. (sym (set-at (flat run).links run.top cell j at_top) k, sym (set-at up run.top (up run.top ++ c.up.spell (run.client.opening_id, r)) j at_top) k, sym at_top k, sym (set-at marks run.top false j at_top) k))
            (up-write c.up codec (ups (run.links run.top).slot) run.client.opening_id r (run.links run.top).ended (held run.top) (up run.top) (marks run.top) ((command-fits run.client.first run.client.drawn call).0, command-fits run.client.first run.client.drawn call) (ap ups idle) (ok.ups_ok run.top))
        | inr off ↦ subst (λ (y : Carrier × List ℕ × Bool). UpOk c.up y.0.up y.0.end.ended (held j) y.1 y.2) (λ k. (sym (set-off (flat run).links run.top cell j off) k, sym (set-off up run.top (up run.top ++ c.up.spell (run.client.opening_id, r)) j off) k, sym (set-off marks run.top false j off) k)) (ok.ups_ok j)
      ];
      down_ok = subst (λ (y : Carrier). DownOk c.down (draws run.client call 0 run.client.row run.client.results) y.down taken (down run.top)) (sym (set-at (flat run).links run.top cell run.top refl))
          (down-idle c.down run.client (draws run.client call 0 run.client.row run.client.results) (downs (run.links run.top).slot) taken (down run.top) (ap downs idle) ok.down_ok);
    }) less
commands-res c s n run up held down marks taken Ready (Some w) call codec ready waits l ok less = res-none c s n run (made (flat run) up held down marks taken) up held down marks taken l refl ok
commands-res c s n run up held down marks taken Opening wait call codec is waits l ok less = res-none c s n run (made (flat run) up held down marks taken) up held down marks taken l refl ok
commands-res c s n run up held down marks taken Entering wait call codec is waits l ok less = res-none c s n run (made (flat run) up held down marks taken) up held down marks taken l refl ok
commands-res c s n run up held down marks taken Joining wait call codec is waits l ok less = res-none c s n run (made (flat run) up held down marks taken) up held down marks taken l refl ok
commands-res c s n run up held down marks taken Gone wait call codec is waits l ok less = res-none c s n run (made (flat run) up held down marks taken) up held down marks taken l refl ok

-- ---- bytes reach a server end

spells-at : {W : Type 0} (c : Codecs) (net : Net W) (up held down : ℕ → List ℕ) (marks : ℕ → Bool) (taken holds under : List ℕ) (i : ℕ) → UpOk c.up (net.links i).up (net.links i).end.ended holds under (marks i) → Spells c net up held down marks taken → Spells c net (set up i under) (set held i holds) down marks taken
spells-at c net up held down marks taken holds under i here ok =
    record {
      ups_ok = λ j. elim (cases_eq j i) [
        | inl at_i ↦ subst (λ (y : ℕ × List ℕ × List ℕ). UpOk c.up (net.links y.0).up (net.links y.0).end.ended y.1 y.2 (marks y.0)) (λ k. (sym at_i k, sym (set-at held i holds j at_i) k, sym (set-at up i under j at_i) k)) here
        | inr off ↦ subst (λ (y : List ℕ × List ℕ). UpOk c.up (net.links j).up (net.links j).end.ended y.0 y.1 (marks j)) (λ k. (sym (set-off held i holds j off) k, sym (set-off up i under j off) k)) (ok.ups_ok j)
      ];
      down_ok = ok.down_ok;
    }

reply-ok : (c : Codec ((ℕ × Heard) × Answer) (Tag × Answer)) → IsCodec FitsReply seen_reply c → (client : Client) (id : ℕ) (r : Request) (o : Option Answer) (ds : List (Request × Answer)) (taken down : List ℕ) → IsId id → MayReply (heard r) o → ds ≡ [] → DownOk c client ds taken down → DownOk c client (ds ++ replies_of r o) taken (down ++ spelt_reply c (id, heard r) o)
reply-ok c codec client id r None [] taken down small fits e ok = (ok.0, append-nil down ∙ ok.1)
reply-ok c codec client id r (Some a) [] taken down small fits e ok = (id, small, (λ i. ok.0 i ++ (ok.1 i ++ c.spell ((id, heard r), a))), λ f. absurd (spell-some FitsReply seen_reply c codec ((id, heard r), a) (small, fits) ((λ i. sym ok.1 i ++ c.spell ((id, heard r), a)) ∙ f)))
reply-ok c codec client id r o (x ∷ xs) taken down small fits e ok = absurd (cc)

again-of : (r : Request) → is_again_first (r ∷ []) ≡ is_again (Coming r)
again-of Opens = refl
again-of (Asks id body again) = refl

record Fed {W : Type 0} (c : Codecs) (s : Machine W) (n : ℕ) (run : Run W) (up held down : ℕ → List ℕ) (marks : ℕ → Bool) (taken : List ℕ) (i moment : ℕ) (wish : Wish) (holds under : List ℕ) : Type 0 where
  locked : Locked run
  ok : Spells c (flat run) up held down marks taken
  stands : (run.links i).ended ≡ false
  first : wish.memory ≡ true → is_again_at (c.up.front holds) (marks i) ≡ false
  less : (line_fed c s (made (flat run) up held down marks taken) i moment wish holds under).client.row < 1900

stale : {W : Type 0} (c : Codecs) (s : Machine W) (n : ℕ) (run : Run W) (up held down : ℕ → List ℕ) (marks : ℕ → Bool) (taken : List ℕ) (i moment : ℕ) (wish : Wish) (holds under : List ℕ) → Fed c s n run up held down marks taken i moment wish holds under
    → c.up.front holds ≡ None → UpOk c.up (ups (run.links i).slot) (run.links i).ended holds under (marks i) → Res c s n run (line_fed c s (made (flat run) up held down marks taken) i moment wish holds under)
stale c s n run up held down marks taken i moment wish holds under f none here =
    res-none c s n run (line_fed c s (made (flat run) up held down marks taken) i moment wish holds under) (set up i under) (set held i holds) down marks taken f.locked
    (ap (λ o. line_front c s (made (flat run) up held down marks taken) i moment wish holds under o) none)
    (spells-at c (flat run) up held down marks taken holds under i here f.ok)

whole : {W : Type 0} (c : Codecs) (s : Machine W) (n : ℕ) (run : Run W) (up held down : ℕ → List ℕ) (marks : ℕ → Bool) (taken : List ℕ) (i moment : ℕ) (wish : Wish) (holds under : List ℕ) (last : ℕ) (r : Request) → IsId (own_id last r) → IsCodec FitsReply seen_reply c.down → Facts s run → Fed c s n run up held down marks taken i moment wish holds under
    → (run.links i).slot ≡ Coming r → c.up.front holds ≡ Some ((own_id last r, heard r), []) → under ≡ [] → marks i ≡ is_again_first (r ∷ []) → Res c s n run (line_fed c s (made (flat run) up held down marks taken) i moment wish holds under)
whole {W} c s n run up held down marks taken i moment wish holds under last r small codec fits f coming front none mark =
    res-one c s n run (line_fed c s (made (flat run) up held down marks taken) i moment wish holds under) (FToServer i moment wish) net (set up i under) (set held i []) down' marks taken
    (λ memory stands. ap is_again coming ∙ sym (again-of r) ∙ sym mark ∙ ap (λ o. is_again_at o (marks i)) (sym front) ∙ f.first memory)
    (record {
      same = same.same ∙ (λ k. net_to_server s (flat run) i moment wish (f.stands k)) ∙ (λ k. net_arrives s (flat run) i moment wish (ups (coming k)));
      locked = same.locked;
    })
    (ap (λ o. line_front c s (made (flat run) up held down marks taken) i moment wish holds under o) front
    ∙ (λ k. record { client = run.client; top = run.top; ends = λ j. end-set (flat run).links i cell j k; world = h.world; history = run.history ++ h.entries; up = set up i under; held = set held i []; down = down'; again = marks; taken = taken }))
    (record {
      ups_ok = λ j. elim (cases_eq j i) [
        | inl at_i ↦ subst (λ (y : Carrier × List ℕ × List ℕ). UpOk c.up y.0.up y.0.end.ended y.1 y.2 (marks j)) (λ k. (sym (set-at (flat run).links i cell j at_i) k, sym (set-at held i [] j at_i) k, sym (set-at up i under j at_i) k)) (refl, none)
        | inr off ↦ subst (λ (y : Carrier × List ℕ × List ℕ). UpOk c.up y.0.up y.0.end.ended y.1 y.2 (marks j)) (λ k. (sym (set-off (flat run).links i cell j off) k, sym (set-off held i [] j off) k, sym (set-off up i under j off) k)) (f.ok.ups_ok j)
      ];
      down_ok = elim (cases_eq run.top i) [
        | inl at_i ↦ subst (λ (y : Carrier × List ℕ). DownOk c.down run.client y.0.down taken y.1) (λ k. (sym (set-at (flat run).links i cell run.top at_i) k, sym (set-at down i (down i ++ spelt_reply c.down (own_id last r, heard r) h.reply) run.top at_i) k))
            (reply-ok c.down codec run.client (own_id last r) r h.reply (downs (run.links i).slot) taken (down i) small (fits.replies_fit i moment wish r coming) (ap downs coming) (subst (λ m. DownOk c.down run.client (downs (run.links m).slot) taken (down m)) at_i f.ok.down_ok))
        | inr off ↦ subst (λ (y : Carrier × List ℕ). DownOk c.down run.client y.0.down taken y.1) (λ k. (sym (set-off (flat run).links i cell run.top off) k, sym (set-off down i (down i ++ spelt_reply c.down (own_id last r, heard r) h.reply) run.top off) k)) f.ok.down_ok
      ];
    }) f.less
  where
    h : Handled W
    h = handles s run.world moment wish ((flat run).links i).end ((flat run).links i).end.number (heard r)

    net : Net W
    net = net_handled (flat run) i r [] h

    cell : Carrier
    cell = record { end = h.end; up = []; down = downs (run.links i).slot ++ replies_of r h.reply }

    down' : ℕ → List ℕ
    down' = set down i (down i ++ spelt_reply c.down (own_id last r, heard r) h.reply)

    same : Same (step s run (FToServer i moment wish)) (net_to_server s (flat run) i moment wish (run.links i).ended)
    same = step-same s run (FToServer i moment wish) f.locked

fed-res : {W : Type 0} (c : Codecs) (s : Machine W) (n : ℕ) (run : Run W) (up held down : ℕ → List ℕ) (marks : ℕ → Bool) (taken : List ℕ) (i k moment : ℕ) (wish : Wish) (slot : Slot) → AreCodecs c → Facts s run → (run.links i).slot ≡ slot
    → Fed c s n run up held down marks taken i moment wish (held i ++ take k (up i)) (drop k (up i))
    → UpOk c.up (ups slot) (run.links i).ended (held i) (up i) (marks i)
    → Res c s n run (line_fed c s (made (flat run) up held down marks taken) i moment wish (held i ++ take k (up i)) (drop k (up i)))
fed-res c s n run up held down marks taken i k moment wish Idle codecs fits is f ok =
    let none : held i ++ take k (up i) ≡ [] = λ m. ok.0 m ++ take-none k (up i) ok.1 m in
    stale c s n run up held down marks taken i moment wish (held i ++ take k (up i)) (drop k (up i)) f (ap c.up.front none ∙ codecs.up.nothing) (subst (λ sl. UpOk c.up (ups sl) (run.links i).ended (held i ++ take k (up i)) (drop k (up i)) (marks i)) (sym is) (none, drop-none k (up i) ok.1))
fed-res c s n run up held down marks taken i k moment wish (Going r a) codecs fits is f ok =
    let none : held i ++ take k (up i) ≡ [] = λ m. ok.0 m ++ take-none k (up i) ok.1 m in
    stale c s n run up held down marks taken i moment wish (held i ++ take k (up i)) (drop k (up i)) f (ap c.up.front none ∙ codecs.up.nothing) (subst (λ sl. UpOk c.up (ups sl) (run.links i).ended (held i ++ take k (up i)) (drop k (up i)) (marks i)) (sym is) (none, drop-none k (up i) ok.1))
fed-res c s n run up held down marks taken i k moment wish (Coming r) codecs fits is f ok =
    let all : (held i ++ take k (up i)) ++ drop k (up i) ≡ c.up.spell (ok.0, r) = moved k (held i) (up i) (c.up.spell (ok.0, r)) ok.2 in
    let fit : FitsNumbered (ok.0, r) = (ok.1, fits.ups_fit i r is) in
    elim (none-or (drop k (up i))) [
      | inl none ↦ whole c s n run up held down marks taken i moment wish (held i ++ take k (up i)) (drop k (up i)) ok.0 r ok.1 codecs.down fits f is (front-whole FitsNumbered seen_request c.up codecs.up (ok.0, r) (held i ++ take k (up i)) (drop k (up i)) fit all none) none ok.4
      | inr some ↦ stale c s n run up held down marks taken i moment wish (held i ++ take k (up i)) (drop k (up i)) f (codecs.up.part (ok.0, r) (held i ++ take k (up i)) (drop k (up i)) fit all some) (subst (λ sl. UpOk c.up (ups sl) (run.links i).ended (held i ++ take k (up i)) (drop k (up i)) (marks i)) (sym is) (ok.0, ok.1, all, (λ e. some), ok.4))
    ]

to-server-res : {W : Type 0} (c : Codecs) (s : Machine W) (n : ℕ) (run : Run W) (up held down : ℕ → List ℕ) (marks : ℕ → Bool) (taken : List ℕ) (i k moment : ℕ) (wish : Wish) (ended : Bool) → AreCodecs c → Facts s run → (run.links i).ended ≡ ended → Locked run → Spells c (flat run) up held down marks taken
    → (wish.memory ≡ true → (run.links i).ended ≡ false → is_again_at (c.up.front (held i ++ take k (up i))) (marks i) ≡ false)
    → (line_to_server c s (made (flat run) up held down marks taken) i k moment wish ended).client.row < 1900
    → Res c s n run (line_to_server c s (made (flat run) up held down marks taken) i k moment wish ended)
to-server-res c s n run up held down marks taken i k moment wish true codecs fits is l ok first less = res-none c s n run (made (flat run) up held down marks taken) up held down marks taken l refl ok
to-server-res c s n run up held down marks taken i k moment wish false codecs fits is l ok first less =
    fed-res c s n run up held down marks taken i k moment wish (run.links i).slot codecs fits refl (record { locked = l; ok = ok; stands = is; first = λ e. first e is; less = less }) (ok.ups_ok i)

-- ---- bytes reach the client

writes-ok : (c : Codec (ℕ × Request) (ℕ × Heard)) → IsCodec FitsNumbered seen_request c → (us : List Request) (last : ℕ) (ws : List Request) (ended : Bool) (held up : List ℕ) (mark : Bool) → AllFit ws × AllIds last ws → us ≡ [] → ((a b : Request) (cs : List Request) → us ++ ws ≡ a ∷ b ∷ cs → ⊥) → UpOk c us ended held up mark → UpOk c (us ++ ws) ended held (up ++ spelt c last ws) (is_again_first ws)
writes-ok c codec [] last [] ended held up mark fits e short ok = (ok.0, append-nil up ∙ ok.1)
writes-ok c codec [] last (r ∷ []) ended held up mark fits e short ok = (
  last,
  fits.1.0,
  (λ i. ok.0 i ++ (ok.1 i ++ (c.spell (last, r) ++ []))) ∙ append-nil (c.spell (last, r)),
  (λ f g. absurd (spell-some FitsNumbered seen_request c codec (last, r) (fits.1.0, fits.0.0) (sym (append-nil (c.spell (last, r))) ∙ (λ i. sym ok.1 i ++ (c.spell (last, r) ++ [])) ∙ g))),
  refl,
)
writes-ok c codec [] last (r ∷ q ∷ rs) ended held up mark fits e short ok = absurd (short r q rs refl)
writes-ok c codec (u ∷ us) last ws ended held up mark fits e short ok = absurd (cc)

short-ups : (slot : Slot) (a b : Request) (cs : List Request) → ups slot ≡ a ∷ b ∷ cs → ⊥
short-ups Idle a b cs e = absurd (cc)
short-ups (Coming r) a b cs e = absurd (cc)
short-ups (Going r x) a b cs e = absurd (cc)

spells-down : {W : Type 0} (c : Codecs) (net : Net W) (up held down : ℕ → List ℕ) (marks : ℕ → Bool) (taken holds under : List ℕ) → DownOk c.down net.client (net.links net.top).down holds under → Spells c net up held down marks taken → Spells c net up held (set down net.top under) marks holds
spells-down c net up held down marks taken holds under here ok = record { ups_ok = ok.ups_ok; down_ok = subst (λ y. DownOk c.down net.client (net.links net.top).down holds y) (sym (set-at down net.top under net.top refl)) here }

taken-res : {W : Type 0} (c : Codecs) (s : Machine W) (n : ℕ) (run : Run W) (up held down : ℕ → List ℕ) (marks : ℕ → Bool) (taken holds under : List ℕ) (id : ℕ) (r : Request) (a : Answer) (t : Option Taken) → IsId id → IsCodec FitsNumbered seen_request c.up → Facts s run → Locked run → Spells c (flat run) up held down marks taken
    → (run.links run.top).slot ≡ Going r a → client_takes run.client run.client.stage (tag_of (heard r)) a ≡ t → holds ++ under ≡ c.down.spell ((id, heard r), a) → under ≡ []
    → (line_taken c (made (flat run) up held down marks taken) holds [] under t).client.row < 1900
    → Res c s n run (line_taken c (made (flat run) up held down marks taken) holds [] under t)
taken-res c s n run up held down marks taken holds under id r a None small codec fits l ok going is all none less =
    res-none c s n run (line_taken c (made (flat run) up held down marks taken) holds [] under None) up held (set down run.top under) marks holds l refl
    (spells-down c (flat run) up held down marks taken holds under (subst (λ sl. DownOk c.down run.client (downs sl) holds under) (sym going) (id, small, all, λ e. is)) ok)
taken-res {W} c s n run up held down marks taken holds under id r a (Some t) small codec fits l ok going is all none less =
    res-one c s n run (line_taken c (made (flat run) up held down marks taken) holds [] under (Some t)) FToClient net up' held (set down run.top under) marks' [] tt
    (record { same = same_is; locked = same.locked })
    (λ k. record { client = t.client; top = run.top; ends = λ j. end-set (flat run).links run.top cell j k; world = run.world; history = run.history; up = up'; held = held; down = set down run.top under; again = marks'; taken = [] })
    (record {
      ups_ok = λ j. elim (cases_eq j run.top) [
        | inl at_top ↦ subst (λ (y : Carrier × List ℕ × ℕ × Bool). UpOk c.up y.0.up y.0.end.ended (held y.2) y.1 y.3) (λ k. (sym (set-at (flat run).links run.top cell j at_top) k, sym (set-at up run.top (up run.top ++ spelt c.up t.client.opening_id t.writes) j at_top) k, sym at_top k, sym (set-at marks run.top (is_again_first t.writes) j at_top) k))
            (writes-ok c.up codec (ups (run.links run.top).slot) t.client.opening_id t.writes (run.links run.top).ended (held run.top) (up run.top) (marks run.top) (fits.writes_fit (tag_of (heard r)) a t is) (ap ups going)
            (λ p q rs e. short-ups ((step s run FToClient).links run.top).slot p q rs (ap (λ (y : Net W). (y.links run.top).up) same_is ∙ ap (λ (y : Carrier). y.up) (set-at (flat run).links run.top cell run.top refl) ∙ e))
            (ok.ups_ok run.top))
        | inr off ↦ subst (λ (y : Carrier × List ℕ × Bool). UpOk c.up y.0.up y.0.end.ended (held j) y.1 y.2) (λ k. (sym (set-off (flat run).links run.top cell j off) k, sym (set-off up run.top (up run.top ++ spelt c.up t.client.opening_id t.writes) j off) k, sym (set-off marks run.top (is_again_first t.writes) j off) k)) (ok.ups_ok j)
      ];
      down_ok = subst (λ (y : Carrier × List ℕ). DownOk c.down t.client y.0.down [] y.1) (λ k. (sym (set-at (flat run).links run.top cell run.top refl) k, sym (set-at down run.top under run.top refl) k)) (refl, none);
    }) less
  where
    cell : Carrier
    cell = record { end = record { number = (run.links run.top).number; ended = (run.links run.top).ended; got = (run.links run.top).got || t.got }; up = ups (run.links run.top).slot ++ t.writes; down = [] }

    net : Net W
    net = net_taken (flat run) [] (Some t)

    up' : ℕ → List ℕ
    up' = set up run.top (up run.top ++ spelt c.up t.client.opening_id t.writes)

    marks' : ℕ → Bool
    marks' = set marks run.top (is_again_first t.writes)

    same : Same (step s run FToClient) (net_to_client (flat run) (downs (run.links run.top).slot))
    same = step-same s run FToClient l

    same_is : flat (step s run FToClient) ≡ net
    same_is = same.same ∙ (λ k. net_to_client (flat run) (downs (going k))) ∙ (λ k. net_taken (flat run) [] (is k))

to-client-res : {W : Type 0} (c : Codecs) (s : Machine W) (n : ℕ) (run : Run W) (up held down : ℕ → List ℕ) (marks : ℕ → Bool) (taken : List ℕ) (k : ℕ) (slot : Slot) → AreCodecs c → Facts s run → (run.links run.top).slot ≡ slot → Locked run → Spells c (flat run) up held down marks taken
    → DownOk c.down run.client (downs slot) taken (down run.top)
    → (line_to_client c (made (flat run) up held down marks taken) (taken ++ take k (down run.top)) (drop k (down run.top))).client.row < 1900
    → Res c s n run (line_to_client c (made (flat run) up held down marks taken) (taken ++ take k (down run.top)) (drop k (down run.top)))
to-client-res c s n run up held down marks taken k Idle codecs fits is l ok down_ok less =
    let none : taken ++ take k (down run.top) ≡ [] = λ m. down_ok.0 m ++ take-none k (down run.top) down_ok.1 m in
    res-none c s n run (line_to_client c (made (flat run) up held down marks taken) (taken ++ take k (down run.top)) (drop k (down run.top))) up held (set down run.top (drop k (down run.top))) marks (taken ++ take k (down run.top)) l
    (ap (λ o. line_reply c (made (flat run) up held down marks taken) (taken ++ take k (down run.top)) (drop k (down run.top)) o) (ap c.down.front none ∙ codecs.down.nothing))
    (spells-down c (flat run) up held down marks taken (taken ++ take k (down run.top)) (drop k (down run.top)) (subst (λ sl. DownOk c.down run.client (downs sl) (taken ++ take k (down run.top)) (drop k (down run.top))) (sym is) (none, drop-none k (down run.top) down_ok.1)) ok)
to-client-res c s n run up held down marks taken k (Coming r) codecs fits is l ok down_ok less =
    let none : taken ++ take k (down run.top) ≡ [] = λ m. down_ok.0 m ++ take-none k (down run.top) down_ok.1 m in
    res-none c s n run (line_to_client c (made (flat run) up held down marks taken) (taken ++ take k (down run.top)) (drop k (down run.top))) up held (set down run.top (drop k (down run.top))) marks (taken ++ take k (down run.top)) l
    (ap (λ o. line_reply c (made (flat run) up held down marks taken) (taken ++ take k (down run.top)) (drop k (down run.top)) o) (ap c.down.front none ∙ codecs.down.nothing))
    (spells-down c (flat run) up held down marks taken (taken ++ take k (down run.top)) (drop k (down run.top)) (subst (λ sl. DownOk c.down run.client (downs sl) (taken ++ take k (down run.top)) (drop k (down run.top))) (sym is) (none, drop-none k (down run.top) down_ok.1)) ok)
to-client-res {W} c s n run up held down marks taken k (Going r a) codecs fits is l ok down_ok less =
    let holds : List ℕ = taken ++ take k (down run.top) in
    let under : List ℕ = drop k (down run.top) in
    let all : holds ++ under ≡ c.down.spell ((down_ok.0, heard r), a) = moved k taken (down run.top) (c.down.spell ((down_ok.0, heard r), a)) down_ok.2 in
    let fit : FitsReply ((down_ok.0, heard r), a) = (down_ok.1, fits.downs_fit run.top r a is) in
    elim (none-or under) [
      | inl none ↦
          let path : line_to_client c (made (flat run) up held down marks taken) holds under ≡ line_taken c (made (flat run) up held down marks taken) holds [] under (client_takes run.client run.client.stage (tag_of (heard r)) a) = ap (λ o. line_reply c (made (flat run) up held down marks taken) holds under o) (front-whole FitsReply seen_reply c.down codecs.down ((down_ok.0, heard r), a) holds under fit all none) in
          subst (Res c s n run) (sym path) (taken-res c s n run up held down marks taken holds under down_ok.0 r a (client_takes run.client run.client.stage (tag_of (heard r)) a) down_ok.1 codecs.up fits l ok is refl all none (subst (λ (y : Line W). y.client.row < 1900) path less))
      | inr some ↦
          res-none c s n run (line_to_client c (made (flat run) up held down marks taken) holds under) up held (set down run.top under) marks holds l
          (ap (λ o. line_reply c (made (flat run) up held down marks taken) holds under o) (codecs.down.part ((down_ok.0, heard r), a) holds under fit all some))
          (spells-down c (flat run) up held down marks taken holds under (subst (λ sl. DownOk c.down run.client (downs sl) holds under) (sym is) (down_ok.0, down_ok.1, all, λ e. absurd (some e))) ok)
    ]

-- ---- all else moves no bytes

-- the same bytes over another net
record Goes {W : Type 0} (c : Codecs) (net : Net W) (x : Line W) (up held down : ℕ → List ℕ) (marks : ℕ → Bool) (taken : List ℕ) : Type 0 where
  is : x ≡ made net up held down marks taken
  ok : Spells c net up held down marks taken

goes-ends : {W : Type 0} (c : Codecs) (net : Net W) (up held down : ℕ → List ℕ) (marks : ℕ → Bool) (taken : List ℕ) (i : ℕ) → Spells c net up held down marks taken → Goes c (net_ends net i) (line_ends (made net up held down marks taken) i) up held down marks taken
goes-ends c net up held down marks taken i ok =
    let cell : Carrier = record { end = ended_end (net.links i).end; up = (net.links i).up; down = (net.links i).down } in
    record {
      is = λ k. record { client = net.client; top = net.top; ends = λ j. end-set net.links i cell j k; world = net.world; history = net.history; up = up; held = held; down = down; again = marks; taken = taken };
      ok = record {
        ups_ok = upd net.links i cell (λ j y. UpOk c.up y.up y.end.ended (held j) (up j) (marks j)) (up-ended c.up (net.links i).up (net.links i).end.ended (held i) (up i) (marks i) (ok.ups_ok i)) (λ j other. ok.ups_ok j);
        down_ok = upd net.links i cell (λ j y. j ≡ net.top → DownOk c.down net.client y.down taken (down net.top))
            (λ e. subst (λ m. DownOk c.down net.client (net.links m).down taken (down net.top)) (sym e) ok.down_ok) (λ j other e. subst (λ m. DownOk c.down net.client (net.links m).down taken (down net.top)) (sym e) ok.down_ok) net.top refl;
      };
    }

goes-same : {W : Type 0} (c : Codecs) (net : Net W) (up held down : ℕ → List ℕ) (marks : ℕ → Bool) (taken : List ℕ) → Spells c net up held down marks taken → Goes c net (made net up held down marks taken) up held down marks taken
goes-same c net up held down marks taken ok = record { is = refl; ok = ok }

spells-tells : {W : Type 0} (c : Codecs) (s : Machine W) (net : Net W) (e : Entry) (up held down : ℕ → List ℕ) (marks : ℕ → Bool) (taken : List ℕ) → Spells c net up held down marks taken → Spells c (net_tells s net e) up held down marks taken
spells-tells c s net e up held down marks taken ok = record { ups_ok = ok.ups_ok; down_ok = ok.down_ok }

goes-quiet-by : {W : Type 0} (c : Codecs) (net : Net W) (up held down : ℕ → List ℕ) (marks : ℕ → Bool) (taken : List ℕ) (i : ℕ) (t : Told) → Spells c net up held down marks taken → Goes c (net_quiet_by net i t) (line_quiet_by (made net up held down marks taken) i t) up held down marks taken
goes-quiet-by c net up held down marks taken i Displaced ok = goes-ends c net up held down marks taken i ok
goes-quiet-by c net up held down marks taken i (Opened link) ok = goes-same c net up held down marks taken ok
goes-quiet-by c net up held down marks taken i (Reply a ends) ok = goes-same c net up held down marks taken ok
goes-quiet-by c net up held down marks taken i Live ok = goes-same c net up held down marks taken ok
goes-quiet-by c net up held down marks taken i Parted ok = goes-same c net up held down marks taken ok

goes-cond : {W : Type 0} (c : Codecs) (b : Bool) (m n : Net W) (x y : Line W) (up held down : ℕ → List ℕ) (marks : ℕ → Bool) (taken : List ℕ) → Goes c m x up held down marks taken → Goes c n y up held down marks taken → Goes c (cond b m n) (cond b x y) up held down marks taken
goes-cond c true m n x y up held down marks taken p q = p
goes-cond c false m n x y up held down marks taken p q = q

goes-quiet : {W : Type 0} (c : Codecs) (s : Machine W) (net : Net W) (up held down : ℕ → List ℕ) (marks : ℕ → Bool) (taken : List ℕ) (i moment : ℕ) (wish : Wish) (ended : Bool) (number : Option ℕ) → Spells c net up held down marks taken → Goes c (net_quiet s net i moment wish ended number) (line_quiet s (made net up held down marks taken) i moment wish ended number) up held down marks taken
goes-quiet c s net up held down marks taken i moment wish true number ok = goes-same c net up held down marks taken ok
goes-quiet c s net up held down marks taken i moment wish false None ok = goes-same c net up held down marks taken ok
goes-quiet c s net up held down marks taken i moment wish false (Some link) ok =
    let e : Entry = entry link moment Pulse Ran in
    goes-cond c wish.memory net (net_quiet_by (net_tells s net e) i (s.told net.world e)) (made net up held down marks taken) (line_quiet_by (line_tells s (made net up held down marks taken) e) i (s.told net.world e)) up held down marks taken (goes-same c net up held down marks taken ok)
    (goes-quiet-by c (net_tells s net e) up held down marks taken i (s.told net.world e) (spells-tells c s net e up held down marks taken ok))

goes-parts : {W : Type 0} (c : Codecs) (s : Machine W) (net : Net W) (up held down : ℕ → List ℕ) (marks : ℕ → Bool) (taken : List ℕ) (i moment : ℕ) (wish : Wish) (ask : Ask) (ended : Bool) (number : Option ℕ) → Spells c net up held down marks taken → Goes c (net_parts s net i moment wish ask ended number) (line_parts s (made net up held down marks taken) i moment wish ask ended number) up held down marks taken
goes-parts c s net up held down marks taken i moment wish ask true number ok = goes-same c net up held down marks taken ok
goes-parts c s net up held down marks taken i moment wish ask false None ok = goes-ends c net up held down marks taken i ok
goes-parts c s net up held down marks taken i moment wish ask false (Some link) ok = by wish.memory
  where
    e : Entry
    e = entry link moment ask Ran

    by : (b : Bool) → Goes c (net_ends (cond b net (net_tells s net e)) i) (line_ends (cond b (made net up held down marks taken) (line_tells s (made net up held down marks taken) e)) i) up held down marks taken
    by true = goes-ends c net up held down marks taken i ok
    by false = goes-ends c (net_tells s net e) up held down marks taken i (spells-tells c s net e up held down marks taken ok)

breaks-res : {W : Type 0} (c : Codecs) (s : Machine W) (n : ℕ) (run : Run W) (up held down : ℕ → List ℕ) (marks : ℕ → Bool) (taken : List ℕ) → IsCodec FitsNumbered seen_request c.up → Locked run → Spells c (flat run) up held down marks taken
    → (line_breaks c (made (flat run) up held down marks taken)).client.row < 1900 → Res c s n run (line_breaks c (made (flat run) up held down marks taken))
breaks-res c s n run up held down marks taken codec l ok less =
    let cell : Carrier = record { end = fresh_end; up = Opens ∷ []; down = [] } in
    let i : ℕ = suc run.top in
    res-one c s n run (line_breaks c (made (flat run) up held down marks taken)) FBreaks (net_breaks (flat run)) (set up i (c.up.spell (0, Opens))) (set held i []) (set down i []) (set marks i false) [] tt
    (step-same s run FBreaks l)
    (λ k. record { client = begins run.client; top = i; ends = λ j. end-set (flat run).links i cell j k; world = run.world; history = run.history; up = set up i (c.up.spell (0, Opens)); held = set held i []; down = set down i []; again = set marks i false; taken = [] })
    (record {
      ups_ok = λ j. elim (cases_eq j i) [
        | inl at_i ↦ subst (λ (y : Carrier × List ℕ × List ℕ × Bool). UpOk c.up y.0.up y.0.end.ended y.1 y.2 y.3) (λ k. (sym (set-at (flat run).links i cell j at_i) k, sym (set-at held i [] j at_i) k, sym (set-at up i (c.up.spell (0, Opens)) j at_i) k, sym (set-at marks i false j at_i) k))
            (0, lit< tt, refl, (λ e f. spell-some FitsNumbered seen_request c.up codec (0, Opens) (lit< tt, tt) f), refl)
        | inr off ↦ subst (λ (y : Carrier × List ℕ × List ℕ × Bool). UpOk c.up y.0.up y.0.end.ended y.1 y.2 y.3) (λ k. (sym (set-off (flat run).links i cell j off) k, sym (set-off held i [] j off) k, sym (set-off up i (c.up.spell (0, Opens)) j off) k, sym (set-off marks i false j off) k)) (ok.ups_ok j)
      ];
      down_ok = subst (λ (y : Carrier × List ℕ). DownOk c.down (begins run.client) y.0.down [] y.1) (λ k. (sym (set-at (flat run).links i cell i refl) k, sym (set-at down i [] i refl) k)) (refl, refl);
    }) less

-- ---- every event

made-res : {W : Type 0} (c : Codecs) (s : Machine W) (n : ℕ) (run : Run W) (up held down : ℕ → List ℕ) (marks : ℕ → Bool) (taken : List ℕ) (e : ByteEvent) → AreCodecs c → Facts s run → Locked run → Spells c (flat run) up held down marks taken
    → LineAllowed c s n (made (flat run) up held down marks taken) e → (line_step c s (made (flat run) up held down marks taken) e).client.row < 1900 → Res c s n run (line_step c s (made (flat run) up held down marks taken) e)
made-res c s n run up held down marks taken (Commands call) codecs fits l ok allowed less = commands-res c s n run up held down marks taken run.client.stage run.client.wait call codecs.up refl refl l ok less
made-res c s n run up held down marks taken (ToServer i k moment wish) codecs fits l ok allowed less = to-server-res c s n run up held down marks taken i k moment wish (run.links i).ended codecs fits refl l ok allowed less
made-res c s n run up held down marks taken (ToClient k) codecs fits l ok allowed less = to-client-res c s n run up held down marks taken k (run.links run.top).slot codecs fits refl l ok ok.down_ok less
made-res c s n run up held down marks taken (Quiet i moment wish) codecs fits l ok allowed less =
    let g = goes-quiet c s (flat run) up held down marks taken i moment wish (run.links i).ended (run.links i).number ok in
    res-one c s n run (line_step c s (made (flat run) up held down marks taken) (Quiet i moment wish)) (FQuiet i moment wish) (net_step s (flat run) (FQuiet i moment wish)) up held down marks taken tt (step-same s run (FQuiet i moment wish) l) g.is g.ok less
made-res c s n run up held down marks taken (Loses i moment wish) codecs fits l ok allowed less =
    let g = goes-parts c s (flat run) up held down marks taken i moment wish Lost (run.links i).ended (run.links i).number ok in
    res-one c s n run (line_step c s (made (flat run) up held down marks taken) (Loses i moment wish)) (FLoses i moment wish) (net_step s (flat run) (FLoses i moment wish)) up held down marks taken tt (step-same s run (FLoses i moment wish) l) g.is g.ok less
made-res c s n run up held down marks taken (Drains i moment wish) codecs fits l ok allowed less =
    let g = goes-parts c s (flat run) up held down marks taken i moment wish Bye (run.links i).ended (run.links i).number ok in
    res-one c s n run (line_step c s (made (flat run) up held down marks taken) (Drains i moment wish)) (FDrains i moment wish) (net_step s (flat run) (FDrains i moment wish)) up held down marks taken tt (step-same s run (FDrains i moment wish) l) g.is g.ok less
made-res c s n run up held down marks taken (Ends i) codecs fits l ok allowed less =
    let g = goes-ends c (flat run) up held down marks taken i ok in
    res-one c s n run (line_step c s (made (flat run) up held down marks taken) (Ends i)) (FEnds i) (net_step s (flat run) (FEnds i)) up held down marks taken tt (step-same s run (FEnds i) l) g.is g.ok less
made-res c s n run up held down marks taken Breaks codecs fits l ok allowed less = breaks-res c s n run up held down marks taken codecs.up l ok less
made-res c s n run up held down marks taken (Others e) codecs fits l ok allowed less =
    res-one c s n run (line_step c s (made (flat run) up held down marks taken) (Others e)) (FOthers e) (net_step s (flat run) (FOthers e)) up held down marks taken (record { legal = allowed.legal; apart = allowed.apart; no_token = allowed.no_token }) (step-same s run (FOthers e) l) refl (spells-tells c s (flat run) e up held down marks taken ok) less

line-res : {W : Type 0} (c : Codecs) (s : Machine W) (n : ℕ) (run : Run W) (x : Line W) (e : ByteEvent) → AreCodecs c → Facts s run → Rel c run x → LineAllowed c s n x e → (line_step c s x e).client.row < 1900 → Res c s n run (line_step c s x e)
line-res {W} c s n run x e codecs fits r =
    subst (λ (y : Line W). LineAllowed c s n y e → (line_step c s y e).client.row < 1900 → Res c s n run (line_step c s y e)) (sym r.is) (made-res c s n run r.up r.held r.down r.marks r.taken e codecs fits r.locked r.ok)

-- ---- every schedule

record Runs {W : Type 0} (c : Codecs) (s : Machine W) (n : ℕ) (run : Run W) (x : Line W) : Type 0 where
  events : List Event
  allowed : AllAllowed s n run events
  next : Rel c (run_of s run events) x

joined : {W : Type 0} (s : Machine W) (n : ℕ) (run : Run W) (es fs : List Event) → AllAllowed s n run es → AllAllowed s n (run_of s run es) fs → AllAllowed s n run (es ++ fs)
joined s n run [] fs a b = b
joined s n run (e ∷ es) fs a b = (a.0, a.1, joined s n (step s run e) es fs a.2 b)

run-joined : {W : Type 0} (s : Machine W) (run : Run W) (es fs : List Event) → run_of s (run_of s run es) fs ≡ run_of s run (es ++ fs)
run-joined s run [] fs = refl
run-joined s run (e ∷ es) fs = run-joined s (step s run e) es fs

line-runs : {W : Type 0} {Sound : W → Type 0} (c : Codecs) (s : Server W Sound) (n : ℕ) (w0 : W) (run : Run W) (x : Line W) (events : List ByteEvent) → AreCodecs c → Fitting s n w0 run → Rel c run x → AllLineAllowed c s.machine n x events → Runs c s.machine n run (line_run c s.machine x events)
line-runs c s n w0 run x [] codecs fits r ok = record { events = []; allowed = tt; next = r }
line-runs c s n w0 run x (e ∷ es) codecs fits r ok =
    let first = line-res c s.machine n run x e codecs (facts s n w0 run fits) r ok.0 ok.1 in
    let rest = line-runs c s n w0 (run_of s.machine run first.events) (line_step c s.machine x e) es codecs (fitting-run s n w0 run first.events first.allowed fits) first.next ok.2 in
    record {
      events = first.events ++ rest.events;
      allowed = joined s.machine n run first.events rest.events first.allowed rest.allowed;
      next = subst (λ y. Rel c y (line_run c s.machine (line_step c s.machine x e) es)) (run-joined s.machine run first.events rest.events) rest.next;
    }

starts-rel : {W : Type 0} (c : Codecs) (w : W) → IsCodec FitsNumbered seen_request c.up → Rel c (start w) (line_start c w)
starts-rel {W} c w codec =
    record {
      locked = locked-start w;
      up = set (λ j. []) 0 (c.up.spell (0, Opens));
      held = λ j. [];
      down = λ j. [];
      marks = λ j. false;
      taken = [];
      is = (λ k. record { client = (start w).client; top = 0; ends = λ j. end-set (λ m. blank_cell) 0 cell j k; world = w; history = []; up = set (λ j. []) 0 (c.up.spell (0, Opens)); held = λ j. []; down = λ j. []; again = λ j. false; taken = [] }) ∙ ap (λ (y : Net W). made y (set (λ j. []) 0 (c.up.spell (0, Opens))) (λ j. []) (λ j. []) (λ j. false) []) (sym (starts-same w));
      ok = subst (λ (y : Net W). Spells c y (set (λ j. []) 0 (c.up.spell (0, Opens))) (λ j. []) (λ j. []) (λ j. false) []) (sym (starts-same w))
          (record {
            ups_ok = λ j. elim (cases_eq j 0) [
              | inl at_i ↦ subst (λ (y : Carrier × List ℕ). UpOk c.up y.0.up y.0.end.ended [] y.1 false) (λ k. (sym (set-at (λ m. blank_cell) 0 cell j at_i) k, sym (set-at (λ m. []) 0 (c.up.spell (0, Opens)) j at_i) k)) (0, lit< tt, refl, (λ e f. spell-some FitsNumbered seen_request c.up codec (0, Opens) (lit< tt, tt) f), refl)
              | inr off ↦ subst (λ (y : Carrier × List ℕ). UpOk c.up y.0.up y.0.end.ended [] y.1 false) (λ k. (sym (set-off (λ m. blank_cell) 0 cell j off) k, sym (set-off (λ m. []) 0 (c.up.spell (0, Opens)) j off) k)) (refl, refl)
            ];
            down_ok = (refl, refl);
          });
    }
  where
    blank_cell : Carrier
    blank_cell = record { end = fresh_end; up = []; down = [] }

    cell : Carrier
    cell = record { end = fresh_end; up = Opens ∷ []; down = [] }

pub bytes-once : {W : Type 0} {Sound : W → Type 0} (s : Server W Sound) → CommandsOnceInBytes Sound s.machine
bytes-once {W} s c codecs w n events sound small ok has =
    let r = line-runs c s n w (start w) (line_start c w) events codecs (fitting-start s n w sound small) (starts-rel c w codecs.up) ok in
    let once : OnceInOrder s.machine n w (run_of s.machine (start w) r.events) = commands-once s w n r.events sound small r.allowed (ap (λ (y : Line W). y.client.token) (sym r.next.is) ∙ has) in
    subst (LineOnce s.machine n w) (sym r.next.is) (record { more = once.more; effects = once.effects; at_most = once.at_most })

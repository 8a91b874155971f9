-- A round on a link.
use Rattle.std.proofs.Common.{◌≡◌, ℕ, ◌+◌, ◌<◌, List, [], ◌∷◌, ◌++◌, take, Option, Some, None, refl, sym, ap, subst, ◌∙◌, arith}
use Rattle.afp_outside.specs.ends.Link.{LinkState, ReadsQuiet, ReadsEnd, FailsToRead}
use Rattle.afp_outside.specs.ends.Whole.{Sends, SendsPart}
use Rattle.dsi_frame.specs.Frame.{canonical_frame}
use Rattle.dsi_frame.specs.Stream.{IsUnfinished}
use Rattle.dsi_session.specs.Pulse.{IsDue, Moments}
use Rattle.dsi_session.specs.declared.pulse.Due.{Due}
use Rattle.dsi_session.specs.declared.pulse.Due.TheVariants as dues
use Rattle.afp_client.specs.session.State.{Client}
use Rattle.afp_client.specs.links.History.{Happening, received, was_quiet, read_last, tickled, tickle_frame, allowed, limits_in, read_in, wrote_in}
use Rattle.afp_client.specs.links.OnLink.{Start, spot, OnLink, LiveOn, IsTickleDue, Broke, ended, failed_read, failed_write, moments_in, silent}
use Rattle.afp_client.specs.links.lemma.Reading.{Holds}
use Rattle.afp_client.specs.links.Coming.{Same, GoesOn, StaysOn, BreaksLink, CameOn}
use Rattle.afp_client.specs.links.lemma.Coming.{NotesWrite, RoundOn}
use Rattle.afp_client.specs.declared.links.noted.Noted.{Noted}
use Rattle.afp_client.specs.declared.links.came.Came.{Came}
use Rattle.afp_client.specs.declared.links.came.Came.TheVariants as comes
use Rattle.afp_client.proofs.OfLinks.LinkLemmas.{part-here, unsent-counted, on-receives, on-quiet, on-last, on-tickles}
use Rattle.afp_client.proofs.OfLinks.NextLemmas.{on-sent}

pub same-same : (all : List Happening) → Same all all
same-same all = record { results = λ was. refl; asked = λ was. refl; limits = λ was. refl }

pub same-then : (all mid now : List Happening) → Same all mid → Same mid now → Same all now
same-then all mid now a b = record { results = λ was. b.results was ∙ a.results was; asked = λ was. b.asked was ∙ a.asked was; limits = λ was. b.limits was ∙ a.limits was }

-- less is spent than may be, where no limit was set since
pub afford-still : (start : Start) (turns cost : ℕ) (all mid now : List Happening) → turns ≡ allowed (limits_in start.limits all) → Same all mid → Same mid now → cost < turns → cost < allowed (limits_in start.limits now)
afford-still start turns cost all mid now is a b less = subst (λ (n : ℕ). cost < n) (is ∙ ap allowed (sym (b.limits start.limits ∙ a.limits start.limits))) less

pub goes-here : (start : Start) (all : List Happening) (c : Client) (link : LinkState) (noted : Noted) (cost : ℕ) → LiveOn start all (spot c [] link noted cost) → GoesOn start all c link noted cost
goes-here start all c link noted cost on = record { now = all; on = on; same = same-same all }

pub goes-after : (start : Start) (all mid : List Happening) (c : Client) (link : LinkState) (noted : Noted) (cost : ℕ) → Same all mid → GoesOn start mid c link noted cost → GoesOn start all c link noted cost
goes-after start all mid c link noted cost s h = record { now = h.now; on = h.on; same = same-then all mid h.now s h.same }

-- what comes behind what happened without a result
pub came-after : (start : Start) (turns : ℕ) (all mid : List Happening) (came : Came) (c : Client) (link : LinkState) (noted : Noted) (cost : ℕ) → Same all mid
    → CameOn start turns mid came c link noted cost → CameOn start turns all came c link noted cost
came-after start turns all mid (comes.Told at code block) c link noted cost s h = record {
  by = record { before = h.by.before; mid = h.by.mid; frame = h.by.frame; step = h.by.step; on = h.by.on; is = h.by.is; same = same-then all mid h.by.before s h.by.same };
  stands = h.stands;
}
came-after start turns all mid comes.Opened c link noted cost s h = record { before = h.before; mid = h.mid; frame = h.frame; step = h.step; on = h.on; is = h.is; same = same-then all mid h.before s h.same }
came-after start turns all mid (comes.Refused code) c link noted cost s h = record { before = h.before; mid = h.mid; frame = h.frame; step = h.step; on = h.on; is = h.is; same = same-then all mid h.before s h.same }
came-after start turns all mid (comes.Lost code) c link noted cost s h = record { before = h.before; mid = h.mid; frame = h.frame; step = h.step; on = h.on; is = h.is; same = same-then all mid h.before s h.same }
came-after start turns all mid (comes.Bad at) c link noted cost s h = record { goes_on = goes-after start all mid c link noted cost s h.goes_on; place = h.place; bad = h.bad }
came-after start turns all mid comes.Broke c link noted cost s h = record { now = h.now; lost = h.lost; on = h.on; same = same-then all mid h.now s h.same; broke = h.broke }
came-after start turns all mid comes.Spent c link noted cost s h = record { goes_on = goes-after start all mid c link noted cost s h.goes_on; unfinished = h.unfinished; reached = h.reached }
came-after start turns all mid comes.Memory c link noted cost s h = record { now = h.now; on = h.on; same = same-then all mid h.now s h.same }

pub round-after : (start : Start) (turns : ℕ) (all mid : List Happening) (came : Option Came) (c : Client) (link : LinkState) (noted : Noted) (cost : ℕ) → Same all mid
    → RoundOn start turns mid came c link noted cost → RoundOn start turns all came c link noted cost
round-after start turns all mid None c link noted cost s h = goes-after start all mid c link noted cost s h
round-after start turns all mid (Some came) c link noted cost s h = came-after start turns all mid came c link noted cost s h

-- a link broke where nothing was to be written
breaks-here : (start : Start) (all : List Happening) (c : Client) (link : LinkState) (noted : Noted) (cost : ℕ) → (on : OnLink start all (spot c [] link noted cost)) → Broke on.began all [] link → BreaksLink start all c link noted cost
breaks-here start all c link noted cost on broke = record { now = all; lost = []; on = on; same = same-same all; broke = broke }

-- what is due is so by the moments of the link
due-at : (d : Due) (read wrote at_read at_wrote now at_now : ℕ) → read ≡ at_read → wrote ≡ at_wrote → now ≡ at_now → IsDue (record { last_read = read; last_write = wrote }) now d → IsDue (record { last_read = at_read; last_write = at_wrote }) at_now d
due-at d read wrote at_read at_wrote now at_now r w n due =
    subst (λ (x : ℕ). IsDue (record { last_read = at_read; last_write = at_wrote }) x d) n
    (subst (λ (x : ℕ). IsDue (record { last_read = at_read; last_write = x }) now d) w
    (subst (λ (x : ℕ). IsDue (record { last_read = x; last_write = wrote }) now d) r due))

-- the moment of the last read that gave bytes is noted
abbrev pub read_noted : LinkState → Noted → Moments
read_noted link noted = record { last_read = link.last_read; last_write = noted.pulse.last_write }

-- the last write alone is looked at
pub on-noted : (start : Start) (all : List Happening) (c : Client) (link : LinkState) (old new : Noted) (cost : ℕ) → OnLink start all (spot c [] link old cost) → new.replied ≡ old.replied → new.pulse.last_write ≡ old.pulse.last_write
    → OnLink start all (spot c [] link new cost)
on-noted start all c link old new cost on replied wrote = record {
  leads = on.leads;
  told = on.told;
  filled = on.filled;
  spelled = on.spelled;
  came = on.came;
  place = on.place;
  sent = on.sent;
  replied = replied ∙ on.replied;
  cost = on.cost;
  below = on.below;
  within = on.within;
  began = on.began;
  moment = on.moment;
  last_read = on.last_read;
  last_write = wrote ∙ on.last_write;
  reads = on.reads;
  idles = on.idles;
}

-- at a quiet: what is due by what is noted is due by what happened
quiet-due : (start : Start) (before : Option (List ℕ)) (now : ℕ) (all : List Happening) (c : Client) (link : LinkState) (noted : Noted) (cost : ℕ) (d : Due) → (on : OnLink start (was_quiet before now ∷ all) (spot c [] link noted cost))
    → IsDue (read_noted link noted) link.now d → IsDue (moments_in on.began all) now d
quiet-due start before now all c link noted cost d on due =
    due-at d link.last_read noted.pulse.last_write (read_in on.began all) (wrote_in on.began all) link.now now on.last_read on.last_write on.moment due

-- what is due by the pulse, once the moment of the last read is noted
pub noted-due : (d : Due) (link : LinkState) (old new : Noted) (read now : ℕ) → new.pulse ≡ record { last_read = read; last_write = old.pulse.last_write } → read ≡ link.last_read → now ≡ link.now → IsDue new.pulse now d
    → IsDue (read_noted link new) link.now d
noted-due d link old new read now is r n due =
    due-at d new.pulse.last_read new.pulse.last_write link.last_read new.pulse.last_write now link.now (ap (λ (m : Moments). m.last_read) is ∙ r) refl n due

pub silent-breaks : (start : Start) (before : Option (List ℕ)) (now : ℕ) (all : List Happening) (c : Client) (link : LinkState) (noted : Noted) (cost : ℕ) → OnLink start (was_quiet before now ∷ all) (spot c [] link noted cost)
    → IsDue (read_noted link noted) link.now dues.Silent → BreaksLink start (was_quiet before now ∷ all) c link noted cost
silent-breaks start before now all c link noted cost on due =
    breaks-here start (was_quiet before now ∷ all) c link noted cost on (silent (quiet-due start before now all c link noted cost dues.Silent on due) refl)

pub quiet-goes : (start : Start) (before : Option (List ℕ)) (now : ℕ) (all : List Happening) (c : Client) (link : LinkState) (noted : Noted) (cost : ℕ) → OnLink start (was_quiet before now ∷ all) (spot c [] link noted cost)
    → IsDue (read_noted link noted) link.now dues.Nothing → GoesOn start (was_quiet before now ∷ all) c link noted cost
quiet-goes start before now all c link noted cost on due =
    goes-here start (was_quiet before now ∷ all) c link noted cost (record { on = on; rests = quiet-due start before now all c link noted cost dues.Nothing on due })

pub quiet-tickles : (start : Start) (before : Option (List ℕ)) (now : ℕ) (all : List Happening) (c : Client) (link : LinkState) (noted : Noted) (cost : ℕ) → (on : OnLink start (was_quiet before now ∷ all) (spot c [] link noted cost))
    → IsDue (read_noted link noted) link.now dues.Tickle → IsTickleDue on.began (was_quiet before now ∷ all)
quiet-tickles start before now all c link noted cost on due = quiet-due start before now all c link noted cost dues.Tickle on due

-- a Tickle was written, or not; or there was no memory for it
pub tickles : (start : Start) (all : List Happening) (c : Client) (out : List ℕ) (link after : LinkState) (noted then_noted : Noted) (cost : ℕ) → (on : OnLink start all (spot c [] link noted cost)) → IsTickleDue on.began all
    → out ≡ [] ++ canonical_frame tickle_frame → Sends link out 0 after → NotesWrite out link.now noted then_noted → GoesOn start all c after then_noted cost
tickles start all c out link after noted then_noted cost on due is s n = record {
  now = tickled ∷ all;
  on = on-sent start (tickled ∷ all) c out link after noted then_noted cost (on-tickles start all c out link noted cost on due is) s n;
  same = record { results = λ was. refl; asked = λ was. refl; limits = λ was. refl };
}

pub tickle-unsent : (start : Start) (all : List Happening) (c : Client) (out : List ℕ) (link after : LinkState) (noted then_noted : Noted) (cost : ℕ) → (on : OnLink start all (spot c [] link noted cost)) → IsTickleDue on.began all
    → out ≡ [] ++ canonical_frame tickle_frame → SendsPart link out after → NotesWrite out link.now noted then_noted → BreaksLink start all c after then_noted cost
tickle-unsent start all c out link after noted then_noted cost on due is s n = record {
  now = tickled ∷ all;
  lost = s.lost;
  on = part-here start (tickled ∷ all) c out link after noted then_noted cost (on-tickles start all c out link noted cost on due is).on s n;
  same = record { results = λ was. refl; asked = λ was. refl; limits = λ was. refl };
  broke = failed_write (unsent-counted link after out s) s.some_lost;
}

pub stays-here : (start : Start) (all : List Happening) (c : Client) (link : LinkState) (noted : Noted) (cost : ℕ) → OnLink start all (spot c [] link noted cost) → StaysOn start all c link noted cost
stays-here start all c link noted cost on = record { now = all; on = on; same = same-same all }

-- what a read gave
pub round-receives : (start : Start) (all : List Happening) (old new : Client) (link after : LinkState) (n : ℕ) (noted : Noted) (cost : ℕ) → cost < allowed (limits_in start.limits all) → IsUnfinished old.held.rest
    → LiveOn start all (spot old [] link noted cost) → Holds old link n new after → GoesOn start all new after noted (cost + n)
round-receives start all old new link after n noted cost less none on h = record {
  now = received link.written after.now (take n h.room) ∷ all;
  on = on-receives start all old new link after h.room n noted cost less none on h.reads h.state h.place h.rest;
  same = record { results = λ was. refl; asked = λ was. refl; limits = λ was. refl };
}

pub round-quiet : (start : Start) (turns : ℕ) (all : List Happening) (old new : Client) (link mid after : LinkState) (noted then_noted : Noted) (cost then_cost : ℕ) (came : Option Came)
    → cost < allowed (limits_in start.limits all) → IsUnfinished old.held.rest → LiveOn start all (spot old [] link noted cost) → ReadsQuiet link mid → new ≡ old → then_cost ≡ cost + 1
    → (OnLink start (was_quiet link.written mid.now ∷ all) (spot new [] mid noted then_cost) → RoundOn start turns (was_quiet link.written mid.now ∷ all) came new after then_noted then_cost)
    → RoundOn start turns all came new after then_noted then_cost
round-quiet start turns all old new link mid after noted then_noted cost then_cost came less none on r same is f =
    let moved : OnLink start (was_quiet link.written mid.now ∷ all) (spot old [] mid noted (cost + 1)) = on-quiet start all old link mid noted cost less none on r in
    round-after start turns all (was_quiet link.written mid.now ∷ all) came new after then_noted then_cost (record { results = λ was. refl; asked = λ was. refl; limits = λ was. refl })
    (f
    (subst (λ (c : Client). OnLink start (was_quiet link.written mid.now ∷ all) (spot c [] mid noted then_cost)) (sym same)
    (subst (λ (n : ℕ). OnLink start (was_quiet link.written mid.now ∷ all) (spot old [] mid noted n)) (sym is) moved)))

-- the last read
last-breaks : (start : Start) (all : List Happening) (old new : Client) (link after : LinkState) (noted : Noted) (cost : ℕ) → OnLink start (read_last link.written after.now ∷ all) (spot old [] after noted cost) → new ≡ old
    → ((began : ℕ) → Broke began (read_last link.written after.now ∷ all) [] after) → BreaksLink start all new after noted cost
last-breaks start all old new link after noted cost on same broke =
    let here : OnLink start (read_last link.written after.now ∷ all) (spot new [] after noted cost) = subst (λ (x : Client). OnLink start (read_last link.written after.now ∷ all) (spot x [] after noted cost)) (sym same) on in record {
      now = read_last link.written after.now ∷ all;
      lost = [];
      on = here;
      same = record { results = λ was. refl; asked = λ was. refl; limits = λ was. refl };
      broke = broke here.began;
    }

pub round-ends : (start : Start) (all : List Happening) (old new : Client) (link after : LinkState) (noted : Noted) (cost : ℕ) → cost < allowed (limits_in start.limits all) → IsUnfinished old.held.rest
    → LiveOn start all (spot old [] link noted cost) → ReadsEnd link after → new ≡ old → BreaksLink start all new after noted cost
round-ends start all old new link after noted cost less none on r same =
    last-breaks start all old new link after noted cost (on-last start all old link after noted cost less none on r.events r.written r.last_read) same (λ began. ended tt r.ended refl)

pub round-fails : (start : Start) (all : List Happening) (old new : Client) (link after : LinkState) (noted : Noted) (cost : ℕ) → cost < allowed (limits_in start.limits all) → IsUnfinished old.held.rest
    → LiveOn start all (spot old [] link noted cost) → FailsToRead link after → new ≡ old → BreaksLink start all new after noted cost
round-fails start all old new link after noted cost less none on r same =
    last-breaks start all old new link after noted cost (on-last start all old link after noted cost less none on r.events r.written r.last_read) same (λ began. failed_read tt (omega (arith, r.read_faults.1)) refl)

-- what was to be written was not written whole
pub unsent : (start : Start) (all : List Happening) (c : Client) (out : List ℕ) (link after : LinkState) (noted then_noted : Noted) (cost : ℕ) → LiveOn start all (spot c out link noted cost)
    → SendsPart link out after → NotesWrite out link.now noted then_noted → BreaksLink start all c after then_noted cost
unsent start all c out link after noted then_noted cost on s n = record {
  now = all;
  lost = s.lost;
  on = part-here start all c out link after noted then_noted cost on.on s n;
  same = same-same all;
  broke = failed_write (unsent-counted link after out s) s.some_lost;
}

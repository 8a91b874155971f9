use Rattle.std.proofs.Common.{◌≡◌, ℕ, ◌<◌, false, List, length, get_or, map, take, drop, ◌++◌, sym, ap, ◌∙◌, subst}
use Rattle.std.proofs.lemmas.List.Elements.{All-get_or}
use Rattle.afp_serial.specs.Shown.{Shown}
use Rattle.afp_desk.specs.desk.Passes.{IsOf, remembered, start_then, core_then, view}
use Rattle.afp_desk.specs.declared.workers.worker.Worker.{Worker}
use Rattle.afp_desk.specs.workers.Staffs.{door_of}
use Rattle.afp_desk.specs.workers.Workers.{Worked}
use Rattle.afp_desk.proofs.OfWorkers.Linking.{whole-share, served, written, each-of}
use Rattle.afp_desk.proofs.workers.doors.serve_doors.Goals as goal

pub close-core-requires-clause-whole : goal.close-core-requires-clause-whole
close-core-requires-clause-whole g c =
    let W : Type 0 = Worker g.row.K.Denot g.row.N.Denot g.K.Keeper in
    let ws : List W = c.staff.new.workers.items in
    let new : List W = c.work_all.new.workers in
    let kept : length new ≡ length ws = c.work_all.auto.workers ∙ ap length c.as_mut_slice.ensures.value in
    let same = written c.staff.new.workers.len new ws kept c.staff.new.workers.ok.0 in
    let ws' : List W = take c.staff.new.workers.len (new ++ drop (length new) ws) in
    let door = g.N.Listener.door_state in
    let state = g.N.Link.Link.link_state in
    let worked = subst (λ (l : List W). (i : ℕ) (d : W) → i < length l → Worked state g.G.Gate.passed door c.args.house.now c.args.turns (get_or l i d) (get_or new i d)) c.as_mut_slice.ensures.value c.work_all.ensures.worked in
    whole-share state g.G.Gate.passed c.args.house.now c.args.turns g.row.K.Denot g.row.N.Denot g.K.Keeper door c.args.core (view c.in-Ok-new.made.1) (view c.staff.new.first) (view c.gather.new.first) c.args.doors.items ws ws' c.in-Ok-new.ensures.ok.1 c.staff.ensures.staffed c.staff.ensures.doors
    (ap length same ∙ kept) (subst (λ (l : List W). (i : ℕ) (d : W) → i < length ws → Worked state g.G.Gate.passed door c.args.house.now c.args.turns (get_or ws i d) (get_or l i d)) (sym same) worked) c.gather.ensures.met

pub returns-clause-ok : goal.returns-clause-ok
returns-clause-ok g c =
    let W : Type 0 = Worker g.row.K.Denot g.row.N.Denot g.K.Keeper in
    let ws : List W = c.staff.new.workers.items in
    let new : List W = c.work_all.new.workers in
    let kept : length new ≡ length ws = c.work_all.auto.workers ∙ ap length c.as_mut_slice.ensures.value in
    let same = written c.staff.new.workers.len new ws kept c.staff.new.workers.ok.0 in
    let ws' : List W = take c.staff.new.workers.len (new ++ drop (length new) ws) in
    let door = g.N.Listener.door_state in
    let state = g.N.Link.Link.link_state in
    let worked = subst (λ (l : List W). (i : ℕ) (d : W) → i < length l → Worked state g.G.Gate.passed door c.args.house.now c.args.turns (get_or l i d) (get_or new i d)) c.as_mut_slice.ensures.value c.work_all.ensures.worked in
    served state g.G.Gate.passed c.args.house.now c.args.turns g.row.K.Denot g.row.N.Denot g.K.Keeper door c.args.core (view c.in-Ok-new.made.1) (view c.staff.new.first) (view c.gather.new.first) c.args.doors.items ws ws' c.in-Ok-new.ensures.ok.1 c.staff.ensures.staffed c.staff.ensures.doors
    (ap length same ∙ kept) (subst (λ (l : List W). (i : ℕ) (d : W) → i < length ws → Worked state g.G.Gate.passed door c.args.house.now c.args.turns (get_or ws i d) (get_or l i d)) (sym same) worked) c.gather.ensures.met
    c.in-Ok.done.items c.gather.new.done.items (c.in-Ok.ensures.items) c.gather.ensures.done c.close-core.result.0 (remembered c.close-core.result.1.last.views).history (ap (λ (x : Shown). x.history) c.close-core.ensures.trace)
    (start_then c.close-core.result.1.last.views) (core_then c.close-core.result.1.last.views) c.close-core.ensures.ends.0 c.close-core.ensures.ends.1 c.gather.new.first.lawful c.gather.new.first.sound_at c.close-core.ensures.core

pub work_all-requires-clause-open : goal.work_all-requires-clause-open
work_all-requires-clause-open g c =
    let W : Type 0 = Worker g.row.K.Denot g.row.N.Denot g.K.Keeper in
    let Y : Type 0 = g.row.N.Denot in
    let ws : List W = c.staff.new.workers.items in
    let door = g.N.Listener.door_state in
    let opens : (i : ℕ) (d : Y) → i < length (map door_of ws) → (door (get_or (map door_of ws) i d)).closed ≡ false =
    subst (λ (l : List Y). (i : ℕ) (d : Y) → i < length l → (door (get_or l i d)).closed ≡ false) (sym c.staff.ensures.doors) (λ i d l. All-get_or (λ (y : Y). (door y).closed ≡ false) c.args.doors.items i d l c.requires.open) in
    λ lifetimes outlive. subst (λ (l : List W). (i : ℕ) (d : W) → i < length l → (door (get_or l i d).door).closed ≡ false) (sym c.as_mut_slice.ensures.value) (each-of door_of (λ (y : Y). (door y).closed ≡ false) ws opens)

pub gather-requires-clause-desk : goal.gather-requires-clause-desk
gather-requires-clause-desk g c =
    let W : Type 0 = Worker g.row.K.Denot g.row.N.Denot g.K.Keeper in
    let ws : List W = c.staff.new.workers.items in
    let new : List W = c.work_all.new.workers in
    let kept : length new ≡ length ws = c.work_all.auto.workers ∙ ap length c.as_mut_slice.ensures.value in
    let same = written c.staff.new.workers.len new ws kept c.staff.new.workers.ok.0 in
    let all : (i : ℕ) (d : W) → i < length new → IsOf c.in-Ok-new.made.0 (get_or new i d).pass = λ i d l. c.work_all.ensures.desk i d (subst (λ (n : ℕ). i < n) c.work_all.auto.workers l) in
    subst (λ (l : List W). (i : ℕ) (d : W) → i < length l → IsOf c.in-Ok-new.made.0 (get_or l i d).pass) (sym same) all

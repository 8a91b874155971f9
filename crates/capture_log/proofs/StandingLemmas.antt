-- What is told of where a capture stands.
use Rattle.std.proofs.Common.{◌≡◌, ◌∙◌, ℕ, List, [], suc, length, drop, refl, sym, ap, subst}
use Rattle.std.specs.Prelude.{Option, Some, None, option_map}
use Rattle.afp_serial.specs.History.{stand}
use Rattle.afp_serial.specs.World.{fresh_world, volume_at}
use Rattle.capture_log_server.specs.CaptureState.{CaptureState}
use Rattle.capture_log_server.specs.Connections.{Connection, output}
use Rattle.capture_log_server.specs.States.{RunningState, IsRunning}
use Rattle.capture_log.specs.Standing.{uncompared, nodes_of, nodes_from}
use Rattle.capture_log.specs.Taking.{HeldCapture, IsCapture, IsServer, IsBegun, IsIdle}

begun-there : (held : HeldCapture) (r : RunningState) (s : CaptureState) → IsCapture held s → held.running ≡ Some r → IsBegun r s
begun-there held r s is e = subst (λ (o : Option RunningState). IsServer o held.house held.waiting s) e is.server

idle-there : (held : HeldCapture) (s : CaptureState) → IsCapture held s → held.running ≡ None → IsIdle held.house held.waiting s
idle-there held s is e = subst (λ (o : Option RunningState). IsServer o held.house held.waiting s) e is.server

pub uncompared-there : (held : HeldCapture) (r : RunningState) (s : CaptureState) (index link : ℕ) (rest : List ℕ) → suc index ≡ link → IsCapture held s → held.running ≡ Some r
    → ((t : CaptureState) (first : ℕ) → IsRunning r t first → rest ≡ drop (t.connections (suc index)).named (output (t.connections (suc index)))) → rest ≡ uncompared (s.connections link)
uncompared-there held r s index link rest same is e told =
    let b = begun-there held r s is e in
    told s b.first b.is ∙ ap (λ (k : ℕ). uncompared (s.connections k)) same

pub uncompared-none : (held : HeldCapture) (s : CaptureState) (link : ℕ) (rest : List ℕ) → IsCapture held s → held.running ≡ None → rest ≡ [] → rest ≡ uncompared (s.connections link)
uncompared-none held s link rest is e empty = empty ∙ ap (λ (conns : ℕ → Connection). uncompared (conns link)) (sym (idle-there held s is e).connections)

pub nodes-there : (held : HeldCapture) (r : RunningState) (s : CaptureState) (volume : ℕ) (count : Option ℕ) → IsCapture held s → held.running ≡ Some r
    → ((t : CaptureState) (first : ℕ) → IsRunning r t first → count ≡ option_map (λ v. length v.rows) (volume_at (stand (fresh_world t.house first) t.history).volumes volume)) → count ≡ nodes_of s volume
nodes-there held r s volume count is e told =
    let b = begun-there held r s is e in
    told s b.first b.is ∙ ap (λ (o : Option ℕ). nodes_from o s volume) (sym b.start)

pub nodes-none : (held : HeldCapture) (s : CaptureState) (volume : ℕ) (count : Option ℕ) → IsCapture held s → held.running ≡ None → count ≡ None → count ≡ nodes_of s volume
nodes-none held s volume count is e none = none ∙ ap (λ (o : Option ℕ). nodes_from o s volume) (sym (idle-there held s is e).start)

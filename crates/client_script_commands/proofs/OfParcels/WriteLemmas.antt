-- A fork is written where there are bytes.
use Rattle.std.proofs.Common.{◌≡◌, ℕ, ℤ, Bool, List, length, Result, Err, ap, ◌∙◌, sym, subst, cond, eq-eqb, ne_eqb}
use Rattle.afp_calls_grammar.specs.declared.grammar.call.Call.{Call}
use Rattle.client_script_lines.specs.calls.Requests.{settings_of}
use Rattle.client_script_commands.specs.declared.parts.asker.Stop.{Stop}
use Rattle.client_script_commands.specs.parts.Parts.{Asked, Comes, Part}
use Rattle.client_script_commands.specs.parts.Told.{Carries}
use Rattle.client_script_commands.specs.parcels.Unpack.{write_fork, write_whole}

pub writes_none : {E F : Type 0} → (opens : Call) (piece : List ℕ) (before : Asked F) → length piece ≡ 0 → (next : Part) → Carries E before (write_fork opens piece next) before next
unfolding write_fork
writes_none opens piece before e next result final h =
    subst (λ (b : Bool). Comes before (cond b next (write_whole opens piece next)) result final) (sym (eq-eqb (length piece) 0 e)) h

behind : {E F : Type 0} → (opens : Call) (piece : List ℕ) (before : Asked F) → (length piece ≡ 0 → ⊥) → (next : Part) (result : Result (List ℕ) (Stop E)) (final : Asked F)
    → Comes before (write_whole opens piece next) result final → Comes before (write_fork opens piece next) result final
unfolding write_fork
behind opens piece before e next result final h =
    subst (λ (b : Bool). Comes before (cond b next (write_whole opens piece next)) result final) (sym (ne_eqb (length piece) 0 e)) h

pub writes_some : {E F : Type 0} → (opens : Call) (piece : List ℕ) (before after : Asked F) → (length piece ≡ 0 → ⊥)
    → ((next : Part) → Carries E before (write_whole opens piece next) after next) → (next : Part) → Carries E before (write_fork opens piece next) after next
writes_some {E} opens piece before after e whole next result final h = behind {E = E} opens piece before e next result final (whole next result final h)

pub writes_stop : {E F : Type 0} → (opens : Call) (piece : List ℕ) (before after : Asked F) (stop : Stop E) → (length piece ≡ 0 → ⊥)
    → ((next : Part) → Comes before (write_whole opens piece next) (Err stop) after) → (next : Part) → Comes before (write_fork opens piece next) (Err stop) after
writes_stop {E} opens piece before after stop e whole next = behind {E = E} opens piece before e next (Err stop) after (whole next)

-- settings of the same dates
pub same_settings : (created modified backup c m b : ℤ) (finder : List ℕ) → created ≡ c → modified ≡ m → backup ≡ b → settings_of created modified backup finder ≡ settings_of c m b finder
same_settings created modified backup c m b finder first second third =
    ap (λ (z : ℤ). settings_of z modified backup finder) first
    ∙ ap (λ (z : ℤ). settings_of c z backup finder) second
    ∙ ap (λ (z : ℤ). settings_of c m z finder) third

-- Reads of a fork, one by one.
use Rattle.std.proofs.Common.{◌≡◌, ℕ, ◌^◌, List, [], ◌∷◌, ◌++◌, length, Bool, true, false, nat_lt, Result, Ok, Err, refl, ap, sym, subst, ◌∙◌, cond}
use Rattle.afp_base.specs.declared.code.Code.{Code}
use Rattle.afp_base.specs.declared.code.Code.TheVariants as code
use Rattle.afp_base.specs.declared.ids.ForkRef.{ForkRef}
use Rattle.afp_calls_grammar.specs.declared.grammar.call.Call.{Call}
use Rattle.client_script_lines.specs.calls.Requests.{read}
use Rattle.client_script_commands.specs.declared.parts.asker.Answer.{Answer}
use Rattle.client_script_commands.specs.declared.parts.asker.Stop.{Stop}
use Rattle.client_script_commands.specs.declared.parts.asker.Stop.TheVariants as stops
use Rattle.client_script_commands.specs.parts.Parts.{Next, asks, bad_reply, bad, Part, Asked, Comes, closes_refused}
use Rattle.client_script_commands.specs.parts.Told.{Carries}
use Rattle.client_script_commands.specs.commands.Replies.{piece_in}
use Rattle.client_script_commands.specs.get.Reads.{closes, if_within, read_told, reads, reads_behind}

abbrev pub Told : (E : Type 0) {F : Type 0} → Call → Asked F → Answer → Asked F → Type 0
Told E call before answer mid = (part : Part) → part [] ≡ asks call → Carries E before part mid (λ answers. part (answer ∷ answers))

abbrev pub got_by : List ℕ → Answer → List ℕ
got_by got answer = got ++ piece_in answer.reply

-- what a read is told, as a part
told_part : {E F : Type 0} → (reference : ForkRef) (offset : ℕ) (call : Call) (before : Asked F) (answer : Answer) (mid : Asked F) → call ≡ read reference offset → Told E call before answer mid
    → (next : List ℕ → Part) (got : List ℕ) → length got ≡ offset
    → Carries E before (reads reference next got) mid (λ answers. read_told answer.code reference (got_by got answer) (reads reference next (got_by got answer) answers) (next (got_by got answer)) answers)
unfolding reads
told_part reference offset call before answer mid is told next got n result final h = told (reads reference next got) (ap (λ (at : ℕ). asks (read reference at)) n ∙ ap asks (sym is)) result final h

-- a read gave bytes
pub reads_more : {E F : Type 0} → (reference : ForkRef) (offset : ℕ) (call : Call) (before : Asked F) (answer : Answer) (mid : Asked F) → call ≡ read reference offset → Told E call before answer mid
    → answer.code ≡ code.Ok → (piece : List ℕ) → piece ≡ piece_in answer.reply
    → (next : List ℕ → Part) (got : List ℕ) → length got ≡ offset → Carries E before (reads reference next got) mid (reads_behind reference next (got ++ piece))
unfolding reads_behind
reads_more {E} reference offset call before answer mid is told ok piece g next got n result final h =
    told_part {E = E} reference offset call before answer mid is told next got n result final
    (subst (λ (c : Code). Comes mid (λ answers. read_told c reference (got_by got answer) (reads reference next (got_by got answer) answers) (next (got_by got answer)) answers) result final) (sym ok)
    (subst (λ (bytes : List ℕ). Comes mid (λ answers. if_within (length (got ++ bytes)) (reads reference next (got ++ bytes) answers)) result final) g h))

-- a read met the end
pub reads_end : {E F : Type 0} → (reference : ForkRef) (offset : ℕ) (call : Call) (before : Asked F) (answer : Answer) (mid : Asked F) → call ≡ read reference offset → Told E call before answer mid
    → answer.code ≡ code.EOFErr → (piece : List ℕ) → piece ≡ piece_in answer.reply
    → (next : List ℕ → Part) (got : List ℕ) → length got ≡ offset → Carries E before (reads reference next got) mid (closes reference (next (got ++ piece)))
reads_end {E} reference offset call before answer mid is told ended piece g next got n result final h =
    told_part {E = E} reference offset call before answer mid is told next got n result final
    (subst (λ (c : Code). Comes mid (λ answers. read_told c reference (got_by got answer) (reads reference next (got_by got answer) answers) (next (got_by got answer)) answers) result final) (sym ended)
    (subst (λ (bytes : List ℕ). Comes mid (λ answers. closes reference (next (got ++ bytes)) answers) result final) g h))

refused_read : (c : Code) (reference : ForkRef) (got : List ℕ) (more : List Answer → Next) (next : Part) → (c ≡ code.Ok → ⊥) → (c ≡ code.EOFErr → ⊥)
    → (λ (answers : List Answer). read_told c reference got (more answers) next answers) ≡ closes_refused reference c
refused_read code.Ok reference got more next h k = absurd (h refl)
refused_read code.EOFErr reference got more next h k = absurd (k refl)
refused_read c reference got more next h k = refl

-- a read was refused
pub reads_refused : {E F : Type 0} → (reference : ForkRef) (offset : ℕ) (call : Call) (before : Asked F) (answer : Answer) (mid final : Asked F) (stop : Stop E) → call ≡ read reference offset → Told E call before answer mid
    → (answer.code ≡ code.Ok → ⊥) → (answer.code ≡ code.EOFErr → ⊥) → Comes mid (closes_refused reference answer.code) (Err stop) final
    → (next : List ℕ → Part) (got : List ℕ) → length got ≡ offset → Comes before (reads reference next got) (Err stop) final
reads_refused {E} reference offset call before answer mid final stop is told ok ended h next got n =
    told_part {E = E} reference offset call before answer mid is told next got n (Err stop) final
    (subst (λ (part : Part). Comes mid part (Err stop) final) (sym (refused_read answer.code reference (got_by got answer) (reads reference next (got_by got answer)) (next (got_by got answer)) ok ended)) h)

-- a read waits for its answer
pub reads_stop : {E F : Type 0} → (reference : ForkRef) (offset : ℕ) (call : Call) (before mid : Asked F) (stop : Stop E) → call ≡ read reference offset → ((part : Part) → part [] ≡ asks call → Comes before part (Err stop) mid)
    → (next : List ℕ → Part) (got : List ℕ) → length got ≡ offset → Comes before (reads reference next got) (Err stop) mid
unfolding reads
reads_stop reference offset call before mid stop is told next got n = told (reads reference next got) (ap (λ (at : ℕ). asks (read reference at)) n ∙ ap asks (sym is))

-- there was no memory for what was read
pub reads_lack : {E F : Type 0} → (reference : ForkRef) (offset : ℕ) (call : Call) (before : Asked F) (answer : Answer) (mid : Asked F) → call ≡ read reference offset → Told E call before answer mid
    → ((part : Part) → Comes {E = E} mid part (Err stops.Memory) mid) → (next : List ℕ → Part) (got : List ℕ) → length got ≡ offset → Comes {E = E} before (reads reference next got) (Err stops.Memory) mid
reads_lack {E} reference offset call before answer mid is told lacks next got n =
    told_part {E = E} reference offset call before answer mid is told next got n (Err stops.Memory) mid (lacks (λ answers. read_told answer.code reference (got_by got answer) (reads reference next (got_by got answer) answers) (next (got_by got answer)) answers))

-- where the next read may begin
pub behind_within : {E F : Type 0} → (before final : Asked F) (reference : ForkRef) (next : List ℕ → Part) (got : List ℕ) (result : Result (List ℕ) (Stop E)) → nat_lt (length got) (2 ^ 31) ≡ true
    → Comes before (reads reference next got) result final → Comes before (reads_behind reference next got) result final
unfolding reads_behind
behind_within before final reference next got result fits h = subst (λ (b : Bool). Comes before (λ answers. cond b (reads reference next got answers) bad_reply) result final) (sym fits) h

pub behind_past : {E F : Type 0} → (before : Asked F) (reference : ForkRef) (next : List ℕ → Part) (got : List ℕ) (result : Result (List ℕ) (Stop E)) → nat_lt (length got) (2 ^ 31) ≡ false
    → Comes before bad result before → Comes before (reads_behind reference next got) result before
unfolding reads_behind bad
behind_past before reference next got result past h = subst (λ (b : Bool). Comes before (λ answers. cond b (reads reference next got answers) bad_reply) result before) (sym past) h

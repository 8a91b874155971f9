-- Lists of a directory, one by one.
use Rattle.std.proofs.Common.{◌≡◌, ℕ, ◌+◌, ◌^◌, List, [], ◌∷◌, ◌++◌, length, Bool, true, false, nat_lt, Option, Some, None, Result, Err, refl, ap, sym, subst, cond}
use Rattle.std.specs.Prelude.{codes}
use Rattle.afp_base.specs.declared.code.Code.{Code}
use Rattle.afp_base.specs.declared.code.Code.TheVariants as code
use Rattle.afp_base.specs.declared.ids.VolumeId.{VolumeId}
use Rattle.afp_calls_grammar.specs.declared.grammar.call.Call.{Call}
use Rattle.afp_replies.specs.declared.list.ListEntry.{ListEntry}
use Rattle.client_script_lines.specs.calls.Requests.{list}
use Rattle.client_script_lines.specs.texts.Texts.{error_text, numbered}
use Rattle.client_script_commands.specs.declared.parts.asker.Answer.{Answer}
use Rattle.client_script_commands.specs.declared.parts.asker.Stop.{Stop}
use Rattle.client_script_commands.specs.declared.parts.asker.Stop.TheVariants as stops
use Rattle.client_script_commands.specs.parts.Parts.{Next, asks, bad_reply, bad, done, Part, Asked, Comes}
use Rattle.client_script_commands.specs.parts.Told.{Carries}
use Rattle.client_script_commands.specs.ls.Ls.{by_rows, if_within, list_told, lists, lists_behind, rows_in, rows_text}
use Rattle.client_script_commands.specs.ls.lemma.Listing.{PutsList}

abbrev pub Told : (E : Type 0) {F : Type 0} → Call → Asked F → Answer → Asked F → Type 0
Told E call before answer mid = (part : Part) → part [] ≡ asks call → Carries E before part mid (λ answers. part (answer ∷ answers))

-- what the next list leads to
abbrev pub more_of : VolumeId → List ℕ → ℕ → List ℕ → List Answer → List ListEntry → Next
more_of volume path count text answers rows = if_within (count + length rows) (lists volume path (count + length rows) (text ++ rows_text rows) answers)

-- what a list is told, as a part
told_part : {E F : Type 0} → (volume : VolumeId) (path : List ℕ) (count : ℕ) (text : List ℕ) (call : Call) (before : Asked F) (answer : Answer) (mid : Asked F) → call ≡ list volume path (count + 1) → Told E call before answer mid
    → Carries E before (lists volume path count text) mid (λ answers. list_told answer.code (rows_in answer.reply) count text (more_of volume path count text answers) answers)
unfolding lists
told_part volume path count text call before answer mid is told result final h = told (lists volume path count text) (ap asks (sym is)) result final h

some-none : (o : Option ℕ) (n : ℕ) → o ≡ Some n → o ≡ None → ⊥
some-none o n h k = cc

same-some : (m n : ℕ) → Some m ≡ Some n → m ≡ n
same-some m n h = cc

-- a list has entries
pub lists_more : {E F : Type 0} → (volume : VolumeId) (path : List ℕ) (count : ℕ) (text : List ℕ) (call : Call) (before : Asked F) (answer : Answer) (mid : Asked F) → call ≡ list volume path (count + 1) → Told E call before answer mid
    → answer.code ≡ code.Ok → (found : Option (List ListEntry)) → rows_in answer.reply ≡ found → (size : ℕ) (now : List ℕ) → PutsList found text now (Some size)
    → Carries E before (lists volume path count text) mid (lists_behind volume path (count + size) now)
unfolding lists_behind
lists_more {E} volume path count text call before answer mid is told ok None e size now puts result final h = absurd (some-none (Some size) size refl puts.0)
lists_more {E} volume path count text call before answer mid is told ok (Some rows) e size now puts result final h =
    told_part {E = E} volume path count text call before answer mid is told result final
    (subst (λ (c : Code). Comes mid (λ answers. list_told c (rows_in answer.reply) count text (more_of volume path count text answers) answers) result final) (sym ok)
    (subst (λ (o : Option (List ListEntry)). Comes mid (λ answers. by_rows o (more_of volume path count text answers)) result final) (sym e)
    (subst (λ (bytes : List ℕ). Comes mid (λ answers. if_within (count + length rows) (lists volume path (count + length rows) bytes answers)) result final) puts.1
    (subst (λ (n : ℕ). Comes mid (λ answers. if_within (count + n) (lists volume path (count + n) now answers)) result final) (same-some size (length rows) puts.0) h))))

-- a reply is no list
pub lists_bad : (E : Type 0) {F : Type 0} → (volume : VolumeId) (path : List ℕ) (count : ℕ) (text : List ℕ) (call : Call) (before : Asked F) (answer : Answer) (mid : Asked F) → call ≡ list volume path (count + 1) → Told E call before answer mid
    → answer.code ≡ code.Ok → (found : Option (List ListEntry)) → rows_in answer.reply ≡ found → (now : List ℕ) → PutsList found text now None
    → Comes {E = E} mid bad (Err stops.BadReply) mid → Comes {E = E} before (lists volume path count text) (Err stops.BadReply) mid
unfolding bad
lists_bad E volume path count text call before answer mid is told ok None e now puts h =
    told_part {E = E} volume path count text call before answer mid is told (Err stops.BadReply) mid
    (subst (λ (c : Code). Comes {E = E} mid (λ answers. list_told c (rows_in answer.reply) count text (more_of volume path count text answers) answers) (Err stops.BadReply) mid) (sym ok)
    (subst (λ (o : Option (List ListEntry)). Comes {E = E} mid (λ answers. by_rows o (more_of volume path count text answers)) (Err stops.BadReply) mid) (sym e) h))
lists_bad E volume path count text call before answer mid is told ok (Some rows) e now puts h = absurd (some-none None (length rows) puts.0 refl)

-- there are no more
pub lists_end : {E F : Type 0} → (volume : VolumeId) (path : List ℕ) (count : ℕ) (text : List ℕ) (call : Call) (before : Asked F) (answer : Answer) (mid : Asked F) → call ≡ list volume path (count + 1) → Told E call before answer mid
    → answer.code ≡ code.ObjectNotFound → Carries E before (lists volume path count text) mid (done (text ++ numbered (codes "listed ") count))
lists_end {E} volume path count text call before answer mid is told ended result final h =
    told_part {E = E} volume path count text call before answer mid is told result final
    (subst (λ (c : Code). Comes mid (λ answers. list_told c (rows_in answer.reply) count text (more_of volume path count text answers) answers) result final) (sym ended) h)

refused_list : (c : Code) (rows : Option (List ListEntry)) (count : ℕ) (text : List ℕ) (more : List Answer → List ListEntry → Next) → (c ≡ code.Ok → ⊥) → (c ≡ code.ObjectNotFound → ⊥)
    → (λ (answers : List Answer). list_told c rows count text (more answers) answers) ≡ done (text ++ error_text c)
refused_list code.Ok rows count text more h k = absurd (h refl)
refused_list code.ObjectNotFound rows count text more h k = absurd (k refl)
refused_list c rows count text more h k = refl

-- a list was refused
pub lists_refused : {E F : Type 0} → (volume : VolumeId) (path : List ℕ) (count : ℕ) (text : List ℕ) (call : Call) (before : Asked F) (answer : Answer) (mid : Asked F) → call ≡ list volume path (count + 1) → Told E call before answer mid
    → (answer.code ≡ code.Ok → ⊥) → (answer.code ≡ code.ObjectNotFound → ⊥) → Carries E before (lists volume path count text) mid (done (text ++ error_text answer.code))
lists_refused {E} volume path count text call before answer mid is told ok ended result final h =
    told_part {E = E} volume path count text call before answer mid is told result final
    (subst (λ (part : Part). Comes mid part result final) (sym (refused_list answer.code (rows_in answer.reply) count text (more_of volume path count text) ok ended)) h)

-- a list waits for its answer
pub lists_stop : {E F : Type 0} → (volume : VolumeId) (path : List ℕ) (count : ℕ) (text : List ℕ) (call : Call) (before mid : Asked F) (stop : Stop E) → call ≡ list volume path (count + 1)
    → ((part : Part) → part [] ≡ asks call → Comes before part (Err stop) mid) → Comes before (lists volume path count text) (Err stop) mid
unfolding lists
lists_stop volume path count text call before mid stop is told = told (lists volume path count text) (ap asks (sym is))

-- there was no memory for what was listed
pub lists_lack : {E F : Type 0} → (volume : VolumeId) (path : List ℕ) (count : ℕ) (text : List ℕ) (call : Call) (before : Asked F) (answer : Answer) (mid : Asked F) → call ≡ list volume path (count + 1) → Told E call before answer mid
    → ((part : Part) → Comes {E = E} mid part (Err stops.Memory) mid) → Comes {E = E} before (lists volume path count text) (Err stops.Memory) mid
lists_lack {E} volume path count text call before answer mid is told lacks =
    told_part {E = E} volume path count text call before answer mid is told (Err stops.Memory) mid (lacks (λ answers. list_told answer.code (rows_in answer.reply) count text (more_of volume path count text answers) answers))

-- where the next list may begin
pub behind_within : {E F : Type 0} → (before final : Asked F) (volume : VolumeId) (path : List ℕ) (count : ℕ) (text : List ℕ) (result : Result (List ℕ) (Stop E)) → nat_lt (count + 1) (2 ^ 32) ≡ true
    → Comes before (lists volume path count text) result final → Comes before (lists_behind volume path count text) result final
unfolding lists_behind
behind_within before final volume path count text result fits h = subst (λ (b : Bool). Comes before (λ answers. cond b (lists volume path count text answers) bad_reply) result final) (sym fits) h

pub behind_past : {E F : Type 0} → (before : Asked F) (volume : VolumeId) (path : List ℕ) (count : ℕ) (text : List ℕ) (result : Result (List ℕ) (Stop E)) → nat_lt (count + 1) (2 ^ 32) ≡ false
    → Comes before bad result before → Comes before (lists_behind volume path count text) result before
unfolding lists_behind bad
behind_past before volume path count text result past h = subst (λ (b : Bool). Comes before (λ answers. cond b (lists volume path count text answers) bad_reply) result before) (sym past) h

-- What a call for a comment is told.
use Rattle.std.proofs.Common.{◌≡◌, ℕ, ◌<◌, List, length, take, Option, Some, None, option_map, Ok, Err, refl, ap, sym, subst, ◌∙◌, arith, length-take}
use Rattle.afp_base.specs.declared.code.Code.{Code}
use Rattle.afp_base.specs.declared.code.Code.TheVariants as code
use Rattle.afp_calls_grammar.specs.declared.grammar.call.Call.{Call}
use Rattle.afp_replies.specs.declared.reply.Reply.{Reply}
use Rattle.apple_double.specs.Contents as contents
use Rattle.apple_double.specs.Written.{IsComment}
use Rattle.client_script_commands.specs.declared.parts.asker.Answer.{Answer}
use Rattle.client_script_commands.specs.declared.parts.asker.Stop.{Stop}
use Rattle.client_script_commands.specs.declared.parts.asker.Stop.TheVariants as stops
use Rattle.client_script_commands.specs.parts.Parts.{Asked, Comes, Part, ask, bad, needs, refuses}
use Rattle.client_script_commands.specs.parts.Told.{Carries}
use Rattle.client_script_commands.specs.commands.Replies.{comment_in}
use Rattle.client_script_commands.specs.parcels.Comments.{ask_comment, comment_told}

-- the call was told this
abbrev pub Told : (E : Type 0) {F : Type 0} → Call → Asked F → Answer → Asked F → Type 0
Told E call before answer mid = (next : Answer → Part) → Carries E before (ask call next) mid (next answer)

-- what follows the comment that a reply shows
needs_map : (o : Option (List ℕ)) (next : Option (List ℕ) → Part) → needs o (λ text. next (contents.comment_in text)) ≡ needs (option_map contents.comment_in o) next
needs_map (Some text) next = refl
needs_map None next = refl

shown : (reply : Reply) (found : Option (Option (List ℕ))) → found ≡ option_map contents.comment_in (comment_in reply) → (next : Option (List ℕ) → Part)
    → comment_told code.Ok reply next ≡ needs found next
shown reply found is next = needs_map (comment_in reply) next ∙ ap (λ (o : Option (Option (List ℕ))). needs o next) (sym is)

told_ok : {E F : Type 0} → (call : Call) (before : Asked F) (answer : Answer) (mid : Asked F) → Told E call before answer mid → answer.code ≡ code.Ok
    → (found : Option (Option (List ℕ))) → found ≡ option_map contents.comment_in (comment_in answer.reply)
    → (next : Option (List ℕ) → Part) → Carries E before (ask_comment call next) mid (needs found next)
unfolding ask_comment
told_ok {E} call before answer mid told ok found is next result final h =
    told (λ a. comment_told a.code a.reply next) result final
    (subst (λ (part : Part). Comes mid part result final) (sym (ap (λ (c : Code). comment_told c answer.reply next) ok ∙ shown answer.reply found is next)) h)

-- a comment, or that it is empty
pub comment_some : {E F : Type 0} → (call : Call) (before : Asked F) (answer : Answer) (mid : Asked F) → Told E call before answer mid → answer.code ≡ code.Ok
    → (found : Option (Option (List ℕ))) → found ≡ option_map contents.comment_in (comment_in answer.reply) → (comment : Option (List ℕ)) → found ≡ Some comment
    → (next : Option (List ℕ) → Part) → Carries E before (ask_comment call next) mid (next comment)
comment_some {E} call before answer mid told ok found is comment some next =
    told_ok {E = E} call before answer mid told ok (Some comment) (sym some ∙ is) next

-- a reply to another call
pub comment_bad : {E F : Type 0} → (call : Call) (before : Asked F) (answer : Answer) (mid : Asked F) → Told E call before answer mid → answer.code ≡ code.Ok
    → (found : Option (Option (List ℕ))) → found ≡ option_map contents.comment_in (comment_in answer.reply) → found ≡ None
    → Comes {E = E} mid bad (Err stops.BadReply) mid → (next : Option (List ℕ) → Part) → Comes {E = E} before (ask_comment call next) (Err stops.BadReply) mid
comment_bad {E} call before answer mid told ok found is none h next =
    told_ok {E = E} call before answer mid told ok None (sym none ∙ is) next (Err stops.BadReply) mid h

-- there is none
pub comment_none : {E F : Type 0} → (call : Call) (before : Asked F) (answer : Answer) (mid : Asked F) → Told E call before answer mid → answer.code ≡ code.ItemNotFound
    → (next : Option (List ℕ) → Part) → Carries E before (ask_comment call next) mid (next None)
unfolding ask_comment
comment_none {E} call before answer mid told none next result final h =
    told (λ a. comment_told a.code a.reply next) result final
    (subst (λ (part : Part). Comes mid part result final) (sym (ap (λ (c : Code). comment_told c answer.reply next) none)) h)

refused_told : (c : Code) (reply : Reply) (next : Option (List ℕ) → Part) → (c ≡ code.Ok → ⊥) → (c ≡ code.ItemNotFound → ⊥) → comment_told c reply next ≡ refuses c
refused_told code.Ok reply next h k = absurd (h refl)
refused_told code.ItemNotFound reply next h k = absurd (k refl)
refused_told c reply next h k = refl

-- a refusal
pub comment_refused : {E F : Type 0} → (call : Call) (before : Asked F) (answer : Answer) (mid : Asked F) (stop : Stop E) → Told E call before answer mid
    → (answer.code ≡ code.Ok → ⊥) → (answer.code ≡ code.ItemNotFound → ⊥) → Comes mid (refuses answer.code) (Err stop) mid
    → (next : Option (List ℕ) → Part) → Comes before (ask_comment call next) (Err stop) mid
unfolding ask_comment
comment_refused {E} call before answer mid stop told h k r next =
    told (λ a. comment_told a.code a.reply next) (Err stop) mid
    (subst (λ (part : Part). Comes mid part (Err stop) mid) (sym (refused_told answer.code answer.reply next h k)) r)

-- no answer
pub comment_stop : {E F : Type 0} → (call : Call) (before mid : Asked F) (stop : Stop E) → ((next : Answer → Part) → Comes before (ask call next) (Err stop) mid)
    → (next : Option (List ℕ) → Part) → Comes before (ask_comment call next) (Err stop) mid
unfolding ask_comment
comment_stop call before mid stop told next = told (λ a. comment_told a.code a.reply next)

-- there was no memory for the comment
pub comment_lack : {E F : Type 0} → (call : Call) (before : Asked F) (answer : Answer) (mid : Asked F) → Told E call before answer mid
    → ((part : Part) → Comes {E = E} mid part (Err stops.Memory) mid) → (next : Option (List ℕ) → Part) → Comes {E = E} before (ask_comment call next) (Err stops.Memory) mid
unfolding ask_comment
comment_lack {E} call before answer mid told lacks next =
    told (λ a. comment_told a.code a.reply next) (Err stops.Memory) mid (lacks (comment_told answer.code answer.reply next))

-- a text with bytes, cut, is a comment
pub comment_is : (text comment : List ℕ) → 0 < length text → comment ≡ take contents.longest_comment text → IsComment comment
comment_is text comment some is = (
  omega (arith, some, ap length is, length-take contents.longest_comment text),
  omega (arith, ap length is, length-take contents.longest_comment text),
)

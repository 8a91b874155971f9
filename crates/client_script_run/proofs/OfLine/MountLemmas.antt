-- What FPOpenVol was told leads to.
use Rattle.std.proofs.Common.{◌≡◌, ℕ, List, [], ◌∷◌, ◌++◌, Option, Some, None, Result, Ok, Err, refl, sym, ap, subst, ◌∙◌, codes, rules}
use Rattle.std.proofs.lemmas.List.{append-nil}
use Rattle.afp_base.specs.declared.code.Code.{Code}
use Rattle.afp_base.specs.declared.code.Code.TheVariants as code
use Rattle.afp_base.specs.declared.ids.VolumeId.{VolumeId}
use Rattle.afp_replies.specs.declared.reply.Reply.{Reply}
use Rattle.client_script_lines.specs.declared.lines.line.ScriptLine.TheVariants as lines
use Rattle.client_script_lines.specs.texts.Texts.{numbered}
use Rattle.client_script_lines.specs.calls.Requests.{open_volume}
use Rattle.client_script_commands.specs.declared.parts.asker.Answer.{Answer}
use Rattle.client_script_commands.specs.declared.parts.asker.Stop.{Stop}
use Rattle.client_script_commands.specs.declared.parts.asker.Stop.TheVariants as stops
use Rattle.client_script_commands.specs.parts.Parts.{ask, asks, bad, by_code, done, must, must_tell, needs, refuses, with_more, Asked, Comes, Exchange, Part, Runs}
use Rattle.client_script_commands.specs.commands.Mount.{mount}
use Rattle.client_script_commands.specs.commands.Replies.{volume_in}
use Rattle.client_script_run.specs.line.Run.{IsTold, Mounts, OpensVolume, opened_by, volume_by, volume_told}

cancel : {A : Type 0} (ys xs zs : List A) → ys ++ xs ≡ ys ++ zs → xs ≡ zs
cancel [] xs zs e = e
cancel {A} (y ∷ ys) xs zs e = cancel ys xs zs (ap tail e) where
  tail : List A → List A
  tail [] = []
  tail (x ∷ rest) = rest

-- the exchanges of a log that has more of them
log-more : {F : Type 0} (before after : Asked F) (xs : List Exchange) → after ≡ with_more before xs → after.exchanges ≡ before.exchanges ++ xs
log-more {F} before after xs log = ap (λ (a : Asked F). a.exchanges) log

more-is : {F : Type 0} (before after : Asked F) (xs ys : List Exchange) → after ≡ with_more before xs → after.exchanges ≡ before.exchanges ++ ys → xs ≡ ys
more-is {F} before after xs ys log is = cancel before.exchanges xs ys (sym (log-more before after xs log) ∙ is)

none-more : {F : Type 0} (before after : Asked F) (xs : List Exchange) → after.exchanges ≡ before.exchanges → after.exchanges ≡ before.exchanges ++ xs → xs ≡ []
none-more {F} before after xs same is = sym (cancel before.exchanges [] xs (append-nil before.exchanges ∙ sym same ∙ is))

with-none : {F : Type 0} (before : Asked F) → before ≡ with_more before []
with-none {F} before = ap {B = Asked F} (λ (xs : List Exchange). record before { exchanges = xs }) (sym (append-nil before.exchanges))

err-ok : {A B : Type 0} (b : B) (a : A) → Err b ≡ Ok a → ⊥
err-ok b a e = search rules

ok-err : {A B : Type 0} (b : B) (a : A) → Ok a ≡ Err b → ⊥
ok-err b a e = search rules

-- what an opened volume prints
abbrev pub says : VolumeId → Part
says volume = done (numbered (codes "mounted ") volume.0)

-- an answer, by what it tells
by-ok : (E : Type 0) (c : Code) (reply : Reply) (found : Option VolumeId) (volume : VolumeId) → opened_by {E = E} c found ≡ Ok volume → by_code c reply (λ r. needs found says) refuses ≡ says volume
by-ok E code.Ok reply (Some w) volume e = ap (λ (r : Result VolumeId (Stop E)). said r) e where
  said : Result VolumeId (Stop E) → Part
  said (Ok v) = says v
  said (Err stop) = bad
by-ok E code.Ok reply None volume e = absurd (err-ok _ _ e)
by-ok E c reply found volume e = absurd (err-ok _ _ e)

by-refused : (E : Type 0) (c : Code) (reply : Reply) (found : Option VolumeId) (d : Code) → opened_by {E = E} c found ≡ Err (stops.Refused d) → by_code c reply (λ r. needs found says) refuses ≡ refuses d
by-refused E code.Ok reply (Some w) d e = absurd (ok-err _ _ e)
by-refused E code.Ok reply None d e = absurd (search rules)
by-refused E c reply found d e = ap (λ (r : Result VolumeId (Stop E)). refusal r) e where
  refusal : Result VolumeId (Stop E) → Part
  refusal (Ok v) = bad
  refusal (Err (stops.Refused c)) = refuses c
  refusal (Err stop) = bad

by-bad : (E : Type 0) (c : Code) (reply : Reply) (found : Option VolumeId) → opened_by {E = E} c found ≡ Err stops.BadReply → by_code c reply (λ r. needs found says) refuses ≡ bad
by-bad E code.Ok reply (Some w) e = absurd (ok-err _ _ e)
by-bad E code.Ok reply None e = refl
by-bad E c reply found e = absurd (search rules)

one-reply : (c : Code) (reply : Reply) → by_code c reply (λ r. needs (volume_in r) says) refuses ≡ by_code c reply (λ r. needs (volume_in reply) says) refuses
one-reply code.Ok reply = refl
one-reply c reply = refl

mount-asks : (name : List ℕ) → mount name [] ≡ asks (open_volume name)
unfolding must_tell must ask
mount-asks name = refl

mount-told : (name : List ℕ) (answer : Answer) (answers : List Answer) → mount name (answer ∷ answers) ≡ by_code answer.code answer.reply (λ r. needs (volume_in r) says) refuses answers
unfolding must_tell must ask
mount-told name answer answers = refl

mount-runs : {F : Type 0} (name : List ℕ) (before after : Asked F) (answer : Answer) (left : Part) → after ≡ with_more before ((record { call = open_volume name; answer = answer }) ∷ [])
    → by_code answer.code answer.reply (λ r. needs (volume_in answer.reply) says) refuses ≡ left → Runs before (mount name) left after
mount-runs name before after answer left log e = record {
  exchanges = (record { call = open_volume name; answer = answer }) ∷ [];
  log = log;
  leads = (mount-asks name, λ (answers : List Answer). mount-told name answer answers ∙ ap (λ (part : Part). part answers) (one-reply answer.code answer.reply ∙ e));
}

pub told-runs : {E F : Type 0} (name : List ℕ) (before after : Asked F) (volume : VolumeId) → IsTold {E = E} name before (Ok volume) after → Runs before (mount name) (says volume) after
told-runs {E} name before after volume t = mount-runs name before after t.answer (says volume) t.log (by-ok E t.answer.code t.answer.reply (volume_in t.answer.reply) volume (sym t.is))

pub comes-told : {E F : Type 0} (name : List ℕ) (before after : Asked F) (volume : VolumeId) (text : List ℕ) → OpensVolume {E = E} name before (Ok volume) after → text ≡ numbered (codes "mounted ") volume.0
    → Comes {E = E} before (mount name) (Ok text) after
unfolding Comes
comes-told {E} name before after volume text t e = subst (λ (x : List ℕ). Runs before (mount name) (done x) after) (sym e) (told-runs {E = E} name before after volume t)

pub comes-lack : {E F : Type 0} (name : List ℕ) (before after : Asked F) (volume : VolumeId) → OpensVolume {E = E} name before (Ok volume) after → Comes {E = E} before (mount name) (Err stops.Memory) after
unfolding Comes
comes-lack {E} name before after volume t =
    record { left = says volume; mid = after; runs = told-runs {E = E} name before after volume t; fixed = refl; exchanges = refl }

-- nothing was asked
unasked : {F : Type 0} (name : List ℕ) (before : Asked F) → Runs before (mount name) (mount name) before
unasked name before = record { exchanges = []; log = with-none before; leads = λ answers. refl }

pub comes-unasked : (E : Type 0) {F : Type 0} (name : List ℕ) (before : Asked F) → Comes {E = E} before (mount name) (Err stops.Memory) before
unfolding Comes
comes-unasked E name before = record { left = mount name; mid = before; runs = unasked name before; fixed = refl; exchanges = refl }

pub comes-stop : {E F : Type 0} (name : List ℕ) (before after : Asked F) (stop : Stop E) → OpensVolume name before (Err stop) after → Comes before (mount name) (Err stop) after
unfolding Comes
comes-stop {E} name before after (stops.Refused c) t = mount-runs name before after t.answer (refuses c) t.log (by-refused E t.answer.code t.answer.reply (volume_in t.answer.reply) c (sym t.is))
comes-stop {E} name before after stops.BadReply t = mount-runs name before after t.answer bad t.log (by-bad E t.answer.code t.answer.reply (volume_in t.answer.reply) (sym t.is))
comes-stop name before after (stops.Ended end) t = record {
  call = open_volume name;
  left = mount name;
  next = mount-asks name;
  mid = before;
  runs = unasked name before;
  waits = t;
}
comes-stop name before after stops.Memory t = record {
  left = mount name;
  mid = before;
  runs = unasked name before;
  fixed = ap (λ (a : Asked _). a.fixed) t;
  exchanges = ap (λ (a : Asked _). a.exchanges) t;
}

-- the volume that is mounted then
volume-ok : (E : Type 0) (old : Option VolumeId) (c : Code) (found : Option VolumeId) (volume : VolumeId) → opened_by {E = E} c found ≡ Ok volume → Some volume ≡ volume_told old c found
volume-ok E old code.Ok (Some w) volume e = sym (ap (λ (r : Result VolumeId (Stop E)). ok_of r) e) where
  ok_of : Result VolumeId (Stop E) → Option VolumeId
  ok_of (Ok v) = Some v
  ok_of (Err stop) = None
volume-ok E old code.Ok None volume e = absurd (err-ok _ _ e)
volume-ok E old c found volume e = absurd (err-ok _ _ e)

volume-err : (E : Type 0) (old : Option VolumeId) (c : Code) (found : Option VolumeId) (stop : Stop E) → opened_by {E = E} c found ≡ Err stop → old ≡ volume_told old c found
volume-err E old code.Ok (Some w) stop e = absurd (ok-err _ _ e)
volume-err E old code.Ok None stop e = refl
volume-err E old c found stop e = refl

pub mounts-told : {E F : Type 0} (word name : List ℕ) (before after : Asked F) (old : Option VolumeId) (volume : VolumeId) → OpensVolume {E = E} name before (Ok volume) after
    → Mounts old (lines.Mount word) before after (Some volume)
mounts-told {E} word name before after old volume t xs is =
    volume-ok E old t.answer.code (volume_in t.answer.reply) volume (sym t.is)
    ∙ ap (λ (ys : List Exchange). volume_by old ys) (more-is before after ((record { call = open_volume name; answer = t.answer }) ∷ []) xs t.log is)

mounts-none : {F : Type 0} (word : List ℕ) (before after : Asked F) (old : Option VolumeId) → after.exchanges ≡ before.exchanges → Mounts old (lines.Mount word) before after old
mounts-none word before after old e xs is = sym (ap (λ (ys : List Exchange). volume_by old ys) (none-more before after xs e is))

mounts-err : {E F : Type 0} (word name : List ℕ) (before after : Asked F) (old : Option VolumeId) (stop : Stop E) → IsTold name before (Err stop) after → Mounts old (lines.Mount word) before after old
mounts-err {E} word name before after old stop t xs is =
    volume-err E old t.answer.code (volume_in t.answer.reply) stop (sym t.is)
    ∙ ap (λ (ys : List Exchange). volume_by old ys) (more-is before after ((record { call = open_volume name; answer = t.answer }) ∷ []) xs t.log is)

pub mounts-stop : {E F : Type 0} (word name : List ℕ) (before after : Asked F) (old : Option VolumeId) (stop : Stop E) → OpensVolume name before (Err stop) after → Mounts old (lines.Mount word) before after old
mounts-stop word name before after old (stops.Refused c) t = mounts-err word name before after old (stops.Refused c) t
mounts-stop word name before after old stops.BadReply t = mounts-err word name before after old stops.BadReply t
mounts-stop word name before after old (stops.Ended end) t = mounts-none word before after old (ap (λ (a : Asked _). a.exchanges) t)
mounts-stop word name before after old stops.Memory t = mounts-none word before after old (ap (λ (a : Asked _). a.exchanges) t)

pub mounts-unasked : {F : Type 0} (word : List ℕ) (before : Asked F) (old : Option VolumeId) → Mounts old (lines.Mount word) before before old
mounts-unasked word before old = mounts-none word before before old refl

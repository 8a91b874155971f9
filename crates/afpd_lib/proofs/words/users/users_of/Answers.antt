use Rattle.std.proofs.Common.{◌≡◌, ◌<◌, ℕ, List, ap, sym, map, length, rules, ◌++◌, ◌∷◌, [], ◌∙◌}
use Rattle.std.specs.Prelude.{Some, None}
use Rattle.std.proofs.lemmas.List.{map-append}
use Rattle.std.specs.List.{after_first, before_first, position_or_len}
use Rattle.afpd_lib.specs.words.Users.{comma, user_in}
use Rattle.afpd_lib.specs.words.lemma.Values.{user_value}
use Rattle.afpd_lib.proofs.OfWords.FirstParts.{some-passes, none-passes}
use Rattle.afpd_lib.proofs.OfWords.ReadUsers.{more, refused, refused-last, ended}
use Rattle.afpd_lib.proofs.words.users.users_of.Goals as goal

pub returns-in_default-user_of-clause-bad : goal.returns-in_default-user_of-clause-bad
returns-in_default-user_of-clause-bad c = λ _ values are.
    let parts : (c.in-Some.first.now ≡ before_first comma c.loop-first.rest.now) × (c.in-Some.more.now ≡ after_first comma c.loop-first.rest.now)
    × (position_or_len comma c.loop-first.rest.now < length c.loop-first.rest.now) = search rules in
    let parted = some-passes comma c.loop-first.rest.now parts.2 in
    let none : user_in c.in-Some.first.now ≡ None = search rules in
    refused c.args.text.now c.loop-first.rest.now _ parted (ap (λ (t : List ℕ). user_in t) (sym parts.0) ∙ none) c.loop-first.invariant.1 values are

pub loop-first-preserved : goal.loop-first-preserved
loop-first-preserved c =
    let parts : (c.in-Some.first.now ≡ before_first comma c.loop-first.rest.now) × (c.in-Some.more.now ≡ after_first comma c.loop-first.rest.now)
    × (position_or_len comma c.loop-first.rest.now < length c.loop-first.rest.now) = search rules in
    let parted = some-passes comma c.loop-first.rest.now parts.2 in
    let is : user_in c.in-Some.first.now ≡ Some (user_value c.in-Some-user_of.user) = search rules in
    let list : map user_value c.push.new.self.items ≡ map user_value c.loop-first.users.items ++ user_value c.in-Some-user_of.user ∷ [] =
    ap (map user_value) c.in-Ok.ensures.items ∙ map-append user_value c.loop-first.users.items (c.in-Some-user_of.user ∷ []) in
    (search rules, rw (parts.1, list) (more c.args.text.now c.loop-first.rest.now _ _ parted (ap (λ (t : List ℕ). user_in t) (sym parts.0) ∙ is) c.loop-first.invariant.1))

pub returns-in_default-user_of-2-clause-bad : goal.returns-in_default-user_of-2-clause-bad
returns-in_default-user_of-2-clause-bad c = λ _ values are.
    let whole = none-passes comma c.loop-first.rest.now (search rules) in
    let none : user_in c.loop-first.rest.now ≡ None = search rules in
    refused-last c.args.text.now c.loop-first.rest.now _ whole none c.loop-first.invariant.1 values are

pub returns-clause-found : goal.returns-clause-found
returns-clause-found c =
    let whole = none-passes comma c.loop-first.rest.now (search rules) in
    let is : user_in c.loop-first.rest.now ≡ Some (user_value c.in-Some-user_of-2.user) = search rules in
    let list : map user_value c.push-2.new.self.items ≡ map user_value c.loop-first.users.items ++ user_value c.in-Some-user_of-2.user ∷ [] =
    ap (map user_value) c.in-Ok-push.ensures.items ∙ map-append user_value c.loop-first.users.items (c.in-Some-user_of-2.user ∷ []) in
    rw list (ended c.args.text.now c.loop-first.rest.now _ _ whole is c.loop-first.invariant.1)

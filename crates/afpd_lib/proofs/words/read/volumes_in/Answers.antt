use Rattle.std.proofs.Common.{◌≡◌, ◌∙◌, sym, ap, subst, Some, None, map, List, ℕ, codes}
use Rattle.std.specs.Prelude.{option_map}
use Rattle.std.proofs.lemmas.Result.{IfOk-weaker}
use Rattle.clap.specs.Walk.{all_of, rows_of}
use Rattle.clap.specs.Words.{found_of}
use Rattle.clap.proofs.WalkLemmas.{raw_values-rows}
use Rattle.afpd_lib.specs.words.Places.{AreVolumes}
use Rattle.afpd_lib.proofs.words.read.volumes_in.Goals as goal

some-same : (a b : List (List ℕ)) → Some a ≡ Some b → a ≡ b
some-same a b is = cc

pub returns-in-Some-clause-found : goal.returns-in-Some-clause-found
returns-in-Some-clause-found c =
    let row : all_of (codes "volumes") (rows_of (found_of c.args.matches.now)) ≡ Some (map (λ s. s.now) c.in-Some.words.now) =
    sym (raw_values-rows (found_of c.args.matches.now) (codes "volumes")) ∙ sym c.get_strs.ensures ∙ ap (option_map (λ s. map (λ v. v.now) s.now)) c.in-Some.is in
    IfOk-weaker c.volumes_of.result _ _ (λ volumes are. (map (λ s. s.now) c.in-Some.words.now, row, are)) c.volumes_of.ensures.found

pub returns-in-Some-clause-bad : goal.returns-in-Some-clause-bad
returns-in-Some-clause-bad c = λ err words values is are.
    let row : all_of (codes "volumes") (rows_of (found_of c.args.matches.now)) ≡ Some (map (λ s. s.now) c.in-Some.words.now) =
    sym (raw_values-rows (found_of c.args.matches.now) (codes "volumes")) ∙ sym c.get_strs.ensures ∙ ap (option_map (λ s. map (λ v. v.now) s.now)) c.in-Some.is in
    c.volumes_of.ensures.bad err values (subst (λ l. AreVolumes l values) (some-same _ _ (sym is ∙ row)) are)

pub returns-in-None-clause-bad : goal.returns-in-None-clause-bad
returns-in-None-clause-bad c = λ _ words values is are.
    let row : all_of (codes "volumes") (rows_of (found_of c.args.matches.now)) ≡ None =
    sym (raw_values-rows (found_of c.args.matches.now) (codes "volumes")) ∙ sym c.get_strs.ensures ∙ ap (option_map (λ s. map (λ v. v.now) s.now)) c.in-None.is in
    let wrong : Some words ≡ None = sym is ∙ row in
    cc

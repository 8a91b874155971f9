use Rattle.std.proofs.Common.{ℕ, ℤ, List, rules, w32, ap, ◌∙◌, ◌++◌}
use Rattle.std.specs.Int.{cast_unsigned}
use Rattle.std.proofs.lemmas.Int.{to_z-of_z}
use Rattle.byteorder.specs.Endian.{big_bytes}
use Rattle.apple_double.specs.Contents.{never}
use Rattle.apple_double.specs.Written.{dates_bytes, date_bytes}
use Rattle.apple_double.proofs.Pieces.{behind}
use Rattle.apple_double.proofs.write.put_dates.Goals as goal

pub returns-clause-ok : goal.returns-clause-ok
unfolding dates_bytes
returns-clause-ok c =
    let o : List ℕ = c.args.out.now in
    let s1 : List ℕ = c.push_u32.new.self in
    let s2 : List ℕ = c.push_u32-2.new.self in
    let s3 : List ℕ = c.push_u32-3.new.self in
    let a : List ℕ = date_bytes c.args.p.now.created in
    let b : List ℕ = date_bytes c.args.p.now.modified in
    let d : List ℕ = date_bytes c.args.p.now.backup in
    let z1 = to_z-of_z w32 c.args.p.now.created (search rules) in
    let z2 = to_z-of_z w32 c.args.p.now.modified (search rules) in
    let z3 = to_z-of_z w32 c.args.p.now.backup (search rules) in
    let d1 = c.in_ok-push_u32.ensures.ok ∙ ap (λ (n : ℕ). o ++ big_bytes 4 n) (c.cast_unsigned.ensures ∙ ap (λ (z : ℤ). cast_unsigned w32 z) z1) in
    let d2 = c.in_ok-push_u32-2.ensures.ok ∙ ap (λ (n : ℕ). s1 ++ big_bytes 4 n) (c.cast_unsigned-2.ensures ∙ ap (λ (z : ℤ). cast_unsigned w32 z) z2) in
    let d3 = c.in_ok-push_u32-3.ensures.ok ∙ ap (λ (n : ℕ). s2 ++ big_bytes 4 n) (c.cast_unsigned-3.ensures ∙ ap (λ (z : ℤ). cast_unsigned w32 z) z3) in
    let e2 = behind o s1 s2 a b d1 d2 in
    let e3 = behind o s2 s3 (a ++ b) d e2 d3 in
    behind o s3 c.push_u32-4.new.self (a ++ b ++ d) (big_bytes 4 never) e3 c.in_ok-push_u32-4.ensures.ok

-- Bytes hold one file at most.
use Rattle.std.proofs.Common.{◌≡◌, ◌∙◌, ℕ, ℤ, List, refl, sym, ap, arith}
use Rattle.std.specs.Prelude.{Option}
use Rattle.apple_double.specs.declared.parcel.Parcel.{Parcel}
use Rattle.apple_double.specs.declared.parcel.Shape.{Shape}
use Rattle.apple_double.specs.declared.parcel.Shape.TheVariants as shapes
use Rattle.apple_double.specs.Contents.{data_in, data_id}
use Rattle.apple_double.specs.Format.{magic_of, part}
use Rattle.apple_double.specs.Parcel.{Parcels}

one_format : (s t : Shape) → magic_of s ≡ magic_of t → s ≡ t
one_format shapes.Single shapes.Single e = refl
one_format shapes.Double shapes.Double e = refl
one_format shapes.Single shapes.Double e = absurd (omega (arith, e))
one_format shapes.Double shapes.Single e = absurd (omega (arith, e))

same_fields : (p q : Parcel) → p.name ≡ q.name → p.created ≡ q.created → p.modified ≡ q.modified → p.backup ≡ q.backup → p.finder ≡ q.finder → p.comment ≡ q.comment
    → p.data_fork ≡ q.data_fork → p.resource_fork ≡ q.resource_fork → p ≡ q
same_fields p q n c m b f o d r =
    let at0 : Option (List ℕ) → Parcel = λ z. record { name = z; created = p.created; modified = p.modified; backup = p.backup; finder = p.finder; comment = p.comment; data_fork = p.data_fork; resource_fork = p.resource_fork } in
    let at1 : ℤ → Parcel = λ z. record { name = q.name; created = z; modified = p.modified; backup = p.backup; finder = p.finder; comment = p.comment; data_fork = p.data_fork; resource_fork = p.resource_fork } in
    let at2 : ℤ → Parcel = λ z. record { name = q.name; created = q.created; modified = z; backup = p.backup; finder = p.finder; comment = p.comment; data_fork = p.data_fork; resource_fork = p.resource_fork } in
    let at3 : ℤ → Parcel = λ z. record { name = q.name; created = q.created; modified = q.modified; backup = z; finder = p.finder; comment = p.comment; data_fork = p.data_fork; resource_fork = p.resource_fork } in
    let at4 : List ℕ → Parcel = λ z. record { name = q.name; created = q.created; modified = q.modified; backup = q.backup; finder = z; comment = p.comment; data_fork = p.data_fork; resource_fork = p.resource_fork } in
    let at5 : Option (List ℕ) → Parcel = λ z. record { name = q.name; created = q.created; modified = q.modified; backup = q.backup; finder = q.finder; comment = z; data_fork = p.data_fork; resource_fork = p.resource_fork } in
    let at6 : List ℕ → Parcel = λ z. record { name = q.name; created = q.created; modified = q.modified; backup = q.backup; finder = q.finder; comment = q.comment; data_fork = z; resource_fork = p.resource_fork } in
    let at7 : List ℕ → Parcel = λ z. record { name = q.name; created = q.created; modified = q.modified; backup = q.backup; finder = q.finder; comment = q.comment; data_fork = q.data_fork; resource_fork = z } in
    ap at0 n
    ∙ ap at1 c
    ∙ ap at2 m
    ∙ ap at3 b
    ∙ ap at4 f
    ∙ ap at5 o
    ∙ ap at6 d
    ∙ ap at7 r

pub one-file : (bytes : List ℕ) (s t : Shape) (p q : Parcel) → Parcels bytes s p → Parcels bytes t q → (s ≡ t) × (p ≡ q)
one-file bytes s t p q a b =
    let same = one_format s t (sym a.format ∙ b.format) in (
      same,
      same_fields p q (a.name ∙ sym b.name) (a.created ∙ sym b.created) (a.modified ∙ sym b.modified) (a.backup ∙ sym b.backup) (a.finder ∙ sym b.finder)
          (a.comment ∙ sym b.comment)
          (a.data_fork ∙ ap (λ (u : Shape). data_in u (part data_id bytes)) same ∙ sym b.data_fork)
          (a.resource_fork ∙ sym b.resource_fork),
    )

use Rattle.std.proofs.Common.{◌≡◌, sym, subst, true, None, List}
use Rattle.std.specs.List.{list_all}
use Rattle.std.specs.Prelude.{Some}
use Rattle.afp_serial.specs.Household.{household}
use Rattle.afp_serial.specs.HouseFault.{house_fault}
use Rattle.afp_serial.specs.Ranges.{is_typed_user}
use Rattle.afp_serial.specs.declared.user.User.{User}
use Rattle.afp_serial.proofs.Faultless.{names_first_bad}
use Rattle.afp_serial.proofs.HouseFields.{house-typed}
use Rattle.afp_serial.proofs.house.House.new.Goals as goal

pub returns-in-Some-clause-index : goal.returns-in-Some-clause-index
returns-in-Some-clause-index c =
    let told : house_fault (household c.args.server.now c.args.signature c.args.users.items c.args.volumes.items c.args.message.now c.args.token_key) ≡ Some c.in-Some.fault =
    rw (← c.as_bytes.ensures.value, ← c.as_slice.ensures.value, ← c.as_slice-2.ensures.value, ← c.as_bytes-2.ensures.value) (sym (c.in-Some.ensures c.args.signature c.args.token_key)) in
    names_first_bad _ _ told

pub invariant_of-result : goal.invariant_of-result
invariant_of-result c =
    let sound : house_fault (household c.in_ok-of.field-0 c.args.signature c.args.users.items c.args.volumes.items c.in_ok-of-2.field-0 c.args.token_key) ≡ None =
    rw (c.in_ok-of.ensures, c.in_ok-of-2.ensures, c.as_bytes-3.ensures.value, c.as_bytes-4.ensures.value, ← c.as_bytes.ensures.value, ← c.as_slice.ensures.value, ← c.as_slice-2.ensures.value, ← c.as_bytes-2.ensures.value) (sym (c.in_default.ensures c.args.signature c.args.token_key)) in (
      sound,
      house-typed _ c.args.signature c.args.users.items c.args.volumes.items _ c.args.token_key
          (subst (λ (users : List User). list_all is_typed_user users ≡ true) c.as_slice-3.ensures.value c.fields_in_range.ensures.users) c.fields_in_range.ensures.signature c.fields_in_range.ensures.token_key,
    )

use Rattle.std.proofs.Common.{ap, arith, length}
use Rattle.afp_client.proofs.OfSession.OpeningLemmas.{length-login, length-tail}
use Rattle.afp_client.proofs.session.login.Login.call.Goals as goal

pub returns-in_ok-of-in-None-clause-fits : goal.returns-in_ok-of-in-None-clause-fits
returns-in_ok-of-in-None-clause-fits c =
    omega (
      arith,
      length-login c.in_ok-version.version c.in_ok-of-in-None.field-0 c.new.result,
      ap length c.in_ok-version.ensures,
      ap length c.in_ok-of-in-None.ensures,
      ap length c.new.ensures,
      ap length c.as_bytes.ensures.value,
      ap length c.as_bytes-in-None.ensures.value,
    )

pub returns-in_ok-tail_of-in-Some-clause-fits : goal.returns-in_ok-tail_of-in-Some-clause-fits
returns-in_ok-tail_of-in-Some-clause-fits c =
    let fits = rw c.in-Some.is at c.requires in
    omega (
      arith,
      length-login c.in_ok-version.version c.in_ok-of-in-Some.field-0 c.in_ok-tail_of-in-Some.field-0,
      ap length c.in_ok-version.ensures,
      ap length c.in_ok-of-in-Some.ensures,
      ap length c.in_ok-tail_of-in-Some.ensures.tail,
      length-tail c.as_slice.result.now c.in-Some.user.1,
      ap length c.as_slice.ensures,
      fits,
      c.tail_of.ensures.password,
      ap length c.as_bytes.ensures.value,
      ap length c.as_bytes-in-Some.ensures.value,
    )

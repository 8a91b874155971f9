use Rattle.std.proofs.Common.{◌∙◌, ◌==◌, ap, sym, refl, not}
use Rattle.std.specs.Prelude.{bytes_eq, option_map}
use Rattle.std.proofs.lemmas.Bool.{eq-eqb, ne_eqb}
use Rattle.afp_serial.specs.SessionToken.{old_session}
use Rattle.afp_serial.specs.Token.{session_token}
use Rattle.afp_serial.specs.World.{is_expired}
use Rattle.afp_base.proofs.Facts.{never}
use Rattle.session_table.specs.lemma.Kept.{seen}
use Rattle.session_table.proofs.SessionLemmas.{session_of-shown}
use Rattle.session_table.proofs.TokenLemmas.{none-at, none-of-size, none-under, old-parts, old-whole, some-at}
use Rattle.session_table.proofs.sessions.old_of.Goals as goal

pub returns-then-token-ne-TOKEN_SIZE : goal.returns-then-token-ne-TOKEN_SIZE
unfolding old_session
returns-then-token-ne-TOKEN_SIZE c = λ next below few. none-of-size c.args.key c.args.now c.args.own c.args.token.now c.args.by_number.now.entries c.if-token-ne-TOKEN_SIZE.true

pub returns-in_default : goal.returns-in_default
unfolding old_session
returns-in_default c = λ next below few. none-under c.args.key c.args.now c.args.own c.args.token.now c.args.by_number.now.entries next few below c.len-count.ensures.unique c.read_u64-number.result c.read_u64-number.ensures c.in_default.ensures.value

pub returns-then-number-own : goal.returns-then-number-own
unfolding old_session
returns-then-number-own c = λ next below few. none-at c.args.key c.args.now c.args.own c.args.token.now c.args.by_number.now.entries next few below c.len-count.ensures.unique c.read_u64-number.result c.read_u64-number.ensures c.in-Some.session.now c.in-Some.ensures.value
    (λ h. never (c.read_u64-number.result == c.args.own) (eq-eqb c.read_u64-number.result c.args.own c.if-number-own.true) (old-parts c.args.key c.args.now c.args.own c.args.token.now (seen c.read_u64-number.result c.in-Some.session.now) h).0)

pub returns-then-is_gone : goal.returns-then-is_gone
unfolding old_session
returns-then-is_gone c = λ next below few. none-at c.args.key c.args.now c.args.own c.args.token.now c.args.by_number.now.entries next few below c.len-count.ensures.unique c.read_u64-number.result c.read_u64-number.ensures c.in-Some.session.now c.in-Some.ensures.value
    (λ h. never (is_expired c.args.now c.in-Some.session.now.place) (sym c.is_gone.ensures ∙ c.if-is_gone.true) (old-parts c.args.key c.args.now c.args.own c.args.token.now (seen c.read_u64-number.result c.in-Some.session.now) h).1)

pub returns-then-not-is_token : goal.returns-then-not-is_token
unfolding old_session
returns-then-not-is_token c = λ next below few. none-at c.args.key c.args.now c.args.own c.args.token.now c.args.by_number.now.entries next few below c.len-count.ensures.unique c.read_u64-number.result c.read_u64-number.ensures c.in-Some.session.now c.in-Some.ensures.value
    (λ h. never (bytes_eq (session_token c.args.key c.read_u64-number.result) c.args.token.now) (old-parts c.args.key c.args.now c.args.own c.args.token.now (seen c.read_u64-number.result c.in-Some.session.now) h).2 (ap not (sym c.is_token.ensures ∙ c.if-not-is_token.true)))

pub returns : goal.returns
unfolding old_session
returns c = λ next below few.
    let n = c.read_u64-number.result in
    let x = c.in-Some.session.now in
    record {
      session = seen n x;
      first = some-at c.args.key c.args.now c.args.own c.args.token.now c.args.by_number.now.entries next few below c.len-count.ensures.unique c.read_u64-number.result c.read_u64-number.ensures x c.in-Some.ensures.value
          (old-whole c.args.key c.args.now c.args.own c.args.token.now (seen n x) (ne_eqb n c.args.own c.if-number-own.false) (sym c.is_gone.ensures ∙ c.if-is_gone.false) (sym c.is_token.ensures ∙ cc c.if-not-is_token.false));
      numbered = session_of-shown c.args.by_number.now.entries n ∙ ap (option_map (seen n)) (sym c.in-Some.ensures.value);
      same = refl;
      other = ne_eqb n c.args.own c.if-number-own.false;
    }

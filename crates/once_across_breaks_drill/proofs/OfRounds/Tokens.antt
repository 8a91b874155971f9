-- The token in what the first opening is told.
use Rattle.std.proofs.Common.{◌≡◌, ◌∙◌, refl, sym, ap, ℕ, List, [], Some, false, lit<}
use Rattle.afp_base.specs.declared.code.Code.{Code}
use Rattle.afp_base.specs.declared.code.Code.TheVariants.{Ok}
use Rattle.afp_client.specs.session.Takes.{token_in}
use Rattle.afp_replies.specs.Replies.{canonical_reply}
use Rattle.afp_replies.specs.declared.reply.Reply.TheVariants.{Token}
use Rattle.afp_serial.specs.Token.{session_token}
use Rattle.afp_serial.specs.declared.ask.Told.TheVariants.{Reply}
use Rattle.once_across_breaks.specs.same.Laws.{FirstOpeningsAreTold}
use Rattle.once_across_breaks_drill.specs.rounds.Tokens.{TokenIsFound}

-- a count of 4 bytes, and the 16 bytes of the token
in-reply : (key : List ℕ) (number : ℕ) → token_in (canonical_reply (Token (session_token key number))) ≡ Some (session_token key number)
unfolding session_token
in-reply key number = refl

same-code : (c d : Code) (x y : List ℕ) → Reply c x false ≡ Reply d y false → c ≡ d
same-code c d x y e = cc

same-block : (c d : Code) (x y : List ℕ) → Reply c x false ≡ Reply d y false → x ≡ y
same-block c d x y e = cc

pub token-found : FirstOpeningsAreTold → TokenIsFound
token-found tells house moment code block told =
    let first = tells house moment 0 [] (tt, (tt, (lit< tt, (tt, tt)))) (record { fields = (tt, (tt, (tt, (lit< tt, tt)))); encloses = tt }) in
    let same = sym told ∙ first.token in (
      same-code code Ok block (canonical_reply (Token (session_token house.token_key 1))) same,
      ap token_in (same-block code Ok block (canonical_reply (Token (session_token house.token_key 1))) same) ∙ in-reply house.token_key 1,
    )

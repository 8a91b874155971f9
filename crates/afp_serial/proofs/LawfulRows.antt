-- What a sound row owes, in the words of the law.
use Rattle.std.proofs.Common.{◌≡◌, ◌≢◌, ◌∙◌, ap, sym, ◌≤◌, true, false, length}
use Rattle.std.proofs.lemmas.Bool.{leb-true}
use Rattle.afp_base.specs.Limits.{payload_limit}
use Rattle.afp_base.specs.declared.code.Code.TheVariants.{Ok}
use Rattle.afp_replies.specs.Replies.{canonical_reply}
use Rattle.afp_calls_grammar.specs.declared.grammar.call.Call.{Call}
use Rattle.afp_serial.proofs.SoundRow.{IsRefusedTo, IsSoundRow, is_ok, tells_user}
use Rattle.afp_serial.specs.World.{Refused, CallRow}
use Rattle.afp_serial.specs.ForkLaws.{IsLawfulRow}

refused-parts : (call : Call) (r : Refused) → IsRefusedTo call r → (r.code ≢ Ok) × (length (canonical_reply r.reply) ≤ payload_limit)
refused-parts call r t = (λ is. let bad : true ≡ false = ap is_ok (sym is) ∙ t.code in cc, leb-true (length (canonical_reply r.reply)) payload_limit t.short)

pub row-lawful : (call : Call) (row : CallRow) → tells_user call ≡ false → IsSoundRow call row → IsLawfulRow call row
row-lawful call row of_none h = record {
  sound = h.sound;
  shown = λ w s lawful passes sound. h.shown w s lawful passes sound (λ asks. let bad : true ≡ false = sym asks ∙ of_none in absurd (cc));
  fits = λ w s lawful passes sound. leb-true (length (canonical_reply (row.effect w s).reply)) payload_limit (h.fits w s lawful passes sound);
  refuses = λ w s r is sound. refused-parts call r (h.refuses w s r is sound);
  keeper = h.keeper;
}

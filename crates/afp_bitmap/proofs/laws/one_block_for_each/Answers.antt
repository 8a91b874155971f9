use Rattle.std.proofs.Common.{sym, ◌∙◌}
use Rattle.afp_bitmap.specs.Params.{params}
use Rattle.afp_bitmap.proofs.ByKind.{reading_again, ok_is}
use Rattle.afp_bitmap.proofs.laws.one_block_for_each.Goals as goal
use Rattle.std.proofs.Common.{refl}

pub returns : goal.returns
returns c = λ kind bits v w le hv hw bytes e.
    ok_is v w (sym (reading_again kind bits (params bits v) v le bytes hv refl) ∙ reading_again kind bits (params bits v) w le bytes hw e)

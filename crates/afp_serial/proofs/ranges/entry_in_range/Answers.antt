use Rattle.std.proofs.Common.{◌&&◌}
use Rattle.std.proofs.lemmas.Bool.{and_from}
use Rattle.afp_serial.specs.Ranges.{is_moment, is_typed_ask, is_typed_entry}
use Rattle.volume_spec.specs.TypedVolume.{is_quad}
use Rattle.afp_serial.proofs.ranges.entry_in_range.Goals as goal

pub returns : goal.returns
unfolding is_typed_entry
returns c = λ outcome.
    and_from (is_moment c.args.now) (is_quad c.args.link.0 && is_typed_ask c.args.ask.now) c.moment_in_range.ensures
    (and_from (is_quad c.args.link.0) (is_typed_ask c.args.ask.now) c.number_in_range.ensures c.ask_in_range.ensures)

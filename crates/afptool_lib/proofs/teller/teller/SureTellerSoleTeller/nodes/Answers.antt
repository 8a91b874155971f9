use Rattle.std.proofs.Common.{ap, ◌∙◌, length}
use Rattle.std.specs.Prelude.{option_map}
use Rattle.afp_serial.specs.World.{World, volume_at}
use Rattle.afptool_lib.proofs.teller.teller.SureTellerSoleTeller.nodes.Goals as goal

pub returns : goal.returns
returns g c = c.nodes.ensures ∙ ap (λ (w : World). option_map (λ v. length v.rows) (volume_at w.volumes c.args.volume.0)) c.args.self.now.stands

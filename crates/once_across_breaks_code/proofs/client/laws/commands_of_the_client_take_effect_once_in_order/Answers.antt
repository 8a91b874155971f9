use Rattle.once_across_breaks_code.proofs.OfClient.Playing.{clients-commands-once}
use Rattle.once_across_breaks_code.proofs.client.laws.commands_of_the_client_take_effect_once_in_order.Goals as goal

pub returns : goal.returns
returns c = clients-commands-once c.ids_count_in_rounds.ensures c.frames_of_dsi_are_such_spellings.ensures.finds c.commands_take_effect_once_in_order.ensures.dsi

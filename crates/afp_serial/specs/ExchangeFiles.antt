-- FPExchangeFiles (AFP Reference, "FPExchangeFiles"): the open forks, and so their locks, go with the bytes.
use Rattle.std.specs.Prelude.{ℕ, ◌==◌, ◌&&◌, if◌then◌else◌, List, map, Option, None, Some}
use Rattle.afp_base.specs.DenyMode.{Fork}
use Rattle.afp_names.specs.Path.{PathValue}
use Rattle.afp_replies.specs.declared.reply.Reply.TheVariants.{Empty}
use Rattle.volume_spec.specs.ExchangeFiles.{Pair, exchanged_files}
use Rattle.volume_spec.specs.VolumeCalls.{ExchangeFiles}
use Rattle.volume_spec.specs.VolumeState.{VolumeState}
use Rattle.afp_serial.specs.VolumeRows.{changes_volume}
use Rattle.afp_serial.specs.World.{CallRow, Effect, user_of, volume_at, OpenFork}

-- the fork that has the bytes of this one afterwards: of two files that change their forks the other's of the same kind, and else the fork itself
abbrev pub in_exchange : ℕ → Pair → Fork → Fork
in_exchange volume pair fork =
    if (fork.volume == volume) && (fork.node == pair.first) then record fork { node = pair.second }
    else if (fork.volume == volume) && (fork.node == pair.second) then record fork { node = pair.first }
    else fork

-- the open forks afterwards; what was not found was refused
abbrev pub opens_exchanged : ℕ → Option Pair → List OpenFork → List OpenFork
opens_exchanged volume None opens = opens
opens_exchanged volume (Some pair) opens = map (λ (o : OpenFork). record o { fork = in_exchange volume pair o.fork }) opens

-- the files that are exchanged on a volume
abbrev pub pair_on : Option VolumeState → ℕ → ℕ → PathValue → ℕ → PathValue → Option Pair
pair_on None user dir path second_dir second_path = None
pair_on (Some v) user dir path second_dir second_path = exchanged_files v user dir path second_dir second_path

-- what the volume becomes, with the open forks
abbrev pub exchanging : ℕ → Option Pair → Effect → Effect
exchanging volume pair e = record e { world = record e.world { opens = opens_exchanged volume pair e.world.opens } }

abbrev pub exchange_files_row : ℕ → ℕ → ℕ → PathValue → PathValue → CallRow
exchange_files_row volume dir second_dir path second_path =
    let row : CallRow = changes_volume volume (ExchangeFiles dir path second_dir second_path) (λ user v. Empty) in
    record row { effect = λ w s. exchanging volume (pair_on (volume_at w.volumes volume) (user_of s) dir path second_dir second_path) (row.effect w s) }

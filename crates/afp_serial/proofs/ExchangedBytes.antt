-- An open fork keeps its bytes where two files change their forks.
use Rattle.std.proofs.Common.{◌==◌, ◌≡◌, ◌∙◌, ap, sym, refl, ℕ, Bool, ◌&&◌, cond, List, [], ◌∷◌, map, Option, Some, None}
use Rattle.std.specs.Prelude.{find, option_map}
use Rattle.std.proofs.lemmas.Bool.{cond_both}
use Rattle.afp_base.specs.DenyMode.{Fork}
use Rattle.afp_serial.proofs.EditedForks.{pair-exchanged}
use Rattle.afp_serial.proofs.ExchangeRow.{Exchanged, exchanged-left}
use Rattle.afp_serial.proofs.ExchangedForks.{exchanged-twice}
use Rattle.afp_serial.proofs.ForkChanges.{exchanged-bytes, under-in}
use Rattle.afp_serial.proofs.OnVolumeRows.{done-keeps}
use Rattle.afp_serial.proofs.VolumeRows.{edits-keep}
use Rattle.afp_replies.specs.declared.reply.Reply.TheVariants.{Empty}
use Rattle.afp_serial.specs.ExchangeFiles.{in_exchange, opens_exchanged, pair_on}
use Rattle.afp_serial.specs.ForkHistory.{bytes_in}
use Rattle.afp_serial.specs.OnFork.{bytes_of, file_under, open_file, own_fork}
use Rattle.afp_serial.specs.OnVolume.{done_on, with_volume_state}
use Rattle.afp_serial.specs.VolumeRows.{with_edits}
use Rattle.afp_serial.specs.World.{Effect, user_of, volume_at, World, OpenFork}
use Rattle.afp_serial.specs.WriteLaws.{ExchangesKeepBytes, ExchangesKeepOpens, bytes_under, opened_as}
use Rattle.volume_spec.specs.Edit.{Exchanges, after_call}
use Rattle.volume_spec.specs.EditLaws.{MayExchange}
use Rattle.volume_spec.specs.ExchangeFiles.{Pair}
use Rattle.volume_spec.specs.VolumeCalls.{ExchangeFiles, call_edits}
use Rattle.volume_spec.specs.VolumeState.{VolumeState}

-- the first that passes a test, of elements with another field
find-turned : (test : OpenFork → Bool) (turn : OpenFork → OpenFork) (opens : List OpenFork) → ((o : OpenFork) → test (turn o) ≡ test o) → find test (map turn opens) ≡ option_map turn (find test opens)
find-turned test turn [] same = refl
find-turned test turn (o ∷ os) same =
    ap (λ b. cond b (Some (turn o)) (find test (map turn os))) (same o)
    ∙ cond_both (test o) (Some o) (find test os) (λ q. cond (test o) (Some (turn o)) (find test (map turn os)) ≡ option_map turn q)
    (λ here. ap (λ b. cond b (Some (turn o)) (find test (map turn os))) here)
    (λ other. ap (λ b. cond b (Some (turn o)) (find test (map turn os))) other ∙ find-turned test turn os same)

-- open forks with another field

opened-turned : (volume : ℕ) (q : Option Pair) (opens : List OpenFork) → map opened_as (opens_exchanged volume q opens) ≡ map opened_as opens
opened-turned volume None opens = refl
opened-turned volume (Some pair) [] = refl
opened-turned volume (Some pair) (o ∷ os) = ap (λ l. opened_as o ∷ l) (opened-turned volume (Some pair) os)

pub exchanges-keep-opens : ExchangesKeepOpens
exchanges-keep-opens w s volume dir second_dir path second_path = (
  opened-turned volume (pair_on (volume_at w.volumes volume) (user_of s) dir path second_dir second_path) (done_on (volume_at w.volumes volume) w does).world.opens ∙ ap (map opened_as) (kept (λ x. x.opens ≡ w.opens) refl (λ new. refl)),
  kept (λ x. x.locks ≡ w.locks) refl (λ new. refl),
)
  where
    does : VolumeState → Effect
    does v = record { world = with_edits w volume v (call_edits v (user_of s) w.latest (ExchangeFiles dir path second_dir second_path)); reply = Empty }

    kept : (P : World → Type 0) → P w → ((new : VolumeState) → P (with_volume_state w volume new)) → P (done_on (volume_at w.volumes volume) w does).world
    kept P h gives = done-keeps P (volume_at w.volumes volume) w does h (λ v. edits-keep P w volume v (call_edits v (user_of s) w.latest (ExchangeFiles dir path second_dir second_path)) h gives)

pub exchanges-keep : ExchangesKeepBytes
unfolding open_file
exchanges-keep w s t volume dir second_dir other path second_path h passes =
    let e : Exchanged volume dir second_dir path second_path w s = exchanged-left volume dir second_dir path second_path w s passes h in
    let pair : Pair = e.exchange.pair in
    let may : MayExchange e.state pair.first pair.second = e.exchange.may in
    let new : VolumeState = after_call e.state w.latest (Exchanges pair.first pair.second ∷ []) in
    ap (λ x. bytes_under x t other) e.left
    ∙ by pair new (λ fork. exchanged-bytes w volume e.state new pair may.first may.second e.there may.first_found may.second_found (pair-exchanged e.state w.latest pair may) fork) (own_fork w t other) refl
  where
    by : (pair : Pair) (new : VolumeState) → ((fork : Fork) → bytes_in (with_volume_state w volume new) fork ≡ bytes_in w (in_exchange volume pair fork))
        → (q : Option OpenFork) → own_fork w t other ≡ q
        → bytes_under (record (with_volume_state w volume new) { opens = opens_exchanged volume (Some pair) w.opens }) t other ≡ bytes_under w t other
    by pair new moved q is = of q is (find-turned (λ (o : OpenFork). (o.reference == other) && (o.session == t.number)) (λ (o : OpenFork). record o { fork = in_exchange volume pair o.fork }) w.opens (λ o. refl))
      where
        of : (q : Option OpenFork) → own_fork w t other ≡ q
            → own_fork (record (with_volume_state w volume new) { opens = opens_exchanged volume (Some pair) w.opens }) t other ≡ option_map (λ (o : OpenFork). record o { fork = in_exchange volume pair o.fork }) (own_fork w t other)
            → bytes_under (record (with_volume_state w volume new) { opens = opens_exchanged volume (Some pair) w.opens }) t other ≡ bytes_under w t other
        of None is found =
            ap (λ x. option_map bytes_of (file_under (record (with_volume_state w volume new) { opens = opens_exchanged volume (Some pair) w.opens }) x)) (found ∙ ap (option_map (λ (o : OpenFork). record o { fork = in_exchange volume pair o.fork })) is)
            ∙ ap (λ x. option_map bytes_of (file_under w x)) (sym is)
        of (Some o) is found =
            under-in (record (with_volume_state w volume new) { opens = opens_exchanged volume (Some pair) w.opens }) t other (record o { fork = in_exchange volume pair o.fork })
            (found ∙ ap (option_map (λ (o : OpenFork). record o { fork = in_exchange volume pair o.fork })) is)
            ∙ moved (in_exchange volume pair o.fork)
            ∙ ap (bytes_in w) (exchanged-twice volume pair o.fork)
            ∙ sym (under-in w t other o is)

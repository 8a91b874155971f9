-- A call that changes a volume by edits commits them: where it commits nothing it changes nothing.
use Rattle.std.proofs.Common.{◌≡◌, refl, ℕ, zero, suc, List, [], ◌∷◌, Option, Some, None}
use Rattle.std.specs.Prelude.{Result, Ok, Err}
use Rattle.afp_base.specs.declared.code.Code.{Code}
use Rattle.afp_replies.specs.declared.reply.Reply.TheVariants.{Empty}
use Rattle.afp_serial.proofs.ForkCommits.{no-keeper-same}
use Rattle.afp_serial.specs.CommitLaws.{CopiesAreCommitted, EditsAreCommitted, ExchangesAreCommitted}
use Rattle.afp_serial.specs.CopyFile.{copy_edits, source_of}
use Rattle.afp_serial.specs.ExchangeFiles.{exchanging, pair_on}
use Rattle.afp_serial.specs.OnVolume.{done_on}
use Rattle.afp_serial.specs.VolumeRows.{edits_on, keeper_of_edits, with_edits}
use Rattle.afp_serial.specs.World.{user_of, volume_at, with_empty_reply, World}
use Rattle.volume_spec.specs.Edit.{Edit, Exchanges, after_call, edits_at}
use Rattle.volume_spec.specs.ExchangeFiles.{exchanged_files}
use Rattle.volume_spec.specs.Shared.{done_at}
use Rattle.volume_spec.specs.VolumeCalls.{ExchangeFiles, call_edits}
use Rattle.volume_spec.specs.VolumeState.{VolumeState}
use Rattle.volume_spec.specs.Walk.{found}

edits-same : (w : World) (volume : ℕ) (v : VolumeState) (edits : List Edit) → keeper_of_edits volume edits ≡ None → with_edits w volume v edits ≡ w
edits-same w volume v [] none = refl
edits-same w volume v (e ∷ es) none = no-keeper-same w volume (after_call v w.latest (e ∷ es)) none

pub edits-committed : EditsAreCommitted
edits-committed volume change reply w s none = by (volume_at w.volumes volume) none
  where
    by : (q : Option VolumeState) → keeper_of_edits volume (edits_on q (λ v. call_edits v (user_of s) w.latest change)) ≡ None → (done_on q w (λ v. record { world = with_edits w volume v (call_edits v (user_of s) w.latest change); reply = reply (user_of s) v })).world ≡ w
    by None none = refl
    by (Some v) none = edits-same w volume v (call_edits v (user_of s) w.latest change) none

pub copies-committed : CopiesAreCommitted
copies-committed asked w s none = by (volume_at w.volumes asked.target) none
  where
    by : (q : Option VolumeState) → keeper_of_edits asked.target (edits_on q (copy_edits w (user_of s) asked (source_of w (user_of s) asked))) ≡ None
        → (done_on q w (λ v. with_empty_reply (with_edits w asked.target v (copy_edits w (user_of s) asked (source_of w (user_of s) asked) v)))).world ≡ w
    by None none = refl
    by (Some v) none = edits-same w asked.target v (copy_edits w (user_of s) asked (source_of w (user_of s) asked) v) none

-- two files that were found
pair-committed : (w : World) (volume : ℕ) (v : VolumeState) (one two : Result ℕ Code) → volume_at w.volumes volume ≡ Some v → keeper_of_edits volume (edits_at one (λ a. edits_at two (λ b. Exchanges a b ∷ []))) ≡ None
    → (exchanging volume (done_at one None (λ a. done_at two None (λ b. Some (record { first = a; second = b })))) (record { world = with_edits w volume v (edits_at one (λ a. edits_at two (λ b. Exchanges a b ∷ []))); reply = Empty })).world ≡ w
pair-committed w volume v (Err code) two there none = refl
pair-committed w volume v (Ok a) (Err code) there none = refl
pair-committed w zero v (Ok a) (Ok b) there none = absurd (cc)
pair-committed w (suc index) v (Ok a) (Ok b) there none = absurd (cc)

pub exchanges-committed : ExchangesAreCommitted
unfolding call_edits exchanged_files
exchanges-committed volume dir second_dir path second_path w s none = by (volume_at w.volumes volume) refl none
  where
    by : (q : Option VolumeState) → volume_at w.volumes volume ≡ q → keeper_of_edits volume (edits_on q (λ v. call_edits v (user_of s) w.latest (ExchangeFiles dir path second_dir second_path))) ≡ None
        → (exchanging volume (pair_on q (user_of s) dir path second_dir second_path) (done_on q w (λ v. record { world = with_edits w volume v (call_edits v (user_of s) w.latest (ExchangeFiles dir path second_dir second_path)); reply = Empty }))).world ≡ w
    by None there none = refl
    by (Some v) there none = pair-committed w volume v (found v.rows (user_of s) dir path) (found v.rows (user_of s) second_dir second_path) there none

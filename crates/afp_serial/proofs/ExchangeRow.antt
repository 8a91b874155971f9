-- What FPExchangeFiles owes: two files that are there change their forks, and the open forks go with them.
use Rattle.std.proofs.Common.{◌==◌, ◌≡◌, ◌∙◌, ap, sym, refl, subst, ℕ, true, false, not, ◌||◌, List, [], ◌∷◌, Some, None}
use Rattle.std.specs.Prelude.{Result, Ok, Err}
use Rattle.std.proofs.lemmas.Bool.{eq-eqb}
use Rattle.afp_base.specs.Choice.{first_holding}
use Rattle.afp_base.specs.declared.code.Code.{Code}
use Rattle.afp_base.specs.declared.code.Code.TheVariants.{AccessDenied, ObjectTypeErr, SameObjectErr}
use Rattle.afp_base.specs.declared.ids.NodeId.{NodeId}
use Rattle.afp_base.specs.declared.ids.VolumeId.{VolumeId}
use Rattle.afp_names.specs.Path.{PathValue}
use Rattle.afp_replies.specs.Commands.{rows, shape_in, shape_of}
use Rattle.afp_replies.specs.declared.reply.Reply.TheVariants.{Empty}
use Rattle.afp_calls_grammar.specs.declared.grammar.call.Call.{Call}
use Rattle.afp_calls_grammar.specs.declared.grammar.call.Call.TheVariants as calls
use Rattle.afp_serial.proofs.ExchangedForks.{turned-sound}
use Rattle.afp_serial.proofs.OnVolumeRows.{Asks, Passes, done-keeps, on-passes}
use Rattle.afp_serial.proofs.SessionUsers.{user-long}
use Rattle.afp_serial.proofs.SoundRow.{IsSoundRow}
use Rattle.afp_serial.proofs.ToldReplies.{empty-told}
use Rattle.afp_serial.proofs.VolumeCodes.{exchange-refuses}
use Rattle.afp_serial.proofs.VolumeRows.{change-sound, edits-keep, edits-row-sound}
use Rattle.afp_serial.proofs.VolumeStates.{IsServed, served-at, state-at}
use Rattle.afp_serial.specs.ExchangeFiles.{exchange_files_row, exchanging, pair_on}
use Rattle.afp_serial.specs.OnVolume.{done_on, with_volume_state}
use Rattle.afp_serial.specs.SessionLaws.{all_stay}
use Rattle.afp_serial.specs.Sound.{IsSound, is_file_of}
use Rattle.afp_serial.specs.VolumeRows.{changes_volume, with_edits}
use Rattle.afp_serial.specs.World.{CallRow, Effect, user_of, volume_at, World, Session}
use Rattle.volume_spec.proofs.NewCalls.{exchange-may}
use Rattle.volume_spec.proofs.OpenFiles.{edits-of-call-let-be}
use Rattle.volume_spec.proofs.Refusals.{none-first}
use Rattle.volume_spec.proofs.SeenRows.{test-found}
use Rattle.volume_spec.proofs.Trees.{tree-parts}
use Rattle.volume_spec.specs.Edit.{Exchanges, after_call, edits_at}
use Rattle.volume_spec.specs.EditLaws.{MayEditAll, MayExchange}
use Rattle.volume_spec.specs.ExchangeFiles.{Pair, exchange_files_refusal, exchanged_files, lacks_either}
use Rattle.volume_spec.specs.Shared.{Opened, behind, done_at, first_or, is_busy}
use Rattle.volume_spec.specs.SoundVolume.{IsSoundVolume, has_file}
use Rattle.volume_spec.specs.TypedVolume.{is_long}
use Rattle.volume_spec.specs.VolumeCalls.{ExchangeFiles, call_edits}
use Rattle.volume_spec.specs.VolumeState.{Row as File, VolumeState}
use Rattle.volume_spec.specs.Walk.{found, row_at}

-- the two files of a call that is not refused
pub record IsExchange (v : VolumeState) (user dir : ℕ) (path : PathValue) (second_dir : ℕ) (second_path : PathValue) : Type 0 where
  pub pair : Pair
  pub is : exchanged_files v user dir path second_dir second_path ≡ Some pair
  pub edits : (now : ℕ) → call_edits v user now (ExchangeFiles dir path second_dir second_path) ≡ Exchanges pair.first pair.second ∷ []
  pub may : MayExchange v pair.first pair.second

pub exchange-is : (v : VolumeState) (user dir : ℕ) (path : PathValue) (second_dir : ℕ) (second_path : PathValue) → exchange_files_refusal v user dir path second_dir second_path ≡ None → IsSoundVolume v → IsExchange v user dir path second_dir second_path
unfolding exchange_files_refusal exchanged_files call_edits
exchange-is v user dir path second_dir second_path passes sound = by-first (found v.rows user dir path) refl passes
  where
    by-second : (a : ℕ) → found v.rows user dir path ≡ Ok a → (q : Result ℕ Code) → found v.rows user second_dir second_path ≡ q
        → behind q (λ b. first_holding ((not (has_file v.rows b), ObjectTypeErr) ∷ (lacks_either v.rows user a, AccessDenied) ∷ (lacks_either v.rows user b, AccessDenied) ∷ (a == b, SameObjectErr) ∷ [])) ≡ None → IsExchange v user dir path second_dir second_path
    by-second a one (Err code) two h = absurd (cc)
    by-second a one (Ok b) two h =
        let edits : edits_at (found v.rows user dir path) (λ x. edits_at (found v.rows user second_dir second_path) (λ y. Exchanges x y ∷ [])) ≡ Exchanges a b ∷ [] = λ i. edits_at (one i) (λ x. edits_at (two i) (λ y. Exchanges x y ∷ [])) in
        let all : MayEditAll v (Exchanges a b ∷ []) = subst (MayEditAll v) edits (exchange-may v user 0 dir path second_dir second_path passes sound) in
        record {
          pair = record { first = a; second = b };
          is = λ i. done_at (one i) None (λ x. done_at (two i) None (λ y. Some (record { first = x; second = y })));
          edits = λ now. edits;
          may = all.0;
        }

    by-first : (r : Result ℕ Code) → found v.rows user dir path ≡ r
        → behind r (λ a. first_or ((not (has_file v.rows a), ObjectTypeErr) ∷ []) (behind (found v.rows user second_dir second_path) (λ b. first_holding ((not (has_file v.rows b), ObjectTypeErr) ∷ (lacks_either v.rows user a, AccessDenied) ∷ (lacks_either v.rows user b, AccessDenied) ∷ (a == b, SameObjectErr) ∷ [])))) ≡ None
        → IsExchange v user dir path second_dir second_path
    by-first (Err code) one h = absurd (cc)
    by-first (Ok a) one h = by-second a one (found v.rows user second_dir second_path) refl (none-first ((not (has_file v.rows a), ObjectTypeErr) ∷ []) _ h).1

-- a file that is there is there behind the exchange
file-stays : (v : VolumeState) (now id : ℕ) (pair : Pair) (file : File) → MayExchange v pair.first pair.second → row_at v.rows id ≡ Some file → file.dir ≡ false → IsSoundVolume v
    → has_file (after_call v now (Exchanges pair.first pair.second ∷ [])).rows id ≡ true
unfolding is_busy
file-stays v now id pair file may found is_file sound =
    let opens : List Opened = (record { node = id; resource = false }) ∷ [] in
    edits-of-call-let-be v opens now (Exchanges pair.first pair.second ∷ []) id (may, tt) (ap (λ b. b || false) (eq-eqb id id refl))
    (test-found v.rows id (λ row. not row.dir) file (tree-parts v sound.tree).apart found ∙ ap not is_file)

-- a sound world behind it
pair-sound : (w : World) (volume : ℕ) (v : VolumeState) (pair : Pair) → volume_at w.volumes volume ≡ Some v → MayExchange v pair.first pair.second → IsSoundVolume v → IsSound (with_edits w volume v (Exchanges pair.first pair.second ∷ []))
    → IsSound (exchanging volume (Some pair) (record { world = with_edits w volume v (Exchanges pair.first pair.second ∷ []); reply = Empty })).world
pair-sound w volume v pair there may sound h =
    let new : VolumeState = after_call v w.latest (Exchanges pair.first pair.second ∷ []) in
    let here : volume_at (with_volume_state w volume new).volumes volume ≡ Some new = state-at w.volumes volume v new there in
    turned-sound volume pair (with_volume_state w volume new)
    (ap (λ o. is_file_of o pair.first) here ∙ file-stays v w.latest pair.first pair may.first may may.first_found may.first_file sound)
    (ap (λ o. is_file_of o pair.second) here ∙ file-stays v w.latest pair.second pair may.second may may.second_found may.second_file sound)
    h

-- the row

module _ (volume dir second_dir : ℕ) (path second_path : PathValue) where
  abbrev its_row : CallRow
  its_row = changes_volume volume (ExchangeFiles dir path second_dir second_path) (λ user v. Empty)

  abbrev does : World → Session → VolumeState → Effect
  does w s v = record { world = with_edits w volume v (call_edits v (user_of s) w.latest (ExchangeFiles dir path second_dir second_path)); reply = Empty }

  -- the world that it leaves, where it is not refused
  pub record Exchanged (w : World) (s : Session) : Type 0 where
    pub state : VolumeState
    pub there : volume_at w.volumes volume ≡ Some state
    pub exchange : IsExchange state (user_of s) dir path second_dir second_path
    pub left : ((exchange_files_row volume dir second_dir path second_path).effect w s).world
        ≡ (exchanging volume (Some exchange.pair) (record { world = with_edits w volume state (Exchanges exchange.pair.first exchange.pair.second ∷ []); reply = Empty })).world

  pub exchanged-left : (w : World) (s : Session) → first_holding (its_row.refusals w s) ≡ None → IsSound w → Exchanged w s
  exchanged-left w s passes h =
      let p : Passes w volume (λ v. exchange_files_refusal v (user_of s) dir path second_dir second_path) = on-passes w s volume (λ v. exchange_files_refusal v (user_of s) dir path second_dir second_path) passes in
      let served : IsServed p.state volume = served-at w volume p.state h p.there in
      let x : IsExchange p.state (user_of s) dir path second_dir second_path = exchange-is p.state (user_of s) dir path second_dir second_path p.passes served.sound in
      record {
        state = p.state;
        there = p.there;
        exchange = x;
        left =
            ap (λ o. (exchanging volume (pair_on o (user_of s) dir path second_dir second_path) (done_on o w (does w s))).world) p.there
            ∙ (λ i. (exchanging volume (x.is i) (record { world = with_edits w volume p.state (x.edits w.latest i); reply = Empty })).world);
      }

  exchange-sound : (w : World) (s : Session) → first_holding (its_row.refusals w s) ≡ None → is_long (user_of s) ≡ true → IsSound w → IsSound ((exchange_files_row volume dir second_dir path second_path).effect w s).world
  exchange-sound w s passes long h =
      let p : Passes w volume (λ v. exchange_files_refusal v (user_of s) dir path second_dir second_path) = on-passes w s volume (λ v. exchange_files_refusal v (user_of s) dir path second_dir second_path) passes in
      let e : Exchanged w s = exchanged-left w s passes h in
      let served : IsServed e.state volume = served-at w volume e.state h e.there in
      let same : p.state ≡ e.state = let some : Some p.state ≡ Some e.state = sym p.there ∙ e.there in cc in
      let clear : exchange_files_refusal e.state (user_of s) dir path second_dir second_path ≡ None = ap (λ v. exchange_files_refusal v (user_of s) dir path second_dir second_path) (sym same) ∙ p.passes in
      let edited : IsSound (with_edits w volume e.state (Exchanges e.exchange.pair.first e.exchange.pair.second ∷ [])) =
      subst (λ es. IsSound (with_edits w volume e.state es)) (e.exchange.edits w.latest) (change-sound w (user_of s) volume e.state (ExchangeFiles dir path second_dir second_path) long refl refl e.there clear h) in
      subst IsSound (sym e.left) (pair-sound w volume e.state e.exchange.pair e.there e.exchange.may served.sound edited)

  sessions-stay : (w : World) (s : Session) → (its_row.effect w s).world.sessions ≡ w.sessions
  sessions-stay w s =
      done-keeps (λ x. x.sessions ≡ w.sessions) (volume_at w.volumes volume) w (does w s) refl
      (λ v. edits-keep (λ x. x.sessions ≡ w.sessions) w volume v (call_edits v (user_of s) w.latest (ExchangeFiles dir path second_dir second_path)) refl (λ new. refl))

  exchanges-sound : (call : Call) → Asks call Empty → IsSoundRow call (exchange_files_row volume dir second_dir path second_path)
  exchanges-sound call asks =
      let r : IsSoundRow call its_row = edits-row-sound call volume (ExchangeFiles dir path second_dir second_path) (λ user v. Empty) (λ v user w. exchange-refuses v user dir path second_dir second_path) (λ lawful. (refl, refl)) (λ w user v served passes. empty-told call asks) in
      record {
        refuses = r.refuses;
        sound = λ w s test lawful found passes h. exchange-sound w s passes (user-long w s test found h) h;
        fits = r.fits;
        shown = r.shown;
        apart = λ w s test found a. let b = r.apart w s test found a in record { numbers = b.numbers; links = b.links; below = b.below };
        next = r.next;
        keeper = r.keeper;
        old = r.old;
        cached = r.cached;
        leaves = λ stays w s. all_stay (sessions-stay w s);
      }

exchange-files-asks : (volume : VolumeId) (dir second_dir : NodeId) (path second_path : PathValue) → Asks (calls.ExchangeFiles volume dir second_dir path second_path) Empty
unfolding shape_of shape_in rows
exchange-files-asks volume dir second_dir path second_path = refl

pub exchange-files-sound : (volume : VolumeId) (dir second_dir : NodeId) (path second_path : PathValue) → IsSoundRow (calls.ExchangeFiles volume dir second_dir path second_path) (exchange_files_row volume.0 dir.0 second_dir.0 path second_path)
exchange-files-sound volume dir second_dir path second_path =
    exchanges-sound volume.0 dir.0 second_dir.0 path second_path (calls.ExchangeFiles volume dir second_dir path second_path) (exchange-files-asks volume dir second_dir path second_path)

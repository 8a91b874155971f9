-- The row of FPOpenFork.
use Rattle.std.proofs.Common.{◌≡◌, ◌==◌, ◌∙◌, ap, sym, refl, subst, ℕ, Bool, true, false, not, List, [], ◌∷◌, Option, Some, None}
use Rattle.std.specs.Prelude.{IfOk, Result, Ok as with_ok, Err, option_map, slice_get}
use Rattle.afp_base.specs.Choice.{first_holding}
use Rattle.afp_base.specs.DenyMode.{Access, Fork}
use Rattle.afp_base.specs.declared.bytes.OutOfMemory.{OutOfMemory}
use Rattle.afp_base.specs.declared.code.Code.{Code}
use Rattle.afp_base.specs.declared.code.Code.TheVariants.{BitmapErr, DenyConflict, Ok, ParamErr, TooManyFilesOpen}
use Rattle.afp_base.specs.declared.ids.ForkRef.{ForkRef}
use Rattle.afp_base.specs.declared.ids.NodeId.{NodeId}
use Rattle.afp_base.specs.declared.ids.VolumeId.{VolumeId}
use Rattle.afp_bitmap.specs.Bits.{file_mask, is_outside}
use Rattle.afp_names.specs.Path.{PathValue}
use Rattle.afp_replies.specs.Replies.{canonical_reply}
use Rattle.afp_replies.specs.declared.reply.Reply.TheVariants.{Opened}
use Rattle.afp_calls_grammar.specs.declared.grammar.call.Call.{Call}
use Rattle.afp_calls_grammar.specs.declared.grammar.call.Call.TheVariants as call
use Rattle.afp_serial.specs.Answer.{link_number, refusal_reply, new_session}
use Rattle.afp_serial.specs.World.{Effect, Refusal, Refused, CallRow, plain, refused_before, has_opened, is_open, user_of, volume_at, World, Session, OpenFork}
use Rattle.afp_serial.specs.Fork.{OpenAsked, access_of, denied_of, file_asked, fork_in, fork_ref, has_most_forks, is_denied, lowest_free, new_fork, opened_reply, opens_asked, opens_fork, with_fork, with_open}
use Rattle.afp_serial.specs.OnVolume.{opened_on, refused_on}
use Rattle.afp_serial.specs.Rows.{effect, ends_session, refusal, row}
use Rattle.afp_serial.specs.declared.ask.Outcome.{Outcome}
use Rattle.afp_serial.specs.declared.ask.Told.{Told}
use Rattle.afp_serial.specs.declared.ask.Told.TheVariants.{Reply}
use Rattle.volume_spec.specs.OpenFork.{fork_values, is_resource, open_fork_file, open_fork_refusal}
use Rattle.volume_spec.specs.Shared.{first_or}
use Rattle.volume_spec.specs.VolumeState.{Row as File, VolumeState}
use Rattle.volume_spec.specs.Walk.{row_at}
use Rattle.afp_core_state.specs.OnVolumes.{IsOpen, IsOpenAt, IsUser}
use Rattle.afp_core_calls.specs.fork.lemma.Opening.{FindsFile}
use Rattle.afp_core_state.specs.KeptWorld.{KeptWorld}
use Rattle.afp_core_state.specs.lemma.KeptWorld.{with_forks}
use Rattle.session_table.specs.Sessions.{session_of}
use Rattle.afp_core_state.specs.Running.{done, RunsRow}
use Rattle.afp_core_calls.proofs.OfFork.OnForkLemmas.{is_refused-with}
use Rattle.afp_core_state.proofs.OnVolumeLemmas.{found-at, told-effect}
use Rattle.afp_core_state.proofs.RowLemmas.{has_effect}
use Rattle.afp_core_state.proofs.SessionLemmas.{session_of-number}
use Rattle.fork_table.specs.declared.open_fork.OpenFault.{OpenFault}
use Rattle.fork_table.specs.declared.open_fork.OpenFault.TheVariants as fault
use Rattle.afp_core_state.specs.Forks.{AllHeld, ClosingUndoes, Forks, HasForks, OpensFork, left_of, new_open, with_opens}

-- what is refused first is refused first before more rows
first-before : {A : Type 0} → (b : Bool) (r : A) (first : List (Bool × A)) (rest : List (Bool × A)) (t : A) → first_holding ((b, r) ∷ first) ≡ Some t → ((more : first_holding first ≡ Some t) → first_holding rest ≡ Some t)
    → first_holding ((b, r) ∷ rest) ≡ Some t
first-before true r first rest t h more = h
first-before false r first rest t h more = more h

before-more : (code : Option Code) (rest : List Refusal) (t : Refused) → first_holding (refused_before code []) ≡ Some t → first_holding (refused_before code rest) ≡ Some t
before-more None rest t h = absurd (cc h)
before-more (Some code) rest t h = h

-- a call whose row opens a fork
pub record OpensAsked (call : Call) (asked : OpenAsked) (dir : ℕ) (path : PathValue) : Type 0 where
  pub row_is : row call ≡ opens_asked asked dir path
  pub goes_on : ends_session call ≡ false

module _ (k : KeptWorld) (number : ℕ) (call : Call) (asked : OpenAsked) (dir : ℕ) (path : PathValue) (opens : OpensAsked call asked dir path) where
  abbrev pub refuses : ℕ → VolumeState → Option Code
  refuses user v = open_fork_refusal v user asked.bits asked.access.read asked.access.write dir path

  pub opens-unopened : (told : Told) → IsOpen k number asked.volume None → told ≡ refusal_reply ParamErr → RunsRow k number call (with_ok (done told)) k
  opens-unopened told stands tells = λ s at.
      is_refused-with k k s call (plain ParamErr) told
      (ap (λ (r : CallRow). first_holding (r.refusals k.world s)) opens.row_is
      ∙ first-before (not (has_opened s asked.volume)) (plain ParamErr) (refused_before (refused_on (volume_at k.world.volumes asked.volume) (refuses (user_of s))) [])
      (refused_before (refused_on (volume_at k.world.volumes asked.volume) (refuses (user_of s))) (denied_of k.world s asked (file_asked (volume_at k.world.volumes asked.volume) (user_of s) dir path)))
      (plain ParamErr) (stands s at (refuses (user_of s)))
      (before-more (refused_on (volume_at k.world.volumes asked.volume) (refuses (user_of s))) _ (plain ParamErr))) tells refl

  module _ (user index : ℕ) (v : VolumeState) (calls : IsUser k number user) (stands : IsOpenAt k number asked.volume index) (there : slice_get k.world.volumes index ≡ Some v) where
    on-opened : (s : Session) → session_of k.world.sessions number ≡ Some s
        → refusal k.world s call ≡ first_holding (refused_before (refuses user v) (denied_of k.world s asked (open_fork_file v user dir path)))
    on-opened s at =
        ap (λ (r : CallRow). first_holding (r.refusals k.world s)) opens.row_is
        ∙ ap (λ b. first_holding ((not b, plain ParamErr)
        ∷ refused_before (refused_on (volume_at k.world.volumes asked.volume) (refuses (user_of s))) (denied_of k.world s asked (file_asked (volume_at k.world.volumes asked.volume) (user_of s) dir path)))) (stands.opened s at)
        ∙ ap (λ (o : Option VolumeState). first_holding (refused_before (refused_on o (refuses (user_of s))) (denied_of k.world s asked (file_asked o (user_of s) dir path)))) (found-at k number asked.volume index v stands there)
        ∙ ap (λ (u : ℕ). first_holding (refused_before (refuses u v) (denied_of k.world s asked (open_fork_file v u dir path)))) (sym (calls s at))

    pub opens-refused : (code : Code) (told : Told) → refuses user v ≡ Some code → told ≡ refusal_reply code → RunsRow k number call (with_ok (done told)) k
    opens-refused code told refused tells = λ s at.
        is_refused-with k k s call (plain code) told
        (on-opened s at ∙ ap (λ (o : Option Code). first_holding (refused_before o (denied_of k.world s asked (open_fork_file v user dir path)))) refused) tells refl

    -- what is left of the row where the volume refuses nothing
    pub finds-file : (file : File) (fork : Fork) (access : Access) (bits : ℕ) → refuses user v ≡ None → open_fork_file v user dir path ≡ row_at v.rows fork.node → row_at v.rows fork.node ≡ Some file → file.id ≡ fork.node
        → asked.volume ≡ fork.volume → asked.resource ≡ fork.resource → asked.access ≡ access → asked.bits ≡ bits → FindsFile k number call asked index fork access bits
    finds-file file fork access bits passes finds found node_is volume_is resource_is access_is bits_are = record {
      volume = v;
      file = file;
      there = there;
      found = found;
      node_is = node_is;
      volume_is = volume_is;
      resource_is = resource_is;
      access_is = access_is;
      bits_are = bits_are;
      refuses = λ s at.
          on-opened s at ∙ ap (λ (o : Option Code). first_holding (refused_before o (denied_of k.world s asked (open_fork_file v user dir path)))) passes
          ∙ ap (λ (o : Option File). first_holding (denied_of k.world s asked o)) (finds ∙ found);
      does = λ s at.
          ap (λ (r : CallRow). r.effect k.world s) opens.row_is
          ∙ ap (λ (o : Option VolumeState). opens_fork k.world s asked (file_asked o (user_of s) dir path)) (found-at k number asked.volume index v stands there)
          ∙ ap (λ (u : ℕ). opens_fork k.world s asked (open_fork_file v u dir path)) (sym (calls s at))
          ∙ ap (λ (o : Option File). opens_fork k.world s asked o) (finds ∙ found);
      goes_on = opens.goes_on;
    }

-- a session of that number
abbrev some_session : ℕ → Session
some_session number = new_session number

-- where the file is found
module _ (k : KeptWorld) (number : ℕ) (call : Call) (asked : OpenAsked) (index : ℕ) (fork : Fork) (access : Access) (bits : ℕ) (f : FindsFile k number call asked index fork access bits) where
  fork-is : fork_in asked f.file ≡ fork
  fork-is = λ i. record { volume = f.volume_is i; node = f.node_is i; resource = f.resource_is i }

  denied-as : is_denied k.world (fork_in asked f.file) asked.access ≡ is_denied k.world fork access
  denied-as = λ i. is_denied k.world (fork-is i) (f.access_is i)

  -- what is told of it
  reply-is : (w : World) (reference : ℕ) → opened_reply w asked reference f.file ≡ Opened bits (fork_ref reference) (fork_values (opened_on w fork.volume) bits f.file)
  unfolding opened_reply
  reply-is w reference = λ i. Opened (f.bits_are i) (fork_ref reference) (fork_values (opened_on w (f.volume_is i)) (f.bits_are i) f.file)

  refuses-as : (s : Session) (denied many : Bool) → session_of k.world.sessions number ≡ Some s → is_denied k.world fork access ≡ denied → has_most_forks k.world s ≡ many
      → refusal k.world s call ≡ first_holding ((denied, record { code = DenyConflict; reply = opened_reply k.world asked 0 f.file }) ∷ (many, plain TooManyFilesOpen) ∷ [])
  refuses-as s denied many at d m =
      f.refuses s at
      ∙ (λ i. first_holding (((denied-as ∙ d) i, record { code = DenyConflict; reply = opened_reply k.world asked 0 f.file }) ∷ (m i, plain TooManyFilesOpen) ∷ []))

  -- the fork of another open is in the way
  pub found-denied : (told : Told) (block : List ℕ) → ((s : Session) → s.number ≡ number → is_denied k.world fork access ≡ true)
      → block ≡ canonical_reply (Opened bits (fork_ref 0) (fork_values (opened_on k.world fork.volume) bits f.file)) → told ≡ Reply DenyConflict block false → RunsRow k number call (with_ok (done told)) k
  found-denied told block denied bytes tells = λ s at.
      let n = session_of-number k.world.sessions number s at in
      is_refused-with k k s call (record { code = DenyConflict; reply = opened_reply k.world asked 0 f.file }) told (refuses-as s true (has_most_forks k.world s) at (denied s n) refl)
      (tells ∙ ap (λ (l : List ℕ). Reply DenyConflict l false) (bytes ∙ ap canonical_reply (sym (reply-is k.world 0)))) refl

  -- what is told then may want memory
  abbrev denied-is : KeptWorld → Told × Outcome → Type 0
  denied-is new r = (v : VolumeState) (file : File) → slice_get new.world.volumes index ≡ Some v → row_at v.rows fork.node ≡ Some file
      → r ≡ done (Reply DenyConflict (canonical_reply (Opened bits (fork_ref 0) (fork_values (opened_on new.world fork.volume) bits file))) false)

  denied-here : (result : Result (Told × Outcome) OutOfMemory) → ((s : Session) → s.number ≡ number → is_denied k.world fork access ≡ true) → IfOk result (denied-is k) → RunsRow k number call result k
  denied-here (with_ok r) denied told =
      subst (λ (x : Told × Outcome). RunsRow k number call (with_ok x) k) (sym (told f.volume f.file f.there f.found)) (found-denied _ _ denied refl refl)
  denied-here (Err e) denied told = refl

  pub denied-runs : (new : KeptWorld) (result : Result (Told × Outcome) OutOfMemory) → new ≡ k → ((s : Session) → s.number ≡ number → is_denied k.world fork access ≡ true)
      → IfOk result (λ r. (v : VolumeState) (file : File) → slice_get new.world.volumes index ≡ Some v → row_at v.rows fork.node ≡ Some file
      → r ≡ done (Reply DenyConflict (canonical_reply (Opened bits (fork_ref 0) (fork_values (opened_on new.world fork.volume) bits file))) false)) → RunsRow k number call result new
  denied-runs new result same denied = subst (λ (x : KeptWorld). IfOk result (denied-is x) → RunsRow k number call result x) (sym same) (denied-here result denied)

  -- the session has as many as it may
  pub found-many : (told : Told) → ((s : Session) → s.number ≡ number → (is_denied k.world fork access ≡ false) × (has_most_forks k.world s ≡ true)) → told ≡ refusal_reply TooManyFilesOpen
      → RunsRow k number call (with_ok (done told)) k
  found-many told many tells = λ s at.
      let m = many s (session_of-number k.world.sessions number s at) in
      is_refused-with k k s call (plain TooManyFilesOpen) told (refuses-as s false true at m.0 m.1) tells refl

  -- what became of the open forks
  module _ (old : Forks) (has : HasForks k.world old) where
    forks-stay : with_forks k old ≡ k
    forks-stay = λ i. record k { world = record k.world { opens = (sym has.opens) i; locks = (sym has.locks) i } }

    pub found-refused : (answer : Result ForkRef OpenFault) (now : Forks) (fault_is : OpenFault) → answer ≡ Err fault_is → ((s : Session) → s.number ≡ number → OpensFork k.world s old fork access answer now) → now ≡ old
    found-refused (with_ok r) now e is opened = absurd (cc is)
    found-refused (Err fault.Deny) now e is opened = (opened (some_session number) refl).1
    found-refused (Err fault.TooMany) now e is opened = (opened (some_session number) refl).2
    found-refused (Err fault.Memory) now e is opened = opened (some_session number) refl

    pub found-stays : (new : KeptWorld) (now : Forks) → new ≡ with_forks k now → now ≡ old → new ≡ k
    found-stays new now is same = is ∙ ap (with_forks k) same ∙ forks-stay

    next-is : (s : Session) (now : Forks) → now ≡ with_opens old (with_open (new_open old s.number fork access) old.opens)
        → record k.world { opens = now.opens; locks = now.locks } ≡ with_fork k.world (new_fork k.world s asked f.file)
    next-is s now is =
        ap (λ (x : Forks). record k.world { opens = x.opens; locks = x.locks }) is
        ∙ (λ i. record k.world {
          opens = with_open (record { reference = lowest_free ((sym has.opens) i); session = s.number; fork = (sym fork-is) i; access = (sym f.access_is) i }) ((sym has.opens) i);
          locks = (sym has.locks) i;
        })

    -- it is opened
    pub found-opened : (new : KeptWorld) (r : ForkRef) (now : Forks) (block : List ℕ) (told : Told) → ((s : Session) → s.number ≡ number → OpensFork k.world s old fork access (with_ok r) now)
        → new ≡ with_forks k now → block ≡ canonical_reply (Opened bits r (fork_values (opened_on new.world fork.volume) bits f.file)) → told ≡ Reply Ok block false
        → RunsRow k number call (with_ok (done told)) new
    found-opened new r now block told opened is bytes tells = λ s at.
        let o = opened s (session_of-number k.world.sessions number s at) in
        let fork_now = new_fork k.world s asked f.file in
        let next : World = with_fork k.world fork_now in
        let becomes : new ≡ record k { world = next } = is ∙ ap (λ (w : World). record k { world = w }) (next-is s now o.3) in
        let reference : r.0 ≡ fork_now.reference = o.2 ∙ ap lowest_free (sym has.opens) in
        let of : Effect = record { world = next; reply = opened_reply next asked fork_now.reference f.file } in
        let does : effect k.world s call ≡ of = f.does s at in
        let shown : block ≡ canonical_reply of.reply =
        bytes
        ∙ (λ i. canonical_reply (Opened bits (fork_ref (reference i)) (fork_values (opened_on (becomes i).world fork.volume) bits f.file)))
        ∙ ap canonical_reply (sym (reply-is next fork_now.reference)) in
        has_effect k new s call told next (refuses-as s false false at o.0 o.1) (tells ∙ told-effect call (effect k.world s call) of block does f.goes_on shown) becomes
        (ap (λ (e : Effect). e.world) (sym does))

    -- it is closed again
    pub found-undone : (new : KeptWorld) (r : ForkRef) (now after : Forks) → ClosingUndoes → ((opens : List OpenFork) → is_open opens (lowest_free opens) ≡ false) → AllHeld old
        → ((s : Session) → s.number ≡ number → OpensFork k.world s old fork access (with_ok r) now) → after ≡ left_of (λ (o : OpenFork). not (o.reference == r.0)) now → new ≡ with_forks k after → new ≡ k
    found-undone new r now after law free held opened closed is =
        let o = opened (some_session number) refl in
        let one = new_open old number fork access in
        found-stays new after is
        (closed ∙ (λ i. left_of (λ (x : OpenFork). not (x.reference == o.2 i)) (o.3 i)) ∙ law old one held (free old.opens))

-- the call's row
pub open_fork-opens : (flag : ℕ) (volume : VolumeId) (dir : NodeId) (bits mode : ℕ) (path : PathValue)
    → OpensAsked (call.OpenFork flag volume dir bits mode path) (record { volume = volume.0; bits = bits; resource = is_resource flag; access = access_of mode }) dir.0 path
unfolding row
open_fork-opens flag volume dir bits mode path = record { row_is = refl; goes_on = refl }

-- where nothing is refused, the bits ask for no more than a file has
pub bits-within : (v : VolumeState) (user bits : ℕ) (reads writes : Bool) (dir : ℕ) (path : PathValue) → open_fork_refusal v user bits reads writes dir path ≡ None → is_outside file_mask bits ≡ false
unfolding open_fork_refusal
bits-within v user bits reads writes dir path none = by (is_outside file_mask bits) _ none
  where
    by : (b : Bool) (rest : Option Code) → first_or ((b, BitmapErr) ∷ []) rest ≡ None → b ≡ false
    by true rest h = absurd (cc h)
    by false rest h = refl

-- the row that has an id
some-row : (o : Option File) (n : ℕ) → option_map (λ (file : File). file.id) o ≡ Some n → (file : File) × (o ≡ Some file) × (file.id ≡ n)
some-row None n h = absurd (cc h)
some-row (Some file) n h = (file, refl, cc h)

-- the call on a volume that the session has open
module _ (k : KeptWorld) (number flag : ℕ) (volume : VolumeId) (dir : NodeId) (bits mode : ℕ) (path : PathValue) (user index : ℕ) (v : VolumeState) (calls : IsUser k number user) (stands : IsOpenAt k number volume.0 index)
    (there : slice_get k.world.volumes index ≡ Some v) (access : Access) (access_is : access ≡ access_of mode) where
  pub open-refused : (code : Code) (told : Told) → open_fork_refusal v user bits access.read access.write dir.0 path ≡ Some code → told ≡ refusal_reply code
      → RunsRow k number (call.OpenFork flag volume dir bits mode path) (with_ok (done told)) k
  open-refused code told refused tells =
      opens-refused k number (call.OpenFork flag volume dir bits mode path) _ dir.0 path (open_fork-opens flag volume dir bits mode path) user index v calls stands there code told
      (ap (λ (a : Access). open_fork_refusal v user bits a.read a.write dir.0 path) (sym access_is) ∙ refused) tells

  pub open-finds : (node : NodeId) (resource : Bool) → resource ≡ is_resource flag → open_fork_refusal v user bits access.read access.write dir.0 path ≡ None → open_fork_file v user dir.0 path ≡ row_at v.rows node.0
      → option_map (λ (file : File). file.id) (open_fork_file v user dir.0 path) ≡ Some node.0
      → FindsFile k number (call.OpenFork flag volume dir bits mode path) (record { volume = volume.0; bits = bits; resource = is_resource flag; access = access_of mode }) index
      (record { volume = volume.0; node = node.0; resource = resource }) access bits
  open-finds node resource resource_is passes finds id =
      let file = some-row (open_fork_file v user dir.0 path) node.0 id in
      finds-file k number (call.OpenFork flag volume dir bits mode path) _ dir.0 path (open_fork-opens flag volume dir bits mode path) user index v calls stands there file.0
      (record { volume = volume.0; node = node.0; resource = resource }) access bits
      (ap (λ (a : Access). open_fork_refusal v user bits a.read a.write dir.0 path) (sym access_is) ∙ passes) finds (sym finds ∙ file.1) file.2 refl (sym resource_is) (sym access_is) refl

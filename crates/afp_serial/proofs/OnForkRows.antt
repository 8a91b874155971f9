-- What the rows of calls on an open fork owe, in one place.
use Rattle.std.proofs.Common.{◌≡◌, ◌∙◌, ap, sym, refl, subst, ℕ, zero, suc, ◌<◌, arith, Bool, true, false, ◌&&◌, List, [], ◌∷◌, length, Option, Some, None}
use Rattle.std.specs.Prelude.{◌==◌, find, option_map}
use Rattle.std.specs.List.{list_all}
use Rattle.std.proofs.lemmas.Bool.{and_parts, cond_both, eqb-true}
use Rattle.std.proofs.lemmas.Option.{slice_get_within}
use Rattle.afp_base.specs.Apart.{are_apart}
use Rattle.afp_base.specs.Choice.{first_holding}
use Rattle.afp_base.specs.declared.code.Code.TheVariants.{ParamErr}
use Rattle.afp_calls_grammar.specs.declared.grammar.call.Call.{Call}
use Rattle.afp_serial.proofs.OnVolumeRows.{IsToldTo, told-shown}
use Rattle.afp_serial.proofs.SoundParts.{ApartSessions, is_below, opens-parts, same_link, same_number}
use Rattle.afp_serial.proofs.SoundRow.{IsRefusedTo, IsSoundRow, no_more-refuses}
use Rattle.afp_serial.proofs.VolumeStates.{IsServed, served-at}
use Rattle.afp_serial.specs.SessionLaws.{all_stay}
use Rattle.afp_serial.specs.World.{Effect, Refusal, Refused, plain, has_session, volume_at, World, Session, OpenFork}
use Rattle.afp_serial.specs.LawfulCall.{is_lawful_call}
use Rattle.afp_serial.specs.OnFork.{OpenFile, committed_with, done_with, file_on, file_under, on_fork, open_file, own_fork, own_keeper, row_on_fork}
use Rattle.afp_serial.specs.OnVolume.{keeper_of}
use Rattle.afp_serial.specs.Sound.{IsSound, has_volume_open, is_file_of, is_lawful_open}
use Rattle.volume_spec.proofs.SeenRows.{file-found}
use Rattle.volume_spec.proofs.Trees.{tree-parts}
use Rattle.volume_spec.specs.VolumeState.{Row as File, VolumeState}
use Rattle.volume_spec.specs.Walk.{row_at}
use Rattle.afp_base.proofs.ListFacts.{find-all, find-passes}

abbrev pub is_own : Session → ℕ → OpenFork → Bool
is_own s reference o = (o.reference == reference) && (o.session == s.number)

abbrev pub on_file : OpenFork → VolumeState → File → OpenFile
on_file o v file = record { fork = o; volume = v; file = file }

-- an open fork of the session, with its volume and its file
pub record IsHeld (w : World) (s : Session) (reference : ℕ) (f : OpenFile) : Type 0 where
  pub found : find (is_own s reference) w.opens ≡ Some f.fork
  pub there : volume_at w.volumes f.fork.fork.volume ≡ Some f.volume
  pub row : row_at f.volume.rows f.fork.fork.node ≡ Some f.file

pub held-file : (w : World) (s : Session) (reference : ℕ) (f : OpenFile) → open_file w s reference ≡ Some f → IsHeld w s reference f
unfolding open_file
held-file w s reference f is = of-fork (own_fork w s reference) refl is
  where
    of-row : (o : OpenFork) (v : VolumeState) → own_fork w s reference ≡ Some o → volume_at w.volumes o.fork.volume ≡ Some v → (q : Option File) → row_at v.rows o.fork.node ≡ q
        → option_map (on_file o v) q ≡ Some f → IsHeld w s reference f
    of-row o v found there None row h = absurd (cc)
    of-row o v found there (Some file) row h =
        let same : on_file o v file ≡ f = cc in
        subst (λ x. IsHeld w s reference x) same (record { found = found; there = there; row = row })

    of-state : (o : OpenFork) → own_fork w s reference ≡ Some o → (q : Option VolumeState) → volume_at w.volumes o.fork.volume ≡ q → file_on o q ≡ Some f → IsHeld w s reference f
    of-state o found None there h = absurd (cc)
    of-state o found (Some v) there h = of-row o v found there (row_at v.rows o.fork.node) refl h

    of-fork : (q : Option OpenFork) → own_fork w s reference ≡ q → file_under w q ≡ Some f → IsHeld w s reference f
    of-fork None found h = absurd (cc)
    of-fork (Some o) found h = of-state o found (volume_at w.volumes o.fork.volume) refl h

-- what holds of it in a sound world
pub record IsHeldFile (w : World) (reference : ℕ) (f : OpenFile) : Type 0 where
  pub served : IsServed f.volume f.fork.fork.volume
  pub node : f.file.id ≡ f.fork.fork.node
  pub file : f.file.dir ≡ false
  pub reference_is : f.fork.reference ≡ reference

pub sound-file : (w : World) (s : Session) (reference : ℕ) (f : OpenFile) → IsSound w → IsHeld w s reference f → IsHeldFile w reference f
unfolding row_at
sound-file w s reference f h held =
    let served : IsServed f.volume f.fork.fork.volume = served-at w f.fork.fork.volume f.volume h held.there in
    let stands : is_lawful_open w f.fork ≡ true = find-all (is_own s reference) (is_lawful_open w) w.opens f.fork held.found (opens-parts w h.opens).stand in
    let there = (and_parts (has_volume_open w.sessions f.fork.session f.fork.fork.volume) (is_file_of (volume_at w.volumes f.fork.fork.volume) f.fork.fork.node) stands).1 in
    record {
      served = served;
      node = eqb-true f.file.id f.fork.fork.node (find-passes (λ (r : File). r.id == f.fork.fork.node) f.volume.rows f.file held.row);
      file = file-found f.volume.rows f.fork.fork.node f.file (tree-parts f.volume served.sound.tree).apart held.row (ap (λ q. is_file_of q f.fork.fork.node) (sym held.there) ∙ there);
      reference_is = eqb-true f.fork.reference reference (and_parts (f.fork.reference == reference) (f.fork.session == s.number) (find-passes (is_own s reference) w.opens f.fork held.found)).0;
    }

-- refusals none of which holds
abbrev pub NoneHolds : List Refusal → Type 0
NoneHolds [] = Unit {0}
NoneHolds (row ∷ rows) = (row.0 ≡ false) × NoneHolds rows

pub none-refused : (rows : List Refusal) → first_holding rows ≡ None → NoneHolds rows
none-refused [] h = tt
none-refused (row ∷ rows) h =
    cond_both row.0 (Some row.1) (first_holding rows) (λ o. o ≡ None → NoneHolds (row ∷ rows))
    (λ here passes. absurd (cc))
    (λ other passes. (other, none-refused rows passes))
    h

-- what a row on an open fork owes
pub record OwesOnFork (call : Call) (reference : ℕ) (refuses : World → OpenFile → List Refusal) (does : World → OpenFile → Effect) (commits : World → OpenFile → Option ℕ) : Type 0 where
  pub refused : (w : World) (f : OpenFile) (r : Refused) → first_holding (refuses w f) ≡ Some r → IsRefusedTo call r
  pub sound : (w : World) (s : Session) (f : OpenFile) → is_lawful_call call ≡ true → IsHeld w s reference f → first_holding (refuses w f) ≡ None → IsSound w → IsSound (does w f).world
  pub told : (w : World) (s : Session) (f : OpenFile) → is_lawful_call call ≡ true → IsHeld w s reference f → first_holding (refuses w f) ≡ None → IsSound w → IsToldTo call (does w f).reply
  pub sessions : (w : World) (f : OpenFile) → (does w f).world.sessions ≡ w.sessions
  pub next : (w : World) (f : OpenFile) → (does w f).world.next_link ≡ w.next_link
  pub keeper : (w : World) (f : OpenFile) (index : ℕ) → commits w f ≡ Some index → own_keeper f ≡ Some index

-- the volume of the keeper is there
volume-there : (w : World) (volume index : ℕ) (v : VolumeState) → volume_at w.volumes volume ≡ Some v → keeper_of volume ≡ Some index → index < length w.volumes
volume-there w zero index v there names = absurd (cc)
volume-there w (suc k) index v there names =
    let within : k < length w.volumes = slice_get_within w.volumes k v there in
    let same : k ≡ index = cc in
    omega (arith, within, same)

-- sessions that stay are apart
same-apart : (w v : World) → v.sessions ≡ w.sessions → v.next_link ≡ w.next_link → ApartSessions w → ApartSessions v
same-apart w v sessions next a = record {
  numbers = ap (are_apart same_number) sessions ∙ a.numbers;
  links = ap (are_apart same_link) sessions ∙ a.links;
  below = (λ i. list_all (is_below (next i)) (sessions i)) ∙ a.below;
}

pub fork-row-sound : (call : Call) (reference : ℕ) (refuses : World → OpenFile → List Refusal) (does : World → OpenFile → Effect) (commits : World → OpenFile → Option ℕ) → OwesOnFork call reference refuses does commits
    → IsSoundRow call (row_on_fork reference refuses does commits)
fork-row-sound call reference refuses does commits owes = record {
  refuses = λ w s r is h. refused w (open_file w s reference) r is;
  sound = λ w s test lawful found passes h. sound w s lawful h (open_file w s reference) refl passes;
  fits = λ w s lawful passes h. (told w s lawful h (open_file w s reference) refl passes).short;
  shown = λ w s lawful passes h known. told-shown call (done_with (open_file w s reference) w (does w)).reply (told w s lawful h (open_file w s reference) refl passes);
  apart = λ w s test found a. same-apart w (done_with (open_file w s reference) w (does w)).world (sessions w (open_file w s reference)) (next w (open_file w s reference)) a;
  next = λ w s. next w (open_file w s reference);
  keeper = λ w s index passes names. keeper w s index (open_file w s reference) refl names;
  old = λ w s n h. ap (λ list. has_session list n) (sym (sessions w (open_file w s reference))) ∙ h;
  cached = λ w s test found p h. ap (list_all (λ x. p x.number x.cache)) (sessions w (open_file w s reference)) ∙ h;
  leaves = λ stays w s. all_stay (sessions w (open_file w s reference));
}
  where
    refused : (w : World) (q : Option OpenFile) (r : Refused) → first_holding (on_fork q (refuses w)) ≡ Some r → IsRefusedTo call r
    refused w None r is = no_more-refuses call ((true, plain ParamErr) ∷ []) r is refl
    refused w (Some f) r is = owes.refused w f r is

    sound : (w : World) (s : Session) → is_lawful_call call ≡ true → IsSound w → (q : Option OpenFile) → open_file w s reference ≡ q → first_holding (on_fork q (refuses w)) ≡ None → IsSound (done_with q w (does w)).world
    sound w s lawful h None is passes = h
    sound w s lawful h (Some f) is passes = owes.sound w s f lawful (held-file w s reference f is) passes h

    told : (w : World) (s : Session) → is_lawful_call call ≡ true → IsSound w → (q : Option OpenFile) → open_file w s reference ≡ q → first_holding (on_fork q (refuses w)) ≡ None → IsToldTo call (done_with q w (does w)).reply
    told w s lawful h None is passes = absurd (cc)
    told w s lawful h (Some f) is passes = owes.told w s f lawful (held-file w s reference f is) passes h

    sessions : (w : World) (q : Option OpenFile) → (done_with q w (does w)).world.sessions ≡ w.sessions
    sessions w None = refl
    sessions w (Some f) = owes.sessions w f

    next : (w : World) (q : Option OpenFile) → (done_with q w (does w)).world.next_link ≡ w.next_link
    next w None = refl
    next w (Some f) = owes.next w f

    keeper : (w : World) (s : Session) (index : ℕ) (q : Option OpenFile) → open_file w s reference ≡ q → committed_with q (commits w) ≡ Some index → index < length w.volumes
    keeper w s index None is names = absurd (cc)
    keeper w s index (Some f) is names = volume-there w f.fork.fork.volume index f.volume (held-file w s reference f is).there (owes.keeper w f index names)

-- What requests wish of sessions, and which of them are kept.
use Rattle.std.proofs.Common.{◌≡◌, ◌∙◌, ap, sym, refl, ℕ, Bool, true, false, ◌&&◌, cond, List, [], ◌∷◌, ◌++◌, take, Option, Some, None, inl, inr}
use Rattle.std.specs.List.{list_all}
use Rattle.std.proofs.lemmas.Bool.{and_parts, cond_both}
use Rattle.afp_base.proofs.DefinitionLaws.{repeats}
use Rattle.afp_base.specs.Cached.{Request, Answer, Kept, cached_answer, either, is_repeat}
use Rattle.afp_base.specs.declared.code.Code.{Code}
use Rattle.afp_calls_grammar.proofs.OfGrammar.CallLemmas.{readers_sound}
use Rattle.afp_calls_grammar.proofs.OfGrammar.ReaderLemmas.{spelt_spells}
use Rattle.afp_calls_grammar.specs.grammar.Call.{Spells}
use Rattle.afp_calls_grammar.specs.grammar.Commands.{disconnect_old_session_command, get_session_token_command, logout_command}
use Rattle.afp_calls_grammar.specs.grammar.Spelt.{spelt_call}
use Rattle.afp_calls_grammar.specs.declared.grammar.call.Call.TheVariants.{DisconnectOldSession, GetSessionToken, Logout}
use Rattle.afp_serial.proofs.RowsSound.{row-sound}
use Rattle.afp_serial.proofs.SoundRow.{no_more-kept, no_more-parts}
use Rattle.afp_serial.proofs.StaysSound.{is_kept_one, kept-cache}
use Rattle.afp_serial.proofs.Verdicts.{refused-by}
use Rattle.afp_serial.specs.Answer.{refused, verdict}
use Rattle.afp_serial.specs.KeptAnswers.{block_of, is_kept, is_kept_code, is_kept_command}
use Rattle.afp_serial.specs.Sound.{IsSound, is_lawful_cache}
use Rattle.afp_serial.specs.World.{Refused, World, Session}

-- ---- equal requests have one block

cut : (v w : Bool) (m n : ℕ) (a b : List ℕ) → v ≡ w → (v ≡ true → m ≡ n) → a ≡ b → cond v (take m a) a ≡ cond w (take n b) b
cut true w m n a b is same bytes = (λ i. take (same refl i) (bytes i)) ∙ ap (λ x. cond x (take n b) b) is
cut false w m n a b is same bytes = bytes ∙ ap (λ x. cond x (take n b) b) is

same-block : (a b : Request) → is_repeat a b ≡ true → block_of a ≡ block_of b
same-block a b h = let e = (repeats a b).0 h in cut a.write b.write a.offset b.offset a.payload b.payload e.1 e.2 e.3

-- what is told again is of a request that is kept, under a code that is
either-kept : (a b : Option Answer) (x : Answer) (r : Request) → ((y : Answer) → a ≡ Some y → is_kept r y.code ≡ true) → ((y : Answer) → b ≡ Some y → is_kept r y.code ≡ true) → either a b ≡ Some x → is_kept r x.code ≡ true
either-kept (Some a) b x r p q h = p x h
either-kept None b x r p q h = q x h

pub cached-kept : (cache : List Kept) (r : Request) (x : Answer) → list_all is_kept_one cache ≡ true → cached_answer cache r ≡ Some x → is_kept r x.code ≡ true
cached-kept [] r x kept h = absurd (cc)
cached-kept (k ∷ ks) r x kept h =
    let e = and_parts (is_kept_one k) (list_all is_kept_one ks) kept in
    either-kept (cached_answer ks r) (cond (is_repeat k.request r) (Some k.answer) None) x r
    (λ y is. cached-kept ks r y e.1 is)
    (λ y. cond_both (is_repeat k.request r) (Some k.answer) None (λ o. o ≡ Some y → is_kept r y.code ≡ true)
    (λ same is. let this : k.answer ≡ y = cc in
    (λ i. is_kept_code (sym this i).code && is_kept_command (sym (same-block k.request r same) i)) ∙ e.0)
    (λ other is. absurd (cc)))
    h

pub lawful-kept : (cache : List Kept) (r : Request) (x : Answer) → is_lawful_cache cache ≡ true → cached_answer cache r ≡ Some x → is_kept r x.code ≡ true
lawful-kept cache r x lawful h = cached-kept cache r x (kept-cache cache lawful) h

pub kept-parts : (r : Request) (c : Code) → is_kept r c ≡ true → (is_kept_code c ≡ true) × (is_kept_command (block_of r) ≡ true)
kept-parts r c h = and_parts (is_kept_code c) (is_kept_command (block_of r)) h

-- ---- no refusal has the code of a fault or of want of memory

pub refused-kept : (w : World) (s : Session) (r : Request) (x : Refused) → IsSound w → verdict w s r ≡ refused x → is_kept_code x.code ≡ true
refused-kept w s r x h is = elim (refused-by w s r x is) [
  | inl by_row ↦ ((row-sound by_row.0).refuses w s x by_row.2 h).kept
  | inr no_more ↦ no_more-kept x.code (no_more-parts x no_more).1
]

-- ---- the blocks of the three calls that are asked for sessions

pub record Begins (command : ℕ) (block : List ℕ) : Type 0 where
  pub fields : List ℕ
  pub is : block ≡ command ∷ fields

begins : (command : ℕ) (block first rest : List ℕ) → block ≡ first ++ rest → first ≡ command ∷ [] → Begins command block
begins command block first rest whole is = record { fields = rest; is = whole ∙ ap (λ (l : List ℕ). l ++ rest) is }

pub logout-begins : (block : List ℕ) (enclosed : Option (List ℕ)) → spelt_call block enclosed ≡ Some Logout → Begins logout_command block
logout-begins block enclosed is =
    let s : Spells Logout block enclosed = spelt_spells readers_sound block enclosed Logout is in
    begins logout_command block s.fields.0 s.fields.1 s.fields.2 s.fields.3

pub token-begins : (block : List ℕ) (enclosed : Option (List ℕ)) (kind : ℕ) (stamp : Option ℕ) (id : List ℕ) → spelt_call block enclosed ≡ Some (GetSessionToken kind stamp id) → Begins get_session_token_command block
token-begins block enclosed kind stamp id is =
    let s : Spells (GetSessionToken kind stamp id) block enclosed = spelt_spells readers_sound block enclosed (GetSessionToken kind stamp id) is in
    begins get_session_token_command block s.fields.0 s.fields.1 s.fields.2 s.fields.3

pub back-begins : (block : List ℕ) (enclosed : Option (List ℕ)) (kind : ℕ) (token : List ℕ) → spelt_call block enclosed ≡ Some (DisconnectOldSession kind token) → Begins disconnect_old_session_command block
back-begins block enclosed kind token is =
    let s : Spells (DisconnectOldSession kind token) block enclosed = spelt_spells readers_sound block enclosed (DisconnectOldSession kind token) is in
    begins disconnect_old_session_command block s.fields.0 s.fields.1 s.fields.2 s.fields.3

-- these are not kept
begins-unkept : (command : ℕ) (block : List ℕ) → Begins command block → is_kept_command (command ∷ []) ≡ false → is_kept_command block ≡ false
begins-unkept command block b off = ap is_kept_command b.is ∙ off

pub logout-unkept : (block : List ℕ) (enclosed : Option (List ℕ)) → spelt_call block enclosed ≡ Some Logout → is_kept_command block ≡ false
logout-unkept block enclosed is = begins-unkept logout_command block (logout-begins block enclosed is) refl

pub token-unkept : (block : List ℕ) (enclosed : Option (List ℕ)) (kind : ℕ) (stamp : Option ℕ) (id : List ℕ) → spelt_call block enclosed ≡ Some (GetSessionToken kind stamp id) → is_kept_command block ≡ false
token-unkept block enclosed kind stamp id is = begins-unkept get_session_token_command block (token-begins block enclosed kind stamp id is) refl

pub back-unkept : (block : List ℕ) (enclosed : Option (List ℕ)) (kind : ℕ) (token : List ℕ) → spelt_call block enclosed ≡ Some (DisconnectOldSession kind token) → is_kept_command block ≡ false
back-unkept block enclosed kind token is = begins-unkept disconnect_old_session_command block (back-begins block enclosed kind token is) refl

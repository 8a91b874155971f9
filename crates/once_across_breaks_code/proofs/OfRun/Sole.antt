-- The premises of a run where nobody else asks the teller.
use Rattle.std.proofs.Common.{◌≡◌, ◌∙◌, refl, sym, ap, subst, ℕ, ◌+◌, ◌≤◌, Bool, true, false, List, [], ◌∷◌, ◌++◌, arith, eq-eqb, length-append}
use Rattle.std.specs.Prelude.{◌&&◌, if◌then◌else◌, length, nat_eq, not}
use Rattle.std.specs.List.{list_all, list_any}
use Rattle.std.proofs.lemmas.Bool.{and_from}
use Rattle.afp_base.specs.declared.ids.LinkNumber.{LinkNumber}
use Rattle.afp_serial.proofs.Grows.{rising-bound, went-one}
use Rattle.afp_serial.specs.History.{entry}
use Rattle.afp_serial.specs.Shown.{IsSoundShown, Rising, Shown}
use Rattle.afp_serial.specs.Token.{session_token}
use Rattle.afp_serial.specs.Went.{Step, Went, step}
use Rattle.afp_serial.specs.World.{World}
use Rattle.afp_serial.specs.declared.ask.Ask as serial
use Rattle.afp_serial.specs.declared.ask.Entry as entries
use Rattle.afp_serial.specs.declared.ask.Outcome.{Outcome}
use Rattle.afp_serial.specs.declared.ask.Told as tolds
use Rattle.afp_serial.specs.declared.ask.Told.TheVariants as told
use Rattle.once_across_breaks_code.specs.server.Asked.{AskedAlone, AskedBy, AsksAlone, BecomesEntry, OthersPassSince, SoleTellersAreAskedAlone, others_in, world_of}
use Rattle.once_across_breaks_code.proofs.OfServer.AskedLemmas.{all-append}
use Rattle.once_across_breaks_code.specs.run.Doings.{Asks, Breaks, Brings, Does, Doing, IsAlone, Loses, Others, OthersAsk, Quiets, Reaches, Takes}
use Rattle.once_across_breaks_code.specs.run.Premises.{Keeps, KeepsAlone, Notes, OthersKeepOut, OthersPass, asks_back, keeps_out}
use Rattle.once_across_breaks_code.specs.run.Things.{Things}
use Rattle.once_across_breaks_code.proofs.OfRun.Alone.{same-rest}

-- ---- all places are the teller's own

-- places that rise from a later one rise from an earlier one
lower : (from earlier : ℕ) (ks : List ℕ) (n : ℕ) → earlier ≤ from → Rising from ks n → Rising earlier ks n
lower from earlier [] n less r = omega (arith, less, r)
lower from earlier (k ∷ ks) n less r = (let a = r.0 in omega (arith, less, a), r.1)

-- behind so many places
rising-rest : (from : ℕ) (ks js : List ℕ) (n : ℕ) → Rising from (ks ++ js) n → Rising (from + length ks) js n
rising-rest from [] js n r = let same : from ≡ from + 0 = omega arith in subst (λ (m : ℕ). Rising m js n) same r
rising-rest from (k ∷ ks) js n r = let a = r.0 in lower (k + 1 + length ks) (from + length (k ∷ ks)) js n (omega (arith, a)) (rising-rest (k + 1) ks js n r.1)

rising-count : (from : ℕ) (ks : List ℕ) (n : ℕ) → Rising from ks n → from + length ks ≤ n
rising-count from [] n r = let a : from ≤ n = r in omega (arith, a)
rising-count from (k ∷ ks) n r = let a = r.0 in let b = rising-count (k + 1) ks n r.1 in omega (arith, a, b)

-- as many places as entries: none is of others
none-of-others : (k : ℕ) (ks : List ℕ) (es : List entries.Entry) → Rising k ks (k + length es) → length ks ≡ length es → others_in k ks es ≡ []
none-of-others k ks [] r size = refl
none-of-others k [] (e ∷ es) r size = absurd (omega (arith, size))
none-of-others k (j ∷ js) (e ∷ es) r size =
    let a = r.0 in
    let b = rising-count (j + 1) js (k + length (e ∷ es)) r.1 in
    let same : j ≡ k = omega (arith, a, b, size) in
    let here : others_in k (j ∷ js) (e ∷ es) ≡ others_in (k + 1) js es = ap (λ (t : Bool). if t then others_in (k + 1) js es else e ∷ others_in (k + 1) (j ∷ js) es) (eq-eqb j k same) in
    let more : k + length (e ∷ es) ≡ (k + 1) + length es = omega arith in
    here ∙ none-of-others (k + 1) js es (subst (λ (n : ℕ). Rising (k + 1) js n) more (subst (λ (n : ℕ). Rising (n + 1) js (k + length (e ∷ es))) same r.1)) (omega (arith, size))

pub pass-alone : (p : entries.Entry → Bool) (a b : Shown) → IsSoundShown b → AsksAlone a → AsksAlone b → OthersPassSince p a b
pass-alone p a b sound first last more places history mine =
    let h = ap length history ∙ length-append a.history more in
    let m = ap length mine ∙ length-append a.mine places in
    let size : length places ≡ length more = omega (arith, h, m, first, last) in
    let from : 0 + length a.mine ≡ length a.history = omega (arith, first) in
    let rising : Rising (0 + length a.mine) places (length b.history) = rising-rest 0 a.mine places (length b.history) (subst (λ (l : List ℕ). Rising 0 l (length b.history)) mine sound.within) in
    let none : others_in (length a.history) places more ≡ [] =
    none-of-others (length a.history) places more (subst (λ (n : ℕ). Rising (length a.history) places n) h (subst (λ (n : ℕ). Rising n places (length b.history)) from rising)) size in
    ap (list_all p) none

-- ---- what others ask of it

becomes-pass : (p : entries.Entry → Bool) (w : World) (s : Step) (es : List entries.Entry) (behind : World) → BecomesEntry w s es behind → ((o : Outcome) → p (entry s.at s.link s.ask o) ≡ true) → list_all p es ≡ true
becomes-pass p w s es behind (e, all, is) passes = ap (list_all p) all ∙ and_from (p e) true (ap p is.is ∙ passes is.outcome) refl

step-pass : (p : entries.Entry → Bool) (w : World) (s : Step) (t : tolds.Told) (es : List entries.Entry) (behind : World) → AskedBy w s t es behind → ((o : Outcome) → p (entry s.at s.link s.ask o) ≡ true) → list_all p es ≡ true
step-pass p w s (told.Opened link) es behind b passes = becomes-pass p w s es behind b passes
step-pass p w s (told.Reply code block ends) es behind b passes = becomes-pass p w s es behind b passes
step-pass p w s (told.Live drain) es behind b passes = becomes-pass p w s es behind b passes
step-pass p w s told.Done es behind b passes = becomes-pass p w s es behind b passes
step-pass p w s told.Displaced es behind b passes = becomes-pass p w s es behind b passes
step-pass p w s told.Memory es behind (none, same) passes = ap (list_all p) none

one-pass : (p : entries.Entry → Bool) (w : World) (s : Step) (es : List entries.Entry) (behind : World) → AskedAlone w (s ∷ []) es behind → ((o : Outcome) → p (entry s.at s.link s.ask o) ≡ true) → list_all p es ≡ true
one-pass p w s es behind (first, rest, mid, asked, later, all) passes =
    ap (list_all p) all ∙ all-append p first rest (step-pass p w s s.told first mid asked passes) (ap (list_all p) later.0)

no-other : (a c : Bool) → a ≡ false → c ≡ false → (not a && not c) ≡ true
no-other a c p q = (λ i. not (p i) && not (q i))

others-pass : SoleTellersAreAskedAlone → (numbers token : List ℕ) (now : ℕ) (link : LinkNumber) (asks : serial.Ask) (t s : Things) → OthersAsk now link asks t s → AsksAlone t.shown → IsAlone s.shown → OthersKeepOut numbers token (Others now link asks)
    → OthersPass (keeps_out numbers token) (Others now link asks) t s
others-pass sole numbers token now link asks t s x first last out more history =
    let p : entries.Entry → Bool = keeps_out numbers token in
    let went : Went t.shown (step now link asks x.told ∷ []) s.shown = went-one t.shown s.shown now link asks x.told x.asked in
    subst (λ (l : List entries.Entry). list_all p l ≡ true) (same-rest t.shown.history went.between more (sym went.history ∙ history))
    (one-pass p (world_of t.shown) (step now link asks x.told) went.between (world_of s.shown) (sole t.shown s.shown (step now link asks x.told ∷ []) last.sound.lawful first last.alone went)
    (λ o. no-other (list_any (λ number. nat_eq number link.0) numbers) (asks_back token asks) out.0 out.1))

-- the premises of a step
pub keeps-alone : SoleTellersAreAskedAlone → (key : List ℕ) (n : ℕ) (x : Notes) (d : Doing) (t s : Things) → Does d t s → AsksAlone t.shown → IsAlone s.shown → KeepsAlone key n x d s → Keeps key n x d t s
keeps-alone sole key n x d t s does first last k = record { others = by d does k.others; answered = k.answered; row = k.row }
  where
    p : entries.Entry → Bool
    p = keeps_out x.numbers (session_token key n)

    by : (d : Doing) → Does d t s → OthersKeepOut x.numbers (session_token key n) d → OthersPass p d t s
    by (Asks call) does out = pass-alone p t.shown s.shown last.sound first last.alone
    by (Reaches i now) does out = pass-alone p t.shown s.shown last.sound first last.alone
    by Brings does out = pass-alone p t.shown s.shown last.sound first last.alone
    by (Takes event) does out = pass-alone p t.shown s.shown last.sound first last.alone
    by (Quiets i now) does out = pass-alone p t.shown s.shown last.sound first last.alone
    by (Loses i now) does out = pass-alone p t.shown s.shown last.sound first last.alone
    by Breaks does out = pass-alone p t.shown s.shown last.sound first last.alone
    by (Others now link asks) does out = others-pass sole x.numbers (session_token key n) now link asks t s does first last out

-- A house whose lines were good is one that a house refuses nothing of.
use Rattle.std.proofs.Common.{◌≡◌, ◌&&◌, not, zero, ℕ, ◌<◌, Bool, true, false, List, [], ◌∷◌, ◌++◌, suc, length, get_or, nat_le, nat_lt, refl, sym, ap, ◌∙◌, subst, inl, inr, ◌⊎◌, append-nil, append_assoc, length-append, arith}
use Rattle.std.proofs.lemmas.Bool.{leb-true, and_parts, ltb-true, not-false, or_parts, false_from_ne_true, le-leb}
use Rattle.std.proofs.lemmas.Str.{IsUtf8-from_ascii}
use Rattle.std.specs.List.{list_all}
use Rattle.std.specs.Prelude.{Option, Some, None, option_map, if◌then◌else◌}
use Rattle.std.specs.Str.{IsUtf8}
use Rattle.afp_serial.specs.Household.{Household}
use Rattle.afp_serial.specs.HouseFault.{house_fault, first_fault, fault_if, is_printable, is_name, is_text, first_bad_name, first_bad_behind, is_bad_user, is_bad_volume}
use Rattle.afp_serial.specs.Limits.{longest_server, longest_message, most_users, most_volumes}
use Rattle.afp_serial.specs.declared.house_fault.HouseFault.{HouseFault}
use Rattle.afp_serial.specs.declared.house_fault.HouseFault.TheVariants as faults
use Rattle.afp_serial.specs.declared.user.User.{User}
use Rattle.capture_log_lines.specs.declared.log.line.Line.{Line}
use Rattle.capture_log_lines.specs.declared.log.line.Line.TheVariants.{Title, Server, Signature, User as UserLine, Volume, Key, At, End}
use Rattle.capture_log_lines.specs.declared.log.line.What.{What}
use Rattle.capture_log_server.specs.CaptureState.{part_after, user_behind}
use Rattle.capture_log_server.specs.declared.part.Part.{Part}
use Rattle.capture_log_server.specs.declared.part.Part.TheVariants as parts
use Rattle.capture_log.specs.SetUp.{IsSetUp, has_server, has_volume}
use Rattle.capture_log.specs.Taking.{house_with, refused_by}

-- what a line that may come adds

abbrev names_server : Line → Bool
names_server (Server name) = true
names_server Title = false
names_server (Signature bytes) = false
names_server (UserLine name password) = false
names_server (Volume name) = false
names_server (Key bytes) = false
names_server (At link now what) = false
names_server End = false

abbrev names_volume : Line → Bool
names_volume (Volume name) = true
names_volume Title = false
names_volume (Server name) = false
names_volume (Signature bytes) = false
names_volume (UserLine name password) = false
names_volume (Key bytes) = false
names_volume (At link now what) = false
names_volume End = false

record Adds (p : Part) (line : Line) (q : Part) : Type 0 where
  pub server : has_server q ≡ true → (has_server p ≡ true) ⊎ (names_server line ≡ true)
  pub volume : has_volume q ≡ true → (has_volume p ≡ true) ⊎ (names_volume line ≡ true)

adds-title : (p q : Part) → part_after p Title ≡ Some q → Adds p Title q
adds-title parts.Title q e =
    let same : parts.Server ≡ q = cc e in
    subst (λ (x : Part). Adds parts.Title Title x) same (record { server = λ e. absurd (cc e); volume = λ e. absurd (cc e) })
adds-title parts.Server q e = absurd (cc e)
adds-title parts.Signature q e = absurd (cc e)
adds-title parts.Users q e = absurd (cc e)
adds-title parts.Volumes q e = absurd (cc e)
adds-title parts.Events q e = absurd (cc e)
adds-title parts.Nothing q e = absurd (cc e)

adds-server : (p q : Part) (name : List ℕ) → part_after p (Server name) ≡ Some q → Adds p (Server name) q
adds-server parts.Title q name e = absurd (cc e)
adds-server parts.Server q name e =
    let same : parts.Signature ≡ q = cc e in
    subst (λ (x : Part). Adds parts.Server (Server name) x) same (record { server = λ e. inr refl; volume = λ e. absurd (cc e) })
adds-server parts.Signature q name e = absurd (cc e)
adds-server parts.Users q name e = absurd (cc e)
adds-server parts.Volumes q name e = absurd (cc e)
adds-server parts.Events q name e = absurd (cc e)
adds-server parts.Nothing q name e = absurd (cc e)

adds-signature : (p q : Part) (bytes : List ℕ) → part_after p (Signature bytes) ≡ Some q → Adds p (Signature bytes) q
adds-signature parts.Title q bytes e = absurd (cc e)
adds-signature parts.Server q bytes e = absurd (cc e)
adds-signature parts.Signature q bytes e =
    let same : parts.Users ≡ q = cc e in
    subst (λ (x : Part). Adds parts.Signature (Signature bytes) x) same (record { server = λ e. inl refl; volume = λ e. absurd (cc e) })
adds-signature parts.Users q bytes e = absurd (cc e)
adds-signature parts.Volumes q bytes e = absurd (cc e)
adds-signature parts.Events q bytes e = absurd (cc e)
adds-signature parts.Nothing q bytes e = absurd (cc e)

adds-user : (p q : Part) (name password : List ℕ) → part_after p (UserLine name password) ≡ Some q → Adds p (UserLine name password) q
adds-user parts.Title q name password e = absurd (cc e)
adds-user parts.Server q name password e = absurd (cc e)
adds-user parts.Signature q name password e = absurd (cc e)
adds-user parts.Users q name password e =
    let same : parts.Users ≡ q = cc e in
    subst (λ (x : Part). Adds parts.Users (UserLine name password) x) same (record { server = λ e. inl refl; volume = λ e. absurd (cc e) })
adds-user parts.Volumes q name password e = absurd (cc e)
adds-user parts.Events q name password e = absurd (cc e)
adds-user parts.Nothing q name password e = absurd (cc e)

adds-volume : (p q : Part) (name : List ℕ) → part_after p (Volume name) ≡ Some q → Adds p (Volume name) q
adds-volume parts.Title q name e = absurd (cc e)
adds-volume parts.Server q name e = absurd (cc e)
adds-volume parts.Signature q name e = absurd (cc e)
adds-volume parts.Users q name e =
    let same : parts.Volumes ≡ q = cc e in
    subst (λ (x : Part). Adds parts.Users (Volume name) x) same (record { server = λ e. inl refl; volume = λ e. inr refl })
adds-volume parts.Volumes q name e =
    let same : parts.Volumes ≡ q = cc e in
    subst (λ (x : Part). Adds parts.Volumes (Volume name) x) same (record { server = λ e. inl refl; volume = λ e. inl refl })
adds-volume parts.Events q name e = absurd (cc e)
adds-volume parts.Nothing q name e = absurd (cc e)

adds-key : (p q : Part) (bytes : List ℕ) → part_after p (Key bytes) ≡ Some q → Adds p (Key bytes) q
adds-key parts.Title q bytes e = absurd (cc e)
adds-key parts.Server q bytes e = absurd (cc e)
adds-key parts.Signature q bytes e = absurd (cc e)
adds-key parts.Users q bytes e = absurd (cc e)
adds-key parts.Volumes q bytes e =
    let same : parts.Events ≡ q = cc e in
    subst (λ (x : Part). Adds parts.Volumes (Key bytes) x) same (record { server = λ e. inl refl; volume = λ e. inl refl })
adds-key parts.Events q bytes e = absurd (cc e)
adds-key parts.Nothing q bytes e = absurd (cc e)

adds-at : (p q : Part) (link now : ℕ) (what : What) → part_after p (At link now what) ≡ Some q → Adds p (At link now what) q
adds-at parts.Title q link now what e = absurd (cc e)
adds-at parts.Server q link now what e = absurd (cc e)
adds-at parts.Signature q link now what e = absurd (cc e)
adds-at parts.Users q link now what e = absurd (cc e)
adds-at parts.Volumes q link now what e = absurd (cc e)
adds-at parts.Events q link now what e =
    let same : parts.Events ≡ q = cc e in
    subst (λ (x : Part). Adds parts.Events (At link now what) x) same (record { server = λ e. inl refl; volume = λ e. inl refl })
adds-at parts.Nothing q link now what e = absurd (cc e)

adds-end : (p q : Part) → part_after p End ≡ Some q → Adds p End q
adds-end parts.Title q e = absurd (cc e)
adds-end parts.Server q e = absurd (cc e)
adds-end parts.Signature q e = absurd (cc e)
adds-end parts.Users q e = absurd (cc e)
adds-end parts.Volumes q e = absurd (cc e)
adds-end parts.Events q e =
    let same : parts.Nothing ≡ q = cc e in
    subst (λ (x : Part). Adds parts.Events End x) same (record { server = λ e. inl refl; volume = λ e. inl refl })
adds-end parts.Nothing q e = absurd (cc e)

-- one element more

if_none : {X : Type 0} (b : Bool) (x : X) (o : Option X) → (if b then Some x else o) ≡ None → (b ≡ false) × (o ≡ None)
if_none true x o e = absurd (cc e)
if_none false x o e = (refl, e)

bad-more : {X : Type 0} (bad : List X → X → Bool) (before xs : List X) (x : X) → first_bad_behind bad before xs ≡ None → bad (before ++ xs) x ≡ false → first_bad_behind bad before (xs ++ x ∷ []) ≡ None
bad-more bad before [] x none good = ap (λ (b : Bool). if b then Some (length before) else None) (ap (λ (l : List _). bad l x) (sym (append-nil before)) ∙ good)
bad-more bad before (y ∷ xs) x none good =
    let first = if_none (bad before y) (length before) (first_bad_behind bad (before ++ y ∷ []) xs) none in
    let rest = bad-more bad (before ++ y ∷ []) xs x first.1 (ap (λ (l : List _). bad l x) (append_assoc before (y ∷ []) xs) ∙ good) in
    ap (λ (b : Bool). if b then Some (length before) else first_bad_behind bad (before ++ y ∷ []) (xs ++ x ∷ [])) first.0 ∙ rest

one-longer : {X : Type 0} (xs : List X) (x : X) (most : ℕ) → nat_lt (length xs) most ≡ true → nat_le (length (xs ++ x ∷ [])) most ≡ true
one-longer xs x most e =
    let below = ltb-true (length xs) most e in
    le-leb (length (xs ++ x ∷ [])) most (omega (arith, below, length-append xs (x ∷ [])))

not-none : {X : Type 0} (xs : List X) (x : X) → nat_le 1 (length (xs ++ x ∷ [])) ≡ true
not-none xs x = le-leb 1 (length (xs ++ x ∷ [])) (omega (arith, length-append xs (x ∷ [])))

-- what stood is good still

same-parts : (p q : Part) (line : Line) (h i : Household) → Adds p line q → names_server line ≡ false → names_volume line ≡ false → i.server ≡ h.server → i.users ≡ h.users → i.volumes ≡ h.volumes → i.message ≡ h.message
    → IsSetUp p h → IsSetUp q i
same-parts p q line h i adds no_server no_volume server users volumes message is = record {
  server = λ e. elim (adds.server e) [
    | inl there ↦ ap (λ (l : List ℕ). is_name longest_server l) server ∙ is.server there
    | inr named ↦ absurd (cc (sym named ∙ no_server))
  ];
  few_users = ap (λ (l : List User). nat_le (length l) most_users) users ∙ is.few_users;
  users = ap (λ (l : List User). first_bad_name is_bad_user l) users ∙ is.users;
  some_volume = λ e. elim (adds.volume e) [
    | inl there ↦ ap (λ (l : List (List ℕ)). nat_le 1 (length l)) volumes ∙ is.some_volume there
    | inr named ↦ absurd (cc (sym named ∙ no_volume))
  ];
  few_volumes = ap (λ (l : List (List ℕ)). nat_le (length l) most_volumes) volumes ∙ is.few_volumes;
  volumes = ap (λ (l : List (List ℕ)). first_bad_name is_bad_volume l) volumes ∙ is.volumes;
  message = message ∙ is.message;
}

-- a good line that may come leaves it so
pub kept-set-up : (p q : Part) (line : Line) (h : Household) → part_after p line ≡ Some q → refused_by h line ≡ false → IsSetUp p h → IsSetUp q (house_with h line)
kept-set-up p q Title h may good is = same-parts p q Title h h (adds-title p q may) refl refl refl refl refl refl is
kept-set-up p q (Server name) h may good is =
    let adds = adds-server p q name may in
    record {
      server = λ e. not-false (is_name longest_server name) good;
      few_users = is.few_users;
      users = is.users;
      some_volume = λ e. elim (adds.volume e) [
        | inl there ↦ is.some_volume there
        | inr named ↦ absurd (cc named)
      ];
      few_volumes = is.few_volumes;
      volumes = is.volumes;
      message = is.message;
    }
kept-set-up p q (Signature bytes) h may good is = same-parts p q (Signature bytes) h (record h { signature = bytes }) (adds-signature p q bytes may) refl refl refl refl refl refl is
kept-set-up p q (UserLine name password) h may good is =
    let adds = adds-user p q name password may in
    let user : User = user_behind h.users name password in
    let both = or_parts (not (nat_lt (length h.users) most_users)) (is_bad_user h.users user) good in
    record {
      server = λ e. elim (adds.server e) [
        | inl there ↦ is.server there
        | inr named ↦ absurd (cc named)
      ];
      few_users = one-longer h.users user most_users (not-false (nat_lt (length h.users) most_users) both.0);
      users = bad-more is_bad_user [] h.users user is.users both.1;
      some_volume = λ e. elim (adds.volume e) [
        | inl there ↦ is.some_volume there
        | inr named ↦ absurd (cc named)
      ];
      few_volumes = is.few_volumes;
      volumes = is.volumes;
      message = is.message;
    }
kept-set-up p q (Volume name) h may good is =
    let adds = adds-volume p q name may in
    let both = or_parts (not (nat_lt (length h.volumes) most_volumes)) (is_bad_volume h.volumes name) good in
    record {
      server = λ e. elim (adds.server e) [
        | inl there ↦ is.server there
        | inr named ↦ absurd (cc named)
      ];
      few_users = is.few_users;
      users = is.users;
      some_volume = λ e. not-none h.volumes name;
      few_volumes = one-longer h.volumes name most_volumes (not-false (nat_lt (length h.volumes) most_volumes) both.0);
      volumes = bad-more is_bad_volume [] h.volumes name is.volumes both.1;
      message = is.message;
    }
kept-set-up p q (Key bytes) h may good is = same-parts p q (Key bytes) h (record h { token_key = bytes }) (adds-key p q bytes may) refl refl refl refl refl refl is
kept-set-up p q (At link now what) h may good is = same-parts p q (At link now what) h h (adds-at p q link now what may) refl refl refl refl refl refl is
kept-set-up p q End h may good is = same-parts p q End h h (adds-end p q may) refl refl refl refl refl refl is

-- so nothing of it is refused

none-holds : (a b d e g : Bool) (c f : Option ℕ) → a ≡ true → b ≡ true → c ≡ None → d ≡ true → e ≡ true → f ≡ None → g ≡ true
    → first_fault
    (fault_if (not a) faults.Server ∷ fault_if (not b) faults.Users ∷ option_map faults.User c ∷ fault_if (not (d && e)) faults.Volumes ∷ option_map faults.Volume f ∷ fault_if (not g) faults.Message ∷ [])
    ≡ None
none-holds false b d e g c f p q r s t u v = absurd (cc p)
none-holds true false d e g c f p q r s t u v = absurd (cc q)
none-holds true true false e g c f p q r s t u v = absurd (cc s)
none-holds true true true false g c f p q r s t u v = absurd (cc t)
none-holds true true true true false c f p q r s t u v = absurd (cc v)
none-holds true true true true true (Some k) f p q r s t u v = absurd (cc r)
none-holds true true true true true None (Some k) p q r s t u v = absurd (cc u)
none-holds true true true true true None None p q r s t u v = refl

pub set-up-good : (h : Household) → IsSetUp parts.Events h → house_fault h ≡ None
unfolding house_fault
set-up-good h is =
    none-holds (is_name longest_server h.server) (nat_le (length h.users) most_users) (nat_le 1 (length h.volumes)) (nat_le (length h.volumes) most_volumes) (is_text longest_message h.message)
    (first_bad_name is_bad_user h.users) (first_bad_name is_bad_volume h.volumes)
    (is.server refl) is.few_users is.users (is.some_volume refl) is.few_volumes is.volumes (ap (is_text longest_message) is.message)

-- a name is UTF-8

first-holds : (a : Bool) (rest : List (Option HouseFault)) → a ≡ false → first_fault (fault_if (not a) faults.Server ∷ rest) ≡ Some faults.Server
first-holds true rest e = absurd (cc e)
first-holds false rest e = refl

printable-ascii : (bs : List ℕ) → list_all is_printable bs ≡ true → (i : ℕ) → get_or bs i 0 < 128
printable-ascii [] e i = omega arith
printable-ascii (b ∷ bs) e zero =
    let first = and_parts (is_printable b) (list_all is_printable bs) e in
    let most = leb-true b 126 (and_parts (nat_le 32 b) (nat_le b 126) first.0).1 in
    omega (arith, most)
printable-ascii (b ∷ bs) e (suc i) = printable-ascii bs (and_parts (is_printable b) (list_all is_printable bs) e).1 i

name-utf8 : (longest : ℕ) (bs : List ℕ) → is_name longest bs ≡ true → IsUtf8 bs
name-utf8 longest bs e =
    let text = (and_parts (nat_le 1 (length bs)) (is_text longest bs) e).1 in
    IsUtf8-from_ascii bs (printable-ascii bs (and_parts (nat_le (length bs) longest) (list_all is_printable bs) text).1)

pub server-refused : (h : Household) (server : List ℕ) → server ≡ h.server → (IsUtf8 server → ⊥) → house_fault h ≡ Some faults.Server
unfolding house_fault
server-refused h server same other =
    first-holds (is_name longest_server h.server) _ (false_from_ne_true (is_name longest_server h.server) (λ e. other (subst IsUtf8 (sym same) (name-utf8 longest_server h.server e))))

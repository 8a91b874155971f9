-- What the bytes of a header say, and how they follow from its fields.
use Rattle.std.proofs.Common.{◌≡◌, ◌≢◌, ◌==◌, ◌&&◌, ◌+◌, ◌*◌, Bor, Ok, ℕ, zero, suc, ◌≤◌, Bool, true, false, not, cond, nat_lt, List, [], ◌∷◌, ◌++◌, length, take, drop, Option, Some, None, refl, sym, ap, ◌∙◌, subst, inl, inr, arith, ltb-false, le-ltb}
use Rattle.std.proofs.lemmas.Bool.{false≢true, not-false}
use Rattle.std.proofs.lemmas.Bool.Decides.{eqb_tells}
use Rattle.afp_base.specs.Cursor.{Cursor, ReadsNumber, ReadsBytes, cursor_after, piece_at}
use Rattle.afp_base.specs.Limits.{payload_limit}
use Rattle.dsi_frame.specs.declared.frame.DsiCommand.{DsiCommand}
use Rattle.dsi_frame.specs.declared.frame.DsiCommand.TheVariants as commands
use Rattle.dsi_frame.specs.declared.frame.Reason.{Reason}
use Rattle.dsi_frame.specs.declared.frame.Reason.TheVariants as reasons
use Rattle.byteorder.specs.Endian.{big_number}
use Rattle.dsi_frame.specs.declared.frame.Header.{Header}
use Rattle.dsi_frame.specs.declared.frame.HeaderNumbers.{HeaderNumbers}
use Rattle.dsi_frame.specs.Frame.{WordFits, header_fault, first_found, flags_byte, flags_in, command_number, command_in, word_in, payload_length_in, is_listed}
use Rattle.dsi_frame.specs.lemma.GoodHeader.{AreNumbers, IsGoodHeader, id_in}
use Rattle.afp_base.proofs.Facts.{some-none}

-- the fault that four fields of a header show
abbrev pub fault_of : ℕ → ℕ → ℕ → ℕ → Option Reason
fault_of flags command word size = first_found (
    record { found = nat_lt 1 flags; reason = reasons.Flags }
    ∷ record { found = not (is_listed command); reason = reasons.Command }
    ∷ record { found = nat_lt payload_limit size; reason = reasons.Length }
    ∷ record { found = flags == 0 && command == command_number commands.Write && nat_lt size word; reason = reasons.Offset }
    ∷ [])

-- no fault in a header whose length and word are in bounds
pub no_fault : (reply : Bool) (command : DsiCommand) (word size : ℕ) → size ≤ payload_limit → WordFits reply command word size
    → fault_of (flags_byte reply) (command_number command) word size ≡ None
no_fault true commands.CloseSession word size limit offset = rw (le-ltb payload_limit size limit) refl
no_fault true commands.Command word size limit offset = rw (le-ltb payload_limit size limit) refl
no_fault true commands.GetStatus word size limit offset = rw (le-ltb payload_limit size limit) refl
no_fault true commands.OpenSession word size limit offset = rw (le-ltb payload_limit size limit) refl
no_fault true commands.Tickle word size limit offset = rw (le-ltb payload_limit size limit) refl
no_fault true commands.Write word size limit offset = rw (le-ltb payload_limit size limit) refl
no_fault true commands.Attention word size limit offset = rw (le-ltb payload_limit size limit) refl
no_fault false commands.CloseSession word size limit offset = rw (le-ltb payload_limit size limit) refl
no_fault false commands.Command word size limit offset = rw (le-ltb payload_limit size limit) refl
no_fault false commands.GetStatus word size limit offset = rw (le-ltb payload_limit size limit) refl
no_fault false commands.OpenSession word size limit offset = rw (le-ltb payload_limit size limit) refl
no_fault false commands.Tickle word size limit offset = rw (le-ltb payload_limit size limit) refl
no_fault false commands.Write word size limit offset = rw (le-ltb payload_limit size limit, le-ltb size word offset) refl
no_fault false commands.Attention word size limit offset = rw (le-ltb payload_limit size limit) refl

-- a good header has no fault
pub good_has_no_fault : (bytes : List ℕ) (h : Header) → IsGoodHeader bytes h → header_fault bytes ≡ None
good_has_no_fault bytes h g =
    let at_fields : fault_of (flags_in bytes) (command_in bytes) (word_in bytes) (payload_length_in bytes) ≡ fault_of (flags_byte h.reply) (command_number h.command) h.word h.length =
    rw (g.flags, g.command, g.word, g.size) refl in
    at_fields ∙ no_fault h.reply h.command h.word h.length g.limit g.offset

-- the command with a number, where one is listed
abbrev pub command_at : ℕ → DsiCommand
command_at n =
    cond (n == 1) commands.CloseSession (cond (n == 2) commands.Command (cond (n == 3) commands.GetStatus
    (cond (n == 4) commands.OpenSession (cond (n == 5) commands.Tickle (cond (n == 6) commands.Write commands.Attention)))))

pub command_at-number : (c : DsiCommand) → command_at (command_number c) ≡ c
command_at-number commands.CloseSession = refl
command_at-number commands.Command = refl
command_at-number commands.GetStatus = refl
command_at-number commands.OpenSession = refl
command_at-number commands.Tickle = refl
command_at-number commands.Write = refl
command_at-number commands.Attention = refl

-- a number that is no command's is not listed
pub not_listed : (n : ℕ) → n ≢ 1 → n ≢ 2 → n ≢ 3 → n ≢ 4 → n ≢ 5 → n ≢ 6 → n ≢ 8 → is_listed n ≡ false
not_listed n a b c d e f g = grind arith

-- a listed number is a command's
pub listed : (n : ℕ) → is_listed n ≡ true → command_number (command_at n) ≡ n
listed n h = elim (eqb_tells n 1) [
  | inl w ↦ rw w.1 refl
  | inr a ↦
      elim (eqb_tells n 2) [
        | inl w ↦ rw w.1 refl
        | inr b ↦
            elim (eqb_tells n 3) [
              | inl w ↦ rw w.1 refl
              | inr d ↦
                  elim (eqb_tells n 4) [
                    | inl w ↦ rw w.1 refl
                    | inr e ↦
                        elim (eqb_tells n 5) [
                          | inl w ↦ rw w.1 refl
                          | inr f ↦
                              elim (eqb_tells n 6) [
                                | inl w ↦ rw w.1 refl
                                | inr g ↦
                                    elim (eqb_tells n 8) [
                                      | inl w ↦ rw w.1 refl
                                      | inr i ↦
                                          absurd (false≢true (sym (not_listed n a.1 b.1 d.1 e.1 f.1 g.1 i.1) ∙ h))
                                    ]
                              ]
                        ]
                  ]
            ]
      ]
]

-- what holds of 16 bytes and more holds of each list that is so long
pub by_header : (P : List ℕ → Type 0)
    → ((a b c d e f g h i j k l m n o p : ℕ) (tail : List ℕ) → P (a ∷ b ∷ c ∷ d ∷ e ∷ f ∷ g ∷ h ∷ i ∷ j ∷ k ∷ l ∷ m ∷ n ∷ o ∷ p ∷ tail))
    → (bytes : List ℕ) → 16 ≤ length bytes → P bytes
by_header P holds (a ∷ b ∷ c ∷ d ∷ e ∷ f ∷ g ∷ h ∷ i ∷ j ∷ k ∷ l ∷ m ∷ n ∷ o ∷ p ∷ tail) long = holds a b c d e f g h i j k l m n o p tail
by_header P holds _ long = absurd (omega arith)

once : (n : ℕ) → n * 1 + 0 ≡ n
once n = omega arith

-- the numbers that a cursor reads one after the other are those of the header
numbers_read : (bytes : List ℕ) (n : HeaderNumbers) → 16 ≤ length bytes
    → n.flags ≡ big_number 1 (take 1 (drop 0 bytes)) → n.command ≡ big_number 1 (take 1 (drop 1 bytes)) → n.id ≡ big_number 2 (take 2 (drop 2 bytes))
    → n.word ≡ big_number 4 (take 4 (drop 4 bytes)) → n.length ≡ big_number 4 (take 4 (drop 8 bytes)) → AreNumbers bytes n
numbers_read bytes n long =
    by_header (λ bs. n.flags ≡ big_number 1 (take 1 (drop 0 bs)) → n.command ≡ big_number 1 (take 1 (drop 1 bs)) → n.id ≡ big_number 2 (take 2 (drop 2 bs))
    → n.word ≡ big_number 4 (take 4 (drop 4 bs)) → n.length ≡ big_number 4 (take 4 (drop 8 bs)) → AreNumbers bs n)
    (λ a b c d e f g h i j k l m n o p tail one two three four five. record { flags = one ∙ once a; command = two ∙ once b; id = three; word = four; size = five }) bytes long

-- the same, as the code has them
pub numbers_scanned : (bytes : List ℕ) (a b c d e : ℕ) (reserved : Bor (List ℕ)) (s0 s1 s2 s3 s4 s5 s6 : Cursor) → s0 ≡ record { bytes = bytes; place = 0 }
    → ReadsNumber 1 s0 (Ok a) s1 → ReadsNumber 1 s1 (Ok b) s2 → ReadsNumber 2 s2 (Ok c) s3 → ReadsNumber 4 s3 (Ok d) s4 → ReadsNumber 4 s4 (Ok e) s5 → ReadsBytes 4 s5 (Ok reserved) s6
    → AreNumbers bytes (record { flags = a; command = b; id = c; word = d; length = e })
numbers_scanned bytes a b c d e reserved s0 s1 s2 s3 s4 s5 s6 e0 h1 h2 h3 h4 h5 h6 =
    let e1 : s1 ≡ record { bytes = bytes; place = 1 } = h1.2 ∙ ap (λ s. cursor_after s 1) e0 in
    let e2 : s2 ≡ record { bytes = bytes; place = 2 } = h2.2 ∙ ap (λ s. cursor_after s 1) e1 in
    let e3 : s3 ≡ record { bytes = bytes; place = 4 } = h3.2 ∙ ap (λ s. cursor_after s 2) e2 in
    let e4 : s4 ≡ record { bytes = bytes; place = 8 } = h4.2 ∙ ap (λ s. cursor_after s 4) e3 in
    let e5 : s5 ≡ record { bytes = bytes; place = 12 } = h5.2 ∙ ap (λ s. cursor_after s 4) e4 in
    let number : ℕ → Cursor → ℕ = λ n s. big_number n (piece_at s n) in
    numbers_read bytes (record { flags = a; command = b; id = c; word = d; length = e })
    (subst (λ (s : Cursor). s.place + 4 ≤ length s.bytes) e5 h6.0)
    (h1.1 ∙ ap (number 1) e0) (h2.1 ∙ ap (number 1) e1) (h3.1 ∙ ap (number 2) e2) (h4.1 ∙ ap (number 4) e3) (h5.1 ∙ ap (number 4) e4)

-- a header's fault is in its 16 bytes
pub header_fault-append : (bytes more : List ℕ) → 16 ≤ length bytes → header_fault (bytes ++ more) ≡ header_fault bytes
header_fault-append bytes more long =
    by_header (λ bs. header_fault (bs ++ more) ≡ header_fault bs) (λ a b c d e f g h i j k l m n o p tail. refl) bytes long

-- what follows from a header without fault
cut_if : (b : Bool) (r : Reason) (o : Option Reason) → cond b (Some r) o ≡ None → (b ≡ false) × (o ≡ None)
cut_if true r o h = absurd (some-none r h)
cut_if false r o h = (refl, h)

-- the flag that the first byte says
flag_at : (n : ℕ) → n ≤ 1 → n ≡ flags_byte (n == 1)
flag_at zero h = refl
flag_at (suc zero) h = refl
flag_at (suc (suc n)) h = absurd (omega arith)

word_fits : (reply : Bool) (command : DsiCommand) (word size : ℕ)
    → (flags_byte reply == 0 && command_number command == command_number commands.Write && nat_lt size word) ≡ false → WordFits reply command word size
word_fits false commands.Write word size h = ltb-false size word h
word_fits false commands.CloseSession word size h = tt
word_fits false commands.Command word size h = tt
word_fits false commands.GetStatus word size h = tt
word_fits false commands.OpenSession word size h = tt
word_fits false commands.Tickle word size h = tt
word_fits false commands.Attention word size h = tt
word_fits true _ word size h = tt

-- the header that bytes begin with
abbrev pub header_in : List ℕ → Header
header_in bytes = record {
  reply = flags_in bytes == 1;
  command = command_at (command_in bytes);
  id = id_in bytes;
  word = word_in bytes;
  length = payload_length_in bytes;
}

-- a header without fault is good
pub faultless_is_good : (bytes : List ℕ) → header_fault bytes ≡ None → IsGoodHeader bytes (header_in bytes)
faultless_is_good bytes h =
    let flags = cut_if _ _ _ h in
    let command = cut_if _ _ _ flags.1 in
    let size = cut_if _ _ _ command.1 in
    let offset = cut_if _ _ _ size.1 in
    let one : flags_in bytes ≡ flags_byte (flags_in bytes == 1) = flag_at (flags_in bytes) (ltb-false 1 (flags_in bytes) flags.0) in
    let two : command_number (command_at (command_in bytes)) ≡ command_in bytes = listed (command_in bytes) (not-false (is_listed (command_in bytes)) command.0) in
    record {
      flags = one;
      command = sym two;
      id = refl;
      word = refl;
      size = refl;
      limit = ltb-false payload_limit (payload_length_in bytes) size.0;
      offset = word_fits (flags_in bytes == 1) (command_at (command_in bytes)) (word_in bytes) (payload_length_in bytes)
          (let P : ℕ → ℕ → Type 0 = λ m n. (m == 0 && n == command_number commands.Write && nat_lt (payload_length_in bytes) (word_in bytes)) ≡ false in
          subst (λ (m : ℕ). P m (command_number (command_at (command_in bytes)))) one (subst (λ (n : ℕ). P (flags_in bytes) n) (sym two) offset.0));
    }

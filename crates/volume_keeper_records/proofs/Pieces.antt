-- Pieces that are put behind bytes, one after the other.
use Rattle.std.proofs.Common.{◌≡◌, ◌∙◌, ℕ, List, ◌++◌, ap, append_assoc}

pub put_two : (old one two a b : List ℕ) → a ≡ old ++ one → b ≡ a ++ two → b ≡ old ++ (one ++ two)
put_two old one two a b first second = second ∙ ap (λ (l : List ℕ). l ++ two) first ∙ append_assoc old one two

pub put_three : (old one two three a b c : List ℕ) → a ≡ old ++ one → b ≡ a ++ two → c ≡ b ++ three → c ≡ old ++ (one ++ (two ++ three))
put_three old one two three a b c first second third =
    put_two old one (two ++ three) a c first (put_two a two three b c second third)

pub put_four : (old one two three four a b c d : List ℕ) → a ≡ old ++ one → b ≡ a ++ two → c ≡ b ++ three → d ≡ c ++ four → d ≡ old ++ (one ++ (two ++ (three ++ four)))
put_four old one two three four a b c d first second third fourth =
    put_two old one (two ++ (three ++ four)) a d first (put_three a two three four b c d second third fourth)

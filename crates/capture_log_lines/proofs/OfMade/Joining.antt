-- Eight pieces, put one behind the other.
use Rattle.std.proofs.Common.{◌≡◌, ◌∙◌, ℕ, List, ◌++◌, ◌∷◌, [], ap, append_assoc}
use Rattle.std.specs.Prelude.{codes, Result, Ok, Err, OnOk}
use Rattle.std.specs.Fmt.{decimal}
use Rattle.hex.specs.Hex.{encode_lower}
use Rattle.capture_log_lines.specs.made.Lines.{event_line}

pub joined : (o a b c d e f g h : List ℕ) → (((((((o ++ a) ++ b) ++ c) ++ d) ++ e) ++ f) ++ g) ++ h ≡ o ++ (a ++ (b ++ (c ++ (d ++ (e ++ (f ++ (g ++ h)))))))
joined o a b c d e f g h =
    append_assoc ((((((o ++ a) ++ b) ++ c) ++ d) ++ e) ++ f) g h
    ∙ append_assoc (((((o ++ a) ++ b) ++ c) ++ d) ++ e) f (g ++ h)
    ∙ append_assoc ((((o ++ a) ++ b) ++ c) ++ d) e (f ++ (g ++ h))
    ∙ append_assoc (((o ++ a) ++ b) ++ c) d (e ++ (f ++ (g ++ h)))
    ∙ append_assoc ((o ++ a) ++ b) c (d ++ (e ++ (f ++ (g ++ h))))
    ∙ append_assoc (o ++ a) b (c ++ (d ++ (e ++ (f ++ (g ++ h)))))
    ∙ append_assoc o a (b ++ (c ++ (d ++ (e ++ (f ++ (g ++ h))))))

pub on_ok_with : {X E : Type 0} (r : Result X E) (P Q : Type 0) → (P → Q) → OnOk r P → OnOk r Q
on_ok_with (Ok x) P Q f h = f h
on_ok_with (Err e) P Q f h = tt

pub line-put : (o n1 n2 n3 n4 n5 n6 n7 n8 word bytes : List ℕ) (link now : ℕ) → n1 ≡ o ++ codes "at " → n2 ≡ n1 ++ decimal link → n3 ≡ n2 ++ codes " " → n4 ≡ n3 ++ decimal now → n5 ≡ n4 ++ codes " " → n6 ≡ n5 ++ word
    → n7 ≡ n6 ++ codes " " → n8 ≡ n7 ++ encode_lower bytes → n8 ≡ o ++ event_line link now word bytes
unfolding event_line
line-put o n1 n2 n3 n4 n5 n6 n7 n8 word bytes link now e1 e2 e3 e4 e5 e6 e7 e8 =
    e8 ∙ ap (λ (l : List ℕ). l ++ encode_lower bytes) (e7 ∙ ap (λ (l : List ℕ). l ++ codes " ") (e6 ∙ ap (λ (l : List ℕ). l ++ word) (e5 ∙ ap (λ (l : List ℕ). l ++ codes " ") (e4 ∙ ap (λ (l : List ℕ). l ++ decimal now)
    (e3 ∙ ap (λ (l : List ℕ). l ++ codes " ") (e2 ∙ ap (λ (l : List ℕ). l ++ decimal link) e1))))))
    ∙ joined o (codes "at ") (decimal link) (codes " ") (decimal now) (codes " ") word (codes " ") (encode_lower bytes)

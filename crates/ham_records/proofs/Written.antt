-- A call's line, written piece by piece.
use Rattle.std.proofs.Common.{◌≡◌, ℕ, List, [], ◌∷◌, ◌++◌, sym, ap, ◌∙◌, append_assoc}
use Rattle.ham_text.specs.Written.{spaced, joined, line_text}
use Rattle.ham_text.proofs.Wording.{joined_spaced}

regrouped : (t w a b c d : List ℕ) → ((((t ++ w) ++ a) ++ b) ++ c) ++ d ≡ t ++ (w ++ (a ++ (b ++ (c ++ d))))
regrouped t w a b c d = simp append_assoc

pub call_written : (w l k m : List ℕ) (args : List (List ℕ)) (t word lane number method numbers : List ℕ) →
    word ≡ t ++ w → lane ≡ word ++ 32 ∷ l → number ≡ lane ++ 32 ∷ k → method ≡ number ++ 32 ∷ m → numbers ≡ method ++ spaced args →
    numbers ++ 10 ∷ [] ≡ t ++ line_text (w ∷ l ∷ k ∷ m ∷ args)
call_written w l k m args t word lane number method numbers a b c d e =
    ap (λ z. z ++ 10 ∷ [])
    (e ∙ ap (λ z. z ++ spaced args) (d ∙ ap (λ z. z ++ 32 ∷ m) (c ∙ ap (λ z. z ++ 32 ∷ k) (b ∙ ap (λ z. z ++ 32 ∷ l) a)))
    ∙ regrouped t w (32 ∷ l) (32 ∷ k) (32 ∷ m) (spaced args)
    ∙ ap (λ z. t ++ z) (sym (joined_spaced w (l ∷ k ∷ m ∷ args))))
    ∙ append_assoc t (joined (w ∷ l ∷ k ∷ m ∷ args)) (10 ∷ [])

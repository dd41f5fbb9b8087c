-- Words that are text.
use Rattle.std.proofs.Common.{◌≡◌, ℕ, Bool, true, false, List, refl, sym}
use Rattle.std.specs.Str.{IsUtf8, is_utf8}
use Rattle.std.proofs.lemmas.Str.{IsUtf8-from_is_utf8, is_utf8-from_IsUtf8}

false_from : (b : Bool) → (b ≡ true → ⊥) → false ≡ b
false_from true h = absurd (h refl)
false_from false h = refl

pub text_is : (bytes : List ℕ) → IsUtf8 bytes → true ≡ is_utf8 bytes
text_is bytes h = sym (is_utf8-from_IsUtf8 bytes h)

pub no_text : (bytes : List ℕ) → ¬ (IsUtf8 bytes) → false ≡ is_utf8 bytes
no_text bytes h = false_from (is_utf8 bytes) (λ t. h (IsUtf8-from_is_utf8 bytes t))

-- What an answer says of the tests and steps that led to it.
use Rattle.std.proofs.Common.{◌≡◌, ◌⊎◌, ℕ, Bool, true, false, cond, List, Option, Some, None, refl, sym, ◌∙◌, subst, inl, inr}
use Rattle.std.specs.Prelude.{option_map, option_and_then}
use Rattle.std.specs.Cmp.Lexicographic.{same_text}
use Rattle.std.proofs.lemmas.Option.{same_Some, none-some}
use Rattle.ham_text.specs.Words.{is_text, if_word}

-- which branch was taken
pub branch : {A : Type 0} (b : Bool) (o p : Option A) (x : A) → cond b o p ≡ Some x → ((b ≡ true) × (o ≡ Some x)) ⊎ (p ≡ Some x)
branch true o p x e = inl (refl, e)
branch false o p x e = inr e

-- the same where the first branch is found for sure
pub either : {A : Type 0} (b : Bool) (a x : A) (o : Option A) → cond b (Some a) o ≡ Some x → ((b ≡ true) × (a ≡ x)) ⊎ (o ≡ Some x)
either true a x o e = inl (refl, same_Some a x e)
either false a x o e = inr e

-- the test held where something was found
pub only : {A : Type 0} (b : Bool) (o : Option A) (x : A) → cond b o None ≡ Some x → (b ≡ true) × (o ≡ Some x)
only true o x e = (refl, e)
only false o x e = absurd (none-some x e)

pub chosen : {A : Type 0} (b : Bool) (x y : A) → cond b (Some x) None ≡ Some y → (b ≡ true) × (x ≡ y)
chosen true x y e = (refl, same_Some x y e)
chosen false x y e = absurd (none-some y e)

-- a step that succeeded, and the steps after it
pub steps : {A B : Type 0} (o : Option A) (f : A → Option B) (y : B) → option_and_then f o ≡ Some y → (x : A) × (o ≡ Some x) × (f x ≡ Some y)
steps (Some x) f y e = (x, refl, e)
steps None f y e = absurd (none-some y e)

pub mapped : {A B : Type 0} (o : Option A) (f : A → B) (y : B) → option_map f o ≡ Some y → (x : A) × (o ≡ Some x) × (f x ≡ y)
mapped (Some x) f y e = (x, refl, same_Some (f x) y e)
mapped None f y e = absurd (none-some y e)

pub text_is : (w t : List ℕ) → is_text w t ≡ true → w ≡ t
text_is w t e = same_text w t (sym e)

-- a word that is chosen among some is the one that stands for what is chosen
pub pick : {A : Type 0} (P : A → Type 0) (w t : List ℕ) (a x : A) (others : Option A) → (w ≡ t → P a) → (others ≡ Some x → P x) → if_word w t a others ≡ Some x → P x
pick P w t a x others here more e = elim (either (is_text w t) a x others e) [
  | inl p ↦ subst P p.1 (here (text_is w t p.0))
  | inr h ↦ more h
]

-- the same where each is spelled by a word of its own
pub pick_spelled : {A : Type 0} (spelling : A → List ℕ) (w t : List ℕ) (a x : A) (others : Option A) → spelling a ≡ t → (others ≡ Some x → w ≡ spelling x) → if_word w t a others ≡ Some x → w ≡ spelling x
pick_spelled spelling w t a x others s more e = pick (λ v. w ≡ spelling v) w t a x others (λ q. q ∙ sym s) more e

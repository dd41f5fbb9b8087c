-- Requests that are told their verdict.
use Rattle.std.proofs.Common.{◌≡◌, ◌++◌, ℕ, zero, suc, ◌+◌, ◌<◌, true, List, [], ◌∷◌, length, get_or, set, take, refl, sym, subst, ap, ◌∙◌, arith}
use Rattle.std.specs.Prelude.{Some}
use Rattle.std.specs.List.{list_all}
use Rattle.std.proofs.lemmas.Bool.{and_parts, and_from}
use Rattle.std.proofs.lemmas.List.{take-append-le, length_push}
use Rattle.std.proofs.lemmas.List.Folds.{list_all_more}
use Rattle.ham_frame.specs.declared.frame.Ruling.{Ruling}
use Rattle.ham_resend.specs.declared.asks.Ask.{Ask}
use Rattle.ham_resend.specs.Asking.{is_told, told_at, IsGroup, IsFirstOpen}

pub length-told_at : (made : List Ask) (i : ℕ) (v : Ruling) → length (told_at made i v) ≡ length made
length-told_at [] i v = refl
length-told_at (a ∷ made) zero v = refl
length-told_at (a ∷ made) (suc i) v = let e = length-told_at made i v in omega arith

pub told_set : (made : List Ask) (i : ℕ) (v : Ruling) (d : Ask) → i < length made → set made i (record { act = (get_or made i d).act; verdict = Some v }) ≡ told_at made i v
told_set [] i v d h = refl
told_set (a ∷ made) zero v d h = refl
told_set (a ∷ made) (suc i) v d h = ap (λ l. a ∷ l) (told_set made i v d (omega arith))

pub told_written : (made : List Ask) (i : ℕ) (v : Ruling) (a : Ask) → i < length made → a ≡ get_or made i a → set made i (record { act = a.act; verdict = Some v }) ≡ told_at made i v
told_written made i v a h e = ap (λ (z : Ask). set made i (record { act = z.act; verdict = Some v })) e ∙ told_set made i v a h

still_told : (k i : ℕ) (made : List Ask) (v : Ruling) → list_all is_told (take k made) ≡ true → list_all is_told (take k (told_at made i v)) ≡ true
still_told zero i made v h = refl
still_told (suc k) i [] v h = refl
still_told (suc k) zero (a ∷ made) v h = (and_parts (is_told a) (list_all is_told (take k made)) h).1
still_told (suc k) (suc i) (a ∷ made) v h =
    let parts = and_parts (is_told a) (list_all is_told (take k made)) h in
    and_from (is_told a) (list_all is_told (take k (told_at made i v))) parts.0 (still_told k i made v parts.1)

-- a group after a verdict
pub told_group : (made new : List Ask) (settled at i : ℕ) (v : Ruling) → IsGroup made settled → new ≡ told_at made i v → IsFirstOpen new settled at → IsGroup new at
told_group made new settled at i v g e first = record {
  few = let l = ap length e ∙ length-told_at made i v in let f = g.few in omega arith;
  within = first.within;
  told = first.told (subst (λ m. list_all is_told (take settled m) ≡ true) (sym e) (still_told settled i made v g.told));
}

pub asked_group : (made new : List Ask) (settled : ℕ) (a : Ask) → IsGroup made settled → length made < 65536 → new ≡ made ++ a ∷ [] → IsGroup new settled
asked_group made new settled a g few e = record {
  few = let l = ap length e ∙ length_push made a in omega arith;
  within = let l = ap length e ∙ length_push made a in let h = g.within in omega arith;
  told = subst (λ m. list_all is_told (take settled m) ≡ true) (sym e) (rw (take-append-le settled made (a ∷ []) g.within) g.told);
}

-- one more index is looked at
pub first_open_more : (made : List Ask) (from at : ℕ) (d : Ask) → IsFirstOpen made from at → at < length made → is_told (get_or made at d) ≡ true → IsFirstOpen made from (at + 1)
first_open_more made from at d first h told = record {
  from_on = let f = first.from_on in omega arith;
  within = omega arith;
  told = λ before. list_all_more is_told made at d h ∙ and_from (list_all is_told (take at made)) (is_told (get_or made at d)) (first.told before) told;
}

-- What is owed for two methods that are to commute is owed for them in the other order, for the same reasons.
use Rattle.std.proofs.Common.{◌≡◌, ℕ, ◌-◌, Bool, true, false, not, ◌&&◌, nat_lt, List, Option, Some, None, refl, sym, ap, ◌∙◌, length, subst}
use Rattle.std.specs.Prelude.{◌==◌, slice_get, ◌/◌, ◌%◌}
use Rattle.std.proofs.lemmas.Bool.{eqb-true, eq-eqb, both_ways}
use Rattle.std.proofs.lemmas.Option.{slice_get_within}
use Rattle.ham_syntax.proofs.Named.{there}
use Rattle.ham_syntax.specs.declared.term.Term.{Term}
use Rattle.ham_syntax.specs.declared.term.Term.TheVariants.{Param, Const, Any}
use Rattle.ham_syntax.specs.declared.object.Effect.{Effect}
use Rattle.ham_syntax.specs.declared.object.Effect.TheVariants.{Insert, Delete, Add, Subtract}
use Rattle.ham_syntax.specs.Objects.{Schema}
use Rattle.ham_syntax.specs.Checked.{IsChecked}
use Rattle.ham_rules.specs.declared.claim.Claim.TheVariants.{Sc}
use Rattle.ham_rules.specs.declared.claim.Obligation.TheVariants.{Pair}
use Rattle.ham_rules.specs.declared.claim.Reason.{Reason}
use Rattle.ham_rules.specs.declared.claim.Reason.TheVariants.{Other, Inserts, Deletes, Sums, Apart}
use Rattle.ham_rules.specs.declared.target.Target.{Target}
use Rattle.ham_rules.specs.declared.target.Target.TheVariants.{Relation, Counter}
use Rattle.ham_rules.specs.Terms.{differ, differ_both, are_apart_at}
use Rattle.ham_rules.specs.Rules.{target, same_target, terms, both_insert, both_delete, both_sum, insert_and_delete, pair_reason}
use Rattle.ham_rules.specs.Claims.{effects_at, of_one, of_two, pairs_owe, obligations_of, admissible, HasReason, Derivable}
use Rattle.ham_rules.specs.Derivations.{is_derivable}
use Rattle.ham_rules.proofs.Places.{pair_place}
use Rattle.ham_rules.proofs.Commuting.{CommutesBy}
use Rattle.ham_rules.proofs.Sound.{commutes_by}
use Rattle.ham_rules.proofs.Derived.{computed-derivable, derivable-computed}

-- ---- a reason for two effects
same_number : (a b : ℕ) → (a == b) ≡ (b == a)
same_number a b = by (a == b) (b == a) refl refl
  where
    by : (x y : Bool) → (a == b) ≡ x → (b == a) ≡ y → (a == b) ≡ (b == a)
    by true true e f = e ∙ sym f
    by false false e f = e ∙ sym f
    by true false e f = absurd (both_ways (b == a) f (eq-eqb b a (sym (eqb-true a b e))))
    by false true e f = absurd (both_ways (a == b) e (eq-eqb a b (sym (eqb-true b a f))))

same_targets : (t u : Target) → same_target t u ≡ same_target u t
same_targets (Relation r) (Relation q) = same_number r q
same_targets (Counter c) (Counter d) = same_number c d
same_targets (Relation r) (Counter d) = refl
same_targets (Counter c) (Relation q) = refl

differs : (t u : Term) → differ t u ≡ differ u t
differs (Const a) (Const b) = ap not (same_number a b)
differs (Const a) (Param q) = refl
differs (Const a) Any = refl
differs (Param p) (Const b) = refl
differs (Param p) (Param q) = refl
differs (Param p) Any = refl
differs Any (Const b) = refl
differs Any (Param q) = refl
differs Any Any = refl

differ_boths : (t u : Option Term) → differ_both t u ≡ differ_both u t
differ_boths (Some t) (Some u) = differs t u
differ_boths (Some t) None = refl
differ_boths None (Some u) = refl
differ_boths None None = refl

apart_at : (p : ℕ) (ts us : List Term) → are_apart_at p ts us ≡ are_apart_at p us ts
apart_at p ts us = ap (λ (b : Bool). nat_lt 0 p && b) (differ_boths (slice_get ts (p - 1)) (slice_get us (p - 1)))

inserts : (e f : Effect) → both_insert e f ≡ both_insert f e
inserts (Insert r ts) (Insert q us) = same_number r q
inserts (Insert r ts) (Delete q us) = refl
inserts (Insert r ts) (Add d k v) = refl
inserts (Insert r ts) (Subtract d k v) = refl
inserts (Delete r ts) (Insert q us) = refl
inserts (Delete r ts) (Delete q us) = refl
inserts (Delete r ts) (Add d k v) = refl
inserts (Delete r ts) (Subtract d k v) = refl
inserts (Add c k v) (Insert q us) = refl
inserts (Add c k v) (Delete q us) = refl
inserts (Add c k v) (Add d l w) = refl
inserts (Add c k v) (Subtract d l w) = refl
inserts (Subtract c k v) (Insert q us) = refl
inserts (Subtract c k v) (Delete q us) = refl
inserts (Subtract c k v) (Add d l w) = refl
inserts (Subtract c k v) (Subtract d l w) = refl

deletes : (e f : Effect) → both_delete e f ≡ both_delete f e
deletes (Delete r ts) (Delete q us) = same_number r q
deletes (Insert r ts) (Insert q us) = refl
deletes (Insert r ts) (Delete q us) = refl
deletes (Insert r ts) (Add d k v) = refl
deletes (Insert r ts) (Subtract d k v) = refl
deletes (Delete r ts) (Insert q us) = refl
deletes (Delete r ts) (Add d k v) = refl
deletes (Delete r ts) (Subtract d k v) = refl
deletes (Add c k v) (Insert q us) = refl
deletes (Add c k v) (Delete q us) = refl
deletes (Add c k v) (Add d l w) = refl
deletes (Add c k v) (Subtract d l w) = refl
deletes (Subtract c k v) (Insert q us) = refl
deletes (Subtract c k v) (Delete q us) = refl
deletes (Subtract c k v) (Add d l w) = refl
deletes (Subtract c k v) (Subtract d l w) = refl

sums : (e f : Effect) → both_sum e f ≡ both_sum f e
sums (Add c k v) (Add d l w) = same_number c d
sums (Add c k v) (Subtract d l w) = same_number c d
sums (Subtract c k v) (Add d l w) = same_number c d
sums (Subtract c k v) (Subtract d l w) = same_number c d
sums (Insert r ts) (Insert q us) = refl
sums (Insert r ts) (Delete q us) = refl
sums (Insert r ts) (Add d k v) = refl
sums (Insert r ts) (Subtract d k v) = refl
sums (Delete r ts) (Insert q us) = refl
sums (Delete r ts) (Delete q us) = refl
sums (Delete r ts) (Add d k v) = refl
sums (Delete r ts) (Subtract d k v) = refl
sums (Add c k v) (Insert q us) = refl
sums (Add c k v) (Delete q us) = refl
sums (Subtract c k v) (Insert q us) = refl
sums (Subtract c k v) (Delete q us) = refl

one_each : (e f : Effect) → insert_and_delete e f ≡ insert_and_delete f e
one_each (Insert r ts) (Delete q us) = same_number r q
one_each (Delete r ts) (Insert q us) = same_number r q
one_each (Insert r ts) (Insert q us) = refl
one_each (Insert r ts) (Add d k v) = refl
one_each (Insert r ts) (Subtract d k v) = refl
one_each (Delete r ts) (Delete q us) = refl
one_each (Delete r ts) (Add d k v) = refl
one_each (Delete r ts) (Subtract d k v) = refl
one_each (Add c k v) (Insert q us) = refl
one_each (Add c k v) (Delete q us) = refl
one_each (Add c k v) (Add d l w) = refl
one_each (Add c k v) (Subtract d l w) = refl
one_each (Subtract c k v) (Insert q us) = refl
one_each (Subtract c k v) (Delete q us) = refl
one_each (Subtract c k v) (Add d l w) = refl
one_each (Subtract c k v) (Subtract d l w) = refl

pair_turned : (e f : Effect) (reason : Reason) → pair_reason e f reason ≡ pair_reason f e reason
pair_turned e f Other = ap not (same_targets (target e) (target f))
pair_turned e f Inserts = inserts e f
pair_turned e f Deletes = deletes e f
pair_turned e f Sums = sums e f
pair_turned e f (Apart p) = ap (λ (b : Bool). b && are_apart_at p (terms e) (terms f)) (one_each e f) ∙ ap (λ (b : Bool). insert_and_delete f e && b) (apart_at p (terms e) (terms f))
pair_turned e f _ = refl

-- ---- a reason for each pair
put_one : {A : Type 0} (t : A → Bool) (a : Option A) (x : A) → a ≡ Some x → t x ≡ true → of_one t a ≡ true
put_one t a x e h = ap (of_one t) e ∙ h

put_two : {A B : Type 0} (t : A → B → Bool) (a : Option A) (b : Option B) (x : A) (y : B) → a ≡ Some x → b ≡ Some y → t x y ≡ true → of_two t a b ≡ true
put_two t a b x y e f h = put_one (λ z. of_one (t z) b) a x e (put_one (t x) b y f h)

same_some : {A : Type 0} (a b : A) → Some a ≡ Some b → a ≡ b
same_some a b e = cc

derivable_by : (o : Schema) (m n : ℕ) → CommutesBy (effects_at o m) (effects_at o n) → Derivable o (Sc m n)
unfolding obligations_of admissible
derivable_by o m n commutes k what at =
    let es = effects_at o m in
    let fs = effects_at o n in
    let place = pair_place (length es) (length fs) k (slice_get_within (pairs_owe (length es) (length fs)) k what at) in
    let i = k / length fs in
    let j = k % length fs in
    let e = there es i place.first in
    let f = there fs j place.second in
    let r = commutes i j e.0 f.0 e.1 f.1 in
    let is : Pair i j ≡ what = same_some (Pair i j) what (sym place.is ∙ at) in
    subst (HasReason o (Sc m n)) is (r.0, put_two (λ e f. pair_reason e f r.0) (slice_get es i) (slice_get fs j) e.0 f.0 e.1 f.1 r.1)

pub turned : (o : Schema) (m n : ℕ) → Derivable o (Sc m n) → Derivable o (Sc n m)
turned o m n d = derivable_by o n m (λ j i f e at_f at_e. let r = commutes_by o m n d i j e f at_e at_f in (r.0, sym (pair_turned e f r.0) ∙ r.1))

pub computed_turned : (o : Schema) (m n : ℕ) → IsChecked o → is_derivable o (Sc m n) ≡ is_derivable o (Sc n m)
computed_turned o m n checked = by (is_derivable o (Sc m n)) (is_derivable o (Sc n m)) refl refl
  where
    one_way : (p q : ℕ) → is_derivable o (Sc p q) ≡ true → is_derivable o (Sc q p) ≡ true
    one_way p q e = derivable-computed o (Sc q p) checked (turned o p q (computed-derivable o (Sc p q) e))

    by : (x y : Bool) → is_derivable o (Sc m n) ≡ x → is_derivable o (Sc n m) ≡ y → is_derivable o (Sc m n) ≡ is_derivable o (Sc n m)
    by true true e f = e ∙ sym f
    by false false e f = e ∙ sym f
    by true false e f = absurd (both_ways _ f (one_way m n e))
    by false true e f = absurd (both_ways _ e (one_way n m f))

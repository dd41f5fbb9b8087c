-- Derived plans are sound.
use Rattle.std.proofs.Common.{◌≡◌, ◌⊎◌, ℕ, ◌<◌, Bool, true, false, not, ◌&&◌, ◌||◌, ltb, List, length, inl, inr, refl, sym, ap, subst, ◌∙◌, true≢false, arith, lt-ltb}
use Rattle.std.proofs.lemmas.Bool.{ltb-true, ltb-false}
use Rattle.ham_syntax.specs.Objects.{Schema}
use Rattle.ham_syntax.specs.Checked.{IsChecked}
use Rattle.ham_meaning.specs.Relations.{StateCommute, InvariantSufficient, PermissibleRight, PermissibleLeft}
use Rattle.ham_meaning.specs.OfObjects.{meaning}
use Rattle.ham_rules.specs.declared.claim.Claim.TheVariants.{Sc, Is, Pr, Pl}
use Rattle.ham_rules.specs.Derivations.{is_derivable}
use Rattle.ham_rules.proofs.Derived.{computed-holds}
use Rattle.ham_rules.proofs.Turned.{computed_turned}
use Rattle.ham_laws.specs.Executions.{IsSound}
use Rattle.ham_plan.specs.Plans.{Plan, IsPlan, among, conflicts, depends_on}
use Rattle.ham_laws.specs.Constrained.{constraints_of}
use Rattle.ham_plan.specs.Grids.{cell}
use Rattle.ham_plan.specs.Same.{SaysSame}
use Rattle.ham_laws.proofs.Missing.{IsActOf-within}
use Rattle.ham_tables.specs.DerivedPlans.{stays, concur, conflict_of, depends_of, Derived, IsDerived, IsDerivedPlan}

both : (a b : Bool) → (a && b) ≡ true → (a ≡ true) × (b ≡ true)
both true b e = (refl, e)
both false b e = absurd (true≢false (sym e))

either : (a b : Bool) → (a || b) ≡ true → (a ≡ true) ⊎ (b ≡ true)
either true b e = inl refl
either false b e = inr e

not-false : (b : Bool) → not b ≡ false → b ≡ true
not-false true e = refl
not-false false e = absurd (true≢false e)

-- ---- conflict is symmetric
exchanged : (a b c d : Bool) → a ≡ b → (a && (c && d)) ≡ (b && (d && c))
exchanged a b c d e = rw e (ap (λ (x : Bool). b && x) (turn c d))
  where
    turn : (x y : Bool) → (x && y) ≡ (y && x)
    turn true true = refl
    turn true false = refl
    turn false true = refl
    turn false false = refl

pub conflict_symmetric : (o : Schema) (m n : ℕ) → IsChecked o → conflict_of o m n ≡ conflict_of o n m
unfolding conflict_of
conflict_symmetric o m n checked = ap not (exchanged (is_derivable o (Sc m n)) (is_derivable o (Sc n m)) (stays o m n) (stays o n m) (computed_turned o m n checked))

pub among_symmetric : (o : Schema) → ((m n : ℕ) → conflict_of o m n ≡ conflict_of o n m) → (methods : ℕ) (rows : List (List Bool)) → ((m n : ℕ) → m < methods → n < methods → cell rows m n ≡ conflict_of o m n) → (m n : ℕ) → among methods rows m n ≡ among methods rows n m
among_symmetric o turned methods rows is m n = by (ltb m methods) (ltb n methods) refl refl
  where
    by : (a b : Bool) → ltb m methods ≡ a → ltb n methods ≡ b → ((a && b) && cell rows m n) ≡ ((b && a) && cell rows n m)
    by true true x y = is m n (ltb-true m methods x) (ltb-true n methods y) ∙ (turned m n ∙ sym (is n m (ltb-true n methods y) (ltb-true m methods x)))
    by true false x y = refl
    by false true x y = refl
    by false false x y = refl

pub among_is : (methods : ℕ) (rows : List (List Bool)) (m n : ℕ) → m < methods → n < methods → among methods rows m n ≡ cell rows m n
among_is methods rows m n h k = rw (lt-ltb m methods h, lt-ltb n methods k) refl

-- ---- what doesn't conflict concurs
module _ (o : Schema) (checked : IsChecked o) where
  stays-holds : (m n : ℕ) → stays o m n ≡ true → InvariantSufficient (meaning o) m ⊎ PermissibleRight (meaning o) m n
  stays-holds m n e = by (either (is_derivable o (Is m)) (is_derivable o (Pr m n)) e)
    where
      by : (is_derivable o (Is m) ≡ true) ⊎ (is_derivable o (Pr m n) ≡ true) → InvariantSufficient (meaning o) m ⊎ PermissibleRight (meaning o) m n
      by (inl is) = inl (computed-holds o (Is m) checked is)
      by (inr is) = inr (computed-holds o (Pr m n) checked is)

  concur-parts : (m n : ℕ) → concur o m n ≡ true → StateCommute (meaning o) m n × (InvariantSufficient (meaning o) m ⊎ PermissibleRight (meaning o) m n) × (InvariantSufficient (meaning o) n ⊎ PermissibleRight (meaning o) n m)
  concur-parts m n e =
      let first = both (is_derivable o (Sc m n)) (stays o m n && stays o n m) e in
      let rest = both (stays o m n) (stays o n m) first.1 in
      (computed-holds o (Sc m n) checked first.0, stays-holds m n rest.0, stays-holds n m rest.1)

  pub concurs : (m n : ℕ) → conflict_of o m n ≡ false → StateCommute (meaning o) m n × (InvariantSufficient (meaning o) m ⊎ PermissibleRight (meaning o) m n)
  unfolding conflict_of
  concurs m n apart = let parts = concur-parts m n (not-false (concur o m n) apart) in (parts.0, parts.1)

  pub independent : (m n : ℕ) → depends_of o m n ≡ false → InvariantSufficient (meaning o) m ⊎ PermissibleLeft (meaning o) m n
  unfolding depends_of
  independent m n e = by (either (is_derivable o (Is m)) (is_derivable o (Pl m n)) (not-false _ e))
    where
      by : (is_derivable o (Is m) ≡ true) ⊎ (is_derivable o (Pl m n) ≡ true) → InvariantSufficient (meaning o) m ⊎ PermissibleLeft (meaning o) m n
      by (inl is) = inl (computed-holds o (Is m) checked is)
      by (inr is) = inr (computed-holds o (Pl m n) checked is)

  pub derived_sound : (p : Plan) → IsDerivedPlan o p → IsSound (meaning o) (constraints_of p)
  derived_sound p is = record {
    symmetric = is.plan.symmetric;
    commute = λ m n apart a b s of_m of_n well. (here m n (IsActOf-within o m a of_m) (IsActOf-within o n b of_n) apart).0 a b s of_m of_n well;
    right = λ m n apart. right m n apart (ltb m (length o.methods)) (ltb n (length o.methods)) refl refl;
    left = λ m n apart. left m n apart (ltb m (length o.methods)) (ltb n (length o.methods)) refl refl;
  }
    where
      here : (m n : ℕ) → m < length o.methods → n < length o.methods → conflicts p m n ≡ false → StateCommute (meaning o) m n × (InvariantSufficient (meaning o) m ⊎ PermissibleRight (meaning o) m n)
      here m n h k apart = concurs m n (sym (is.conflict m n h k) ∙ apart)

      right : (m n : ℕ) → conflicts p m n ≡ false → (a b : Bool) → ltb m (length o.methods) ≡ a → ltb n (length o.methods) ≡ b → InvariantSufficient (meaning o) m ⊎ PermissibleRight (meaning o) m n
      right m n apart true true x y = (here m n (ltb-true m _ x) (ltb-true n _ y) apart).1
      right m n apart true false x y = inr (λ a b s of_m of_n well inv pa pb. let h = IsActOf-within o n b of_n in let k = ltb-false n _ y in absurd (omega arith))
      right m n apart false t x y = inl (λ a s of_m well inv. let h = IsActOf-within o m a of_m in let k = ltb-false m _ x in absurd (omega arith))

      left : (m n : ℕ) → depends_on p m n ≡ false → (a b : Bool) → ltb m (length o.methods) ≡ a → ltb n (length o.methods) ≡ b → InvariantSufficient (meaning o) m ⊎ PermissibleLeft (meaning o) m n
      left m n apart true true x y = independent m n (sym (is.depends m n (ltb-true m _ x) (ltb-true n _ y)) ∙ apart)
      left m n apart true false x y = inr (λ a b s of_m of_n well inv pb pa. let h = IsActOf-within o n b of_n in let k = ltb-false n _ y in absurd (omega arith))
      left m n apart false t x y = inl (λ a s of_m well inv. let h = IsActOf-within o m a of_m in let k = ltb-false m _ x in absurd (omega arith))

-- a plan that is made of an object's tables is derived from the object
pub IsDerivedPlan-made : (o : Schema) (d : Derived) (p : Plan) → IsDerived o d → p.methods ≡ d.methods → p.conflict ≡ d.conflict → p.depends ≡ d.depends → IsPlan p → IsDerivedPlan o p
IsDerivedPlan-made o d p is methods conflict depends plan =
    let all : p.methods ≡ length o.methods = methods ∙ is.methods in
    record {
      plan = plan;
      methods = all;
      conflict = λ m n h k. among_is p.methods p.conflict m n (subst (λ (q : ℕ). m < q) (sym all) h) (subst (λ (q : ℕ). n < q) (sym all) k) ∙ (ap (λ (rows : List (List Bool)). cell rows m n) conflict ∙ is.conflict m n h k);
      depends = λ m n h k. among_is p.methods p.depends m n (subst (λ (q : ℕ). m < q) (sym all) h) (subst (λ (q : ℕ). n < q) (sym all) k) ∙ (ap (λ (rows : List (List Bool)). cell rows m n) depends ∙ is.depends m n h k);
    }

-- plans that are derived from one object say the same
pub derived_same : (o : Schema) (p q : Plan) → IsDerivedPlan o p → IsDerivedPlan o q → p.replicas ≡ q.replicas → SaysSame p q
derived_same o p q is_p is_q replicas = record {
  methods = methods;
  replicas = replicas;
  conflict = λ m n. one p.conflict q.conflict m n (λ h k. is_p.conflict m n h k ∙ sym (is_q.conflict m n h k));
  depends = λ m n. one p.depends q.depends m n (λ h k. is_p.depends m n h k ∙ sym (is_q.depends m n h k));
}
  where
    methods : p.methods ≡ q.methods
    methods = is_p.methods ∙ sym is_q.methods

    one : (a b : List (List Bool)) (m n : ℕ) → (m < length o.methods → n < length o.methods → among p.methods a m n ≡ among q.methods b m n) → among p.methods a m n ≡ among q.methods b m n
    one a b m n inside = by (ltb m (length o.methods)) (ltb n (length o.methods)) refl refl
      where
        by : (x y : Bool) → ltb m (length o.methods) ≡ x → ltb n (length o.methods) ≡ y → among p.methods a m n ≡ among q.methods b m n
        by true true h k = inside (ltb-true m _ h) (ltb-true n _ k)
        by false y h k = rw (is_p.methods, is_q.methods, h) refl
        by true false h k = rw (is_p.methods, is_q.methods, h, k) refl

-- What an entry keeps where its tests find no fault.
use Rattle.std.proofs.Common.{◌≡◌, ◌⊎◌, ℕ, ◌<◌, ◌≤◌, ◌≤ℤ◌, ℤ, pos, Bool, true, false, not, ◌||◌, eqb, leb, List, [], ◌∷◌, ◌++◌, length, get_or, map, Option, Some, None, unwrap_or, inl, inr, refl, sym, ap, ◌∙◌, subst, arith}
use Rattle.std.specs.Prelude.{T, slice_get, IfSome, int_lt, nat_eq}
use Rattle.std.specs.Option.{option_map}
use Rattle.std.specs.Int.Signed.{lt_z_no}
use Rattle.std.specs.List.{AllByRecursion, IsDistinct, list_any}
use Rattle.std.specs.Cmp.Lexicographic.{pointwise}
use Rattle.std.proofs.lemmas.Bool.{eqb-false, eqb-true, leb-true}
use Rattle.std.proofs.lemmas.Option.{slice_get_within, slice_get_cases}
use Rattle.std.proofs.lemmas.List.{length_push, length-map, map-append}
use Rattle.std.proofs.lemmas.Map.Keys.{IsDistinct-push}
use Rattle.std.proofs.lemmas.List.Quantifiers.{position-Some}
use Rattle.std.proofs.lemmas.Cmp.{nat_list_eq_equiv}
use Rattle.std.proofs.Math.Seq.{append_snoc}
use Rattle.std.proofs.lemmas.List as lists
use Rattle.ham_syntax.specs.declared.object.Relation.{Relation}
use Rattle.ham_syntax.specs.declared.object.Counter.{Counter}
use Rattle.ham_syntax.specs.declared.object.Param.{Param}
use Rattle.ham_syntax.specs.declared.object.Kind.{Kind}
use Rattle.ham_syntax.specs.declared.object.Kind.TheVariants.{Id, Amount}
use Rattle.ham_syntax.specs.declared.term.Term.{Term}
use Rattle.ham_check.specs.declared.raw.Verb.{Verb}
use Rattle.ham_check.specs.declared.raw.Verb.TheVariants.{Present, Absent, AtLeast, AtMost, Insert, Delete, Add, Subtract}
use Rattle.ham_check.specs.declared.raw.RawTerm.{RawTerm}
use Rattle.ham_check.specs.declared.raw.RawTerm.TheVariants.{Any, Constant, Named}
use Rattle.ham_check.specs.declared.raw.RawPart.{RawPart}
use Rattle.ham_check.specs.declared.raw.RawInvariant.{RawInvariant}
use Rattle.ham_check.specs.declared.raw.RawInvariant.TheVariants.{Reference, Unique, Low, High}
use Rattle.ham_check.specs.declared.raw.IllKind.TheVariants.{BadArity, BadColumn, SelfReference, OpeningBroken}
use Rattle.ham_check.specs.declared.raw.Ill.{Ill}
use Rattle.ham_syntax.specs.declared.limits.TheConstants.{MAX_AMOUNT}
use Rattle.ham_syntax.specs.Checked.{IsParamOf, IsId, IsIdOrAny, IsAmount, IsKey, IsOnRelation, IsOnCounter, IsGuard, IsEffect, AreColumns, IsReference, IsUnique, IsInvariant}
use Rattle.ham_check.specs.Faults.{fault_if, entry_faults, same_kind, param_ills, param_at, param_place, term_ills, terms_ills, id_ills, ids_ills, relation_place, counter_at, counter_place, wanted_ills, relation_wanted, counter_wanted, on_counter_ills, counter_part_ills, on_relation_ills, relation_part_ills, verb_ills, width_at, has_bad_column, reference_ills, unique_ills, form_ills, is_guard_verb, is_effect_verb, has_twins}
use Rattle.ham_check.specs.Resolved.{meant, resolved_term, resolved_key, resolved_amount, resolved_invariant, guard_of, effect_of}
use Rattle.ham_check.proofs.Lists.{append-none, fault_if-none, not-false, or-none}
use Rattle.ham_check.proofs.Columns.{AreColumns-known}

-- what each entry with no fault keeps, all of them have
pub entry_faults-keeps : {E : Type 0} (test : List E → E → List Ill) (P : List E → Type 0) → ((b : List E) (e : E) → P b → test b e ≡ [] → P (b ++ e ∷ [])) → (before xs : List E) → P before → entry_faults test before xs ≡ [] → P (before ++ xs)
entry_faults-keeps test P step before [] p none = subst P (sym (lists.append-nil before)) p
entry_faults-keeps test P step before (x ∷ xs) p none =
    let here = append-none (test before x) (entry_faults test (before ++ x ∷ []) xs) none in
    subst P (append_snoc before x xs) (entry_faults-keeps test P step (before ++ x ∷ []) xs (step before x p here.0) here.1)

-- one more number below a limit
pub length-below : {X : Type 0} (xs : List X) (x : X) (n : ℕ) → length xs ≤ n → eqb (length xs) n ≡ false → length (xs ++ x ∷ []) ≤ n
length-below xs x n h e =
    let other = eqb-false (length xs) n e in
    rw (length_push xs x) (omega arith)

list_any-map : {K X : Type 0} (p : K → Bool) (f : X → K) (xs : List X) → list_any p (map f xs) ≡ list_any (λ x. p (f x)) xs
list_any-map p f [] = refl
list_any-map p f (x ∷ xs) = ap (λ b. p (f x) || b) (list_any-map p f xs)

-- a name that none before has
pub IsDistinct-named : {X : Type 0} (name : X → List ℕ) (xs : List X) (x : X) → IsDistinct (pointwise nat_eq) (map name xs) → list_any (λ y. pointwise nat_eq (name x) (name y)) xs ≡ false → IsDistinct (pointwise nat_eq) (map name (xs ++ x ∷ []))
IsDistinct-named name xs x apart fresh =
    rw (map-append name xs (x ∷ [])) (IsDistinct-push nat_list_eq_equiv (map name xs) (name x) apart (list_any-map (pointwise nat_eq (name x)) name xs ∙ fresh))

none-like : {X : Type 0} (name : X → List ℕ) (x : X) (xs : List X) → list_any (λ y. pointwise nat_eq (name x) (name y)) xs ≡ false → AllByRecursion (λ y. pointwise nat_eq (name x) y ≡ false) (map name xs)
none-like name x [] e = tt
none-like name x (y ∷ xs) e =
    let parts = or-none (pointwise nat_eq (name x) (name y)) (list_any (λ z. pointwise nat_eq (name x) (name z)) xs) e in
    (parts.0, none-like name x xs parts.1)

pub IsDistinct-params : (params : List Param) → has_twins params ≡ false → IsDistinct (pointwise nat_eq) (map (λ p. p.name) params)
unfolding IsDistinct
IsDistinct-params [] e = tt
IsDistinct-params (p ∷ ps) e =
    let parts = or-none (list_any (λ q. pointwise nat_eq p.name q.name) ps) (has_twins ps) e in
    (none-like (λ (q : Param). q.name) p ps parts.0, IsDistinct-params ps parts.1)

same_kind-is : (a b : Kind) → same_kind a b ≡ true → b ≡ a
same_kind-is Id Id e = refl
same_kind-is Id Amount e = cc
same_kind-is Amount Id e = cc
same_kind-is Amount Amount e = refl

IsParamOf-at : (params : List Param) (kind : Kind) (r : Option Param) (n : ℕ) → slice_get params n ≡ r → param_ills kind r ≡ [] → (n < length params) × IfSome r (λ q. q.kind ≡ kind)
IsParamOf-at params kind None n e none = cc
IsParamOf-at params kind (Some q) n e none =
    (slice_get_within params n q e, same_kind-is kind q.kind (not-false (same_kind kind q.kind) (fault_if-none (not (same_kind kind q.kind)) _ none)))

IsParamOf-known : (params : List Param) (kind : Kind) (o : Option ℕ) → param_ills kind (param_at params o) ≡ [] → IsParamOf params kind (unwrap_or o 0)
IsParamOf-known params kind None none = cc
IsParamOf-known params kind (Some n) none = IsParamOf-at params kind (slice_get params n) n refl none

IsId-term : (params : List Param) (t : RawTerm) → term_ills Id params t ≡ [] → IsId params (resolved_term params t)
IsId-term params Any none = cc
IsId-term params (Constant n) none = tt
IsId-term params (Named name) none = IsParamOf-known params Id (param_place params name) none

IsAmount-term : (params : List Param) (t : RawTerm) → term_ills Amount params t ≡ [] → IsAmount params (resolved_term params t)
IsAmount-term params Any none = cc
IsAmount-term params (Constant n) none = leb-true n MAX_AMOUNT (not-false (leb n MAX_AMOUNT) (fault_if-none (not (leb n MAX_AMOUNT)) _ none))
IsAmount-term params (Named name) none = IsParamOf-known params Amount (param_place params name) none

terms-fit : (keyed : Bool) (params : List Param) (terms : List RawTerm) → terms_ills keyed params terms ≡ [] → IsKey keyed params (resolved_key params terms) × IsAmount params (resolved_amount params terms)
terms-fit true params [] none = cc
terms-fit true params (t ∷ []) none = cc
terms-fit true params (key ∷ amount ∷ []) none =
    let parts = append-none (term_ills Id params key) (term_ills Amount params amount) none in
    (IsId-term params key parts.0, IsAmount-term params amount parts.1)
terms-fit true params (t ∷ u ∷ v ∷ more) none = cc
terms-fit false params [] none = cc
terms-fit false params (amount ∷ []) none = (tt, IsAmount-term params amount none)
terms-fit false params (t ∷ u ∷ more) none = cc

-- a name that is wanted and found
known-place : (o other : Option ℕ) → wanted_ills o other ≡ [] → o ≡ Some (unwrap_or o 0)
known-place (Some n) other e = refl
known-place None (Some n) e = cc
known-place None None e = cc

counter-below : (counters : List Counter) (name : List ℕ) (other : Option ℕ) → wanted_ills (counter_place counters name) other ≡ [] → unwrap_or (counter_place counters name) 0 < length counters
counter-below counters name other none =
    (position-Some (λ c. pointwise nat_eq c.name name) counters _ (record { name = []; keyed = false }) (known-place (counter_place counters name) other none)).0

relation-below : (relations : List Relation) (name : List ℕ) (other : Option ℕ) → wanted_ills (relation_place relations name) other ≡ [] → unwrap_or (relation_place relations name) 0 < length relations
relation-below relations name other none =
    (position-Some (λ r. pointwise nat_eq r.name name) relations _ (record { name = []; columns = 0 }) (known-place (relation_place relations name) other none)).0

Some-not_None : {A : Type 0} (x : A) → ◌≡◌ {A = Option A} (Some x) None → ⊥
Some-not_None x e = cc

slice_get-not_none : {A : Type 0} (xs : List A) (n : ℕ) → n < length xs → slice_get xs n ≡ None → ⊥
slice_get-not_none {A} xs n h e = by (slice_get_cases xs n).1
  where
    by : (((x : A) × (n < length xs) × (slice_get xs n ≡ Some x) × (get_or xs n x ≡ x)) ⊎ ((length xs ≤ n) × (slice_get xs n ≡ None))) → ⊥
    by (inl p) = Some-not_None p.0 (sym p.2 ∙ e)
    by (inr p) = let past = p.0 in omega arith

-- ---- on counters

on_counter-at : (counters : List Counter) (params : List Param) (terms : List RawTerm) (r : Option Counter) (n : ℕ) → n < length counters → slice_get counters n ≡ r → on_counter_ills params terms r ≡ [] → IfSome r (λ c. IsKey c.keyed params (resolved_key params terms)) × IsAmount params (resolved_amount params terms)
on_counter-at counters params terms None n h e none = absurd (slice_get-not_none counters n h e)
on_counter-at counters params terms (Some c) n h e none = terms-fit c.keyed params terms none

IsOnCounter-known : (relations : List Relation) (counters : List Counter) (params : List Param) (p : RawPart) → counter_part_ills relations counters params p ≡ [] → let m = meant relations counters params p in IsOnCounter counters params m.counter m.key m.amount
IsOnCounter-known relations counters params p none =
    let parts = append-none (counter_wanted relations counters p.name) (on_counter_ills params p.terms (counter_at counters (counter_place counters p.name))) none in
    let place = known-place (counter_place counters p.name) (relation_place relations p.name) parts.0 in
    let below = counter-below counters p.name (relation_place relations p.name) parts.0 in
    let here = subst (λ o. on_counter_ills params p.terms (counter_at counters o) ≡ []) place parts.1 in
    let on = on_counter-at counters params p.terms _ (unwrap_or (counter_place counters p.name) 0) below refl here in
    record { exists = below; is_key = on.0; is_amount = on.1 }

-- ---- on relations

IsIdOrAny-term : (params : List Param) (t : RawTerm) → id_ills true params t ≡ [] → IsIdOrAny params (resolved_term params t)
IsIdOrAny-term params Any none = tt
IsIdOrAny-term params (Constant n) none = tt
IsIdOrAny-term params (Named name) none = IsParamOf-known params Id (param_place params name) none

IsId-id : (params : List Param) (t : RawTerm) → id_ills false params t ≡ [] → IsId params (resolved_term params t)
IsId-id params Any none = cc
IsId-id params (Constant n) none = tt
IsId-id params (Named name) none = IsParamOf-known params Id (param_place params name) none

-- what each term passes that is taken as an id
each-passes : (any : Bool) (params : List Param) (P : Term → Type 0) → ((t : RawTerm) → id_ills any params t ≡ [] → P (resolved_term params t)) → (ts : List RawTerm) → ids_ills any params ts ≡ [] → AllByRecursion P (map (resolved_term params) ts)
each-passes any params P step [] none = tt
each-passes any params P step (t ∷ ts) none =
    let parts = append-none (id_ills any params t) (ids_ills any params ts) none in
    (step t parts.0, each-passes any params P step ts parts.1)

-- the columns of a relation that is there
width-is : (relations : List Relation) (place n : ℕ) → n ≡ width_at relations place → place < length relations → IfSome (slice_get relations place) (λ r. n ≡ r.columns)
width-is relations place n e h = by (slice_get relations place) refl
  where
    by : (r : Option Relation) → slice_get relations place ≡ r → IfSome r (λ x. n ≡ x.columns)
    by None at = absurd (slice_get-not_none relations place h at)
    by (Some r) at = e ∙ ap (λ (o : Option Relation). unwrap_or (option_map (λ (x : Relation). x.columns) o) 0) at

IsOnRelation-known : (any : Bool) (P : Term → Type 0) (relations : List Relation) (counters : List Counter) (params : List Param) (p : RawPart) → ((t : RawTerm) → id_ills any params t ≡ [] → P (resolved_term params t)) → relation_part_ills any relations counters params p ≡ [] → let m = meant relations counters params p in IsOnRelation relations P m.relation m.terms
IsOnRelation-known any P relations counters params p step none =
    let parts = append-none (relation_wanted relations counters p.name) (on_relation_ills any relations params p.terms (relation_place relations p.name)) none in
    let number = unwrap_or (relation_place relations p.name) 0 in
    let place = known-place (relation_place relations p.name) (counter_place counters p.name) parts.0 in
    let below = relation-below relations p.name (counter_place counters p.name) parts.0 in
    let here = subst (λ o. on_relation_ills any relations params p.terms o ≡ []) place parts.1 in
    let tests = append-none (fault_if (not (eqb (length p.terms) (width_at relations number))) BadArity) (ids_ills any params p.terms) here in
    let wide = eqb-true (length p.terms) (width_at relations number) (not-false _ (fault_if-none _ _ tests.0)) in
    record {
      exists = below;
      width = width-is relations number _ (length-map p.terms (resolved_term params) ∙ wide) below;
      each = each-passes any params P step p.terms tests.1;
    }

-- ---- guards and effects

pub IsGuard-known : (relations : List Relation) (counters : List Counter) (params : List Param) (verb : Verb) (p : RawPart) → verb_ills verb relations counters params p ≡ [] → is_guard_verb verb ≡ true → IsGuard relations counters params (guard_of verb (meant relations counters params p))
IsGuard-known relations counters params Present p none g = IsOnRelation-known true (IsIdOrAny params) relations counters params p (IsIdOrAny-term params) none
IsGuard-known relations counters params Absent p none g = IsOnRelation-known true (IsIdOrAny params) relations counters params p (IsIdOrAny-term params) none
IsGuard-known relations counters params AtLeast p none g = IsOnCounter-known relations counters params p none
IsGuard-known relations counters params AtMost p none g = IsOnCounter-known relations counters params p none
IsGuard-known relations counters params Insert p none g = cc
IsGuard-known relations counters params Delete p none g = cc
IsGuard-known relations counters params Add p none g = cc
IsGuard-known relations counters params Subtract p none g = cc

pub IsEffect-known : (relations : List Relation) (counters : List Counter) (params : List Param) (verb : Verb) (p : RawPart) → verb_ills verb relations counters params p ≡ [] → is_effect_verb verb ≡ true → IsEffect relations counters params (effect_of verb (meant relations counters params p))
IsEffect-known relations counters params Insert p none g = IsOnRelation-known false (IsId params) relations counters params p (IsId-id params) none
IsEffect-known relations counters params Delete p none g = IsOnRelation-known true (IsIdOrAny params) relations counters params p (IsIdOrAny-term params) none
IsEffect-known relations counters params Add p none g = IsOnCounter-known relations counters params p none
IsEffect-known relations counters params Subtract p none g = IsOnCounter-known relations counters params p none
IsEffect-known relations counters params Present p none g = cc
IsEffect-known relations counters params Absent p none g = cc
IsEffect-known relations counters params AtLeast p none g = cc
IsEffect-known relations counters params AtMost p none g = cc

-- ---- invariants

not_less : (a b : ℤ) → int_lt a b ≡ false → b ≤ℤ a
not_less a b e = lt_z_no (subst (λ t. T (not t)) (sym e) tt)

-- columns of a relation that is there, where none is bad
are-columns : (relations : List Relation) (place : ℕ) (columns : List ℕ) → has_bad_column (width_at relations place) [] columns ≡ false → place < length relations → IfSome (slice_get relations place) (λ r. AreColumns r.columns columns)
are-columns relations place columns none h = by (slice_get relations place) refl
  where
    by : (r : Option Relation) → slice_get relations place ≡ r → IfSome r (λ x. AreColumns x.columns columns)
    by None at = absurd (slice_get-not_none relations place h at)
    by (Some r) at =
        subst (λ (o : Option Relation). AreColumns (unwrap_or (option_map (λ (x : Relation). x.columns) o) 0) columns) at (AreColumns-known (width_at relations place) columns none)

IsReference-known : (relations : List Relation) (from : ℕ) (columns : List ℕ) (to : ℕ) → from < length relations → to < length relations → reference_ills relations (Some from) columns (Some to) ≡ [] → IsReference relations from columns to
IsReference-known relations from columns to f t none =
    let other = append-none (fault_if (eqb from to) SelfReference) (fault_if (not (eqb (length columns) (width_at relations to))) BadArity ++ fault_if (has_bad_column (width_at relations from) [] columns) BadColumn) none in
    let arity = append-none (fault_if (not (eqb (length columns) (width_at relations to))) BadArity) (fault_if (has_bad_column (width_at relations from) [] columns) BadColumn) other.1 in
    let wide = eqb-true (length columns) (width_at relations to) (not-false _ (fault_if-none _ _ arity.0)) in
    record {
      from_exists = f;
      to_exists = t;
      other = eqb-false from to (fault_if-none _ _ other.0);
      width = width-is relations to (length columns) wide t;
      are_columns = are-columns relations from columns (fault_if-none _ _ arity.1) f;
    }

IsUnique-known : (relations : List Relation) (r : ℕ) (columns : List ℕ) → r < length relations → unique_ills relations (Some r) columns ≡ [] → IsUnique relations r columns
IsUnique-known relations r columns h none =
    let parts = append-none (fault_if (eqb (length columns) 0) BadArity) (fault_if (has_bad_column (width_at relations r) [] columns) BadColumn) none in
    let some = eqb-false (length columns) 0 (fault_if-none _ _ parts.0) in
    record { exists = h; some = omega arith; are_columns = are-columns relations r columns (fault_if-none _ _ parts.1) h }

pub IsInvariant-known : (relations : List Relation) (counters : List Counter) (i : RawInvariant) → form_ills relations counters i ≡ [] → IsInvariant relations counters (resolved_invariant relations counters i)
IsInvariant-known relations counters (Reference from columns to) none =
    let f = append-none (relation_wanted relations counters from) (relation_wanted relations counters to ++ reference_ills relations (relation_place relations from) columns (relation_place relations to)) none in
    let t = append-none (relation_wanted relations counters to) (reference_ills relations (relation_place relations from) columns (relation_place relations to)) f.1 in
    let from_is = known-place (relation_place relations from) (counter_place counters from) f.0 in
    let to_is = known-place (relation_place relations to) (counter_place counters to) t.0 in
    let half = subst (λ o. reference_ills relations o columns (relation_place relations to) ≡ []) from_is t.1 in
    let here = subst (λ o. reference_ills relations (Some (unwrap_or (relation_place relations from) 0)) columns o ≡ []) to_is half in
    IsReference-known relations _ columns _ (relation-below relations from (counter_place counters from) f.0) (relation-below relations to (counter_place counters to) t.0) here
IsInvariant-known relations counters (Unique r columns) none =
    let parts = append-none (relation_wanted relations counters r) (unique_ills relations (relation_place relations r) columns) none in
    let is = known-place (relation_place relations r) (counter_place counters r) parts.0 in
    let here = subst (λ o. unique_ills relations o columns ≡ []) is parts.1 in
    IsUnique-known relations _ columns (relation-below relations r (counter_place counters r) parts.0) here
IsInvariant-known relations counters (Low c limit) none =
    let parts = append-none (counter_wanted relations counters c) (fault_if (int_lt (pos 0) limit) OpeningBroken) none in
    (counter-below counters c (relation_place relations c) parts.0, not_less (pos 0) limit (fault_if-none _ _ parts.1))
IsInvariant-known relations counters (High c limit) none =
    let parts = append-none (counter_wanted relations counters c) (fault_if (int_lt limit (pos 0)) OpeningBroken) none in
    (counter-below counters c (relation_place relations c) parts.0, not_less limit (pos 0) (fault_if-none _ _ parts.1))

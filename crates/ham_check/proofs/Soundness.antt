-- Where a raw object has no fault, its resolved form is a checked object.
use Rattle.std.proofs.Common.{◌≡◌, ℕ, ◌+◌, ◌≤◌, Bool, true, false, ◌&&◌, ◌||◌, eqb, ltb, leb, ◌<◌, Ok, Err, List, [], ◌∷◌, ◌++◌, length, map, refl, ap, ◌∙◌, subst, arith}
use Rattle.std.specs.Prelude.{nat_eq, not}
use Rattle.std.specs.List.{AllByRecursion, IsDistinct, list_any}
use Rattle.std.specs.Cmp.Lexicographic.{pointwise}
use Rattle.std.proofs.lemmas.Bool.{ltb-false, ltb-true, leb-true}
use Rattle.std.proofs.lemmas.List.{map-append, length-map}
use Rattle.ham_syntax.specs.declared.object.Relation.{Relation}
use Rattle.ham_syntax.specs.declared.object.Counter.{Counter}
use Rattle.ham_syntax.specs.declared.object.Param.{Param}
use Rattle.ham_syntax.specs.declared.object.Invariant.{Invariant}
use Rattle.ham_syntax.specs.declared.object.Method.{Method}
use Rattle.ham_check.specs.declared.raw.RawRelation.{RawRelation}
use Rattle.ham_check.specs.declared.raw.RawPart.{RawPart}
use Rattle.ham_check.specs.declared.raw.RawInvariant.{RawInvariant}
use Rattle.ham_check.specs.declared.raw.RawMethod.{RawMethod}
use Rattle.ham_check.specs.declared.raw.Raw.{Raw}
use Rattle.ham_check.specs.declared.raw.Ill.{Ill}
use Rattle.ham_check.specs.declared.raw.CheckFault.{CheckFault}
use Rattle.ham_check.specs.declared.raw.IllKind.TheVariants.{TooMany, TwiceNamed, BadArity, WrongKind}
use Rattle.ham_syntax.specs.Objects.{Schema}
use Rattle.ham_syntax.specs.Checked.{IsRelation, IsNewName, IsGuard, IsEffect, IsInvariant, IsMethod, IsChecked}
use Rattle.ham_syntax.specs.Typed.{IsTyped}
use Rattle.ham_check.specs.Faults.{Checks, faults, fault_if, entry_faults, relation_of, relation_ills, relation_faults, counter_faults, invariant_faults, form_ills, method_faults, method_ills, shape_ills, parts_faults, guard_faults, effect_faults, verb_ills, is_guard_verb, is_effect_verb, has_twins}
use Rattle.ham_check.specs.Resolved.{resolved, resolved_guard, resolved_effect, resolved_invariant, resolved_method}
use Rattle.ham_check.proofs.Lists.{append-none, map-none, fault_if-none, not-false, or-none, AllByRecursion-push}
use Rattle.ham_check.proofs.NoFault.{entry_faults-keeps, length-below, IsDistinct-named, IsDistinct-params, IsGuard-known, IsEffect-known, IsInvariant-known}
use Rattle.ham_check.proofs.FirstFault.{none-append, Checks-front, Checks-rest_Err}

-- each entry, resolved, meets P where its tests find no fault
each-known : {E V : Type 0} (test : List E → E → List Ill) (value : E → V) (P : V → Type 0) → ((b : List E) (e : E) → test b e ≡ [] → P (value e)) → (xs : List E) → entry_faults test [] xs ≡ [] → AllByRecursion P (map value xs)
each-known test value P step xs none =
    entry_faults-keeps test (λ b. AllByRecursion P (map value b)) (λ b e all here. rw (map-append value b (e ∷ [])) (AllByRecursion-push P (map value b) (value e) all (step b e here))) [] xs tt none

-- 1 to 4 columns
columns-known : (n : ℕ) → not (ltb 0 n && leb n 4) ≡ false → (0 < n) × (n ≤ 4)
columns-known n e = by (ltb 0 n) (leb n 4) refl refl (not-false _ e)
  where
    by : (a b : Bool) → ltb 0 n ≡ a → leb n 4 ≡ b → (a && b) ≡ true → (0 < n) × (n ≤ 4)
    by true true x y h = (ltb-true 0 n x, leb-true n 4 y)
    by true false x y h = cc
    by false b x y h = cc

-- a relation with no fault: room for it, a new name, and columns
record IsGoodRelation (b : List RawRelation) (r : RawRelation) : Type 0 where
  room : eqb (length b) 16 ≡ false
  new_name : list_any (λ x. pointwise nat_eq r.name x.name) b ≡ false
  columns : IsRelation (relation_of r)

IsGoodRelation-known : (b : List RawRelation) (r : RawRelation) → relation_faults b r ≡ [] → IsGoodRelation b r
IsGoodRelation-known b r none =
    let name_test = list_any (λ x. pointwise nat_eq r.name x.name) b in
    let width_test = not (ltb 0 r.columns && leb r.columns 4) in
    let kinds : relation_ills b r ≡ [] = map-none _ _ none in
    let room = append-none (fault_if (eqb (length b) 16) TooMany) (fault_if name_test TwiceNamed ++ fault_if width_test BadArity) kinds in
    let name = append-none (fault_if name_test TwiceNamed) (fault_if width_test BadArity) room.1 in
    record { room = fault_if-none _ _ room.0; new_name = fault_if-none _ _ name.0; columns = columns-known r.columns (fault_if-none _ _ name.1) }

raw-apart : (rs : List RawRelation) → entry_faults relation_faults [] rs ≡ [] → IsDistinct (pointwise nat_eq) (map (λ r. r.name) rs)
unfolding IsDistinct
raw-apart rs none =
    entry_faults-keeps relation_faults (λ b. IsDistinct (pointwise nat_eq) (map (λ r. r.name) b))
    (λ b r apart here. IsDistinct-named (λ (x : RawRelation). x.name) b r apart (IsGoodRelation-known b r here).new_name)
    [] rs tt none

relation-names : (rs : List RawRelation) → map (λ (r : Relation). r.name) (map relation_of rs) ≡ map (λ (r : RawRelation). r.name) rs
relation-names [] = refl
relation-names (r ∷ rs) = ap (λ (names : List (List ℕ)). r.name ∷ names) (relation-names rs)

counters-known : (rs : List Relation) (cs : List Counter) → entry_faults (counter_faults rs) [] cs ≡ [] → (length cs ≤ 16) × IsDistinct (pointwise nat_eq) (map (λ c. c.name) cs) × AllByRecursion (IsNewName rs) cs
unfolding IsDistinct
counters-known rs cs none =
    entry_faults-keeps (counter_faults rs) (λ b. (length b ≤ 16) × IsDistinct (pointwise nat_eq) (map (λ c. c.name) b) × AllByRecursion (IsNewName rs) b)
    (λ b c kept here.
    let parts = append-none (fault_if (eqb (length b) 16) TooMany) (fault_if (list_any (λ x. pointwise nat_eq c.name x.name) rs || list_any (λ x. pointwise nat_eq c.name x.name) b) TwiceNamed) (map-none _ _ here) in
    let names = or-none (list_any (λ x. pointwise nat_eq c.name x.name) rs) (list_any (λ x. pointwise nat_eq c.name x.name) b) (fault_if-none _ _ parts.1) in
    (length-below b c 16 kept.0 (fault_if-none _ _ parts.0), IsDistinct-named (λ (x : Counter). x.name) b c kept.1 names.1, AllByRecursion-push (IsNewName rs) b c kept.2 names.0))
    [] cs (omega arith, tt, tt) none

few-entries : {E : Type 0} (test : List E → E → List Ill) (n : ℕ) → ((b : List E) (e : E) → test b e ≡ [] → eqb (length b) n ≡ false) → (xs : List E) → entry_faults test [] xs ≡ [] → length xs ≤ n
few-entries test n step xs none = entry_faults-keeps test (λ b. length b ≤ n) (λ b e few here. length-below b e n few (step b e here)) [] xs (omega arith) none

invariants-known : (rs : List Relation) (cs : List Counter) (is : List RawInvariant) → entry_faults (invariant_faults rs cs) [] is ≡ [] → (length is ≤ 32) × AllByRecursion (IsInvariant rs cs) (map (resolved_invariant rs cs) is)
invariants-known rs cs is none = (
  few-entries (invariant_faults rs cs) 32 (λ b i here. fault_if-none _ _ (append-none (fault_if (eqb (length b) 32) TooMany) (form_ills rs cs i) (map-none _ _ here)).0) is none,
  each-known (invariant_faults rs cs) (resolved_invariant rs cs) (IsInvariant rs cs) (λ b i here. IsInvariant-known rs cs i (append-none (fault_if (eqb (length b) 32) TooMany) (form_ills rs cs i) (map-none _ _ here)).1) is none,
)

guards-known : (rs : List Relation) (cs : List Counter) (entry : ℕ) (params : List Param) (guards : List RawPart) → entry_faults (guard_faults rs cs entry params) [] guards ≡ [] → AllByRecursion (IsGuard rs cs params) (map (resolved_guard rs cs params) guards)
guards-known rs cs entry params guards none =
    each-known (guard_faults rs cs entry params) (resolved_guard rs cs params) (IsGuard rs cs params)
    (λ b p here.
    let parts = append-none (fault_if (not (is_guard_verb p.verb)) WrongKind) (verb_ills p.verb rs cs params p) (map-none _ _ here) in
    IsGuard-known rs cs params p.verb p parts.1 (not-false _ (fault_if-none _ _ parts.0)))
    guards none

effects-known : (rs : List Relation) (cs : List Counter) (entry : ℕ) (params : List Param) (effects : List RawPart) → entry_faults (effect_faults rs cs entry params) [] effects ≡ [] → AllByRecursion (IsEffect rs cs params) (map (resolved_effect rs cs params) effects)
effects-known rs cs entry params effects none =
    each-known (effect_faults rs cs entry params) (resolved_effect rs cs params) (IsEffect rs cs params)
    (λ b p here.
    let parts = append-none (fault_if (not (is_effect_verb p.verb)) WrongKind) (verb_ills p.verb rs cs params p) (map-none _ _ here) in
    IsEffect-known rs cs params p.verb p parts.1 (not-false _ (fault_if-none _ _ parts.0)))
    effects none

-- a method that is not too large, and has no parameter twice
record HasShape (m : RawMethod) : Type 0 where
  few_params : length m.params ≤ 6
  no_twins : has_twins m.params ≡ false
  few_guards : length m.guards ≤ 8
  few_effects : length m.effects ≤ 8

HasShape-known : (m : RawMethod) → shape_ills m ≡ [] → HasShape m
HasShape-known m none =
    let params = append-none (fault_if (ltb 6 (length m.params)) TooMany) (fault_if (has_twins m.params) TwiceNamed ++ (fault_if (ltb 8 (length m.guards)) TooMany ++ fault_if (ltb 8 (length m.effects)) TooMany)) none in
    let twins = append-none (fault_if (has_twins m.params) TwiceNamed) (fault_if (ltb 8 (length m.guards)) TooMany ++ fault_if (ltb 8 (length m.effects)) TooMany) params.1 in
    let parts = append-none (fault_if (ltb 8 (length m.guards)) TooMany) (fault_if (ltb 8 (length m.effects)) TooMany) twins.1 in
    record {
      few_params = ltb-false 6 (length m.params) (fault_if-none _ _ params.0);
      no_twins = fault_if-none _ _ twins.0;
      few_guards = ltb-false 8 (length m.guards) (fault_if-none _ _ parts.0);
      few_effects = ltb-false 8 (length m.effects) (fault_if-none _ _ parts.1);
    }

-- a method with no fault: room for it, a new name, its shape and its parts
record IsFaultless (rs : List Relation) (cs : List Counter) (b : List RawMethod) (m : RawMethod) : Type 0 where
  room : eqb (length b) 32 ≡ false
  new_name : list_any (λ x. pointwise nat_eq m.name x.name) b ≡ false
  has_shape : HasShape m
  guards : AllByRecursion (IsGuard rs cs m.params) (map (resolved_guard rs cs m.params) m.guards)
  effects : AllByRecursion (IsEffect rs cs m.params) (map (resolved_effect rs cs m.params) m.effects)

IsFaultless-known : (rs : List Relation) (cs : List Counter) (b : List RawMethod) (m : RawMethod) → method_faults rs cs b m ≡ [] → IsFaultless rs cs b m
IsFaultless-known rs cs b m none =
    let itself = append-none _ (parts_faults rs cs (length b + 1) m) none in
    let kinds : method_ills b m ≡ [] = map-none _ _ itself.0 in
    let room = append-none (fault_if (eqb (length b) 32) TooMany) (fault_if (list_any (λ x. pointwise nat_eq m.name x.name) b) TwiceNamed ++ shape_ills m) kinds in
    let name = append-none (fault_if (list_any (λ x. pointwise nat_eq m.name x.name) b) TwiceNamed) (shape_ills m) room.1 in
    let parts = append-none (entry_faults (guard_faults rs cs (length b + 1) m.params) [] m.guards) (entry_faults (effect_faults rs cs (length b + 1) m.params) [] m.effects) itself.1 in
    record {
      room = fault_if-none _ _ room.0;
      new_name = fault_if-none _ _ name.0;
      has_shape = HasShape-known m name.1;
      guards = guards-known rs cs (length b + 1) m.params m.guards parts.0;
      effects = effects-known rs cs (length b + 1) m.params m.effects parts.1;
    }

IsMethod-known : (rs : List Relation) (cs : List Counter) (b : List RawMethod) (m : RawMethod) → IsFaultless rs cs b m → IsMethod rs cs (resolved_method rs cs m)
IsMethod-known rs cs b m known =
    record {
      few_params = known.has_shape.few_params;
      few_guards = rw (length-map m.guards (resolved_guard rs cs m.params)) known.has_shape.few_guards;
      few_effects = rw (length-map m.effects (resolved_effect rs cs m.params)) known.has_shape.few_effects;
      distinct = IsDistinct-params m.params known.has_shape.no_twins;
      each_guard = known.guards;
      each_effect = known.effects;
    }

names-apart : (rs : List Relation) (cs : List Counter) (ms : List RawMethod) → entry_faults (method_faults rs cs) [] ms ≡ [] → IsDistinct (pointwise nat_eq) (map (λ m. m.name) ms)
unfolding IsDistinct
names-apart rs cs ms none =
    entry_faults-keeps (method_faults rs cs) (λ b. IsDistinct (pointwise nat_eq) (map (λ m. m.name) b))
    (λ b m apart here. IsDistinct-named (λ (x : RawMethod). x.name) b m apart (IsFaultless-known rs cs b m here).new_name)
    [] ms tt none

resolved-names : (rs : List Relation) (cs : List Counter) (ms : List RawMethod) → map (λ (m : Method). m.name) (map (resolved_method rs cs) ms) ≡ map (λ (m : RawMethod). m.name) ms
resolved-names rs cs [] = refl
resolved-names rs cs (m ∷ ms) = ap (λ (names : List (List ℕ)). m.name ∷ names) (resolved-names rs cs ms)

pub IsChecked-resolved : (raw : Raw) → IsTyped (resolved raw) → faults raw ≡ [] → IsChecked (resolved raw)
IsChecked-resolved raw typed none =
    let rs = map relation_of raw.relations in
    let cs = raw.counters in
    let methods_part = entry_faults (method_faults rs cs) [] raw.methods in
    let invariants_part = entry_faults (invariant_faults rs cs) [] raw.invariants in
    let first = append-none (entry_faults relation_faults [] raw.relations) (entry_faults (counter_faults rs) [] cs ++ (invariants_part ++ methods_part)) none in
    let second = append-none (entry_faults (counter_faults rs) [] cs) (invariants_part ++ methods_part) first.1 in
    let rest = append-none invariants_part methods_part second.1 in
    let of_counters = counters-known rs cs second.0 in
    let of_invariants = invariants-known rs cs raw.invariants rest.0 in
    record {
      few_relations = rw (length-map raw.relations relation_of) (few-entries relation_faults 16 (λ b r here. (IsGoodRelation-known b r here).room) raw.relations first.0);
      few_counters = of_counters.0;
      few_invariants = rw (length-map raw.invariants (resolved_invariant rs cs)) of_invariants.0;
      few_methods = rw (length-map raw.methods (resolved_method rs cs)) (few-entries (method_faults rs cs) 32 (λ b m here. (IsFaultless-known rs cs b m here).room) raw.methods rest.1);
      distinct_relations = rw (relation-names raw.relations) (raw-apart raw.relations first.0);
      distinct_counters = of_counters.1;
      distinct_methods = rw (resolved-names rs cs raw.methods) (names-apart rs cs raw.methods rest.1);
      each_relation = each-known relation_faults relation_of IsRelation (λ b r here. (IsGoodRelation-known b r here).columns) raw.relations first.0;
      each_counter = of_counters.2;
      each_invariant = of_invariants.1;
      each_method = each-known (method_faults rs cs) (resolved_method rs cs) (IsMethod rs cs) (λ b m here. IsMethod-known rs cs b m (IsFaultless-known rs cs b m here)) raw.methods rest.1;
      typed = typed;
    }

-- the sections that were resolved one after another make the resolved object
pub record AreParts (raw : Raw) (rs : List Relation) (cs : List Counter) (is : List Invariant) (ms : List Method) : Type 0 where
  pub none : faults raw ≡ []
  pub same : (record { relations = rs; counters = cs; invariants = is; methods = ms }) ≡ resolved raw

pub AreParts-of : (raw : Raw) (rs : List Relation) (cs : List Counter) (is : List Invariant) (ms : List Method) → Checks (entry_faults relation_faults [] raw.relations) (map relation_of raw.relations) (Ok rs) → Checks (entry_faults (counter_faults rs) [] raw.counters) raw.counters (Ok cs) → Checks (entry_faults (invariant_faults rs cs) [] raw.invariants) (map (resolved_invariant rs cs) raw.invariants) (Ok is) → Checks (entry_faults (method_faults rs cs) [] raw.methods) (map (resolved_method rs cs) raw.methods) (Ok ms) → AreParts raw rs cs is ms
AreParts-of raw rs cs is ms of_relations of_counters of_invariants of_methods =
    let counters = rw of_relations.1 at of_counters in
    let invariants = rw (of_relations.1, counters.1) at of_invariants in
    let methods = rw (of_relations.1, counters.1) at of_methods in
    record {
      none = none-append _ _ of_relations.0 (none-append _ _ counters.0 (none-append _ _ invariants.0 methods.0));
      same = rw (of_relations.1, counters.1, invariants.1, methods.1) refl;
    }

pub IsChecked-parts : (raw : Raw) (rs : List Relation) (cs : List Counter) (is : List Invariant) (ms : List Method) → AreParts raw rs cs is ms → IsTyped (record { relations = rs; counters = cs; invariants = is; methods = ms }) → IsChecked (record { relations = rs; counters = cs; invariants = is; methods = ms })
IsChecked-parts raw rs cs is ms parts typed = rw parts.same (IsChecked-resolved raw (rw parts.same at typed) parts.none)

-- the first fault of an invariant, where relations and counters have none, is the object's
pub first-invariant : (raw : Raw) (relations rs : List Relation) (counters cs : List Counter) (is : List RawInvariant) (v : List Invariant) (w : Schema) (e : CheckFault)
    → Checks (entry_faults relation_faults [] raw.relations) (map relation_of raw.relations) (Ok relations)
    → Checks (entry_faults (counter_faults relations) [] raw.counters) raw.counters (Ok counters)
    → rs ≡ relations → cs ≡ counters → is ≡ raw.invariants
    → Checks (entry_faults (invariant_faults rs cs) [] is) v (Err e)
    → Checks (faults raw) w (Err e)
first-invariant raw relations rs counters cs is v w e r c same_rs same_cs same_is i =
    let declared = map relation_of raw.relations in
    let none : entry_faults (counter_faults declared) [] raw.counters ≡ [] = subst (λ rs. entry_faults (counter_faults rs) [] raw.counters ≡ []) r.1 c.0 in
    let at_relations = subst (λ z. Checks (entry_faults (invariant_faults z cs) [] is) v (Err e)) (same_rs ∙ r.1) i in
    let at_counters = subst (λ z. Checks (entry_faults (invariant_faults declared z) [] is) v (Err e)) (same_cs ∙ c.1) at_relations in
    let first = subst (λ z. Checks (entry_faults (invariant_faults declared raw.counters) [] z) v (Err e)) same_is at_counters in
    Checks-rest_Err _ _ declared declared w e (r.0, refl) (Checks-rest_Err _ _ raw.counters raw.counters w e (none, refl) (Checks-front _ _ v w e first))

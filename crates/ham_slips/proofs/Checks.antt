-- The objects on which slips show are checked.
use Rattle.std.proofs.Common.{ℕ, ◌≤◌, List, [], map, length, refl, lit<, arith}
use Rattle.std.specs.List.{AllByRecursion, IsDistinct}
use Rattle.std.specs.Cmp.Lexicographic.{pointwise}
use Rattle.std.specs.Prelude.{nat_eq}
use Rattle.ham_syntax.specs.declared.object.Relation.{Relation}
use Rattle.ham_syntax.specs.declared.object.Param.{Param}
use Rattle.ham_syntax.specs.declared.object.Effect.{Effect}
use Rattle.ham_syntax.specs.Checked.{IsChecked, IsMethod, IsEffect}
use Rattle.ham_slips.specs.Slips.{tags, school, seats}

a_method : (relations : List Relation) (name : List ℕ) (params : List Param) (effects : List Effect) → length params ≤ 6 → IsDistinct (pointwise nat_eq) (map (λ q. q.name) params) → length effects ≤ 8 → AllByRecursion (IsEffect relations [] params) effects
    → IsMethod relations [] (record { name = name; params = params; guards = []; effects = effects })
a_method relations name params effects few distinct few_effects each = record {
  few_params = few;
  few_guards = omega arith;
  few_effects = few_effects;
  distinct = distinct;
  each_guard = tt;
  each_effect = each;
}

pub tags_checked : IsChecked tags
unfolding IsDistinct
tags_checked = record {
  few_relations = omega arith;
  few_counters = omega arith;
  few_invariants = omega arith;
  few_methods = omega arith;
  distinct_relations = (tt, tt);
  distinct_counters = tt;
  distinct_methods = ((refl, tt), (tt, tt));
  each_relation = ((omega arith, omega arith), tt);
  each_counter = tt;
  each_invariant = tt;
  each_method = (
    a_method _ _ _ _ (omega arith) (tt, tt) (omega arith) (record { exists = omega arith; width = refl; each = ((omega arith, refl), tt) }, tt),
    (a_method _ _ _ _ (omega arith) ((refl, tt), (tt, tt)) (omega arith) (record { exists = omega arith; width = refl; each = ((omega arith, refl), tt) }, tt), tt),
  );
  typed = record {
    relations = (refl, tt);
    counters = tt;
    invariants = tt;
    methods = (
      record { named = refl; params = (refl, tt); guards = tt; effects = ((tt, tt), tt) },
      (record { named = refl; params = (refl, (refl, tt)); guards = tt; effects = ((tt, tt), tt) }, tt),
    );
  };
}

pub school_checked : IsChecked school
unfolding IsDistinct
school_checked = record {
  few_relations = omega arith;
  few_counters = omega arith;
  few_invariants = omega arith;
  few_methods = omega arith;
  distinct_relations = ((refl, tt), (tt, tt));
  distinct_counters = tt;
  distinct_methods = ((refl, tt), (tt, tt));
  each_relation = ((omega arith, omega arith), ((omega arith, omega arith), tt));
  each_counter = tt;
  each_invariant = (record { from_exists = omega arith; to_exists = omega arith; other = λ e. omega arith; width = refl; are_columns = record { each = ((omega arith, omega arith), tt); once = (tt, tt) } }, tt);
  each_method = (
    a_method _ _ _ _ (omega arith) (tt, tt) (omega arith) (record { exists = omega arith; width = refl; each = ((omega arith, refl), tt) }, tt),
    (a_method _ _ _ _ (omega arith) (tt, tt) (omega arith) (record { exists = omega arith; width = refl; each = ((omega arith, refl), tt) }, tt), tt),
  );
  typed = record {
    relations = (refl, (refl, tt));
    counters = tt;
    invariants = (tt, tt);
    methods = (
      record { named = refl; params = (refl, tt); guards = tt; effects = ((tt, tt), tt) },
      (record { named = refl; params = (refl, tt); guards = tt; effects = ((tt, tt), tt) }, tt),
    );
  };
}

pub seats_checked : IsChecked seats
unfolding IsDistinct
seats_checked = record {
  few_relations = omega arith;
  few_counters = omega arith;
  few_invariants = omega arith;
  few_methods = omega arith;
  distinct_relations = (tt, tt);
  distinct_counters = tt;
  distinct_methods = ((refl, tt), (tt, tt));
  each_relation = ((omega arith, omega arith), tt);
  each_counter = tt;
  each_invariant = (record { exists = omega arith; some = omega arith; are_columns = record { each = ((omega arith, omega arith), tt); once = (tt, tt) } }, tt);
  each_method = (
    a_method _ _ _ _ (omega arith) (tt, tt) (omega arith) (record { exists = omega arith; width = refl; each = (tt, ((omega arith, refl), tt)) }, tt),
    (a_method _ _ _ _ (omega arith) (tt, tt) (omega arith) (record { exists = omega arith; width = refl; each = (tt, ((omega arith, refl), tt)) }, tt), tt),
  );
  typed = record {
    relations = (refl, tt);
    counters = tt;
    invariants = (tt, tt);
    methods = (
      record { named = refl; params = (refl, tt); guards = tt; effects = ((lit< tt, (tt, tt)), tt) },
      (record { named = refl; params = (refl, tt); guards = tt; effects = ((lit< tt, (tt, tt)), tt) }, tt),
    );
  };
}

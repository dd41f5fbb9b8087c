-- Slips in the rules, and for each an object on which it shows.
use Rattle.std.specs.Prelude.{ℕ, ◌-◌, Bool, false, not, ◌&&◌, ◌==◌, nat_lt, List, [], ◌∷◌, Some, Option, slice_get, codes}
use Rattle.ham_syntax.specs.declared.object.Effect.{Effect}
use Rattle.ham_syntax.specs.declared.object.Effect.TheVariants.{Insert, Delete, Add, Subtract}
use Rattle.ham_syntax.specs.declared.object.Invariant.{Invariant}
use Rattle.ham_syntax.specs.declared.object.Invariant.TheVariants.{Reference, Unique, Low, High}
use Rattle.ham_syntax.specs.declared.object.Kind.TheVariants.{Id}
use Rattle.ham_syntax.specs.declared.term.Term.{Term}
use Rattle.ham_syntax.specs.declared.term.Term.TheVariants.{Param, Const}
use Rattle.ham_syntax.specs.Objects.{Schema}
use Rattle.ham_rules.specs.Terms.{differ}

-- ---- apart by parameters

-- two constants that differ, or, wrongly, two parameters that do
abbrev pub parameters_differ : Term → Term → Bool
parameters_differ (Param p) (Param q) = not (p == q)
parameters_differ t u = differ t u

abbrev pub parameters_differ_both : Option Term → Option Term → Bool
parameters_differ_both (Some t) (Some u) = parameters_differ t u
parameters_differ_both _ _ = false

abbrev pub parameters_apart_at : ℕ → List Term → List Term → Bool
parameters_apart_at p ts us = nat_lt 0 p && parameters_differ_both (slice_get ts (p - 1)) (slice_get us (p - 1))

-- method 0 puts the tag of its one parameter, and method 1 drops that of its second
abbrev pub put_tag : Effect
put_tag = Insert 0 (Param 0 ∷ [])

abbrev pub drop_tag : Effect
drop_tag = Delete 0 (Param 1 ∷ [])

abbrev pub tags : Schema
tags = record {
  relations = record { name = codes "tag"; columns = 1 } ∷ [];
  counters = [];
  invariants = [];
  methods =
      record { name = codes "put"; params = record { name = codes "tag"; kind = Id } ∷ []; guards = []; effects = put_tag ∷ [] }
      ∷ record { name = codes "drop"; params = record { name = codes "why"; kind = Id } ∷ record { name = codes "tag"; kind = Id } ∷ []; guards = []; effects = drop_tag ∷ [] }
      ∷ [];
}

-- ---- the enabling delete forgotten

-- the pairs by which n could make m permissible, but for two deletes under a reference
abbrev pub left_listed_without_deletes : Invariant → Effect → Effect → Bool
left_listed_without_deletes (Reference from columns to) (Insert r ts) (Insert q us) = (r == from) && (q == to)
left_listed_without_deletes (Unique u columns) (Insert r ts) (Delete q us) = (r == u) && (q == u)
left_listed_without_deletes (Low c limit) (Subtract d key amount) (Add e key' amount') = (d == c) && (e == c)
left_listed_without_deletes (High c limit) (Add d key amount) (Subtract e key' amount') = (d == c) && (e == c)
left_listed_without_deletes _ _ _ = false

-- method 0 closes a course, and method 1 leaves one
abbrev pub close_course : Effect
close_course = Delete 0 (Param 0 ∷ [])

abbrev pub leave_course : Effect
leave_course = Delete 1 (Param 0 ∷ [])

-- who is enrolled is so in a course that there is
abbrev pub course_of_enrolled : Invariant
course_of_enrolled = Reference 1 (1 ∷ []) 0

abbrev pub school : Schema
school = record {
  relations = record { name = codes "course"; columns = 1 } ∷ record { name = codes "enrolled"; columns = 1 } ∷ [];
  counters = [];
  invariants = course_of_enrolled ∷ [];
  methods =
      record { name = codes "close"; params = record { name = codes "course"; kind = Id } ∷ []; guards = []; effects = close_course ∷ [] }
      ∷ record { name = codes "leave"; params = record { name = codes "course"; kind = Id } ∷ []; guards = []; effects = leave_course ∷ [] }
      ∷ [];
}

-- ---- a column outside the key

-- each method takes its own seat under the name that it is given
abbrev pub first_seat : Effect
first_seat = Insert 0 (Const 1 ∷ Param 0 ∷ [])

abbrev pub second_seat : Effect
second_seat = Insert 0 (Const 2 ∷ Param 0 ∷ [])

-- no name has two seats
abbrev pub one_of_each : Invariant
one_of_each = Unique 0 (2 ∷ [])

abbrev pub seats : Schema
seats = record {
  relations = record { name = codes "seat"; columns = 2 } ∷ [];
  counters = [];
  invariants = one_of_each ∷ [];
  methods =
      record { name = codes "first"; params = record { name = codes "name"; kind = Id } ∷ []; guards = []; effects = first_seat ∷ [] }
      ∷ record { name = codes "second"; params = record { name = codes "name"; kind = Id } ∷ []; guards = []; effects = second_seat ∷ [] }
      ∷ [];
}

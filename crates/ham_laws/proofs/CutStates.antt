-- A list that is cut ends in the state of the list.
use Rattle.std.proofs.Common.{◌≡◌, ◌≢◌, ◌⊎◌, ◌++◌, List, inl, inr}
use Rattle.ham_meaning.specs.Relations.{Meaning, IsLawful}
use Rattle.ham_plan.specs.Lists.{Within}
use Rattle.ham_plan.proofs.Lists.{in_front, in_back, in_parts, decide_in}
use Rattle.ham_laws.specs.Executions.{Constraints, IsSound, Execution, IsClosed, IsWellCoordinated}
use Rattle.ham_laws.specs.Coordinated.{EndAlike}
use Rattle.ham_laws.specs.Moves.{Cut}
use Rattle.ham_laws.proofs.Coordinated.{coordinated}

pub cut_alike : {C : Type 0} (m : Meaning) (p : Constraints) (e : Execution C m.Act) → IsLawful m → IsSound m p → ((a b : C) → (a ≡ b) ⊎ (a ≢ b)) → IsWellCoordinated m p e →
    (xs ys : List C) → IsClosed m p e xs → (cut : Cut m p e xs ys) → EndAlike m e xs (cut.common ++ cut.rest)
cut_alike {C} m p e lawful sound same well xs ys hx cut =
    (coordinated m p e lawful sound same well).states_agree xs (cut.common ++ cut.rest) hx cut.closed (to, from)
  where
    to : Within xs (cut.common ++ cut.rest)
    to c k = elim (decide_in same c ys) [
      | inl j ↦ in_front c cut.common cut.rest ((cut.common_exact c).1 (k, j))
      | inr out ↦ in_back c cut.common cut.rest ((cut.rest_exact c).1 (k, out))
    ]

    from : Within (cut.common ++ cut.rest) xs
    from c k = elim (in_parts c cut.common cut.rest k) [ inl j ↦ ((cut.common_exact c).0 j).0 | inr j ↦ ((cut.rest_exact c).0 j).0 ]

-- The plan of two free methods, in which slips show.
use Rattle.std.proofs.Common.{◌≡◌, ◌≢◌, ℕ, zero, suc, Bool, true, false, ◌&&◌, ltb, [], refl, sym, ◌∙◌, arith}
use Rattle.ham_plan.specs.Groups.{IsLeastOf}
use Rattle.ham_plan.specs.Grids.{cell}
use Rattle.ham_plan.specs.Plans.{IsPlan, conflicts, least_of, lane_of}
use Rattle.ham_plan.specs.Slips.{two_free, decider_from_the_last}

nothing_conflicts : (m n : ℕ) → conflicts two_free m n ≡ false
nothing_conflicts m n = by (ltb m 2 && ltb n 2)
  where
    by : (b : Bool) → (b && cell [] m n) ≡ false
    by true = refl
    by false = refl

all_free : (m : ℕ) → IsLeastOf (conflicts two_free) m (least_of two_free m)
all_free zero = λ n. nothing_conflicts 0 n
all_free (suc zero) = λ n. nothing_conflicts 1 n
all_free (suc (suc m)) = λ n. nothing_conflicts (suc (suc m)) n

pub two_free_plan : IsPlan two_free
two_free_plan = record {
  few_methods = omega arith;
  some_replicas = omega arith;
  few_replicas = omega arith;
  symmetric = λ m n. nothing_conflicts m n ∙ sym (nothing_conflicts n m);
  least_is = all_free;
}

pub other_decider : decider_from_the_last two_free (lane_of two_free 0 1) ≢ 1
other_decider e = omega arith

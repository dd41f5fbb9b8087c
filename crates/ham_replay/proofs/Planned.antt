-- The plan for so many replicas.
use Rattle.std.proofs.Common.{◌≡◌, ℕ, ◌-◌, ◌≤◌, List, length, Some, ap, arith, slice_index_or}
use Rattle.std.specs.Prelude.{slice_get}
use Rattle.std.proofs.lemmas.Option.{slice_get-get_or}
use Rattle.ham_syntax.specs.declared.limits.TheConstants.{MAX_REPLICAS}
use Rattle.ham_plan.specs.Plans.{Plan}
use Rattle.ham_turns.specs.Settings.{setting_of}
use Rattle.ham_replay.specs.Claims.{settings_of, setting_by}

pub plan_at : (plans : List Plan) (i n : ℕ) (d : Plan) → length plans ≡ MAX_REPLICAS → i ≡ n → 1 ≤ n → n ≤ MAX_REPLICAS → slice_get plans (n - 1) ≡ Some (slice_index_or plans (i - 1) d)
plan_at plans i n d eight same some few = rw same (slice_get-get_or plans (n - 1) d (omega (arith, eight, some, few)))

pub setting_at : (plans : List Plan) (n : ℕ) (p : Plan) → slice_get plans (n - 1) ≡ Some p → settings_of plans n ≡ setting_of p
unfolding settings_of
setting_at plans n p e = ap setting_by e

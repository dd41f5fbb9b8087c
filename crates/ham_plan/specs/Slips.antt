-- Slips in the numbers of plans, each of which breaks what the numbers mean.
use Rattle.std.specs.Prelude.{ℕ, ◌+◌, ◌-◌, ◌%◌, nat_lt, [], ◌∷◌, None, if◌then◌else◌}
use Rattle.ham_plan.specs.Plans.{Plan, groups, leader_of, is_free, sum_below}

-- two free methods, at two replicas
abbrev pub two_free : Plan
two_free = record { methods = 2; replicas = 2; conflict = []; depends = []; least = None ∷ None ∷ [] }

-- the replica of a free method's lane, counted from the last
abbrev pub decider_from_the_last : Plan → ℕ → ℕ
decider_from_the_last p l = if nat_lt l (groups p) then leader_of p l else p.replicas - (l - groups p) % p.replicas

-- a slot for each method, where a free method has one for each replica
abbrev pub slot_of_one_width : Plan → ℕ → ℕ → ℕ
slot_of_one_width p m r = sum_below (λ n. 1) m + (if is_free p m then r - 1 else 0)

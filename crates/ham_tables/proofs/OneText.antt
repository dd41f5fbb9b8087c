-- Plans with the same methods, replicas, conflicts and dependencies have one text of tables.
use Rattle.std.proofs.Common.{◌≡◌, ℕ, nat_le, Bool, ◌&&◌, if◌then◌else◌, List, [], ◌∷◌, ◌++◌, map, Option, refl, sym, ◌∙◌}
use Rattle.std.specs.Prelude.{codes}
use Rattle.std.specs.List.{flat_map, range_with_len}
use Rattle.std.specs.Fmt.{decimal}
use Rattle.ham_syntax.specs.Objects.{Schema, method_name}
use Rattle.ham_rules.specs.Claims.{each_below, lists_below}
use Rattle.ham_text.specs.Written.{line_text}
use Rattle.ham_plan.specs.Plans.{Plan, IsPlan, conflicts, depends_on, is_free, groups, group_of, leader_of, lane_of}
use Rattle.ham_plan.specs.Same.{SaysSame}
use Rattle.ham_plan.proofs.OnePlan.{free_same, gives_same}
use Rattle.ham_tables.specs.TablesText.{line_if, is_in, group_lane, tables_text}

-- the text, by what the plan gives
abbrev text_by : Schema → (methods replicas : ℕ) (conflict depends : ℕ → ℕ → Bool) (free : ℕ → Bool) (groups : ℕ) (group : ℕ → Option ℕ) (leader : ℕ → ℕ) (lane : ℕ → ℕ → ℕ) → List ℕ
text_by o methods replicas conflict depends free groups group leader lane = flat_map line_text (
    ((codes "methods" ∷ decimal methods ∷ []) ∷ (codes "replicas" ∷ decimal replicas ∷ []) ∷ [])
    ++ (lists_below methods (λ a. lists_below methods (λ b. line_if (nat_le a b && conflict a b) (codes "conflict" ∷ method_name o a ∷ method_name o b ∷ [])))
    ++ (lists_below methods (λ a. lists_below methods (λ b. line_if (depends a b) (codes "depend" ∷ method_name o a ∷ method_name o b ∷ [])))
    ++ (each_below groups (λ g. codes "group" ∷ decimal g ∷ codes "leader" ∷ decimal (leader g) ∷ lists_below methods (λ m. if is_in g (group m) then method_name o m ∷ [] else []))
    ++ (each_below groups group_lane
    ++ (lists_below methods (λ m. if free m then map (λ r. codes "lane" ∷ decimal (lane m r) ∷ method_name o m ∷ decimal r ∷ []) (range_with_len 1 replicas) else [])
    ++ (codes "end" ∷ []) ∷ []))))))

text_is : (o : Schema) (p : Plan) → tables_text o p ≡ text_by o p.methods p.replicas (conflicts p) (depends_on p) (is_free p) (groups p) (group_of p) (leader_of p) (lane_of p)
unfolding tables_text
text_is o p = refl

pub one_text : (o : Schema) (p q : Plan) → IsPlan p → IsPlan q → SaysSame p q → tables_text o p ≡ tables_text o q
one_text o p q is_p is_q same =
    let h = gives_same p q is_p is_q same in
    let free = free_same p q is_p is_q same in
    text_is o p
    ∙ (λ i. text_by o (same.methods i) (same.replicas i) (λ m n. same.conflict m n i) (λ m n. same.depends m n i) (free i) (h.groups i) (λ m. h.group m i) (λ g. h.leader g i) (λ m r. h.lane m r i))
    ∙ sym (text_is o q)

-- The tables' text: methods, replicas, conflicts, dependencies, groups and lanes, each on a line of its own.
use Rattle.std.specs.Prelude.{ℕ, Bool, false, if◌then◌else◌, nat_le, ◌&&◌, ◌==◌, List, [], ◌∷◌, ◌++◌, map, Option, Some, None, codes}
use Rattle.std.specs.List.{flat_map, range_with_len}
use Rattle.std.specs.Fmt.{decimal}
use Rattle.ham_syntax.specs.Objects.{Schema, method_name}
use Rattle.ham_rules.specs.Claims.{each_below, lists_below}
use Rattle.ham_text.specs.Written.{line_text}
use Rattle.ham_plan.specs.Plans.{Plan, conflicts, depends_on, is_free, groups, group_of, leader_of, lane_of}

-- the words of a line, if there is one
abbrev pub line_if : Bool → List (List ℕ) → List (List (List ℕ))
line_if there words = if there then words ∷ [] else []

-- each two methods that conflict, the first not after the second
abbrev pub conflict_pair : Schema → Plan → ℕ → ℕ → List (List (List ℕ))
conflict_pair o p a b = line_if (nat_le a b && conflicts p a b) (codes "conflict" ∷ method_name o a ∷ method_name o b ∷ [])

abbrev pub conflict_row : Schema → Plan → ℕ → List (List (List ℕ))
conflict_row o p a = lists_below p.methods (conflict_pair o p a)

abbrev pub conflict_lines : Schema → Plan → List (List (List ℕ))
conflict_lines o p = lists_below p.methods (conflict_row o p)

-- each method and one on which it depends
abbrev pub depend_pair : Schema → Plan → ℕ → ℕ → List (List (List ℕ))
depend_pair o p a b = line_if (depends_on p a b) (codes "depend" ∷ method_name o a ∷ method_name o b ∷ [])

abbrev pub depend_row : Schema → Plan → ℕ → List (List (List ℕ))
depend_row o p a = lists_below p.methods (depend_pair o p a)

abbrev pub depend_lines : Schema → Plan → List (List (List ℕ))
depend_lines o p = lists_below p.methods (depend_row o p)

abbrev pub is_in : ℕ → Option ℕ → Bool
is_in g None = false
is_in g (Some h) = h == g

-- the names of a group's methods
abbrev pub name_if_in : Schema → Plan → ℕ → ℕ → List (List ℕ)
name_if_in o p g m = if is_in g (group_of p m) then method_name o m ∷ [] else []

abbrev pub names_in : Schema → Plan → ℕ → List (List ℕ)
names_in o p g = lists_below p.methods (name_if_in o p g)

-- each group, its leader and its methods
abbrev pub group_line : Schema → Plan → ℕ → List (List ℕ)
group_line o p g = codes "group" ∷ decimal g ∷ codes "leader" ∷ decimal (leader_of p g) ∷ names_in o p g

abbrev pub group_lines : Schema → Plan → List (List (List ℕ))
group_lines o p = each_below (groups p) (group_line o p)

-- each group's lane
abbrev pub group_lane : ℕ → List (List ℕ)
group_lane g = codes "lane" ∷ decimal g ∷ codes "group" ∷ decimal g ∷ []

abbrev pub group_lanes : Plan → List (List (List ℕ))
group_lanes p = each_below (groups p) group_lane

-- the lanes of a free method, one for each replica
abbrev pub own_lane : Schema → Plan → ℕ → ℕ → List (List ℕ)
own_lane o p m r = codes "lane" ∷ decimal (lane_of p m r) ∷ method_name o m ∷ decimal r ∷ []

abbrev pub own_lanes : Schema → Plan → ℕ → List (List (List ℕ))
own_lanes o p m = if is_free p m then map (own_lane o p m) (range_with_len 1 p.replicas) else []

abbrev pub free_lanes : Schema → Plan → List (List (List ℕ))
free_lanes o p = lists_below p.methods (own_lanes o p)

abbrev pub opening_lines : Plan → List (List (List ℕ))
opening_lines p = (codes "methods" ∷ decimal p.methods ∷ []) ∷ (codes "replicas" ∷ decimal p.replicas ∷ []) ∷ []

abbrev pub table_lines : Schema → Plan → List (List (List ℕ))
table_lines o p =
    opening_lines p ++ (conflict_lines o p ++ (depend_lines o p ++ (group_lines o p ++ (group_lanes p ++ (free_lanes o p ++ (codes "end" ∷ []) ∷ [])))))

-- the text of the tables
unfoldable pub tables_text : Schema → Plan → List ℕ
tables_text o p = flat_map line_text (table_lines o p)

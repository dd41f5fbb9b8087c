-- How a state's content is kept: facts in a set, amounts in a map.
use Rattle.std.specs.Prelude.{ℕ, ℤ, Bool, ◌&&◌, ◌==◌, List, [], ◌∷◌}
use Rattle.std.specs.FinSet as set
use Rattle.std.specs.FinMap as finmap
use Rattle.std.specs.HashMap.{HashMap}
use Rattle.std.specs.HashSet.{HashSet}
use Rattle.ham_content.specs.Numbers.{same}
use Rattle.ham_content.specs.declared.tables.FactKey.{FactKey}
use Rattle.ham_content.specs.declared.tables.Spot.{Spot}
use Rattle.ham_steps.specs.Content.{fact_cmp, spot_cmp, put_amount, entry, State}

abbrev pub fact : ℕ → List ℕ → FactKey
fact r x = record { relation = r; row = x }

abbrev pub spot : ℕ → ℕ → Spot
spot c k = record { counter = c; key = k }

abbrev pub same_fact : FactKey → FactKey → Bool
same_fact a b = (a.relation == b.relation) && same a.row b.row

abbrev pub same_spot : Spot → Spot → Bool
same_spot a b = (a.counter == b.counter) && (a.key == b.key)

-- the facts, as a set
unfoldable pub facts_of : List FactKey → set.FinSet fact_cmp
facts_of [] = finmap.empty
facts_of (f ∷ fs) = finmap.insert (facts_of fs) (f.relation, f.row) tt

-- the amounts, as a map; the first of one counter and key counts
unfoldable pub amounts_of : List (Spot × ℤ) → finmap.FinMap spot_cmp ℤ
amounts_of [] = finmap.empty
amounts_of (a ∷ rest) = put_amount (amounts_of rest) (a.0.counter, a.0.key) (entry a.1)

-- the content that the tables keep, in whatever order
unfoldable pub content : {S T : Type 0} → HashSet FactKey S → HashMap Spot ℤ T → State
content facts amounts = record { facts = facts_of facts.keys; amounts = amounts_of amounts.entries }

-- What is compared of two states: each fact of one is a fact of the other, and each amount of one is the other's.
use Rattle.std.specs.Prelude.{ℤ, pos, Bool, ◌&&◌, unwrap_or}
use Rattle.std.specs.List.{list_all}
use Rattle.std.specs.Ordering.{int_eq}
use Rattle.std.specs.HashMap as hash
use Rattle.std.specs.HashMap.{HashMap}
use Rattle.std.specs.HashSet as bag
use Rattle.std.specs.HashSet.{HashSet}
use Rattle.ham_content.specs.declared.tables.FactKey.{FactKey}
use Rattle.ham_content.specs.declared.tables.Spot.{Spot}
use Rattle.ham_content.specs.Kept.{same_fact, same_spot}

abbrev pub are_among : {S T : Type 0} → HashSet FactKey S → HashSet FactKey T → Bool
are_among facts others = list_all (bag.contains same_fact others) facts.keys

abbrev pub agree : {S T : Type 0} → HashMap Spot ℤ S → HashMap Spot ℤ T → Bool
agree amounts others = list_all (λ e. int_eq (unwrap_or (hash.get same_spot others e.0) (pos 0)) e.1) amounts.entries

abbrev pub same_facts : {S T : Type 0} → HashSet FactKey S → HashSet FactKey T → Bool
same_facts facts others = are_among facts others && are_among others facts

abbrev pub same_amounts : {S T : Type 0} → HashMap Spot ℤ S → HashMap Spot ℤ T → Bool
same_amounts amounts others = agree amounts others && agree others amounts

use Rattle.std.proofs.Common.{List, ℕ, subst}
use Rattle.std.specs.List.Sorted.{IsPermutation}
use Rattle.ham_content.proofs.Listing.{sorted-rows}
use Rattle.ham_content.proofs.sorted.rows_of.Goals as goal

pub returns : goal.returns
returns c =
    sorted-rows c.args.facts.now c.args.amounts.now c.args.relation c.sort_unstable.new.self.items c.len-facts.ensures.unique
    (subst (λ (xs : List (List ℕ)). IsPermutation xs c.sort_unstable.new.self.items) c.in_ok-list.ensures c.sort_unstable.ensures.permutation)
    c.sort_unstable.ensures.sorted

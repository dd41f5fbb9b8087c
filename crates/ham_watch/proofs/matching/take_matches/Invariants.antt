use Rattle.std.proofs.Common.{◌≡◌, ◌&&◌, map, true, false}
use Rattle.std.specs.Prelude.{◌==◌, MatchOption}
use Rattle.std.specs.List.{list_any}
use Rattle.std.specs.HashSet as bag
use Rattle.ham_steps.specs.Pattern.{matches}
use Rattle.ham_steps.specs.Content.{without_rows}
use Rattle.ham_content.specs.Kept.{content, fact, same_fact}
use Rattle.ham_watch.specs.Watches.{AreSound}
use Rattle.ham_watch.proofs.matching.take_matches.Given as goal

abbrev pub decreases-loop-found : goal.decreases-loop-found
decreases-loop-found l = bag.hash_set_len l.facts

abbrev pub invariant-loop-found : goal.invariant-loop-found
invariant-loop-found l = record {
  sound : AreSound l.facts l.amounts l.watches l.sieves l.room;
  left : without_rows (content l.facts l.amounts) l.relation (matches l.pattern) ≡ without_rows (content l.initial.facts l.amounts) l.relation (matches l.pattern);
  invariants : map (λ w. w.invariant) l.watches ≡ map (λ w. w.invariant) l.initial.watches;
  found : MatchOption l.found (list_any (λ f. (f.relation == l.relation) && matches l.pattern f.row) l.facts.keys ≡ false) (λ row. (bag.contains same_fact l.facts (fact l.relation row) ≡ true) × (matches l.pattern row ≡ true));
}

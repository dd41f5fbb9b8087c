use Rattle.std.proofs.Common.{ap, ◌∙◌}
use Rattle.ham_steps.specs.Pattern.{matches}
use Rattle.ham_steps.specs.Content.{without_rows}
use Rattle.ham_content.specs.Kept.{content}
use Rattle.ham_content.proofs.Contents.{has-content}
use Rattle.ham_watch.proofs.Matched.{one_first, none_matches, found_is, found_not}
use Rattle.ham_watch.proofs.matching.take_matches.Goals as goal

pub loop-found-smaller : goal.loop-found-smaller
loop-found-smaller c =
    let found = found_is c.loop-found.facts c.args.relation (matches c.args.pattern.now) c.loop-found.found c.in-Some.row c.in-Some.is c.loop-found.invariant.found in
    c.take_row.ensures.fewer (has-content c.loop-found.facts c.args.amounts.now c.args.relation c.in-Some.row ∙ found.0)

pub loop-found-preserved : goal.loop-found-preserved
loop-found-preserved c =
    let found = found_is c.loop-found.facts c.args.relation (matches c.args.pattern.now) c.loop-found.found c.in-Some.row c.in-Some.is c.loop-found.invariant.found in
    record {
      sound = c.take_row.ensures.sound;
      left =
          ap (λ s. without_rows s c.args.relation (matches c.args.pattern.now)) c.take_row.ensures.content
          ∙ one_first (content c.loop-found.facts c.args.amounts.now) c.args.relation c.in-Some.row (matches c.args.pattern.now) found.1
          ∙ c.loop-found.invariant.left;
      invariants = c.take_row.ensures.invariants ∙ c.loop-found.invariant.invariants;
      found = c.find_match-found-in-Some.ensures;
    }

pub returns-clause-content : goal.returns-clause-content
returns-clause-content c =
    none_matches c.loop-found.facts c.args.amounts.now c.args.relation (matches c.args.pattern.now) (found_not c.loop-found.facts c.args.relation (matches c.args.pattern.now) c.loop-found.found c.in_default.not-Some c.loop-found.invariant.found)
    ∙ c.loop-found.invariant.left

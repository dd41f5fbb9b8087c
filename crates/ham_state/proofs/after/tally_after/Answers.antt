use Rattle.std.proofs.Common.{◌∙◌, ◌≡◌, ◌≤◌, ap, arith}
use Rattle.std.specs.HashSet as bag
use Rattle.ham_steps.specs.Steps.{after_step}
use Rattle.ham_content.specs.Kept.{content}
use Rattle.ham_content.specs.Counted.{tally}
use Rattle.ham_content.proofs.Tallies.{tally-few}
use Rattle.ham_state.proofs.Stepping.{one_more}
use Rattle.ham_state.proofs.after.tally_after.Goals as goal

pub loop-i-init : goal.loop-i-init
loop-i-init c =
    let same : c.count_at-number.result ≡ tally (content c.args.ahead.now.facts.now c.args.ahead.now.amounts.now) c.args.relation c.args.columns.now c.args.key.now = c.count_at-number.ensures ∙ c.requires.tallied in
    let few : tally (content c.args.ahead.now.facts.now c.args.ahead.now.amounts.now) c.args.relation c.args.columns.now c.args.key.now ≤ bag.hash_set_len c.args.ahead.now.facts.now = tally-few c.args.ahead.now.facts.now c.args.ahead.now.amounts.now c.args.relation c.args.columns.now c.args.key.now in
    record { number = same; small = omega (arith, same, few, c.len-few.ensures.len, c.len-few.ensures.small) }

pub loop-i-preserved : goal.loop-i-preserved
loop-i-preserved c =
    record {
      number = one_more c.args.ahead.now.steps.now (content c.args.ahead.now.facts.now c.args.ahead.now.amounts.now) c.loop-i.i c.index-steps-i.result c.args.relation c.args.columns.now c.args.key.now c.in_ok-number.number c.loop-i-test.true c.index-steps-i.is ((c.in_ok-number.ensures).0 ∙ ap (λ s. tally (after_step c.index-steps-i.result s) c.args.relation c.args.columns.now c.args.key.now) c.first-earlier.ensures);
      small = omega (arith, (c.in_ok-number.ensures).1, c.loop-i.invariant.small);
    }

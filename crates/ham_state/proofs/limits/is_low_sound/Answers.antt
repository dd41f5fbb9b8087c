use Rattle.std.proofs.Common.{◌≡◌, rules}
use Rattle.std.specs.Prelude.{int_le, ◌+ℤ◌}
use Rattle.ham_content.specs.Kept.{content}
use Rattle.ham_state.proofs.Stepping.{low_by}
use Rattle.ham_state.proofs.limits.is_low_sound.Goals as goal

pub returns : goal.returns
returns c =
    let plain : c.is_at_least.result ≡ int_le c.args.limit (c.value.result +ℤ c.gains.result) = search rules in
    low_by (content c.args.ahead.now.facts.now c.args.ahead.now.amounts.now) c.args.counter c.args.ahead.now.steps.now c.args.limit c.items-ids.result.now c.args.spot.now _ c.is_at_least.result c.value.result c.gains.result c.items-ids.ensures.value c.if-ids-ne1.false plain c.value.ensures c.gains.ensures.sum

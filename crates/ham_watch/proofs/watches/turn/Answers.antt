use Rattle.std.proofs.Common.{rules, ◌≡◌, ◌∙◌, ap, not, cond, ◌&&◌}
use Rattle.std.specs.Prelude.{int_le, ◌+ℤ◌, ◌==◌}
use Rattle.std.specs.HashSet as bag
use Rattle.ham_content.specs.Numbers.{same}
use Rattle.ham_content.specs.Kept.{content}
use Rattle.ham_steps.specs.Content.{value}
use Rattle.ham_watch.proofs.Moves.{reference_turned, unique_turned, low_watched, high_watched}
use Rattle.ham_watch.proofs.watches.turn.Goals as goal

pub returns-in-Reference-clause-watched : goal.returns-in-Reference-clause-watched
returns-in-Reference-clause-watched c = reference_turned (content c.args.facts.now c.args.amounts.now) c.args.counter c.args.key c.args.by c.args.watch.now.invariant c.in-Reference.from c.in-Reference.columns c.in-Reference.to c.args.watch.now.tallies c.args.watch.now.broken c.in-Reference.is c.requires.watched

pub returns-in-Unique-clause-watched : goal.returns-in-Unique-clause-watched
returns-in-Unique-clause-watched c = unique_turned (content c.args.facts.now c.args.amounts.now) c.args.counter c.args.key c.args.by c.args.watch.now.invariant c.in-Unique.relation c.in-Unique.columns c.args.watch.now.tallies c.args.watch.now.broken c.in-Unique.is c.requires.watched

pub returns-in-Low-clause-watched : goal.returns-in-Low-clause-watched
returns-in-Low-clause-watched c =
    let is : c.is_below-marked.result ≡ not (int_le c.in-Low.limit (value (content c.args.facts.now c.args.amounts.now) c.args.counter c.args.key +ℤ c.args.by)) = (let plain : c.is_below-marked.result ≡ not (int_le c.in-Low.limit c.args.number) = search rules in plain ∙ ap (λ v. not (int_le c.in-Low.limit v)) c.requires.number) in
    low_watched (content c.args.facts.now c.args.amounts.now) c.args.counter c.args.key c.args.by c.args.watch.now.invariant c.in-Low.limited c.in-Low.limit c.is_below-marked.result c.args.watch.now.tallies c.args.watch.now.broken c.mark_if.new.broken c.in-Low.is is (λ q. c.mark_if.ensures.marks q ∙ ap (λ z. cond ((c.in-Low.limited == c.args.counter) && same z q) c.is_below-marked.result (bag.contains same c.args.watch.now.broken q)) c.one-spot.ensures) c.requires.watched

pub returns-in-High-clause-watched : goal.returns-in-High-clause-watched
returns-in-High-clause-watched c =
    let is : c.is_above-marked.result ≡ not (int_le (value (content c.args.facts.now c.args.amounts.now) c.args.counter c.args.key +ℤ c.args.by) c.in-High.limit) = (let plain : c.is_above-marked.result ≡ not (int_le c.args.number c.in-High.limit) = search rules in plain ∙ ap (λ v. not (int_le v c.in-High.limit)) c.requires.number) in
    high_watched (content c.args.facts.now c.args.amounts.now) c.args.counter c.args.key c.args.by c.args.watch.now.invariant c.in-High.limited c.in-High.limit c.is_above-marked.result c.args.watch.now.tallies c.args.watch.now.broken c.mark_if-in-High.new.broken c.in-High.is is (λ q. c.mark_if-in-High.ensures.marks q ∙ ap (λ z. cond ((c.in-High.limited == c.args.counter) && same z q) c.is_above-marked.result (bag.contains same c.args.watch.now.broken q)) c.one-spot-in-High.ensures) c.requires.watched

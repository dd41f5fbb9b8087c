use Rattle.std.proofs.Common.{arith, ◌≡◌, ℕ, ◌+◌, ◌∙◌, List, sym, ap, ◌&&◌}
use Rattle.std.specs.Prelude.{if◌then◌else◌, nat_lt, ◌==◌}
use Rattle.std.specs.HashSet as bag
use Rattle.ham_content.specs.Numbers.{same}
use Rattle.ham_content.specs.Tallies.{count}
use Rattle.ham_steps.specs.Content.{with_row}
use Rattle.ham_content.specs.Kept.{content}
use Rattle.ham_content.specs.Counted.{at_columns, tally}
use Rattle.ham_content.proofs.Tallies.{tally-few}
use Rattle.ham_content.proofs.Counting.{tally-with_row}
use Rattle.ham_watch.proofs.Breaking.{shared_more}
use Rattle.ham_watch.proofs.unique.come_unique.Goals as goal

pub raise_if-number-requires-clause-fits : goal.raise_if-number-requires-clause-fits
raise_if-number-requires-clause-fits c =
    let few = tally-few c.args.facts.now c.args.amounts.now c.args.counts c.args.columns c.project-key.result in
    let is = c.requires.watched.tallied c.project-key.result in
    let small = c.len-few.ensures.small in
    let len = c.len-few.ensures.len in
    omega arith

pub returns-clause-watched : goal.returns-clause-watched
returns-clause-watched c =
    let s = content c.args.facts.now c.args.amounts.now in
    let key : c.project-key.result ≡ at_columns c.args.columns c.args.row = c.project-key.ensures in
    let tallied : (k : List ℕ) → count c.raise_if-number.new.tallies k ≡ tally (with_row (content c.args.facts.now c.args.amounts.now) c.args.relation c.args.row) c.args.counts c.args.columns k = λ k.
    c.raise_if-number.ensures.counts k
    ∙ (λ i. c.requires.watched.tallied k i + (if (c.args.counts == c.args.relation) && same (key i) k then 1 else 0))
    ∙ sym (tally-with_row (content c.args.facts.now c.args.amounts.now) c.args.relation c.args.row c.args.counts c.args.columns k c.requires.absent) in
    record {
      tallied = tallied;
      marked = shared_more (content c.args.facts.now c.args.amounts.now) c.args.relation c.args.row c.args.counts c.args.columns c.project-key.result (nat_lt 1 c.raise_if-number.result) (bag.contains same c.mark_if.new.broken) (bag.contains same c.args.broken.now) key c.requires.absent (ap (nat_lt 1) (c.raise_if-number.ensures.now ∙ tallied c.project-key.result)) c.mark_if.ensures.marks c.requires.watched.marked;
    }

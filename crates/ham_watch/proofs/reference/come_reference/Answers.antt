use Rattle.std.proofs.Common.{arith, ◌≡◌, ℕ, ◌+◌, ◌∙◌, List, sym, ap, ◌&&◌, not, false, cond}
use Rattle.std.specs.Prelude.{if◌then◌else◌, nat_lt, ◌==◌}
use Rattle.std.specs.HashSet as bag
use Rattle.std.proofs.lemmas.Bool.{and_parts}
use Rattle.ham_content.specs.Numbers.{same}
use Rattle.ham_content.specs.Tallies.{count}
use Rattle.ham_steps.specs.Content.{with_row, has}
use Rattle.ham_content.specs.Kept.{content}
use Rattle.ham_content.specs.Counted.{at_columns, tally}
use Rattle.ham_content.proofs.Tallies.{tally-few}
use Rattle.ham_content.proofs.Counting.{tally-with_row}
use Rattle.ham_watch.proofs.Breaking.{vain_more}
use Rattle.ham_watch.proofs.Marking.{marks_within}
use Rattle.ham_watch.proofs.reference.come_reference.Goals as goal

pub raise_if-number-requires-clause-fits : goal.raise_if-number-requires-clause-fits
raise_if-number-requires-clause-fits c =
    let few = tally-few c.args.facts.now c.args.amounts.now c.args.from c.args.columns c.project-key.result in
    let is = c.requires.watched.tallied c.project-key.result in
    let small = c.len-few.ensures.small in
    let len = c.len-few.ensures.len in
    omega arith

pub mark_if-requires : goal.mark_if-requires
mark_if-requires c = record {
  room = λ p.
      let below = marks_within c.args.tallies.now c.args.broken.now c.len-marks.ensures.unique (λ q e. (and_parts (nat_lt 0 (count c.args.tallies.now q)) (not (has (content c.args.facts.now c.args.amounts.now) c.args.to q)) (ap (λ n. nat_lt 0 n && not (has (content c.args.facts.now c.args.amounts.now) c.args.to q)) (c.requires.watched.tallied q) ∙ sym (c.requires.watched.marked q) ∙ e)).0) in
      let r = c.requires.room.1 in
      omega arith;
}

pub returns-clause-watched : goal.returns-clause-watched
returns-clause-watched c =
    let key : c.project-key.result ≡ at_columns c.args.columns c.args.row = c.project-key.ensures in
    let tallied : (k : List ℕ) → count c.raise_if-number.new.tallies k ≡ tally (with_row (content c.args.facts.now c.args.amounts.now) c.args.relation c.args.row) c.args.from c.args.columns k = λ k.
    c.raise_if-number.ensures.counts k
    ∙ (λ i. c.requires.watched.tallied k i + (if (c.args.from == c.args.relation) && same (key i) k then 1 else 0))
    ∙ sym (tally-with_row (content c.args.facts.now c.args.amounts.now) c.args.relation c.args.row c.args.from c.args.columns k c.requires.absent) in
    record {
      tallied = tallied;
      marked = vain_more (content c.args.facts.now c.args.amounts.now) c.args.relation c.args.row c.args.from c.args.columns c.args.to c.project-key.result c.is_in_vain-marked.result (bag.contains same c.mark_if-2.new.broken) (bag.contains same c.args.broken.now) key c.requires.absent
          (c.is_in_vain-marked.ensures ∙ (λ i. nat_lt 0 ((c.raise_if-number.ensures.now ∙ tallied c.project-key.result) i) && not (c.is_there_with-there.ensures i)))
          (λ q. c.mark_if-2.ensures.marks q ∙ ap (λ z. cond ((c.args.to == c.args.relation) && same c.args.row q) false z) (c.mark_if.ensures.marks q))
          c.requires.watched.marked;
    }

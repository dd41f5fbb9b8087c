use Rattle.std.proofs.Common.{arith, ◌≡◌, ℕ, ◌+◌, ◌<◌, ◌∙◌, List, sym, ap, subst, ◌&&◌, true}
use Rattle.std.specs.Prelude.{if◌then◌else◌, nat_lt, ◌==◌}
use Rattle.std.specs.HashSet as bag
use Rattle.std.proofs.lemmas.Bool.{eqb-true}
use Rattle.ham_content.specs.Numbers.{same}
use Rattle.ham_content.specs.Tallies.{count}
use Rattle.ham_steps.specs.Pattern.{is_row}
use Rattle.ham_steps.specs.Content.{has, without_rows}
use Rattle.ham_content.specs.Kept.{content}
use Rattle.ham_content.specs.Counted.{at_columns, tally}
use Rattle.ham_content.proofs.Tallies.{tally-some}
use Rattle.ham_content.proofs.Counting.{tally-without_row}
use Rattle.ham_watch.proofs.Breaking.{shared_less}
use Rattle.ham_watch.proofs.unique.leave_unique.Goals as goal

pub lower_if-number-requires : goal.lower_if-number-requires
lower_if-number-requires c = record {
  some = λ e.
      let here : has (content c.args.facts.now c.args.amounts.now) c.args.counts c.args.row ≡ true = ap (λ z. has (content c.args.facts.now c.args.amounts.now) z c.args.row) (eqb-true c.args.counts c.args.relation e) ∙ c.requires.there in
      let some = tally-some (content c.args.facts.now c.args.amounts.now) c.args.counts c.args.row c.args.columns here in
      subst (λ n. 0 < n) (sym (c.requires.watched.tallied c.project-key.result ∙ ap (tally (content c.args.facts.now c.args.amounts.now) c.args.counts c.args.columns) c.project-key.ensures)) some;
}

pub returns-clause-watched : goal.returns-clause-watched
returns-clause-watched c =
    let key : c.project-key.result ≡ at_columns c.args.columns c.args.row = c.project-key.ensures in
    let tallied : (k : List ℕ) → count c.lower_if-number.new.tallies k ≡ tally (without_rows (content c.args.facts.now c.args.amounts.now) c.args.relation (is_row c.args.row)) c.args.counts c.args.columns k = λ k.
    let less : count c.lower_if-number.new.tallies k + (if (c.args.counts == c.args.relation) && same (at_columns c.args.columns c.args.row) k then 1 else 0) ≡ tally (without_rows (content c.args.facts.now c.args.amounts.now) c.args.relation (is_row c.args.row)) c.args.counts c.args.columns k + (if (c.args.counts == c.args.relation) && same (at_columns c.args.columns c.args.row) k then 1 else 0) =
    ap (λ z. count c.lower_if-number.new.tallies k + (if (c.args.counts == c.args.relation) && same z k then 1 else 0)) (sym key)
    ∙ c.lower_if-number.ensures.counts k ∙ c.requires.watched.tallied k
    ∙ sym (tally-without_row (content c.args.facts.now c.args.amounts.now) c.args.relation c.args.row c.args.counts c.args.columns k c.requires.there) in
    omega arith in
    record {
      tallied = tallied;
      marked = shared_less (content c.args.facts.now c.args.amounts.now) c.args.relation c.args.row c.args.counts c.args.columns c.project-key.result (nat_lt 1 c.lower_if-number.result) (bag.contains same c.mark_if.new.broken) (bag.contains same c.args.broken.now) key c.requires.there (ap (nat_lt 1) (c.lower_if-number.ensures.now ∙ tallied c.project-key.result)) c.mark_if.ensures.marks c.requires.watched.marked;
    }

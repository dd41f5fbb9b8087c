use Rattle.ham_witness.specs.Cases.{cases_with}
use Rattle.ham_witness.specs.Shown.{Breaks, case_of_example}
use Rattle.ham_witness.proofs.First.{first-piece-at}
use Rattle.ham_witness.proofs.search.first_of.Goals as goal

pub returns-in-Some : goal.returns-in-Some
returns-in-Some c =
    let h = rw c.in-Some.is at c.in_ok-example.ensures in
    record {
      first = first-piece-at (Breaks c.args.object.now c.args.claim.now) (cases_with c.args.object.now c.args.ids c.args.claim.now) c.args.all.now c.loop-kinds.kinds-index _ (case_of_example c.in-Some.example) c.loop-kinds-test.true c.loop-kinds.invariant h.first;
      shown = h.shown;
      opened = h.opened;
    }

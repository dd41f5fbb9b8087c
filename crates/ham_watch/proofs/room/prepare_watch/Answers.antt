use Rattle.std.proofs.Common.{◌∙◌}
use Rattle.ham_watch.proofs.room.prepare_watch.Goals as goal

pub returns-in_err-reserve_tallies-clause-watched : goal.returns-in_err-reserve_tallies-clause-watched
returns-in_err-reserve_tallies-clause-watched c = λ s h. record { tallied = λ k. c.in_err-reserve_tallies.ensures.counts k ∙ h.tallied k; marked = h.marked }

pub returns-clause-watched : goal.returns-clause-watched
returns-clause-watched c = λ s h. record { tallied = λ k. c.in_ok-reserve_tallies.ensures.counts k ∙ h.tallied k; marked = λ k. c.reserve_marks.ensures.marks k ∙ h.marked k }

use Rattle.std.proofs.Common.{◌≡◌, take}
use Rattle.std.specs.Prelude.{sum_by}
use Rattle.ham_world.specs.declared.note.Note.{Note}
use Rattle.ham_bulk.proofs.tally.frames_sent.Given as goal

abbrev pub invariant-loop-note : goal.invariant-loop-note
invariant-loop-note l = l.total ≡ sum_by (λ (t : Note). t.sent) (take l.note-index l.notes)

use Rattle.ham_frame.proofs.Faults.{no_fault}
use Rattle.ham_frame.proofs.laws.what_is_read_has_no_fault.Goals as goal

pub returns : goal.returns
returns c = λ fs r at why fit u fault. no_fault fs r at why fit u fault

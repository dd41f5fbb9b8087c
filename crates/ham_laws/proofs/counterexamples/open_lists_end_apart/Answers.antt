use Rattle.ham_laws.specs.Register.{register}
use Rattle.ham_laws.proofs.Single.{single_sound}
use Rattle.ham_laws.proofs.Tiny.{register_lawful}
use Rattle.ham_laws.proofs.Sharpness.{settings_closed, settings_well, swapped}
use Rattle.ham_laws.proofs.counterexamples.open_lists_end_apart.Goals as goal

pub returns-clause-lawful : goal.returns-clause-lawful
returns-clause-lawful c = register_lawful

pub returns-clause-sound : goal.returns-clause-sound
returns-clause-sound c = single_sound register

pub returns-clause-well : goal.returns-clause-well
returns-clause-well c = settings_well

pub returns-clause-closed : goal.returns-clause-closed
returns-clause-closed c = settings_closed

pub returns-clause-same : goal.returns-clause-same
returns-clause-same c = swapped _ _

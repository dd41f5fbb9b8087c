use Rattle.std.proofs.Common.{[], ◌∷◌}
use Rattle.ham_laws.specs.Single.{single}
use Rattle.ham_laws.specs.Purse.{purse, put_call}
use Rattle.ham_laws.proofs.Single.{single_sound}
use Rattle.ham_laws.proofs.Tiny.{purse_lawful}
use Rattle.ham_laws.proofs.Sharpness.{purse_well, take_forbidden, take_breaks}
use Rattle.ham_laws.proofs.counterexamples.open_lists_break.Goals as goal

pub returns-clause-lawful : goal.returns-clause-lawful
returns-clause-lawful c = purse_lawful

pub returns-clause-sound : goal.returns-clause-sound
returns-clause-sound c = single_sound purse

pub returns-clause-well : goal.returns-clause-well
returns-clause-well c = purse_well single [] tt

pub returns-clause-impermissible : goal.returns-clause-impermissible
returns-clause-impermissible c = take_forbidden [] (put_call ∷ [])

pub returns-clause-broken : goal.returns-clause-broken
returns-clause-broken c = take_breaks [] (put_call ∷ [])

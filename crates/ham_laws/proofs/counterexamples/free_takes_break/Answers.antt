use Rattle.std.proofs.Common.{[], ◌∷◌}
use Rattle.ham_laws.specs.Purse.{careless, take_call}
use Rattle.ham_laws.proofs.Tiny.{purse_lawful}
use Rattle.ham_laws.proofs.Sharpness.{careless_symmetric, coins_commute, careless_right, purse_well, take_closed, take_forbidden, take_breaks}
use Rattle.ham_laws.proofs.counterexamples.free_takes_break.Goals as goal

pub returns-clause-lawful : goal.returns-clause-lawful
returns-clause-lawful c = purse_lawful

pub returns-clause-symmetric : goal.returns-clause-symmetric
returns-clause-symmetric c = careless_symmetric

pub returns-clause-commute : goal.returns-clause-commute
returns-clause-commute c f g apart = coins_commute f g

pub returns-clause-right : goal.returns-clause-right
returns-clause-right c = careless_right

pub returns-clause-well : goal.returns-clause-well
returns-clause-well c = purse_well careless (take_call ∷ []) take_closed

pub returns-clause-closed : goal.returns-clause-closed
returns-clause-closed c = take_closed

pub returns-clause-impermissible : goal.returns-clause-impermissible
returns-clause-impermissible c = take_forbidden (take_call ∷ []) []

pub returns-clause-broken : goal.returns-clause-broken
returns-clause-broken c = take_breaks (take_call ∷ []) []

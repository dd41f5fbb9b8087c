use Rattle.std.proofs.Common.{refl}
use Rattle.ham_laws.specs.Slips.{hasty}
use Rattle.ham_laws.proofs.Tiny.{purse_lawful}
use Rattle.ham_laws.proofs.Sharpness.{coins_commute}
use Rattle.ham_laws.proofs.Sharper.{hasty_left, two_takes_well, takes_closed, takes_forbidden, takes_break}
use Rattle.ham_laws.proofs.counterexamples.hasty_takes_break.Goals as goal

pub returns : goal.returns
returns c = record {
  lawful = purse_lawful;
  symmetric = λ f g. refl;
  commute = λ f g apart. coins_commute f g;
  left = hasty_left;
  well = two_takes_well;
  closed = takes_closed hasty;
  impermissible = takes_forbidden;
  broken = takes_break;
}

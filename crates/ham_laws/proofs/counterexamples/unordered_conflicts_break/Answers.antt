use Rattle.ham_laws.specs.Purse.{purse}
use Rattle.ham_laws.specs.Single.{single}
use Rattle.ham_laws.proofs.Single.{single_sound}
use Rattle.ham_laws.proofs.Sharper.{takes_in_order, takes_there, takes_permissible, takes_before, takes_logs, takes_forbidden, takes_break}
use Rattle.ham_laws.proofs.counterexamples.unordered_conflicts_break.Goals as goal

pub returns : goal.returns
returns c = record {
  sound = single_sound purse;
  in_order = takes_in_order;
  decided_there = takes_there;
  fits = λ d k. tt;
  permissible_at = takes_permissible;
  before_closed = takes_before single;
  logs_closed = takes_logs single;
  impermissible = takes_forbidden;
  broken = takes_break;
}

use Rattle.std.proofs.Common.{refl, inl}
use Rattle.ham_laws.specs.Register.{first, second}
use Rattle.ham_laws.proofs.Tiny.{register_lawful}
use Rattle.ham_laws.proofs.Sharpness.{swapped}
use Rattle.ham_laws.proofs.Sharper.{apart_settings_well, first_then_second, second_then_first, settings_end_apart}
use Rattle.ham_laws.proofs.counterexamples.unordered_settings_end_apart.Goals as goal

pub returns : goal.returns
returns c = record {
  lawful = register_lawful;
  symmetric = λ f g. refl;
  right = λ f g apart. inl (λ a s ha ok inv. tt);
  left = λ f g apart. inl (λ a s ha ok inv. tt);
  well = apart_settings_well;
  closed = first_then_second;
  other_closed = second_then_first;
  same = swapped first second;
  apart = settings_end_apart;
}

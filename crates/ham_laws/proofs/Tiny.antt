-- The tiny meanings owe nothing.
use Rattle.std.proofs.Common.{arith}
use Rattle.std.proofs.lemmas.Int.{ints}
use Rattle.ham_meaning.specs.Relations.{IsLawful}
use Rattle.ham_laws.specs.Register.{register}
use Rattle.ham_laws.specs.Purse.{purse}

pub register_lawful : IsLawful register
register_lawful = record {
  opening_well_formed = tt;
  opening_invariant = tt;
  update_well_formed = λ a s fits ok. tt;
  permissible_keeps = λ a s fits ok h. tt;
}

pub purse_lawful : IsLawful purse
purse_lawful = record {
  opening_well_formed = tt;
  opening_invariant = omega (arith, ints);
  update_well_formed = λ a s fits ok. tt;
  permissible_keeps = λ a s fits ok h. h;
}

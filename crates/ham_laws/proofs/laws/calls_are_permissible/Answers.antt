use Rattle.ham_meaning.specs.OfObjects.{meaning}
use Rattle.ham_meaning.proofs.Lawful.{meaning_lawful}
use Rattle.ham_laws.specs.Register.{register}
use Rattle.ham_laws.specs.Purse.{purse}
use Rattle.ham_laws.proofs.Places.{same_place}
use Rattle.ham_laws.proofs.Coordinated.{permissible_throughout}
use Rattle.ham_laws.proofs.Tiny.{register_lawful, purse_lawful}
use Rattle.ham_laws.proofs.laws.calls_are_permissible.Goals as goal

pub returns-clause-objects : goal.returns-clause-objects
returns-clause-objects c o checked p e sound well = permissible_throughout (meaning o) p e (meaning_lawful o checked) sound same_place well

pub returns-clause-tiny_register : goal.returns-clause-tiny_register
returns-clause-tiny_register c p e sound well = permissible_throughout register p e register_lawful sound same_place well

pub returns-clause-tiny_purse : goal.returns-clause-tiny_purse
returns-clause-tiny_purse c p e sound well = permissible_throughout purse p e purse_lawful sound same_place well

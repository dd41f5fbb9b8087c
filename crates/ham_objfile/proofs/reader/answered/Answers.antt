use Rattle.ham_objfile.proofs.Files.{answered}
use Rattle.ham_objfile.proofs.reader.answered.Goals as goal

pub returns : goal.returns
returns c = answered c.args._alloc

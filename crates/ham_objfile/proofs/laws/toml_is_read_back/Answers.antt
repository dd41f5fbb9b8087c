use Rattle.ham_objfile.proofs.Tables.{toml_back}
use Rattle.ham_objfile.proofs.laws.toml_is_read_back.Goals as goal

pub returns : goal.returns
returns c = toml_back

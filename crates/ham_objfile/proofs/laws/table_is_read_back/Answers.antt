use Rattle.ham_objfile.proofs.Tables.{table_back}
use Rattle.ham_objfile.proofs.laws.table_is_read_back.Goals as goal

pub returns : goal.returns
returns c = table_back

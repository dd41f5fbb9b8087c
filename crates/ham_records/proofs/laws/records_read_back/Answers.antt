use Rattle.ham_records.proofs.Textual.{texts_are_texts, texts_are_spelled}
use Rattle.ham_records.proofs.laws.records_read_back.Goals as goal

pub returns-clause-reads : goal.returns-clause-reads
returns-clause-reads c = texts_are_texts

pub returns-clause-spelled : goal.returns-clause-spelled
returns-clause-spelled c o checked = texts_are_spelled o

use Rattle.ham_lines.proofs.Spelled.{one_read, two_read, three_read, act_read, counter_read, relation_read}
use Rattle.ham_lines.proofs.laws.what_is_written_is_found.Goals as goal

pub returns-clause-one : goal.returns-clause-one
returns-clause-one c = one_read

pub returns-clause-two : goal.returns-clause-two
returns-clause-two c = two_read

pub returns-clause-three : goal.returns-clause-three
returns-clause-three c = three_read

pub returns-clause-act : goal.returns-clause-act
returns-clause-act c = act_read

pub returns-clause-counter : goal.returns-clause-counter
returns-clause-counter c = counter_read

pub returns-clause-relation : goal.returns-clause-relation
returns-clause-relation c = relation_read

use Rattle.ham_lines.proofs.Spelled.{one_spelled, two_spelled, three_spelled, act_spelled, counter_spelled, relation_spelled}
use Rattle.ham_lines.proofs.laws.what_is_found_is_written.Goals as goal

pub returns-clause-one : goal.returns-clause-one
returns-clause-one c words n e = let s = one_spelled words n e in (s.numbers, s.words)

pub returns-clause-two : goal.returns-clause-two
returns-clause-two c words p e = let s = two_spelled words p e in (s.numbers, s.words)

pub returns-clause-three : goal.returns-clause-three
returns-clause-three c words p e = let s = three_spelled words p e in (s.numbers, s.words)

pub returns-clause-act : goal.returns-clause-act
returns-clause-act c = act_spelled

pub returns-clause-counter : goal.returns-clause-counter
returns-clause-counter c = counter_spelled

pub returns-clause-relation : goal.returns-clause-relation
returns-clause-relation c = relation_spelled

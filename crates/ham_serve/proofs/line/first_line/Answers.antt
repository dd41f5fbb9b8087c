use Rattle.std.proofs.Common.{arith}
use Rattle.ham_serve.proofs.Ends.{cut_line, line_in_front, within_front}
use Rattle.ham_serve.proofs.line.first_line.Goals as goal

pub split_at-requires : goal.split_at-requires
split_at-requires c = omega (arith, within_front c.args.bytes.now c.front.result.now c.in_ok-at.at c.front.ensures c.in_ok-at.ensures.some.0)

pub split_at-requires-2 : goal.split_at-requires-2
split_at-requires-2 c = omega (arith, within_front c.args.bytes.now c.front.result.now c.in_ok-at.at c.front.ensures c.in_ok-at.ensures.some.0, c.split_at.ensures.back_len)

pub returns-clause-some : goal.returns-clause-some
returns-clause-some c = rw (c.split_at.ensures.front, c.split_at-2.ensures.back, c.split_at.ensures.back)
    (cut_line c.args.bytes.now c.front.result.now c.in_ok-at.at c.front.ensures c.in_ok-at.ensures.some.0 c.in_ok-at.ensures.some.1)

pub returns-clause-line : goal.returns-clause-line
returns-clause-line c = rw c.split_at.ensures.front
    (line_in_front c.args.bytes.now c.front.result.now c.in_ok-at.at c.front.ensures c.in_ok-at.ensures.some.0 c.in_ok-at.ensures.some.2)

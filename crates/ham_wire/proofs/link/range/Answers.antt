use Rattle.std.proofs.Common.{◌≤◌, arith, length}
use Rattle.ham_wire.proofs.Spans.{end_at-le, end_at-ge}
use Rattle.ham_wire.proofs.link.range.Goals as goal

pub returns : goal.returns
returns c =
    let m : c.args.before ≤ length c.args.ends.now = omega arith in
    record {
      start = c.end_of.ensures;
      end = c.end_of-2.ensures;
      ascends = rw (c.end_of.ensures, c.end_of-2.ensures) (end_at-le c.args.ends.now c.args.len c.args.before c.args.last c.requires.ascend c.requires.some m);
      within = rw (c.end_of-2.ensures) (end_at-ge 0 c.args.ends.now c.args.len c.args.last c.requires.ascend).1;
    }

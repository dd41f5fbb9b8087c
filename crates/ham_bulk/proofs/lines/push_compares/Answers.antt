use Rattle.std.proofs.Common.{◌-◌, ◌+◌, arith}
use Rattle.ham_bulk.specs.ScriptTexts.{compare_line}
use Rattle.ham_bulk.proofs.Texts.{put_more}
use Rattle.ham_bulk.proofs.lines.push_compares.Goals as goal

pub loop-other-preserved : goal.loop-other-preserved
loop-other-preserved c = put_more (compare_line c.args.object.now) 2 (c.loop-other.other - 2) c.loop-other.other (c.loop-other.other + 1 - 2) _ _ _ c.loop-other.invariant c.in_ok-push_compare.ensures (omega arith) (omega arith)

use Rattle.std.proofs.Common.{◌≡◌, ◌-◌, ◌<◌, suc, arith, length, sym, ap, ◌∙◌}
use Rattle.ham_wire.specs.Links.{end_at}
use Rattle.ham_wire.proofs.Spans.{end_at-get}
use Rattle.ham_wire.proofs.link.end_of.Goals as goal

pub returns-else-number-eq0 : goal.returns-else-number-eq0
returns-else-number-eq0 c =
    let s : c.args.number ≡ suc (c.args.number - 1) = omega arith in
    let h : c.args.number - 1 < length c.args.ends.now = omega arith in
    sym (ap (end_at 0 c.args.ends.now) s ∙ end_at-get 0 c.args.ends.now (c.args.number - 1) 0 h)

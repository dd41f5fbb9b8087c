use Rattle.std.proofs.Common.{◌&&◌, sym, ap, ◌∙◌}
use Rattle.std.specs.Prelude.{nat_lt, ◌==◌}
use Rattle.ham_site.specs.Sites.{setting_at}
use Rattle.ham_replica.specs.Shown.{lists_of}
use Rattle.ham_replica.proofs.Acking.{ack_delivered}
use Rattle.ham_replica.proofs.deliver.deliver_ack.Goals as goal

pub returns-in-Ok : goal.returns-in-Ok
returns-in-Ok c =
    ack_delivered c.args.site.now (lists_of c.args.held.now) c.args.from c.args.lane c.args.count c.requires
    (sym (c.is_decided_by-yours.ensures ∙ ap (λ r. nat_lt c.args.lane (setting_at c.args.site.now).lanes && ((setting_at c.args.site.now).decider c.args.lane == r)) c.me.ensures.me) ∙ c.if-not-yours.false) (lists_of c.note_ack.new.held) c.plain.result c.none.result c.in-Ok.ensures.0 c.in-Ok.ensures.1 c.plain.ensures c.none.ensures

use Rattle.std.proofs.Common.{refl, ◌∙◌}
use Rattle.ham_replica.specs.Shown.{lists_of}
use Rattle.ham_replica.proofs.Plain.{beat}
use Rattle.ham_replica.proofs.tick.tick_in.Goals as goal

pub returns : goal.returns
returns c =
    beat c.args.site.now (lists_of c.args.held.now) c.requires.kept c.requires.settled
    c.new.result c.of_frames.result _ c.new.ensures (c.of_frames.ensures ∙ c.in_ok-out.ensures) refl

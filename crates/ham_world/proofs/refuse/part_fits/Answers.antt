use Rattle.ham_world.proofs.Refused.{part_fits_when}
use Rattle.ham_world.proofs.refuse.part_fits.Goals as goal

pub returns-then-bytes-gt0 : goal.returns-then-bytes-gt0
returns-then-bytes-gt0 c = λ fs. λ e. part_fits_when fs c.args.number c.args.bytes c.if-bytes-gt0.true c.span-frame.result.now c.args.link.now e c.span-frame.ensures

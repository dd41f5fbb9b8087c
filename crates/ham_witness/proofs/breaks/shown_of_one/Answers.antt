use Rattle.std.proofs.Common.{None}
use Rattle.ham_witness.proofs.Breaking.{shows-alone}
use Rattle.ham_witness.proofs.breaks.shown_of_one.Goals as goal

pub returns-in-Is : goal.returns-in-Is
returns-in-Is c = shows-alone c.args.object.now c.args.claim.now _ c.args.state.now.content c.args.a.now None c.shown_alone.result c.in-Is.is c.requires.first (c.shown_alone.ensures None)

use Rattle.std.proofs.Common.{◌∙◌, refl, sym, ap}
use Rattle.ham_steps.specs.Content.{State}
use Rattle.ham_meaning.specs.Meaning.{update}
use Rattle.ham_witness.proofs.Breaking.{right-shown}
use Rattle.ham_witness.proofs.breaks.shown_right.Goals as goal

pub returns-in_ok-after : goal.returns-in_ok-after
returns-in_ok-after c =
    right-shown c.args.object.now c.args.state.now.content c.in_ok-after.after.content c.args.a.now c.args.b.now c.requires.fit c.requires.other_fit c.requires.well_formed
    (c.if-holds.ensures.0 refl) (c.if-may.ensures.0 refl) (c.if-may-2.ensures.0 refl)
    (c.in_ok-after.ensures.after ∙ ap (λ (x : State). update c.args.object.now c.args.b.now x) (sym c.requires.made)) c.why_not.result c.why_not.ensures

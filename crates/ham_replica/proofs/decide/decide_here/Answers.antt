use Rattle.std.proofs.Common.{refl, sym}
use Rattle.ham_meaning.specs.declared.outcome.Outcome.TheVariants as outcomes
use Rattle.ham_replica.specs.Shown.{lists_of}
use Rattle.ham_replica.proofs.Issuing.{turn_quiet}
use Rattle.ham_replica.proofs.decide.decide_here.Goals as goal

pub returns-in-Guard : goal.returns-in-Guard
returns-in-Guard c =
    rw (c.impermissible.ensures.answer, c.impermissible.ensures.logged, c.impermissible.ensures.out, c.impermissible.ensures.settled)
    (turn_quiet c.args.site.now (lists_of c.args.held.now) c.requires.kept c.args.act.now c.args.lane c.requires.may
    (outcomes.Guard c.in-Guard.guard) refl (sym c.in-Guard.ensures) c.requires.settled)

pub returns-in-Invariant : goal.returns-in-Invariant
returns-in-Invariant c =
    rw (c.impermissible-in-Invariant.ensures.answer, c.impermissible-in-Invariant.ensures.logged, c.impermissible-in-Invariant.ensures.out, c.impermissible-in-Invariant.ensures.settled)
    (turn_quiet c.args.site.now (lists_of c.args.held.now) c.requires.kept c.args.act.now c.args.lane c.requires.may
    (outcomes.Invariant c.in-Invariant.invariant) refl (sym c.in-Invariant.ensures) c.requires.settled)

use Rattle.ham_meaning.proofs.Computed.{outcome_guard, outcome_safety, IsOutcome-computed}
use Rattle.ham_meaning.proofs.meaning.permits.Goals as goal

pub returns-in-Some-clause-relation : goal.returns-in-Some-clause-relation
returns-in-Some-clause-relation c =
    IsOutcome-computed c.args.object.now c.args.state.now.content c.args.act.now _
    (outcome_guard c.args.object.now c.args.state.now.content c.args.act.now c.items.result.now c.guards_of.result.now c.items.ensures.value c.guards_of.ensures.guards c.in-Some.i c.in-Some.ensures.place)

pub returns-in-None-clause-computed : goal.returns-in-None-clause-computed
returns-in-None-clause-computed c =
    outcome_safety c.args.object.now c.args.state.now.content c.args.act.now c.items.result.now c.guards_of.result.now c.items.ensures.value c.guards_of.ensures.guards
    c.safety_after.result c.items-in-None.result.now c.args.net.now c.in-None.ensures.place c.items-in-None.ensures.value c.requires.net c.safety_after.ensures

pub returns-in-None-clause-relation : goal.returns-in-None-clause-relation
returns-in-None-clause-relation c =
    IsOutcome-computed c.args.object.now c.args.state.now.content c.args.act.now c.safety_after.result
    (outcome_safety c.args.object.now c.args.state.now.content c.args.act.now c.items.result.now c.guards_of.result.now c.items.ensures.value c.guards_of.ensures.guards
    c.safety_after.result c.items-in-None.result.now c.args.net.now c.in-None.ensures.place c.items-in-None.ensures.value c.requires.net c.safety_after.ensures)

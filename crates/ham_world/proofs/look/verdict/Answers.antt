use Rattle.std.proofs.Common.{◌∙◌, ◌<◌, ◌≤◌, inl, inr, sym, arith}
use Rattle.ham_syntax.specs.declared.limits.TheConstants.{MAX_LANES, MAX_REQUESTS}
use Rattle.ham_plan.specs.Plans.{slots}
use Rattle.ham_turns.specs.Settings.{rules_of, setting_of}
use Rattle.ham_world.specs.Keeping.{notes_of}
use Rattle.ham_world.proofs.Noted.{runs}
use Rattle.ham_world.proofs.Requested.{few_requests}
use Rattle.ham_world.proofs.Looked.{asked_is, unknown_beyond}
use Rattle.ham_world.proofs.look.verdict.Goals as goal

pub returns-then-group-from : goal.returns-then-group-from
returns-then-group-from c =
    let far : MAX_LANES ≤ c.args.group = omega arith in
    sym (unknown_beyond (notes_of c.args.parts.now.object c.args.parts.now.plan c.args.parts.now.notes.items) c.args.replica c.args.group c.args.number (few_requests (rules_of c.args.parts.now.object) (setting_of c.args.parts.now.plan) (slots c.args.parts.now.plan) (c.plans_are_tabled.ensures c.args.parts.now.plan c.requires.kept.sound.plan) (notes_of c.args.parts.now.object c.args.parts.now.plan c.args.parts.now.notes.items) (runs c.inputs_give_runs.ensures.computed c.args.parts.now.object c.args.parts.now.plan c.requires.kept.sound c.args.parts.now.notes.items) c.args.replica c.args.group) (inl far))

pub returns-then-number-from : goal.returns-then-number-from
returns-then-number-from c =
    let far : MAX_REQUESTS < c.args.number = omega arith in
    sym (unknown_beyond (notes_of c.args.parts.now.object c.args.parts.now.plan c.args.parts.now.notes.items) c.args.replica c.args.group c.args.number (few_requests (rules_of c.args.parts.now.object) (setting_of c.args.parts.now.plan) (slots c.args.parts.now.plan) (c.plans_are_tabled.ensures c.args.parts.now.plan c.requires.kept.sound.plan) (notes_of c.args.parts.now.object c.args.parts.now.plan c.args.parts.now.notes.items) (runs c.inputs_give_runs.ensures.computed c.args.parts.now.object c.args.parts.now.plan c.requires.kept.sound c.args.parts.now.notes.items) c.args.replica c.args.group) (inr far))

pub returns : goal.returns
returns c = c.verdict.ensures ∙ asked_is c.args.parts.now.object c.args.parts.now.plan (notes_of c.args.parts.now.object c.args.parts.now.plan c.args.parts.now.notes.items) c.args.parts.now.replicas.items c.args.replica c.replica_at.result.now c.args.group c.args.number (c.requires.keeps.each c.args.replica c.requires.replica) c.replica_at.ensures

use Rattle.std.proofs.Common.{◌+◌}
use Rattle.std.proofs.lemmas.Result.{err_from_is_err_and}
use Rattle.ham_text.specs.Cuts.{lines_of}
use Rattle.ham_lines.specs.declared.answer.Answer.TheVariants as answers
use Rattle.ham_replay.specs.Claims.{settings_of}
use Rattle.ham_replay.specs.Ends.{left}
use Rattle.ham_replay.specs.Replays.{answer_line, played_made}
use Rattle.ham_replay.proofs.Playing.{made_left}
use Rattle.ham_record.proofs.Steps.{made_whole, halted}
use Rattle.ham_record.proofs.running.run_world.Goals as goal

pub returns-in_err-run_rest : goal.returns-in_err-run_rest
returns-in_err-run_rest c =
    let o = c.args.object.now in
    let settings = settings_of c.args.plans.now.at in
    let p = err_from_is_err_and c.from_residual-in_err-run_rest.result c.from_residual-in_err-run_rest.ensures.1 in
    let made = made_left o settings c.args.number c.args.count _ _ _ c.in_ok-world.ensures c.plan_for.ensures.replicas c.plan_for.ensures.setting in
    rw p.1 (halted o settings c.in_ok-world.world c.run_rest.new.world (played_made o settings c.args.number c.args.count (lines_of c.args.rest.now)) (left c.in_ok-world.world (c.args.number + 1) (lines_of c.args.rest.now))
    (answer_line (answers.Replicas c.args.count)) _ _ p.2 made c.in_err-run_rest.ensures)

pub returns : goal.returns
returns c =
    let o = c.args.object.now in
    let settings = settings_of c.args.plans.now.at in
    let made = made_left o settings c.args.number c.args.count _ _ _ c.in_ok-world.ensures c.plan_for.ensures.replicas c.plan_for.ensures.setting in
    made_whole o settings _ c.args.count _ _ _ _ (answer_line (answers.Replicas c.args.count)) c.in_ok-world.ensures c.plan_for.ensures.replicas c.plan_for.ensures.setting made c.in_ok-run_rest.ensures

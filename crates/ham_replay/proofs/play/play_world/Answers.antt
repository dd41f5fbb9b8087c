use Rattle.std.proofs.Common.{◌≡◌, ap, refl, sym, subst}
use Rattle.std.proofs.lemmas.Result.{err_from_is_err_and}
use Rattle.ham_text.specs.Cuts.{lines_of}
use Rattle.ham_replay.specs.Claims.{settings_of}
use Rattle.ham_replay.specs.Replays.{Played}
use Rattle.ham_replay.proofs.Playing.{begins, goes_on, stops_in, finish, made_left, stops_after}
use Rattle.std.proofs.Common.{ℕ, Err, Option}
use Rattle.ham_replay.specs.declared.end.Refusal.{Refusal}
use Rattle.ham_replay.specs.declared.end.Stop.{Stop}
use Rattle.ham_replay.specs.declared.end.Stop.TheVariants.{Sink, Memory}
use Rattle.ham_replay.specs.Ends.{StopsWith}
use Rattle.ham_replay.proofs.play.play_world.Goals as goal

-- why it was cut short says the same of either result
same_stop : (A B : Type 0) (before now : ℕ) (why other : Stop) → other ≡ why → StopsWith {A = A} before now (Err why) → StopsWith {A = B} before now (Err other)
same_stop A B before now Sink other q h = subst (λ e. StopsWith {A = B} before now (Err e)) (sym q) h
same_stop A B before now Memory other q h = subst (λ e. StopsWith {A = B} before now (Err e)) (sym q) h

pub returns-in_err-put_answer-clause-cause : goal.returns-in_err-put_answer-clause-cause
returns-in_err-put_answer-clause-cause g c =
    let p = err_from_is_err_and c.from_residual-in_err-put_answer.result c.from_residual-in_err-put_answer.ensures.1 in
    rw p.1 (same_stop (Unit {0}) (Option Refusal) _ _ _ _ p.2 c.in_err-put_answer.ensures.cause)

pub returns-in_err-put_answer-clause-text : goal.returns-in_err-put_answer-clause-text
returns-in_err-put_answer-clause-text g c =
    let p = err_from_is_err_and c.from_residual-in_err-put_answer.result c.from_residual-in_err-put_answer.ensures.1 in
    let made = made_left c.args.object.now (settings_of c.args.plans.now.at) c.args.number c.args.count _ _ _ c.in_ok-world.ensures c.plan_for.ensures.replicas c.plan_for.ensures.setting in
    rw p.1 (stops_in _ _ _ _ _ _ _ _ _ _ _ (begins (g.K.Sink.taken c.args.out.now) c.args.gatherer.now (g.K.Sink.faults c.args.out.now) _) made c.in_err-put_answer.ensures.text)

pub returns-clause-text : goal.returns-clause-text
returns-clause-text g c =
    let made = made_left c.args.object.now (settings_of c.args.plans.now.at) c.args.number c.args.count _ _ _ c.in_ok-world.ensures c.plan_for.ensures.replicas c.plan_for.ensures.setting in
    let so_far = goes_on _ _ _ _ _ _ _ _ _ _ _ _ _ (begins (g.K.Sink.taken c.args.out.now) c.args.gatherer.now (g.K.Sink.faults c.args.out.now) _) made c.in_ok-put_answer.ensures.text c.in_ok-put_answer.ensures.cause in
    finish _ _ _ _ _ _ _ _ _ _ _ _ so_far refl c.play_rest.ensures.text

pub returns-clause-end : goal.returns-clause-end
returns-clause-end g c =
    let made = made_left c.args.object.now (settings_of c.args.plans.now.at) c.args.number c.args.count c.plan_for.result.now c.in_ok-world.world (lines_of c.args.rest.now) c.in_ok-world.ensures c.plan_for.ensures.replicas c.plan_for.ensures.setting in
    rw (ap (λ (p : Played). p.refused) made) c.play_rest.ensures.end

pub returns-clause-cause : goal.returns-clause-cause
returns-clause-cause g c = stops_after _ _ _ _ c.in_ok-put_answer.ensures.cause c.play_rest.ensures.cause

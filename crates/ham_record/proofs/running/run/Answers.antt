use Rattle.std.proofs.Common.{ap, sym, subst, ◌∙◌, arith}
use Rattle.std.proofs.lemmas.Bool.{eqb-true}
use Rattle.ham_replay.specs.Claims.{settings_of}
use Rattle.ham_replay.specs.Replays.{Played}
use Rattle.ham_replay.proofs.Playing.{next_skipped, next_first, no_first}
use Rattle.ham_record.specs.Recorded.{MakesWorld}
use Rattle.ham_record.proofs.running.run.Goals as goal

pub loop-rest-preserved : goal.loop-rest-preserved
loop-rest-preserved c =
    record {
      same = c.loop-rest.invariant.same ∙ next_skipped _ _ _ _ _ _ c.first_line.ensures.lines (sym c.is_skipped.ensures ∙ c.if-not-is_skipped.false);
      few = omega (arith, c.first_line.ensures.shorter, c.loop-rest.invariant.few);
    }

pub returns-then-not-is_skipped : goal.returns-then-not-is_skipped
returns-then-not-is_skipped c =
    let same = c.loop-rest.invariant.same ∙ next_first _ _ _ _ _ _ c.first_line.ensures.lines (sym c.is_skipped.ensures ∙ c.if-not-is_skipped.true) in
    subst (λ (p : Played). MakesWorld c.args.object.now (settings_of c.args.plans.now.at) p c.run_first.result) (sym same) c.run_first.ensures

pub returns : goal.returns
returns c =
    let same = c.loop-rest.invariant.same ∙ no_first _ _ _ _ (eqb-true _ 0 (sym c.is_empty.ensures ∙ c.loop-rest-test.false)) in
    rw c.not_a_line.ensures (ap (λ (p : Played). p.refused) same)

use Rattle.std.proofs.Common.{ap, sym, ◌∙◌, arith}
use Rattle.std.proofs.lemmas.Bool.{eqb-true}
use Rattle.ham_replay.specs.Replays.{Played}
use Rattle.ham_replay.proofs.Playing.{next_skipped, next_first, no_first, gathers_as}
use Rattle.ham_replay.proofs.play.play_lines.Goals as goal

pub loop-rest-preserved : goal.loop-rest-preserved
loop-rest-preserved g c =
    record {
      same = c.loop-rest.invariant.same ∙ next_skipped _ _ _ _ _ _ c.first_line.ensures.lines (sym c.is_skipped.ensures ∙ c.if-not-is_skipped.false);
      held = c.loop-rest.invariant.held;
      sink = c.loop-rest.invariant.sink;
      few = omega (arith, c.first_line.ensures.shorter, c.loop-rest.invariant.few);
    }

pub returns-then-not-is_skipped-clause-end : goal.returns-then-not-is_skipped-clause-end
returns-then-not-is_skipped-clause-end g c =
    let same = c.loop-rest.invariant.same ∙ next_first _ _ _ _ _ _ c.first_line.ensures.lines (sym c.is_skipped.ensures ∙ c.if-not-is_skipped.true) in
    rw (ap (λ (p : Played). p.refused) same) c.play_first.ensures.end

pub returns-then-not-is_skipped-clause-text : goal.returns-then-not-is_skipped-clause-text
returns-then-not-is_skipped-clause-text g c =
    let same = c.loop-rest.invariant.same ∙ next_first _ _ _ _ _ _ c.first_line.ensures.lines (sym c.is_skipped.ensures ∙ c.if-not-is_skipped.true) in
    gathers_as _ _ _ _ _ _ _ _ _ (ap g.K.Sink.taken c.loop-rest.invariant.sink) c.loop-rest.invariant.held (ap (λ (p : Played). p.text) same) c.play_first.ensures.text

pub returns-clause-end : goal.returns-clause-end
returns-clause-end g c =
    let same = c.loop-rest.invariant.same ∙ no_first _ _ _ _ (eqb-true _ 0 (sym c.is_empty.ensures ∙ c.loop-rest-test.false)) in
    rw (ap (λ (p : Played). p.refused) same) c.refuse.ensures.end

pub returns-clause-text : goal.returns-clause-text
returns-clause-text g c =
    let same = c.loop-rest.invariant.same ∙ no_first _ _ _ _ (eqb-true _ 0 (sym c.is_empty.ensures ∙ c.loop-rest-test.false)) in
    gathers_as _ _ _ _ _ _ _ _ _ (ap g.K.Sink.taken c.loop-rest.invariant.sink) c.loop-rest.invariant.held (ap (λ (p : Played). p.text) same) c.refuse.ensures.text

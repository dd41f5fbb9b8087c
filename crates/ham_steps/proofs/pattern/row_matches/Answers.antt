use Rattle.std.proofs.Common.{◌∙◌, ap, sym, drop, arith, length-drop, ◌&&◌, ◌+◌}
use Rattle.ham_steps.specs.Pattern.{matches}
use Rattle.ham_syntax.specs.declared.term.Term.TheVariants.{Param}
use Rattle.ham_steps.proofs.Matching.{matches_step, matches_end, matches_other}
use Rattle.ham_steps.proofs.pattern.row_matches.Goals as goal

pub returns-then-pattern-row : goal.returns-then-pattern-row
returns-then-pattern-row c = matches_other c.args.pattern.now c.args.row.now c.if-pattern-row.true

pub loop-i-preserved : goal.loop-i-preserved
loop-i-preserved c =
    c.loop-i.invariant
    ∙ matches_step c.args.pattern.now c.args.row.now c.loop-i.i (Param 0) c.if-pattern-row.false c.loop-i-test.true
    ∙ ap (λ b. b && matches (drop (c.loop-i.i + 1) c.args.pattern.now) (drop (c.loop-i.i + 1) c.args.row.now)) (sym c.if-not-term_fits.ensures)

pub returns-then-not-term_fits : goal.returns-then-not-term_fits
returns-then-not-term_fits c =
    sym (c.loop-i.invariant
    ∙ matches_step c.args.pattern.now c.args.row.now c.loop-i.i (Param 0) c.if-pattern-row.false c.loop-i-test.true
    ∙ ap (λ b. b && matches (drop (c.loop-i.i + 1) c.args.pattern.now) (drop (c.loop-i.i + 1) c.args.row.now)) (sym c.if-not-term_fits.ensures))

pub returns : goal.returns
returns c =
    matches_end (drop c.loop-i.i c.args.pattern.now) (drop c.loop-i.i c.args.row.now)
    (omega (arith, length-drop c.loop-i.i c.args.pattern.now)) (omega (arith, length-drop c.loop-i.i c.args.row.now, c.if-pattern-row.false))
    ∙ sym c.loop-i.invariant

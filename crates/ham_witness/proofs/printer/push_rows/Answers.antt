use Rattle.std.proofs.Common.{◌++◌, ◌∙◌, ℕ, List, map, ap}
use Rattle.std.specs.Prelude.{codes}
use Rattle.ham_text.specs.Written.{lines_text}
use Rattle.ham_witness.specs.ExampleText.{named_line, relation_name, row_lines_of}
use Rattle.ham_witness.proofs.Written.{lined-more}
use Rattle.ham_witness.proofs.printer.push_rows.Goals as goal

pub loop-r-preserved : goal.loop-r-preserved
loop-r-preserved c =
    lined-more (row_lines_of c.args.object.now c.args.state.now.content) c.loop-r.r c.args.text.now c.loop-r.text _ c.loop-r.invariant
    (c.in_ok-push_rows_of.ensures
    ∙ ((λ i. c.loop-r.text ++ lines_text (map (named_line (codes "row") (c.relation_name.ensures i)) (c.items.ensures i)))
    ∙ ap (λ (list : List (List ℕ)). c.loop-r.text ++ lines_text (map (named_line (codes "row") (relation_name c.args.object.now c.loop-r.r)) list)) c.in_ok-rows.ensures))

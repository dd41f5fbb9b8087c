use Rattle.std.proofs.Common.{[], ◌∷◌, ◌++◌}
use Rattle.std.specs.Prelude.{codes}
use Rattle.ham_bulk.specs.declared.tally.Sort.TheVariants as sorts
use Rattle.ham_bulk.specs.Summaries.{tallied}
use Rattle.ham_bulk.proofs.After.{ok_then}
use Rattle.ham_bulk.proofs.Texts.{both}
use Rattle.ham_bulk.proofs.summary.push_issues.Goals as goal

pub returns : goal.returns
returns c =
    let w1 = tallied (codes "issues") sorts.Issues c.args.notes.now in
    let t1 = c.push_sort.new.text in
    let w2 = tallied (codes " applied") sorts.Applied c.args.notes.now in
    let t2 = c.push_sort-2.new.text in
    let w3 = tallied (codes " forwarded") sorts.Forwarded c.args.notes.now in
    let t3 = c.push_sort-3.new.text in
    let w4 = tallied (codes " impermissible") sorts.Impermissible c.args.notes.now in
    let t4 = c.push_sort-4.new.text in
    let from3 = both t2 t3 t4 w3 w4 c.in_ok-push_sort-3.ensures c.in_ok-push_sort-4.ensures in
    let from2 = both t1 t2 t4 w2 (w3 ++ w4) c.in_ok-push_sort-2.ensures from3 in
    let from1 = both c.args.text.now t1 t4 w1 (w2 ++ (w3 ++ w4)) c.in_ok-push_sort.ensures from2 in
    ok_then c.push_line_end.result (both c.args.text.now t4 c.push_line_end.new.text (w1 ++ (w2 ++ (w3 ++ w4))) (10 ∷ []) from1) c.push_line_end.ensures

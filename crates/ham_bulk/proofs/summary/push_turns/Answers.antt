use Rattle.std.proofs.Common.{◌++◌}
use Rattle.ham_bulk.specs.Summaries.{issues_line, deliveries_line, other_lines}
use Rattle.ham_bulk.proofs.After.{ok_then}
use Rattle.ham_bulk.proofs.Texts.{both}
use Rattle.ham_bulk.proofs.summary.push_turns.Goals as goal

pub returns : goal.returns
returns c =
    let ns = c.args.notes.now in
    let end = c.push_others.new.text in
    ok_then c.push_others.result (λ h. both c.args.text.now c.push_issues.new.text end (issues_line ns) (deliveries_line ns ++ other_lines ns) c.in_ok-push_issues.ensures
    (both c.push_issues.new.text c.push_deliveries.new.text end (deliveries_line ns) (other_lines ns) c.in_ok-push_deliveries.ensures h)) c.push_others.ensures

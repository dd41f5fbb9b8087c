use Rattle.std.proofs.Common.{◌≡◌, ◌++◌, List, subst}
use Rattle.ham_turns.specs.Settings.{setting_of}
use Rattle.ham_world.specs.declared.note.Note.{Note as Told}
use Rattle.ham_bulk.specs.Summaries.{told, turn_lines, logged_lines, compared_lines, end_line}
use Rattle.ham_bulk.proofs.After.{ok_then}
use Rattle.ham_bulk.proofs.Texts.{both}
use Rattle.ham_bulk.proofs.summary.push_summary.Goals as goal

pub returns : goal.returns
returns c =
    let y = setting_of c.args.world.now.plan in
    let notes = c.args.world.now.notes in
    let logged = logged_lines y notes in
    let compared = compared_lines c.args.world.now.object y notes in
    let end = c.push_end.new.text in
    let first = subst (λ (ns : List Told). c.push_turns.new.text ≡ c.args.text.now ++ turn_lines ns) c.notes.ensures c.in_ok-push_turns.ensures in
    ok_then c.push_end.result (λ h. both c.args.text.now c.push_turns.new.text end (turn_lines (told notes)) (logged ++ (compared ++ end_line)) first
    (both c.push_turns.new.text c.push_logged.new.text end logged (compared ++ end_line) c.in_ok-push_logged.ensures
    (both c.push_logged.new.text c.push_compared.new.text end compared end_line c.in_ok-push_compared.ensures h))) c.push_end.ensures

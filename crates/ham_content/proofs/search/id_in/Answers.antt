use Rattle.std.proofs.Common.{rules, ◌≡◌, ◌-◌, Some, refl, sym, ap, ◌∙◌, length}
use Rattle.std.specs.Prelude.{slice_index}
use Rattle.std.proofs.lemmas.Option.{slice_get_read}
use Rattle.ham_content.proofs.Searching.{matches_at}
use Rattle.ham_content.proofs.search.id_in.Goals as goal

pub returns-in-Some-Const : goal.returns-in-Some-Const
returns-in-Some-Const c = λ x m.
    let found = c.in-Some-Const.ensures.lookup in
    let read = slice_get_read c.args.pattern.now (length c.args.pattern.now) c.saturating_sub.result c.in-Some-Const.field-0.now refl found.3.0 found.1 in
    let place : c.saturating_sub.result ≡ c.args.column - 1 = search rules in
    ap (slice_index x) (sym place) ∙ matches_at c.args.pattern.now x c.saturating_sub.result c.in-Some-Const.id (read ∙ ap Some c.in-Some-Const.field-0-is) m

use Rattle.std.proofs.Common.{◌≡◌, ◌++◌, ◌∷◌, ◌∙◌, ℕ, List, ap, subst, map, Result, Ok, Err}
use Rattle.std.specs.Fmt.{decimal}
use Rattle.std.specs.Prelude.{OnOk, codes}
use Rattle.ham_text.specs.Numbers.{AreNumbers}
use Rattle.ham_text.specs.Written.{spaced}
use Rattle.ham_records.proofs.Written.{call_written}
use Rattle.ham_syntax.specs.Objects.{method_name}
use Rattle.ham_records.proofs.writer.push_logged.Goals as goal

-- what is so of either result
on_ok : {A E P : Type 0} (r : Result A E) → P → OnOk r P
on_ok (Ok a) p = p
on_ok (Err e) p = tt

pub returns-clause-small : goal.returns-clause-small
returns-clause-small c = on_ok c.push_line_end.result (subst AreNumbers c.items.ensures.value c.in_ok-push_numbers.ensures.small)

pub returns-clause-text : goal.returns-clause-text
returns-clause-text c =
    let e = c.args.logged.now in
    subst (λ (t : List ℕ). OnOk c.push_line_end.result (c.push_line_end.new.text ≡ t))
    (call_written (codes "call") (decimal e.place.lane) (decimal e.place.number) (method_name c.args.object.now e.act.method) (map decimal e.act.args)
    c.args.text.now c.extend.new.self c.push_number.new.text c.push_number-2.new.text c.push_word.new.text c.push_numbers.new.text
    c.in_ok-extend.ensures.ok (c.in_ok-push_number.ensures.text ∙ ap (λ (n : ℕ). c.extend.new.self ++ 32 ∷ decimal n) c.from.ensures)
    (c.in_ok-push_number-2.ensures.text ∙ ap (λ (n : ℕ). c.push_number.new.text ++ 32 ∷ decimal n) c.from-2.ensures)
    (c.in_ok-push_word.ensures ∙ ap (λ (n : List ℕ). c.push_number-2.new.text ++ 32 ∷ n) c.name.ensures)
    (c.in_ok-push_numbers.ensures.text ∙ ap (λ (ns : List ℕ). c.push_word.new.text ++ spaced (map decimal ns)) c.items.ensures.value)) c.push_line_end.ensures

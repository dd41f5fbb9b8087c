use Rattle.std.proofs.Common.{ap, ◌∙◌, map, ◌++◌, [], ◌∷◌, subst}
use Rattle.std.specs.Prelude.{codes}
use Rattle.std.specs.Fmt.{decimal}
use Rattle.ham_text.specs.Numbers.{AreNumbers}
use Rattle.ham_text.specs.Written.{spaced, joined}
use Rattle.ham_text.proofs.Wording.{joined_more}
use Rattle.ham_syntax.specs.Objects.{method_name}
use Rattle.ham_grammar.proofs.printer.issue_line.Goals as goal

pub returns-clause-text : goal.returns-clause-text
returns-clause-text c =
    c.in_ok-push_numbers.ensures.text
    ∙ ap (λ z. z ++ spaced (map decimal c.items.result.now)) (c.in_ok-text.ensures.text ∙ ap (λ name. joined (codes "issue" ∷ decimal c.args.replica ∷ name ∷ [])) c.method_name-name.ensures.text)
    ∙ joined_more (codes "issue") (decimal c.args.replica ∷ method_name c.args.object.now c.args.act.now.method ∷ []) (map decimal c.items.result.now)
    ∙ ap (λ ns. joined (codes "issue" ∷ decimal c.args.replica ∷ method_name c.args.object.now c.args.act.now.method ∷ map decimal ns)) c.items.ensures.value

pub returns-clause-written : goal.returns-clause-written
returns-clause-written c =
    (c.in_ok-text.ensures.small, record { is_named = c.method_name-name.ensures.name; few = c.items.ensures.few; numbers = subst AreNumbers c.items.ensures.value c.in_ok-push_numbers.ensures.small })

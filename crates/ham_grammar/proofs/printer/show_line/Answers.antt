use Rattle.std.proofs.Common.{ap, sym, ◌∙◌, ◌++◌, [], ◌∷◌}
use Rattle.std.specs.Prelude.{codes}
use Rattle.std.specs.Fmt.{decimal}
use Rattle.ham_text.specs.Written.{spaced, joined}
use Rattle.ham_text.proofs.Wording.{joined_more}
use Rattle.ham_lines.specs.Named.{counter_name, key_words, key_written}
use Rattle.ham_grammar.proofs.Printed.{text_same}
use Rattle.ham_grammar.proofs.printer.show_line.Goals as goal

pub returns-in_ok-push_numbers-clause-text : goal.returns-in_ok-push_numbers-clause-text
returns-in_ok-push_numbers-clause-text c =
    let name = counter_name c.args.object.now c.args.counter in
    c.in_ok-push_numbers.ensures.text
    ∙ ap (λ z. z ++ spaced (decimal c.args.key ∷ [])) (c.in_ok-text.ensures.text ∙ ap (λ name. joined (codes "show" ∷ decimal c.args.replica ∷ name ∷ [])) c.counter_name-name.ensures.text)
    ∙ joined_more (codes "show") (decimal c.args.replica ∷ name ∷ []) (decimal c.args.key ∷ [])
    ∙ ap (λ keyed. joined (codes "show" ∷ decimal c.args.replica ∷ name ∷ key_words (key_written keyed c.args.key))) (sym c.if-is_keyed.true ∙ c.is_keyed.ensures)

pub returns-else-is_keyed-clause-text : goal.returns-else-is_keyed-clause-text
returns-else-is_keyed-clause-text c =
    text_same c.named_line-else-is_keyed.result _ _
    (ap (λ name. joined (codes "show" ∷ decimal c.args.replica ∷ name ∷ [])) c.counter_name-name.ensures.text
    ∙ ap (λ keyed. joined (codes "show" ∷ decimal c.args.replica ∷ counter_name c.args.object.now c.args.counter ∷ key_words (key_written keyed c.args.key))) (sym c.if-is_keyed.false ∙ c.is_keyed.ensures))
    c.named_line-else-is_keyed.ensures.text

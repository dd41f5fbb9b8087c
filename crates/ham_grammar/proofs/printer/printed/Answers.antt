use Rattle.std.proofs.Common.{ap, [], ◌∷◌}
use Rattle.std.specs.Prelude.{codes}
use Rattle.std.specs.Fmt.{decimal}
use Rattle.ham_text.specs.Written.{joined}
use Rattle.ham_grammar.specs.declared.line.Line.TheVariants as lines
use Rattle.ham_grammar.specs.Lines.{printed}
use Rattle.ham_grammar.proofs.Printed.{print_spells, always, text_same}
use Rattle.ham_grammar.proofs.printer.printed.Goals as goal

pub returns-in-Replicas-clause-spells : goal.returns-in-Replicas-clause-spells
unfolding printed
returns-in-Replicas-clause-spells c =
    let allowed = rw c.in-Replicas.is at c.requires in
    rw c.in-Replicas.is (print_spells c.args.object.now (lines.Replicas c.in-Replicas.count) c.numbers_line.result allowed (text_same c.numbers_line.result _ _ (ap (λ n. joined (codes "replicas" ∷ decimal n ∷ [])) c.from.ensures) c.numbers_line.ensures.text) (always c.numbers_line.result _ allowed))

pub returns-in-Act-clause-spells : goal.returns-in-Act-clause-spells
unfolding printed
returns-in-Act-clause-spells c =
    let allowed = rw c.in-Act.is at c.requires in
    rw c.in-Act.is (print_spells c.args.object.now (lines.Act c.in-Act.event) c.event_line.result allowed c.event_line.ensures.text c.event_line.ensures.written)

pub returns-in-Ask-clause-spells : goal.returns-in-Ask-clause-spells
unfolding printed
returns-in-Ask-clause-spells c =
    let allowed = rw c.in-Ask.is at c.requires in
    rw c.in-Ask.is (print_spells c.args.object.now (lines.Ask c.in-Ask.query) c.query_line.result allowed c.query_line.ensures.text c.query_line.ensures.written)

use Rattle.std.proofs.Common.{inl, ◌∙◌}
use Rattle.ham_cli.proofs.examples.show.Goals as goal

pub returns-in_ok-text-in-Ok-clause-answer : goal.returns-in_ok-text-in-Ok-clause-answer
returns-in_ok-text-in-Ok-clause-answer c = inl (c.in-Ok.case, c.in-Ok.ensures.answer, (c.done.ensures.exit, c.done.ensures.text ∙ c.in_ok-text-in-Ok.ensures))

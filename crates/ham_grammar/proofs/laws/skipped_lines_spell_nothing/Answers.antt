use Rattle.ham_grammar.proofs.Skipped.{not_skipped}
use Rattle.ham_grammar.proofs.laws.skipped_lines_spell_nothing.Goals as goal

pub returns : goal.returns
returns c = not_skipped

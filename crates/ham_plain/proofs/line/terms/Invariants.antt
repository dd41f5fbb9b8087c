use Rattle.std.proofs.Common.{◌≡◌, []}
use Rattle.std.specs.Prelude.{option_copied}
use Rattle.ham_forms.specs.Words.{term_of}
use Rattle.ham_plain.specs.Reading.{values_from, words_in}
use Rattle.ham_plain.proofs.Parts.{size_in}
use Rattle.ham_plain.proofs.line.terms.Given as goal

abbrev pub invariant-loop-left : goal.invariant-loop-left
invariant-loop-left l = values_from term_of l.terms (words_in (option_copied l.left)) ≡ values_from term_of [] (words_in (option_copied l.fn.text))

abbrev pub decreases-loop-left : goal.decreases-loop-left
decreases-loop-left l = size_in (option_copied l.left)

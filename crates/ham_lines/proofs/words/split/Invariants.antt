use Rattle.std.proofs.Common.{◌≡◌, ◌++◌, length}
use Rattle.ham_text.specs.Cuts.{words_of}
use Rattle.ham_lines.proofs.words.split.Given as goal

abbrev pub invariant-loop-word : goal.invariant-loop-word
invariant-loop-word l = l.words ++ words_of l.left ≡ words_of l.line

abbrev pub decreases-loop-word : goal.decreases-loop-word
decreases-loop-word l = length l.left

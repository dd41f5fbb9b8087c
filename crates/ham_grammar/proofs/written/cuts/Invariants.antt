use Rattle.std.proofs.Common.{◌≤◌, length}
use Rattle.ham_text.specs.Cuts.{words_of}
use Rattle.ham_text.proofs.Several.{Reads}
use Rattle.ham_grammar.proofs.written.cuts.Given as goal

abbrev pub invariant-loop-word : goal.invariant-loop-word
invariant-loop-word l = record {
  few : length l.cuts ≤ 64;
  reads : Reads l.cuts (words_of l.left) (words_of l.line);
}

abbrev pub decreases-loop-word : goal.decreases-loop-word
decreases-loop-word l = length l.left

use Rattle.std.proofs.Common.{◌≡◌, ◌≤◌, length, take}
use Rattle.std.specs.Prelude.{option_copied}
use Rattle.ham_text.proofs.Several.{Reads}
use Rattle.ham_records.specs.Reading.{words_in}
use Rattle.ham_records.proofs.Words.{size_in}
use Rattle.ham_records.proofs.line.arguments.Given as goal

abbrev pub invariant-loop-left : goal.invariant-loop-left
invariant-loop-left l = record {
  room : length l.numbers ≡ 6;
  few : l.count ≤ 6;
  reads : Reads (take l.count l.numbers) (words_in (option_copied l.left)) (words_in (option_copied l.fn.rest));
}

abbrev pub decreases-loop-left : goal.decreases-loop-left
decreases-loop-left l = size_in (option_copied l.left)

use Rattle.std.proofs.Common.{◌≡◌, ℕ, List, length, ◌-◌, true}
use Rattle.std.specs.Prelude.{slice_index}
use Rattle.ham_steps.specs.Pattern.{matches}
use Rattle.ham_content.proofs.Filling.{Made}
use Rattle.ham_content.proofs.search.key_in.Given as goal

abbrev pub invariant-loop-i : goal.invariant-loop-i
invariant-loop-i l = record {
  room : length l.ids ≡ 4;
  said : (x : List ℕ) → matches l.pattern x ≡ true → Made (λ c. slice_index x (c - 1)) l.columns l.ids l.i;
}

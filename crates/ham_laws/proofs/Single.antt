-- The single plan is sound for every meaning.
use Rattle.std.proofs.Common.{refl}
use Rattle.std.proofs.lemmas.Bool.{true≢false}
use Rattle.ham_meaning.specs.Relations.{Meaning}
use Rattle.ham_laws.specs.Executions.{IsSound}
use Rattle.ham_laws.specs.Single.{single}

pub single_sound : (m : Meaning) → IsSound m single
single_sound m = record {
  symmetric = λ f g. refl;
  commute = λ f g h. absurd (true≢false h);
  right = λ f g h. absurd (true≢false h);
  left = λ f g h. absurd (true≢false h);
}

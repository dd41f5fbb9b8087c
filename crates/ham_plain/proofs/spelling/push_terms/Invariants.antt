use Rattle.std.proofs.Common.{◌≡◌, ◌∷◌, ◌++◌, take}
use Rattle.std.specs.List.{flat_map}
use Rattle.ham_plain.specs.Plain.{term_word}
use Rattle.ham_plain.specs.Written.{written_term}
use Rattle.ham_plain.proofs.spelling.push_terms.Given as goal

abbrev pub invariant-loop-term : goal.invariant-loop-term
invariant-loop-term l = l.text ≡ l.fn.text ++ flat_map (λ t. 32 ∷ term_word (written_term l.params t)) (take l.term-index l.terms)

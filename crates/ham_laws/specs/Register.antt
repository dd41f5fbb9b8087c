-- A tiny meaning: a number that acts set.
use Rattle.std.specs.Prelude.{ℕ, ⊤, cond, ◌==◌, [], ◌∷◌}
use Rattle.ham_syntax.specs.declared.act.Place.{Place}
use Rattle.ham_meaning.specs.Relations.{Meaning}
use Rattle.ham_laws.specs.Executions.{Execution}

-- the one method sets the number; nothing is forbidden
abbrev pub register : Meaning
register = record {
  State = ℕ;
  Act = ℕ;
  opening = 0;
  method = λ a. 0;
  update = λ a s. a;
  Permissible = λ s a. ⊤;
  Invariant = λ s. ⊤;
  IsWellFormed = λ s. ⊤;
  Fits = λ a. ⊤;
}

-- where the register is set to 1
abbrev pub first : Place
first = record { lane = 0; number = 1 }

-- where the register is set to 2
abbrev pub second : Place
second = record { lane = 0; number = 2 }

-- replica 1 sets the register to 1, and then to 2
abbrev pub two_settings : Execution Place ℕ
two_settings = record {
  decided = first ∷ second ∷ [];
  act = λ c. c.number;
  lane = λ c. c.lane;
  decider = λ c. 1;
  before = λ c. cond (c.number == 2) (first ∷ []) [];
  log = λ r. cond (r == 1) (first ∷ second ∷ []) [];
}

-- A tiny meaning: a purse with coins, into which one is put, or from which one is taken where there is one.
use Rattle.std.specs.Prelude.{ℕ, ℤ, pos, ◌+ℤ◌, ◌-ℤ◌, ◌≤ℤ◌, ⊤, false, cond, ◌&&◌, ◌==◌, List, [], ◌∷◌}
use Rattle.ham_syntax.specs.declared.act.Place.{Place}
use Rattle.ham_meaning.specs.Relations.{Meaning}
use Rattle.ham_laws.specs.Executions.{Constraints, Execution}

-- the two acts
pub data Coin : Type 0 where
  Put : Coin
  Take : Coin

-- put is method 0, and take is method 1
abbrev pub coin_method : Coin → ℕ
coin_method Put = 0
coin_method Take = 1

-- what an act does to the number of coins
abbrev pub coin_change : Coin → ℤ → ℤ
coin_change Put s = s +ℤ pos 1
coin_change Take s = s -ℤ pos 1

-- the purse never holds less than nothing
abbrev pub purse : Meaning
purse = record {
  State = ℤ;
  Act = Coin;
  opening = pos 0;
  method = coin_method;
  update = coin_change;
  Permissible = λ s a. pos 0 ≤ℤ coin_change a s;
  Invariant = λ s. pos 0 ≤ℤ s;
  IsWellFormed = λ s. ⊤;
  Fits = λ a. ⊤;
}

-- takes alone conflict, and no method depends on another
abbrev pub careless : Constraints
careless = record { conflict = λ f g. (f == 1) && (g == 1); depends = λ f g. false }

-- where the coin is put, in a lane of its own
abbrev pub put_call : Place
put_call = record { lane = 1; number = 1 }

-- where the coin is taken
abbrev pub take_call : Place
take_call = record { lane = 0; number = 1 }

-- replica 1 puts a coin, and then takes it; the others have this log
abbrev pub put_and_take : List Place → Execution Place Coin
put_and_take others = record {
  decided = put_call ∷ take_call ∷ [];
  act = λ c. cond (c.lane == 0) Take Put;
  lane = λ c. c.lane;
  decider = λ c. 1;
  before = λ c. cond (c.lane == 0) (put_call ∷ []) [];
  log = λ r. cond (r == 1) (put_call ∷ take_call ∷ []) others;
}

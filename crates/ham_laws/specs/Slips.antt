-- Where one premise of the laws fails, over the tiny meanings.
--     unordered, apart_settings      acts that don't commute, and no conflict
--     hasty, two_takes               two takes of one coin, by replicas that don't know of each other
use Rattle.std.specs.Prelude.{ℕ, false, cond, ◌&&◌, ◌==◌, [], ◌∷◌}
use Rattle.ham_syntax.specs.declared.act.Place.{Place}
use Rattle.ham_laws.specs.Executions.{Constraints, Execution}
use Rattle.ham_laws.specs.Register.{first, second}
use Rattle.ham_laws.specs.Purse.{Coin, put_call, take_call}
use Rattle.ham_laws.specs.Purse.Coin.{Put, Take}

-- nothing conflicts, and nothing depends
abbrev pub unordered : Constraints
unordered = record { conflict = λ f g. false; depends = λ f g. false }

-- the register is set to 1 at replica 1 and to 2 at replica 2, neither of which knows of the other; then each hears of both
abbrev pub apart_settings : Execution Place ℕ
apart_settings = record {
  decided = first ∷ second ∷ [];
  act = λ c. c.number;
  lane = λ c. c.lane;
  decider = λ c. c.number;
  before = λ c. [];
  log = λ r. cond (r == 1) (first ∷ second ∷ []) (cond (r == 2) (second ∷ first ∷ []) []);
}

-- nothing conflicts, and a take depends on a put
abbrev pub hasty : Constraints
hasty = record { conflict = λ f g. false; depends = λ f g. (f == 1) && (g == 0) }

-- where replica 2 takes a coin
abbrev pub other_take : Place
other_take = record { lane = 2; number = 1 }

-- a coin is put at replica 1; it takes the coin, and so does replica 2, which doesn't know of the other take
abbrev pub two_takes : Execution Place Coin
two_takes = record {
  decided = put_call ∷ take_call ∷ other_take ∷ [];
  act = λ c. cond (c.lane == 1) Put Take;
  lane = λ c. c.lane;
  decider = λ c. cond (c.lane == 2) 2 1;
  before = λ c. cond (c.lane == 1) [] (put_call ∷ []);
  log = λ r. cond (r == 1) (put_call ∷ take_call ∷ other_take ∷ []) (cond (r == 2) (put_call ∷ other_take ∷ take_call ∷ []) []);
}

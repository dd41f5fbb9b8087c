-- The bank: one balance, never below 0, into which amounts are paid and from which they are drawn.
use Rattle.std.specs.Prelude.{ℕ, pos, false, cond, ◌&&◌, ◌==◌, [], ◌∷◌, None, codes}
use Rattle.ham_syntax.specs.declared.act.Act.{Act}
use Rattle.ham_syntax.specs.declared.act.Place.{Place}
use Rattle.ham_syntax.specs.declared.object.Effect.TheVariants.{Add, Subtract}
use Rattle.ham_syntax.specs.declared.object.Invariant.TheVariants.{Low}
use Rattle.ham_syntax.specs.declared.object.Kind.TheVariants.{Amount}
use Rattle.ham_syntax.specs.declared.term.Term.TheVariants.{Param}
use Rattle.ham_syntax.specs.Objects.{Schema}
use Rattle.ham_laws.specs.Executions.{Constraints, Execution}

-- method 0 deposits an amount, and method 1 withdraws one
abbrev pub bank : Schema
bank = record {
  relations = [];
  counters = record { name = codes "balance"; keyed = false } ∷ [];
  invariants = Low 0 (pos 0) ∷ [];
  methods =
      record { name = codes "deposit"; params = record { name = codes "amount"; kind = Amount } ∷ []; guards = []; effects = Add 0 None (Param 0) ∷ [] }
      ∷ record { name = codes "withdraw"; params = record { name = codes "amount"; kind = Amount } ∷ []; guards = []; effects = Subtract 0 None (Param 0) ∷ [] }
      ∷ [];
}

-- withdrawals alone conflict, and a withdrawal depends on deposits
abbrev pub withdrawals : Constraints
withdrawals = record { conflict = λ f g. (f == 1) && (g == 1); depends = λ f g. (f == 1) && (g == 0) }

-- the act that deposits an amount
abbrev pub deposit : ℕ → Act
deposit amount = record { method = 0; args = amount ∷ [] }

-- the act that withdraws an amount
abbrev pub withdraw : ℕ → Act
withdraw amount = record { method = 1; args = amount ∷ [] }

-- a deposit that replica 1 decides, in a lane of its own
abbrev pub salary : Place
salary = record { lane = 1; number = 1 }

-- a withdrawal, which replica 1 decides in the lane of withdrawals
abbrev pub rent : Place
rent = record { lane = 0; number = 1 }

-- a deposit that replica 2 decides, in a lane of its own
abbrev pub gift : Place
gift = record { lane = 2; number = 1 }

-- what stands at a place by its lane
abbrev pub by_lane : {A : Type 0} → A → A → A → Place → A
by_lane at_rent at_salary at_gift c = cond (c.lane == 0) at_rent (cond (c.lane == 1) at_salary at_gift)

-- replica 1 logs the salary, the rent and the gift; replica 2 decides the gift, and then logs the salary and the rent
abbrev pub payments : Execution Place Act
payments = record {
  decided = salary ∷ rent ∷ gift ∷ [];
  act = by_lane (withdraw 3) (deposit 5) (deposit 4);
  lane = λ c. c.lane;
  decider = by_lane 1 1 2;
  before = by_lane (salary ∷ []) [] [];
  log = λ r. cond (r == 1) (salary ∷ rent ∷ gift ∷ []) (cond (r == 2) (gift ∷ salary ∷ rent ∷ []) []);
}

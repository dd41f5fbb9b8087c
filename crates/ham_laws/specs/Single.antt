-- The constraints of one replica that decides everything.
use Rattle.std.specs.Prelude.{true}
use Rattle.ham_laws.specs.Executions.{Constraints}

-- all methods conflict, and each depends on each
abbrev pub single : Constraints
single = record { conflict = λ f g. true; depends = λ f g. true }

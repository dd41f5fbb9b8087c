use Rattle.std.proofs.Common.{◌≡◌, ℕ, ◌<◌, false, length, get_or}
use Rattle.ham_rules.specs.declared.claim.Claim.TheVariants.{Is}
use Rattle.ham_rules.specs.Derivations.{is_derivable}
use Rattle.ham_tables.proofs.deriver.each_sufficient.Given as goal

abbrev pub invariant-loop-m : goal.invariant-loop-m
invariant-loop-m l = record { long : length l.each ≡ 32; known : (q : ℕ) → q < l.m → get_or l.each q false ≡ is_derivable l.object (Is q) }

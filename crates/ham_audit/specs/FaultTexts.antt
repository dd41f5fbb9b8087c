-- How a fault is told.
use Rattle.std.specs.Prelude.{ℕ, List, [], ◌∷◌, ◌++◌, codes}
use Rattle.std.specs.Fmt.{decimal}
use Rattle.ham_syntax.specs.declared.act.Place.{Place}
use Rattle.ham_meaning.specs.declared.outcome.Outcome.{Outcome}
use Rattle.ham_meaning.specs.declared.outcome.Outcome.TheVariants as outcomes
use Rattle.ham_audit.specs.declared.fault.AuditFault.{AuditFault}
use Rattle.ham_audit.specs.declared.fault.AuditFault.TheVariants as faults

-- what is wrong, and where: R.I
abbrev pub told_at : List ℕ → ℕ → ℕ → List ℕ
told_at what r index = what ++ (decimal r ++ 46 ∷ decimal index)

abbrev pub outcome_text : Outcome → List ℕ
outcome_text outcomes.Yes = []
outcome_text (outcomes.Guard g) = codes " guard " ++ decimal g
outcome_text (outcomes.Invariant v) = codes " invariant " ++ decimal v

-- L:K
abbrev pub need_text : Place → List ℕ
need_text c = 32 ∷ (decimal c.lane ++ 58 ∷ decimal c.number)

abbrev pub fault_text : AuditFault → List ℕ
fault_text (faults.BadPlace r index) = told_at (codes "bad place at ") r index
fault_text (faults.Twice r index) = told_at (codes "twice at ") r index
fault_text (faults.NotDecided r index) = told_at (codes "not decided at ") r index
fault_text (faults.Differs r index) = told_at (codes "differs at ") r index
fault_text (faults.Gap r index) = told_at (codes "gap at ") r index
fault_text (faults.Cycle r index) = told_at (codes "cycle at ") r index
fault_text (faults.Impermissible r index outcome) = told_at (codes "impermissible at ") r index ++ outcome_text outcome
fault_text (faults.NeedLate r index need) = told_at (codes "need late at ") r index ++ need_text need
fault_text faults.NoMemory = codes "out of memory"

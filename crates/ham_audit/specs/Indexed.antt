-- Where a place stands first in a log, as the auditor looks it up.
use Rattle.std.specs.Prelude.{◌≡◌, ℕ, ◌+◌, Bool, not, if◌then◌else◌, List, [], ◌∷◌, Option, Some, None}
use Rattle.std.specs.Option.{option_map}
use Rattle.std.specs.Ordering.{nat_cmp, ordering_then}
use Rattle.std.specs.declared.cmp.Ordering.{Ordering}
use Rattle.std.specs.BTreeMap as tree
use Rattle.std.specs.BTreeMap.{BTreeMap}
use Rattle.ham_syntax.specs.declared.act.Act.{Act}
use Rattle.ham_syntax.specs.declared.act.Place.{Place}
use Rattle.ham_turns.specs.Words.{same_place}
use Rattle.ham_records.specs.declared.records.Logged.{Logged}
use Rattle.ham_turns.specs.Refusals.{same_act}
use Rattle.ham_audit.specs.declared.fault.AuditFault.{AuditFault}
use Rattle.ham_audit.specs.declared.fault.AuditFault.TheVariants as faults
use Rattle.ham_audit.specs.Records.{places, stands, act_at}

-- lanes first, then numbers
abbrev pub by_place : ℕ × ℕ → ℕ × ℕ → Ordering
by_place a b = ordering_then (nat_cmp a.0 b.0) (nat_cmp a.1 b.1)

-- the index, from 0, at which the place stands first
abbrev pub first_index : Place → List Place → Option ℕ
first_index c [] = None
first_index c (x ∷ xs) = if same_place x c then Some 0 else option_map (λ i. i + 1) (first_index c xs)

-- what was found stays; else this, where it is meant
abbrev pub kept_or : Option ℕ → Bool → ℕ → Option ℕ
kept_or (Some i) here index = Some i
kept_or None here index = if here then Some index else None

abbrev pub IsIndex : BTreeMap (ℕ × ℕ) ℕ → List Logged → Type 0
IsIndex map log = (c : Place) → tree.get by_place map (c.lane, c.number) ≡ first_index c (places log)

-- the act of the first call of the place, if the log has it
abbrev pub first_act : Place → List Logged → Option Act
first_act c log = if stands c (places log) then Some (act_at c log) else None

-- what is wrong with a call, by the act of the deciding replica's first call of its place
abbrev pub fault_by_act : ℕ → ℕ → Bool → Act → Option Act → Option AuditFault
fault_by_act r index next act None = Some (faults.NotDecided r index)
fault_by_act r index next act (Some decided) =
    if not (same_act act decided) then Some (faults.Differs r index) else if not next then Some (faults.Gap r index) else None

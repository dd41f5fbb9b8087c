-- Slips in the definitions, and what would then be.
use Rattle.std.specs.Prelude.{◌≡◌, ◌⊎◌, true, [], ◌∷◌, length, Some, None}
use Rattle.std.specs.List.{range_with_len}
use Rattle.ham_syntax.specs.declared.act.Act.{Act}
use Rattle.ham_syntax.specs.declared.act.Place.{Place}
use Rattle.ham_syntax.specs.declared.act.Call.{Call}
use Rattle.ham_frame.specs.declared.frame.Ruling.TheVariants as rulings
use Rattle.ham_turns.specs.declared.turn.Delivered.TheVariants as delivered
use Rattle.ham_turns.specs.declared.turn.What.TheVariants as whats
use Rattle.ham_frame.specs.declared.frame.Frame.TheVariants as frames
use Rattle.ham_turns.specs.declared.turn.DeliverRefusal.TheVariants as deliver
use Rattle.ham_plan.specs.Lists.{In}
use Rattle.ham_laws.specs.Executions.{Execution, Needs, IsWellCoordinated, method_of}
use Rattle.ham_turns.specs.Settings.{meaning_by}
use Rattle.ham_runs.specs.Facts.{constraints}
use Rattle.ham_turns.specs.Words.{ReplicaWords, FrameComes, place_of}
use Rattle.ham_turns.specs.Ready.{IsReadyHere}
use Rattle.ham_turns.specs.Refusals.{deliver_refusal}
use Rattle.ham_runs.specs.Runs.{Note, execution_of, log_of, pushed, rulings_of, words_of}
use Rattle.ham_runs.specs.Headline.{decided_numbers}
use Rattle.ham_runs.specs.Story.{setting, paid, told, verdict}
use Rattle.ham_laws.specs.Bank.{bank, withdraw}
use Rattle.ham_turns.specs.Settings.{rules_of}

-- a lane's first call with number 0
abbrev pub numbered_from_0 : Call
numbered_from_0 = record paid { number = 0 }

-- the execution of the first turn, without its decision
abbrev pub undecided : Execution Place Act
undecided = execution_of [] (pushed (log_of []) 2 (place_of paid ∷ []))

-- a replica deposits twice
abbrev pub second : Call
second = record paid { number = 2 }

abbrev pub twice : Execution Place Act
twice = execution_of (record { call = paid; by = 2; before = [] } ∷ record { call = second; by = 2; before = place_of paid ∷ [] } ∷ [])
    (pushed (log_of []) 2 (place_of paid ∷ place_of second ∷ []))

-- needs without the lane
abbrev pub MethodNeeds : Execution Place Act → Place → Place → Type 0
MethodNeeds e c n =
    In n (e.before c) ×
    ((setting.conflict (method_of (meaning_by (rules_of bank)) e n) (method_of (meaning_by (rules_of bank)) e c) ≡ true) ⊎ (setting.depends (method_of (meaning_by (rules_of bank)) e c) (method_of (meaning_by (rules_of bank)) e n) ≡ true))

-- a second request that is ruled before the first
abbrev pub ruled_early : Note
ruled_early = record {
  at = 1;
  took = FrameComes 3 2 (frames.Request 0 2 (withdraw 1));
  answer = whats.Delivered delivered.Fresh;
  ruled = Some (rulings.Invariant 0);
  made = None;
  logged = [];
  sent = record { to = 3; frame = frames.Verdict 0 2 (rulings.Invariant 0) } ∷ [];
}

pub record SlipsShow : Type 0 where
  -- no other replica would ever log it
  pub off_by_one : (w : ReplicaWords) → IsReadyHere setting w numbered_from_0 → ⊥
  -- the drain would begin at a log that is not closed, so no law would say what it leaves
  pub without_the_decision : IsWellCoordinated (meaning_by (rules_of bank)) (constraints setting) undecided → ⊥
  -- the second call would have no needs, though by its number it must wait for the first
  pub without_the_lane : ((n : Place) → MethodNeeds twice (place_of second) n → In n []) × Needs (meaning_by (rules_of bank)) (constraints setting) twice (place_of second) (place_of paid) ×
      ((w : ReplicaWords) → w.log ≡ [] → IsReadyHere setting w second → ⊥)
  -- the numbers decided would not be 1, 2, ..
  pub not_the_next : decided_numbers (ruled_early ∷ []) 1 3 0 ≡ range_with_len 1 (length (rulings_of (ruled_early ∷ []) 1 3 0)) → ⊥
  -- the replica to which the verdict goes would refuse it
  pub another_replica : deliver_refusal (rules_of bank) setting (words_of (rules_of bank) setting told 2) 2 1 verdict ≡ Some (deliver.UnknownRequest 0)

-- A run in which two groups have different leaders: the bank at three replicas, with deposits that conflict, too.
use Rattle.std.specs.Prelude.{true, false, List, [], ◌∷◌, Some}
use Rattle.ham_syntax.specs.declared.act.Call.{Call}
use Rattle.ham_frame.specs.declared.frame.Ruling.TheVariants as rulings
use Rattle.ham_frame.specs.declared.frame.Frame.TheVariants as frames
use Rattle.ham_turns.specs.declared.turn.Issued.TheVariants as issued
use Rattle.ham_turns.specs.declared.turn.Delivered.TheVariants as delivered
use Rattle.ham_turns.specs.declared.turn.What.TheVariants as whats
use Rattle.ham_plan.specs.Plans.{Plan}
use Rattle.ham_laws.specs.Bank.{deposit, withdraw}
use Rattle.ham_turns.specs.Settings.{Setting, setting_of}
use Rattle.ham_turns.specs.Words.{ActComes, FrameComes, place_of}
use Rattle.ham_runs.specs.Runs.{Note}
use Rattle.ham_runs.specs.Next.{Input}
use Rattle.ham_runs.specs.Next.Input.{Issue, Deliver}
use Rattle.ham_runs.specs.Story.{to, plain, decides}

-- replica 1 leads the deposits, and replica 2 the withdrawals
abbrev pub two_led : Plan
two_led = record {
  methods = 2;
  replicas = 3;
  conflict = (true ∷ false ∷ []) ∷ (false ∷ true ∷ []) ∷ [];
  depends = (false ∷ false ∷ []) ∷ (true ∷ false ∷ []) ∷ [];
  least = Some 0 ∷ Some 1 ∷ [];
}

abbrev pub leaders : Setting
leaders = setting_of two_led

-- 1 deposits, and asks 2 for a withdrawal, which comes to 3 before the deposit and waits for it
abbrev pub asked_of_both : List Input
asked_of_both = Issue 1 (deposit 5) ∷ Deliver 2 1 1 ∷ Issue 1 (withdraw 4) ∷ Deliver 2 1 2 ∷ Deliver 3 2 1 ∷ Deliver 3 1 1 ∷ []

-- ---- its notes
abbrev pub first : Call
first = record { lane = 0; number = 1; act = deposit 5; deps = [] }

abbrev pub drawn : Call
drawn = record { lane = 1; number = 1; act = withdraw 4; deps = 1 ∷ [] }

abbrev pub led : List Note
led =
    plain 3 (FrameComes 1 1 (frames.Call first)) (whats.Delivered delivered.Fresh) (place_of first ∷ place_of drawn ∷ []) (to 1 (frames.Ack 0 1) ∷ [])
    ∷ plain 3 (FrameComes 2 1 (frames.Call drawn)) (whats.Delivered delivered.Fresh) [] (to 2 (frames.Ack 1 0) ∷ [])
    ∷ record {
      at = 2;
      took = FrameComes 1 2 (frames.Request 1 1 (withdraw 4));
      answer = whats.Delivered delivered.Fresh;
      ruled = Some (rulings.Applied 1);
      made = Some drawn;
      logged = place_of drawn ∷ [];
      sent = to 1 (frames.Call drawn) ∷ to 3 (frames.Call drawn) ∷ to 1 (frames.Verdict 1 1 (rulings.Applied 1)) ∷ [];
    }
    ∷ plain 1 (ActComes (withdraw 4)) (whats.Issued (issued.Forwarded 1 1)) [] (to 2 (frames.Request 1 1 (withdraw 4)) ∷ [])
    ∷ plain 2 (FrameComes 1 1 (frames.Call first)) (whats.Delivered delivered.Fresh) (place_of first ∷ []) (to 1 (frames.Ack 0 1) ∷ [])
    ∷ decides 1 first (to 2 (frames.Call first) ∷ to 3 (frames.Call first) ∷ []) ∷ []

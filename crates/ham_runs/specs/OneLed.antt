-- A run under the single plan: the bank at three replicas, where replica 1 decides everything.
use Rattle.std.specs.Prelude.{true, List, [], ◌∷◌, Some}
use Rattle.ham_syntax.specs.declared.act.Call.{Call}
use Rattle.ham_frame.specs.declared.frame.Ruling.TheVariants as rulings
use Rattle.ham_frame.specs.declared.frame.Frame.TheVariants as frames
use Rattle.ham_turns.specs.declared.turn.Issued.TheVariants as issued
use Rattle.ham_turns.specs.declared.turn.Delivered.TheVariants as delivered
use Rattle.ham_turns.specs.declared.turn.What.TheVariants as whats
use Rattle.ham_plan.specs.Plans.{Plan}
use Rattle.ham_laws.specs.Bank.{deposit, withdraw}
use Rattle.ham_turns.specs.Settings.{Setting, setting_of}
use Rattle.ham_turns.specs.Words.{ActComes, FrameComes, place_of}
use Rattle.ham_runs.specs.Runs.{Note}
use Rattle.ham_runs.specs.Next.{Input}
use Rattle.ham_runs.specs.Next.Input.{Issue, Deliver}
use Rattle.ham_runs.specs.Story.{to, plain, decides}

-- every two methods conflict, and each depends on each
abbrev pub one_led : Plan
one_led = record {
  methods = 2;
  replicas = 3;
  conflict = (true ∷ true ∷ []) ∷ (true ∷ true ∷ []) ∷ [];
  depends = (true ∷ true ∷ []) ∷ (true ∷ true ∷ []) ∷ [];
  least = Some 0 ∷ Some 0 ∷ [];
}

abbrev pub one_leader : Setting
one_leader = setting_of one_led

-- 1 deposits; 2 hears of it and asks for a withdrawal; 3 hears of the withdrawal before the deposit
abbrev pub asked_of_one : List Input
asked_of_one = Issue 1 (deposit 5) ∷ Deliver 2 1 1 ∷ Issue 2 (withdraw 4) ∷ Deliver 1 2 2 ∷ Deliver 3 1 2 ∷ Deliver 3 1 1 ∷ []

-- ---- its notes
abbrev pub paid : Call
paid = record { lane = 0; number = 1; act = deposit 5; deps = 0 ∷ 0 ∷ [] }

abbrev pub taken : Call
taken = record { lane = 0; number = 2; act = withdraw 4; deps = 1 ∷ 0 ∷ [] }

abbrev pub followed : List Note
followed =
    plain 3 (FrameComes 1 1 (frames.Call paid)) (whats.Delivered delivered.Fresh) (place_of paid ∷ place_of taken ∷ []) (to 1 (frames.Ack 0 2) ∷ [])
    ∷ plain 3 (FrameComes 1 2 (frames.Call taken)) (whats.Delivered delivered.Fresh) [] (to 1 (frames.Ack 0 0) ∷ [])
    ∷ record {
      at = 1;
      took = FrameComes 2 2 (frames.Request 0 1 (withdraw 4));
      answer = whats.Delivered delivered.Fresh;
      ruled = Some (rulings.Applied 2);
      made = Some taken;
      logged = place_of taken ∷ [];
      sent = to 2 (frames.Call taken) ∷ to 3 (frames.Call taken) ∷ to 2 (frames.Verdict 0 1 (rulings.Applied 2)) ∷ [];
    }
    ∷ plain 2 (ActComes (withdraw 4)) (whats.Issued (issued.Forwarded 0 1)) [] (to 1 (frames.Request 0 1 (withdraw 4)) ∷ [])
    ∷ plain 2 (FrameComes 1 1 (frames.Call paid)) (whats.Delivered delivered.Fresh) (place_of paid ∷ []) (to 1 (frames.Ack 0 1) ∷ [])
    ∷ decides 1 paid (to 2 (frames.Call paid) ∷ to 3 (frames.Call paid) ∷ []) ∷ []

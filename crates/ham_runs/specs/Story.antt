-- A run of the bank at three replicas: deposits (method 0) are free, withdrawals (method 1) conflict, and depend on deposits.
use Rattle.std.specs.Prelude.{◌≡◌, ℕ, true, false, List, [], ◌∷◌, Some, None}
use Rattle.ham_syntax.specs.declared.act.Place.{Place}
use Rattle.ham_meaning.specs.declared.outcome.Outcome.TheVariants as outcomes
use Rattle.ham_laws.specs.Bank.{deposit, withdraw}
use Rattle.ham_plan.specs.Plans.{Plan}
use Rattle.ham_syntax.specs.declared.act.Call.{Call}
use Rattle.ham_turns.specs.declared.turn.Out.{Out}
use Rattle.ham_frame.specs.declared.frame.Ruling.TheVariants as rulings
use Rattle.ham_turns.specs.declared.turn.Issued.TheVariants as issued
use Rattle.ham_turns.specs.declared.turn.Delivered.TheVariants as delivered
use Rattle.ham_turns.specs.declared.turn.What.{What}
use Rattle.ham_turns.specs.declared.turn.What.TheVariants as whats
use Rattle.ham_frame.specs.declared.frame.Frame.{Frame}
use Rattle.ham_frame.specs.declared.frame.Frame.TheVariants as frames
use Rattle.ham_turns.specs.Settings.{Rules, Setting, setting_of}
use Rattle.ham_turns.specs.Words.{Intake, ActComes, FrameComes, PartComes, Beat, place_of}
use Rattle.ham_runs.specs.Runs.{Note}
use Rattle.ham_runs.specs.Next.{Input}
use Rattle.ham_runs.specs.Next.Input.{Issue, Deliver, Tear, Tick}

abbrev pub three : Plan
three = record {
  methods = 2;
  replicas = 3;
  conflict = (false ∷ false ∷ []) ∷ (false ∷ true ∷ []) ∷ [];
  depends = (false ∷ false ∷ []) ∷ (true ∷ false ∷ []) ∷ [];
  least = None ∷ Some 1 ∷ [];
}

-- what the story needs of an object: that these acts fit, and the four outcomes that it tells
pub record HasOutcomes (x : Rules) : Type 0 where
  pub room : x.lane_limit ≡ 65536
  pub fits_5 : x.fits (deposit 5) ≡ true
  pub fits_3 : x.fits (withdraw 3) ≡ true
  pub fits_4 : x.fits (withdraw 4) ≡ true
  pub fits_1 : x.fits (withdraw 1) ≡ true
  pub paid_in : x.outcome x.opening (deposit 5) ≡ outcomes.Yes
  pub too_much : x.outcome x.opening (withdraw 3) ≡ outcomes.Invariant 0
  pub covered : x.outcome (x.update (deposit 5) x.opening) (withdraw 4) ≡ outcomes.Yes
  pub still_covered : x.outcome (x.update (withdraw 4) (x.update (deposit 5) x.opening)) (withdraw 1) ≡ outcomes.Yes

abbrev pub setting : Setting
setting = setting_of three

-- Replica 2 deposits; its frame to 3 is lost. 3 asks 1 for a withdrawal, and 1 makes one itself: they conflict. Their calls reach 3 in the other order; the
-- request reaches 1 once more; a frame is torn. A tick of 2 sends its deposit again, and 3 logs all.
abbrev pub story : List Input
story =
    Issue 2 (deposit 5) ∷ Issue 1 (withdraw 3) ∷ Deliver 1 2 1 ∷ Issue 3 (withdraw 4) ∷ Deliver 1 3 1 ∷ Issue 1 (withdraw 1) ∷
    Deliver 3 1 3 ∷ Deliver 3 1 1 ∷ Deliver 1 3 1 ∷ Tear 3 1 2 ∷ Tick 2 ∷ Deliver 3 2 2 ∷ Deliver 3 1 2 ∷ []

-- ---- its notes
abbrev pub paid : Call
paid = record { lane = 2; number = 1; act = deposit 5; deps = [] }

abbrev pub asked : Call
asked = record { lane = 0; number = 1; act = withdraw 4; deps = 0 ∷ 1 ∷ 0 ∷ [] }

abbrev pub own : Call
own = record { lane = 0; number = 2; act = withdraw 1; deps = 0 ∷ 1 ∷ 0 ∷ [] }

abbrev pub to : ℕ → Frame → Out
to q f = record { to = q; frame = f }

abbrev pub verdict : Frame
verdict = frames.Verdict 0 1 (rulings.Applied 1)

-- of a turn that rules on nothing and decides nothing
abbrev pub plain : ℕ → Intake → What → List Place → List Out → Note
plain r took answer logged sent = record { at = r; took = took; answer = answer; ruled = None; made = None; logged = logged; sent = sent }

-- of an issue that is decided here
abbrev pub decides : ℕ → Call → List Out → Note
decides r c sent = record { at = r; took = ActComes c.act; answer = whats.Issued (issued.Applied (place_of c)); ruled = None; made = Some c; logged = place_of c ∷ []; sent = sent }

abbrev pub told : List Note
told =
    plain 3 (FrameComes 1 2 verdict) (whats.Delivered delivered.Noted) [] []
    ∷ plain 3 (FrameComes 2 2 (frames.Call paid)) (whats.Delivered delivered.Fresh) (place_of paid ∷ place_of asked ∷ place_of own ∷ []) (to 2 (frames.Ack 2 1) ∷ [])
    ∷ plain 2 Beat whats.Ticked [] (to 1 (frames.Call paid) ∷ to 3 (frames.Call paid) ∷ [])
    ∷ plain 3 (PartComes 1 2 verdict) whats.Torn [] []
    ∷ plain 1 (FrameComes 3 1 (frames.Request 0 1 (withdraw 4))) (whats.Delivered delivered.Repeat) [] (to 3 verdict ∷ [])
    ∷ plain 3 (FrameComes 1 1 (frames.Call asked)) (whats.Delivered delivered.Fresh) [] (to 1 (frames.Ack 0 0) ∷ [])
    ∷ plain 3 (FrameComes 1 3 (frames.Call own)) (whats.Delivered delivered.Fresh) [] (to 1 (frames.Ack 0 0) ∷ [])
    ∷ decides 1 own (to 2 (frames.Call own) ∷ to 3 (frames.Call own) ∷ [])
    ∷ record {
      at = 1;
      took = FrameComes 3 1 (frames.Request 0 1 (withdraw 4));
      answer = whats.Delivered delivered.Fresh;
      ruled = Some (rulings.Applied 1);
      made = Some asked;
      logged = place_of asked ∷ [];
      sent = to 2 (frames.Call asked) ∷ to 3 (frames.Call asked) ∷ to 3 verdict ∷ [];
    }
    ∷ plain 3 (ActComes (withdraw 4)) (whats.Issued (issued.Forwarded 0 1)) [] (to 1 (frames.Request 0 1 (withdraw 4)) ∷ [])
    ∷ plain 1 (FrameComes 2 1 (frames.Call paid)) (whats.Delivered delivered.Fresh) (place_of paid ∷ []) (to 2 (frames.Ack 2 1) ∷ [])
    ∷ plain 1 (ActComes (withdraw 3)) (whats.Issued (issued.Impermissible (outcomes.Invariant 0))) [] []
    ∷ decides 2 paid (to 1 (frames.Call paid) ∷ to 3 (frames.Call paid) ∷ []) ∷ []

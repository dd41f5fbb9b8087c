-- A run as a function of its inputs.
--     note_by, next_note     what is noted of a turn with these calls drained, and with those that the computed drain gives
--     Input, inputs          what is asked of the replicas; what was asked in a run
--     run_of                 the run of a list of inputs
use Rattle.std.specs.Prelude.{ℕ, zero, suc, ◌+◌, Bool, true, not, ◌&&◌, ◌==◌, nat_lt, nat_le, if◌then◌else◌, List, [], ◌∷◌, ◌++◌, fold, length, Option, Some, None, is_some, count_by}
use Rattle.ham_syntax.specs.declared.act.Act.{Act}
use Rattle.ham_syntax.specs.declared.act.Call.{Call}
use Rattle.ham_frame.specs.declared.frame.Frame.{Frame}
use Rattle.ham_turns.specs.Settings.{Rules, Setting}
use Rattle.ham_turns.specs.Words.{ReplicaWords, Intake, ActComes, FrameComes, PartComes, Beat, in_lane, numbered}
use Rattle.ham_turns.specs.Work.{answer_of, ruled_of, made_of, logged_one, place_made, call_in, own_work}
use Rattle.ham_turns.specs.Sends.{sent_by}
use Rattle.ham_turns.specs.Refusals.{issue_refusal}
use Rattle.ham_runs.specs.Runs.{Note, words_of, on_link, arrived, places}

-- what is noted of a turn in which these calls are drained
abbrev pub note_by : Rules → Setting → ReplicaWords → ℕ → Intake → List Call → Note
note_by x y w r took calls = record {
  at = r;
  took = took;
  answer = answer_of x y w r took;
  ruled = ruled_of x w took;
  made = made_of x y w r took;
  logged = place_made (made_of x y w r took) ++ places calls;
  sent = sent_by y w r took (answer_of x y w r took) (ruled_of x w took) (made_of x y w r took) (w.log ++ (place_made (made_of x y w r took) ++ places calls));
}

-- what is asked of a replica: an act, the so many-th frame of a link, a part of it, or a tick
pub data Input : Type 0 where
  Issue : ℕ → Act → Input
  Deliver : (to from which : ℕ) → Input
  Tear : (to from which : ℕ) → Input
  Tick : ℕ → Input

-- the replica that is asked
abbrev pub at_of : Input → ℕ
at_of (Issue r a) = r
at_of (Deliver to from k) = to
at_of (Tear to from k) = to
at_of (Tick r) = r

-- no frame of that number was sent: nothing is taken in
abbrev pub found : (Frame → Intake) → Option Frame → Option Intake
found make None = None
found make (Some f) = Some (make f)

-- what the replica takes in then
abbrev pub intake_of : List Note → Input → Option Intake
intake_of notes (Issue r a) = Some (ActComes a)
intake_of notes (Deliver to from k) = found (FrameComes from k) (numbered (on_link notes from to) k)
intake_of notes (Tear to from k) = found (PartComes from k) (numbered (on_link notes from to) k)
intake_of notes (Tick r) = Some Beat

abbrev pub is_replica : Setting → ℕ → Bool
is_replica y r = nat_lt 0 r && nat_le r y.replicas

-- the input that is noted as this
abbrev pub input_of : ℕ → Intake → Input
input_of r (ActComes a) = Issue r a
input_of r (FrameComes from k f) = Deliver r from k
input_of r (PartComes from k f) = Tear r from k
input_of r Beat = Tick r

-- the inputs of a run, the oldest first
abbrev pub inputs : List Note → List Input
inputs [] = []
inputs (n ∷ earlier) = inputs earlier ++ input_of n.at n.took ∷ []

-- ---- the drain, computed, and the run of inputs

-- tests of what is ready
abbrev pub within_test : ReplicaWords → List ℕ → List ℕ → Bool
within_test w [] slots = true
within_test w (n ∷ deps) [] = true
within_test w (n ∷ deps) (s ∷ slots) = nat_le n (w.count_of s) && within_test w deps slots

abbrev pub ready_test : Setting → ReplicaWords → Call → Bool
ready_test y w c = nat_lt c.lane y.lanes && ((c.number == count_by (in_lane c.lane) w.log + 1) && within_test w c.deps (y.needs c.act.method))

-- the one of the lesser lane
abbrev pub lesser : Call → Option Call → Call
lesser c None = c
lesser c (Some d) = if nat_lt d.lane c.lane then d else c

abbrev pub least_ready : Setting → ReplicaWords → List Call → Option Call
least_ready y w [] = None
least_ready y w (c ∷ rest) = if ready_test y w c then Some (lesser c (least_ready y w rest)) else least_ready y w rest

abbrev pub drained_from : Rules → Setting → (ReplicaWords → List Call) → ReplicaWords → Option Call → List Call
drained_from x y more w None = []
drained_from x y more w (Some c) = c ∷ more (logged_one x y w c)

-- at most so many of these calls, each the ready one of the least lane
abbrev pub drained_by : Rules → Setting → ℕ → ReplicaWords → List Call → List Call
drained_by x y zero w calls = []
drained_by x y (suc n) w calls = drained_from x y (λ v. drained_by x y n v calls) w (least_ready y w calls)

-- what is noted next of a replica that takes this in
abbrev pub next_note : Rules → Setting → List Note → ℕ → Intake → Note
next_note x y notes r took =
    note_by x y (words_of x y notes r) r took
    (drained_by x y (length (arrived notes r ++ call_in took)) (own_work x y (words_of x y notes r) r took) (arrived notes r ++ call_in took))

abbrev pub may_take : Rules → Setting → List Note → ℕ → Intake → Bool
may_take x y notes r (ActComes a) = not (is_some (issue_refusal x y (words_of x y notes r) r a))
may_take x y notes r (FrameComes from k f) = true
may_take x y notes r (PartComes from k f) = true
may_take x y notes r Beat = true

abbrev pub taken_as : Rules → Setting → List Note → ℕ → Option Intake → List Note
taken_as x y notes r None = notes
taken_as x y notes r (Some took) = if is_replica y r && may_take x y notes r took then next_note x y notes r took ∷ notes else notes

-- the run after one input more; an input that is not allowed leaves it
abbrev pub after_input : Rules → Setting → List Note → Input → List Note
after_input x y notes i = taken_as x y notes (at_of i) (intake_of notes i)

-- the run of these inputs, the oldest first
unfoldable pub run_of : Rules → Setting → List Input → List Note
run_of x y inputs = fold (after_input x y) [] inputs

-- The table of turns: its answers, what it rules on a request, the call that it decides, and the words after its own work.
--     answer_of, ruled_of, made_of     what is answered, ruled and decided
--     own_work                         the words then
-- Cases are written out by every constructor, so that each row computes.
use Rattle.std.specs.Prelude.{ℕ, ◌+◌, max, ◌&&◌, ◌==◌, nat_lt, if◌then◌else◌, List, [], ◌∷◌, ◌++◌, map, length, Option, Some, None, is_some}
use Rattle.ham_syntax.specs.declared.act.Act.{Act}
use Rattle.ham_syntax.specs.declared.act.Place.{Place}
use Rattle.ham_syntax.specs.declared.act.Call.{Call}
use Rattle.ham_meaning.specs.declared.outcome.Outcome.{Outcome}
use Rattle.ham_meaning.specs.declared.outcome.Outcome.TheVariants as outcomes
use Rattle.ham_frame.specs.declared.frame.Ruling.{Ruling}
use Rattle.ham_frame.specs.declared.frame.Ruling.TheVariants as rulings
use Rattle.ham_frame.specs.declared.frame.Ruled.{Ruled}
use Rattle.ham_frame.specs.declared.frame.Frame.{Frame}
use Rattle.ham_frame.specs.declared.frame.Frame.TheVariants as frames
use Rattle.ham_turns.specs.declared.turn.Issued.{Issued}
use Rattle.ham_turns.specs.declared.turn.Issued.TheVariants as issued
use Rattle.ham_turns.specs.declared.turn.Delivered.TheVariants.{Fresh, Repeat, Noted, Early}
use Rattle.ham_turns.specs.declared.turn.What.{What}
use Rattle.ham_turns.specs.declared.turn.What.TheVariants as whats
use Rattle.ham_turns.specs.Settings.{Rules, Setting}
use Rattle.ham_turns.specs.Words.{ReplicaWords, Intake, ActComes, FrameComes, PartComes, Beat, place_of, same_place, in_lane}

-- ---- what is decided

-- the lane of an act that r issues
abbrev pub lane_here : Setting → ℕ → Act → ℕ
lane_here y r a = y.lane a.method r

-- the call that an act becomes in a lane that is decided here
abbrev pub new_call : Setting → ReplicaWords → ℕ → Act → Call
new_call y w lane a = record { lane = lane; number = length (w.decided lane) + 1; act = a; deps = map w.count_of (y.needs a.method) }

-- the ruling by an outcome; the call would have this number
abbrev pub ruling_by : ℕ → Outcome → Ruling
ruling_by number outcomes.Yes = rulings.Applied number
ruling_by number (outcomes.Guard g) = rulings.Guard g
ruling_by number (outcomes.Invariant v) = rulings.Invariant v

-- what is ruled on an act in a lane that is decided here
abbrev pub ruling_of : Rules → ReplicaWords → ℕ → Act → Ruling
ruling_of x w lane a = if nat_lt (length (w.decided lane)) x.lane_limit then ruling_by (length (w.decided lane) + 1) (x.outcome w.state a) else rulings.Full

-- the answer to an act that is decided here; its call would have this place
abbrev pub issued_by : Place → Outcome → Issued
issued_by place outcomes.Yes = issued.Applied place
issued_by place (outcomes.Guard g) = issued.Impermissible (outcomes.Guard g)
issued_by place (outcomes.Invariant v) = issued.Impermissible (outcomes.Invariant v)

-- ---- answers

abbrev pub answer_to : ReplicaWords → ℕ → Frame → What
answer_to w from (frames.Call c) = whats.Delivered (if is_some (w.kept (place_of c)) then Repeat else Fresh)
answer_to w from (frames.Ack lane count) = whats.Delivered Noted
answer_to w from (frames.Request g n a) =
    whats.Delivered (if nat_lt n (length (w.rulings from g) + 1) then Repeat else if nat_lt (length (w.rulings from g) + 1) n then Early else Fresh)
answer_to w from (frames.Verdict g n v) = whats.Delivered (if is_some (w.verdict g n) then Repeat else Noted)
answer_to w from (frames.Hello version digest sender of) = whats.Delivered Noted
answer_to w from frames.Bye = whats.Delivered Noted

abbrev pub answer_of : Rules → Setting → ReplicaWords → ℕ → Intake → What
answer_of x y w r (ActComes a) = whats.Issued
    (if y.decider (lane_here y r a) == r
    then issued_by (place_of (new_call y w (lane_here y r a) a)) (x.outcome w.state a)
    else issued.Forwarded (lane_here y r a) (length (w.requests (lane_here y r a)) + 1))
answer_of x y w r (FrameComes from k f) = answer_to w from f
answer_of x y w r (PartComes from k f) = whats.Torn
answer_of x y w r Beat = whats.Ticked

-- the ruling on a request that is the next of its sender and group
abbrev pub ruled_to : Rules → ReplicaWords → ℕ → Frame → Option Ruling
ruled_to x w from (frames.Request g n a) = if n == length (w.rulings from g) + 1 then Some (ruling_of x w g a) else None
ruled_to x w from (frames.Call c) = None
ruled_to x w from (frames.Ack lane count) = None
ruled_to x w from (frames.Verdict g n v) = None
ruled_to x w from (frames.Hello version digest sender of) = None
ruled_to x w from frames.Bye = None

abbrev pub ruled_of : Rules → ReplicaWords → Intake → Option Ruling
ruled_of x w (FrameComes from k f) = ruled_to x w from f
ruled_of x w (ActComes a) = None
ruled_of x w (PartComes from k f) = None
ruled_of x w Beat = None

-- ---- the call that the turn decides

abbrev pub made_issued : Call → Issued → Option Call
made_issued c (issued.Applied place) = Some c
made_issued c (issued.Forwarded g n) = None
made_issued c (issued.Impermissible u) = None

abbrev pub made_ruled : Call → Option Ruling → Option Call
made_ruled c (Some (rulings.Applied n)) = Some c
made_ruled c (Some (rulings.Guard g)) = None
made_ruled c (Some (rulings.Invariant v)) = None
made_ruled c (Some rulings.Full) = None
made_ruled c None = None

abbrev pub made_to : Setting → ReplicaWords → Frame → Option Ruling → Option Call
made_to y w (frames.Request g n a) ruled = made_ruled (new_call y w g a) ruled
made_to y w (frames.Call c) ruled = None
made_to y w (frames.Ack lane count) ruled = None
made_to y w (frames.Verdict g n v) ruled = None
made_to y w (frames.Hello version digest sender of) ruled = None
made_to y w frames.Bye ruled = None

abbrev pub made_by : Setting → ReplicaWords → ℕ → Intake → What → Option Ruling → Option Call
made_by y w r (ActComes a) (whats.Issued i) ruled = made_issued (new_call y w (lane_here y r a) a) i
made_by y w r (ActComes a) (whats.Delivered d) ruled = None
made_by y w r (ActComes a) whats.Torn ruled = None
made_by y w r (ActComes a) whats.Ticked ruled = None
made_by y w r (FrameComes from k f) answer ruled = made_to y w f ruled
made_by y w r (PartComes from k f) answer ruled = None
made_by y w r Beat answer ruled = None

abbrev pub made_of : Rules → Setting → ReplicaWords → ℕ → Intake → Option Call
made_of x y w r took = made_by y w r took (answer_of x y w r took) (ruled_of x w took)

-- ---- what a turn takes in

abbrev pub call_to : Frame → List Call
call_to (frames.Call c) = c ∷ []
call_to (frames.Ack lane count) = []
call_to (frames.Request g n a) = []
call_to (frames.Verdict g n v) = []
call_to (frames.Hello version digest sender of) = []
call_to frames.Bye = []

abbrev pub call_in : Intake → List Call
call_in (FrameComes from k f) = call_to f
call_in (ActComes a) = []
call_in (PartComes from k f) = []
call_in Beat = []

abbrev pub at_place : List Call → Place → Option Call
at_place [] p = None
at_place (c ∷ rest) p = if same_place (place_of c) p then Some c else at_place rest p

abbrev pub place_made : Option Call → List Place
place_made None = []
place_made (Some c) = place_of c ∷ []

-- one call is logged and applied
abbrev pub logged_one : Rules → Setting → ReplicaWords → Call → ReplicaWords
logged_one x y w c = record w {
  state = x.update c.act w.state;
  log = w.log ++ place_of c ∷ [];
  count_of = λ s. if y.slot c.act.method (y.decider c.lane) == s then w.count_of s + 1 else w.count_of s;
}

-- ---- what a turn adds to the words

abbrev pub asked_by : ℕ → Act → What → List Act
asked_by g a (whats.Issued (issued.Forwarded h n)) = if h == g then a ∷ [] else []
asked_by g a (whats.Issued (issued.Applied place)) = []
asked_by g a (whats.Issued (issued.Impermissible u)) = []
asked_by g a (whats.Delivered d) = []
asked_by g a whats.Torn = []
asked_by g a whats.Ticked = []

abbrev pub request_in : ℕ → Intake → What → List Act
request_in g (ActComes a) answer = asked_by g a answer
request_in g (FrameComes from k f) answer = []
request_in g (PartComes from k f) answer = []
request_in g Beat answer = []

abbrev pub ruled_as : Act → Option Ruling → List Ruled
ruled_as a None = []
ruled_as a (Some v) = record { act = a; ruling = v } ∷ []

abbrev pub ruling_to : ℕ → ℕ → ℕ → Frame → Option Ruling → List Ruled
ruling_to from g q (frames.Request h n a) ruled = if (q == from) && (h == g) then ruled_as a ruled else []
ruling_to from g q (frames.Call c) ruled = []
ruling_to from g q (frames.Ack lane count) ruled = []
ruling_to from g q (frames.Verdict h n v) ruled = []
ruling_to from g q (frames.Hello version digest sender of) ruled = []
ruling_to from g q frames.Bye ruled = []

abbrev pub ruling_in : ℕ → ℕ → Intake → Option Ruling → List Ruled
ruling_in from g (FrameComes q k f) ruled = ruling_to from g q f ruled
ruling_in from g (ActComes a) ruled = []
ruling_in from g (PartComes q k f) ruled = []
ruling_in from g Beat ruled = []

abbrev pub verdict_to : ℕ → ℕ → Frame → Option Ruling
verdict_to g n (frames.Verdict h m v) = if (h == g) && (m == n) then Some v else None
verdict_to g n (frames.Call c) = None
verdict_to g n (frames.Ack lane count) = None
verdict_to g n (frames.Request h m a) = None
verdict_to g n (frames.Hello version digest sender of) = None
verdict_to g n frames.Bye = None

abbrev pub verdict_in : ℕ → ℕ → Intake → Option Ruling
verdict_in g n (FrameComes q k f) = verdict_to g n f
verdict_in g n (ActComes a) = None
verdict_in g n (PartComes q k f) = None
verdict_in g n Beat = None

abbrev pub first_of_two : {X : Type 0} → Option X → Option X → Option X
first_of_two (Some x) other = Some x
first_of_two None other = other

abbrev pub ack_to : ℕ → ℕ → ℕ → Frame → ℕ
ack_to lane peer q (frames.Ack l n) = if (q == peer) && (l == lane) then n else 0
ack_to lane peer q (frames.Call c) = 0
ack_to lane peer q (frames.Request h m a) = 0
ack_to lane peer q (frames.Verdict h n v) = 0
ack_to lane peer q (frames.Hello version digest sender of) = 0
ack_to lane peer q frames.Bye = 0

abbrev pub ack_in : ℕ → ℕ → Intake → ℕ
ack_in lane peer (FrameComes q k f) = ack_to lane peer q f
ack_in lane peer (ActComes a) = 0
ack_in lane peer (PartComes q k f) = 0
ack_in lane peer Beat = 0

-- the calls decided in a lane, with the new one
abbrev pub decided_after : ℕ → List Call → Option Call → List Call
decided_after lane calls None = calls
decided_after lane calls (Some c) = if in_lane lane (place_of c) then calls ++ c ∷ [] else calls

abbrev pub logged_made : Rules → Setting → ReplicaWords → Option Call → ReplicaWords
logged_made x y w None = w
logged_made x y w (Some c) = logged_one x y w c

-- what was taken in is kept
abbrev pub taken : ReplicaWords → Intake → What → Option Ruling → Option Call → ReplicaWords
taken w took answer ruled made = record w {
  decided = λ lane. decided_after lane (w.decided lane) made;
  kept = λ p. first_of_two (w.kept p) (at_place (call_in took) p);
  requests = λ g. w.requests g ++ request_in g took answer;
  verdict = λ g n. first_of_two (w.verdict g n) (verdict_in g n took);
  rulings = λ from g. w.rulings from g ++ ruling_in from g took ruled;
  acked = λ lane peer. max (w.acked lane peer) (ack_in lane peer took);
}

-- the words after a turn's own work
abbrev pub own_work : Rules → Setting → ReplicaWords → ℕ → Intake → ReplicaWords
own_work x y w r took = logged_made x y (taken w took (answer_of x y w r took) (ruled_of x w took) (made_of x y w r took)) (made_of x y w r took)

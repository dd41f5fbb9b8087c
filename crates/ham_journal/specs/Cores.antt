-- What a node keeps, what an input's work leaves and replies, and the core after a journal.
--     Core                     a replica's words, the frames that wait for each peer, and whether the node was stopped
--     recorded                 the calls of the log
--     step                     an input's work on a settled core, in which so many calls are logged
--     entered                  what an entry leaves and replies
--     history                  the core after a journal
use Rattle.std.specs.Prelude.{ℕ, zero, suc, ◌-◌, Bool, true, false, ◌==◌, nat_lt, nat_le, if◌then◌else◌, List, [], ◌∷◌, ◌++◌, fold, take, drop, set, length, get_or, Option, Some, None, option_map, option_and_then, count_by, filter_map}
use Rattle.ham_syntax.specs.declared.act.Act.{Act}
use Rattle.ham_syntax.specs.declared.act.Call.{Call}
use Rattle.ham_syntax.specs.declared.act.Place.{Place}
use Rattle.ham_state.specs.Content.{value, rows}
use Rattle.ham_frame.specs.declared.frame.Frame.{Frame}
use Rattle.ham_frame.specs.declared.frame.Ruling.{Ruling}
use Rattle.ham_resend.specs.declared.asks.Asked.{Asked}
use Rattle.ham_resend.specs.declared.asks.Asked.TheVariants.{Unknown}
use Rattle.ham_resend.specs.Asking.{asked_with}
use Rattle.ham_turns.specs.declared.turn.Out.{Out}
use Rattle.ham_turns.specs.declared.turn.What.{What}
use Rattle.ham_turns.specs.declared.turn.What.TheVariants as whats
use Rattle.ham_turns.specs.declared.turn.IssueRefusal.{IssueRefusal}
use Rattle.ham_turns.specs.declared.turn.DeliverRefusal.{DeliverRefusal}
use Rattle.ham_turns.specs.Settings.{Rules, Setting}
use Rattle.ham_turns.specs.Words.{ReplicaWords, Intake, ActComes, FrameComes, Beat, numbered, in_lane}
use Rattle.ham_turns.specs.Work.{answer_of, ruled_of, made_of, place_made, own_work, first_of_two}
use Rattle.ham_turns.specs.Sends.{sent_by}
use Rattle.ham_turns.specs.Refusals.{issue_refusal, deliver_refusal}
use Rattle.ham_journal.specs.declared.limits.TheConstants.{MAX_WAITING, MAX_COLLECTED}
use Rattle.ham_journal.specs.declared.input.Input.{Input}
use Rattle.ham_journal.specs.declared.input.Input.TheVariants as inputs
use Rattle.ham_journal.specs.declared.input.Reply.{Reply}
use Rattle.ham_journal.specs.declared.input.Reply.TheVariants as replies
use Rattle.ham_journal.specs.declared.entry.Mark.{Mark}
use Rattle.ham_journal.specs.declared.entry.Mark.TheVariants as marks
use Rattle.ham_journal.specs.declared.entry.Entry.{Entry}
use Rattle.ham_journal.specs.Drains.{is_settled, drained}

pub record Core : Type 0 where
  pub words : ReplicaWords
  -- the frames that wait to be collected, for each replica from 1
  pub boxes : List (List Frame)
  pub stopped : Bool

-- ---- boxes

-- an item waits too, where there is room
abbrev pub with_room : {X : Type 0} → List X → X → List X
with_room box x = if nat_lt (length box) MAX_WAITING then box ++ x ∷ [] else box

-- the frames that wait for a peer
abbrev pub box_of : {X : Type 0} → List (List X) → ℕ → List X
box_of boxes peer = get_or boxes (peer - 1) []

-- a frame is sent
abbrev pub boxed : List (List Frame) → Out → List (List Frame)
boxed boxes o = set boxes (o.to - 1) (with_room (box_of boxes o.to) o.frame)

-- ---- an input's work

pub record Answered : Type 0 where
  pub core : Core
  pub reply : Reply

-- what logs nothing
abbrev pub told : Core → Reply → ℕ → Option Answered
told k reply n = if n == 0 then Some (record { core = k; reply = reply }) else None

-- what a turn sends, where the log is then this one
abbrev pub sent_in : Rules → Setting → ℕ → ReplicaWords → Intake → List Place → List Out
sent_in x y me w took log = sent_by y w me took (answer_of x y w me took) (ruled_of x w took) (made_of x y w me took) log

-- how a turn is told: its answer, the calls that it logged, and how many frames it sent
abbrev pub reply_of : What → List Place → ℕ → Reply
reply_of (whats.Issued i) logged sent = replies.Issued i logged
reply_of (whats.Delivered d) logged sent = replies.Delivered d logged
reply_of whats.Torn logged sent = replies.NoMemory
reply_of whats.Ticked logged sent = replies.Ticked sent

-- what a turn leaves and replies, where the words are then these
abbrev pub turn_to : Rules → Setting → ℕ → Core → Intake → ReplicaWords → Answered
turn_to x y me k took w = record {
  core = record { words = w; boxes = fold boxed k.boxes (sent_in x y me k.words took w.log); stopped = k.stopped };
  reply = reply_of (answer_of x y k.words me took) (drop (length k.words.log) w.log) (length (sent_in x y me k.words took w.log));
}

-- a turn in which n calls are logged, the one that it decides among them
abbrev pub turn : Rules → Setting → ℕ → Core → Intake → ℕ → Option Answered
turn x y me k took n =
    if nat_le (length (place_made (made_of x y k.words me took))) n
    then option_map (turn_to x y me k took) (drained x y (n - length (place_made (made_of x y k.words me took))) (own_work x y k.words me took))
    else None

-- an act that isn't refused makes a turn
abbrev pub issued : Rules → Setting → ℕ → Core → Act → ℕ → Option IssueRefusal → Option Answered
issued x y me k a n None = turn x y me k (ActComes a) n
issued x y me k a n (Some why) = told k (replies.NotIssued why) n

-- The same of a frame. Which frame of its link it is no word of the table reads.
abbrev pub delivered : Rules → Setting → ℕ → Core → ℕ → Frame → ℕ → Option DeliverRefusal → Option Answered
delivered x y me k from f n None = turn x y me k (FrameComes from 0 f) n
delivered x y me k from f n (Some why) = told k (replies.NotDelivered why) n

-- the first frames that wait for a peer are taken
abbrev pub collected : Core → ℕ → Core
collected k peer = record k { boxes = set k.boxes (peer - 1) (drop MAX_COLLECTED (box_of k.boxes peer)) }

-- what is known of a request, and of its verdict
abbrev pub asked_at : Option Act → Option Ruling → Asked
asked_at None verdict = Unknown
asked_at (Some a) verdict = asked_with verdict

abbrev pub asked_in : ReplicaWords → ℕ → ℕ → Asked
asked_in w g n = asked_at (numbered (w.requests g) n) (w.verdict g n)

-- how many calls of each lane below n are in a log
abbrev pub lane_counts : List Place → ℕ → List ℕ
lane_counts log zero = []
lane_counts log (suc n) = lane_counts log n ++ count_by (in_lane n) log ∷ []

-- the call of a place: decided here, or brought by a frame
abbrev pub call_had : ReplicaWords → Place → Option Call
call_had w p = first_of_two (numbered (w.decided p.lane) p.number) (w.kept p)

-- the calls of the log, in its order
abbrev pub recorded : ReplicaWords → List Call
recorded w = filter_map (call_had w) w.log

-- an input's work on a settled core; the look-ups leave the core
abbrev pub step : Rules → Setting → ℕ → Core → Input → ℕ → Option Answered
step x y me k (inputs.Issue a) n = issued x y me k a n (issue_refusal x y k.words me a)
step x y me k (inputs.Deliver from f) n = delivered x y me k from f n (deliver_refusal x y k.words me from f)
step x y me k inputs.Tick n = turn x y me k Beat n
step x y me k (inputs.Collect peer) n = told (collected k peer) (replies.Collected (take MAX_COLLECTED (box_of k.boxes peer))) n
step x y me k (inputs.Show counter key) n = told k (replies.Value (value k.words.state counter key)) n
step x y me k (inputs.Rows relation) n = told k (replies.Rows (rows k.words.state relation)) n
step x y me k (inputs.Verdict group number) n = told k (replies.Asked (asked_in k.words group number)) n
step x y me k inputs.Log n = told k (replies.Log k.words.log) n
step x y me k inputs.Counts n = told k (replies.Counts (lane_counts k.words.log y.lanes)) n
step x y me k inputs.Record n = told k (replies.Recorded (recorded k.words)) n
step x y me k inputs.Stop n = told (record k { stopped = true }) replies.Stopping n

-- ---- entries

-- the mark says whether nothing more is ready
abbrev pub where_settled : Setting → Bool → Answered → Option Answered
where_settled y true a = if is_settled y a.core.words then Some a else None
where_settled y false a = if is_settled y a.core.words then None else Some a

-- without memory the input does no work
abbrev pub by_mark : Rules → Setting → ℕ → Core → Input → ℕ → Mark → Option Answered
by_mark x y me k input n marks.NoMemory = told k replies.NoMemory n
by_mark x y me k input n marks.Done = if is_settled y k.words then option_and_then (where_settled y true) (step x y me k input n) else None
by_mark x y me k input n marks.Unsettled = if is_settled y k.words then option_and_then (where_settled y false) (step x y me k input n) else None

-- what an entry leaves and replies, where the list may go on with it: the node wasn't stopped, and first it settled
abbrev pub entered : Rules → Setting → ℕ → Core → Entry → Option Answered
entered x y me k e =
    if k.stopped then None
    else option_and_then (λ w. by_mark x y me (record k { words = w }) e.input e.logged e.mark) (drained x y e.before k.words)

-- the core after one entry more
abbrev pub core_after : Rules → Setting → ℕ → Option Core → Entry → Option Core
core_after x y me k e = option_and_then (λ c. option_map (λ a. a.core) (entered x y me c e)) k

-- the core after a journal, where the list is one
unfoldable pub history : Rules → Setting → ℕ → Core → List Entry → Option Core
history x y me k es = fold (core_after x y me) (Some k) es

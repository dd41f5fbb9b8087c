-- The text of the one run of a schedule: a fold over its lines.
--     line_outcome       what a line comes to: a refusal, or its answers and the notes after it
--     played        what a schedule comes to, in the setting of the number of replicas that its first line names
use Rattle.std.specs.Prelude.{ℕ, ◌+◌, Bool, true, false, ◌&&◌, if◌then◌else◌, List, [], ◌∷◌, ◌++◌, map, drop, length, reverse, Option, Some, None, Result, Ok, Err, codes}
use Rattle.std.specs.List.{flat_map}
use Rattle.std.specs.Fmt.{decimal}
use Rattle.ham_text.specs.Cuts.{lines_of}
use Rattle.ham_syntax.specs.Objects.{Schema}
use Rattle.ham_state.specs.Content.{value, rows}
use Rattle.ham_turns.specs.declared.turn.What.{What}
use Rattle.ham_turns.specs.declared.turn.What.TheVariants as whats
use Rattle.ham_frame.specs.declared.frame.Frame.{Frame}
use Rattle.ham_turns.specs.declared.turn.IssueRefusal.{IssueRefusal}
use Rattle.ham_turns.specs.declared.turn.IssueRefusal.TheVariants as issue
use Rattle.ham_turns.specs.Settings.{Setting}
use Rattle.ham_turns.specs.Words.{numbered}
use Rattle.ham_runs.specs.Runs.{Note, log_of, on_link}
use Rattle.ham_runs.specs.Next.{is_replica}
use Rattle.ham_lines.specs.declared.fault.LineFault.{LineFault}
use Rattle.ham_lines.specs.declared.fault.LineFault.TheVariants as faults
use Rattle.ham_lines.specs.declared.answer.Answer.{Answer}
use Rattle.ham_lines.specs.declared.answer.Answer.TheVariants as answers
use Rattle.ham_lines.specs.Texts.{answer_text}
use Rattle.ham_turns.specs.declared.event.Event.{Event}
use Rattle.ham_grammar.specs.declared.line.Line.{Line}
use Rattle.ham_grammar.specs.declared.line.Line.TheVariants as lines
use Rattle.ham_grammar.specs.declared.line.Query.{Query}
use Rattle.ham_grammar.specs.declared.line.Query.TheVariants as queries
use Rattle.ham_grammar.specs.Lines.{is_skipped}
use Rattle.ham_grammar.specs.Computed.{read_of}
use Rattle.ham_world.specs.declared.note.Note.{Note as Told}
use Rattle.ham_world.specs.declared.refusal.StepRefusal.{StepRefusal}
use Rattle.ham_world.specs.declared.refusal.StepRefusal.TheVariants as step
use Rattle.ham_frame.specs.Spelling.{spelling}
use Rattle.ham_world.specs.Worlds.{inputs_of, refusal_of, taken, shown, are_linked, state_at, asked_of, same_calls, equal_states}
use Rattle.ham_replay.specs.declared.end.LineRefusal.{LineRefusal}
use Rattle.ham_replay.specs.declared.end.LineRefusal.TheVariants.{NotALine, UnknownName, BadKey, NoSuchReplica, NoSuchFrame, BadCut, SentFull, BadArguments, LaneFull, RequestsFull}
use Rattle.ham_replay.specs.declared.end.Refusal.{Refusal}

-- ---- one line

-- a line is refused, or it leaves these notes and is answered, a line each
pub data LineOutcome : Type 0 where
  Refuses : LineRefusal → LineOutcome
  Answers : List Note → List Answer → LineOutcome

abbrev pub reason_of_fault : LineFault → LineRefusal
reason_of_fault faults.NotALine = NotALine
reason_of_fault faults.UnknownName = UnknownName
reason_of_fault faults.BadKey = BadKey
reason_of_fault faults.NoMemory = NotALine

-- a line names a method, so an unknown one comes of no line; want of memory is no reason
abbrev pub reason_of_issue : IssueRefusal → LineRefusal
reason_of_issue issue.UnknownMethod = UnknownName
reason_of_issue issue.BadArgs = BadArguments
reason_of_issue issue.LaneFull = LaneFull
reason_of_issue issue.RequestsFull = RequestsFull
reason_of_issue issue.NoMemory = NotALine

abbrev pub reason_of : StepRefusal → LineRefusal
reason_of step.NoSuchReplica = NoSuchReplica
reason_of step.NoSuchFrame = NoSuchFrame
reason_of step.BadCut = BadCut
reason_of step.SentFull = SentFull
reason_of (step.Issue r) = reason_of_issue r
reason_of step.NoMemory = NotALine

abbrev pub answer_by : What → Told → Answer
answer_by (whats.Issued answer) n = answers.Issued answer n.logged
answer_by (whats.Delivered answer) n = answers.Delivered answer n.logged
answer_by whats.Torn n = answers.Torn
answer_by whats.Ticked n = answers.Sent n.sent

-- what is answered of a turn
abbrev pub answer_of : Told → Answer
answer_of n = answer_by n.what n

-- of the turns that came since, the oldest first
abbrev pub answers_since : List Note → List Note → List Answer
answers_since old new = map answer_of (drop (length old) (map shown (reverse new)))

-- an event, where the world takes it
abbrev pub event_by : Schema → Setting → List Note → Event → Option StepRefusal → LineOutcome
event_by o y notes e (Some why) = Refuses (reason_of why)
event_by o y notes e None = Answers (taken o y notes (inputs_of e)) (answers_since notes (taken o y notes (inputs_of e)))

unfoldable pub event_outcome : Schema → Setting → List Note → Event → LineOutcome
event_outcome o y notes e = event_by o y notes e (refusal_of o y notes e)

-- an answer that needs this
abbrev pub answer_if : Bool → List Note → Answer → LineOutcome
answer_if true notes a = Answers notes (a ∷ [])
answer_if false notes a = Refuses NoSuchReplica

abbrev pub frame_by : List Note → Option Frame → LineOutcome
frame_by notes None = Refuses NoSuchFrame
frame_by notes (Some f) = Answers notes (answers.Frame (spelling f) ∷ [])

abbrev pub frame_if : Bool → List Note → Option Frame → LineOutcome
frame_if true notes f = frame_by notes f
frame_if false notes f = Refuses NoSuchReplica

unfoldable pub query_outcome : Schema → Setting → List Note → Query → LineOutcome
query_outcome o y notes (queries.Show r counter key) = answer_if (is_replica y r) notes (answers.Value (value (state_at o y notes r) counter key))
query_outcome o y notes (queries.Rows r relation) = answer_if (is_replica y r) notes (answers.Rows (rows (state_at o y notes r) relation))
query_outcome o y notes (queries.Log r) = answer_if (is_replica y r) notes (answers.Log (log_of notes r))
query_outcome o y notes (queries.Verdict r g k) = answer_if (is_replica y r) notes (answers.Asked (asked_of notes r g k))
query_outcome o y notes (queries.Sent f t) = answer_if (are_linked y f t) notes (answers.Sent (length (on_link notes f t)))
query_outcome o y notes (queries.Frame f t k) = frame_if (are_linked y f t) notes (numbered (on_link notes f t) k)
query_outcome o y notes (queries.Compare r s) = answer_if (is_replica y r && is_replica y s) notes
    (answers.Compared (same_calls (log_of notes r) (log_of notes s)) (equal_states (state_at o y notes r) (state_at o y notes s)))

abbrev pub read_outcome : Schema → Setting → List Note → Result Line LineFault → LineOutcome
read_outcome o y notes (Ok (lines.Replicas n)) = Refuses NotALine
read_outcome o y notes (Ok (lines.Act e)) = event_outcome o y notes e
read_outcome o y notes (Ok (lines.Ask q)) = query_outcome o y notes q
read_outcome o y notes (Err f) = Refuses (reason_of_fault f)

-- a line after the one that made the world
unfoldable pub line_outcome : Schema → Setting → List Note → List ℕ → LineOutcome
line_outcome o y notes line = if is_skipped line then Answers notes [] else read_outcome o y notes (read_of o line)

-- ---- all lines

abbrev pub reason_text : LineRefusal → List ℕ
reason_text NotALine = codes "not a line"
reason_text UnknownName = codes "unknown name"
reason_text BadKey = codes "bad key"
reason_text NoSuchReplica = codes "no such replica"
reason_text NoSuchFrame = codes "no such frame"
reason_text BadCut = codes "bad cut"
reason_text SentFull = codes "sent full"
reason_text BadArguments = codes "bad arguments"
reason_text LaneFull = codes "lane full"
reason_text RequestsFull = codes "requests full"

abbrev pub refusal_text : Refusal → List ℕ
refusal_text r = codes "refused line " ++ (decimal r.line ++ (codes ": " ++ (reason_text r.why ++ 10 ∷ [])))

-- an answer's lines
abbrev pub answer_line : Answer → List ℕ
answer_line a = answer_text a ++ 10 ∷ []

abbrev pub answer_lines : List Answer → List ℕ
answer_lines told = flat_map answer_line told

-- what is played: the text, the refusal that ends it if there is one, the notes of the run so far, and how many replicas it has, once they are made
pub record Played : Type 0 where
  pub text : List ℕ
  pub refused : Option Refusal
  pub notes : List Note
  pub replicas : Option ℕ

-- a text, and then what is played
abbrev pub then_played : List ℕ → Played → Played
then_played text p = record p { text = text ++ p.text }

-- the text ends with a refusal
abbrev pub refused_at : Option ℕ → List Note → Refusal → Played
refused_at replicas notes refusal = record { text = refusal_text refusal; refused = Some refusal; notes = notes; replicas = replicas }

abbrev pub ended : Option ℕ → List Note → Played
ended replicas notes = record { text = answer_line answers.End; refused = None; notes = notes; replicas = replicas }

-- the lines from the one with this number on, in a world of N replicas
unfoldable pub played_from : Schema → Setting → ℕ → ℕ → List Note → List (List ℕ) → Played
played_from o y count number notes [] = ended (Some count) notes
played_from o y count number notes (l ∷ ls) = elim (line_outcome o y notes l) [
  | Refuses why ↦ refused_at (Some count) notes (record { line = number; why = why })
  | Answers new told ↦ then_played (answer_lines told) (played_from o y count (number + 1) new ls)
]

-- the world of N replicas was made by the line with this number
abbrev pub played_made : Schema → (ℕ → Setting) → ℕ → ℕ → List (List ℕ) → Played
played_made o settings number n ls = then_played (answer_line (answers.Replicas n)) (played_from o (settings n) n (number + 1) [] ls)

-- the first line that is not skipped makes the world, in which the others are played
abbrev pub played_first : Schema → (ℕ → Setting) → ℕ → List (List ℕ) → Result Line LineFault → Played
played_first o settings number ls (Ok (lines.Replicas n)) = played_made o settings number n ls
played_first o settings number ls (Ok (lines.Act e)) = refused_at None [] (record { line = number; why = NotALine })
played_first o settings number ls (Ok (lines.Ask q)) = refused_at None [] (record { line = number; why = NotALine })
played_first o settings number ls (Err f) = refused_at None [] (record { line = number; why = NotALine })

unfoldable pub played_lines : Schema → (ℕ → Setting) → ℕ → List (List ℕ) → Played
played_lines o settings number [] = refused_at None [] (record { line = number; why = NotALine })
played_lines o settings number (l ∷ ls) = if is_skipped l then played_lines o settings (number + 1) ls else played_first o settings number ls (read_of o l)

-- what a schedule comes to with an object, in these settings for 1 to 8 replicas
abbrev pub played : Schema → (ℕ → Setting) → List ℕ → Played
played o settings schedule = played_lines o settings 1 (lines_of schedule)

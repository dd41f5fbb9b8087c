-- What a client's line enters, and the texts of what is said.
--     input_by                    an input; none for a `quit`
--     reply_text, said_text       the text of a reply of an object's replica, and a line of it
--     way_of                      how a talk goes after a reply
use Rattle.std.specs.Prelude.{ℕ, nat_lt, nat_le, ◌&&◌, if◌then◌else◌, List, [], ◌∷◌, ◌++◌, codes, Option, Some, None}
use Rattle.std.specs.List.{flat_map}
use Rattle.std.specs.Fmt.{decimal, signed_decimal}
use Rattle.ham_syntax.specs.Objects.{Schema}
use Rattle.ham_syntax.specs.declared.limits.TheConstants.{MAX_GROUPS, MAX_REQUESTS}
use Rattle.ham_turns.specs.declared.turn.IssueRefusal.{IssueRefusal}
use Rattle.ham_turns.specs.declared.turn.IssueRefusal.TheVariants as issue
use Rattle.ham_lines.specs.declared.client.ClientLine.{ClientLine}
use Rattle.ham_lines.specs.declared.client.ClientLine.TheVariants as lines
use Rattle.ham_lines.specs.declared.fault.LineFault.{LineFault}
use Rattle.ham_lines.specs.declared.fault.LineFault.TheVariants as faults
use Rattle.ham_lines.specs.Texts.{issued_text, rows_text, log_text, asked_text}
use Rattle.ham_journal.specs.declared.input.Input.{Input}
use Rattle.ham_journal.specs.declared.input.Input.TheVariants as inputs
use Rattle.ham_journal.specs.declared.input.Reply.{Reply}
use Rattle.ham_journal.specs.declared.input.Reply.TheVariants as replies
use Rattle.ham_serve.specs.Recorded.{recorded_text}
use Rattle.ham_serve.specs.declared.serve.Said.{Said}
use Rattle.ham_serve.specs.declared.serve.Said.TheVariants as said
use Rattle.ham_serve.specs.declared.serve.Went.{Went}
use Rattle.ham_serve.specs.declared.serve.Went.TheVariants as went

-- numbers that no request has are asked for as 0 of 0
abbrev pub verdict_by : ℕ → ℕ → Input
verdict_by g n = if nat_lt g MAX_GROUPS && nat_le n MAX_REQUESTS then inputs.Verdict g n else inputs.Verdict 0 0

abbrev pub input_by : ClientLine → Option Input
input_by (lines.Issue a) = Some (inputs.Issue a)
input_by (lines.Show counter key) = Some (inputs.Show counter key)
input_by (lines.Rows relation) = Some (inputs.Rows relation)
input_by (lines.Verdict g n) = Some (verdict_by g n)
input_by lines.Log = Some inputs.Log
input_by lines.Counts = Some inputs.Counts
input_by lines.Record = Some inputs.Record
input_by lines.Quit = None
input_by lines.Stop = Some inputs.Stop

abbrev pub count_text : ℕ → List ℕ
count_text n = 32 ∷ decimal n

abbrev pub counts_text : List ℕ → List ℕ
counts_text counts = codes "counts" ++ flat_map count_text counts

abbrev pub refusal_text : IssueRefusal → List ℕ
refusal_text issue.UnknownMethod = codes "refused: unknown name"
refusal_text issue.BadArgs = codes "refused: bad arguments"
refusal_text issue.LaneFull = codes "refused: lane full"
refusal_text issue.RequestsFull = codes "refused: requests full"
refusal_text issue.NoMemory = codes "no memory"

-- those that no client is given have a text too
abbrev pub reply_text : Schema → Reply → List ℕ
reply_text o (replies.Issued i logged) = issued_text i logged
reply_text o (replies.NotIssued why) = refusal_text why
reply_text o (replies.Value v) = codes "value " ++ signed_decimal v
reply_text o (replies.Rows rows) = rows_text rows
reply_text o (replies.Asked a) = asked_text a
reply_text o (replies.Log log) = log_text log
reply_text o (replies.Counts counts) = counts_text counts
reply_text o (replies.Recorded calls) = recorded_text o calls
reply_text o replies.Stopping = codes "stopping"
reply_text o replies.Stopped = codes "stopped"
reply_text o replies.Full = codes "full"
reply_text o replies.NoMemory = codes "no memory"
reply_text o (replies.Delivered d logged) = codes "delivered"
reply_text o (replies.NotDelivered why) = codes "refused"
reply_text o (replies.Ticked n) = codes "ticked"
reply_text o (replies.Collected frames) = codes "collected"

abbrev pub fault_text : LineFault → List ℕ
fault_text faults.NotALine = codes "refused: not a line"
fault_text faults.UnknownName = codes "refused: unknown name"
fault_text faults.BadKey = codes "refused: bad key"
fault_text faults.NoMemory = codes "no memory"

abbrev pub words_of : Schema → Said → List ℕ
words_of o (said.Fault fault) = fault_text fault
words_of o said.Bye = codes "bye"
words_of o (said.Reply reply) = reply_text o reply

abbrev pub said_text : Schema → Said → List ℕ
said_text o s = words_of o s ++ 10 ∷ []

abbrev pub way_of : Reply → Went
way_of (replies.Issued i logged) = went.On
way_of (replies.NotIssued why) = went.On
way_of (replies.Delivered d logged) = went.On
way_of (replies.NotDelivered why) = went.On
way_of (replies.Ticked n) = went.On
way_of (replies.Collected frames) = went.On
way_of (replies.Value v) = went.On
way_of (replies.Rows rows) = went.On
way_of (replies.Asked a) = went.On
way_of (replies.Log log) = went.On
way_of (replies.Counts counts) = went.On
way_of (replies.Recorded calls) = went.On
way_of replies.Stopping = went.Stopped
way_of replies.Stopped = went.Stopped
way_of replies.Full = went.On
way_of replies.NoMemory = went.On

-- How the work of an input is told where it was refused.
use Rattle.std.specs.Prelude.{Bool, if◌then◌else◌}
use Rattle.ham_turns.specs.declared.turn.IssueRefusal.{IssueRefusal}
use Rattle.ham_turns.specs.declared.turn.IssueRefusal.TheVariants as issue
use Rattle.ham_turns.specs.declared.turn.DeliverRefusal.{DeliverRefusal}
use Rattle.ham_turns.specs.declared.turn.DeliverRefusal.TheVariants as deliver
use Rattle.ham_journal.specs.declared.entry.Mark.{Mark}
use Rattle.ham_journal.specs.declared.entry.Mark.TheVariants as marks
use Rattle.ham_journal.specs.declared.input.Reply.{Reply}
use Rattle.ham_journal.specs.declared.input.Reply.TheVariants as replies

abbrev pub mark_of : Bool → Mark
mark_of settled = if settled then marks.Done else marks.Unsettled

-- want of memory is no refusal: the input did no work
abbrev pub not_issued_mark : IssueRefusal → Mark
not_issued_mark issue.UnknownMethod = marks.Done
not_issued_mark issue.BadArgs = marks.Done
not_issued_mark issue.LaneFull = marks.Done
not_issued_mark issue.RequestsFull = marks.Done
not_issued_mark issue.NoMemory = marks.NoMemory

abbrev pub not_issued_reply : IssueRefusal → Reply
not_issued_reply issue.UnknownMethod = replies.NotIssued issue.UnknownMethod
not_issued_reply issue.BadArgs = replies.NotIssued issue.BadArgs
not_issued_reply issue.LaneFull = replies.NotIssued issue.LaneFull
not_issued_reply issue.RequestsFull = replies.NotIssued issue.RequestsFull
not_issued_reply issue.NoMemory = replies.NoMemory

abbrev pub not_delivered_mark : DeliverRefusal → Mark
not_delivered_mark deliver.NoMemory = marks.NoMemory
not_delivered_mark deliver.NotYours = marks.Done
not_delivered_mark deliver.BadMethod = marks.Done
not_delivered_mark deliver.BadArgs = marks.Done
not_delivered_mark deliver.BadDeps = marks.Done
not_delivered_mark (deliver.AckBeyond len) = marks.Done
not_delivered_mark (deliver.Differs kept) = marks.Done
not_delivered_mark (deliver.UnknownRequest len) = marks.Done
not_delivered_mark deliver.HelloTwice = marks.Done

abbrev pub not_delivered_reply : DeliverRefusal → Reply
not_delivered_reply deliver.NoMemory = replies.NoMemory
not_delivered_reply deliver.NotYours = replies.NotDelivered deliver.NotYours
not_delivered_reply deliver.BadMethod = replies.NotDelivered deliver.BadMethod
not_delivered_reply deliver.BadArgs = replies.NotDelivered deliver.BadArgs
not_delivered_reply deliver.BadDeps = replies.NotDelivered deliver.BadDeps
not_delivered_reply (deliver.AckBeyond len) = replies.NotDelivered (deliver.AckBeyond len)
not_delivered_reply (deliver.Differs kept) = replies.NotDelivered (deliver.Differs kept)
not_delivered_reply (deliver.UnknownRequest len) = replies.NotDelivered (deliver.UnknownRequest len)
not_delivered_reply deliver.HelloTwice = replies.NotDelivered deliver.HelloTwice

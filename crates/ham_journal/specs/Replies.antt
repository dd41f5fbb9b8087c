-- What an input may be replied, and what is owed of it.
--     MayEnter, AllMayEnter     a delivery is another replica's frame, which has a spelling; of each entry of a list
--     IsNothing                 nothing was sent or collected
--     IsOfKind                  a reply of the input's kind, or one that any input may have
--     FitsReply                 each frame that was collected has a spelling
use Rattle.std.specs.Prelude.{◌≡◌, ◌≢◌, ℕ, ℤ, ◌⊎◌, List, []}
use Rattle.std.specs.List.{AllByRecursion}
use Rattle.ham_syntax.specs.declared.act.Place.{Place}
use Rattle.ham_syntax.specs.declared.act.Call.{Call}
use Rattle.ham_frame.specs.declared.frame.Frame.{Frame}
use Rattle.ham_frame.specs.Spelling.{Fits, AllFit}
use Rattle.ham_resend.specs.declared.asks.Asked.{Asked}
use Rattle.ham_turns.specs.declared.turn.Issued.{Issued}
use Rattle.ham_turns.specs.declared.turn.Delivered.{Delivered}
use Rattle.ham_turns.specs.declared.turn.IssueRefusal.{IssueRefusal}
use Rattle.ham_turns.specs.declared.turn.IssueRefusal.TheVariants as issue
use Rattle.ham_turns.specs.declared.turn.DeliverRefusal.{DeliverRefusal}
use Rattle.ham_turns.specs.declared.turn.DeliverRefusal.TheVariants as deliver
use Rattle.ham_turns.specs.Settings.{Setting, IsReplica}
use Rattle.ham_journal.specs.declared.input.Input.{Input}
use Rattle.ham_journal.specs.declared.input.Input.TheVariants as inputs
use Rattle.ham_journal.specs.declared.input.Reply.{Reply}
use Rattle.ham_journal.specs.declared.input.Reply.TheVariants as replies
use Rattle.ham_journal.specs.declared.entry.Entry.{Entry}

-- a frame that another replica sent
pub record IsFromPeer (y : Setting) (me from : ℕ) (f : Frame) : Type 0 where
  pub replica : IsReplica y from
  pub other : from ≢ me
  pub fits : Fits f

abbrev pub MayEnter : Setting → ℕ → Input → Type 0
MayEnter y me input = (from : ℕ) (f : Frame) → input ≡ inputs.Deliver from f → IsFromPeer y me from f

abbrev pub AllMayEnter : Setting → ℕ → List Entry → Type 0
AllMayEnter y me es = AllByRecursion (λ e. MayEnter y me e.input) es

-- a tick that sent no frame, or a look into an empty box
abbrev pub IsNothing : Reply → Type 0
IsNothing (replies.Ticked n) = n ≡ 0
IsNothing (replies.Collected frames) = frames ≡ []
IsNothing (replies.Issued i logged) = ⊥
IsNothing (replies.NotIssued why) = ⊥
IsNothing (replies.Delivered d logged) = ⊥
IsNothing (replies.NotDelivered why) = ⊥
IsNothing (replies.Value v) = ⊥
IsNothing (replies.Rows rows) = ⊥
IsNothing (replies.Asked a) = ⊥
IsNothing (replies.Log log) = ⊥
IsNothing (replies.Counts counts) = ⊥
IsNothing (replies.Recorded calls) = ⊥
IsNothing replies.Stopping = ⊥
IsNothing replies.Stopped = ⊥
IsNothing replies.Full = ⊥
IsNothing replies.NoMemory = ⊥

-- what an input is replied where it did its work
abbrev pub IsAnswer : Input → Reply → Type 0
IsAnswer (inputs.Issue a) reply = ((i : Issued) × (logged : List Place) × (reply ≡ replies.Issued i logged)) ⊎ ((why : IssueRefusal) × (reply ≡ replies.NotIssued why) × (why ≢ issue.NoMemory))
IsAnswer (inputs.Deliver from f) reply = ((d : Delivered) × (logged : List Place) × (reply ≡ replies.Delivered d logged)) ⊎ ((why : DeliverRefusal) × (reply ≡ replies.NotDelivered why) × (why ≢ deliver.NoMemory))
IsAnswer inputs.Tick reply = (n : ℕ) × (reply ≡ replies.Ticked n)
IsAnswer (inputs.Collect peer) reply = (frames : List Frame) × (reply ≡ replies.Collected frames)
IsAnswer (inputs.Show counter key) reply = (v : ℤ) × (reply ≡ replies.Value v)
IsAnswer (inputs.Rows relation) reply = (rows : List (List ℕ)) × (reply ≡ replies.Rows rows)
IsAnswer (inputs.Verdict group number) reply = (a : Asked) × (reply ≡ replies.Asked a)
IsAnswer inputs.Log reply = (log : List Place) × (reply ≡ replies.Log log)
IsAnswer inputs.Counts reply = (counts : List ℕ) × (reply ≡ replies.Counts counts)
IsAnswer inputs.Record reply = (calls : List Call) × (reply ≡ replies.Recorded calls)
IsAnswer inputs.Stop reply = reply ≡ replies.Stopping

abbrev pub IsOfKind : Input → Reply → Type 0
IsOfKind input reply = IsAnswer input reply ⊎ (reply ≡ replies.NoMemory) ⊎ (reply ≡ replies.Stopped) ⊎ (reply ≡ replies.Full)

abbrev pub FitsReply : Reply → Type 0
FitsReply reply = (frames : List Frame) → reply ≡ replies.Collected frames → AllFit frames

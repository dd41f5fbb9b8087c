-- What a node's last text counts.
use Rattle.std.specs.Prelude.{◌≡◌, ℕ, ◌↔◌, IsTrue, List, length, sum}
use Rattle.ham_syntax.specs.Objects.{Schema}
use Rattle.ham_plan.specs.Plans.{Plan}
use Rattle.ham_turns.specs.Settings.{setting_of}
use Rattle.ham_journal.specs.declared.entry.Entry.{Entry}
use Rattle.ham_journal.specs.Cores.{Core}
use Rattle.ham_journal.specs.Histories.{HasCore}
use Rattle.ham_journal.specs.Laws.{HoldsStop}
use Rattle.ham_journal.specs.Closed.{IsClosed}

-- a journal of this node: the log that it leaves is closed by its frames, and it leaves the node stopped exactly where a
-- stop stands in it
pub record IsJournalOf (o : Schema) (p : Plan) (me : ℕ) (journal : List Entry) : Type 0 where
  pub core : Core
  pub folded : HasCore o p me journal core
  pub closed : IsClosed (setting_of p) core.words
  pub stopped : IsTrue core.stopped ↔ HoldsStop journal

-- how long such a journal is, which is what so many workers entered in all
pub record IsSumOf (o : Schema) (p : Plan) (me entries workers : ℕ) : Type 0 where
  pub journal : List Entry
  pub is_journal : IsJournalOf o p me journal
  pub long : entries ≡ length journal
  -- of each worker, how many entries it made
  pub shares : List ℕ
  pub each : length shares ≡ workers
  pub sums : entries ≡ sum shares

-- What a node keeps.
--     Kept, kept_by, core_of     what contracts see of a node, how it is held, and its core
--     IsKept                     the core is the fold of the journal, which the book counts
--     Does, Makes                an input's work on a settled core, and what entering it leaves
use Rattle.std.specs.Prelude.{◌≡◌, ℕ, Bool, false, List, length}
use Rattle.ham_syntax.specs.Objects.{Schema}
use Rattle.ham_plan.specs.Plans.{Plan}
use Rattle.ham_frame.specs.declared.frame.Frame.{Frame}
use Rattle.ham_turns.specs.Settings.{rules_of, setting_of}
use Rattle.ham_replica.specs.Values.{Replica, words}
use Rattle.ham_site.specs.Sites.{Site}
use Rattle.ham_journal.specs.declared.entry.Entry.{Entry}
use Rattle.ham_journal.specs.declared.entry.Mark.{Mark}
use Rattle.ham_journal.specs.declared.input.Input.{Input}
use Rattle.ham_journal.specs.declared.input.Reply.{Reply}
use Rattle.ham_journal.specs.Cores.{Core}
use Rattle.ham_journal.specs.Replies.{FitsReply, AllMayEnter}
use Rattle.ham_journal.specs.Histories.{core_by, HasCore, Tells, Works}
use Rattle.ham_core.specs.declared.waiting.Waiting.{Waiting}
use Rattle.ham_core.specs.Waits.{shown_in, AreSound}

pub record Kept : Type 0 where
  pub replica : Replica
  -- the frames that wait, for each replica from 1
  pub boxes : List (List Frame)
  pub stopped : Bool
  pub journal : List Entry
  -- how many entries the book counts
  pub total : ℕ

abbrev pub core_of : Kept → Core
core_of k = core_by (words k.replica.lists) k.boxes k.stopped

-- the site of a replica of an object under a plan
abbrev pub site_by : Schema → Plan → ℕ → Site
site_by o p me = record { object = o; plan = p; me = me }

pub record IsKept (o : Schema) (p : Plan) (me : ℕ) (k : Kept) : Type 0 where
  pub site : k.replica.site ≡ site_by o p me
  pub folded : HasCore o p me k.journal (core_of k)
  pub counted : k.total ≡ length k.journal
  -- no entry delivers a frame of the replica itself, so the log is closed by its frames
  pub others : AllMayEnter (setting_of p) me k.journal

-- the frames that wait, of a replica and of what is kept of them
abbrev pub boxes_of : Replica → List (List Waiting) → List (List Frame)
boxes_of r held = shown_in (words r.lists).decided held

abbrev pub core_in : Replica → List (List Waiting) → Bool → Core
core_in r held stopped = core_by (words r.lists) (boxes_of r held) stopped

abbrev pub kept_by : Replica → List (List Waiting) → Bool → List Entry → ℕ → Kept
kept_by r held stopped journal total = record { replica = r; boxes = boxes_of r held; stopped = stopped; journal = journal; total = total }

abbrev pub AreSoundIn : Replica → List (List Waiting) → Type 0
AreSoundIn r held = AreSound (words r.lists).decided held

-- an input's work on a settled core that isn't stopped
pub record Does (old new : Replica) (held held' : List (List Waiting)) (stopped : Bool) (input : Input) (n : ℕ) (mark : Mark) (reply : Reply) : Type 0 where
  pub works : Works (rules_of old.site.object) (setting_of old.site.plan) old.site.me (core_in old held false) (core_in new held' stopped) input n mark reply
  pub site : new.site ≡ old.site
  pub sound : AreSoundIn new held'
  pub fits : FitsReply reply

-- an input is entered into a core that isn't stopped, and told as an entry
pub record Makes (old new : Replica) (held held' : List (List Waiting)) (stopped : Bool) (seat : ℕ) (input : Input) (e : Entry) (reply : Reply) : Type 0 where
  pub tells : Tells (rules_of old.site.object) (setting_of old.site.plan) old.site.me (core_in old held false) (core_in new held' stopped) e reply
  pub site : new.site ≡ old.site
  pub sound : AreSoundIn new held'
  pub fits : FitsReply reply
  pub seat_is : e.seat ≡ seat
  pub input_is : e.input ≡ input

-- What the calls of a replica answer and leave.
--     HasTurned                       a turn by the table, whose frames can be sent
--     Issues, Delivers, Ticks         an issue, a delivery, a tick
--     Settles                         a drain by itself
use Rattle.std.specs.Prelude.{◌≡◌, ◌⊎◌, ℕ, Bool, true, false, ◌↔◌, List, map, IsTrue, Some, None, Result, Ok, Err}
use Rattle.ham_lists.specs.declared.list.NoMemory.{NoMemory}
use Rattle.ham_syntax.specs.declared.act.Act.{Act}
use Rattle.ham_syntax.specs.declared.act.Call.{Call}
use Rattle.ham_syntax.specs.declared.act.Place.{Place}
use Rattle.ham_frame.specs.declared.frame.Frame.{Frame}
use Rattle.ham_turns.specs.declared.turn.Delivered.{Delivered}
use Rattle.ham_turns.specs.declared.turn.Issued.{Issued}
use Rattle.ham_turns.specs.declared.turn.IssueRefusal.{IssueRefusal}
use Rattle.ham_turns.specs.declared.turn.IssueRefusal.TheVariants as issue
use Rattle.ham_turns.specs.declared.turn.DeliverRefusal.{DeliverRefusal}
use Rattle.ham_turns.specs.declared.turn.DeliverRefusal.TheVariants as deliver
use Rattle.ham_turns.specs.declared.turn.Out.{Out}
use Rattle.ham_turns.specs.declared.turn.What.{What}
use Rattle.ham_turns.specs.declared.turn.What.TheVariants as whats
use Rattle.ham_turns.specs.Settings.{rules_of, setting_of}
use Rattle.ham_turns.specs.Words.{Intake, ActComes, FrameComes, Beat, place_of}
use Rattle.ham_turns.specs.Refusals.{issue_refusal, deliver_refusal}
use Rattle.ham_turns.specs.Ready.{LogsReady, IsSettled}
use Rattle.ham_turns.specs.Turns.{IsTurnOf}
use Rattle.ham_site.specs.declared.out.Turn.{Turn}
use Rattle.ham_site.specs.Outs.{AreSendable}
use Rattle.ham_replica.specs.Values.{Replica, words}

-- a turn by the table of turns; each frame has a spelling and goes to another replica
pub record HasTurned (old new : Replica) (took : Intake) (what : What) (places : List Place) (frames : List Out) (done : Bool) : Type 0 where
  pub turn : IsTurnOf (rules_of old.site.object) (setting_of old.site.plan) old.site.me (words old.lists) (words new.lists) took what places frames done
  pub sends : AreSendable (setting_of old.site.plan) old.site.me frames

-- an act that isn't refused makes a turn; a refusal is the first that fits, or want of memory, and leaves the replica
abbrev pub Issues : Replica → Replica → Act → Result (Turn Issued) IssueRefusal → Type 0
Issues old new a (Ok t) =
    (issue_refusal (rules_of old.site.object) (setting_of old.site.plan) (words old.lists) old.site.me a ≡ None)
    × HasTurned old new (ActComes a) (whats.Issued t.answer) t.logged t.out t.settled
Issues old new a (Err why) =
    (new ≡ old)
    × ((why ≡ issue.NoMemory) ⊎ (issue_refusal (rules_of old.site.object) (setting_of old.site.plan) (words old.lists) old.site.me a ≡ Some why))

-- The same of a frame. A replica doesn't know which frame of its link it is, and no word of the table reads it.
abbrev pub Delivers : Replica → Replica → ℕ → Frame → Result (Turn Delivered) DeliverRefusal → Type 0
Delivers old new from f (Ok t) =
    (deliver_refusal (rules_of old.site.object) (setting_of old.site.plan) (words old.lists) old.site.me from f ≡ None)
    × ((which : ℕ) → HasTurned old new (FrameComes from which f) (whats.Delivered t.answer) t.logged t.out t.settled)
Delivers old new from f (Err why) =
    (new ≡ old)
    × ((why ≡ deliver.NoMemory) ⊎ (deliver_refusal (rules_of old.site.object) (setting_of old.site.plan) (words old.lists) old.site.me from f ≡ Some why))

-- a tick changes nothing
abbrev pub Ticks : Replica → Turn Unit → Type 0
Ticks now t = HasTurned now now Beat whats.Ticked t.logged t.out t.settled

-- the first calls of the drain were logged; `done` where nothing more is ready
pub record HasDrained (old new : Replica) (places : List Place) (done : Bool) : Type 0 where
  pub calls : List Call
  pub drain : LogsReady (rules_of old.site.object) (setting_of old.site.plan) (words old.lists) calls (words new.lists)
  pub logged : places ≡ map place_of calls
  pub settled : IsTrue done ↔ IsSettled (setting_of old.site.plan) (words new.lists)

-- the whole drain; or, without memory, some of its calls
abbrev pub Settles : Replica → Replica → Result (List Place) NoMemory → Type 0
Settles old new (Ok places) = HasDrained old new places true
Settles old new (Err _) = (places : List Place) × HasDrained old new places false

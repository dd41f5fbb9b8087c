-- What entering an input does to a node.
--     opening_words, opening_core     nothing was done yet
--     Tells                           an entry that leaves this core and is given this reply
--     Enters                          one entry is made or none, and when none
use Rattle.std.specs.Prelude.{◌≡◌, ◌≢◌, ℕ, ◌≤◌, ◌<◌, ◌⊎◌, Bool, true, false, List, [], ◌∷◌, ◌++◌, length, replicate, Some, None}
use Rattle.ham_syntax.specs.Objects.{Schema}
use Rattle.ham_plan.specs.Plans.{Plan}
use Rattle.ham_frame.specs.declared.frame.Frame.{Frame}
use Rattle.ham_turns.specs.Settings.{Rules, Setting, rules_of, setting_of}
use Rattle.ham_turns.specs.Words.{ReplicaWords}
use Rattle.ham_journal.specs.declared.limits.TheConstants.{MAX_ENTRIES}
use Rattle.ham_journal.specs.declared.input.Input.{Input}
use Rattle.ham_journal.specs.declared.input.Input.TheVariants as inputs
use Rattle.ham_journal.specs.declared.input.Reply.{Reply}
use Rattle.ham_journal.specs.declared.input.Reply.TheVariants as replies
use Rattle.ham_journal.specs.declared.entry.Entry.{Entry}
use Rattle.ham_journal.specs.declared.entry.Mark.{Mark}
use Rattle.ham_journal.specs.Cores.{Core, history, entered, by_mark}
use Rattle.ham_journal.specs.Replies.{IsNothing}

-- a replica that did nothing yet
abbrev pub opening_words : Rules → ReplicaWords
opening_words x = record {
  state = x.opening;
  log = [];
  count_of = λ s. 0;
  decided = λ l. [];
  kept = λ p. None;
  requests = λ g. [];
  verdict = λ g n. None;
  rulings = λ q g. [];
  acked = λ l p. 0;
}

abbrev pub core_by : ReplicaWords → List (List Frame) → Bool → Core
core_by w boxes stopped = record { words = w; boxes = boxes; stopped = stopped }

-- and no frame waits for any replica
abbrev pub opening_core : Schema → Plan → Core
opening_core o p = core_by (opening_words (rules_of o)) (replicate p.replicas []) false

-- the core after a journal of a replica of an object under a plan
abbrev pub HasCore : Schema → Plan → ℕ → List Entry → Core → Type 0
HasCore o p me journal k = history (rules_of o) (setting_of p) me (opening_core o p) journal ≡ Some k

abbrev pub Tells : Rules → Setting → ℕ → Core → Core → Entry → Reply → Type 0
Tells x y me old new e reply = entered x y me old e ≡ Some (record { core = new; reply = reply })

-- the same of an input's work on a settled core
abbrev pub Works : Rules → Setting → ℕ → Core → Core → Input → ℕ → Mark → Reply → Type 0
Works x y me old new input n mark reply = by_mark x y me old input n mark ≡ Some (record { core = new; reply = reply })

-- an entry with nothing to settle would leave the core as it is, and be replied that there is nothing
abbrev pub IsIdle : Rules → Setting → ℕ → Core → Input → Reply → Type 0
IsIdle x y me k input reply = IsNothing reply × ((e : Entry) × (e.input ≡ input) × (e.before ≡ 0) × Tells x y me k k e reply)

-- an input that makes no entry: the node was stopped, or is full, or has no memory, or would do nothing
abbrev pub IsFree : Rules → Setting → ℕ → Core → List Entry → Input → Reply → Type 0
IsFree x y me k journal input reply =
    ((reply ≡ replies.Stopped) × (k.stopped ≡ true))
    ⊎ ((reply ≡ replies.Full) × (MAX_ENTRIES ≤ length journal) × (k.stopped ≡ false) × (input ≢ inputs.Stop))
    ⊎ ((reply ≡ replies.NoMemory) × (k.stopped ≡ false))
    ⊎ ((k.stopped ≡ false) × IsIdle x y me k input reply)

-- an entry isn't made for nothing
abbrev pub IsWorth : Entry → Reply → Type 0
IsWorth e reply = IsNothing reply → 0 < e.before

-- one entry of this seat and input is made, and its reply is the one that the fold gives there; or none, and the core is as
-- it was
abbrev pub Enters : Rules → Setting → ℕ → ℕ → Core → List Entry → Core → List Entry → Input → Reply → Type 0
Enters x y me seat old journal new journal' input reply =
    ((e : Entry) × (e.seat ≡ seat) × (e.input ≡ input) × (journal' ≡ journal ++ e ∷ []) × Tells x y me old new e reply × IsWorth e reply)
    ⊎ ((new ≡ old) × (journal' ≡ journal) × IsFree x y me old journal input reply)

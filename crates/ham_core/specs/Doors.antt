-- What a door says of an input and its reply.
--     EntersBy, StoppedBy     what is entered, and whether the node is stopped, by a door that tells its journal
--     Moves                   how the number of its entries moves
--     Causes                  which of its counts an answer raises
use Rattle.std.specs.Prelude.{◌≡◌, ℕ, ◌+◌, ◌⊎◌, Bool, List, [], Option, Some, None, ⊤}
use Rattle.ham_syntax.specs.Objects.{Schema}
use Rattle.ham_plan.specs.Plans.{Plan}
use Rattle.ham_turns.specs.Settings.{rules_of, setting_of}
use Rattle.ham_bytes.specs.Causes.{Rose}
use Rattle.ham_journal.specs.declared.entry.Entry.{Entry}
use Rattle.ham_journal.specs.declared.input.Input.{Input}
use Rattle.ham_journal.specs.declared.input.Reply.{Reply}
use Rattle.ham_journal.specs.declared.input.Reply.TheVariants as replies
use Rattle.ham_journal.specs.Cores.{Core}
use Rattle.ham_journal.specs.Histories.{HasCore, Enters}

-- what a door that tells its journal does with an input
abbrev pub EntersBy : Schema → Plan → ℕ → Option (List Entry) → Option (List Entry) → Input → Reply → Type 0
EntersBy o p m (Some j) (Some j') input reply =
    (seat : ℕ) × (k : Core) × (k' : Core) × HasCore o p m j k
    × Enters (rules_of o) (setting_of p) m seat k j k' j' input reply
EntersBy o p m None None input reply = ⊤
EntersBy o p m (Some j) None input reply = ⊥
EntersBy o p m None (Some j) input reply = ⊥

-- whether the node of a door that tells its journal is stopped
abbrev pub StoppedBy : Schema → Plan → ℕ → Option (List Entry) → Bool → Type 0
StoppedBy o p m (Some j) b = (k : Core) × HasCore o p m j k × (b ≡ k.stopped)
StoppedBy o p m None b = ⊤

-- how the number of a door's entries moves with an answer
abbrev pub Moves : Reply → ℕ → ℕ → Type 0
Moves replies.Full n n' = n' ≡ n
Moves replies.Stopped n n' = n' ≡ n
Moves replies.NoMemory n n' = (n' ≡ n) ⊎ (n' ≡ n + 1)
Moves (replies.Ticked s) n n' = ((s ≡ 0) × (n' ≡ n)) ⊎ (n' ≡ n + 1)
Moves (replies.Collected frames) n n' = ((frames ≡ []) × (n' ≡ n)) ⊎ (n' ≡ n + 1)
Moves (replies.Issued i logged) n n' = n' ≡ n + 1
Moves (replies.NotIssued why) n n' = n' ≡ n + 1
Moves (replies.Delivered d logged) n n' = n' ≡ n + 1
Moves (replies.NotDelivered why) n n' = n' ≡ n + 1
Moves (replies.Value v) n n' = n' ≡ n + 1
Moves (replies.Rows rows) n n' = n' ≡ n + 1
Moves (replies.Asked a) n n' = n' ≡ n + 1
Moves (replies.Log log) n n' = n' ≡ n + 1
Moves (replies.Counts counts) n n' = n' ≡ n + 1
Moves (replies.Recorded calls) n n' = n' ≡ n + 1
Moves replies.Stopping n n' = n' ≡ n + 1

-- the counts that an answer raises: of stops, of Fulls, of refused deliveries
abbrev pub Causes : Reply → ℕ → ℕ → ℕ → ℕ → ℕ → ℕ → Type 0
Causes replies.Stopped s s' f f' r r' = Rose s s'
Causes replies.Stopping s s' f f' r r' = Rose s s'
Causes replies.Full s s' f f' r r' = Rose f f'
Causes (replies.NotDelivered why) s s' f f' r r' = Rose r r'
Causes (replies.Issued i logged) s s' f f' r r' = ⊤
Causes (replies.NotIssued why) s s' f f' r r' = ⊤
Causes (replies.Delivered d logged) s s' f f' r r' = ⊤
Causes (replies.Ticked n) s s' f f' r r' = ⊤
Causes (replies.Collected frames) s s' f f' r r' = ⊤
Causes (replies.Value v) s s' f f' r r' = ⊤
Causes (replies.Rows rows) s s' f f' r r' = ⊤
Causes (replies.Asked a) s s' f f' r r' = ⊤
Causes (replies.Log log) s s' f f' r r' = ⊤
Causes (replies.Counts counts) s s' f f' r r' = ⊤
Causes (replies.Recorded calls) s s' f f' r r' = ⊤
Causes replies.NoMemory s s' f f' r r' = ⊤

-- Inputs that are entered one after another.
--     Standing, standing     what a door tells of itself
--     EntersOne              what a door does with an input by itself
--     is_stop                a reply that the node stops, or was stopped
--     EntersEach             inputs in order, up to and with the first that is so replied: what is left, and whether one was
use Rattle.std.specs.Prelude.{◌≡◌, ℕ, ◌≤◌, Bool, true, false, List, [], ◌∷◌, Option}
use Rattle.ham_syntax.specs.Objects.{Schema}
use Rattle.ham_plan.specs.Plans.{Plan}
use Rattle.ham_journal.specs.declared.entry.Entry.{Entry}
use Rattle.ham_journal.specs.declared.input.Input.{Input}
use Rattle.ham_journal.specs.declared.input.Reply.{Reply}
use Rattle.ham_journal.specs.declared.input.Reply.TheVariants as replies
use Rattle.ham_journal.specs.Replies.{IsOfKind, FitsReply}
use Rattle.ham_core.specs.Doors.{EntersBy, Moves, Causes}

pub record Standing : Type 0 where
  pub history : Option (List Entry)
  pub entries : ℕ
  pub stops : ℕ
  pub fulls : ℕ
  pub refusals : ℕ

abbrev pub standing : Option (List Entry) → ℕ → ℕ → ℕ → ℕ → Standing
standing history entries stops fulls refusals = record { history = history; entries = entries; stops = stops; fulls = fulls; refusals = refusals }

pub record EntersOne (o : Schema) (p : Plan) (m : ℕ) (s s' : Standing) (input : Input) (reply : Reply) : Type 0 where
  pub told : EntersBy o p m s.history s'.history input reply
  pub kind : IsOfKind input reply
  pub fits : FitsReply reply
  pub entries : Moves reply s.entries s'.entries
  pub stops : s.stops ≤ s'.stops
  pub fulls : s.fulls ≤ s'.fulls
  pub refusals : s.refusals ≤ s'.refusals
  pub causes : Causes reply s.stops s'.stops s.fulls s'.fulls s.refusals s'.refusals

abbrev pub is_stop : Reply → Bool
is_stop replies.Stopping = true
is_stop replies.Stopped = true
is_stop (replies.Issued i logged) = false
is_stop (replies.NotIssued why) = false
is_stop (replies.Delivered d logged) = false
is_stop (replies.NotDelivered why) = false
is_stop (replies.Ticked n) = false
is_stop (replies.Collected frames) = false
is_stop (replies.Value v) = false
is_stop (replies.Rows rows) = false
is_stop (replies.Asked a) = false
is_stop (replies.Log log) = false
is_stop (replies.Counts counts) = false
is_stop (replies.Recorded calls) = false
is_stop replies.Full = false
is_stop replies.NoMemory = false

pub data EntersEach (o : Schema) (p : Plan) (m : ℕ) : Standing → Standing → List Input → List Input → List Reply → Bool → Type 0 where
  Done : (s : Standing) → EntersEach o p m s s [] [] [] false
  Stops : (s s' : Standing) (input : Input) (left : List Input) (reply : Reply) → EntersOne o p m s s' input reply → is_stop reply ≡ true
      → EntersEach o p m s s' (input ∷ left) left (reply ∷ []) true
  Goes : (s s1 s' : Standing) (input : Input) (inputs left : List Input) (reply : Reply) (more : List Reply) (stopped : Bool) → EntersOne o p m s s1 input reply → is_stop reply ≡ false
      → EntersEach o p m s1 s' inputs left more stopped → EntersEach o p m s s' (input ∷ inputs) left (reply ∷ more) stopped

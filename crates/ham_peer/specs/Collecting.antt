-- What feeding a peer enters and sends, and how it ends.
--     Collects            what the peer's box gave, collect by collect
--     Feeding, FedPeer    what was sent so far, and at an end
--     FeedEndsBy          what an end says of the counts
use Rattle.std.specs.Prelude.{◌≡◌, ℕ, ◌⊎◌, List, [], ◌∷◌, ◌++◌, Option, Some, None, ⊤}
use Rattle.ham_bytes.specs.Causes.{Rose}
use Rattle.ham_syntax.specs.Objects.{Schema}
use Rattle.ham_plan.specs.Plans.{Plan}
use Rattle.ham_core.specs.Doors.{EntersBy}
use Rattle.ham_links.specs.Links.{Goes, GoesSome}
use Rattle.ham_frame.specs.Spelling.{stream}
use Rattle.ham_peer.specs.Delivering.{hello_of}
use Rattle.ham_journal.specs.declared.entry.Entry.{Entry}
use Rattle.ham_journal.specs.declared.input.Input.TheVariants as inputs
use Rattle.ham_journal.specs.declared.input.Reply.{Reply}
use Rattle.ham_journal.specs.declared.input.Reply.TheVariants as replies
use Rattle.ham_journal.specs.Replies.{IsOfKind}
use Rattle.ham_frame.specs.declared.frame.Frame.{Frame}
use Rattle.ham_frame.specs.declared.frame.Frame.TheVariants as frames
use Rattle.ham_peer.specs.declared.greeting.Greeting.{Greeting}
use Rattle.ham_peer.specs.declared.feeding.FeedEnd.{FeedEnd}
use Rattle.ham_peer.specs.declared.feeding.FeedEnd.TheVariants as ends

-- after frames that a Collect gave, or after another reply
pub data Way : Type 0 where
  Goes_on : Way
  Ends : FeedEnd → Way

-- the frames that a reply to a Collect asks to send, and how it goes on
abbrev pub given_by : Reply → List Frame
given_by (replies.Collected fs) = fs
given_by replies.Stopped = frames.Bye ∷ []
given_by replies.Full = []
given_by replies.NoMemory = []
given_by (replies.Issued i logged) = []
given_by (replies.NotIssued why) = []
given_by (replies.Delivered d logged) = []
given_by (replies.NotDelivered why) = []
given_by (replies.Ticked n) = []
given_by (replies.Value v) = []
given_by (replies.Rows rows) = []
given_by (replies.Asked a) = []
given_by (replies.Log log) = []
given_by (replies.Counts counts) = []
given_by (replies.Recorded calls) = []
given_by replies.Stopping = []

-- no other reply than the first four is of a Collect's kind
abbrev pub way_by : Reply → Way
way_by (replies.Collected fs) = Goes_on
way_by replies.Stopped = Ends ends.Stopped
way_by replies.Full = Ends ends.Full
way_by replies.NoMemory = Ends ends.NoMemory
way_by (replies.Issued i logged) = Ends ends.NoMemory
way_by (replies.NotIssued why) = Ends ends.NoMemory
way_by (replies.Delivered d logged) = Ends ends.NoMemory
way_by (replies.NotDelivered why) = Ends ends.NoMemory
way_by (replies.Ticked n) = Ends ends.NoMemory
way_by (replies.Value v) = Ends ends.NoMemory
way_by (replies.Rows rows) = Ends ends.NoMemory
way_by (replies.Asked a) = Ends ends.NoMemory
way_by (replies.Log log) = Ends ends.NoMemory
way_by (replies.Counts counts) = Ends ends.NoMemory
way_by (replies.Recorded calls) = Ends ends.NoMemory
way_by replies.Stopping = Ends ends.NoMemory

-- a Collect of the peer's box was entered, and replied so
abbrev pub Gets : Schema → Plan → ℕ → ℕ → Option (List Entry) → Option (List Entry) → Reply → Type 0
Gets o p m peer h h' r = EntersBy o p m h h' (inputs.Collect peer) r × IsOfKind (inputs.Collect peer) r

-- Collects of one peer alone, and the frames that they gave, in order
pub data Collects (o : Schema) (p : Plan) (m peer : ℕ) (h : Option (List Entry)) : List Frame → Way → Option (List Entry) → Type 0 where
  None_yet : Collects o p m peer h [] Goes_on h
  And_then : (fs : List Frame) (h1 h2 : Option (List Entry)) (r : Reply) → Collects o p m peer h fs Goes_on h1 → Gets o p m peer h1 h2 r
      → Collects o p m peer h (fs ++ given_by r) (way_by r) h2

-- on Stopped and Full all was sent
abbrev pub FeedEndOf : FeedEnd → Way → Type 0 → Type 0
FeedEndOf ends.LinkFault w whole = ⊤
FeedEndOf ends.Stopped w whole = (w ≡ Ends ends.Stopped) × whole
FeedEndOf ends.Full w whole = (w ≡ Ends ends.Full) × whole
FeedEndOf ends.NoMemory w whole = ⊤

-- one Collect, and what it gave was sent
abbrev pub FeedRound : Schema → Plan → ℕ → ℕ → Option (List Entry) → Option (List Entry) → Option (List ℕ) → Option (List ℕ) → Type 0
FeedRound o p m peer h h' sent sent' = (r : Reply) × Gets o p m peer h h' r × (way_by r ≡ Goes_on) × Goes sent sent' (stream (given_by r))

-- the same at an end, where a front alone may have been sent
abbrev pub FeedHalt : FeedEnd → Schema → Plan → ℕ → ℕ → Option (List Entry) → Option (List Entry) → Option (List ℕ) → Option (List ℕ) → Type 0
FeedHalt e o p m peer h h' sent sent' = (r : Reply) × Gets o p m peer h h' r × GoesSome sent sent' (stream (given_by r)) × FeedEndOf e (way_by r) (Goes sent sent' (stream (given_by r)))

-- the Hello and all that the Collects gave was sent
pub record Feeding (o : Schema) (p : Plan) (m peer : ℕ) (g : Greeting) (h h' : Option (List Entry)) (sent sent' : Option (List ℕ)) : Type 0 where
  pub given : List Frame
  pub collects : Collects o p m peer h given Goes_on h'
  pub told : Goes sent sent' (stream (hello_of g ∷ given))

-- the same at an end: a front of it was sent, and all of it on Stopped, with a Bye behind, and on Full
pub record FedPeer (end : FeedEnd) (o : Schema) (p : Plan) (m peer : ℕ) (g : Greeting) (h h' : Option (List Entry)) (sent sent' : Option (List ℕ)) : Type 0 where
  pub given : List Frame
  pub way : Way
  pub collects : Collects o p m peer h given way h'
  pub told : GoesSome sent sent' (stream (hello_of g ∷ given))
  pub ended : FeedEndOf end way (Goes sent sent' (stream (hello_of g ∷ given)))

-- what an end says of the counts of the link's faults, and of the door's stops and Fulls
abbrev pub FeedEndsBy : FeedEnd → ℕ → ℕ → ℕ → ℕ → ℕ → ℕ → Type 0
FeedEndsBy ends.LinkFault l l' s s' f f' = Rose l l'
FeedEndsBy ends.Stopped l l' s s' f f' = Rose s s'
FeedEndsBy ends.Full l l' s s' f f' = Rose f f'
FeedEndsBy ends.NoMemory l l' s s' f f' = ⊤

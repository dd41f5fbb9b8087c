-- What serving a peer enters, and how it ends.
--     Meets, Delivers     one frame, and frames in turn, up to the one at which it ends
--     Going, Peered       what was taken and entered so far, and at an end
--     PeerEndOf           what an end says of the stream, and of what is left
--     PeerEndsBy          what it says of the counts
use Rattle.std.specs.Prelude.{◌≡◌, ◌≢◌, ℕ, ◌+◌, ◌≤◌, ◌^◌, ◌⊎◌, ◌↔◌, Bool, true, false, IsTrue, List, [], ◌∷◌, ◌++◌, length, Option, Some, None, Result, Ok, Err, ⊤, if◌then◌else◌}
use Rattle.ham_bytes.specs.Causes.{Rose}
use Rattle.ham_syntax.specs.declared.limits.TheConstants.{MAX_REPLICAS}
use Rattle.ham_syntax.specs.Objects.{Schema}
use Rattle.ham_plan.specs.Plans.{Plan}
use Rattle.ham_frame.specs.declared.frame.TheConstants.{VERSION}
use Rattle.ham_frame.specs.declared.frame.Frame.{Frame}
use Rattle.ham_frame.specs.declared.frame.Frame.TheVariants as frames
use Rattle.ham_frame.specs.declared.decoder.FrameFault.{FrameFault}
use Rattle.ham_frame.specs.declared.decoder.FrameFault.TheVariants.{Bad, NoMemory}
use Rattle.ham_frame.specs.Spelling.{AllFit, IsUnfinished, IsFault, stream}
use Rattle.ham_frame.specs.Decoding.{Fed, Reads, ReadsFront, Refuses}
use Rattle.ham_journal.specs.declared.entry.Entry.{Entry}
use Rattle.ham_journal.specs.declared.input.Input.TheVariants as inputs
use Rattle.ham_journal.specs.declared.input.Reply.{Reply}
use Rattle.ham_journal.specs.declared.input.Reply.TheVariants as replies
use Rattle.ham_journal.specs.Replies.{IsOfKind}
use Rattle.ham_core.specs.Doors.{EntersBy, StoppedBy}
use Rattle.ham_links.specs.Links.{Loses, IsOver}
use Rattle.ham_peer.specs.declared.greeting.Greeting.{Greeting}
use Rattle.ham_peer.specs.declared.meeting.PeerEnd.{PeerEnd}
use Rattle.ham_peer.specs.declared.meeting.PeerEnd.TheVariants as ends

-- before the Hello, after it, or at the frame at which it ends
pub data Way : Type 0 where
  Waits : Way
  Goes : Way
  Ends : PeerEnd → Way

abbrev pub going : Bool → Way
going false = Waits
going true = Goes

abbrev pub IsGoing : Way → Type 0
IsGoing w = (greeted : Bool) × (w ≡ going greeted)

abbrev pub hello_of : Greeting → Frame
hello_of g = frames.Hello VERSION g.digest g.from g.of

-- its sender is one of the replicas, and they aren't too many
abbrev pub IsGreeting : Greeting → Type 0
IsGreeting g = (1 ≤ g.from) × (g.from ≤ g.of) × (g.of ≤ MAX_REPLICAS)

abbrev pub is_bye : Frame → Bool
is_bye (frames.Hello version digest from of) = false
is_bye (frames.Call c) = false
is_bye (frames.Ack lane count) = false
is_bye (frames.Request group n act) = false
is_bye (frames.Verdict group n ruling) = false
is_bye frames.Bye = true

-- how it goes on after a frame that is a farewell or isn't, and its reply: the reply goes before the farewell
abbrev pub way_after : Bool → Reply → Way
way_after bye (replies.NotDelivered why) = Ends (ends.Refused why)
way_after bye replies.Full = Ends ends.Full
way_after bye replies.Stopped = Ends ends.Stopped
way_after bye replies.NoMemory = Ends ends.NoMemory
way_after bye (replies.Delivered d logged) = if bye then Ends ends.Bye else Goes
way_after bye (replies.Issued i logged) = if bye then Ends ends.Bye else Goes
way_after bye (replies.NotIssued why) = if bye then Ends ends.Bye else Goes
way_after bye (replies.Ticked n) = if bye then Ends ends.Bye else Goes
way_after bye (replies.Collected fs) = if bye then Ends ends.Bye else Goes
way_after bye (replies.Value v) = if bye then Ends ends.Bye else Goes
way_after bye (replies.Rows rows) = if bye then Ends ends.Bye else Goes
way_after bye (replies.Asked a) = if bye then Ends ends.Bye else Goes
way_after bye (replies.Log log) = if bye then Ends ends.Bye else Goes
way_after bye (replies.Counts counts) = if bye then Ends ends.Bye else Goes
way_after bye (replies.Recorded calls) = if bye then Ends ends.Bye else Goes
way_after bye replies.Stopping = if bye then Ends ends.Bye else Goes

-- one frame: the first is the Hello or ends it, each later one enters the door
abbrev pub Meets : Schema → Plan → ℕ → Greeting → Way → Option (List Entry) → Frame → Way → Option (List Entry) → Type 0
Meets o p m g Waits h f w h' = (h' ≡ h) × (((f ≡ hello_of g) × (w ≡ Goes)) ⊎ ((f ≢ hello_of g) × (w ≡ Ends ends.BadHello)))
Meets o p m g Goes h f w h' = (r : Reply) × EntersBy o p m h h' (inputs.Deliver g.from f) r × IsOfKind (inputs.Deliver g.from f) r × (w ≡ way_after (is_bye f) r)
Meets o p m g (Ends e) h f w h' = ⊥

-- frames, each met in its turn, and none after the one at which it ends
pub data Delivers (o : Schema) (p : Plan) (m : ℕ) (g : Greeting) (w : Way) (h : Option (List Entry)) : List Frame → Way → Option (List Entry) → Type 0 where
  None_yet : Delivers o p m g w h [] w h
  And_then : (fs : List Frame) (w1 w2 : Way) (h1 h2 : Option (List Entry)) (f : Frame) → Delivers o p m g w h fs w1 h1 → Meets o p m g w1 h1 f w2 h2
      → Delivers o p m g w h (fs ++ f ∷ []) w2 h2

-- it ends by the last frame that was met, or for want of memory before the next
abbrev pub EndsAt : PeerEnd → Way → Type 0
EndsAt e w = (w ≡ Ends e) ⊎ ((e ≡ ends.NoMemory) × IsGoing w)

-- ---- the decoder

abbrev pub Feeds : Result Unit FrameFault → Fed → Fed → List Frame → List Frame → List ℕ → Type 0
Feeds (Ok done) old new held given piece = (new.fault ≡ None) × Reads old new held given piece
Feeds (Err NoMemory) old new held given piece = ReadsFront old new held given piece
Feeds (Err (Bad at why)) old new held given piece = Refuses old new held given piece at why

-- the end that a decoder's fault is
abbrev pub end_by : FrameFault → PeerEnd
end_by (Bad at why) = ends.Bad at why
end_by NoMemory = ends.NoMemory

-- ---- ends

-- all whole frames were met
abbrev pub IsCaughtUp : Way → List ℕ → Type 0
IsCaughtUp w rest = IsGoing w × IsUnfinished rest

-- What an end says of the way after the frames that were met, of the bytes taken behind them, and of what is left; so many
-- bytes came before.
abbrev pub PeerEndOf : PeerEnd → Schema → Plan → ℕ → Option (List Entry) → Option (List ℕ) → ℕ → List Frame → Way → List ℕ → Type 0
PeerEndOf ends.Bye o p m h' left' start met w rest = (w ≡ Ends ends.Bye) ⊎ (IsCaughtUp w rest × (2 ^ 40 ≤ start + length (stream met ++ rest)))
PeerEndOf (ends.Closed torn) o p m h' left' start met w rest = IsCaughtUp w rest × IsOver left' × (IsTrue torn ↔ (rest ≢ []))
PeerEndOf ends.BadHello o p m h' left' start met w rest = w ≡ Ends ends.BadHello
PeerEndOf (ends.Bad at why) o p m h' left' start met w rest = IsGoing w × ((place : ℕ) × (at ≡ start + place) × IsFault place why (stream met ++ rest))
PeerEndOf (ends.Refused why) o p m h' left' start met w rest = w ≡ Ends (ends.Refused why)
PeerEndOf ends.LinkFault o p m h' left' start met w rest = IsCaughtUp w rest
PeerEndOf ends.Stopped o p m h' left' start met w rest = (w ≡ Ends ends.Stopped) ⊎ (IsCaughtUp w rest × StoppedBy o p m h' true)
PeerEndOf ends.Full o p m h' left' start met w rest = w ≡ Ends ends.Full
PeerEndOf ends.NoMemory o p m h' left' start met w rest = (w ≡ Ends ends.NoMemory) ⊎ IsGoing w

-- all whole frames of what was taken were met
pub record Going (o : Schema) (p : Plan) (m : ℕ) (g : Greeting) (h h' : Option (List Entry)) (left left' : Option (List ℕ)) (greeted : Bool) (fed : Fed) : Type 0 where
  pub met : List Frame
  pub fit : AllFit met
  pub delivers : Delivers o p m g Waits h met (going greeted) h'
  pub took : Loses left left' (stream met ++ fed.rest)
  pub working : fed.fault ≡ None
  pub unfinished : IsUnfinished fed.rest
  pub total : fed.total ≡ length (stream met ++ fed.rest)

-- the frames of the stream were met up to the one at which it ends
pub record Peered (end : PeerEnd) (o : Schema) (p : Plan) (m : ℕ) (g : Greeting) (h h' : Option (List Entry)) (left left' : Option (List ℕ)) : Type 0 where
  pub met : List Frame
  pub rest : List ℕ
  pub way : Way
  pub delivers : Delivers o p m g Waits h met way h'
  pub took : Loses left left' (stream met ++ rest)
  pub ended : PeerEndOf end o p m h' left' 0 met way rest

-- the frames that one piece made whole were met
pub record GoesOn (o : Schema) (p : Plan) (m : ℕ) (g : Greeting) (h h' : Option (List Entry)) (greeted greeted' : Bool) (fed fed' : Fed) (bytes : List ℕ) : Type 0 where
  pub met : List Frame
  pub fit : AllFit met
  pub delivers : Delivers o p m g (going greeted) h met (going greeted') h'
  pub bytes_are : fed.rest ++ bytes ≡ stream met ++ fed'.rest
  pub working : fed'.fault ≡ None
  pub unfinished : IsUnfinished fed'.rest
  pub total : fed'.total ≡ fed.total + length bytes

-- the same at an end, where so many bytes came before the unfinished frame
pub record EndsIn (end : PeerEnd) (o : Schema) (p : Plan) (m : ℕ) (g : Greeting) (h h' : Option (List Entry)) (left' : Option (List ℕ)) (greeted : Bool) (fed : Fed) (bytes : List ℕ) : Type 0 where
  pub met : List Frame
  pub rest : List ℕ
  pub way : Way
  pub delivers : Delivers o p m g (going greeted) h met way h'
  pub bytes_are : fed.rest ++ bytes ≡ stream met ++ rest
  pub ended : (start : ℕ) → start + length fed.rest ≡ fed.total → PeerEndOf end o p m h' left' start met way rest

-- one look at the link: what it gave was read, and its frames were met
abbrev pub PeerRound : Schema → Plan → ℕ → Greeting → Option (List Entry) → Option (List Entry) → Option (List ℕ) → Option (List ℕ) → Bool → Bool → Fed → Fed → Type 0
PeerRound o p m g h h' left left' greeted greeted' fed fed' = (taken : List ℕ) × Loses left left' taken × GoesOn o p m g h h' greeted greeted' fed fed' taken

-- the same at an end
abbrev pub PeerHalt : PeerEnd → Schema → Plan → ℕ → Greeting → Option (List Entry) → Option (List Entry) → Option (List ℕ) → Option (List ℕ) → Bool → Fed → Type 0
PeerHalt e o p m g h h' left left' greeted fed = (taken : List ℕ) × Loses left left' taken × EndsIn e o p m g h h' left' greeted fed taken

-- ---- counts

-- what an end of a frame's says of the door's counts
abbrev pub MetBy : PeerEnd → ℕ → ℕ → ℕ → ℕ → ℕ → ℕ → Type 0
MetBy ends.Bye s s' f f' r r' = ⊤
MetBy (ends.Closed torn) s s' f f' r r' = ⊥
MetBy ends.BadHello s s' f f' r r' = ⊤
MetBy (ends.Bad at why) s s' f f' r r' = ⊥
MetBy (ends.Refused why) s s' f f' r r' = Rose r r'
MetBy ends.LinkFault s s' f f' r r' = ⊥
MetBy ends.Stopped s s' f f' r r' = Rose s s'
MetBy ends.Full s s' f f' r r' = Rose f f'
MetBy ends.NoMemory s s' f f' r r' = ⊤

-- what an end says of the link's counts of faults and ends, and of the door's
abbrev pub PeerEndsBy : PeerEnd → ℕ → ℕ → ℕ → ℕ → ℕ → ℕ → ℕ → ℕ → ℕ → ℕ → Type 0
PeerEndsBy ends.Bye l l' n n' s s' f f' r r' = ⊤
PeerEndsBy (ends.Closed torn) l l' n n' s s' f f' r r' = Rose n n'
PeerEndsBy ends.BadHello l l' n n' s s' f f' r r' = ⊤
PeerEndsBy (ends.Bad at why) l l' n n' s s' f f' r r' = ⊤
PeerEndsBy (ends.Refused why) l l' n n' s s' f f' r r' = Rose r r'
PeerEndsBy ends.LinkFault l l' n n' s s' f f' r r' = Rose l l'
PeerEndsBy ends.Stopped l l' n n' s s' f f' r r' = Rose s s'
PeerEndsBy ends.Full l l' n n' s s' f f' r r' = Rose f f'
PeerEndsBy ends.NoMemory l l' n n' s s' f f' r r' = ⊤

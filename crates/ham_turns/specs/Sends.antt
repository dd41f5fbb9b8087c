-- The table of turns: the frames that a turn sends, in order.
use Rattle.std.specs.Prelude.{ℕ, zero, suc, ◌+◌, ◌==◌, if◌then◌else◌, List, [], ◌∷◌, ◌++◌, map, take, drop, Option, Some, None, is_some, count_by}
use Rattle.std.specs.List.{flat_map}
use Rattle.ham_syntax.specs.declared.act.Act.{Act}
use Rattle.ham_syntax.specs.declared.limits.TheConstants.{MAX_DUE}
use Rattle.ham_syntax.specs.declared.act.Place.{Place}
use Rattle.ham_syntax.specs.declared.act.Call.{Call}
use Rattle.ham_frame.specs.declared.frame.Ruling.{Ruling}
use Rattle.ham_frame.specs.declared.frame.Ruled.{Ruled}
use Rattle.ham_turns.specs.declared.turn.Out.{Out}
use Rattle.ham_frame.specs.declared.frame.Frame.{Frame}
use Rattle.ham_frame.specs.declared.frame.Frame.TheVariants as frames
use Rattle.ham_turns.specs.declared.turn.Issued.{Issued}
use Rattle.ham_turns.specs.declared.turn.Issued.TheVariants as issued
use Rattle.ham_turns.specs.declared.turn.Delivered.TheVariants.{Repeat}
use Rattle.ham_turns.specs.declared.turn.What.{What}
use Rattle.ham_turns.specs.declared.turn.What.TheVariants as whats
use Rattle.ham_turns.specs.Settings.{Setting}
use Rattle.ham_turns.specs.Words.{ReplicaWords, Intake, ActComes, FrameComes, PartComes, Beat, in_lane, numbered}

-- 1 to n but for r: the peers of r
abbrev pub peers : ℕ → ℕ → List ℕ
peers r zero = []
peers r (suc n) = peers r n ++ (if suc n == r then [] else suc n ∷ [])

-- the lanes (or groups) below n that r decides
abbrev pub decided_by : Setting → ℕ → ℕ → List ℕ
decided_by y r zero = []
decided_by y r (suc n) = decided_by y r n ++ (if y.decider n == r then n ∷ [] else [])

-- a decided call goes to each peer
abbrev pub to_peers : Setting → ℕ → Option Call → List Out
to_peers y r None = []
to_peers y r (Some c) = map (λ q. record { to = q; frame = frames.Call c }) (peers r y.replicas)

-- the verdict goes back to who asked
abbrev pub back : ℕ → ℕ → ℕ → Option Ruling → List Out
back from g n None = []
back from g n (Some v) = record { to = from; frame = frames.Verdict g n v } ∷ []

abbrev pub kept_ruling : Option Ruled → Option Ruling
kept_ruling None = None
kept_ruling (Some d) = Some d.ruling

-- the requests from number n on that have no verdict
abbrev pub open_requests : ℕ → (ℕ → Option Ruling) → ℕ → List Act → List Frame
open_requests g verdict n [] = []
open_requests g verdict n (a ∷ rest) = (if is_some (verdict n) then [] else frames.Request g n a ∷ []) ++ open_requests g verdict (n + 1) rest

-- the lowest calls of a lane above the count that the peer acknowledged
abbrev pub due_calls : ReplicaWords → ℕ → ℕ → List Frame
due_calls w peer lane = map frames.Call (take MAX_DUE (drop (w.acked lane peer) (w.decided lane)))

-- the lowest requests to a group without a verdict
abbrev pub due_requests : ReplicaWords → ℕ → List Frame
due_requests w g = take MAX_DUE (open_requests g (w.verdict g) 1 (w.requests g))

-- what a tick sends to a peer: of each lane that is decided here, and of each group that the peer leads, ascending
abbrev pub due_to : Setting → ReplicaWords → ℕ → ℕ → List Frame
due_to y w r peer = flat_map (due_calls w peer) (decided_by y r y.lanes) ++ flat_map (due_requests w) (decided_by y peer y.groups)

-- what a delivery sends; `log` is the log after the turn
abbrev pub sent_back : Setting → ReplicaWords → ℕ → ℕ → Frame → What → Option Ruling → Option Call → List Place → List Out
sent_back y w r from (frames.Call c) answer ruled made log = record { to = from; frame = frames.Ack c.lane (count_by (in_lane c.lane) log) } ∷ []
sent_back y w r from (frames.Request g n a) (whats.Delivered Repeat) ruled made log = back from g n (kept_ruling (numbered (w.rulings from g) n))
sent_back y w r from (frames.Request g n a) answer ruled made log = to_peers y r made ++ back from g n ruled
sent_back y w r from (frames.Ack lane count) answer ruled made log = []
sent_back y w r from (frames.Verdict g n v) answer ruled made log = []
sent_back y w r from (frames.Hello version digest sender of) answer ruled made log = []
sent_back y w r from frames.Bye answer ruled made log = []

-- what an issue sends
abbrev pub sent_issued : Setting → ℕ → Act → Option Call → Issued → List Out
sent_issued y r a made (issued.Forwarded g n) = record { to = y.decider g; frame = frames.Request g n a } ∷ []
sent_issued y r a made (issued.Applied place) = to_peers y r made
sent_issued y r a made (issued.Impermissible u) = []

abbrev pub sent_for : Setting → ℕ → Act → Option Call → What → List Out
sent_for y r a made (whats.Issued i) = sent_issued y r a made i
sent_for y r a made (whats.Delivered d) = []
sent_for y r a made whats.Torn = []
sent_for y r a made whats.Ticked = []

-- what a turn sends
abbrev pub sent_by : Setting → ReplicaWords → ℕ → Intake → What → Option Ruling → Option Call → List Place → List Out
sent_by y w r (ActComes a) answer ruled made log = sent_for y r a made answer
sent_by y w r (FrameComes from k f) answer ruled made log = sent_back y w r from f answer ruled made log
sent_by y w r (PartComes from k f) answer ruled made log = []
sent_by y w r Beat answer ruled made log = flat_map (λ q. map (λ f. record { to = q; frame = f }) (due_to y w r q)) (peers r y.replicas)

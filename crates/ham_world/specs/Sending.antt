-- Frames on links.
use Rattle.std.specs.Prelude.{◌≡◌, ℕ, ◌+◌, ◌-◌, ◌*◌, ◌≤◌, ◌==◌, if◌then◌else◌, List, [], ◌∷◌, ◌++◌, map, Some, slice_get}
use Rattle.ham_syntax.specs.declared.limits.TheConstants.{MAX_REPLICAS}
use Rattle.ham_frame.specs.declared.frame.Frame.{Frame}
use Rattle.ham_frame.specs.Spelling.{Fits, spelling}
use Rattle.ham_turns.specs.declared.turn.Out.{Out}
use Rattle.ham_turns.specs.Sends.{peers}
use Rattle.ham_runs.specs.Runs.{addressed}

-- where the link from one replica to another is kept
abbrev pub place_of_link : ℕ → ℕ → ℕ
place_of_link from to = MAX_REPLICAS * (from - 1) + (to - 1)

-- the links hold the spellings of these frames
abbrev pub AreLinks : List (List (List ℕ)) → (ℕ → ℕ → List Frame) → Type 0
AreLinks links sent =
    (from to : ℕ) → 1 ≤ from → from ≤ MAX_REPLICAS → 1 ≤ to → to ≤ MAX_REPLICAS →
    slice_get links (place_of_link from to) ≡ Some (map spelling (sent from to))

-- what links hold after a replica sent these frames
abbrev pub sent_more : ℕ → List Out → (ℕ → ℕ → List Frame) → ℕ → ℕ → List Frame
sent_more me outs sent from to = if me == from then sent from to ++ addressed to outs else sent from to

-- the links hold these frames, besides what they held before
abbrev pub Sends : List (List (List ℕ)) → List (List (List ℕ)) → ℕ → List Out → Type 0
Sends old new me outs = (sent : ℕ → ℕ → List Frame) → AreLinks old sent → AreLinks new (sent_more me outs sent)

-- a frame that some link can take
pub record IsOnLink (out : Out) : Type 0 where
  pub fit : Fits out.frame
  pub some : 1 ≤ out.to
  pub few : out.to ≤ MAX_REPLICAS

-- ---- a frame that goes to each of the others

-- a frame to a replica, or nothing to the one that sends it
abbrev pub copy_to : ℕ → Frame → ℕ → List Out
copy_to by f q = map (λ q. record { to = q; frame = f }) (if q == by then [] else q ∷ [])

-- a frame to each replica up to n but one
abbrev pub copies : ℕ → Frame → ℕ → List Out
copies by f n = map (λ q. record { to = q; frame = f }) (peers by n)

-- the first replica but one
abbrev pub first_but : ℕ → ℕ
first_but by = if by == 1 then 2 else 1

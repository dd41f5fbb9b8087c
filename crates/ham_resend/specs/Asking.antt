-- Requests that were made, with their verdicts, by group, each by number from 1.
--     IsGroup                what is kept of the requests to a group
--     Makes, Tells           what a request, and a verdict, answers and leaves
--     asked_of               what is known of a request
--     due                    the lowest requests without a verdict
use Rattle.std.specs.Prelude.{◌≡◌, ℕ, zero, suc, ◌+◌, ◌-◌, ◌≤◌, ◌<◌, Bool, true, is_some, if◌then◌else◌, List, [], ◌∷◌, ◌++◌, length, take, get_or, set, Option, Some, None, Result, Ok, Err, IsSome}
use Rattle.std.specs.List.{list_all}
use Rattle.ham_syntax.specs.declared.act.Act.{Act}
use Rattle.ham_syntax.specs.declared.limits.TheConstants.{MAX_REQUESTS, MAX_DUE}
use Rattle.ham_lane.specs.Lanes.{numbered}
use Rattle.ham_frame.specs.declared.frame.Frame.{Frame}
use Rattle.ham_frame.specs.declared.frame.Frame.TheVariants as frames
use Rattle.ham_frame.specs.declared.frame.Ruling.{Ruling}
use Rattle.ham_frame.specs.declared.frame.Ruling.TheVariants as rulings
use Rattle.ham_resend.specs.declared.asks.Ask.{Ask}
use Rattle.ham_resend.specs.declared.asks.AskFault.{AskFault}
use Rattle.ham_resend.specs.declared.asks.AskFault.TheVariants as faults
use Rattle.ham_resend.specs.declared.asks.Asked.{Asked}
use Rattle.ham_resend.specs.declared.asks.Asked.TheVariants as asked
use Rattle.ham_resend.specs.declared.asks.Refused.TheVariants as refused
use Rattle.ham_resend.specs.declared.asks.Told.{Told}
use Rattle.ham_resend.specs.declared.asks.Told.TheVariants as told
use Rattle.ham_resend.specs.declared.asks.VerdictFault.{VerdictFault}
use Rattle.ham_resend.specs.declared.asks.VerdictFault.TheVariants as verdict

abbrev pub is_told : Ask → Bool
is_told a = is_some a.verdict

-- a request that was just made
abbrev pub asking : Act → Ask
asking act = record { act = act; verdict = None }

-- no more requests than are made to a group; those before `open_at` have a verdict
pub record IsGroup (made : List Ask) (open_at : ℕ) : Type 0 where
  pub few : length made ≤ MAX_REQUESTS
  pub within : open_at ≤ length made
  pub told : list_all is_told (take open_at made) ≡ true

-- `at` is where a look that begins at `from` stops: all before it have a verdict, if those before `from` do
pub record IsFirstOpen (made : List Ask) (from at : ℕ) : Type 0 where
  pub from_on : from ≤ at
  pub within : at ≤ length made
  pub told : list_all is_told (take from made) ≡ true → list_all is_told (take at made) ≡ true

-- what a request to one group leaves
abbrev pub MakesIn : List Ask → List Ask → Act → Result ℕ AskFault → Type 0
MakesIn old new act (Ok n) = (n ≡ length old + 1) × (new ≡ old ++ asking act ∷ []) × (length old < MAX_REQUESTS)
MakesIn old new act (Err (faults.Full max)) = (length old ≡ MAX_REQUESTS) × (max ≡ MAX_REQUESTS) × (new ≡ old)
MakesIn old new act (Err faults.NoMemory) = (length old < MAX_REQUESTS) × (new ≡ old)

-- the request has the next number, and no verdict; or the group was full; or memory ran out
abbrev pub Makes : List (List Ask) → List (List Ask) → ℕ → Act → Result ℕ AskFault → Type 0
Makes old new group act (Ok n) = (n ≡ length (get_or old group []) + 1) × (new ≡ set old group (get_or old group [] ++ asking act ∷ [])) × (length (get_or old group []) < MAX_REQUESTS)
Makes old new group act (Err (faults.Full max)) = (length (get_or old group []) ≡ MAX_REQUESTS) × (max ≡ MAX_REQUESTS) × (new ≡ old)
Makes old new group act (Err faults.NoMemory) = (length (get_or old group []) < MAX_REQUESTS) × (new ≡ old)

-- the request at an index with this verdict
abbrev pub told_at : List Ask → ℕ → Ruling → List Ask
told_at [] i v = []
told_at (a ∷ rest) zero v = record { act = a.act; verdict = Some v } ∷ rest
told_at (a ∷ rest) (suc i) v = a ∷ told_at rest i v

-- the verdict on a request, by its number
abbrev pub verdict_on : Option Ask → Option Ruling
verdict_on None = None
verdict_on (Some a) = a.verdict

-- the first verdict is kept; or the same came before; or no such request was made; or another verdict came before
abbrev pub Tells : List (List Ask) → List (List Ask) → ℕ → ℕ → Ruling → Result Told VerdictFault → Type 0
Tells old new group number v (Ok told.First) =
    IsSome (numbered (get_or old group []) number) × (verdict_on (numbered (get_or old group []) number) ≡ None)
    × (new ≡ set old group (told_at (get_or old group []) (number - 1) v))
Tells old new group number v (Ok told.Again) = (verdict_on (numbered (get_or old group []) number) ≡ Some v) × (new ≡ old)
Tells old new group number v (Err (verdict.Unknown len)) = (numbered (get_or old group []) number ≡ None) × (len ≡ length (get_or old group [])) × (new ≡ old)
Tells old new group number v (Err (verdict.Differs kept)) = (verdict_on (numbered (get_or old group []) number) ≡ Some kept) × (v ≡ kept → ⊥) × (new ≡ old)

abbrev pub asked_with : Option Ruling → Asked
asked_with None = asked.Pending
asked_with (Some (rulings.Applied n)) = asked.Applied n
asked_with (Some (rulings.Guard g)) = asked.Refused (refused.Guard g)
asked_with (Some (rulings.Invariant i)) = asked.Refused (refused.Invariant i)
asked_with (Some rulings.Full) = asked.Refused refused.Full

abbrev pub asked_by : Option Ask → Asked
asked_by None = asked.Unknown
asked_by (Some a) = asked_with a.verdict

-- what is known of a request; of a group that isn't there, nothing
abbrev pub asked_of : List (List Ask) → ℕ → ℕ → Asked
asked_of groups group number = asked_by (numbered (get_or groups group []) number)

-- the requests from number n on that have no verdict
abbrev pub open_from : ℕ → ℕ → List Ask → List Frame
open_from g n [] = []
open_from g n (a ∷ rest) = (if is_told a then [] else frames.Request g n a.act ∷ []) ++ open_from g (n + 1) rest

-- the lowest of them
abbrev pub due : ℕ → List Ask → List Frame
due g made = take MAX_DUE (open_from g 1 made)

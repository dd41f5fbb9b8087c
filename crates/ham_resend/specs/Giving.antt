-- Rulings that were given, by sender and group, each by number from 1.
--     Given, given_at, with_given     the rulings on one sender's requests to a group
--     KeepsRulings, AddsRuling, Rules     what a call leaves
use Rattle.std.specs.Prelude.{◌≡◌, ℕ, ◌+◌, ◌-◌, List, [], ◌∷◌, ◌++◌, length, get_or, set, Result, Ok, Err, vec_len, vec_capacity}
use Rattle.std.specs.Global.{Vec}
use Rattle.ham_lists.specs.declared.list.NoMemory.{NoMemory}
use Rattle.ham_frame.specs.declared.frame.Ruled.{Ruled}

pub record Given : Type 0 where
  pub ruled : List Ruled
  -- for how many more there is room
  pub spare : ℕ

abbrev pub shown_given : Vec Ruled → Given
shown_given ruled = record { ruled = ruled.items; spare = vec_capacity ruled - vec_len ruled }

abbrev pub none_given : Given
none_given = record { ruled = []; spare = 0 }

-- the rulings on a sender's requests to a group
abbrev pub given_at : List (List Given) → ℕ → ℕ → Given
given_at senders from group = get_or (get_or senders from []) group none_given

-- the senders, with other rulings for one of them and a group
abbrev pub with_given : List (List Given) → ℕ → ℕ → Given → List (List Given)
with_given senders from group g = set senders from (set (get_or senders from []) group g)

-- the same rulings, perhaps with other room for this sender and group
pub record KeepsRulings (old new : List (List Given)) (from group : ℕ) : Type 0 where
  pub room : ℕ
  pub same : new ≡ with_given old from group (record { ruled = (given_at old from group).ruled; spare = room })

-- one ruling more for this sender and group, the last
pub record AddsRuling (old new : List (List Given)) (from group : ℕ) (d : Ruled) : Type 0 where
  pub room : ℕ
  pub ruled : new ≡ with_given old from group (record { ruled = (given_at old from group).ruled ++ d ∷ []; spare = room })

pub record RuledAs (old new : List (List Given)) (from group : ℕ) (d : Ruled) (n : ℕ) : Type 0 where
  pub number : n ≡ length (given_at old from group).ruled + 1
  pub now : AddsRuling old new from group d

-- there was no room, and memory ran out
pub record LacksRoom (old new : List (List Given)) (from group : ℕ) : Type 0 where
  pub none : (given_at old from group).spare ≡ 0
  pub now : KeepsRulings old new from group

-- the ruling has the next number; or memory ran out
abbrev pub Rules : List (List Given) → List (List Given) → ℕ → ℕ → Ruled → Result ℕ NoMemory → Type 0
Rules old new from group d (Ok n) = RuledAs old new from group d n
Rules old new from group d (Err _) = LacksRoom old new from group

-- Logs that were recorded, one for each replica, and what is read off them. Replicas and indexes count from 1.
use Rattle.std.specs.Prelude.{ℕ, Bool, true, false, if◌then◌else◌, List, [], ◌∷◌, ◌++◌, map, length, Option, Some, None}
use Rattle.std.specs.List.{range_with_len}
use Rattle.ham_syntax.specs.declared.act.Act.{Act}
use Rattle.ham_syntax.specs.declared.act.Place.{Place}
use Rattle.ham_turns.specs.Settings.{Setting}
use Rattle.ham_turns.specs.Words.{same_place, numbered}
use Rattle.ham_runs.specs.Runs.{no_act}
use Rattle.ham_records.specs.declared.records.Logged.{Logged}

abbrev pub or_empty : Option (List Logged) → List Logged
or_empty None = []
or_empty (Some log) = log

-- the log of a replica
abbrev pub log_of : List (List Logged) → ℕ → List Logged
log_of records r = or_empty (numbered records r)

abbrev pub replicas : List (List Logged) → List ℕ
replicas records = range_with_len 1 (length records)

abbrev pub places : List Logged → List Place
places log = map (λ e. e.place) log

-- the places of all logs
abbrev pub every_place : List (List Logged) → List Place
every_place [] = []
every_place (log ∷ rest) = places log ++ every_place rest

-- whether the place stands in the list
abbrev pub stands : Place → List Place → Bool
stands c [] = false
stands c (x ∷ xs) = if same_place x c then true else stands c xs

-- what precedes the place in the list
abbrev pub front_of : Place → List Place → List Place
front_of c [] = []
front_of c (x ∷ xs) = if same_place x c then [] else x ∷ front_of c xs

-- the act of the first call at the place
abbrev pub act_at : Place → List Logged → Act
act_at c [] = no_act
act_at c (e ∷ rest) = if same_place e.place c then e.act else act_at c rest

-- the log of the replica that decides the place's lane
abbrev pub deciding_log : Setting → List (List Logged) → Place → List Logged
deciding_log y records c = log_of records (y.decider c.lane)

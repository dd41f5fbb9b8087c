-- What a link may answer, and what it tells.
--     Answers, Takes, Sends     of a get, and of a put
--     Loses, IsOver             what is left loses these bytes; nothing is left
--     Goes, GoesSome            what was sent gains this text, or a front of it
use Rattle.std.specs.Prelude.{◌≡◌, ℕ, ◌≤◌, List, [], ◌++◌, take, Option, Some, None, Result, Ok, Err, ⊤}
use Rattle.ham_bytes.specs.Causes.{Rose}
use Rattle.ham_links.specs.declared.link.Got.{Got}
use Rattle.ham_links.specs.declared.link.Got.TheVariants.{Bytes, Quiet, End}
use Rattle.ham_links.specs.declared.link.LinkFault.{LinkFault}

-- how much came; the count of ends or of faults rose
abbrev pub Answers : Result Got LinkFault → ℕ → ℕ → ℕ → ℕ → ℕ → Type 0
Answers (Ok (Bytes n)) room faults faults' ends ends' = (1 ≤ n) × (n ≤ room)
Answers (Ok Quiet) room faults faults' ends ends' = ⊤
Answers (Ok End) room faults faults' ends ends' = Rose ends ends'
Answers (Err e) room faults faults' ends ends' = Rose faults faults'

-- what is left, where it is told, loses these bytes
abbrev pub Loses : Option (List ℕ) → Option (List ℕ) → List ℕ → Type 0
Loses (Some left) (Some left') bytes = left ≡ bytes ++ left'
Loses None None bytes = ⊤
Loses (Some left) None bytes = ⊥
Loses None (Some left) bytes = ⊥

-- what was sent, where it is told, gains them
abbrev pub Goes : Option (List ℕ) → Option (List ℕ) → List ℕ → Type 0
Goes (Some sent) (Some sent') text = sent' ≡ sent ++ text
Goes None None text = ⊤
Goes (Some sent) None text = ⊥
Goes None (Some sent) text = ⊥

abbrev pub GoesSome : Option (List ℕ) → Option (List ℕ) → List ℕ → Type 0
GoesSome sent sent' text = (front : List ℕ) × (rest : List ℕ) × (text ≡ front ++ rest) × Goes sent sent' front

-- nothing is left, where it is told
abbrev pub IsOver : Option (List ℕ) → Type 0
IsOver (Some left) = left ≡ []
IsOver None = ⊤

abbrev pub Takes : Result Got LinkFault → Option (List ℕ) → List ℕ → Option (List ℕ) → Type 0
Takes (Ok (Bytes n)) left buf left' = Loses left left' (take n buf)
Takes (Ok Quiet) left buf left' = left' ≡ left
Takes (Ok End) left buf left' = (left' ≡ left) × IsOver left
Takes (Err e) left buf left' = left' ≡ left

abbrev pub Sends : Result ℕ LinkFault → List ℕ → Option (List ℕ) → Option (List ℕ) → Type 0
Sends (Ok n) piece sent sent' = Goes sent sent' (take n piece)
Sends (Err e) piece sent sent' = sent' ≡ sent

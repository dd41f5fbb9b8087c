-- What a tick sends.
use Rattle.std.specs.Prelude.{ℕ, ◌==◌, if◌then◌else◌, List, [], ◌∷◌, map}
use Rattle.std.specs.List.{flat_map}
use Rattle.ham_frame.specs.declared.frame.Frame.{Frame}
use Rattle.ham_turns.specs.declared.turn.Out.{Out}
use Rattle.ham_turns.specs.declared.turn.What.TheVariants as whats
use Rattle.ham_turns.specs.Settings.{Setting}
use Rattle.ham_turns.specs.Words.{ReplicaWords, Beat}
use Rattle.ham_turns.specs.Sends.{peers, due_to}
use Rattle.ham_site.specs.declared.out.Turn.{Turn}
use Rattle.ham_site.specs.Sites.{Site}
use Rattle.ham_replica.specs.Values.{Lists}
use Rattle.ham_replica.specs.Issues.{Answers}

abbrev pub addressed : ℕ → List Frame → List Out
addressed q fs = map (λ f. record { to = q; frame = f }) fs

-- a lane or group, if r decides it
abbrev pub if_decided : Setting → ℕ → ℕ → List ℕ
if_decided y r l = if y.decider l == r then l ∷ [] else []

-- what r sends to a replica: to itself nothing
abbrev pub due_to_peer : Setting → ReplicaWords → ℕ → ℕ → List Out
due_to_peer y w r q = if q == r then [] else addressed q (due_to y w r q)

-- what r sends to its peers
abbrev pub all_due : Setting → ReplicaWords → ℕ → List Out
all_due y w r = flat_map (λ q. addressed q (due_to y w r q)) (peers r y.replicas)

abbrev pub IsTicked : Site → Lists → Turn Unit → Type 0
IsTicked site v t = Answers site v v Beat whats.Ticked t.logged t.out t.settled

-- A node whose object is there is stopped, unless something outside fails.
use Rattle.std.proofs.Common.{◌≡◌, ℕ, List, [], ◌∷◌, ◌++◌, ◌≤◌, Option, Some, None, ◌⊎◌, inl, inr, refl, sym, ap, subst}
use Rattle.std.specs.Prelude.{IfSome, Ok, Err}
use Rattle.ham_syntax.specs.Objects.{Schema}
use Rattle.ham_bytes.specs.Causes.{Rose}
use Rattle.ham_bytes.specs.Outside.{FetchesFrom, Seeks}
use Rattle.ham_bytes.specs.declared.shelf.File.{File}
use Rattle.ham_bytes.specs.declared.shelf.FetchFault.{FetchFault}
use Rattle.ham_bytes.specs.declared.shelf.FetchFault.TheVariants as fetches
use Rattle.ham_objfile.specs.Texts.{IsAnsweredOnce}
use Rattle.ham_workers.specs.declared.run.ReplicaEnd.{ReplicaEnd}
use Rattle.ham_workers.specs.declared.run.ReplicaEnd.TheVariants as replica_ends
use Rattle.ham_cli.specs.declared.exit.Exit.{Exit}
use Rattle.ham_cli.specs.declared.exit.Exit.TheVariants as exits
use Rattle.ham_node_cli.specs.declared.node.NodeEnd.{NodeEnd}
use Rattle.ham_node_cli.specs.declared.node.NodeEnd.TheVariants as ends
use Rattle.ham_syntax.specs.declared.limits.TheConstants.{MAX_OBJECT_BYTES}
use Rattle.ham_cli.specs.Exits.{IsCounted, exit_of_fetch}
use Rattle.ham_cli.specs.Files.{HasFile, Stops}
use Rattle.ham_plan.specs.Plans.{Plan}
use Rattle.ham_turns.specs.Settings.{setting_of, IsReplica}
use Rattle.ham_node_cli.specs.NodeWords.{AskedNode, IsOneOf}
use Rattle.ham_node_cli.specs.NodeEnds.{end_by, EndsReadNode, EndsNode, SeeksNode, IsNodeCounted, CompletesNode}
use Rattle.ham_cli.proofs.Ending.{has_file, stops}
use Rattle.ham_cli.proofs.Completing.{one_file, not_too_long, unread_memory}

-- a file that is there and within its limit stops nothing but for want of memory
stops_memory : (files : List File) (name : List ℕ) (a : List ℕ) (before now : Option (List ℕ)) (s s' k k' : ℕ) (exit : Exit)
    → HasFile files name MAX_OBJECT_BYTES a → IsCounted s s' k k' exit → ¬ Rose s s' → Stops files name MAX_OBJECT_BYTES before now exit → exit ≡ exits.NoMemory
stops_memory files name a before now s s' k k' exits.Done has counted reads h = absurd h
stops_memory files name a before now s s' k k' exits.Usage has counted reads h = absurd h
stops_memory files name a before now s s' k k' exits.ObjectRefused has counted reads h = absurd h
stops_memory files name a before now s s' k k' exits.ScheduleRefused has counted reads h = absurd h
stops_memory files name a before now s s' k k' exits.ReadFault has counted reads h = absurd (reads counted)
stops_memory files name a before now s s' k k' exits.WriteFault has counted reads h = absurd h
stops_memory files name a before now s s' k k' exits.NoMemory has counted reads h = refl
stops_memory files name a before now s s' k k' exits.TooLong has counted reads h = absurd (not_too_long files name MAX_OBJECT_BYTES a has h.0)
stops_memory files name a before now s s' k k' exits.DerivationRefused has counted reads h = absurd h
stops_memory files name a before now s s' k k' exits.AuditRefused has counted reads h = absurd h

abbrev Well : NodeEnd → Type 0
Well end = (end ≡ ends.Stopped) ⊎ (end ≡ ends.Ended exits.NoMemory)

with_replica : (s s' b b' k k' : ℕ) (e : ReplicaEnd) → IsNodeCounted s s' b b' k k' (end_by e) → ¬ Rose b b' → ¬ Rose k k' → Well (end_by e)
with_replica s s' b b' k k' replica_ends.Stopped counted boards writes = inl refl
with_replica s s' b b' k k' replica_ends.BoardFault counted boards writes = absurd (boards counted)
with_replica s s' b b' k k' replica_ends.WriteFault counted boards writes = absurd (writes counted)
with_replica s s' b b' k k' replica_ends.NoMemory counted boards writes = inr refl

memory : (end : NodeEnd) (exit : Exit) → end ≡ ends.Ended exit → exit ≡ exits.NoMemory → Well end
memory end exit is e = inr (subst (λ (x : Exit). end ≡ ends.Ended x) e is)

pub node_completes : IsAnsweredOnce → (a : AskedNode) (files : List File) (before now : Option (List ℕ)) (s s' b b' k k' : ℕ) (end : NodeEnd)
    → IsNodeCounted s s' b b' k k' end → EndsNode a files before now end → CompletesNode a files (Rose s s') (Rose b b') (Rose k k') end
node_completes one a files before now s s' b b' k k' end counted h text o has is reads boards writes =
    elim h [
      | inl e ↦ memory end e.0 e.1 (stops_memory files a.object text before now s s' k k' e.0 has (subst (IsNodeCounted s s' b b' k k') e.1 counted) reads e.2)
      | inr t ↦
          let read : EndsReadNode text a before now end = subst (λ (x : List ℕ). EndsReadNode x a before now end) (one_file files a.object MAX_OBJECT_BYTES t.0 text t.1 has) t.2 in
          elim read [
            | inl u ↦ memory end u.0 u.1 (unread_memory one text o before now u.0 is u.2)
            | inr w ↦ elim w.2 [
              | inl m ↦ inr m.0
              | inr r ↦ subst Well (sym r.is) (with_replica s s' b b' k k' r.end_of (subst (IsNodeCounted s s' b b' k k') r.is counted) boards writes)
            ]
          ]
    ]

pub completes_held : IsAnsweredOnce → (a : AskedNode) (held : Option (List File)) (before now : Option (List ℕ)) (s s' b b' k k' : ℕ) (end : NodeEnd)
    → IsNodeCounted s s' b b' k k' end → IfSome held (λ files. EndsNode a files before now end) → IfSome held (λ files. CompletesNode a files (Rose s s') (Rose b b') (Rose k k') end)
completes_held one a None before now s s' b b' k k' end counted h = tt
completes_held one a (Some files) before now s s' b b' k k' end counted h = node_completes one a files before now s s' b b' k k' end counted h

-- ---- the object's file

pub fetched : (held : Option (List File)) (a : AskedNode) (bytes text : List ℕ) (before now : Option (List ℕ)) (end : NodeEnd) → FetchesFrom held a.object MAX_OBJECT_BYTES (Ok bytes) → text ≡ bytes → EndsReadNode text a before now end
    → IfSome held (λ files. EndsNode a files before now end)
fetched None a bytes text before now end found same ends = tt
fetched (Some files) a bytes text before now end found same ends = inr (bytes, has_file files a.object bytes MAX_OBJECT_BYTES found, subst (λ (x : List ℕ). EndsReadNode x a before now end) same ends)

pub unfetched : (held : Option (List File)) (a : AskedNode) (t : Option (List ℕ)) (fault : FetchFault) (exit : Exit) → FetchesFrom held a.object MAX_OBJECT_BYTES (Err fault) → exit ≡ exit_of_fetch fault → IfSome held (λ files. EndsNode a files t t (ends.Ended exit))
unfetched None a t fault exit found at = tt
unfetched (Some files) a t fault exit found at = inl (exit, refl, stops files a.object MAX_OBJECT_BYTES t fault exit found at)

pub unsought : (a : AskedNode) (before now : List (List ℕ)) (fault : FetchFault) (exit : Exit) → Seeks before now a.object (Err fault) → exit ≡ exit_of_fetch fault → SeeksNode a before now (ends.Ended exit)
unsought a before now fetches.Failed exit s at = inr s
unsought a before now (fetches.TooLong l) exit s at = inr s
unsought a before now fetches.NoMemory exit s at = elim s [
  | inl noted ↦ inr noted
  | inr same ↦ inl (ap ends.Ended at, same)
]

-- ---- the replica

-- one of the plan's replicas
pub one_of : (p : Plan) (me n : ℕ) → p.replicas ≡ n → IsOneOf me n → IsReplica (setting_of p) me
unfolding setting_of
one_of p me n e h = (h.some, subst (λ (x : ℕ). me ≤ x) (sym e) h.within)

-- How `node OBJECT ME BASE1 .. BASEN` ends: it runs a replica of the plan that the rules derive.
--     EndsNode           the end and the text
--     SeeksNode          the object's file was asked for
--     IsNodeCounted      which count rose
--     CompletesNode      when it was stopped, or memory ran out
use Rattle.std.specs.Prelude.{◌≡◌, ◌⊎◌, ℕ, List, [], ◌∷◌, ◌++◌, length, Option, ⊤}
use Rattle.ham_syntax.specs.declared.limits.TheConstants.{MAX_OBJECT_BYTES}
use Rattle.ham_syntax.specs.Objects.{Schema}
use Rattle.ham_bytes.specs.Causes.{Rose}
use Rattle.ham_bytes.specs.declared.shelf.File.{File}
use Rattle.ham_objfile.specs.Texts.{IsText}
use Rattle.ham_plan.specs.Plans.{Plan}
use Rattle.ham_workers.specs.declared.run.ReplicaEnd.{ReplicaEnd}
use Rattle.ham_workers.specs.declared.run.ReplicaEnd.TheVariants as replica_ends
use Rattle.ham_workers.specs.RunEnds.{EndsRun}
use Rattle.ham_cli.specs.declared.exit.Exit.{Exit}
use Rattle.ham_cli.specs.declared.exit.Exit.TheVariants as exits
use Rattle.ham_cli.specs.Exits as of_exits
use Rattle.ham_cli.specs.Files.{HasFile, Stops, EndsUnread}
use Rattle.ham_cli.specs.Plans.{IsPlanFor}
use Rattle.ham_cli.specs.Told.{Nothing}
use Rattle.ham_cli.specs.Top.{EndsAsUsage}
use Rattle.ham_node_cli.specs.declared.node.NodeEnd.{NodeEnd}
use Rattle.ham_node_cli.specs.declared.node.NodeEnd.TheVariants as ends
use Rattle.ham_node_cli.specs.NodeWords.{AskedNode}

-- the status of the process
abbrev pub status_of : NodeEnd → ℕ
status_of ends.Stopped = 0
status_of ends.BoardFault = 9
status_of (ends.Ended exit) = of_exits.status_of exit

abbrev pub end_by : ReplicaEnd → NodeEnd
end_by replica_ends.Stopped = ends.Stopped
end_by replica_ends.BoardFault = ends.BoardFault
end_by replica_ends.WriteFault = ends.Ended exits.WriteFault
end_by replica_ends.NoMemory = ends.Ended exits.NoMemory

-- it ended as any command may
abbrev pub EndsAs : NodeEnd → (Exit → Type 0) → Type 0
EndsAs end Ends = (exit : Exit) × (end ≡ ends.Ended exit) × Ends exit

-- words of no node are answered by the usage line
abbrev pub EndsUnasked : Option (List ℕ) → Option (List ℕ) → NodeEnd → Type 0
EndsUnasked before now end = EndsAs end (EndsAsUsage before now)

-- the replica that was asked for, of the plan that the rules derive, ran and ended so
pub record RunsReplica (o : Schema) (a : AskedNode) (before now : Option (List ℕ)) (end : NodeEnd) : Type 0 where
  pub plan : Plan
  pub is_plan : IsPlanFor o (length a.bases) plan
  pub end_of : ReplicaEnd
  pub runs : EndsRun o plan a.me before now end_of
  pub is : end ≡ end_by end_of

-- or memory ran out before, and nothing was written
abbrev pub EndsWithNode : Schema → AskedNode → Option (List ℕ) → Option (List ℕ) → NodeEnd → Type 0
EndsWithNode o a before now end = ((end ≡ ends.Ended exits.NoMemory) × Nothing before now) ⊎ RunsReplica o a before now end

-- the bytes of the object's file are no object's text, or an object's
abbrev pub EndsReadNode : List ℕ → AskedNode → Option (List ℕ) → Option (List ℕ) → NodeEnd → Type 0
EndsReadNode text a before now end = EndsAs end (EndsUnread text before now) ⊎ ((o : Schema) × IsText text o × EndsWithNode o a before now end)

-- it ends at its object's file, or has its bytes
abbrev pub EndsNode : AskedNode → List File → Option (List ℕ) → Option (List ℕ) → NodeEnd → Type 0
EndsNode a files before now end =
    EndsAs end (Stops files a.object MAX_OBJECT_BYTES before now)
    ⊎ ((text : List ℕ) × HasFile files a.object MAX_OBJECT_BYTES text × EndsReadNode text a before now end)

-- the object's file was asked for, and no other, or there was no memory to note it
abbrev pub SeeksNode : AskedNode → (before now : List (List ℕ)) → NodeEnd → Type 0
SeeksNode a before now end = ((end ≡ ends.Ended exits.NoMemory) × (now ≡ before)) ⊎ (now ≡ before ++ a.object ∷ [])

-- a fault of the shelf, the board or the sink comes only where its count rose
abbrev pub IsNodeCounted : (shelf shelf_now board board_now sink sink_now : ℕ) → NodeEnd → Type 0
IsNodeCounted shelf shelf_now board board_now sink sink_now ends.Stopped = ⊤
IsNodeCounted shelf shelf_now board board_now sink sink_now ends.BoardFault = Rose board board_now
IsNodeCounted shelf shelf_now board board_now sink sink_now (ends.Ended exit) = of_exits.IsCounted shelf shelf_now sink sink_now exit

-- An object that is there, and no count of faults that rose, give Stopped, or memory ran out.
abbrev pub CompletesNode : AskedNode → List File → (reads_failed boards_failed writes_failed : Type 0) → NodeEnd → Type 0
CompletesNode a files reads_failed boards_failed writes_failed end =
    (text : List ℕ) (o : Schema) → HasFile files a.object MAX_OBJECT_BYTES text → IsText text o → ¬ reads_failed → ¬ boards_failed → ¬ writes_failed
    → (end ≡ ends.Stopped) ⊎ (end ≡ ends.Ended exits.NoMemory)

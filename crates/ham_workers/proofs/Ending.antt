-- How a replica's text comes together.
use Rattle.std.proofs.Common.{◌≡◌, ◌≤◌, ℕ, List, [], ◌++◌, Option, subst, sym, inl, inr, arith, append-nil}
use Rattle.ham_syntax.specs.Objects.{Schema}
use Rattle.ham_plan.specs.Plans.{Plan}
use Rattle.ham_bytes.specs.Outside.{TakesWhole}
use Rattle.ham_bytes.proofs.Gathering.{TakesWhole-trans, TakesSome-after}
use Rattle.ham_workers.specs.declared.run.ReplicaEnd.{ReplicaEnd}
use Rattle.ham_workers.specs.declared.run.ReplicaEnd.TheVariants as ends
use Rattle.ham_workers.specs.Sums.{IsSumOf}
use Rattle.ham_workers.specs.RunEnds.{seats_of, ready_line, stopped_line, PutsStopped, EndsRun, IsRunCounted}

-- the last line after the first
pub ends_after : (o : Schema) (p : Plan) (me : ℕ) (before mid now : Option (List ℕ)) (entries seats : ℕ) (end : ReplicaEnd)
    → TakesWhole before mid ready_line → seats_of p.replicas ≡ seats → IsSumOf o p me entries seats → PutsStopped mid now entries end → EndsRun o p me before now end
ends_after o p me before mid now entries seats ends.Stopped w e s t =
    (entries, subst (IsSumOf o p me entries) (sym e) s, TakesWhole-trans before mid now ready_line (stopped_line entries) w t)
ends_after o p me before mid now entries seats ends.BoardFault w e s t = absurd t
ends_after o p me before mid now entries seats ends.WriteFault w e s t =
    inr (entries, subst (IsSumOf o p me entries) (sym e) s, TakesSome-after before mid now ready_line (stopped_line entries) w t)
ends_after o p me before mid now entries seats ends.NoMemory w e s t =
    inr (subst (TakesWhole before now) (append-nil ready_line) (TakesWhole-trans before mid now ready_line [] w t))

-- a fault of the sink that came later came since the beginning
pub counted_since : (board board_now before mid now : ℕ) (end : ReplicaEnd) → before ≤ mid → IsRunCounted board board_now mid now end → IsRunCounted board board_now before now end
counted_since board board_now before mid now ends.Stopped le h = tt
counted_since board board_now before mid now ends.BoardFault le h = h
counted_since board board_now before mid now ends.WriteFault le h = omega (arith, le, h)
counted_since board board_now before mid now ends.NoMemory le h = tt

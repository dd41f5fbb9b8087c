-- What the calls of a replica owe, from what its lists do.
use Rattle.std.proofs.Common.{◌≡◌, ℕ, Bool, List, [], ◌∷◌, map, Ok, Err, Result, refl, sym, subst, ap, inl, inr}
use Rattle.std.specs.Prelude.{Option, IsSome, IfOk, Some, ◌↔◌}
use Rattle.std.specs.List.{AllByRecursion}
use Rattle.ham_lists.specs.declared.list.NoMemory.{NoMemory}
use Rattle.ham_syntax.specs.declared.act.Act.{Act}
use Rattle.ham_syntax.specs.declared.act.Call.{Call}
use Rattle.ham_syntax.specs.declared.act.Place.{Place}
use Rattle.ham_plan.specs.Lists.{In}
use Rattle.ham_frame.specs.declared.frame.Frame.{Frame}
use Rattle.ham_frame.specs.Spelling.{Fits}
use Rattle.ham_turns.specs.declared.turn.Delivered.{Delivered}
use Rattle.ham_turns.specs.declared.turn.Issued.{Issued}
use Rattle.ham_turns.specs.declared.turn.IssueRefusal.{IssueRefusal}
use Rattle.ham_turns.specs.declared.turn.DeliverRefusal.{DeliverRefusal}
use Rattle.ham_turns.specs.Words.{place_of}
use Rattle.ham_site.specs.declared.out.Turn.{Turn}
use Rattle.ham_site.specs.Sites.{Site, rules_at}
use Rattle.ham_replica.specs.Values.{Lists, Replica}
use Rattle.ham_replica.specs.Looks.{logged_call}
use Rattle.ham_replica.specs.Kept.{IsKept}
use Rattle.ham_replica.specs.Drains.{Drains}
use Rattle.ham_replica.specs.Issues.{IssuesIn}
use Rattle.ham_replica.specs.Deliveries.{MayDeliver, DeliversIn}
use Rattle.ham_replica.specs.Ticks.{IsTicked}
use Rattle.ham_replica.specs.Turning.{Issues, Delivers, Ticks, HasDrained}
use Rattle.ham_replica.proofs.Sending.{issue_sendable, deliver_sendable, tick_sendable}

abbrev replica : Site → Lists → Replica
replica site v = record { site = site; lists = v }

module _ (site : Site) (v w : Lists) where
  pub issues : (a : Act) (r : Result (Turn Issued) IssueRefusal) → IsKept site v → IssuesIn site v w a r → Issues (replica site v) (replica site w) a r
  unfolding rules_at
  issues a (Ok t) is h = (
    h.accepted,
    record { turn = h.answers.turn; sends = issue_sendable site v w is _ _ _ _ a h.frame h.accepted h.answers },
  )
  issues a (Err why) is h = (ap (replica site) h.0, h.1)

  pub delivers : (from : ℕ) (f : Frame) (r : Result (Turn Delivered) DeliverRefusal) → MayDeliver site v from → Fits f → DeliversIn site v w from f r → Delivers (replica site v) (replica site w) from f r
  unfolding rules_at
  delivers from f (Ok t) may fits h = (
    h.accepted,
    λ which. record { turn = (h.answers which).turn; sends = deliver_sendable site v w may.kept _ _ _ _ from which may f fits h.accepted (h.answers which) },
  )
  delivers from f (Err why) may fits h = (ap (replica site) h.0, h.1)

  pub drained : (places : List Place) (done : Bool) → Drains site v w [] places done → HasDrained (replica site v) (replica site w) places done
  unfolding rules_at
  drained places done d = record { calls = d.goes.calls; drain = d.goes.logs; logged = d.goes.told; settled = d.settled }

pub ticks : (site : Site) (v : Lists) (t : Turn Unit) → IsKept site v → IsTicked site v t → Ticks (replica site v) t
unfolding rules_at
ticks site v t is h = record { turn = h.turn; sends = tick_sendable site v v is _ _ _ _ h }

pub ticks_if : (site : Site) (v : Lists) (r : Result (Turn Unit) NoMemory) → IsKept site v → IfOk r (λ t. IsTicked site v t) → IfOk r (λ t. Ticks (replica site v) t)
ticks_if site v (Ok t) is h = ticks site v t is h
ticks_if site v (Err e) is h = tt

-- ---- calls by their places

some_at : (v : Lists) (calls : List Call) (p : Place) → AllByRecursion (λ c. logged_call v (place_of c) ≡ Some c) calls → In p (map place_of calls) → IsSome (logged_call v p)
some_at v [] p kept there = absurd there
some_at v (c ∷ calls) p kept (inl e) = subst (λ z. IsSome (logged_call v z)) (sym e) (is_there (logged_call v (place_of c)) c kept.0)
  where
    is_there : (o : Option Call) (c : Call) → o ≡ Some c → IsSome o
    is_there o c e = subst IsSome (sym e) refl
some_at v (c ∷ calls) p kept (inr there) = some_at v calls p kept.1 there

pub call_there : (site : Site) (v : Lists) (p : Place) → IsKept site v → IsSome (logged_call v p) ↔ In p v.log
call_there site v p is = (is.folded.only p, λ there. some_at v is.folded.calls p is.folded.kept (subst (In p) is.folded.places there))

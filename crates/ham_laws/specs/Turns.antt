-- What a turn owes, so that an execution stays well-coordinated: a decision and a drain.
use Rattle.std.specs.Prelude.{◌≡◌, ◌≢◌, ◌++◌, ℕ, true, List, [], ◌∷◌}
use Rattle.ham_syntax.specs.declared.act.Place.{Place}
use Rattle.ham_meaning.specs.Relations.{Meaning}
use Rattle.ham_plan.specs.Lists.{In, Within, StartsWith}
use Rattle.ham_laws.specs.Executions.{Constraints, IsSound, Execution, method_of, end_of, IsClosed, IsWellCoordinated}
use Rattle.ham_laws.specs.Drain.{LogsWaiting, Drains}

-- of the calls decided in e, the later execution says what e says
pub record Extends {C A : Type 0} (e later : Execution C A) : Type 0 where
  pub act : (c : C) → In c e.decided → later.act c ≡ e.act c
  pub lane : (c : C) → In c e.decided → later.lane c ≡ e.lane c
  pub decider : (c : C) → In c e.decided → later.decider c ≡ e.decider c
  pub before : (c : C) → In c e.decided → later.before c ≡ e.before c

-- the replica r decides the call c, and logs it
pub record IsDecision {C : Type 0} (m : Meaning) (p : Constraints) (e later : Execution C m.Act) (r : ℕ) (c : C) : Type 0 where
  pub extends : Extends e later
  pub decided : later.decided ≡ e.decided ++ c ∷ []
  -- its place is new
  pub new : In c e.decided → ⊥
  pub decider : later.decider c ≡ r
  pub before : later.before c ≡ e.log r
  pub fits : m.Fits (later.act c)
  pub permissible : m.Permissible (end_of m e (e.log r)) (later.act c)
  -- the replica has logged every call that conflicts with c
  pub conflicting : (d : C) → In d e.decided → p.conflict (method_of m later c) (method_of m e d) ≡ true → In d (e.log r)
  -- its log gains c, and every other log stays
  pub own_log : later.log r ≡ e.log r ++ c ∷ []
  pub other_logs : (q : ℕ) → q ≢ r → later.log q ≡ e.log q

-- no call is decided, and the logs grow to closed lists
pub record IsDelivery {C : Type 0} (m : Meaning) (p : Constraints) (e later : Execution C m.Act) : Type 0 where
  pub extends : Extends e later
  pub decided : later.decided ≡ e.decided
  pub logs_grow : (q : ℕ) → StartsWith (e.log q) (later.log q)
  pub logs_closed : (q : ℕ) → IsClosed m p e (later.log q)

-- no call is decided, and the replica r drains what was delivered to it
pub record IsDrain {C : Type 0} (m : Meaning) (p : Constraints) (e later : Execution C m.Act) (r : ℕ) (delivered : List C) : Type 0 where
  pub extends : Extends e later
  pub decided : later.decided ≡ e.decided
  -- what was delivered was decided
  pub known : Within delivered e.decided
  pub own_log : Drains m p e delivered (e.log r) (later.log r)
  pub other_logs : (q : ℕ) → q ≢ r → later.log q ≡ e.log q

-- no call is decided, and the replica r logs some of what it may of what was delivered to it: it may stop half-way
pub record IsPartDrain {C : Type 0} (m : Meaning) (p : Constraints) (e later : Execution C m.Act) (r : ℕ) (delivered : List C) : Type 0 where
  pub extends : Extends e later
  pub decided : later.decided ≡ e.decided
  pub known : Within delivered e.decided
  pub own_log : LogsWaiting m p e delivered (e.log r) (later.log r)
  pub other_logs : (q : ℕ) → q ≢ r → later.log q ≡ e.log q

-- a decision keeps an execution well-coordinated
abbrev pub DecisionsKeep : Meaning → Type 0
DecisionsKeep m =
    (p : Constraints) (e later : Execution Place m.Act) (r : ℕ) (c : Place) → IsSound m p → IsWellCoordinated m p e →
    IsDecision m p e later r c → IsWellCoordinated m p later

-- a drain keeps an execution well-coordinated
abbrev pub DrainsKeep : Meaning → Type 0
DrainsKeep m =
    (p : Constraints) (e later : Execution Place m.Act) (r : ℕ) (delivered : List Place) → IsWellCoordinated m p e →
    IsDrain m p e later r delivered → IsWellCoordinated m p later

-- whatever is delivered keeps an execution well-coordinated, where logs grow to closed lists
abbrev pub DeliveriesKeep : Meaning → Type 0
DeliveriesKeep m =
    (p : Constraints) (e later : Execution Place m.Act) → IsWellCoordinated m p e → IsDelivery m p e later → IsWellCoordinated m p later

-- and so does a drain that stops half-way
abbrev pub PartDrainsKeep : Meaning → Type 0
PartDrainsKeep m =
    (p : Constraints) (e later : Execution Place m.Act) (r : ℕ) (delivered : List Place) → IsWellCoordinated m p e →
    IsPartDrain m p e later r delivered → IsWellCoordinated m p later

-- The drain lists exactly the reach, and keeps a closed log closed.
use Rattle.std.proofs.Common.{◌≡◌, ◌≢◌, ◌⊎◌, ◌++◌, ◌↔◌, ℕ, ◌≤◌, List, [], ◌∷◌, refl, sym, subst, ◌∙◌, inl, inr, arith}
use Rattle.std.proofs.lemmas.List.{append-nil}
use Rattle.std.proofs.lemmas.Bool.{cases_eq}
use Rattle.ham_meaning.specs.Relations.{Meaning}
use Rattle.ham_plan.specs.Lists.{In, Within, SameCalls, StartsWith}
use Rattle.ham_laws.specs.Executions.{Constraints, Execution, IsClosed, IsWellCoordinated}
use Rattle.ham_laws.specs.Turns.{IsDrain, IsPartDrain}
use Rattle.ham_laws.specs.Drain.{InReach, IsWaiting, LogsWaiting, Drains, LanesOrdered}
use Rattle.ham_laws.specs.Drain.LogsWaiting.{Stop, Log}
use Rattle.ham_laws.specs.Drain.InReach.{Logged, Delivered}
use Rattle.ham_laws.specs.Drain.Drains.{Settled, Next}
use Rattle.ham_plan.proofs.Lists.{in_front, in_last, decide_in}
use Rattle.ham_laws.proofs.Keeping.{starts_on, starts_itself, ready_closed, delivery_keeps}

module _ {C : Type 0} (m : Meaning) (p : Constraints) (e : Execution C m.Act) (delivered : List C) where
  -- a closed log stays closed
  pub drained_closed : {log after : List C} → Within delivered e.decided → Drains m p e delivered log after → IsClosed m p e log → IsClosed m p e after
  drained_closed known (Settled none) h = h
  drained_closed known (Next {log = log} c waits least rest) h =
      drained_closed known rest (ready_closed m p e log c h (record { came = known c waits.came; new = waits.new; needs = waits.needs }))

  pub log_grows : {log after : List C} → Drains m p e delivered log after → StartsWith log after
  log_grows (Settled {log = log} none) = starts_itself log
  log_grows (Next {log = log} {after = after} c waits least rest) = starts_on log (log ++ c ∷ []) after (c ∷ [], refl) (log_grows rest)

  pub log_kept : {log after : List C} → Drains m p e delivered log after → Within log after
  log_kept (Settled none) x k = k
  log_kept (Next {log = log} c waits least rest) x k = log_kept rest x (in_front x log (c ∷ []) k)

  reach_pushed : (log : List C) (c : C) → IsWaiting m p e log delivered c → (x : C) → InReach m p e (log ++ c ∷ []) delivered x → InReach m p e log delivered x
  reach_pushed log c waits x (Logged k) = elim (in_last x c log k) [
    | inl j ↦ Logged j
    | inr q ↦ subst (λ z. InReach m p e log delivered z) (sym q) (Delivered waits.came (λ n need. Logged (waits.needs n need)))
  ]
  reach_pushed log c waits x (Delivered d needs) = Delivered d (λ n need. reach_pushed log c waits n (needs n need))

  drained_in_reach : {log after : List C} → Drains m p e delivered log after → (x : C) → In x after → InReach m p e log delivered x
  drained_in_reach (Settled none) x k = Logged k
  drained_in_reach (Next {log = log} c waits least rest) x k = reach_pushed log c waits x (drained_in_reach rest x k)

  -- no call is left that may be logged
  pub settled : {log after : List C} → Drains m p e delivered log after → (c : C) → IsWaiting m p e after delivered c → ⊥
  settled (Settled none) c w = none c w
  settled (Next d waits least rest) c w = settled rest c w

  reach_drained : ((a b : C) → (a ≡ b) ⊎ (a ≢ b)) → (log after : List C) → Drains m p e delivered log after → (x : C) → InReach m p e log delivered x → In x after
  reach_drained same log after drains x (Logged k) = log_kept drains x k
  reach_drained same log after drains x (Delivered d needs) = elim (decide_in same x after) [
    | inl k ↦ k
    | inr out ↦ absurd (settled drains x (record { came = d; new = out; needs = λ n need. reach_drained same log after drains n (needs n need) }))
  ]

  -- what is logged afterwards is the reach
  pub drains_reach : ((a b : C) → (a ≡ b) ⊎ (a ≢ b)) → (log after : List C) → Drains m p e delivered log after → (x : C) → In x after ↔ InReach m p e log delivered x
  drains_reach same log after drains x = (drained_in_reach drains x, reach_drained same log after drains x)

  -- no two calls of one lane wait at once
  one_waits : ((a b : C) → (a ≡ b) ⊎ (a ≢ b)) → LanesOrdered e → Within delivered e.decided → (log : List C) (c d : C) →
      IsWaiting m p e log delivered c → IsWaiting m p e log delivered d → e.lane c ≡ e.lane d → c ≡ d
  one_waits same ordered known log c d wc wd lane = elim (same c d) [
    | inl q ↦ q
    | inr ne ↦ absurd (elim (ordered c d (known c wc.came) (known d wd.came) ne lane) [
      | inl k ↦ wc.new (wd.needs c (k, inl lane))
      | inr k ↦ wd.new (wc.needs d (k, inl (sym lane)))
    ])
  ]

  -- the drain leaves one log
  pub drains_one : ((a b : C) → (a ≡ b) ⊎ (a ≢ b)) → LanesOrdered e → Within delivered e.decided → (log x y : List C) →
      Drains m p e delivered log x → Drains m p e delivered log y → x ≡ y
  drains_one same ordered known log x y (Settled none) (Settled none_left) = refl
  drains_one same ordered known log x y (Settled none) (Next c waits least rest) = absurd (none c waits)
  drains_one same ordered known log x y (Next c waits least rest) (Settled none) = absurd (none c waits)
  drains_one same ordered known log x y (Next c waits least rest) (Next d also_waits also_least other_rest) =
      let below : e.lane c ≤ e.lane d = least d also_waits in
      let above : e.lane d ≤ e.lane c = also_least c waits in
      let q : c ≡ d = one_waits same ordered known log c d waits also_waits (omega arith) in
      drains_one same ordered known (log ++ c ∷ []) x y rest (subst (λ z. Drains m p e delivered (log ++ z ∷ []) y) (sym q) other_rest)

-- what was delivered in another order drains alike
module _ {C : Type 0} (m : Meaning) (p : Constraints) (e : Execution C m.Act) (delivered reordered : List C) (same : SameCalls delivered reordered) where
  waits_alike : (log : List C) (c : C) → IsWaiting m p e log delivered c → IsWaiting m p e log reordered c
  waits_alike log c waits = record { came = same.0 c waits.came; new = waits.new; needs = waits.needs }

  waits_back : (log : List C) (c : C) → IsWaiting m p e log reordered c → IsWaiting m p e log delivered c
  waits_back log c waits = record { came = same.1 c waits.came; new = waits.new; needs = waits.needs }

  pub drains_alike : {log after : List C} → Drains m p e reordered log after → Drains m p e delivered log after
  drains_alike (Settled {log = log} none) = Settled (λ c waits. none c (waits_alike log c waits))
  drains_alike (Next {log = log} c waits least rest) = Next c (waits_back log c waits) (λ d also. least d (waits_alike log d also)) (drains_alike rest)

-- a drain keeps an execution well-coordinated
pub drain_keeps : {C : Type 0} (m : Meaning) (p : Constraints) (e later : Execution C m.Act) (r : ℕ) (delivered : List C) →
    IsWellCoordinated m p e → IsDrain m p e later r delivered → IsWellCoordinated m p later
drain_keeps m p e later r delivered well turn =
    delivery_keeps m p e later well (record {
      extends = turn.extends;
      decided = turn.decided;
      logs_grow = λ q. elim (cases_eq q r) [
        | inl is ↦ subst (λ z. StartsWith (e.log z) (later.log z)) (sym is) (log_grows m p e delivered turn.own_log)
        | inr ne ↦ ([], turn.other_logs q ne ∙ sym (append-nil (e.log q)))
      ];
      logs_closed = λ q. elim (cases_eq q r) [
        | inl is ↦ subst (λ z. IsClosed m p e (later.log z)) (sym is) (drained_closed m p e delivered turn.known turn.own_log (well.logs_closed r))
        | inr ne ↦ subst (λ l. IsClosed m p e l) (sym (turn.other_logs q ne)) (well.logs_closed q)
      ];
    })

-- ---- a drain that stops half-way
module _ {C : Type 0} (m : Meaning) (p : Constraints) (e : Execution C m.Act) (delivered : List C) where
  part_closed : {log after : List C} → Within delivered e.decided → LogsWaiting m p e delivered log after → IsClosed m p e log → IsClosed m p e after
  part_closed known Stop h = h
  part_closed known (Log {log = log} c waits rest) h =
      part_closed known rest (ready_closed m p e log c h (record { came = known c waits.came; new = waits.new; needs = waits.needs }))

  part_grows : {log after : List C} → LogsWaiting m p e delivered log after → StartsWith log after
  part_grows (Stop {log = log}) = starts_itself log
  part_grows (Log {log = log} {after = after} c waits rest) = starts_on log (log ++ c ∷ []) after (c ∷ [], refl) (part_grows rest)

pub part_keeps : {C : Type 0} (m : Meaning) (p : Constraints) (e later : Execution C m.Act) (r : ℕ) (delivered : List C) →
    IsWellCoordinated m p e → IsPartDrain m p e later r delivered → IsWellCoordinated m p later
part_keeps m p e later r delivered well turn =
    delivery_keeps m p e later well (record {
      extends = turn.extends;
      decided = turn.decided;
      logs_grow = λ q. elim (cases_eq q r) [
        | inl is ↦ subst (λ z. StartsWith (e.log z) (later.log z)) (sym is) (part_grows m p e delivered turn.own_log)
        | inr ne ↦ ([], turn.other_logs q ne ∙ sym (append-nil (e.log q)))
      ];
      logs_closed = λ q. elim (cases_eq q r) [
        | inl is ↦ subst (λ z. IsClosed m p e (later.log z)) (sym is) (part_closed m p e delivered turn.known turn.own_log (well.logs_closed r))
        | inr ne ↦ subst (λ l. IsClosed m p e l) (sym (turn.other_logs q ne)) (well.logs_closed q)
      ];
    })

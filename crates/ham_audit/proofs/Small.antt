-- How many calls a log can have whose positions have no fault: as many as lanes have room for.
use Rattle.std.proofs.Common.{◌≡◌, ◌++◌, ℕ, ◌+◌, ◌*◌, ◌^◌, ◌<◌, ◌≤◌, zero, suc, true, List, [], ◌∷◌, length, length-append, refl, sym, subst, ap, ◌∙◌, inl, inr, None, arith}
use Rattle.std.proofs.Math.Nat.{mul-le-mul_left}
use Rattle.std.proofs.lemmas.Bool.{cases_eq, and_parts, leb-true}
use Rattle.std.proofs.lemmas.List.{length-map}
use Rattle.std.specs.Prelude.{nat_lt, nat_le, ◌&&◌, ◌==◌}
use Rattle.ham_syntax.specs.declared.act.Place.{Place}
use Rattle.ham_plan.specs.Lists.{In, Within, IsOnceEach}
use Rattle.ham_plan.proofs.Lists.{in_front, in_back, in_place}
use Rattle.ham_turns.specs.Settings.{Rules, Setting, rules_of, setting_of}
use Rattle.ham_site.specs.Sites.{Site, IsSite, rules_at, setting_at}
use Rattle.ham_records.specs.declared.records.Logged.{Logged}
use Rattle.ham_audit.specs.Claims.{IsRecorded}
use Rattle.ham_audit.specs.Faults as faults
use Rattle.ham_audit.specs.Records.{log_of, places}
use Rattle.ham_audit.specs.Passing.{IsUnder}
use Rattle.ham_audit.proofs.Counted.{once_within}
use Rattle.ham_audit.proofs.Deciding.{lane_there}
use Rattle.ham_audit.proofs.Looking.{places_push}
use Rattle.ham_audit.proofs.Placed.{IsPlaced, EachPlaced, each_placed, placed_in}
use Rattle.ham_audit.proofs.Reaching.{number_some}
use Rattle.ham_audit.proofs.Standing.{stands_not, entry_at}

-- ---- the places of lanes below m with numbers from 1 to n

row : ℕ → ℕ → List Place
row l zero = []
row l (suc n) = record { lane = l; number = suc n } ∷ row l n

grid : ℕ → ℕ → List Place
grid zero n = []
grid (suc m) n = row m n ++ grid m n

row_size : (l n : ℕ) → length (row l n) ≡ n
unfolding row
row_size l zero = refl
row_size l (suc n) = ap (λ k. suc k) (row_size l n)

row_in : (l n k : ℕ) → 0 < k → k ≤ n → In (record { lane = l; number = k }) (row l n)
unfolding row
row_in l zero k some le = absurd (omega arith)
row_in l (suc n) k some le = elim (cases_eq k (suc n)) [
  | inl q ↦ inl (ap (λ (j : ℕ). record { lane = l; number = j }) q)
  | inr ne ↦ inr (row_in l n k some (omega arith))
]

grid_size : (m n : ℕ) → length (grid m n) ≡ m * n
unfolding grid
grid_size zero n = omega arith
grid_size (suc m) n =
    let a = length-append (row m n) (grid m n) in
    let b = row_size m n in
    let c = grid_size m n in
    omega (arith, a, b, c)

grid_in : (m n l k : ℕ) → l < m → 0 < k → k ≤ n → In (record { lane = l; number = k }) (grid m n)
unfolding grid
grid_in zero n l k less some le = absurd (omega arith)
grid_in (suc m) n l k less some le = elim (cases_eq l m) [
  | inl q ↦ in_front (record { lane = l; number = k }) (row m n) (grid m n) (subst (λ z. In (record { lane = l; number = k }) (row z n)) q (row_in l n k some le))
  | inr ne ↦ in_back (record { lane = l; number = k }) (row m n) (grid m n) (grid_in m n l k (omega arith) some le)
]

-- ---- calls of a log

number_low : (limit : ℕ) (y : Setting) (e : Logged) → faults.has_place limit y e ≡ true → e.place.number ≤ limit
number_low limit y e h =
    leb-true e.place.number limit
    (and_parts (nat_lt 0 e.place.number) _ (and_parts (nat_lt e.place.lane y.lanes && (y.lane e.act.method (y.decider e.place.lane) == e.place.lane)) _ h).1).1

module _ (x : Rules) (y : Setting) (records : List (List Logged)) (r : ℕ) where
  apart : (before rest : List Logged) → EachPlaced x y records r before rest → (z : Place) → In z (places rest) → In z (places before) → ⊥
  apart before [] each z k j = absurd k
  apart before (d ∷ rest) each z (inl q) j = stands_not d.place (places before) each.0.new (subst (λ v. In v (places before)) q j)
  apart before (d ∷ rest) each z (inr k) j =
      apart (before ++ d ∷ []) rest each.1 z k (subst (λ l. In z l) (sym (places_push before d)) (in_front z (places before) (d.place ∷ []) j))

  once : (before rest : List Logged) → EachPlaced x y records r before rest → IsOnceEach (places rest)
  once before [] each = tt
  once before (d ∷ rest) each = (
    λ k. apart (before ++ d ∷ []) rest each.1 d.place k (subst (λ l. In d.place l) (sym (places_push before d)) (in_place d.place (places before) [])),
    once (before ++ d ∷ []) rest each.1,
  )

  pub room_for : EachPlaced x y records r [] (log_of records r) → length (log_of records r) ≤ y.lanes * x.lane_limit
  room_for each =
      let n = once_within (places (log_of records r)) (grid y.lanes x.lane_limit) (once [] (log_of records r) each) in_grid in
      let a = length-map (log_of records r) (λ (e : Logged). e.place) in
      let b = grid_size y.lanes x.lane_limit in
      omega (arith, n, a, b)
    where
      in_grid : Within (places (log_of records r)) (grid y.lanes x.lane_limit)
      in_grid z k =
          let w = entry_at z (log_of records r) k in
          let p = (placed_in x y records r [] (log_of records r) each w.0 w.1).1.place in
          subst (λ v. In v (grid y.lanes x.lane_limit)) w.2
          (grid_in y.lanes x.lane_limit w.0.place.lane w.0.place.number (lane_there x.lane_limit y w.0 p) (number_some x.lane_limit y w.0 p) (number_low x.lane_limit y w.0 p))

pub few_placed : (site : Site) (records : List (List Logged)) → IsSite site → faults.place_fault (rules_at site) (setting_at site) records ≡ None → (r : ℕ) → length (log_of records r) ≤ 2 ^ 24
few_placed site records is_site none r =
    let n = room_for (rules_at site) (setting_at site) records r (each_placed (rules_at site) (setting_at site) records none r) in
    let m = mul-le-mul_left (setting_at site).lanes is_site.ranged.limit in
    let l = is_site.tabled.few_lanes in
    omega (arith, n, m, l)

pub under_placed : (site : Site) (records : List (List Logged)) → IsSite site → IsRecorded (rules_of site.object) (setting_of site.plan) records →
    faults.place_fault (rules_at site) (setting_at site) records ≡ None → IsUnder site records
unfolding rules_at
under_placed site records is_site recorded none = record { recorded = recorded; placed = none; few = few_placed site records is_site none }

-- The lists of lanes and of rulings, as the code keeps them.
use Rattle.std.proofs.Common.{◌≡◌, ◌++◌, ℕ, zero, suc, ◌≤◌, ◌<◌, List, [], ◌∷◌, length, map, get_or, set, refl, sym, subst, ap, ◌∙◌}
use Rattle.std.specs.Prelude.{Result, Ok, Err, max}
use Rattle.std.specs.List.{AllByRecursion}
use Rattle.std.proofs.lemmas.List.{set-get_or}
use Rattle.ham_syntax.specs.declared.act.Call.{Call}
use Rattle.ham_lane.specs.declared.out_lane.AckBeyond.{AckBeyond}
use Rattle.ham_lane.specs.Lanes.{OutLane, Acknowledges}
use Rattle.ham_resend.specs.Giving.{Given, none_given, given_at, with_given, KeepsRulings, AddsRuling}
use Rattle.ham_frame.specs.declared.frame.Ruled.{Ruled}
use Rattle.ham_replica.specs.Values.{Lists}
use Rattle.ham_replica.specs.Steps.{with_item}
use Rattle.ham_replica.specs.Shown.{no_out_lane}
use Rattle.ham_replica.specs.Deliveries.{Acks}
use Rattle.ham_replica.proofs.Items.{all_at, get_map, get_any, length_map, map_set_same}

pub map_set : {X Y : Type 0} (f : X → Y) (xs : List X) (i : ℕ) (x : X) → map f (set xs i x) ≡ set (map f xs) i (f x)
map_set f [] i x = refl
map_set f (z ∷ xs) zero x = refl
map_set f (z ∷ xs) (suc i) x = ap (λ l. f z ∷ l) (map_set f xs i x)

-- ---- rulings

abbrev pub ruled_of : Given → List Ruled
ruled_of g = g.ruled

abbrev pub shown : List (List Given) → List (List (List Ruled))
shown rulings = map (map ruled_of) rulings

shown_row : (old : List (List Given)) (from : ℕ) → map ruled_of (get_or old from []) ≡ get_or (shown old) from []
shown_row old from = sym (get_map (map ruled_of) old from [])

pub shown_given : (old : List (List Given)) (from g : ℕ) → (given_at old from g).ruled ≡ get_or (get_or (shown old) from []) g []
shown_given old from g = sym (get_map ruled_of (get_or old from []) g none_given) ∙ ap (λ r. get_or r g []) (shown_row old from)

shown_with : (old : List (List Given)) (from g : ℕ) (d : Given) → shown (with_given old from g d) ≡ set (shown old) from (set (get_or (shown old) from []) g d.ruled)
shown_with old from g d =
    map_set (map ruled_of) old from (set (get_or old from []) g d)
    ∙ ap (set (shown old) from) (map_set ruled_of (get_or old from []) g d ∙ ap (λ r. set r g d.ruled) (shown_row old from))

pub rulings_ruled : (old new : List (List Given)) (from g : ℕ) (d : Ruled) → AddsRuling old new from g d → map (map (λ (z : Given). z.ruled)) new ≡ set (shown old) from (with_item (get_or (shown old) from []) g d)
rulings_ruled old new from g d h =
    ap shown h.ruled ∙ shown_with old from g (record { ruled = (given_at old from g).ruled ++ d ∷ []; spare = h.room })
    ∙ ap (λ l. set (shown old) from (set (get_or (shown old) from []) g (l ++ d ∷ []))) (shown_given old from g)

pub rulings_room : (old new : List (List Given)) (from g : ℕ) → KeepsRulings old new from g → map (map (λ (z : Given). z.ruled)) new ≡ map (map (λ (z : Given). z.ruled)) old
rulings_room old new from g h =
    ap shown h.same ∙ shown_with old from g (record { ruled = (given_at old from g).ruled; spare = h.room })
    ∙ ap (λ l. set (shown old) from (set (get_or (shown old) from []) g l)) (shown_given old from g)
    ∙ ap (set (shown old) from) (set-get_or (get_or (shown old) from []) g [])
    ∙ set-get_or (shown old) from []

pub rulings_group : (rulings : List (List Given)) (from m : ℕ) → from < length rulings → AllByRecursion (λ s. length s ≡ m) (map (map (λ (z : Given). z.ruled)) rulings) → length (get_or rulings from []) ≡ m
rulings_group rulings from m h all =
    sym (length_map ruled_of (get_or rulings from [])) ∙ ap length (shown_row rulings from)
    ∙ all_at (λ s. length s ≡ m) (shown rulings) from [] all (subst (λ n. from < n) (sym (length_map (map ruled_of) rulings)) h)

-- ---- lanes

module _ (v : Lists) (outs : List OutLane) (lane peer n : ℕ) (d new : OutLane) (there : lane < length outs) (is : d ≡ get_or outs lane d) where
  abbrev before : Lists
  before = record v { decided = map (λ (l : OutLane). l.calls) outs; acked = map (λ (l : OutLane). l.acked) outs }

  abbrev after : Lists
  after = record v { decided = map (λ (l : OutLane). l.calls) (set outs lane new); acked = map (λ (l : OutLane). l.acked) (set outs lane new) }

  lane_is : d ≡ get_or outs lane no_out_lane
  lane_is = is ∙ get_any outs lane d no_out_lane there

  calls_are : d.calls ≡ get_or (map (λ (l : OutLane). l.calls) outs) lane []
  calls_are = ap (λ (l : OutLane). l.calls) lane_is ∙ sym (get_map (λ (l : OutLane). l.calls) outs lane no_out_lane)

  acked_is : d.acked ≡ get_or (map (λ (l : OutLane). l.acked) outs) lane []
  acked_is = ap (λ (l : OutLane). l.acked) lane_is ∙ sym (get_map (λ (l : OutLane). l.acked) outs lane no_out_lane)

  pub acks_lists : (r : Result Unit AckBeyond) → Acknowledges d new peer n r → Acks before after lane peer n r
  acks_lists (Ok u) h = (
    subst (λ (l : List Call). n ≤ length l) calls_are h.0,
    (λ i. record v {
      decided = map_set_same (λ (l : OutLane). l.calls) outs lane new d is h.1 i;
      acked = (map_set (λ (l : OutLane). l.acked) outs lane new ∙ ap (set (map (λ (l : OutLane). l.acked) outs) lane) (h.2 ∙ ap (λ row. set row peer (max (get_or row peer 0) n)) acked_is)) i;
    }),
  )
  acks_lists (Err beyond) h = (
    subst (λ (l : List Call). length l < n) calls_are h.0,
    h.1 ∙ ap length calls_are,
    (λ i. record v {
      decided = map_set_same (λ (l : OutLane). l.calls) outs lane new d is (ap (λ (l : OutLane). l.calls) h.2) i;
      acked = map_set_same (λ (l : OutLane). l.acked) outs lane new d is (ap (λ (l : OutLane). l.acked) h.2) i;
    }),
  )

-- A call that is decided here has a place in frames.
use Rattle.std.proofs.Common.{ℕ, ◌≤◌, ◌<◌, List, [], ◌∷◌, length, map, get_or, sym, subst, arith}
use Rattle.std.specs.List.{AllByRecursion}
use Rattle.ham_syntax.specs.declared.act.Act.{Act}
use Rattle.ham_frame.specs.Spelling.{FitsAct, FitsCall, IsCount}
use Rattle.ham_turns.specs.Tables.{IsSlot}
use Rattle.ham_turns.specs.Work.{new_call}
use Rattle.ham_site.specs.Sites.{Site, setting_at}
use Rattle.ham_replica.specs.Values.{Lists, words}
use Rattle.ham_replica.specs.Kept.{IsKept}
use Rattle.ham_replica.proofs.Items.{all_or, length_map}

module _ (site : Site) (v : Lists) (is : IsKept site v) where
  pub few_logged : (l : ℕ) → get_or v.logged l 0 ≤ 65536
  few_logged l = all_or (λ n. n ≤ 65536) v.logged l 0 is.few (omega arith)

  -- a slot has no more calls than its lane
  counts_fit : (needs : List ℕ) → AllByRecursion (IsSlot (setting_at site)) needs → AllByRecursion IsCount (map (λ s. get_or v.counts s 0) needs)
  counts_fit [] slots = tt
  counts_fit (s ∷ needs) slots =
      let w = slots.0 in
      let count = is.slotted w.method w.replica w.method_exists w.replica_exists in
      let few = few_logged ((setting_at site).lane w.method w.replica) in
      let fits : get_or v.counts s 0 ≤ 65536 = subst (λ z. get_or v.counts z 0 ≤ 65536) (sym w.slot) (omega arith) in
      ((omega arith, fits), counts_fit needs slots.1)

  pub new_call_fits : (a : Act) (l : ℕ) → FitsAct a → a.method < (setting_at site).methods → l < (setting_at site).lanes → length (get_or v.decided l []) < 65536 →
      FitsCall (new_call (setting_at site) (words v) l a)
  new_call_fits a l frame method there room =
      let lanes = is.at.tabled.few_lanes in
      let needs = is.at.tabled.few_needs a.method method in
      let long = length_map (λ (s : ℕ). get_or v.counts s 0) ((setting_at site).needs a.method) in
      record {
        is_lane = omega arith;
        is_number = (omega arith, omega arith);
        fits_act = frame;
        few_deps = omega arith;
        each_count = counts_fit ((setting_at site).needs a.method) (is.at.tabled.needs_are_slots a.method method);
      }

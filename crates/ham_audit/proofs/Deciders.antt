-- Where a call was decided, as the code finds it.
use Rattle.std.proofs.Common.{◌≡◌, ◌+◌, ◌-◌, ◌^◌, ◌<◌, ◌≤◌, ℕ, take, length, get_or, List, [], true, refl, sym, subst, ap, ◌∙◌, Some, None, Option, arith}
use Rattle.std.specs.Prelude.{slice_get, slice_index, All}
use Rattle.std.proofs.lemmas.List.{get_or_default, length-take-le}
use Rattle.ham_syntax.specs.declared.act.Place.{Place}
use Rattle.ham_plan.specs.Lists.{In}
use Rattle.ham_turns.specs.Settings.{Setting, IsReplica}
use Rattle.ham_site.specs.Sites.{Site, IsSite, rules_at, setting_at}
use Rattle.ham_records.specs.declared.records.Logged.{Logged}
use Rattle.ham_audit.specs.declared.fault.AuditFault.{AuditFault}
use Rattle.ham_audit.specs.Faults as faults
use Rattle.ham_audit.specs.Indexed.{first_index}
use Rattle.ham_audit.specs.Lateness.{late_or_none, late_here, Covers, HasFirst, AreAllFronts, IsNeeding, IsIn}
use Rattle.ham_audit.specs.Order.{audited}
use Rattle.ham_audit.specs.Passing.{IsUnder}
use Rattle.ham_audit.specs.Records.{log_of, places, deciding_log}
use Rattle.ham_audit.proofs.Choosing.{at_call}
use Rattle.ham_audit.proofs.Indexing.{log_at}
use Rattle.ham_audit.proofs.Under.{lane_in}
use Rattle.ham_audit.proofs.Timely.{before_is, decided_entry, all_timely, first_place, first_within, not_found, got_within, all_within}

module _ (site : Site) (records : List (List Logged)) (under : IsUnder site records) (is_site : IsSite site) (r i : ℕ) (e : Logged) (got : slice_get (log_of records r) i ≡ Some e) where
  pub call_in : In e (log_of records r)
  call_in = got_within (log_of records r) i e got

  pub lane_low : e.place.lane < (setting_at site).lanes
  lane_low = lane_in site records under r e call_in

  pub index_small : i < 2 ^ 24
  index_small = let h = (at_call (log_of records r) i e got).0 in let few = under.few r in omega arith

  module _ (d : ℕ) (by : d ≡ (setting_at site).decider e.place.lane) where
    pub exists : IsReplica (setting_at site) d
    exists = subst (IsReplica (setting_at site)) (sym by) (is_site.tabled.decider_exists e.place.lane lane_low)

    pub below : d - 1 < length records
    below = let low = exists.0 in let high = exists.1 in let n = under.recorded.replicas in omega arith

    pub log_is : (log : List Logged) → log ≡ get_or records (d - 1) log → log ≡ deciding_log (setting_at site) records e.place
    log_is log at = let high = exists.1 in let n = under.recorded.replicas in log_at records d log exists.0 (omega arith) at ∙ ap (log_of records) by

    pub missing : (log : List Logged) (o : Option ℕ) → log ≡ get_or records (d - 1) log → o ≡ first_index e.place (places log) → o ≡ None → ⊥
    missing log o at found q = not_found site records under r e call_in (ap (λ l. first_index e.place (places l)) (sym (log_is log at)) ∙ sym found ∙ q)

    pub first_is : (log : List Logged) (o : Option ℕ) (at : ℕ) → log ≡ get_or records (d - 1) log → o ≡ first_index e.place (places log) → o ≡ Some at →
        first_index e.place (places (deciding_log (setting_at site) records e.place)) ≡ Some at
    first_is log o at here found q = ap (λ l. first_index e.place (places l)) (sym (log_is log here)) ∙ sym found ∙ q

    module _ (needing : IsNeeding site) (at : ℕ) (first : first_index e.place (places (deciding_log (setting_at site) records e.place)) ≡ Some at) where
      pub at_low : at < length (deciding_log (setting_at site) records e.place)
      at_low = first_within e.place (deciding_log (setting_at site) records e.place) at first

      pub front_size : (log : List Logged) → log ≡ get_or records (d - 1) log → at ≡ length (take at log)
      front_size log here =
          let low : at < length log = subst (λ (l : List Logged). at < length l) (sym (log_is log here)) at_low in
          sym (length-take-le at log (omega arith))

      pub front_in : (log : List Logged) → log ≡ get_or records (d - 1) log → All (IsIn records) (take at log)
      front_in log here = subst (λ l. All (IsIn records) (take at l)) (sym (log_is log here)) (all_within records ((setting_at site).decider e.place.lane) at)

      -- a need that is found is the one that is late
      pub found_late : (log : List Logged) → log ≡ get_or records (d - 1) log → (need : Option Place) (f : Option AuditFault) →
          need ≡ faults.late_need (setting_at site) (audited (setting_at site) records) e.place (places (take i (log_of records r))) (places (take at log)) →
          f ≡ faults.late_by r (i + 1) need → f ≡ late_here (setting_at site) records r i
      found_late log here need f is made =
          made
          ∙ ap (faults.late_by r (i + 1))
          (is
          ∙ ap (λ l. faults.late_need (setting_at site) (audited (setting_at site) records) e.place (places (take i (log_of records r))) (places (take at l))) (log_is log here)
          ∙ ap (faults.late_need (setting_at site) (audited (setting_at site) records) e.place (places (take i (log_of records r)))) (sym (before_is site records under needing is_site r e call_in at first)))
          ∙ ap (late_or_none (setting_at site) records r i) (sym got)

      module _ (fronts : List (List (List Place))) (are : AreAllFronts (setting_at site) records fronts) where
        pub fronts_below : d - 1 < length fronts
        fronts_below = let low = exists.0 in let high = exists.1 in let n = are.many in omega arith

        front_is : (list : List (List Place)) → list ≡ get_or fronts (d - 1) list → list ≡ get_or fronts ((setting_at site).decider e.place.lane - 1) []
        front_is list here = here ∙ get_or_default fronts (d - 1) list [] fronts_below ∙ ap (λ k. get_or fronts (k - 1) []) by

        pub front_low : (list : List (List Place)) → list ≡ get_or fronts (d - 1) list → at < length list
        front_low list here =
            let size = ap length (front_is list here) ∙ are.size ((setting_at site).decider e.place.lane) (is_site.tabled.decider_exists e.place.lane lane_low) in
            let low = at_low in
            omega (arith, size, low)

        -- where the call's needs are reached, none of them is late
        pub none_late_here : (list : List (List Place)) (reached : List Place) (counts : List ℕ) → list ≡ get_or fronts (d - 1) list → reached ≡ get_or list at reached →
            All (λ (p : Place). p.number ≤ slice_index counts p.lane) reached → HasFirst counts (places (take i (log_of records r))) → None ≡ late_here (setting_at site) records r i
        none_late_here list reached counts here reaches within firsts =
            let y = setting_at site in
            let w = decided_entry site records under needing is_site r e call_in at first in
            let lane : w.0.place ≡ e.place = first_place e.place (deciding_log y records e.place) at w.0 first w.1 in
            let own : y.decider w.0.place.lane ≡ y.decider e.place.lane = ap (λ (p : Place). y.decider p.lane) lane in
            let is : get_or (get_or fronts (y.decider e.place.lane - 1) []) at [] ≡ reached =
            ap (λ (l : List (List Place)). get_or l at []) (sym (front_is list here)) ∙ sym (get_or_default list at reached [] (front_low list here)) ∙ sym reaches in
            let covers = subst (λ l. Covers y (take at (deciding_log y records e.place)) w.0 l) is
            (are.each (y.decider e.place.lane) (is_site.tabled.decider_exists e.place.lane lane_low) at w.0 w.1 own) in
            sym (ap (late_or_none y records r i) got
            ∙ ap (faults.late_by r (i + 1))
            (all_timely site records under needing is_site r e call_in at first reached w.0 w.2 lane covers counts within (places (take i (log_of records r))) firsts))

-- Calls of records whose positions have no fault, and the auditor's progress over one of them.
use Rattle.std.proofs.Common.{◌≡◌, ℕ, ◌+◌, ◌-◌, ◌*◌, ◌^◌, ◌<◌, ◌≤◌, Bool, true, false, List, [], ◌∷◌, ◌++◌, length, length-append, take, get_or, refl, sym, subst, ap, ◌∙◌, Some, None, Option, arith}
use Rattle.std.specs.Prelude.{IsTrue, slice_set, All}
use Rattle.ham_syntax.specs.declared.act.Act.{Act}
use Rattle.ham_syntax.specs.declared.act.Place.{Place}
use Rattle.ham_state.specs.Content.{State}
use Rattle.ham_state.specs.Store.{Store}
use Rattle.ham_plan.specs.Lists.{In}
use Rattle.ham_turns.specs.Settings.{IsReplica, meaning_by}
use Rattle.ham_turns.specs.Work.{first_of_two}
use Rattle.ham_site.specs.Sites.{Site, IsSite, rules_at, setting_at, IsBounded}
use Rattle.ham_site.proofs.Bounds.{bounded_more, bounded_update}
use Rattle.ham_records.specs.declared.records.Logged.{Logged}
use Rattle.ham_audit.specs.declared.order.Progress.{Progress}
use Rattle.ham_audit.specs.declared.fault.AuditFault.{AuditFault}
use Rattle.ham_laws.specs.Executions.{end_of}
use Rattle.ham_audit.specs.Records.{log_of, replicas, places, stands, deciding_log, act_at}
use Rattle.ham_audit.specs.Order.{audited, taken_after, next_taken}
use Rattle.ham_audit.specs.Faults as faults
use Rattle.ham_audit.specs.Passing.{at_of, state_of, past_of, next_in, own_in, contents, forbidden_with, IsPast, IsUnder, IsAt, Passes}
use Rattle.ham_audit.proofs.Placed.{IsPlaced, each_placed, placed_in}
use Rattle.ham_audit.proofs.Soundness.{acts_same}
use Rattle.ham_audit.proofs.Deciding.{lane_there}
use Rattle.ham_audit.proofs.Looking.{in_at}
use Rattle.ham_audit.proofs.Ordering.{left_new, among_goes}
use Rattle.ham_audit.proofs.Gone.{past_taken, past_decided, own_first}
use Rattle.ham_audit.proofs.Choosing.{taken_next, forbidden_push, forbidden_is, front_first, places_taken, past_length}

module _ (site : Site) (records : List (List Logged)) (under : IsUnder site records) where
  pub placed : (r : ℕ) (e : Logged) → In e (log_of records r) → (front : List Logged) × IsPlaced (rules_at site) (setting_at site) records r front e
  placed r e k = placed_in (rules_at site) (setting_at site) records r [] (log_of records r) (each_placed (rules_at site) (setting_at site) records under.placed r) e k

  pub lane_in : (r : ℕ) (e : Logged) → In e (log_of records r) → e.place.lane < (setting_at site).lanes
  lane_in r e k = lane_there (rules_at site).lane_limit (setting_at site) e (placed r e k).1.place

  pub act_in : (r : ℕ) (e : Logged) → In e (log_of records r) → (audited (setting_at site) records).act e.place ≡ e.act
  act_in r e k = sym (acts_same e.act _ (placed r e k).1.act)

  pub fits_in : (r : ℕ) (e : Logged) → In e (log_of records r) → IsTrue ((rules_at site).fits e.act)
  fits_in r e k = under.recorded.fits r e k

  -- the call to which r's log was gone through
  module _ (is_site : IsSite site) (p : Progress) (is : IsAt site records p) (r : ℕ) (replica : IsReplica (setting_at site) r) (e : Logged)
      (inside : at_of p.at.items r < length (log_of records r)) (here : e ≡ get_or (log_of records r) (at_of p.at.items r) e) where
    stands_there : In e (log_of records r)
    stands_there = in_at (log_of records r) (at_of p.at.items r) e inside here

    pub small_here : IsBounded (state_of (contents p.states.items) r (rules_at site).opening) (2 ^ 60)
    small_here =
        let few = under.few r in
        bounded_more _ (at_of p.at.items r * 2 ^ 35) (2 ^ 60) (is.past.small r replica) (omega arith)

    bounded : IsBounded ((rules_at site).update e.act (state_of (contents p.states.items) r (rules_at site).opening)) (at_of p.at.items r * 2 ^ 35 + 2 ^ 35)
    bounded = bounded_update site e.act _ (at_of p.at.items r * 2 ^ 35) is_site.checked (fits_in r e stands_there) (is.past.small r replica)

    -- one taken call more was gone through
    pub at_taken : (q : Progress) → Passes site r e.act p q → stands e.place (taken_after (setting_at site) records p.count) ≡ true → IsAt site records q
    at_taken q passes t =
        let past = past_taken (rules_at site) (setting_at site) records p.at.items (contents p.states.items) (taken_after (setting_at site) records p.count) is.past r replica e inside here t
        (act_in r e stands_there) bounded in
        record {
          past = subst (λ k. IsPast (rules_at site) (setting_at site) records q.at.items (contents q.states.items) (taken_after (setting_at site) records k)) (sym passes.count)
              (subst (λ l. IsPast (rules_at site) (setting_at site) records l (contents q.states.items) (taken_after (setting_at site) records p.count)) (sym passes.at)
              (subst (λ l. IsPast (rules_at site) (setting_at site) records (slice_set p.at.items (r - 1) (at_of p.at.items r + 1)) l (taken_after (setting_at site) records p.count)) (sym passes.states) past));
          taken = ap (λ k. length (taken_after (setting_at site) records k)) passes.count ∙ is.taken ∙ sym passes.count;
          forbidden = passes.forbidden ∙ is.forbidden ∙ ap (λ k. faults.forbidden_among (rules_at site) (setting_at site) records (taken_after (setting_at site) records k)) (sym passes.count);
          opened = passes.opened;
        }

    -- the call is taken, which its replica decides
    module _ (own : (setting_at site).decider e.place.lane ≡ r) (next : next_taken (setting_at site) records (taken_after (setting_at site) records p.count) ≡ Some e.place) where
      new : stands e.place (taken_after (setting_at site) records p.count) ≡ false
      new = left_new (taken_after (setting_at site) records p.count) (places (deciding_log (setting_at site) records e.place)) e.place
          (among_goes (setting_at site) records (taken_after (setting_at site) records p.count) (replicas records) e.place next).left

      before_is : (audited (setting_at site) records).before e.place ≡ past_of records p.at.items r
      before_is =
          front_first e.place (places (deciding_log (setting_at site) records e.place)) (at_of p.at.items r)
          (own_first (rules_at site) (setting_at site) records p.at.items (contents p.states.items) (taken_after (setting_at site) records p.count) is.past r replica e inside here own new)
          ∙ ap (λ k. take (at_of p.at.items r) (places (log_of records k))) own ∙ places_taken (log_of records r) (at_of p.at.items r)

      judged : faults.forbidden_by (setting_at site) records e.place (faults.outcome_at (rules_at site) (setting_at site) records e.place)
          ≡ forbidden_with r (at_of p.at.items r + 1) ((rules_at site).outcome (state_of (contents p.states.items) r (rules_at site).opening) e.act)
      judged =
          ap (λ s. faults.forbidden_by (setting_at site) records e.place ((rules_at site).outcome s ((audited (setting_at site) records).act e.place)))
          (ap (λ l. end_of (meaning_by (rules_at site)) (audited (setting_at site) records) l) before_is ∙ sym (is.past.state r replica))
          ∙ ap (λ a. faults.forbidden_by (setting_at site) records e.place ((rules_at site).outcome (state_of (contents p.states.items) r (rules_at site).opening) a)) (act_in r e stands_there)
          ∙ forbidden_is (setting_at site) records e.place r (at_of p.at.items r + 1) _ own
          (ap (λ l. length l + 1) before_is ∙ ap (λ n. n + 1) (past_length (log_of records r) (at_of p.at.items r) (omega (arith, inside))))

      pub at_decided : (q : Progress) → q.at.items ≡ slice_set p.at.items (r - 1) (at_of p.at.items r + 1) →
          contents q.states.items ≡ slice_set (contents p.states.items) (r - 1) ((rules_at site).update e.act (state_of (contents p.states.items) r (rules_at site).opening)) →
          All (λ s. s.invariants ≡ site.object.invariants) q.states.items → q.count ≡ p.count + 1 →
          q.forbidden ≡ first_of_two p.forbidden (forbidden_with r (at_of p.at.items r + 1) ((rules_at site).outcome (state_of (contents p.states.items) r (rules_at site).opening) e.act)) →
          IsAt site records q
      at_decided q at states opened count forbidden =
          let x = rules_at site in
          let y = setting_at site in
          let more : taken_after y records q.count ≡ taken_after y records p.count ++ e.place ∷ [] = ap (taken_after y records) count ∙ taken_next y records p.count e.place next in
          let past = past_decided x y records p.at.items (contents p.states.items) (taken_after y records p.count) is.past r replica e inside here own new (act_in r e stands_there) bounded in
          record {
            past = subst (λ t. IsPast x y records q.at.items (contents q.states.items) t) (sym more)
                (subst (λ l. IsPast x y records l (contents q.states.items) (taken_after y records p.count ++ e.place ∷ [])) (sym at)
                (subst (λ l. IsPast x y records (slice_set p.at.items (r - 1) (at_of p.at.items r + 1)) l (taken_after y records p.count ++ e.place ∷ [])) (sym states) past));
            taken = ap (λ (l : List Place). length l) more ∙ length-append (taken_after y records p.count) (e.place ∷ []) ∙ ap (λ n. n + 1) is.taken ∙ sym count;
            forbidden = forbidden ∙ ap (λ f. first_of_two f (forbidden_with r (at_of p.at.items r + 1) (x.outcome (state_of (contents p.states.items) r x.opening) e.act))) is.forbidden
                ∙ ap (first_of_two (faults.forbidden_among x y records (taken_after y records p.count))) (sym judged)
                ∙ sym (forbidden_push x y records (taken_after y records p.count) e.place) ∙ ap (faults.forbidden_among x y records) (sym more);
            opened = opened;
          }

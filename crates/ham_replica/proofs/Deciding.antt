-- An issue that is decided here, by the table of turns.
use Rattle.std.proofs.Common.{◌≡◌, ◌++◌, ℕ, ◌<◌, Bool, true, false, [], ◌∷◌, length, sym, ap, ◌∙◌, arith}
use Rattle.std.specs.Prelude.{Some, None, max, ◌==◌, if◌then◌else◌}
use Rattle.std.proofs.lemmas.List.{append-nil}
use Rattle.ham_syntax.specs.declared.act.Act.{Act}
use Rattle.ham_syntax.specs.declared.act.Place.{Place}
use Rattle.ham_syntax.specs.declared.act.Call.{Call}
use Rattle.ham_meaning.specs.declared.outcome.Outcome.{Outcome}
use Rattle.ham_meaning.specs.declared.outcome.Outcome.TheVariants as outcomes
use Rattle.ham_turns.specs.declared.turn.Issued.{Issued}
use Rattle.ham_turns.specs.declared.turn.Issued.TheVariants as issued
use Rattle.ham_turns.specs.declared.turn.What.TheVariants as whats
use Rattle.ham_site.specs.Sites.{Site, rules_at, setting_at}
use Rattle.ham_turns.specs.Words.{ActComes, place_of}
use Rattle.ham_turns.specs.Work.{lane_here, new_call, issued_by, answer_of, made_by, made_of, logged_one, logged_made, taken, own_work}
use Rattle.ham_replica.specs.Values.{Lists, words}
use Rattle.ham_replica.specs.Steps.{slot_of, decide}
use Rattle.ham_replica.proofs.Items.{first_none, get_one_more, get_with_item}

pub max_none : (n : ℕ) → max n 0 ≡ n
max_none n = omega arith

-- the answer of an issue, by its decider and its outcome
answer_by : (b : Bool) (p : Place) (u v : Outcome) (other : Issued) → b ≡ true → u ≡ v → whats.Issued (if b then issued_by p u else other) ≡ whats.Issued (issued_by p v)
answer_by true p u v other e is = ap (λ o. whats.Issued (issued_by p o)) is
answer_by false p u v other e is = cc

module _ (site : Site) (v : Lists) (a : Act) (mine : ((setting_at site).decider (lane_here (setting_at site) site.me a) == site.me) ≡ true) where
  abbrev call_here : Call
  call_here = new_call (setting_at site) (words v) (lane_here (setting_at site) site.me a) a

  pub answer_here : (u : Outcome) → (rules_at site).outcome v.state a ≡ u → answer_of (rules_at site) (setting_at site) (words v) site.me (ActComes a) ≡ whats.Issued (issued_by (place_of call_here) u)
  answer_here u e = answer_by _ _ _ _ _ mine e

  pub made_yes : (rules_at site).outcome v.state a ≡ outcomes.Yes → made_of (rules_at site) (setting_at site) (words v) site.me (ActComes a) ≡ Some call_here
  made_yes e = ap (λ z. made_by (setting_at site) (words v) site.me (ActComes a) z None) (answer_here outcomes.Yes e)

  -- to decide the call is the turn's own work
  pub decide_is_own : (rules_at site).outcome v.state a ≡ outcomes.Yes → slot_of site call_here < length v.counts → lane_here (setting_at site) site.me a < length v.decided →
      words (decide site v call_here) ≡ own_work (rules_at site) (setting_at site) (words v) site.me (ActComes a)
  decide_is_own e slot lane = same ∙ sym own
    where
      own : own_work (rules_at site) (setting_at site) (words v) site.me (ActComes a)
          ≡ logged_one (rules_at site) (setting_at site) (taken (words v) (ActComes a) (whats.Issued (issued.Applied (place_of call_here))) None (Some call_here)) call_here
      own = λ i. logged_made (rules_at site) (setting_at site) (taken (words v) (ActComes a) (answer_here outcomes.Yes e i) None (made_yes e i)) (made_yes e i)

      same : words (decide site v call_here)
          ≡ logged_one (rules_at site) (setting_at site) (taken (words v) (ActComes a) (whats.Issued (issued.Applied (place_of call_here))) None (Some call_here)) call_here
      same = λ i. record {
        state = (rules_at site).update a v.state;
        log = v.log ++ place_of call_here ∷ [];
        count_of = λ s. get_one_more v.counts (slot_of site call_here) s slot i;
        decided = λ l. get_with_item v.decided (lane_here (setting_at site) site.me a) l call_here lane i;
        kept = λ p. sym (first_none ((words v).kept p)) i;
        requests = λ g. sym (append-nil ((words v).requests g)) i;
        verdict = λ g n. sym (first_none ((words v).verdict g n)) i;
        rulings = λ f g. sym (append-nil ((words v).rulings f g)) i;
        acked = λ l p. sym (max_none ((words v).acked l p)) i;
      }

-- The turn of an issue that is decided here.
use Rattle.std.proofs.Common.{◌≡◌, ◌++◌, ℕ, ◌+◌, ◌<◌, Bool, true, List, [], ◌∷◌, length, map, get_or, refl, sym, subst, ap, ◌∙◌, arith}
use Rattle.std.specs.Prelude.{Some, None, ◌==◌}
use Rattle.std.proofs.lemmas.Bool.{eq-eqb}
use Rattle.std.proofs.lemmas.List.{append-nil}
use Rattle.ham_syntax.specs.declared.act.Act.{Act}
use Rattle.ham_syntax.specs.declared.act.Place.{Place}
use Rattle.ham_syntax.specs.declared.act.Call.{Call}
use Rattle.ham_meaning.specs.declared.outcome.Outcome.{Outcome}
use Rattle.ham_meaning.specs.declared.outcome.Outcome.TheVariants as outcomes
use Rattle.ham_turns.specs.declared.turn.Issued.TheVariants as issued
use Rattle.ham_turns.specs.declared.turn.Out.{Out}
use Rattle.ham_turns.specs.declared.turn.What.TheVariants as whats
use Rattle.ham_site.specs.Sites.{Site, rules_at, setting_at}
use Rattle.ham_turns.specs.Words.{ActComes, place_of}
use Rattle.ham_turns.specs.Work.{lane_here, new_call, issued_by, answer_of, made_by, made_of, place_made, logged_made, taken, own_work}
use Rattle.ham_turns.specs.Sends.{sent_for}
use Rattle.ham_turns.specs.Ready.{LogsReady, Stop, IsSettled}
use Rattle.ham_replica.specs.Values.{Lists, words}
use Rattle.ham_replica.specs.Steps.{slot_of, decide}
use Rattle.ham_replica.specs.Kept.{IsKept}
use Rattle.ham_replica.specs.Drains.{Drains}
use Rattle.ham_site.specs.Outs.{calls_to, frames_of}
use Rattle.ham_replica.specs.Issues.{MayDecide, Answers}
use Rattle.ham_replica.proofs.Items.{first_none}
use Rattle.ham_replica.proofs.Keeping.{IsNext, slot_there, decided_logged}
use Rattle.ham_replica.proofs.Fitting.{new_call_fits}
use Rattle.ham_replica.proofs.Deciding.{answer_here, made_yes, decide_is_own, max_none}

-- a call alone
pub sent_alone : (r q n m : ℕ) (c d : Call) (rest : List Out) → r ≡ q → n ≡ m → c ≡ d → rest ≡ [] → frames_of r n (Some c) rest ≡ calls_to q m (Some d)
sent_alone r q n m c d rest me many same none = (λ i. frames_of (me i) (many i) (Some (same i)) (none i)) ∙ append-nil (calls_to q m (Some d))

module _ (site : Site) (v : Lists) (is : IsKept site v) (a : Act) (at : ℕ) (may : MayDecide site v a at) where
  mine : ((setting_at site).decider (lane_here (setting_at site) site.me a) == site.me) ≡ true
  mine = eq-eqb _ _ (ap (setting_at site).decider (sym may.lane) ∙ may.here)

  abbrev call_here : Call
  call_here = new_call (setting_at site) (words v) (lane_here (setting_at site) site.me a) a

  lane_there : lane_here (setting_at site) site.me a < (setting_at site).lanes
  lane_there = is.at.tabled.lane_exists a.method site.me may.method is.at.me_exists

  here_is : (setting_at site).decider (lane_here (setting_at site) site.me a) ≡ site.me
  here_is = ap (setting_at site).decider (sym may.lane) ∙ may.here

  room_here : length (get_or v.decided (lane_here (setting_at site) site.me a) []) < 65536
  room_here = subst (λ l. length (get_or v.decided l []) < 65536) may.lane may.room

  next_here : IsNext site v call_here
  next_here =
      let count = (is.here (lane_here (setting_at site) site.me a) here_is).0 in
      let few : get_or v.logged (lane_here (setting_at site) site.me a) 0 < 65536 = let room = room_here in omega arith in
      record {
        lane = lane_there;
        few = few;
        number = ap (λ n. n + 1) (sym count);
        method = may.method;
        own = ap ((setting_at site).lane a.method) here_is;
        fits = may.fits;
      }

  pub decided_kept : IsKept site (decide site v call_here)
  decided_kept = decided_logged site v is call_here next_here here_is (new_call_fits site v is a (lane_here (setting_at site) site.me a) may.frame may.method lane_there room_here)

  module _ (w : Lists) (after : List Place) (done : Bool) (e : (rules_at site).outcome v.state a ≡ outcomes.Yes)
      (d : Drains site (decide site v call_here) w (place_of call_here ∷ []) after done) where
    made_here : made_of (rules_at site) (setting_at site) (words v) site.me (ActComes a) ≡ Some call_here
    made_here = made_yes site v a mine e

    pub turn_decided : Answers site v w (ActComes a) (whats.Issued (issued.Applied (place_of call_here))) after (calls_to site.me (setting_at site).replicas (Some call_here)) done
    turn_decided = record {
      kept = d.kept;
      turn = record {
        calls = d.goes.calls;
        drain = subst (λ z. LogsReady (rules_at site) (setting_at site) z d.goes.calls (words w))
            (decide_is_own site v a mine e (subst (λ n. slot_of site call_here < n) (sym is.shaped.counts) (slot_there site v is call_here next_here)) (subst (λ n. lane_here (setting_at site) site.me a < n) (sym is.shaped.decided) lane_there))
            d.goes.logs;
        settled = d.settled;
        answer = sym (answer_here site v a mine outcomes.Yes e);
        logged = d.goes.told ∙ ap (λ m. place_made m ++ map place_of d.goes.calls) (sym made_here);
        sent = λ i. sent_for (setting_at site) site.me a (sym made_here i) (sym (answer_here site v a mine outcomes.Yes e) i);
      };
    }

  -- the same, of the call as the code made it
  pub turn_as_made : (c : Call) (u w : Lists) (before after : List Place) (done : Bool) (n : ℕ) → (rules_at site).outcome v.state a ≡ outcomes.Yes → c ≡ new_call (setting_at site) (words v) at a →
      u ≡ decide site v c → before ≡ place_of c ∷ [] → n ≡ (setting_at site).replicas → Drains site u w before after done →
      Answers site v w (ActComes a) (whats.Issued (issued.Applied (place_of c))) after (calls_to site.me n (Some c)) done
  turn_as_made c u w before after done n e made decided first many d =
      let is_here : c ≡ call_here = made ∙ ap (λ l. new_call (setting_at site) (words v) l a) may.lane in
      subst (λ m. Answers site v w (ActComes a) (whats.Issued (issued.Applied (place_of c))) after (calls_to site.me m (Some c)) done) (sym many)
      (subst (λ (z : Call). Drains site (decide site v z) w (place_of z ∷ []) after done →
      Answers site v w (ActComes a) (whats.Issued (issued.Applied (place_of z))) after (calls_to site.me (setting_at site).replicas (Some z)) done) (sym is_here)
      (λ r. turn_decided w after done e r)
      (subst (λ l. Drains site l w (place_of c ∷ []) after done) decided (subst (λ l. Drains site u w l after done) first d)))

  pub kept_as_made : (c : Call) (u : Lists) → c ≡ new_call (setting_at site) (words v) at a → u ≡ decide site v c → IsKept site u
  kept_as_made c u made decided =
      subst (IsKept site) (sym (decided ∙ ap (decide site v) (made ∙ ap (λ l. new_call (setting_at site) (words v) l a) may.lane))) decided_kept

  -- an act that isn't permissible
  quiet_own : (u : Outcome) → answer_of (rules_at site) (setting_at site) (words v) site.me (ActComes a) ≡ whats.Issued (issued.Impermissible u) → words v ≡ own_work (rules_at site) (setting_at site) (words v) site.me (ActComes a)
  quiet_own u e = same ∙ sym own
    where
      made : made_of (rules_at site) (setting_at site) (words v) site.me (ActComes a) ≡ None
      made = ap (λ z. made_by (setting_at site) (words v) site.me (ActComes a) z None) e

      own : own_work (rules_at site) (setting_at site) (words v) site.me (ActComes a) ≡ taken (words v) (ActComes a) (whats.Issued (issued.Impermissible u)) None None
      own = λ i. logged_made (rules_at site) (setting_at site) (taken (words v) (ActComes a) (e i) None (made i)) (made i)

      same : words v ≡ taken (words v) (ActComes a) (whats.Issued (issued.Impermissible u)) None None
      same = λ i. record {
        state = v.state;
        log = v.log;
        count_of = (words v).count_of;
        decided = (words v).decided;
        kept = λ p. sym (first_none ((words v).kept p)) i;
        requests = λ g. sym (append-nil ((words v).requests g)) i;
        verdict = λ g n. sym (first_none ((words v).verdict g n)) i;
        rulings = λ f g. sym (append-nil ((words v).rulings f g)) i;
        acked = λ l p. sym (max_none ((words v).acked l p)) i;
      }

  pub turn_quiet : (u : Outcome) → issued_by (place_of call_here) u ≡ issued.Impermissible u → (rules_at site).outcome v.state a ≡ u → IsSettled (setting_at site) (words v) →
      Answers site v v (ActComes a) (whats.Issued (issued.Impermissible u)) [] [] true
  turn_quiet u by e settled =
      let answer = answer_here site v a mine u e ∙ ap whats.Issued by in
      let made : made_of (rules_at site) (setting_at site) (words v) site.me (ActComes a) ≡ None = ap (λ z. made_by (setting_at site) (words v) site.me (ActComes a) z None) answer in
      record {
        kept = is;
        turn = record {
          calls = [];
          drain = subst (λ z. LogsReady (rules_at site) (setting_at site) z [] (words v)) (quiet_own u answer) Stop;
          settled = (λ t. settled, λ s. refl);
          answer = sym answer;
          logged = ap (λ m. place_made m ++ []) (sym made);
          sent = λ i. sent_for (setting_at site) site.me a (sym made i) (sym answer i);
        };
      }

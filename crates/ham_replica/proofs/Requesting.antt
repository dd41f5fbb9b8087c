-- A request that comes to the replica that leads its group, by the table of turns.
use Rattle.std.proofs.Common.{◌≡◌, ◌++◌, ℕ, ◌+◌, ◌≤◌, ◌<◌, Bool, true, false, eqb, ◌&&◌, List, [], ◌∷◌, length, map, get_or, set, refl, sym, subst, ap, ◌∙◌, inl, inr, arith}
use Rattle.std.specs.Prelude.{Option, Some, None, ◌==◌, nat_lt, if◌then◌else◌, Result, Ok, Err}
use Rattle.ham_frame.specs.declared.frame.Frame.{Frame}
use Rattle.ham_turns.specs.declared.turn.DeliverRefusal.{DeliverRefusal}
use Rattle.std.proofs.lemmas.Bool.{eqb-true, eq-eqb, eqb-false, ne_eqb, lt-ltb, le-ltb}
use Rattle.std.proofs.lemmas.List.{append-nil, length-set, get_or-set_same, get_or-set_other}
use Rattle.ham_syntax.specs.declared.act.Act.{Act}
use Rattle.ham_syntax.specs.declared.act.Place.{Place}
use Rattle.ham_syntax.specs.declared.act.Call.{Call}
use Rattle.ham_meaning.specs.declared.outcome.Outcome.{Outcome}
use Rattle.ham_meaning.specs.declared.outcome.Outcome.TheVariants as outcomes
use Rattle.ham_frame.specs.declared.frame.Ruling.{Ruling}
use Rattle.ham_frame.specs.declared.frame.Ruling.TheVariants as rulings
use Rattle.ham_frame.specs.declared.frame.Ruled.{Ruled}
use Rattle.ham_frame.specs.declared.frame.Frame.TheVariants as frames
use Rattle.ham_turns.specs.declared.turn.Delivered.TheVariants as delivered
use Rattle.ham_turns.specs.declared.turn.What.TheVariants as whats
use Rattle.ham_turns.specs.declared.turn.Out.{Out}
use Rattle.std.specs.List.{AllByRecursion}
use Rattle.ham_site.specs.Sites.{Site, rules_at, setting_at, slots_at}
use Rattle.ham_turns.specs.Words.{Intake, FrameComes, numbered, place_of}
use Rattle.ham_turns.specs.Work.{new_call, ruling_by, ruling_of, answer_of, ruled_of, made_ruled, made_of, place_made, logged_one, logged_made, taken, own_work}
use Rattle.ham_turns.specs.Sends.{back, kept_ruling, sent_back}
use Rattle.ham_turns.specs.Ready.{LogsReady, IsSettled}
use Rattle.ham_replica.specs.Values.{Lists, words}
use Rattle.ham_replica.specs.Steps.{with_item, slot_of, decide, ruled_more}
use Rattle.ham_replica.specs.Kept.{IsKept}
use Rattle.ham_replica.specs.Drains.{Drains}
use Rattle.ham_site.specs.Outs.{frames_of}
use Rattle.ham_replica.specs.Issues.{Answers, MayDecide}
use Rattle.ham_replica.specs.Deliveries.{MayRule, IsPlain, DeliversIn}
use Rattle.ham_replica.specs.declared.held.Request.{Request}
use Rattle.ham_site.specs.declared.out.Turn.{Turn}
use Rattle.ham_turns.specs.declared.turn.Delivered.{Delivered}
use Rattle.ham_frame.specs.Spelling.{FitsRuling}
use Rattle.ham_site.proofs.Bounds.{limit_is}
use Rattle.ham_replica.proofs.Issuing.{kept_as_made}
use Rattle.ham_replica.proofs.Items.{true_or_false, all_at, all_set, all_push, first_none, get_one_more, get_with_item}
use Rattle.ham_replica.proofs.Deciding.{max_none}
use Rattle.ham_replica.proofs.Staying.{kept_with, settled_with}
use Rattle.ham_replica.proofs.Plain.{plain_turn, as_plain}

if_same : {X : Type 0} (b : Bool) (xs : List X) → (if b then xs else xs) ≡ xs
if_same true xs = refl
if_same false xs = refl

-- an item more, where both tests hold
item_both : {X : Type 0} (b c : Bool) (xs : List X) (d : X) → b ≡ true → (if c then xs ++ d ∷ [] else xs) ≡ xs ++ (if b && c then d ∷ [] else [])
item_both true true xs d e = refl
item_both true false xs d e = sym (append-nil xs)
item_both false c xs d e = cc

item_none : {X : Type 0} (b c : Bool) (xs : List X) (d : X) → b ≡ false → xs ≡ xs ++ (if b && c then d ∷ [] else [])
item_none true c xs d e = cc
item_none false c xs d e = sym (append-nil xs)

all_if : (b : Bool) (xs : List Ruled) (d : Ruled) → AllByRecursion (λ e. FitsRuling e.ruling) xs → FitsRuling d.ruling → AllByRecursion (λ e. FitsRuling e.ruling) (xs ++ (if b then d ∷ [] else []))
all_if true xs d h fit = all_push (λ e. FitsRuling e.ruling) (λ e. FitsRuling e.ruling) xs d (λ z f. f) h fit
all_if false xs d h fit = subst (AllByRecursion (λ (e : Ruled). FitsRuling e.ruling)) (sym (append-nil xs)) h

get_ruled : (xs : List (List (List Ruled))) (from g f h : ℕ) (d : Ruled) → from < length xs → g < length (get_or xs from []) →
    get_or (get_or (set xs from (with_item (get_or xs from []) g d)) f []) h [] ≡ get_or (get_or xs f []) h [] ++ (if (from == f) && (g == h) then d ∷ [] else [])
get_ruled xs from g f h d there group = elim (true_or_false (eqb from f)) [
  | inl t ↦ subst (λ z. get_or (get_or (set xs from (with_item (get_or xs from []) g d)) z []) h [] ≡ get_or (get_or xs z []) h [] ++ (if (from == z) && (g == h) then d ∷ [] else [])) (eqb-true from f t)
      (ap (λ r. get_or r h []) (get_or-set_same xs from (with_item (get_or xs from []) g d) [] there) ∙ get_with_item (get_or xs from []) g h d group
      ∙ item_both (from == from) (g == h) (get_or (get_or xs from []) h []) d (eq-eqb from from refl))
  | inr n ↦ ap (λ r. get_or r h []) (get_or-set_other xs from f (with_item (get_or xs from []) g d) [] (λ q. eqb-false from f n (sym q))) ∙ item_none (from == f) (g == h) (get_or (get_or xs f []) h []) d n
]

module _ (site : Site) (v : Lists) (from which g n : ℕ) (a : Act) where
  abbrev took : Intake
  took = FrameComes from which (frames.Request g n a)

  abbrev given : ℕ
  given = length ((words v).rulings from g)

  answer_is : (b c : Bool) → nat_lt n (given + 1) ≡ b → nat_lt (given + 1) n ≡ c →
      answer_of (rules_at site) (setting_at site) (words v) site.me took ≡ whats.Delivered (if b then delivered.Repeat else if c then delivered.Early else delivered.Fresh)
  answer_is b c p q = λ i. whats.Delivered (if p i then delivered.Repeat else if q i then delivered.Early else delivered.Fresh)

  answer_fresh : n ≡ given + 1 → answer_of (rules_at site) (setting_at site) (words v) site.me took ≡ whats.Delivered delivered.Fresh
  answer_fresh e = answer_is false false (le-ltb n (given + 1) (omega arith)) (le-ltb (given + 1) n (omega arith))

  ruled_none : (n ≡ given + 1 → ⊥) → ruled_of (rules_at site) (words v) took ≡ None
  ruled_none ne = ap (λ b. if b then Some (ruling_of (rules_at site) (words v) g a) else None) (ne_eqb n (given + 1) ne)

  ruled_next : (r : Ruling) → n ≡ given + 1 → ruling_of (rules_at site) (words v) g a ≡ r → ruled_of (rules_at site) (words v) took ≡ Some r
  ruled_next r e by = ap (λ b. if b then Some (ruling_of (rules_at site) (words v) g a) else None) (eq-eqb n (given + 1) e) ∙ ap Some by

  within : length ((words v).decided g) < 65536 → length ((words v).decided g) < (rules_at site).lane_limit
  within h = let limit = limit_is site in omega arith

  pub ruling_full : 65536 ≤ length ((words v).decided g) → ruling_of (rules_at site) (words v) g a ≡ rulings.Full
  ruling_full h = ap (λ b. if b then ruling_by (length ((words v).decided g) + 1) ((rules_at site).outcome v.state a) else rulings.Full) (le-ltb _ _ (let limit = limit_is site in omega arith))

  pub ruling_as : (u : Outcome) → length ((words v).decided g) < 65536 → (rules_at site).outcome v.state a ≡ u → ruling_of (rules_at site) (words v) g a ≡ ruling_by (length ((words v).decided g) + 1) u
  ruling_as u h e = λ i. if lt-ltb _ _ (within h) i then ruling_by (length ((words v).decided g) + 1) (e i) else rulings.Full

  abbrev call_there : Call
  call_there = new_call (setting_at site) (words v) g a

  own_is : (r : Option Ruling) → ruled_of (rules_at site) (words v) took ≡ r →
      own_work (rules_at site) (setting_at site) (words v) site.me took ≡ logged_made (rules_at site) (setting_at site) (taken (words v) took (answer_of (rules_at site) (setting_at site) (words v) site.me took) r (made_ruled call_there r)) (made_ruled call_there r)
  own_is r e = λ i. logged_made (rules_at site) (setting_at site) (taken (words v) took (answer_of (rules_at site) (setting_at site) (words v) site.me took) (e i) (made_ruled call_there (e i))) (made_ruled call_there (e i))

  quiet_is_own : (n ≡ given + 1 → ⊥) → words v ≡ own_work (rules_at site) (setting_at site) (words v) site.me took
  quiet_is_own ne = same ∙ sym (own_is None (ruled_none ne))
    where
      same : words v ≡ taken (words v) took (answer_of (rules_at site) (setting_at site) (words v) site.me took) None None
      same = λ i. record {
        state = v.state;
        log = v.log;
        count_of = (words v).count_of;
        decided = (words v).decided;
        kept = λ p. sym (first_none ((words v).kept p)) i;
        requests = λ h. sym (append-nil ((words v).requests h)) i;
        verdict = λ h m. sym (first_none ((words v).verdict h m)) i;
        rulings = λ f h. sym (ap (λ (l : List Ruled). (words v).rulings f h ++ l) (if_same ((from == f) && (g == h)) []) ∙ append-nil ((words v).rulings f h)) i;
        acked = λ l p. sym (max_none ((words v).acked l p)) i;
      }

  module _ (sender : from < length v.rulings) (group : g < length (get_or v.rulings from [])) where
    ruled_is_own : (r : Ruling) → ruled_of (rules_at site) (words v) took ≡ Some r → made_ruled call_there (Some r) ≡ None →
        words (ruled_more v from g (record { act = a; ruling = r })) ≡ own_work (rules_at site) (setting_at site) (words v) site.me took
    ruled_is_own r e none = same ∙ sym (own_is (Some r) e ∙ (λ i. logged_made (rules_at site) (setting_at site) (taken (words v) took (answer_of (rules_at site) (setting_at site) (words v) site.me took) (Some r) (none i)) (none i)))
      where
        same : words (ruled_more v from g (record { act = a; ruling = r })) ≡ taken (words v) took (answer_of (rules_at site) (setting_at site) (words v) site.me took) (Some r) None
        same = λ i. record {
          state = v.state;
          log = v.log;
          count_of = (words v).count_of;
          decided = (words v).decided;
          kept = λ p. sym (first_none ((words v).kept p)) i;
          requests = λ h. sym (append-nil ((words v).requests h)) i;
          verdict = λ h m. sym (first_none ((words v).verdict h m)) i;
          rulings = λ f h. get_ruled v.rulings from g f h (record { act = a; ruling = r }) sender group i;
          acked = λ l p. sym (max_none ((words v).acked l p)) i;
        }

    applied_is_own : (r : Ruling) → ruled_of (rules_at site) (words v) took ≡ Some r → made_ruled call_there (Some r) ≡ Some call_there → slot_of site call_there < length v.counts → g < length v.decided →
        words (ruled_more (decide site v call_there) from g (record { act = a; ruling = r })) ≡ own_work (rules_at site) (setting_at site) (words v) site.me took
    applied_is_own r e some slot lane = same ∙ sym (own_is (Some r) e ∙ (λ i. logged_made (rules_at site) (setting_at site) (taken (words v) took (answer_of (rules_at site) (setting_at site) (words v) site.me took) (Some r) (some i)) (some i)))
      where
        same : words (ruled_more (decide site v call_there) from g (record { act = a; ruling = r }))
            ≡ logged_one (rules_at site) (setting_at site) (taken (words v) took (answer_of (rules_at site) (setting_at site) (words v) site.me took) (Some r) (Some call_there)) call_there
        same = λ i. record {
          state = (rules_at site).update a v.state;
          log = v.log ++ place_of call_there ∷ [];
          count_of = λ s. get_one_more v.counts (slot_of site call_there) s slot i;
          decided = λ l. get_with_item v.decided g l call_there lane i;
          kept = λ p. sym (first_none ((words v).kept p)) i;
          requests = λ h. sym (append-nil ((words v).requests h)) i;
          verdict = λ h m. sym (first_none ((words v).verdict h m)) i;
          rulings = λ f h. get_ruled v.rulings from g f h (record { act = a; ruling = r }) sender group i;
          acked = λ l p. sym (max_none ((words v).acked l p)) i;
        }

module _ (site : Site) (v : Lists) (is : IsKept site v) (settled : IsSettled (setting_at site) (words v)) (from which g n : ℕ) (a : Act) where
  pub request_again : n < length ((words v).rulings from g) + 1 →
      Answers site v v (FrameComes from which (frames.Request g n a)) (whats.Delivered delivered.Repeat) [] (back from g n (kept_ruling (numbered ((words v).rulings from g) n))) true
  request_again less =
      let ne : n ≡ length ((words v).rulings from g) + 1 → ⊥ = λ (q : n ≡ length ((words v).rulings from g) + 1). omega arith in
      let answer = answer_is site v from which g n a true (nat_lt (length ((words v).rulings from g) + 1) n) (lt-ltb _ _ less) refl in
      let made = ap (made_ruled (new_call (setting_at site) (words v) g a)) (ruled_none site v from which g n a ne) in
      plain_turn site v v (FrameComes from which (frames.Request g n a)) (whats.Delivered delivered.Repeat) _ is settled (quiet_is_own site v from which g n a ne) (sym answer) made
      (λ i. sent_back (setting_at site) (words v) site.me from (frames.Request g n a) (sym answer i) (ruled_of (rules_at site) (words v) (FrameComes from which (frames.Request g n a))) (made_of (rules_at site) (setting_at site) (words v) site.me (FrameComes from which (frames.Request g n a))) v.log)

  pub request_early : length ((words v).rulings from g) + 1 < n → Answers site v v (FrameComes from which (frames.Request g n a)) (whats.Delivered delivered.Early) [] [] true
  request_early more =
      let ne : n ≡ length ((words v).rulings from g) + 1 → ⊥ = λ (q : n ≡ length ((words v).rulings from g) + 1). omega arith in
      let answer = answer_is site v from which g n a false true (le-ltb _ _ (omega arith)) (lt-ltb _ _ more) in
      let ruled = ruled_none site v from which g n a ne in
      let made = ap (made_ruled (new_call (setting_at site) (words v) g a)) ruled in
      plain_turn site v v (FrameComes from which (frames.Request g n a)) (whats.Delivered delivered.Early) [] is settled (quiet_is_own site v from which g n a ne) (sym answer) made
      (λ i. sent_back (setting_at site) (words v) site.me from (frames.Request g n a) (sym answer i) (sym ruled i) (sym made i) v.log)

  module _ (next : n ≡ length ((words v).rulings from g) + 1) (sender : from < length v.rulings) (group : g < length (get_or v.rulings from [])) where
    with_ruled : (u : Lists) (d : Ruled) → IsKept site u → u.rulings ≡ v.rulings → FitsRuling d.ruling → IsKept site (ruled_more u from g d)
    with_ruled u d k same fit =
        kept_with site u u.acked u.asks (ruled_more u from g d).rulings k k.shaped.acked k.shaped.peers k.shaped.asks (length-set u.rulings from _ ∙ k.shaped.senders)
        (all_set (λ s. length s ≡ (setting_at site).groups) u.rulings from _ k.shaped.groups
        (length-set (get_or u.rulings from []) g _ ∙ all_at (λ s. length s ≡ (setting_at site).groups) u.rulings from [] k.shaped.groups (subst (λ r. from < length r) (sym same) sender)))
        (record {
          decided = k.ranges.decided;
          asked = k.ranges.asked;
          few_asked = k.ranges.few_asked;
          ruled = λ f h.
              subst (AllByRecursion (λ (e : Ruled). FitsRuling e.ruling))
              (sym (get_ruled u.rulings from g f h d (subst (λ r. from < length r) (sym same) sender) (subst (λ (r : List (List (List Ruled))). g < length (get_or r from [])) (sym same) group)))
              (all_if ((from == f) && (g == h)) (get_or (get_or u.rulings f []) h []) d (k.ranges.ruled f h) fit);
        })

    -- a ruling without a call
    pub ruled_plainly : (r : Ruling) → ruling_of (rules_at site) (words v) g a ≡ r → made_ruled (new_call (setting_at site) (words v) g a) (Some r) ≡ None → FitsRuling r →
        Answers site v (ruled_more v from g (record { act = a; ruling = r })) (FrameComes from which (frames.Request g n a)) (whats.Delivered delivered.Fresh) []
        (record { to = from; frame = frames.Verdict g n r } ∷ []) true
    ruled_plainly r by none fit =
        let answer = answer_fresh site v from which g n a next in
        let ruled = ruled_next site v from which g n a r next by in
        let made = ap (made_ruled (new_call (setting_at site) (words v) g a)) ruled ∙ none in
        plain_turn site v (ruled_more v from g (record { act = a; ruling = r })) (FrameComes from which (frames.Request g n a)) (whats.Delivered delivered.Fresh) _
        (with_ruled v (record { act = a; ruling = r }) is refl fit) (settled_with site v v.acked v.asks _ settled)
        (ruled_is_own site v from which g n a sender group r ruled none) (sym answer) made
        (λ i. sent_back (setting_at site) (words v) site.me from (frames.Request g n a) (sym answer i) (sym ruled i) (sym made i) v.log)

    -- a ruling with a call, and the drain
    module _ (yes : (rules_at site).outcome v.state a ≡ outcomes.Yes) (room : length ((words v).decided g) < 65536) (slot : slot_of site (new_call (setting_at site) (words v) g a) < slots_at site) (lane : g < (setting_at site).lanes) where
      abbrev call_here : Call
      call_here = new_call (setting_at site) (words v) g a

      abbrev applied : Ruled
      applied = record { act = a; ruling = rulings.Applied call_here.number }

      applied_fits : FitsRuling (rulings.Applied call_here.number)
      applied_fits = (omega arith, let few = room in omega arith)

      pub ruled_kept : (c : Call) (u : Lists) → IsKept site (decide site v c) → c ≡ call_here → u ≡ ruled_more (decide site v c) from g (record { act = a; ruling = rulings.Applied c.number }) → IsKept site u
      ruled_kept c u k made e =
          subst (IsKept site) (sym e) (with_ruled (decide site v c) (record { act = a; ruling = rulings.Applied c.number }) k refl
          (subst (λ (z : Call). FitsRuling (rulings.Applied z.number)) (sym made) applied_fits))

      turn_ruled : (w : Lists) (after : List Place) (done : Bool) → Drains site (ruled_more (decide site v call_here) from g applied) w (place_of call_here ∷ []) after done →
          Answers site v w (FrameComes from which (frames.Request g n a)) (whats.Delivered delivered.Fresh) after
          (frames_of site.me (setting_at site).replicas (Some call_here) (record { to = from; frame = frames.Verdict g n (rulings.Applied call_here.number) } ∷ [])) done
      turn_ruled w after done d =
          let answer = answer_fresh site v from which g n a next in
          let ruled = ruled_next site v from which g n a (rulings.Applied call_here.number) next (ruling_as site v from which g n a outcomes.Yes room yes) in
          let made : made_of (rules_at site) (setting_at site) (words v) site.me (FrameComes from which (frames.Request g n a)) ≡ Some call_here = ap (made_ruled call_here) ruled in
          record {
            kept = d.kept;
            turn = record {
              calls = d.goes.calls;
              drain = subst (λ z. LogsReady (rules_at site) (setting_at site) z d.goes.calls (words w))
                  (applied_is_own site v from which g n a sender group (rulings.Applied call_here.number) ruled refl (subst (λ m. slot_of site call_here < m) (sym is.shaped.counts) slot) (subst (λ m. g < m) (sym is.shaped.decided) lane))
                  d.goes.logs;
              settled = d.settled;
              answer = sym answer;
              logged = d.goes.told ∙ ap (λ m. place_made m ++ map place_of d.goes.calls) (sym made);
              sent = λ i. sent_back (setting_at site) (words v) site.me from (frames.Request g n a) (sym answer i) (sym ruled i) (sym made i) w.log;
            };
          }

      -- the same, of the call as the code made it
      pub ruled_as_made : (c : Call) (u w : Lists) (before after : List Place) (done : Bool) (m : ℕ) (rest : List Out) → c ≡ call_here →
          u ≡ ruled_more (decide site v c) from g (record { act = a; ruling = rulings.Applied c.number }) → before ≡ place_of c ∷ [] → m ≡ (setting_at site).replicas →
          rest ≡ record { to = from; frame = frames.Verdict g n (rulings.Applied c.number) } ∷ [] → Drains site u w before after done →
          Answers site v w (FrameComes from which (frames.Request g n a)) (whats.Delivered delivered.Fresh) after (frames_of site.me m (Some c) rest) done
      ruled_as_made c u w before after done m rest made decided first many told d =
          subst (λ z. Answers site v w (FrameComes from which (frames.Request g n a)) (whats.Delivered delivered.Fresh) after (frames_of site.me z (Some c) rest) done) (sym many)
          (subst (λ z. Answers site v w (FrameComes from which (frames.Request g n a)) (whats.Delivered delivered.Fresh) after (frames_of site.me (setting_at site).replicas (Some c) z) done) (sym told)
          (subst (λ (z : Call). Drains site (ruled_more (decide site v z) from g (record { act = a; ruling = rulings.Applied z.number })) w (place_of z ∷ []) after done →
          Answers site v w (FrameComes from which (frames.Request g n a)) (whats.Delivered delivered.Fresh) after (frames_of site.me (setting_at site).replicas (Some z) (record { to = from; frame = frames.Verdict g n (rulings.Applied z.number) } ∷ [])) done) (sym made)
          (λ r. turn_ruled w after done r)
          (subst (λ l. Drains site l w (place_of c ∷ []) after done) decided (subst (λ l. Drains site u w l after done) first d))))

-- ---- the same, as the code tells it

module _ (site : Site) (v : Lists) (q : Request) (may : MayRule site v q) where
  sender_there : q.from < length v.rulings
  sender_there =
      let long = may.may.kept.shaped.senders in
      let few = may.may.sender.1 in
      omega arith

  group_there : q.group < length (get_or v.rulings q.from [])
  group_there = subst (λ m. q.group < m) (sym (all_at (λ s. length s ≡ (setting_at site).groups) v.rulings q.from [] may.may.kept.shaped.groups sender_there)) may.group

  lane_there : q.group < (setting_at site).lanes
  lane_there =
      let few = may.may.kept.at.tabled.few_groups in
      let group = may.group in
      omega arith

  lane_mine : q.group ≡ (setting_at site).lane q.act.method site.me
  lane_mine = sym (may.may.kept.at.tabled.group_same q.act.method q.from site.me may.may.sender may.may.kept.at.me_exists (λ e. may.may.another (sym e ∙ ap (setting_at site).decider may.lane ∙ may.here)) ∙ may.lane)

  slot_exists : slot_of site (new_call (setting_at site) (words v) q.group q.act) < slots_at site
  slot_exists = may.may.kept.at.tabled.slot_exists q.act.method ((setting_at site).decider q.group) may.method (may.may.kept.at.tabled.decider_exists q.group lane_there)

  pub may_decide : length ((words v).decided q.group) < 65536 → MayDecide site v q.act q.group
  may_decide room = record { fits = may.fits; frame = may.frame; method = may.method; lane = lane_mine; here = may.here; room = room }

  pub plainly : (u w : Lists) (r : Ruling) (t : Turn Delivered) (which : ℕ) → u ≡ v → w ≡ ruled_more u q.from q.group (record { act = q.act; ruling = r }) →
      IsPlain t delivered.Fresh (record { to = q.from; frame = frames.Verdict q.group q.number r } ∷ []) → ruling_of (rules_at site) (words v) q.group q.act ≡ r →
      made_ruled (new_call (setting_at site) (words v) q.group q.act) (Some r) ≡ None → FitsRuling r →
      Answers site v w (FrameComes q.from which (frames.Request q.group q.number q.act)) (whats.Delivered t.answer) t.logged t.out t.settled
  plainly u w r t which same left plain by none fit =
      as_plain site v w (FrameComes q.from which (frames.Request q.group q.number q.act)) t delivered.Fresh _ _ plain refl
      (subst (λ z. Answers site v z (FrameComes q.from which (frames.Request q.group q.number q.act)) (whats.Delivered delivered.Fresh) [] (record { to = q.from; frame = frames.Verdict q.group q.number r } ∷ []) true)
      (sym (left ∙ ap (λ l. ruled_more l q.from q.group (record { act = q.act; ruling = r })) same))
      (ruled_plainly site v may.may.kept may.may.settled q.from which q.group q.number q.act may.next sender_there group_there r by none fit))

  module _ (yes : (rules_at site).outcome v.state q.act ≡ outcomes.Yes) (room : length ((words v).decided q.group) < 65536) where
    pub yes_kept : (c : Call) (u : Lists) → c ≡ new_call (setting_at site) (words v) q.group q.act → u ≡ ruled_more (decide site v c) q.from q.group (record { act = q.act; ruling = rulings.Applied c.number }) → IsKept site u
    yes_kept c u made left =
        ruled_kept site v may.may.kept may.may.settled q.from 0 q.group q.number q.act may.next sender_there group_there yes room slot_exists lane_there c u
        (kept_as_made site v may.may.kept q.act q.group (may_decide room) c (decide site v c) made refl) made left

    pub yes_told : (c : Call) (u w : Lists) (before after : List Place) (done : Bool) (m : ℕ) (rest : List Out) (which : ℕ) → c ≡ new_call (setting_at site) (words v) q.group q.act →
        u ≡ ruled_more (decide site v c) q.from q.group (record { act = q.act; ruling = rulings.Applied c.number }) → before ≡ place_of c ∷ [] → m ≡ (setting_at site).replicas →
        rest ≡ record { to = q.from; frame = frames.Verdict q.group q.number (rulings.Applied c.number) } ∷ [] → Drains site u w before after done →
        Answers site v w (FrameComes q.from which (frames.Request q.group q.number q.act)) (whats.Delivered delivered.Fresh) after (frames_of site.me m (Some c) rest) done
    yes_told c u w before after done m rest which made left first many told d =
        ruled_as_made site v may.may.kept may.may.settled q.from which q.group q.number q.act may.next sender_there group_there yes room slot_exists lane_there
        c u w before after done m rest made left first many told d

-- what a delivery leaves is kept
pub kept_after : (site : Site) (old new : Lists) (from : ℕ) (f : Frame) (r : Result (Turn Delivered) DeliverRefusal) →
    IsKept site old → DeliversIn site old new from f r → IsKept site new
kept_after site old new from f (Ok t) is h = (h.answers 0).kept
kept_after site old new from f (Err e) is h = subst (IsKept site) (sym h.0) is

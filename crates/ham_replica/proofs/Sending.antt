-- Each frame of a turn has a spelling and goes to another replica, and there are not too many.
use Rattle.std.proofs.Common.{◌≡◌, ◌≢◌, ◌++◌, ℕ, zero, suc, ◌+◌, ◌≤◌, ◌<◌, Bool, true, false, List, [], ◌∷◌, length, map, get_or, take, drop, refl, sym, subst, ap, ◌∙◌, inl, inr, arith}
use Rattle.std.specs.Prelude.{Option, Some, None, ◌==◌, nat_lt, if◌then◌else◌, is_some, slice_get}
use Rattle.std.specs.List.{AllByRecursion, flat_map}
use Rattle.std.proofs.lemmas.Bool.{eqb-true, eqb-false, ltb-true, cases_eq}
use Rattle.std.proofs.lemmas.List.{length-append}
use Rattle.ham_syntax.specs.declared.act.Act.{Act}
use Rattle.ham_syntax.specs.declared.act.Place.{Place}
use Rattle.ham_syntax.specs.declared.act.Call.{Call}
use Rattle.ham_meaning.specs.declared.outcome.Outcome.{Outcome}
use Rattle.ham_meaning.specs.declared.outcome.Outcome.TheVariants as outcomes
use Rattle.ham_frame.specs.declared.frame.Frame.{Frame}
use Rattle.ham_frame.specs.declared.frame.Frame.TheVariants as frames
use Rattle.ham_frame.specs.declared.frame.Ruling.{Ruling}
use Rattle.ham_frame.specs.declared.frame.Ruling.TheVariants as rulings
use Rattle.ham_frame.specs.declared.frame.Ruled.{Ruled}
use Rattle.ham_frame.specs.Spelling.{Fits, FitsAct, FitsCall, FitsRuling, IsRequestNumber}
use Rattle.ham_resend.specs.declared.asks.Ask.{Ask}
use Rattle.ham_turns.specs.declared.turn.Delivered.TheVariants as delivered
use Rattle.ham_turns.specs.declared.turn.Issued.TheVariants as issued
use Rattle.ham_turns.specs.declared.turn.Out.{Out}
use Rattle.ham_turns.specs.declared.turn.What.{What}
use Rattle.ham_turns.specs.declared.turn.What.TheVariants as whats
use Rattle.ham_turns.specs.Settings.{Setting, IsReplica}
use Rattle.ham_turns.specs.Words.{ActComes, FrameComes, Beat, numbered, place_of}
use Rattle.ham_turns.specs.Work.{lane_here, new_call, ruling_by, ruling_of, issued_by, made_issued, made_ruled}
use Rattle.ham_turns.specs.Sends.{peers, decided_by, to_peers, back, kept_ruling, open_requests, due_calls, due_requests, due_to, sent_back, sent_for}
use Rattle.ham_turns.specs.Refusals.{issue_refusal, deliver_refusal}
use Rattle.ham_site.specs.Sites.{Site, rules_at, setting_at}
use Rattle.ham_site.specs.Outs.{IsSendable, AreSendable}
use Rattle.ham_replica.specs.Values.{Lists, words}
use Rattle.ham_replica.specs.Kept.{IsKept}
use Rattle.ham_replica.specs.Deliveries.{MayDeliver}
use Rattle.ham_replica.specs.Issues.{Answers}
use Rattle.ham_replica.proofs.Items.{all_imp, all_append, all_map, all_flat, all_take, all_drop, length_flat, length_map}
use Rattle.ham_replica.proofs.Fitting.{few_logged, new_call_fits}
use Rattle.ham_replica.proofs.Refusing.{issue_passed}
use Rattle.ham_replica.proofs.Testing.{call_passed, request_passed}

-- ---- who is a peer

pub record IsPeer (n r q : ℕ) : Type 0 where
  pub some : 1 ≤ q
  pub few : q ≤ n
  pub other : q ≢ r

peers_are : (r n : ℕ) → AllByRecursion (IsPeer n r) (peers r n)
peers_are r zero = tt
peers_are r (suc n) =
    all_append (IsPeer (suc n) r) (peers r n) (if suc n == r then [] else suc n ∷ [])
    (all_imp (IsPeer n r) (IsPeer (suc n) r) (peers r n) (λ q h. record { some = h.some; few = (let few = h.few in omega arith); other = h.other }) (peers_are r n))
    (by (suc n == r) refl)
  where
    by : (b : Bool) → (suc n == r) ≡ b → AllByRecursion (IsPeer (suc n) r) (if b then [] else suc n ∷ [])
    by true e = tt
    by false e = (record { some = omega arith; few = omega arith; other = λ q. eqb-false (suc n) r e q }, tt)

peers_few : (r n : ℕ) → length (peers r n) ≤ n
peers_few r zero = omega arith
peers_few r (suc n) =
    let before = peers_few r n in
    let both = length-append (peers r n) (if suc n == r then [] else suc n ∷ []) in
    let last = by (suc n == r) in
    omega arith
  where
    by : (b : Bool) → length (if b then [] else suc n ∷ []) ≤ 1
    by true = omega arith
    by false = omega arith

-- all but r itself
peers_fewer : (r n : ℕ) → 1 ≤ r → r ≤ n → length (peers r n) + 1 ≤ n
peers_fewer r zero low high = absurd (omega arith)
peers_fewer r (suc n) low high = elim (cases_eq (suc n) r) [
  | inl e ↦ by_same (suc n == r) refl e
  | inr ne ↦
      let before = peers_fewer r n low (omega arith) in
      let both = length-append (peers r n) (if suc n == r then [] else suc n ∷ []) in
      let last = one (suc n == r) in
      omega arith
]
  where
    one : (b : Bool) → length (if b then [] else suc n ∷ []) ≤ 1
    one true = omega arith
    one false = omega arith

    by_same : (b : Bool) → (suc n == r) ≡ b → suc n ≡ r → length (peers r n ++ (if b then [] else suc n ∷ [])) + 1 ≤ suc n
    by_same true e same = let both = length-append (peers r n) (let none : List ℕ = [] in none) in let few = peers_few r n in omega arith
    by_same false e same = absurd (eqb-false (suc n) r e same)

decided_few : (y : Setting) (r n : ℕ) → length (decided_by y r n) ≤ n
decided_few y r zero = omega arith
decided_few y r (suc n) =
    let before = decided_few y r n in
    let both = length-append (decided_by y r n) (if y.decider n == r then n ∷ [] else []) in
    let last = by (y.decider n == r) in
    omega arith
  where
    by : (b : Bool) → length (if b then n ∷ [] else []) ≤ 1
    by true = omega arith
    by false = omega arith

decided_below : (y : Setting) (r n : ℕ) → AllByRecursion (λ l. l < n) (decided_by y r n)
decided_below y r zero = tt
decided_below y r (suc n) =
    all_append (λ l. l < suc n) (decided_by y r n) (if y.decider n == r then n ∷ [] else [])
    (all_imp (λ l. l < n) (λ l. l < suc n) (decided_by y r n) (λ l h. omega arith) (decided_below y r n)) (by (y.decider n == r))
  where
    by : (b : Bool) → AllByRecursion (λ l. l < suc n) (if b then n ∷ [] else [])
    by true = (omega arith, tt)
    by false = tt

-- ---- frames that can be sent, no more than n

pub record Sends (site : Site) (n : ℕ) (outs : List Out) : Type 0 where
  pub each : AllByRecursion (IsSendable (setting_at site) site.me) outs
  pub few : length outs ≤ n

sends_none : (site : Site) (n : ℕ) → Sends site n []
sends_none site n = record { each = tt; few = omega arith }

sends_one : (site : Site) (out : Out) → IsSendable (setting_at site) site.me out → Sends site 1 (out ∷ [])
sends_one site out h = record { each = (h, tt); few = omega arith }

sends_both : (site : Site) (n m : ℕ) (xs ys : List Out) → Sends site n xs → Sends site m ys → Sends site (n + m) (xs ++ ys)
sends_both site n m xs ys h k =
    let both = length-append xs ys in
    let first = h.few in
    let second = k.few in
    record { each = all_append (IsSendable (setting_at site) site.me) xs ys h.each k.each; few = omega arith }

sends_more : (site : Site) (n m : ℕ) (xs : List Out) → n ≤ m → Sends site n xs → Sends site m xs
sends_more site n m xs le h = let few = h.few in record { each = h.each; few = omega arith }

abbrev FitsOption : Option Ruling → Type 0
FitsOption None = Unit {0}
FitsOption (Some r) = FitsRuling r

module _ (site : Site) (v : Lists) (is : IsKept site v) where
  call_sends : (c : Call) → FitsCall c → Sends site 8 (to_peers (setting_at site) site.me (Some c))
  call_sends c fit =
      let few = peers_few site.me (setting_at site).replicas in
      let long = length_map {Y = Out} (λ (q : ℕ). record { to = q; frame = frames.Call c }) (peers site.me (setting_at site).replicas) in
      let replicas = is.at.tabled.few_replicas in
      record {
        each = all_map (IsSendable (setting_at site) site.me) (λ q. record { to = q; frame = frames.Call c }) (peers site.me (setting_at site).replicas)
            (all_imp (IsPeer (setting_at site).replicas site.me) (λ q. IsSendable (setting_at site) site.me (record { to = q; frame = frames.Call c })) (peers site.me (setting_at site).replicas)
            (λ q h. record { fits = fit; to = (h.some, h.few); other = h.other }) (peers_are site.me (setting_at site).replicas));
        few = omega arith;
      }

  back_sends : (from g n : ℕ) (o : Option Ruling) → IsReplica (setting_at site) from → from ≢ site.me → g < 32 → IsRequestNumber n → FitsOption o → Sends site 1 (back from g n o)
  back_sends from g n None sender another group number fit = sends_none site 1
  back_sends from g n (Some r) sender another group number fit =
      sends_one site _ (record { fits = record { is_group = group; is_number = number; fits_ruling = fit }; to = sender; other = another })

  -- ---- an issue

  module _ (a : Act) (frame : FitsAct a) (accepted : issue_refusal (rules_at site) (setting_at site) (words v) site.me a ≡ None) where
    abbrev lane : ℕ
    lane = lane_here (setting_at site) site.me a

    abbrev number : ℕ
    number = length ((words v).requests lane) + 1

    lane_there : lane < (setting_at site).lanes
    lane_there = let passed = issue_passed site (words v) a accepted in is.at.tabled.lane_exists a.method site.me passed.method is.at.me_exists

    -- by whether the lane is decided here, and by the outcome
    issue_by : (b : Bool) (u : Outcome) → ((setting_at site).decider lane == site.me) ≡ b →
        Sends site 8 (sent_for (setting_at site) site.me a
        (made_issued (new_call (setting_at site) (words v) lane a) (if b then issued_by (place_of (new_call (setting_at site) (words v) lane a)) u else issued.Forwarded lane number))
        (whats.Issued (if b then issued_by (place_of (new_call (setting_at site) (words v) lane a)) u else issued.Forwarded lane number)))
    issue_by true outcomes.Yes e =
        let passed = issue_passed site (words v) a accepted in
        call_sends (new_call (setting_at site) (words v) lane a) (new_call_fits site v is a lane frame passed.method lane_there (passed.room (eqb-true _ _ e)))
    issue_by true (outcomes.Guard i) e = sends_none site 8
    issue_by true (outcomes.Invariant i) e = sends_none site 8
    issue_by false u e =
        let passed = issue_passed site (words v) a accepted in
        let other : (setting_at site).decider lane ≢ site.me = λ q. eqb-false _ _ e q in
        let few = passed.few other in
        let group = is.at.tabled.group_exists a.method site.me passed.method is.at.me_exists other in
        let groups = is.at.tabled.few_groups in
        sends_more site 1 8 _ (omega arith)
        (sends_one site (record { to = (setting_at site).decider lane; frame = frames.Request lane number a }) (record {
          fits = record { is_group = omega arith; is_number = (omega arith, omega arith); fits_act = frame };
          to = is.at.tabled.decider_exists lane lane_there;
          other = other;
        }))

    issue_sends : Sends site 8 (sent_for (setting_at site) site.me a
        (made_issued (new_call (setting_at site) (words v) lane a) (if (setting_at site).decider lane == site.me then issued_by (place_of (new_call (setting_at site) (words v) lane a)) ((rules_at site).outcome v.state a) else issued.Forwarded lane number))
        (whats.Issued (if (setting_at site).decider lane == site.me then issued_by (place_of (new_call (setting_at site) (words v) lane a)) ((rules_at site).outcome v.state a) else issued.Forwarded lane number)))
    issue_sends = issue_by ((setting_at site).decider lane == site.me) ((rules_at site).outcome v.state a) refl

  -- ---- a delivery

  module _ (from : ℕ) (may : MayDeliver site v from) where
    ack_sends : (c : Call) (w : Lists) → IsKept site w → deliver_refusal (rules_at site) (setting_at site) (words v) site.me from (frames.Call c) ≡ None →
        Sends site 1 (record { to = from; frame = frames.Ack c.lane (get_or w.logged c.lane 0) } ∷ [])
    ack_sends c w after accepted =
        let passed = call_passed site v from may c accepted in
        let there = passed.0.there in
        let lanes = is.at.tabled.few_lanes in
        let few = few_logged site w after c.lane in
        sends_one site _ (record { fits = (omega arith, (omega arith, few)); to = may.sender; other = may.another })

    module _ (g n : ℕ) (a : Act) (number : IsRequestNumber n) (frame : FitsAct a)
        (accepted : deliver_refusal (rules_at site) (setting_at site) (words v) site.me from (frames.Request g n a) ≡ None) where
      abbrev many : ℕ
      many = length ((words v).decided g)

      abbrev call : Call
      call = new_call (setting_at site) (words v) g a

      group_few : g < 32
      group_few =
          let there = (request_passed site v from may g n a accepted).0.there in
          let groups = is.at.tabled.few_groups in
          omega arith

      group_lane : g < (setting_at site).lanes
      group_lane =
          let there = (request_passed site v from may g n a accepted).0.there in
          let groups = is.at.tabled.group_lane in
          omega arith

      abbrev sent_with : Option Ruling → List Out
      sent_with ruled = to_peers (setting_at site) site.me (made_ruled call ruled) ++ back from g n ruled

      -- by whether the lane has room, and by the outcome
      ruling_sends : (b : Bool) (u : Outcome) → nat_lt many (rules_at site).lane_limit ≡ b → (rules_at site).outcome v.state a ≡ u →
          Sends site 9 (sent_with (Some (if b then ruling_by (many + 1) u else rulings.Full)))
      ruling_sends true outcomes.Yes e f =
          let room = ltb-true _ _ e in
          let limit = is.at.ranged.limit in
          let passed = (request_passed site v from may g n a accepted).0 in
          sends_both site 8 1 _ _
          (call_sends call (new_call_fits site v is a g frame passed.method group_lane (omega arith)))
          (back_sends from g n (Some (rulings.Applied (many + 1))) may.sender may.another group_few number (omega arith, omega arith))
      ruling_sends true (outcomes.Guard i) e f =
          sends_more site 1 9 _ (omega arith) (back_sends from g n (Some (rulings.Guard i)) may.sender may.another group_few number (is.at.ranged.guard v.state a i f))
      ruling_sends true (outcomes.Invariant i) e f =
          sends_more site 1 9 _ (omega arith) (back_sends from g n (Some (rulings.Invariant i)) may.sender may.another group_few number (is.at.ranged.invariant v.state a i f))
      ruling_sends false u e f = sends_more site 1 9 _ (omega arith) (back_sends from g n (Some rulings.Full) may.sender may.another group_few number tt)

      -- by whether the request is the next
      next_sends : (b : Bool) → Sends site 9 (sent_with (if b then Some (ruling_of (rules_at site) (words v) g a) else None))
      next_sends true = ruling_sends (nat_lt many (rules_at site).lane_limit) ((rules_at site).outcome v.state a) refl refl
      next_sends false = sends_none site 9

      kept_fits : (ruled : List Ruled) (m : ℕ) → AllByRecursion (λ d. FitsRuling d.ruling) ruled → FitsOption (kept_ruling (numbered ruled m))
      kept_fits ruled zero h = tt
      kept_fits ruled (suc m) h = by ruled m h
        where
          by : (ruled : List Ruled) (m : ℕ) → AllByRecursion (λ d. FitsRuling d.ruling) ruled → FitsOption (kept_ruling (slice_get ruled m))
          by [] m h = tt
          by (d ∷ ruled) zero h = h.0
          by (d ∷ ruled) (suc m) h = by ruled m h.1

      -- by the answer
      request_by : (b c next : Bool) (log : List Place) → Sends site 9 (sent_back (setting_at site) (words v) site.me from (frames.Request g n a)
          (whats.Delivered (if b then delivered.Repeat else if c then delivered.Early else delivered.Fresh))
          (if next then Some (ruling_of (rules_at site) (words v) g a) else None)
          (made_ruled call (if next then Some (ruling_of (rules_at site) (words v) g a) else None)) log)
      request_by true c next log =
          sends_more site 1 9 _ (omega arith)
          (back_sends from g n (kept_ruling (numbered ((words v).rulings from g) n)) may.sender may.another group_few number (kept_fits ((words v).rulings from g) n (is.ranges.ruled from g)))
      request_by false true next log = next_sends next
      request_by false false next log = next_sends next

  -- ---- a tick

  module _ (peer : ℕ) where
    calls_due : (l : ℕ) → AllByRecursion Fits (due_calls (words v) peer l)
    calls_due l =
        all_map Fits frames.Call (take 16 (drop (get_or (get_or v.acked l []) peer 0) (get_or v.decided l [])))
        (all_take FitsCall 16 (drop (get_or (get_or v.acked l []) peer 0) (get_or v.decided l []))
        (all_drop FitsCall (get_or (get_or v.acked l []) peer 0) (get_or v.decided l []) (is.ranges.decided l)))

  length_take : {X : Type 0} (n : ℕ) (xs : List X) → length (take n xs) ≤ n
  length_take zero xs = omega arith
  length_take (suc n) [] = omega arith
  length_take (suc n) (x ∷ xs) = let rest = length_take n xs in omega arith

  calls_few : (peer l : ℕ) → length (due_calls (words v) peer l) ≤ 16
  calls_few peer l =
      let rest = drop (get_or (get_or v.acked l []) peer 0) (get_or v.decided l []) in
      let long = length_map frames.Call (take 16 rest) in
      let few = length_take 16 rest in
      omega arith

  open_fit : (g : ℕ) (verdict : ℕ → Option Ruling) (n : ℕ) (acts : List Act) → g < 32 → 1 ≤ n → n + length acts ≤ 65537 → AllByRecursion FitsAct acts → AllByRecursion Fits (open_requests g verdict n acts)
  open_fit g verdict n [] group some few h = tt
  open_fit g verdict n (a ∷ acts) group some few h =
      all_append Fits (if is_some (verdict n) then [] else frames.Request g n a ∷ []) (open_requests g verdict (n + 1) acts) (by (is_some (verdict n)))
      (open_fit g verdict (n + 1) acts group (omega arith) (omega arith) h.1)
    where
      by : (b : Bool) → AllByRecursion Fits (if b then [] else frames.Request g n a ∷ [])
      by true = tt
      by false = (record { is_group = group; is_number = (some, omega arith); fits_act = h.0 }, tt)

  requests_due : (g : ℕ) → g < (setting_at site).groups → AllByRecursion Fits (due_requests (words v) g)
  requests_due g there =
      let groups = is.at.tabled.few_groups in
      let long = length_map (λ (k : Ask). k.act) (get_or v.asks g []) in
      let few = is.ranges.few_asked g in
      all_take Fits 16 _ (open_fit g ((words v).verdict g) 1 ((words v).requests g) (omega arith) (omega arith) (omega arith) (all_map FitsAct (λ (k : Ask). k.act) (get_or v.asks g []) (is.ranges.asked g)))

  due_fits : (q : ℕ) → AllByRecursion Fits (due_to (setting_at site) (words v) site.me q)
  due_fits q =
      all_append Fits (flat_map (due_calls (words v) q) (decided_by (setting_at site) site.me (setting_at site).lanes)) (flat_map (due_requests (words v)) (decided_by (setting_at site) q (setting_at site).groups))
      (all_flat Fits (due_calls (words v) q) (decided_by (setting_at site) site.me (setting_at site).lanes)
      (all_imp (λ l. l < (setting_at site).lanes) (λ l. AllByRecursion Fits (due_calls (words v) q l)) (decided_by (setting_at site) site.me (setting_at site).lanes) (λ l h. calls_due q l) (decided_below (setting_at site) site.me (setting_at site).lanes)))
      (all_flat Fits (due_requests (words v)) (decided_by (setting_at site) q (setting_at site).groups)
      (all_imp (λ g. g < (setting_at site).groups) (λ g. AllByRecursion Fits (due_requests (words v) g)) (decided_by (setting_at site) q (setting_at site).groups) (λ g h. requests_due g h) (decided_below (setting_at site) q (setting_at site).groups)))

  due_few : (q : ℕ) → length (due_to (setting_at site) (words v) site.me q) ≤ 4608
  due_few q =
      let lanes = decided_by (setting_at site) site.me (setting_at site).lanes in
      let groups = decided_by (setting_at site) q (setting_at site).groups in
      let calls = length_flat (due_calls (words v) q) 16 lanes (all_imp (λ l. l < (setting_at site).lanes) (λ l. length (due_calls (words v) q l) ≤ 16) lanes (λ l h. calls_few q l) (decided_below (setting_at site) site.me (setting_at site).lanes)) in
      let requests = length_flat (due_requests (words v)) 16 groups (all_imp (λ g. g < (setting_at site).groups) (λ g. length (due_requests (words v) g) ≤ 16) groups (λ g h. length_take 16 _) (decided_below (setting_at site) q (setting_at site).groups)) in
      let both = length-append (flat_map (due_calls (words v) q) lanes) (flat_map (due_requests (words v)) groups) in
      let lanes_few = decided_few (setting_at site) site.me (setting_at site).lanes in
      let groups_few = decided_few (setting_at site) q (setting_at site).groups in
      let many_lanes = is.at.tabled.few_lanes in
      let many_groups = is.at.tabled.few_groups in
      omega arith

  pub tick_sends : Sends site 32256 (flat_map (λ q. map (λ f. record { to = q; frame = f }) (due_to (setting_at site) (words v) site.me q)) (peers site.me (setting_at site).replicas))
  tick_sends =
      let all = peers site.me (setting_at site).replicas in
      let fewer = peers_fewer site.me (setting_at site).replicas is.at.me_exists.0 is.at.me_exists.1 in
      let replicas = is.at.tabled.few_replicas in
      let few = length_flat {Y = Out} (λ (q : ℕ). map (λ (f : Frame). record { to = q; frame = f }) (due_to (setting_at site) (words v) site.me q)) 4608 all
      (all_imp (IsPeer (setting_at site).replicas site.me) (λ q. length (map (λ (f : Frame). record { to = q; frame = f }) (due_to (setting_at site) (words v) site.me q)) ≤ 4608) all
      (λ q h. let long = length_map {Y = Out} (λ (f : Frame). record { to = q; frame = f }) (due_to (setting_at site) (words v) site.me q) in let due = due_few q in omega arith) (peers_are site.me (setting_at site).replicas)) in
      record {
        each = all_flat (IsSendable (setting_at site) site.me) (λ q. map (λ f. record { to = q; frame = f }) (due_to (setting_at site) (words v) site.me q)) all
            (all_imp (IsPeer (setting_at site).replicas site.me) (λ q. AllByRecursion (IsSendable (setting_at site) site.me) (map (λ f. record { to = q; frame = f }) (due_to (setting_at site) (words v) site.me q))) all
            (λ q h. all_map (IsSendable (setting_at site) site.me) (λ f. record { to = q; frame = f }) (due_to (setting_at site) (words v) site.me q)
            (all_imp Fits (λ f. IsSendable (setting_at site) site.me (record { to = q; frame = f })) (due_to (setting_at site) (words v) site.me q)
            (λ f fit. record { fits = fit; to = (h.some, h.few); other = h.other }) (due_fits q)))
            (peers_are site.me (setting_at site).replicas));
        few = omega arith;
      }

-- ---- turns

as_sendable : (site : Site) (n : ℕ) (outs : List Out) → n ≤ 32256 → Sends site n outs → AreSendable (setting_at site) site.me outs
as_sendable site n outs le h = let few = h.few in record { each = h.each; few = omega arith }

module _ (site : Site) (v w : Lists) (is : IsKept site v) (what : What) (places : List Place) (outs : List Out) (done : Bool) where
  pub issue_sendable : (a : Act) → FitsAct a → issue_refusal (rules_at site) (setting_at site) (words v) site.me a ≡ None →
      Answers site v w (ActComes a) what places outs done → AreSendable (setting_at site) site.me outs
  issue_sendable a frame accepted answers = subst (AreSendable (setting_at site) site.me) (sym answers.turn.sent) (as_sendable site 8 _ (omega arith) (issue_sends site v is a frame accepted))

  pub tick_sendable : Answers site v w Beat what places outs done → AreSendable (setting_at site) site.me outs
  tick_sendable answers = subst (AreSendable (setting_at site) site.me) (sym answers.turn.sent) (as_sendable site 32256 _ (omega arith) (tick_sends site v is))

  module _ (from which : ℕ) (may : MayDeliver site v from) where
    pub deliver_sendable : (f : Frame) → Fits f → deliver_refusal (rules_at site) (setting_at site) (words v) site.me from f ≡ None →
        Answers site v w (FrameComes from which f) what places outs done → AreSendable (setting_at site) site.me outs
    deliver_sendable (frames.Call c) fit accepted answers =
        subst (AreSendable (setting_at site) site.me) (sym (answers.turn.sent ∙ ap (λ n. record { to = from; frame = frames.Ack c.lane n } ∷ []) (sym (answers.kept.lanes c.lane))))
        (as_sendable site 1 _ (omega arith) (ack_sends site v is from may c w answers.kept accepted))
    deliver_sendable (frames.Ack lane n) fit accepted answers = subst (AreSendable (setting_at site) site.me) (sym answers.turn.sent) (as_sendable site 0 _ (omega arith) (sends_none site 0))
    deliver_sendable (frames.Request g n a) fit accepted answers =
        subst (AreSendable (setting_at site) site.me) (sym answers.turn.sent)
        (as_sendable site 9 _ (omega arith) (request_by site v is from may g n a fit.is_number fit.fits_act accepted
        (nat_lt n (length ((words v).rulings from g) + 1)) (nat_lt (length ((words v).rulings from g) + 1) n) (n == (length ((words v).rulings from g) + 1)) w.log))
    deliver_sendable (frames.Verdict g n r) fit accepted answers = subst (AreSendable (setting_at site) site.me) (sym answers.turn.sent) (as_sendable site 0 _ (omega arith) (sends_none site 0))
    deliver_sendable (frames.Hello version digest sender of) fit accepted answers = subst (AreSendable (setting_at site) site.me) (sym answers.turn.sent) (as_sendable site 0 _ (omega arith) (sends_none site 0))
    deliver_sendable frames.Bye fit accepted answers = subst (AreSendable (setting_at site) site.me) (sym answers.turn.sent) (as_sendable site 0 _ (omega arith) (sends_none site 0))

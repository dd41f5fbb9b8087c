-- A call that came, by the table of turns.
use Rattle.std.proofs.Common.{◌≡◌, ◌++◌, ℕ, zero, suc, ◌+◌, ◌≤◌, ◌<◌, Bool, true, false, cond, List, [], ◌∷◌, length, get_or, take, refl, sym, subst, ap, ◌∙◌, inl, inr, arith}
use Rattle.std.specs.Prelude.{Option, Some, None, ◌==◌, if◌then◌else◌, is_some, option_map, slice_get}
use Rattle.std.specs.List.{AllByRecursion}
use Rattle.std.specs.Ordering.{eq_by_cmp, is_eq}
use Rattle.std.specs.Cmp.{Equal-is, tied_itself}
use Rattle.std.specs.FinMap as finmap
use Rattle.std.proofs.lemmas.Bool.{eqb-true, eq-eqb, and_parts, and_from}
use Rattle.std.proofs.lemmas.List.{append-nil}
use Rattle.ham_syntax.specs.declared.act.Place.{Place}
use Rattle.ham_syntax.specs.declared.act.Call.{Call}
use Rattle.ham_buffer.specs.declared.wait.Wait.{Wait}
use Rattle.ham_buffer.specs.declared.buffer.Kept.{Kept}
use Rattle.ham_buffer.specs.Buffers.{place_cmp, Buffer, kept_at, kept_call, with_kept}
use Rattle.ham_buffer.proofs.Maps.{place_cmp_total, place_exact}
use Rattle.ham_turns.specs.declared.turn.Delivered.TheVariants as delivered
use Rattle.ham_turns.specs.declared.turn.What.TheVariants as whats
use Rattle.ham_frame.specs.declared.frame.Frame.TheVariants as frames
use Rattle.ham_turns.specs.declared.turn.Out.{Out}
use Rattle.ham_site.specs.Sites.{Site, rules_at, setting_at}
use Rattle.ham_turns.specs.Words.{FrameComes, numbered, place_of, same_place}
use Rattle.ham_turns.specs.Work.{first_of_two, own_work}
use Rattle.ham_turns.specs.Ready.{LogsReady}
use Rattle.ham_replica.specs.Values.{Lists, words}
use Rattle.ham_replica.specs.Kept.{IsWaiting, IsKept, waits_of}
use Rattle.ham_replica.specs.Deliveries.{MayTake, waiting_call}
use Rattle.ham_replica.specs.Drains.{Drains}
use Rattle.ham_replica.specs.Issues.{Answers}
use Rattle.ham_replica.proofs.Items.{true_or_false, first_none}
use Rattle.ham_replica.proofs.Deciding.{max_none}
use Rattle.ham_replica.proofs.Logging.{same_or_not}

-- a call that came waits
abbrev pub take_call : Lists → Kept → Lists
take_call v k = record v { buffer = with_kept v.buffer k }

found_here : (b : Buffer) (k : Kept) → kept_at (with_kept b k) (place_of k.call) ≡ Some k
found_here b k =
    finmap.get-insert place_cmp_total b.kept (place_of k.call) k (place_of k.call)
    ∙ ap (λ t. cond t (Some k) (finmap.get b.kept (place_of k.call))) (ap is_eq (tied_itself place_cmp_total (place_of k.call)))

found_other : (b : Buffer) (k : Kept) (p : Place) → (p ≡ place_of k.call → ⊥) → kept_at (with_kept b k) p ≡ kept_at b p
found_other b k p ne = finmap.get-insert place_cmp_total b.kept (place_of k.call) k p ∙ elim (true_or_false (eq_by_cmp place_cmp p (place_of k.call))) [
  | inl t ↦ absurd (ne (place_exact p (place_of k.call) ((Equal-is (place_cmp p (place_of k.call))).0 t)))
  | inr f ↦ rw f refl
]

same_place_refl : (p : Place) → same_place p p ≡ true
same_place_refl p = and_from (p.lane == p.lane) (p.number == p.number) (eq-eqb p.lane p.lane refl) (eq-eqb p.number p.number refl)

pub same_place_true : (p q : Place) → same_place p q ≡ true → p ≡ q
same_place_true p q h =
    let parts = and_parts (p.lane == q.lane) (p.number == q.number) h in
    let l = eqb-true p.lane q.lane parts.0 in
    let n = eqb-true p.number q.number parts.1 in
    λ i. record { lane = l i; number = n i }

module _ (site : Site) (v : Lists) (from which : ℕ) (k : Kept) (fresh : (words v).kept (place_of k.call) ≡ None) where
  none_first : {X : Type 0} (a b : Option X) → first_of_two a b ≡ None → a ≡ None
  none_first None b h = refl
  none_first (Some z) b h = cc

  none_came : numbered (get_or v.came k.call.lane []) k.call.number ≡ None
  none_came = none_first (numbered (get_or v.came k.call.lane []) k.call.number) (kept_call v.buffer (place_of k.call)) fresh

  kept_more : (p : Place) → (words (take_call v k)).kept p ≡ first_of_two ((words v).kept p) (if same_place (place_of k.call) p then Some k.call else None)
  kept_more p = elim (same_or_not p (place_of k.call)) [
    | inl e ↦ subst (λ z. (words (take_call v k)).kept z ≡ first_of_two ((words v).kept z) (if same_place (place_of k.call) z then Some k.call else None)) (sym e)
        (rw (same_place_refl (place_of k.call), fresh)
        (ap (λ o. first_of_two o (kept_call (with_kept v.buffer k) (place_of k.call))) none_came ∙ ap (option_map (λ (z : Kept). z.call)) (found_here v.buffer k)))
    | inr ne ↦
        let apart : same_place (place_of k.call) p ≡ false = not_true _ (λ t. ne (sym (same_place_true (place_of k.call) p t))) in
        rw (found_other v.buffer k p ne, apart) (sym (first_none ((words v).kept p)))
  ]
    where
      not_true : (b : Bool) → (b ≡ true → ⊥) → b ≡ false
      not_true true n = absurd (n refl)
      not_true false n = refl

  pub take_is_own : words (take_call v k) ≡ own_work (rules_at site) (setting_at site) (words v) site.me (FrameComes from which (frames.Call k.call))
  take_is_own = λ i. record {
    state = v.state;
    log = v.log;
    count_of = (words v).count_of;
    decided = (words v).decided;
    kept = λ p. kept_more p i;
    requests = λ h. sym (append-nil ((words v).requests h)) i;
    verdict = λ h n. sym (first_none ((words v).verdict h n)) i;
    rulings = λ f h. sym (append-nil ((words v).rulings f h)) i;
    acked = λ l p. sym (max_none ((words v).acked l p)) i;
  }

module _ (site : Site) (v : Lists) (is : IsKept site v) (k : Kept) (waits : IsWaiting site v (place_of k.call) k) where
  pub take_kept : IsKept site (take_call v k)
  take_kept = record {
    at = is.at;
    opened = is.opened;
    shaped = record {
      counts = is.shaped.counts;
      logged = is.shaped.logged;
      decided = is.shaped.decided;
      acked = is.shaped.acked;
      peers = is.shaped.peers;
      came = is.shaped.came;
      lanes = is.shaped.lanes;
      buffer = is.shaped.buffer;
      asks = is.shaped.asks;
      senders = is.shaped.senders;
      groups = is.shaped.groups;
    };
    lanes = is.lanes;
    here = is.here;
    elsewhere = is.elsewhere;
    few = is.few;
    total = is.total;
    counted = is.counted;
    slotted = is.slotted;
    values = is.values;
    folded = record { calls = is.folded.calls; places = is.folded.places; kept = is.folded.kept; only = is.folded.only; state = is.folded.state };
    waiting = λ p j e. elim (same_or_not p (place_of k.call)) [
      | inl s ↦
          let same : k ≡ j = same_some k j k (sym (found_here v.buffer k) ∙ ap (kept_at (with_kept v.buffer k)) (sym s) ∙ e) in
          moved (subst (IsWaiting site v p) same (subst (λ q. IsWaiting site v q k) (sym s) waits))
      | inr ne ↦ moved (is.waiting p j (sym (found_other v.buffer k p ne) ∙ e))
    ];
    ranges = record { decided = is.ranges.decided; asked = is.ranges.asked; few_asked = is.ranges.few_asked; ruled = is.ranges.ruled };
  }
    where
      same_some : {X : Type 0} (a b o : X) → Some a ≡ Some b → a ≡ b
      same_some a b o h = cc

      moved : {p : Place} {j : Kept} → IsWaiting site v p j → IsWaiting site (take_call v k) p j
      moved w = record { place = w.place; lane = w.lane; elsewhere = w.elsewhere; above = w.above; few = w.few; method = w.method; own = w.own; fits = w.fits; waits = w.waits }

  -- the turn of a call that is fresh: it waits, and the drain logs what is ready
  pub turn_fresh : (from which : ℕ) (w : Lists) (after : List Place) (done : Bool) → (words v).kept (place_of k.call) ≡ None → Drains site (take_call v k) w [] after done →
      Answers site v w (FrameComes from which (frames.Call k.call)) (whats.Delivered delivered.Fresh) after
      (record { to = from; frame = frames.Ack k.call.lane (get_or w.logged k.call.lane 0) } ∷ []) done
  turn_fresh from which w after done fresh d = record {
    kept = d.kept;
    turn = record {
      calls = d.goes.calls;
      drain = subst (λ z. LogsReady (rules_at site) (setting_at site) z d.goes.calls (words w)) (take_is_own site v from which k fresh) d.goes.logs;
      settled = d.settled;
      answer = ap (λ o. whats.Delivered (if is_some o then delivered.Repeat else delivered.Fresh)) (sym fresh);
      logged = d.goes.told;
      sent = ap (λ n. record { to = from; frame = frames.Ack k.call.lane n } ∷ []) (d.kept.lanes k.call.lane);
    };
  }

-- ---- a call that the tests let pass

pub waits_below : (slots : ℕ) (needs deps : List ℕ) → AllByRecursion (λ s. s < slots) needs → AllByRecursion (λ (z : Wait). z.slot < slots) (waits_of needs deps)
waits_below slots [] deps h = tt
waits_below slots (s ∷ needs) [] h = tt
waits_below slots (s ∷ needs) (n ∷ deps) h = (h.0, waits_below slots needs deps h.1)

get_none : {X : Type 0} (xs : List X) (n : ℕ) → slice_get xs n ≡ None → length xs ≤ n
get_none [] n e = omega arith
get_none (z ∷ xs) zero e = cc
get_none (z ∷ xs) (suc n) e = let h = get_none xs n e in omega arith

numbered_none : {X : Type 0} (xs : List X) (n : ℕ) → 1 ≤ n → numbered xs n ≡ None → length xs < n
numbered_none xs zero h e = absurd (omega arith)
numbered_none xs (suc n) h e = let k = get_none xs n e in omega arith

module _ (site : Site) (v : Lists) (is : IsKept site v) (c : Call) (may : MayTake site v c) where
  none_of_two : {X : Type 0} (a b : Option X) → first_of_two a b ≡ None → (a ≡ None) × (b ≡ None)
  none_of_two None b h = (refl, h)
  none_of_two (Some z) b h = cc

  parts_none : (numbered (get_or v.came c.lane []) c.number ≡ None) × (kept_call v.buffer (place_of c) ≡ None)
  parts_none = none_of_two (numbered (get_or v.came c.lane []) c.number) (kept_call v.buffer (place_of c)) may.fresh

  pub takes_waiting : IsWaiting site v (place_of c) (waiting_call site c)
  takes_waiting =
      let came = (is.elsewhere c.lane may.elsewhere).0 in
      let beyond = numbered_none (get_or v.came c.lane []) c.number may.some parts_none.0 in
      record {
        place = refl;
        lane = may.lane;
        elsewhere = may.elsewhere;
        above = omega arith;
        few = may.few;
        method = may.method;
        own = may.own;
        fits = may.fits;
        waits = refl;
      }

  pub not_repeat : is_some (kept_at v.buffer (place_of c)) ≡ true → ⊥
  not_repeat h = differ (kept_at v.buffer (place_of c)) parts_none.1 h
    where
      differ : (o : Option Kept) → option_map (λ k. k.call) o ≡ None → is_some o ≡ true → ⊥
      differ None e h = cc
      differ (Some k) e h = cc

  pub taken_kept : (u : Lists) → u ≡ take_call v (waiting_call site c) → IsKept site u
  taken_kept u e = subst (IsKept site) (sym e) (take_kept site v is (waiting_call site c) takes_waiting)

  -- the turn, as the code tells it
  pub fresh_as_told : (from which : ℕ) (u w : Lists) (before after : List Place) (out : List Out) (done : Bool) (count : ℕ) → u ≡ take_call v (waiting_call site c) → before ≡ [] →
      Drains site u w before after done → count ≡ get_or w.logged c.lane 0 → out ≡ record { to = from; frame = frames.Ack c.lane count } ∷ [] →
      Answers site v w (FrameComes from which (frames.Call c)) (whats.Delivered delivered.Fresh) after out done
  fresh_as_told from which u w before after out done count taken first d counted sent =
      let drains = subst (λ l. Drains site (take_call v (waiting_call site c)) w l after done) first (subst (λ l. Drains site l w before after done) taken d) in
      subst (λ o. Answers site v w (FrameComes from which (frames.Call c)) (whats.Delivered delivered.Fresh) after o done)
      (sym (sent ∙ ap (λ n. record { to = from; frame = frames.Ack c.lane n } ∷ []) counted))
      (turn_fresh site v is (waiting_call site c) takes_waiting from which w after done may.fresh drains)

-- one more wait
pub waits_more : (slots deps : List ℕ) (i : ℕ) → i < length slots → i < length deps →
    waits_of (take i slots) (take i deps) ++ record { slot = get_or slots i 0; count = get_or deps i 0 } ∷ [] ≡ waits_of (take (i + 1) slots) (take (i + 1) deps)
waits_more [] deps i h k = absurd (omega arith)
waits_more (s ∷ slots) [] i h k = absurd (omega arith)
waits_more (s ∷ slots) (n ∷ deps) zero h k = refl
waits_more (s ∷ slots) (n ∷ deps) (suc i) h k =
    let e : suc (i + 1) ≡ suc i + 1 = omega arith in
    ap (λ l. record { slot = s; count = n } ∷ l) (waits_more slots deps i (omega arith) (omega arith))
    ∙ ap (λ j. waits_of (take j (s ∷ slots)) (take j (n ∷ deps))) e

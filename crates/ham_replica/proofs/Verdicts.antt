-- A verdict, by the table of turns.
use Rattle.std.proofs.Common.{◌≡◌, ◌++◌, ℕ, zero, suc, ◌-◌, ◌≤◌, ◌<◌, Bool, true, false, eqb, ◌&&◌, List, [], ◌∷◌, length, map, get_or, set, refl, sym, subst, ap, ◌∙◌, inl, inr, arith}
use Rattle.std.specs.Prelude.{Option, Some, None, ◌==◌, nat_lt, nat_le, if◌then◌else◌, is_some, slice_get}
use Rattle.std.specs.List.{AllByRecursion}
use Rattle.ham_frame.specs.Spelling.{FitsAct}
use Rattle.std.proofs.lemmas.Bool.{eqb-true, eq-eqb, eqb-false, and_parts, ltb-true, le-leb, lt-leb}
use Rattle.std.proofs.lemmas.List.{append-nil, length-set, get_or-set_same, get_or-set_other}
use Rattle.ham_frame.specs.declared.frame.Ruling.{Ruling}
use Rattle.ham_frame.specs.declared.frame.Frame.TheVariants as frames
use Rattle.ham_turns.specs.declared.turn.Delivered.TheVariants as delivered
use Rattle.ham_turns.specs.declared.turn.What.TheVariants as whats
use Rattle.ham_turns.specs.declared.turn.Out.{Out}
use Rattle.ham_turns.specs.declared.turn.DeliverRefusal.TheVariants as deliver
use Rattle.ham_turns.specs.declared.turn.Delivered.{Delivered}
use Rattle.ham_turns.specs.Refusals.{deliver_refusal, first_of, verdicts_differ, same_ruling}
use Rattle.ham_site.specs.declared.out.Turn.{Turn}
use Rattle.ham_replica.specs.Deliveries.{MayDeliver, IsDelivered, IsPlain}
use Rattle.ham_replica.proofs.Items.{length_map}
use Rattle.ham_replica.proofs.Testing.{test_goes, same_ruling_refl}
use Rattle.ham_site.specs.Sites.{Site, rules_at, setting_at}
use Rattle.ham_turns.specs.Words.{FrameComes, numbered}
use Rattle.ham_turns.specs.Work.{first_of_two, own_work}
use Rattle.ham_turns.specs.Ready.{IsSettled}
use Rattle.ham_resend.specs.declared.asks.Ask.{Ask}
use Rattle.ham_resend.specs.Asking.{told_at, verdict_on}
use Rattle.ham_replica.specs.Values.{Lists, words}
use Rattle.ham_replica.specs.Steps.{told_more}
use Rattle.ham_replica.specs.Kept.{IsKept}
use Rattle.ham_replica.specs.Issues.{Answers}
use Rattle.ham_replica.proofs.Items.{true_or_false, first_none}
use Rattle.ham_replica.proofs.Deciding.{max_none}
use Rattle.ham_replica.proofs.Plain.{first_some, not_true, plain_turn, as_plain}
use Rattle.ham_replica.proofs.Staying.{kept_with, settled_with}

map_told : (made : List Ask) (i : ℕ) (v : Ruling) → map (λ (a : Ask). a.act) (told_at made i v) ≡ map (λ (a : Ask). a.act) made
map_told [] i v = refl
map_told (a ∷ made) zero v = refl
map_told (a ∷ made) (suc i) v = ap (λ l. a.act ∷ l) (map_told made i v)

fit_told : (made : List Ask) (i : ℕ) (v : Ruling) → AllByRecursion (λ (a : Ask). FitsAct a.act) made → AllByRecursion (λ (a : Ask). FitsAct a.act) (told_at made i v)
fit_told [] i v h = tt
fit_told (a ∷ made) zero v h = (h.0, h.1)
fit_told (a ∷ made) (suc i) v h = (h.0, fit_told made i v h.1)

length_told : (made : List Ask) (i : ℕ) (v : Ruling) → length (told_at made i v) ≡ length made
length_told [] i v = refl
length_told (a ∷ made) zero v = refl
length_told (a ∷ made) (suc i) v = ap suc (length_told made i v)

get_told_same : (made : List Ask) (k : ℕ) (v : Ruling) → is_some (slice_get made k) ≡ true → verdict_on (slice_get (told_at made k v) k) ≡ Some v
get_told_same [] k v s = cc
get_told_same (a ∷ made) zero v s = refl
get_told_same (a ∷ made) (suc k) v s = get_told_same made k v s

get_told_other : (made : List Ask) (k j : ℕ) (v : Ruling) → (k ≡ j → ⊥) → verdict_on (slice_get (told_at made k v) j) ≡ verdict_on (slice_get made j)
get_told_other [] k j v ne = refl
get_told_other (a ∷ made) zero zero v ne = absurd (ne refl)
get_told_other (a ∷ made) zero (suc j) v ne = refl
get_told_other (a ∷ made) (suc k) zero v ne = refl
get_told_other (a ∷ made) (suc k) (suc j) v ne = get_told_other made k j v (λ e. ne (ap suc e))

numbered_told_same : (made : List Ask) (n : ℕ) (v : Ruling) → is_some (numbered made n) ≡ true → verdict_on (numbered (told_at made (n - 1) v) n) ≡ Some v
numbered_told_same made zero v s = cc
numbered_told_same made (suc k) v s =
    let e : suc k - 1 ≡ k = omega arith in
    subst (λ z. verdict_on (slice_get (told_at made z v) k) ≡ Some v) (sym e) (get_told_same made k v s)

numbered_told_other : (made : List Ask) (n m : ℕ) (v : Ruling) → 1 ≤ n → (n ≡ m → ⊥) → verdict_on (numbered (told_at made (n - 1) v) m) ≡ verdict_on (numbered made m)
numbered_told_other made zero m v h ne = absurd (omega arith)
numbered_told_other made (suc k) zero v h ne = refl
numbered_told_other made (suc k) (suc j) v h ne =
    let e : suc k - 1 ≡ k = omega arith in
    subst (λ z. verdict_on (slice_get (told_at made z v) j) ≡ verdict_on (slice_get made j)) (sym e) (get_told_other made k j v (λ q. ne (ap suc q)))

numbered_some : {X : Type 0} (xs : List X) (n : ℕ) → is_some (numbered xs n) ≡ true → 1 ≤ n
numbered_some xs zero s = cc
numbered_some xs (suc n) s = omega arith

both : (b c : Bool) (v : Ruling) (o : Option Ruling) → (b && c ≡ true → ⊥) → o ≡ first_of_two o (if b && c then Some v else None)
both b c v o never = let f = not_true (b && c) never in rw f (sym (first_none o))

module _ (site : Site) (v : Lists) (is : IsKept site v) (settled : IsSettled (setting_at site) (words v)) (from which g n : ℕ) (r : Ruling) (there : g < length v.asks) where
  abbrev made : List Ask
  made = get_or v.asks g []

  module _ (some : is_some (numbered made n) ≡ true) (open_still : verdict_on (numbered made n) ≡ None) where
    requests_same : (h : ℕ) → map (λ (a : Ask). a.act) (get_or (told_more v g n r).asks h []) ≡ map (λ (a : Ask). a.act) (get_or v.asks h []) ++ []
    requests_same h = elim (true_or_false (eqb g h)) [
      | inl t ↦ subst (λ z. map (λ (a : Ask). a.act) (get_or (told_more v g n r).asks z []) ≡ map (λ (a : Ask). a.act) (get_or v.asks z []) ++ []) (eqb-true g h t)
          (ap (map (λ (a : Ask). a.act)) (get_or-set_same v.asks g (told_at made (n - 1) r) [] there) ∙ map_told made (n - 1) r ∙ sym (append-nil _))
      | inr f ↦ ap (map (λ (a : Ask). a.act)) (get_or-set_other v.asks g h (told_at made (n - 1) r) [] (λ q. eqb-false g h f (sym q))) ∙ sym (append-nil _)
    ]

    verdict_more : (h m : ℕ) → verdict_on (numbered (get_or (told_more v g n r).asks h []) m) ≡ first_of_two (verdict_on (numbered (get_or v.asks h []) m)) (if (g == h) && (n == m) then Some r else None)
    verdict_more h m = elim (true_or_false (eqb g h)) [
      | inl t ↦ subst (λ z. verdict_on (numbered (get_or (told_more v g n r).asks z []) m) ≡ first_of_two (verdict_on (numbered (get_or v.asks z []) m)) (if (g == z) && (n == m) then Some r else None)) (eqb-true g h t)
          (ap (λ l. verdict_on (numbered l m)) (get_or-set_same v.asks g (told_at made (n - 1) r) [] there) ∙ elim (true_or_false (eqb n m)) [
            | inl s ↦ subst (λ z. verdict_on (numbered (told_at made (n - 1) r) z) ≡ first_of_two (verdict_on (numbered made z)) (if (g == g) && (n == z) then Some r else None)) (eqb-true n m s)
                (rw (eq-eqb g g refl, eq-eqb n n refl, open_still) (numbered_told_same made n r some))
            | inr f ↦ numbered_told_other made n m r (numbered_some made n some) (eqb-false n m f) ∙ both (g == g) (n == m) r _ (λ b. differ (n == m) (and_parts (g == g) (n == m) b).1 f)
          ])
      | inr f ↦
          ap (λ l. verdict_on (numbered l m)) (get_or-set_other v.asks g h (told_at made (n - 1) r) [] (λ q. eqb-false g h f (sym q)))
          ∙ both (g == h) (n == m) r _ (λ b. differ (g == h) (and_parts (g == h) (n == m) b).0 f)
    ]
      where
        differ : (b : Bool) → b ≡ true → b ≡ false → ⊥
        differ b t f = cc

    asked_fit : (h : ℕ) → AllByRecursion (λ (a : Ask). FitsAct a.act) (get_or (told_more v g n r).asks h [])
    asked_fit h = elim (true_or_false (eqb g h)) [
      | inl t ↦ subst (λ z. AllByRecursion (λ (a : Ask). FitsAct a.act) (get_or (told_more v g n r).asks z [])) (eqb-true g h t)
          (subst (AllByRecursion (λ (a : Ask). FitsAct a.act)) (sym (get_or-set_same v.asks g (told_at made (n - 1) r) [] there)) (fit_told made (n - 1) r (is.ranges.asked g)))
      | inr f ↦ subst (AllByRecursion (λ (a : Ask). FitsAct a.act)) (sym (get_or-set_other v.asks g h (told_at made (n - 1) r) [] (λ q. eqb-false g h f (sym q)))) (is.ranges.asked h)
    ]

    few_asked : (h : ℕ) → length (get_or (told_more v g n r).asks h []) ≤ 65536
    few_asked h = elim (true_or_false (eqb g h)) [
      | inl t ↦ subst (λ z. length (get_or (told_more v g n r).asks z []) ≤ 65536) (eqb-true g h t)
          (let same = ap length (get_or-set_same v.asks g (told_at made (n - 1) r) [] there) ∙ length_told made (n - 1) r in let few = is.ranges.few_asked g in omega arith)
      | inr f ↦ let same = ap length (get_or-set_other v.asks g h (told_at made (n - 1) r) [] (λ q. eqb-false g h f (sym q))) in let few = is.ranges.few_asked h in omega arith
    ]

    told_is_own : words (told_more v g n r) ≡ own_work (rules_at site) (setting_at site) (words v) site.me (FrameComes from which (frames.Verdict g n r))
    told_is_own = λ i. record {
      state = v.state;
      log = v.log;
      count_of = (words v).count_of;
      decided = (words v).decided;
      kept = λ p. sym (first_none ((words v).kept p)) i;
      requests = λ h. requests_same h i;
      verdict = λ h m. verdict_more h m i;
      rulings = λ f h. sym (append-nil ((words v).rulings f h)) i;
      acked = λ l p. sym (max_none ((words v).acked l p)) i;
    }

    pub told_first : Answers site v (told_more v g n r) (FrameComes from which (frames.Verdict g n r)) (whats.Delivered delivered.Noted) [] [] true
    told_first = plain_turn site v (told_more v g n r) (FrameComes from which (frames.Verdict g n r)) (whats.Delivered delivered.Noted) []
        (kept_with site v v.acked _ v.rulings is is.shaped.acked is.shaped.peers (length-set v.asks g _ ∙ is.shaped.asks) is.shaped.senders is.shaped.groups
        (record { decided = is.ranges.decided; asked = asked_fit; few_asked = few_asked; ruled = is.ranges.ruled }))
        (settled_with site v v.acked _ v.rulings settled) told_is_own
        (ap (λ o. whats.Delivered (if is_some o then delivered.Repeat else delivered.Noted)) (sym open_still)) refl refl

  module _ (kept : Ruling) (before : verdict_on (numbered made n) ≡ Some kept) where
    verdict_again : (h m : ℕ) → (words v).verdict h m ≡ first_of_two ((words v).verdict h m) (if (g == h) && (n == m) then Some r else None)
    verdict_again h m = elim (true_or_false ((g == h) && (n == m))) [
      | inl t ↦
          let parts = and_parts (g == h) (n == m) t in
          first_some ((words v).verdict h m) _ kept (ap (λ z. verdict_on (numbered (get_or v.asks z []) m)) (sym (eqb-true g h parts.0)) ∙ ap (λ z. verdict_on (numbered made z)) (sym (eqb-true n m parts.1)) ∙ before)
      | inr f ↦ rw f (sym (first_none ((words v).verdict h m)))
    ]

    again_is_own : words v ≡ own_work (rules_at site) (setting_at site) (words v) site.me (FrameComes from which (frames.Verdict g n r))
    again_is_own = λ i. record {
      state = v.state;
      log = v.log;
      count_of = (words v).count_of;
      decided = (words v).decided;
      kept = λ p. sym (first_none ((words v).kept p)) i;
      requests = λ h. sym (append-nil ((words v).requests h)) i;
      verdict = λ h m. verdict_again h m i;
      rulings = λ f h. sym (append-nil ((words v).rulings f h)) i;
      acked = λ l p. sym (max_none ((words v).acked l p)) i;
    }

    pub told_again : Answers site v v (FrameComes from which (frames.Verdict g n r)) (whats.Delivered delivered.Repeat) [] [] true
    told_again = plain_turn site v v (FrameComes from which (frames.Verdict g n r)) (whats.Delivered delivered.Repeat) [] is settled again_is_own
        (ap (λ o. whats.Delivered (if is_some o then delivered.Repeat else delivered.Noted)) (sym before)) refl refl

-- ---- the same, as the code tells it

get_some : {X : Type 0} (xs : List X) (n : ℕ) → is_some (slice_get xs n) ≡ true → n < length xs
get_some [] n s = cc
get_some (z ∷ xs) zero s = omega arith
get_some (z ∷ xs) (suc n) s = let h = get_some xs n s in omega arith

numbered_within : {X : Type 0} (xs : List X) (n : ℕ) → is_some (numbered xs n) ≡ true → n ≤ length xs
numbered_within xs zero s = omega arith
numbered_within xs (suc n) s = let h = get_some xs n s in omega arith

get_nothing : {X : Type 0} (xs : List X) (n : ℕ) → slice_get xs n ≡ None → length xs ≤ n
get_nothing [] n e = omega arith
get_nothing (z ∷ xs) zero e = cc
get_nothing (z ∷ xs) (suc n) e = let h = get_nothing xs n e in omega arith

numbered_nothing : {X : Type 0} (xs : List X) (n : ℕ) → 1 ≤ n → numbered xs n ≡ None → length xs < n
numbered_nothing xs zero h e = absurd (omega arith)
numbered_nothing xs (suc n) h e = let k = get_nothing xs n e in omega arith

asked_some : (o : Option Ask) (v : Ruling) → verdict_on o ≡ Some v → is_some o ≡ true
asked_some None v e = cc
asked_some (Some a) v e = refl

module _ (site : Site) (v : Lists) (from g n : ℕ) (r : Ruling) (may : MayDeliver site v from) (yours : (nat_lt g (setting_at site).groups && ((setting_at site).decider g == from)) ≡ true) where
  abbrev asked : List Ask
  asked = get_or v.asks g []

  abbrev many : ℕ
  many = length ((words v).requests g)

  many_is : many ≡ length asked
  many_is = length_map (λ (a : Ask). a.act) asked

  group_there : g < length v.asks
  group_there = subst (λ m. g < m) (sym may.kept.shaped.asks) (ltb-true _ _ (and_parts (nat_lt g (setting_at site).groups) ((setting_at site).decider g == from) yours).0)

  refusal_is : (o : Option Ruling) (b : Bool) → verdict_on (numbered asked n) ≡ o → nat_le n many ≡ b →
      deliver_refusal (rules_at site) (setting_at site) (words v) site.me from (frames.Verdict g n r) ≡ first_of (verdicts_differ g n r o ++ (b, deliver.UnknownRequest many) ∷ [])
  refusal_is o b e f = λ i. first_of ((yours i, deliver.NotYours) ∷ (verdicts_differ g n r (e i) ++ (f i, deliver.UnknownRequest many) ∷ []))

  pub first_delivered : (asks : List (List Ask)) (t : Turn Delivered) (out : List Out) → is_some (numbered asked n) ≡ true → verdict_on (numbered asked n) ≡ None →
      asks ≡ set v.asks g (told_at asked (n - 1) r) → IsPlain t delivered.Noted out → out ≡ [] → IsDelivered site v (record v { asks = asks }) from (frames.Verdict g n r) t
  first_delivered asks t out some open_still left plain none =
      let within = numbered_within asked n some in
      let same = many_is in
      record {
        accepted = refusal_is None true open_still (le-leb _ _ (omega arith));
        answers = λ which. as_plain site v (record v { asks = asks }) (FrameComes from which (frames.Verdict g n r)) t delivered.Noted out [] plain none
            (subst (λ z. Answers site v (record v { asks = z }) (FrameComes from which (frames.Verdict g n r)) (whats.Delivered delivered.Noted) [] [] true) (sym left)
            (told_first site v may.kept may.settled from which g n r group_there some open_still));
      }

  pub again_delivered : (asks : List (List Ask)) (t : Turn Delivered) (out : List Out) → verdict_on (numbered asked n) ≡ Some r → asks ≡ v.asks → IsPlain t delivered.Repeat out → out ≡ [] →
      IsDelivered site v (record v { asks = asks }) from (frames.Verdict g n r) t
  again_delivered asks t out before left plain none =
      let within = numbered_within asked n (asked_some (numbered asked n) r before) in
      let same = many_is in
      record {
        accepted = refusal_is (Some r) true before (le-leb _ _ (omega arith)) ∙ test_goes (same_ruling r r) _ _ (same_ruling_refl r);
        answers = λ which. as_plain site v (record v { asks = asks }) (FrameComes from which (frames.Verdict g n r)) t delivered.Repeat out [] plain none
            (subst (λ z. Answers site v (record v { asks = z }) (FrameComes from which (frames.Verdict g n r)) (whats.Delivered delivered.Repeat) [] [] true) (sym left)
            (told_again site v may.kept may.settled from which g n r group_there r before));
      }

  pub unknown_refused : (len : ℕ) → 1 ≤ n → numbered asked n ≡ None → len ≡ length asked → deliver_refusal (rules_at site) (setting_at site) (words v) site.me from (frames.Verdict g n r) ≡ Some (deliver.UnknownRequest len)
  unknown_refused len h none e =
      let more = numbered_nothing asked n h none in
      let same = many_is in
      refusal_is None false (ap verdict_on none) (lt-leb n many (omega arith)) ∙ ap (λ m. Some (deliver.UnknownRequest m)) (same ∙ sym e)

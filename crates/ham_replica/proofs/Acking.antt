-- An acknowledgement, by the table of turns.
use Rattle.std.proofs.Common.{◌≡◌, ℕ, ◌+◌, ◌≤◌, ◌<◌, Bool, true, false, eqb, ◌&&◌, List, [], length, get_or, set, refl, sym, subst, ap, ◌∙◌, inl, inr, arith}
use Rattle.std.specs.Prelude.{Some, None, max, ◌==◌, nat_lt, if◌then◌else◌}
use Rattle.std.proofs.lemmas.Bool.{eqb-true, eq-eqb, eqb-false, ltb-true, le-leb, and_parts}
use Rattle.std.proofs.lemmas.List.{append-nil, length-set, get_or-set_same, get_or-set_other}
use Rattle.ham_frame.specs.declared.frame.Frame.TheVariants as frames
use Rattle.ham_turns.specs.declared.turn.Delivered.TheVariants as delivered
use Rattle.ham_turns.specs.declared.turn.What.TheVariants as whats
use Rattle.ham_turns.specs.declared.turn.Out.{Out}
use Rattle.ham_turns.specs.declared.turn.DeliverRefusal.TheVariants as deliver
use Rattle.ham_turns.specs.declared.turn.Delivered.{Delivered}
use Rattle.ham_site.specs.declared.out.Turn.{Turn}
use Rattle.ham_replica.specs.Deliveries.{MayDeliver, IsDelivered, IsPlain}
use Rattle.ham_site.specs.Sites.{Site, rules_at, setting_at}
use Rattle.ham_turns.specs.Words.{FrameComes}
use Rattle.ham_turns.specs.Work.{own_work}
use Rattle.ham_turns.specs.Ready.{IsSettled}
use Rattle.ham_replica.specs.Values.{Lists, words}
use Rattle.ham_replica.specs.Steps.{acked_more}
use Rattle.ham_replica.specs.Kept.{IsKept}
use Rattle.ham_replica.specs.Issues.{Answers}
use Rattle.ham_replica.proofs.Items.{true_or_false, all_at, all_set, first_none}
use Rattle.ham_replica.proofs.Deciding.{max_none}
use Rattle.ham_replica.proofs.Staying.{kept_with, settled_with}
use Rattle.ham_replica.proofs.Plain.{plain_turn, as_plain}

get_max : (row : List ℕ) (peer n p : ℕ) → peer < length row → get_or (set row peer (max (get_or row peer 0) n)) p 0 ≡ max (get_or row p 0) (if peer == p then n else 0)
get_max row peer n p h = elim (true_or_false (eqb peer p)) [
  | inl t ↦ rw t (subst (λ z. get_or (set row peer (max (get_or row peer 0) n)) z 0 ≡ max (get_or row z 0) n) (eqb-true peer p t) (get_or-set_same row peer (max (get_or row peer 0) n) 0 h))
  | inr f ↦ rw f (get_or-set_other row peer p (max (get_or row peer 0) n) 0 (λ q. eqb-false peer p f (sym q)) ∙ sym (max_none (get_or row p 0)))
]

-- both tests in one
both_true : (b c : Bool) (n : ℕ) → c ≡ true → (if b then n else 0) ≡ (if b && c then n else 0)
both_true true true n e = refl
both_true false c n e = refl
both_true true false n e = cc

both_false : (b c : Bool) (n : ℕ) → c ≡ false → 0 ≡ (if b && c then n else 0)
both_false true false n e = refl
both_false false c n e = refl
both_false true true n e = cc

get_acked : (xs : List (List ℕ)) (lane peer n l p : ℕ) → lane < length xs → peer < length (get_or xs lane []) →
    get_or (get_or (set xs lane (set (get_or xs lane []) peer (max (get_or (get_or xs lane []) peer 0) n))) l []) p 0 ≡ max (get_or (get_or xs l []) p 0) (if (peer == p) && (lane == l) then n else 0)
get_acked xs lane peer n l p h k = elim (true_or_false (eqb lane l)) [
  | inl t ↦
      let row = set (get_or xs lane []) peer (max (get_or (get_or xs lane []) peer 0) n) in
      subst (λ z. get_or (get_or (set xs lane row) z []) p 0 ≡ max (get_or (get_or xs z []) p 0) (if (peer == p) && (lane == z) then n else 0)) (eqb-true lane l t)
      (ap (λ r. get_or r p 0) (get_or-set_same xs lane row [] h) ∙ get_max (get_or xs lane []) peer n p k
      ∙ ap (max (get_or (get_or xs lane []) p 0)) (both_true (peer == p) (lane == lane) n (eq-eqb lane lane refl)))
  | inr f ↦
      let row = set (get_or xs lane []) peer (max (get_or (get_or xs lane []) peer 0) n) in
      ap (λ r. get_or r p 0) (get_or-set_other xs lane l row [] (λ q. eqb-false lane l f (sym q))) ∙ sym (max_none (get_or (get_or xs l []) p 0))
      ∙ ap (max (get_or (get_or xs l []) p 0)) (both_false (peer == p) (lane == l) n f)
]

module _ (site : Site) (v : Lists) (is : IsKept site v) (settled : IsSettled (setting_at site) (words v)) (from which lane n : ℕ)
    (there : lane < length v.acked) (peer : from < length (get_or v.acked lane [])) where
  ack_is_own : words (acked_more v lane from n) ≡ own_work (rules_at site) (setting_at site) (words v) site.me (FrameComes from which (frames.Ack lane n))
  ack_is_own = λ i. record {
    state = v.state;
    log = v.log;
    count_of = (words v).count_of;
    decided = (words v).decided;
    kept = λ p. sym (first_none ((words v).kept p)) i;
    requests = λ h. sym (append-nil ((words v).requests h)) i;
    verdict = λ h m. sym (first_none ((words v).verdict h m)) i;
    rulings = λ f h. sym (append-nil ((words v).rulings f h)) i;
    acked = λ l p. get_acked v.acked lane from n l p there peer i;
  }

  pub acked : Answers site v (acked_more v lane from n) (FrameComes from which (frames.Ack lane n)) (whats.Delivered delivered.Noted) [] [] true
  acked = plain_turn site v (acked_more v lane from n) (FrameComes from which (frames.Ack lane n)) (whats.Delivered delivered.Noted) []
      (kept_with site v _ v.asks v.rulings is (length-set v.acked lane _ ∙ is.shaped.acked)
      (all_set (λ a. length a ≡ (setting_at site).replicas + 1) v.acked lane _ is.shaped.peers (length-set (get_or v.acked lane []) from _ ∙ all_at (λ a. length a ≡ (setting_at site).replicas + 1) v.acked lane [] is.shaped.peers there))
      is.shaped.asks is.shaped.senders is.shaped.groups
      (record { decided = is.ranges.decided; asked = is.ranges.asked; few_asked = is.ranges.few_asked; ruled = is.ranges.ruled }))
      (settled_with site v _ v.asks v.rulings settled) ack_is_own refl refl refl

-- the same, as the code tells it
module _ (site : Site) (v : Lists) (from lane n : ℕ) (may : MayDeliver site v from) (yours : (nat_lt lane (setting_at site).lanes && ((setting_at site).decider lane == site.me)) ≡ true) where
  lane_there : lane < length v.acked
  lane_there = subst (λ m. lane < m) (sym may.kept.shaped.acked) (ltb-true _ _ (and_parts (nat_lt lane (setting_at site).lanes) ((setting_at site).decider lane == site.me) yours).0)

  peer_there : from < length (get_or v.acked lane [])
  peer_there =
      let long = all_at (λ a. length a ≡ (setting_at site).replicas + 1) v.acked lane [] may.kept.shaped.peers lane_there in
      let sender = may.sender.1 in
      omega arith

  pub ack_delivered : (w : Lists) (t : Turn Delivered) (out : List Out) → n ≤ length (get_or v.decided lane []) → w ≡ acked_more v lane from n → IsPlain t delivered.Noted out → out ≡ [] →
      IsDelivered site v w from (frames.Ack lane n) t
  ack_delivered w t out few left plain none = record {
    accepted = λ i. if yours i then (if le-leb _ _ few i then None else Some (deliver.AckBeyond (length (get_or v.decided lane [])))) else Some deliver.NotYours;
    answers = λ which. as_plain site v w (FrameComes from which (frames.Ack lane n)) t delivered.Noted out [] plain none
        (subst (λ z. Answers site v z (FrameComes from which (frames.Ack lane n)) (whats.Delivered delivered.Noted) [] [] true) (sym left)
        (acked site v may.kept may.settled from which lane n lane_there peer_there));
  }

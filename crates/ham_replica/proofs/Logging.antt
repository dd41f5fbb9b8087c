-- To log a waiting call is what the table calls so.
use Rattle.std.proofs.Common.{◌≡◌, ◌≢◌, ◌⊎◌, ◌++◌, ◌+◌, ◌<◌, true, false, cond, eqb, List, [], ◌∷◌, length, get_or, refl, sym, subst, ap, ◌∙◌, inl, inr, arith}
use Rattle.std.specs.Prelude.{Option, Some, None}
use Rattle.std.specs.Ordering.{eq_by_cmp, is_eq}
use Rattle.std.specs.Cmp.{Equal-is, tied_itself}
use Rattle.std.specs.FinMap as finmap
use Rattle.std.proofs.lemmas.Bool.{eqb-true, eqb-false}
use Rattle.std.proofs.lemmas.List.{get_or-set_same, get_or-set_other}
use Rattle.ham_syntax.specs.declared.act.Place.{Place}
use Rattle.ham_syntax.specs.declared.act.Call.{Call}
use Rattle.ham_buffer.specs.Buffers.{place_cmp, Buffer, kept_at, kept_call, without}
use Rattle.ham_buffer.proofs.Maps.{place_cmp_total, place_exact}
use Rattle.ham_site.specs.Sites.{Site, rules_at, setting_at}
use Rattle.ham_turns.specs.Words.{numbered, place_of}
use Rattle.ham_turns.specs.Work.{first_of_two, logged_one}
use Rattle.ham_replica.specs.Values.{Lists, words}
use Rattle.ham_replica.specs.Steps.{with_item, slot_of, log_waiting}
use Rattle.ham_replica.proofs.Items.{true_or_false, numbered_beyond, numbered_front, numbered_last, get_one_more}

-- ---- the buffer without a place

pub kept_without_same : (b : Buffer) (p : Place) → kept_at (without b p) p ≡ None
kept_without_same b p =
    finmap.get-remove place_cmp_total b.kept p p
    ∙ ap (λ t. cond t None (finmap.get b.kept p)) (ap is_eq (tied_itself place_cmp_total p))

pub kept_without_other : (b : Buffer) (p q : Place) → (q ≡ p → ⊥) → kept_at (without b p) q ≡ kept_at b q
kept_without_other b p q ne = finmap.get-remove place_cmp_total b.kept p q ∙ elim (true_or_false (eq_by_cmp place_cmp q p)) [
  | inl t ↦ absurd (ne (place_exact q p ((Equal-is (place_cmp q p)).0 t)))
  | inr f ↦ rw f refl
]

same_place_is : (p q : Place) → p.lane ≡ q.lane → p.number ≡ q.number → p ≡ q
same_place_is p q l n = λ i. record { lane = l i; number = n i }

pub same_or_not : (p q : Place) → (p ≡ q) ⊎ (p ≡ q → ⊥)
same_or_not p q = elim (true_or_false (eq_by_cmp place_cmp p q)) [
  | inl t ↦ inl (place_exact p q ((Equal-is (place_cmp p q)).0 t))
  | inr f ↦ inr (λ e. false_true (sym f ∙ subst (λ z. eq_by_cmp place_cmp p z ≡ true) e (ap is_eq (tied_itself place_cmp_total p))))
]
  where
    false_true : false ≡ true → ⊥
    false_true h = cc

-- ---- calls of lanes by their places, when lane c has one more

module _ (lists : List (List Call)) (c : Call) (lane : c.lane < length lists) (next : c.number ≡ length (get_or lists c.lane []) + 1) where
  pub item_there : numbered (get_or (with_item lists c.lane c) c.lane []) c.number ≡ Some c
  item_there = rw (get_or-set_same lists c.lane (get_or lists c.lane [] ++ c ∷ []) [] lane) (numbered_last (get_or lists c.lane []) c c.number next)

  pub item_elsewhere : (p : Place) → (p ≡ place_of c → ⊥) → numbered (get_or (with_item lists c.lane c) p.lane []) p.number ≡ numbered (get_or lists p.lane []) p.number
  item_elsewhere p ne = elim (true_or_false (eqb c.lane p.lane)) [
    | inl l ↦
        let same = eqb-true c.lane p.lane l in
        let other : p.number ≢ length (get_or lists c.lane []) + 1 = λ q. ne (same_place_is p (place_of c) (sym same) (q ∙ sym next)) in
        subst (λ z. numbered (get_or (with_item lists c.lane c) z []) p.number ≡ numbered (get_or lists z []) p.number) same
        (rw (get_or-set_same lists c.lane (get_or lists c.lane [] ++ c ∷ []) [] lane) (numbered_front (get_or lists c.lane []) c p.number other))
    | inr l ↦ rw (get_or-set_other lists c.lane p.lane (get_or lists c.lane [] ++ c ∷ []) [] (λ q. eqb-false c.lane p.lane l (sym q))) refl
  ]

-- ---- the kept calls, when the call at p goes from the buffer to its lane

module _ (came : List (List Call)) (b : Buffer) (c : Call)
    (lane : c.lane < length came) (next : c.number ≡ length (get_or came c.lane []) + 1) (waits : kept_call b (place_of c) ≡ Some c) where
  abbrev kept_in : List (List Call) → Buffer → Place → Option Call
  kept_in lists buffer p = first_of_two (numbered (get_or lists p.lane []) p.number) (kept_call buffer p)

  kept_here : kept_in (with_item came c.lane c) (without b (place_of c)) (place_of c) ≡ kept_in came b (place_of c)
  kept_here =
      rw (item_there came c lane next)
      (rw (numbered_beyond (get_or came c.lane []) c.number (omega arith)) (sym waits))

  pub kept_moves : (p : Place) → kept_in (with_item came c.lane c) (without b (place_of c)) p ≡ kept_in came b p
  kept_moves p = elim (same_or_not p (place_of c)) [
    | inl e ↦ subst (λ z. kept_in (with_item came c.lane c) (without b (place_of c)) z ≡ kept_in came b z) (sym e) kept_here
    | inr ne ↦ rw (kept_without_other b (place_of c) p ne) (ap (λ n. first_of_two n (kept_call b p)) (item_elsewhere came c lane next p ne))
  ]

module _ (site : Site) (v : Lists) (c : Call) (slot : slot_of site c < length v.counts)
    (lane : c.lane < length v.came) (next : c.number ≡ length (get_or v.came c.lane []) + 1) (waits : kept_call v.buffer (place_of c) ≡ Some c) where
  pub logged_is_one : words (log_waiting site v c) ≡ logged_one (rules_at site) (setting_at site) (words v) c
  logged_is_one = λ i. record {
    state = (rules_at site).update c.act v.state;
    log = v.log ++ place_of c ∷ [];
    count_of = λ s. get_one_more v.counts (slot_of site c) s slot i;
    decided = (words v).decided;
    kept = λ p. kept_moves v.came v.buffer c lane next waits p i;
    requests = (words v).requests;
    verdict = (words v).verdict;
    rulings = (words v).rulings;
    acked = (words v).acked;
  }

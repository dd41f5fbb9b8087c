-- The state is the fold of the logged calls, and stays so when a call is logged.
use Rattle.std.proofs.Common.{◌≡◌, ◌⊎◌, ◌++◌, ℕ, zero, suc, ◌+◌, ◌<◌, eqb, List, [], ◌∷◌, length, map, get_or, refl, sym, subst, ap, ◌∙◌, inl, inr}
use Rattle.std.specs.Prelude.{Option, Some, None, IsSome, slice_get}
use Rattle.std.specs.List.{fold}
use Rattle.std.proofs.lemmas.Bool.{eqb-true}
use Rattle.std.proofs.lemmas.List.Sums.{fold_push}
use Rattle.ham_syntax.specs.declared.act.Call.{Call}
use Rattle.ham_site.specs.Sites.{Site, rules_at}
use Rattle.ham_turns.specs.Words.{numbered, place_of}
use Rattle.ham_turns.specs.Work.{first_of_two}
use Rattle.ham_replica.specs.Values.{Lists}
use Rattle.ham_replica.specs.Looks.{logged_call}
use Rattle.ham_replica.specs.Steps.{with_item, decide, log_waiting}
use Rattle.ham_replica.specs.Kept.{IsFolded}
use Rattle.ham_plan.specs.Lists.{In}
use Rattle.ham_plan.proofs.Lists.{in_front, in_place}
use Rattle.ham_replica.proofs.Items.{true_or_false, get_with_item, all_push, map_push}
use Rattle.ham_replica.proofs.Logging.{same_or_not, item_there, item_elsewhere}

abbrev no_calls : List Call
no_calls = []

numbered_nil : (n : ℕ) → numbered no_calls n ≡ None
numbered_nil zero = refl
numbered_nil (suc n) = refl

get_still : {X : Type 0} (xs : List X) (x : X) (n : ℕ) (d : X) → slice_get xs n ≡ Some d → slice_get (xs ++ x ∷ []) n ≡ Some d
get_still [] x n d e = cc
get_still (z ∷ zs) x zero d e = e
get_still (z ∷ zs) x (suc n) d e = get_still zs x n d e

numbered_still : {X : Type 0} (xs : List X) (x : X) (n : ℕ) (d : X) → numbered xs n ≡ Some d → numbered (xs ++ x ∷ []) n ≡ Some d
numbered_still xs x zero d e = cc
numbered_still xs x (suc n) d e = get_still xs x n d e

-- an item of a list that grows stays
item_still : (lists : List (List Call)) (c d : Call) (l n : ℕ) → c.lane < length lists → numbered (get_or lists l []) n ≡ Some d → numbered (get_or (with_item lists c.lane c) l []) n ≡ Some d
item_still lists c d l n h e =
    let item = get_with_item lists c.lane l c h in
    elim (true_or_false (eqb c.lane l)) [
      | inl t ↦ let k = rw t at item in ap (λ z. numbered z n) k ∙ numbered_still (get_or lists l []) c n d e
      | inr f ↦ let k = rw f at item in ap (λ z. numbered z n) k ∙ e
    ]

-- the first of two that grows, where the other is not there or the first is the same
first_grows : (a b next : Option Call) (d : Call) → first_of_two a b ≡ Some d → (a ≡ Some d → next ≡ Some d) → (next ≡ a) ⊎ (b ≡ None) → first_of_two next b ≡ Some d
first_grows None b next d e f (inl same) = rw same e
first_grows None b next d e f (inr none) = cc
first_grows (Some z) b next d e f other = ap (λ o. first_of_two o b) (f e)

second_grows : (a b next : Option Call) (d : Call) → first_of_two a b ≡ Some d → (b ≡ Some d → next ≡ Some d) → first_of_two a next ≡ Some d
second_grows None b next d e f = f e
second_grows (Some z) b next d e f = e

module _ (site : Site) (v : Lists) (c : Call) (so : IsFolded site v) where
  state_more : (w : Lists) → w.state ≡ (rules_at site).update c.act v.state → w.state ≡ fold (λ s (d : Call). (rules_at site).update d.act s) (rules_at site).opening (so.calls ++ c ∷ [])
  state_more w e = e ∙ ap ((rules_at site).update c.act) so.state ∙ sym (fold_push (λ s (d : Call). (rules_at site).update d.act s) (rules_at site).opening so.calls c)

  places_more : v.log ++ place_of c ∷ [] ≡ map place_of (so.calls ++ c ∷ [])
  places_more = ap (λ l. l ++ place_of c ∷ []) so.places ∙ sym (map_push place_of so.calls c)

  pub decide_folds : c.lane < length v.decided → get_or v.came c.lane [] ≡ [] → c.number ≡ length (get_or v.decided c.lane []) + 1 → IsFolded site (decide site v c)
  decide_folds lane none next = record {
    calls = so.calls ++ c ∷ [];
    places = places_more;
    kept = all_push (λ d. logged_call v (place_of d) ≡ Some d) (λ d. logged_call (decide site v c) (place_of d) ≡ Some d) so.calls c
        (λ d e. first_grows _ _ _ d e (item_still v.decided c d d.lane d.number lane) (other d))
        so.kept (ap (λ o. first_of_two o (numbered (get_or v.came c.lane []) c.number)) (item_there v.decided c lane next));
    only = λ p some. elim (same_or_not p (place_of c)) [
      | inl e ↦ subst (λ z. In z (v.log ++ place_of c ∷ [])) (sym e) (in_place (place_of c) v.log [])
      | inr ne ↦ in_front p v.log (place_of c ∷ []) (so.only p
          (subst (λ o. IsSome (first_of_two o (numbered (get_or v.came p.lane []) p.number))) (item_elsewhere v.decided c lane next p ne) some))
    ];
    state = state_more (decide site v c) refl;
  }
    where
      other : (d : Call) → (numbered (get_or (with_item v.decided c.lane c) d.lane []) d.number ≡ numbered (get_or v.decided d.lane []) d.number) ⊎ (numbered (get_or v.came d.lane []) d.number ≡ None)
      other d =
          let item = get_with_item v.decided c.lane d.lane c lane in
          elim (true_or_false (eqb c.lane d.lane)) [
            | inl t ↦ inr (ap (λ l. numbered (get_or v.came l []) d.number) (sym (eqb-true c.lane d.lane t)) ∙ ap (λ l. numbered l d.number) none ∙ numbered_nil d.number)
            | inr f ↦ let k = rw f at item in inl (ap (λ l. numbered l d.number) k)
          ]

  pub log_folds : c.lane < length v.came → get_or v.decided c.lane [] ≡ [] → c.number ≡ length (get_or v.came c.lane []) + 1 → IsFolded site (log_waiting site v c)
  log_folds lane none next = record {
    calls = so.calls ++ c ∷ [];
    places = places_more;
    kept = all_push (λ d. logged_call v (place_of d) ≡ Some d) (λ d. logged_call (log_waiting site v c) (place_of d) ≡ Some d) so.calls c
        (λ d e. second_grows (numbered (get_or v.decided d.lane []) d.number) _ _ d e (item_still v.came c d d.lane d.number lane))
        so.kept
        (ap (λ o. first_of_two o (numbered (get_or (with_item v.came c.lane c) c.lane []) c.number)) (ap (λ l. numbered l c.number) none ∙ numbered_nil c.number) ∙ item_there v.came c lane next);
    only = λ p some. elim (same_or_not p (place_of c)) [
      | inl e ↦ subst (λ z. In z (v.log ++ place_of c ∷ [])) (sym e) (in_place (place_of c) v.log [])
      | inr ne ↦ in_front p v.log (place_of c ∷ []) (so.only p
          (subst (λ o. IsSome (first_of_two (numbered (get_or v.decided p.lane []) p.number) o)) (item_elsewhere v.came c lane next p ne) some))
    ];
    state = state_more (log_waiting site v c) refl;
  }

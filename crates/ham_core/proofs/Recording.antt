-- The calls of a log, one after another.
use Rattle.std.proofs.Common.{◌≡◌, ℕ, zero, suc, ◌+◌, ◌<◌, ◌≤◌, List, [], ◌∷◌, ◌++◌, length, get_or, take, Bor, Option, Some, None, refl, sym, ap, subst, ◌∙◌, inl, inr, arith}
use Rattle.std.specs.Prelude.{Result, Ok, Err, IfOk, IsSome, filter_map}
use Rattle.std.specs.List.{cons_option}
use Rattle.std.specs.Option.{option_copied}
use Rattle.std.proofs.lemmas.List.{take_all}
use Rattle.std.proofs.lemmas.Option.{none-some}
use Rattle.ham_lists.specs.declared.list.NoMemory.{NoMemory}
use Rattle.ham_syntax.specs.declared.act.Call.{Call}
use Rattle.ham_syntax.specs.declared.act.Place.{Place}
use Rattle.ham_plan.specs.Lists.{In}
use Rattle.ham_turns.specs.Words.{numbered}
use Rattle.ham_turns.specs.Work.{first_of_two}
use Rattle.ham_buffer.specs.Buffers.{kept_call}
use Rattle.ham_replica.specs.Looks.{logged_call}
use Rattle.ham_replica.specs.Values.{Lists, words}
use Rattle.ham_journal.specs.Cores.{call_had, recorded}

-- ---- the call of a place

first_still : (a b k : Option Call) (c : Call) → first_of_two a b ≡ Some c → first_of_two a (first_of_two b k) ≡ Some c
first_still (Some x) b k c h = h
first_still None (Some y) k c h = h
first_still None None k c h = absurd (none-some c h)

found_logged : (v : Lists) (p : Place) (c : Call) → logged_call v p ≡ Some c → call_had (words v) p ≡ Some c
found_logged v p c h = first_still (numbered (get_or v.decided p.lane []) p.number) (numbered (get_or v.came p.lane []) p.number) (kept_call v.buffer p) c h

-- it is there where the place is logged
pub none_there : (o : Option (Bor Call)) → o ≡ None → IsSome (option_copied o) → ⊥
none_there None e h = absurd cc
none_there (Some b) e h = absurd cc

pub copied_found : (v : Lists) (p : Place) (o : Option (Bor Call)) (b : Bor Call) (r : Result Call NoMemory) → o ≡ Some b → option_copied o ≡ logged_call v p
    → IfOk r (λ z. z ≡ b.now) → IfOk r (λ z. call_had (words v) p ≡ Some z)
copied_found v p o b (Ok z) is at e = found_logged v p b.now (sym at ∙ ap option_copied is) ∙ ap Some (sym e)
copied_found v p o b (Err x) is at e = tt

-- ---- one call more

pub in_get : {X : Type 0} (xs : List X) (i : ℕ) (d : X) → i < length xs → In (get_or xs i d) xs
in_get [] i d h = absurd (omega arith)
in_get (y ∷ ys) zero d h = inl refl
in_get (y ∷ ys) (suc i) d h = inr (in_get ys i d (omega arith))

cons_append : {X : Type 0} (o : Option X) (xs ys : List X) → cons_option o (xs ++ ys) ≡ cons_option o xs ++ ys
cons_append None xs ys = refl
cons_append (Some x) xs ys = refl

one_found : (h : Place → Option Call) (log : List Place) (i : ℕ) (d : Place) (c : Call) → i < length log → h (get_or log i d) ≡ Some c
    → filter_map h (take (suc i) log) ≡ filter_map h (take i log) ++ c ∷ []
one_found h [] i d c lt e = absurd (omega arith)
one_found h (p ∷ log) zero d c lt e = ap (λ (o : Option Call). cons_option o []) e
one_found h (p ∷ log) (suc i) d c lt e =
    ap (cons_option (h p)) (one_found h log i d c (omega arith) e) ∙ cons_append (h p) (filter_map h (take i log)) (c ∷ [])

pub call_more : (v : Lists) (log : List Place) (i : ℕ) (d : Place) (c : Call) (old new : List Call) → log ≡ v.log → i < length log → call_had (words v) (get_or log i d) ≡ Some c
    → old ≡ filter_map (call_had (words v)) (take i v.log) → new ≡ old ++ c ∷ [] → new ≡ filter_map (call_had (words v)) (take (i + 1) v.log)
call_more v log i d c old new is lt e so more =
    let next : suc i ≡ i + 1 = omega arith in
    let one : filter_map (call_had (words v)) (take (suc i) v.log) ≡ filter_map (call_had (words v)) (take i v.log) ++ c ∷ [] =
    subst (λ (l : List Place). filter_map (call_had (words v)) (take (suc i) l) ≡ filter_map (call_had (words v)) (take i l) ++ c ∷ []) is (one_found (call_had (words v)) log i d c lt e) in
    more ∙ ap (λ (l : List Call). l ++ c ∷ []) so ∙ sym one ∙ ap (λ (n : ℕ). filter_map (call_had (words v)) (take n v.log)) next

pub all_found : (v : Lists) (log : List Place) (i : ℕ) (calls : List Call) → log ≡ v.log → length log ≤ i → calls ≡ filter_map (call_had (words v)) (take i v.log) → calls ≡ recorded (words v)
all_found v log i calls is past e =
    e ∙ ap (filter_map (call_had (words v))) (take_all i v.log (subst (λ (l : List Place). length l ≤ i) is past))

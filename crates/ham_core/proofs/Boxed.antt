-- Boxes, as they are held.
use Rattle.std.proofs.Common.{◌≡◌, ℕ, zero, suc, ◌+◌, ◌-◌, ◌≤◌, ◌<◌, ◌⊎◌, inl, inr, List, [], ◌∷◌, ◌++◌, length, take, drop, set, get_or, map, Option, Some, None, refl, sym, ap, subst, ◌∙◌, arith}
use Rattle.std.specs.Prelude.{replicate, fold, min, if◌then◌else◌, ◌==◌, Bool, true, false}
use Rattle.std.specs.List.{AllByRecursion}
use Rattle.std.proofs.lemmas.List.{take_all, length-map, map-append, length-append, append-nil}
use Rattle.std.proofs.lemmas.List.Sums.{fold-append}
use Rattle.ham_syntax.specs.declared.act.Call.{Call}
use Rattle.ham_frame.specs.declared.frame.Frame.TheVariants as frames
use Rattle.ham_turns.specs.declared.turn.Out.{Out}
use Rattle.ham_turns.specs.Sends.{peers}
use Rattle.ham_site.specs.Outs.{calls_to}
use Rattle.ham_journal.specs.declared.limits.TheConstants.{MAX_WAITING, MAX_COLLECTED}
use Rattle.ham_journal.specs.Cores.{box_of, with_room}
use Rattle.ham_replica.proofs.Items.{all_set, all_at, all_append}
use Rattle.ham_core.specs.declared.waiting.Waiting.{Waiting}
use Rattle.ham_core.specs.Waits.{Decided, IsSound, AreSound, put, put_at, call_for}
use Rattle.ham_core.specs.Boxing.{Queue, lists_of, AreRoomy}

lists_set : (held : List Queue) (n : ℕ) (q : Queue) → lists_of (set held n q) ≡ set (lists_of held) n q.items
lists_set [] n q = refl
lists_set (r ∷ held) zero q = refl
lists_set (r ∷ held) (suc n) q = ap (λ (l : List (List Waiting)). r.items ∷ l) (lists_set held n q)

lists_at : (held : List Queue) (n : ℕ) (d : Queue) → n < length held → (get_or held n d).items ≡ get_or (lists_of held) n []
lists_at [] n d lt = absurd (omega arith)
lists_at (r ∷ held) zero d lt = refl
lists_at (r ∷ held) (suc n) d lt = lists_at held n d (omega arith)

set_beyond : (boxes : List (List Waiting)) (n : ℕ) (b : List Waiting) → length boxes ≤ n → set boxes n b ≡ boxes
set_beyond [] n b h = refl
set_beyond (c ∷ boxes) zero b h = absurd (omega arith)
set_beyond (c ∷ boxes) (suc n) b h = ap (λ (l : List (List Waiting)). c ∷ l) (set_beyond boxes n b (omega arith))

pub at_beyond : (boxes : List (List Waiting)) (n : ℕ) → length boxes ≤ n → get_or boxes n [] ≡ []
at_beyond [] n h = refl
at_beyond (c ∷ boxes) zero h = absurd (omega arith)
at_beyond (c ∷ boxes) (suc n) h = at_beyond boxes n (omega arith)

-- ---- a queue that was read

item_list : (held : List Queue) (n : ℕ) (x : Queue) → n < length held → x ≡ get_or held n x → x.items ≡ get_or (lists_of held) n []
item_list held n x lt e = ap (λ (q : Queue). q.items) e ∙ lists_at held n x lt

pub item_roomy : (held : List Queue) (n : ℕ) (x : Queue) → AreRoomy held → n < length held → x ≡ get_or held n x → MAX_WAITING ≤ x.cap
item_roomy held n x r lt e = omega (arith, ap (λ (q : Queue). q.cap) e, all_at (λ (q : Queue). MAX_WAITING ≤ q.cap) held n x r lt)

pub still_roomy : (held : List Queue) (n : ℕ) (x q : Queue) → AreRoomy held → n < length held → x ≡ get_or held n x → q.cap ≡ x.cap → AreRoomy (set held n q)
still_roomy held n x q r lt e c = all_set (λ (q : Queue). MAX_WAITING ≤ q.cap) held n q r (omega (arith, c, item_roomy held n x r lt e))

-- the box that was read is the peer's
pub item_box : (held : List Queue) (self : List (List Waiting)) (n peer : ℕ) (x : Queue) → lists_of held ≡ self → n < length held → n ≡ peer - 1 → x ≡ get_or held n x → x.items ≡ box_of self peer
item_box held self n peer x v lt m e = item_list held n x lt e ∙ ap (λ (k : ℕ). get_or (lists_of held) k []) m ∙ ap (λ (l : List (List Waiting)). get_or l (peer - 1) []) v

-- and another comes into its place
pub item_set : (held : List Queue) (self : List (List Waiting)) (n peer : ℕ) (q : Queue) (b : List Waiting) → lists_of held ≡ self → n ≡ peer - 1 → q.items ≡ b → lists_of (set held n q) ≡ set self (peer - 1) b
item_set held self n peer q b v m i =
    lists_set held n q ∙ ap (set (lists_of held) n) i ∙ ap (λ (k : ℕ). set (lists_of held) k b) m ∙ ap (λ (l : List (List Waiting)). set l (peer - 1) b) v

pub view_length : (held : List Queue) (self : List (List Waiting)) → lists_of held ≡ self → length self ≡ length held
view_length held self v = ap length (sym v) ∙ length-map held (λ q. q.items)

pub none_beyond : (self : List (List Waiting)) (n peer : ℕ) (b : List Waiting) → length self ≤ n → n ≡ peer - 1 → self ≡ set self (peer - 1) b
none_beyond self n peer b le m = sym (set_beyond self (peer - 1) b (omega (arith, le, m)))

pub box_beyond : (self : List (List Waiting)) (n peer : ℕ) → length self ≤ n → n ≡ peer - 1 → box_of self peer ≡ []
box_beyond self n peer le m = at_beyond self (peer - 1) (omega (arith, le, m))

-- ---- one more empty box

replicate_more : {X : Type 0} (n : ℕ) (x : X) → replicate n x ++ x ∷ [] ≡ replicate (suc n) x
replicate_more zero x = refl
replicate_more {X} (suc n) x = ap (λ (l : List X). x ∷ l) (replicate_more n x)

pub boxes_more : (held : List Queue) (q : Queue) (n : ℕ) → AreRoomy held → lists_of held ≡ replicate n [] → MAX_WAITING ≤ q.cap → q.items ≡ []
    → AreRoomy (held ++ q ∷ []) × (lists_of (held ++ q ∷ []) ≡ replicate (n + 1) [])
boxes_more held q n r e c i =
    let next : suc n ≡ n + 1 = omega arith in (
      all_append (λ (z : Queue). MAX_WAITING ≤ z.cap) held (q ∷ []) r (c, tt),
      map-append (λ (z : Queue). z.items) held (q ∷ []) ∙ ap (λ (b : List Waiting). lists_of held ++ b ∷ []) i ∙ ap (λ (l : List (List Waiting)). l ++ [] ∷ []) e ∙ replicate_more n []
          ∙ ap (λ (k : ℕ). replicate k []) next,
    )

-- ---- calls to peers

few_peers : (r n : ℕ) → length (peers r n) ≤ n
few_peers r zero = omega arith
few_peers r (suc n) = by_test (suc n == r) (few_peers r n)
  where
    by_test : (b : Bool) → length (peers r n) ≤ n → length (peers r n ++ (if b then [] else suc n ∷ [])) ≤ suc n
    by_test true h = subst (λ (l : List ℕ). length l ≤ suc n) (sym (append-nil (peers r n))) (omega (arith, h))
    by_test false h = subst (λ (k : ℕ). k ≤ suc n) (sym (length-append (peers r n) (suc n ∷ []))) (omega (arith, h))

pub few_calls : (r n : ℕ) (c : Call) → length (calls_to r n (Some c)) ≤ n
few_calls r n c = subst (λ (k : ℕ). k ≤ n) (sym (length-map (peers r n) (λ q. record { to = q; frame = frames.Call c }))) (few_peers r n)

-- one replica more
pub calls_more : (r n : ℕ) (c : Call) → calls_to r (suc n) (Some c) ≡ calls_to r n (Some c) ++ call_for r (suc n) c
calls_more r n c = map-append to_one (peers r n) (if suc n == r then [] else suc n ∷ []) ∙ ap (λ (l : List Out). map to_one (peers r n) ++ l) (by_test (suc n == r))
  where
    to_one : ℕ → Out
    to_one q = record { to = q; frame = frames.Call c }

    by_test : (b : Bool) → map to_one (if b then [] else suc n ∷ []) ≡ (if b then [] else record { to = suc n; frame = frames.Call c } ∷ [])
    by_test true = refl
    by_test false = refl

-- and the call for it waits too
pub one_more : (boxes mid new : List (List Waiting)) (r n to : ℕ) (c : Call) → mid ≡ fold put boxes (calls_to r n (Some c)) → to ≡ n + 1 → new ≡ fold put mid (call_for r to c)
    → new ≡ fold put boxes (calls_to r (n + 1) (Some c))
one_more boxes mid new r n to c m t e =
    let next : suc n ≡ n + 1 = omega arith in
    e ∙ ap (λ (k : ℕ). fold put mid (call_for r k c)) (t ∙ sym next) ∙ ap (λ (b : List (List Waiting)). fold put b (call_for r (suc n) c)) m
    ∙ sym (fold-append put boxes (calls_to r n (Some c)) (call_for r (suc n) c)) ∙ ap (fold put boxes) (sym (calls_more r n c)) ∙ ap (λ (k : ℕ). fold put boxes (calls_to r k (Some c))) next

pub one_counted : (r n to : ℕ) (c : Call) → to ≡ n + 1 → length (calls_to r n (Some c)) + length (call_for r to c) ≡ length (calls_to r (n + 1) (Some c))
one_counted r n to c t =
    let next : suc n ≡ n + 1 = omega arith in
    ap (λ (k : ℕ). length (calls_to r n (Some c)) + length (call_for r k c)) (t ∙ sym next) ∙ sym (length-append (calls_to r n (Some c)) (call_for r (suc n) c)) ∙ ap length (sym (calls_more r n c))
    ∙ ap (λ (k : ℕ). length (calls_to r k (Some c))) next

-- ---- the first of a queue

drop_plus : {X : Type 0} (n : ℕ) (xs : List X) → drop 1 (drop n xs) ≡ drop (suc n) xs
drop_plus zero xs = refl
drop_plus (suc n) [] = refl
drop_plus (suc n) (x ∷ xs) = drop_plus n xs

pub drop_one : {X : Type 0} (n : ℕ) (xs : List X) → drop 1 (drop n xs) ≡ drop (n + 1) xs
drop_one n xs =
    let next : suc n ≡ n + 1 = omega arith in
    drop_plus n xs ∙ ap (λ (k : ℕ). drop k xs) next

either_few : (n m : ℕ) → (n ≤ m) ⊎ (m ≤ n)
either_few n m = grind arith

pub take_min : {X : Type 0} (n m : ℕ) (xs : List X) → n ≡ min (length xs) m → take n xs ≡ take m xs
take_min n m xs e = elim (either_few (length xs) m) [
  | inl few ↦ (
      let whole : n ≡ length xs = omega (arith, e, few) in
      ap (λ (k : ℕ). take k xs) whole ∙ take_all (length xs) xs (omega arith) ∙ sym (take_all m xs few))
  | inr many ↦ (
      let same : n ≡ m = omega (arith, e, many) in
      ap (λ (k : ℕ). take k xs) same)
]

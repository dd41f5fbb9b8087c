-- The list of each key, after one row more and one row less.
use Rattle.std.proofs.Common.{◌≡◌, ℕ, ◌+◌, ◌<◌, ◌≤◌, Bool, true, false, cond, ◌&&◌, List, Option, Some, None, is_some, refl, sym, ap, ◌∙◌, subst, arith}
use Rattle.std.specs.Prelude.{if◌then◌else◌, ◌==◌, IsSome}
use Rattle.std.specs.Cmp.Lexicographic.{nat_list_eq_equiv}
use Rattle.std.proofs.lemmas.Bool.{and_parts, and_from, true≢false, eqb-true, eq-eqb, false_from_ne_true, cond-true, cond-false}
use Rattle.std.proofs.lemmas.Option.{same_Some, none-some}
use Rattle.ham_content.specs.Numbers.{same}
use Rattle.ham_content.specs.Seats.{IsListed}
use Rattle.ham_content.proofs.Numbers.{alike}

-- lists that are one are alike
one : (x y : List ℕ) → x ≡ y → same x y ≡ true
one x y e = subst (λ z. same x z ≡ true) e (nat_list_eq_equiv.refl x)

apart : (b : Bool) → b ≡ true → b ≡ false → ⊥
apart b e g = true≢false (sym e ∙ g)

-- the key's count, where the test of the key is known
more_here : (k q : List ℕ) (c d : List ℕ → ℕ) → d q ≡ c q + (if same k q then 1 else 0) → same k q ≡ true → d q ≡ c q + 1
more_here k q c d e h = e ∙ ap (λ b. c q + (if b then 1 else 0)) h

more_there : (k q : List ℕ) (c d : List ℕ → ℕ) → d q ≡ c q + (if same k q then 1 else 0) → same k q ≡ false → d q ≡ c q
more_there k q c d e h = let z : d q ≡ c q + 0 = e ∙ ap (λ b. c q + (if b then 1 else 0)) h in omega arith

pub listed_more : (f : List ℕ → List ℕ) (c d : List ℕ → ℕ) (s t : List ℕ → ℕ → Option (List ℕ)) (m n : List ℕ → Option ℕ) (row : List ℕ) → m row ≡ None → ((q : List ℕ) → d q ≡ c q + (if same (f row) q then 1 else 0)) → ((k : List ℕ) (i : ℕ) → t k i ≡ cond (same (f row) k && (c (f row) == i)) (Some row) (s k i)) → ((x : List ℕ) → n x ≡ cond (same row x) (Some (c (f row))) (m x)) → IsListed f c s m → IsListed f d t n
listed_more f c d s t m n row absent counts seats numbers h = record { seated = seated; knows = knows; taken = taken }
  where
    here : List ℕ → ℕ → Bool
    here k i = same (f row) k && (c (f row) == i)

    seated_by : (x : List ℕ) (i : ℕ) → n x ≡ Some i → (b : Bool) → same row x ≡ b → t (f x) i ≡ Some x
    seated_by x i e true a =
        let count : c (f row) ≡ i = same_Some (c (f row)) i (sym (cond-true (same row x) (Some (c (f row))) (m x) a) ∙ sym (numbers x) ∙ e) in
        let place : here (f x) i ≡ true = and_from (same (f row) (f x)) (c (f row) == i) (one (f row) (f x) (ap f (alike row x a))) (eq-eqb (c (f row)) i count) in
        seats (f x) i ∙ cond-true (here (f x) i) (Some row) (s (f x) i) place ∙ ap Some (alike row x a)
    seated_by x i e false a =
        let old : m x ≡ Some i = sym (cond-false (same row x) (Some (c (f row))) (m x) a) ∙ sym (numbers x) ∙ e in
        let was : s (f x) i ≡ Some x = h.seated x i old in
        let below : i < c (f x) = (h.knows (f x) x i was).2 in
        let off : here (f x) i ≡ false = false_from_ne_true (here (f x) i) (λ p.
        let parts = and_parts (same (f row) (f x)) (c (f row) == i) p in
        let count : c (f row) ≡ i = eqb-true (c (f row)) i parts.1 in
        let key : c (f row) ≡ c (f x) = ap c (alike (f row) (f x) parts.0) in
        omega arith) in
        seats (f x) i ∙ cond-false (here (f x) i) (Some row) (s (f x) i) off ∙ was

    seated : (x : List ℕ) (i : ℕ) → n x ≡ Some i → t (f x) i ≡ Some x
    seated x i e = seated_by x i e (same row x) refl

    grows : (k : List ℕ) (b : Bool) → same (f row) k ≡ b → c k ≤ d k
    grows k true a = let e = more_here (f row) k c d (counts k) a in omega arith
    grows k false a = let e = more_there (f row) k c d (counts k) a in omega arith

    knows_by : (k x : List ℕ) (i : ℕ) → t k i ≡ Some x → (b : Bool) → here k i ≡ b → (f x ≡ k) × (n x ≡ Some i) × (i < d k)
    knows_by k x i e true p =
        let parts = and_parts (same (f row) k) (c (f row) == i) p in
        let is : row ≡ x = same_Some row x (sym (cond-true (here k i) (Some row) (s k i) p) ∙ sym (seats k i) ∙ e) in
        let key : f row ≡ k = alike (f row) k parts.0 in
        let count : c (f row) ≡ i = eqb-true (c (f row)) i parts.1 in
        let now : d k ≡ c k + 1 = more_here (f row) k c d (counts k) parts.0 in
        let ck : c (f row) ≡ c k = ap c key in
        (ap f (sym is) ∙ key, numbers x ∙ cond-true (same row x) (Some (c (f row))) (m x) (one row x is) ∙ ap Some count, omega arith)
    knows_by k x i e false p =
        let was : s k i ≡ Some x = sym (cond-false (here k i) (Some row) (s k i) p) ∙ sym (seats k i) ∙ e in
        let known = h.knows k x i was in
        let other : same row x ≡ false = false_from_ne_true (same row x) (λ a. none-some i (sym absent ∙ ap m (alike row x a) ∙ known.1)) in
        let below : i < c k = known.2 in
        let up : c k ≤ d k = grows k (same (f row) k) refl in
        (known.0, numbers x ∙ cond-false (same row x) (Some (c (f row))) (m x) other ∙ known.1, omega arith)

    knows : (k x : List ℕ) (i : ℕ) → t k i ≡ Some x → (f x ≡ k) × (n x ≡ Some i) × (i < d k)
    knows k x i e = knows_by k x i e (here k i) refl

    taken_old : (k : List ℕ) (i : ℕ) → i < d k → here k i ≡ false → (b : Bool) → same (f row) k ≡ b → i < c k
    taken_old k i l p true a =
        let now : d k ≡ c k + 1 = more_here (f row) k c d (counts k) a in
        let key : c (f row) ≡ c k = ap c (alike (f row) k a) in
        let differs : c (f row) ≡ i → ⊥ = λ e. apart (here k i) (and_from (same (f row) k) (c (f row) == i) a (eq-eqb (c (f row)) i e)) p in
        let ne : c k ≡ i → ⊥ = λ e. differs (key ∙ e) in
        omega (arith, ne)
    taken_old k i l p false a = let now = more_there (f row) k c d (counts k) a in omega arith

    taken_by : (k : List ℕ) (i : ℕ) → i < d k → (b : Bool) → here k i ≡ b → IsSome (t k i)
    taken_by k i l true p = subst IsSome (sym (seats k i ∙ cond-true (here k i) (Some row) (s k i) p)) refl
    taken_by k i l false p = subst IsSome (sym (seats k i ∙ cond-false (here k i) (Some row) (s k i) p)) (h.taken k i (taken_old k i l p (same (f row) k) refl))

    taken : (k : List ℕ) (i : ℕ) → i < d k → IsSome (t k i)
    taken k i l = taken_by k i l (here k i) refl

-- the key's count, where the test of the key is known
less_here : (k q : List ℕ) (c d : List ℕ → ℕ) → d q + (if same k q then 1 else 0) ≡ c q → same k q ≡ true → d q + 1 ≡ c q
less_here k q c d e h = ap (λ b. d q + (if b then 1 else 0)) (sym h) ∙ e

less_there : (k q : List ℕ) (c d : List ℕ → ℕ) → d q + (if same k q then 1 else 0) ≡ c q → same k q ≡ false → d q ≡ c q
less_there k q c d e h = let z : d q + 0 ≡ c q = ap (λ b. d q + (if b then 1 else 0)) (sym h) ∙ e in omega arith

-- the row at the last seat of the key moves to the seat of the row that goes
pub listed_less : (f : List ℕ → List ℕ) (c d : List ℕ → ℕ) (s t : List ℕ → ℕ → Option (List ℕ)) (m n : List ℕ → Option ℕ) (row : List ℕ) (j last : ℕ) (moved : List ℕ) → m row ≡ Some j → last + 1 ≡ c (f row) → s (f row) last ≡ Some moved → ((q : List ℕ) → d q + (if same (f row) q then 1 else 0) ≡ c q) → ((k : List ℕ) (i : ℕ) → t k i ≡ cond (same (f row) k && (last == i)) None (cond (same (f row) k && (j == i)) (Some moved) (s k i))) → ((x : List ℕ) → n x ≡ cond (same row x) None (cond (same moved x) (Some j) (m x))) → IsListed f c s m → IsListed f d t n
listed_less f c d s t m n row j last moved there count top counts seats numbers h = record { seated = seated; knows = knows; taken = taken }
  where
    end : List ℕ → ℕ → Bool
    end k i = same (f row) k && (last == i)

    hole : List ℕ → ℕ → Bool
    hole k i = same (f row) k && (j == i)

    old_seat : s (f row) j ≡ Some row
    old_seat = h.seated row j there

    below : j < c (f row)
    below = (h.knows (f row) row j old_seat).2

    mover : (f moved ≡ f row) × (m moved ≡ Some last) × (last < c (f row))
    mover = h.knows (f row) moved last top

    at_end : (k : List ℕ) (i : ℕ) → end k i ≡ true → (f row ≡ k) × (last ≡ i)
    at_end k i p = let parts = and_parts (same (f row) k) (last == i) p in (alike (f row) k parts.0, eqb-true last i parts.1)

    at_hole : (k : List ℕ) (i : ℕ) → hole k i ≡ true → (f row ≡ k) × (j ≡ i)
    at_hole k i p = let parts = and_parts (same (f row) k) (j == i) p in (alike (f row) k parts.0, eqb-true j i parts.1)

    is_end : (k : List ℕ) (i : ℕ) → f row ≡ k → last ≡ i → end k i ≡ true
    is_end k i a b = and_from (same (f row) k) (last == i) (one (f row) k a) (eq-eqb last i b)

    is_hole : (k : List ℕ) (i : ℕ) → f row ≡ k → j ≡ i → hole k i ≡ true
    is_hole k i a b = and_from (same (f row) k) (j == i) (one (f row) k a) (eq-eqb j i b)

    read_end : (k : List ℕ) (i : ℕ) → end k i ≡ true → t k i ≡ None
    read_end k i p = seats k i ∙ cond-true (end k i) None (cond (hole k i) (Some moved) (s k i)) p

    read_hole : (k : List ℕ) (i : ℕ) → end k i ≡ false → hole k i ≡ true → t k i ≡ Some moved
    read_hole k i p q = seats k i ∙ cond-false (end k i) None (cond (hole k i) (Some moved) (s k i)) p ∙ cond-true (hole k i) (Some moved) (s k i) q

    read_old : (k : List ℕ) (i : ℕ) → end k i ≡ false → hole k i ≡ false → t k i ≡ s k i
    read_old k i p q = seats k i ∙ cond-false (end k i) None (cond (hole k i) (Some moved) (s k i)) p ∙ cond-false (hole k i) (Some moved) (s k i) q

    gone : (x : List ℕ) → same row x ≡ true → n x ≡ None
    gone x a = numbers x ∙ cond-true (same row x) None (cond (same moved x) (Some j) (m x)) a

    placed : (x : List ℕ) → same row x ≡ false → same moved x ≡ true → n x ≡ Some j
    placed x a b = numbers x ∙ cond-false (same row x) None (cond (same moved x) (Some j) (m x)) a ∙ cond-true (same moved x) (Some j) (m x) b

    stays : (x : List ℕ) → same row x ≡ false → same moved x ≡ false → n x ≡ m x
    stays x a b = numbers x ∙ cond-false (same row x) None (cond (same moved x) (Some j) (m x)) a ∙ cond-false (same moved x) (Some j) (m x) b

    seated_by : (x : List ℕ) (i : ℕ) → n x ≡ Some i → (a : Bool) → same row x ≡ a → (b : Bool) → same moved x ≡ b → t (f x) i ≡ Some x
    seated_by x i e true a b bb = absurd (none-some i (sym (gone x a) ∙ e))
    seated_by x i e false a true b =
        let is : j ≡ i = same_Some j i (sym (placed x a b) ∙ e) in
        let who : moved ≡ x = alike moved x b in
        let key : f row ≡ f x = sym mover.0 ∙ ap f who in
        let off : end (f x) i ≡ false = false_from_ne_true (end (f x) i) (λ p.
        let same_place : last ≡ j = (at_end (f x) i p).1 ∙ sym is in
        let same_row : row ≡ moved = same_Some row moved (sym old_seat ∙ ap (s (f row)) (sym same_place) ∙ top) in
        apart (same row x) (one row x (same_row ∙ who)) a) in
        read_hole (f x) i off (is_hole (f x) i key is) ∙ ap Some who
    seated_by x i e false a false b =
        let was : s (f x) i ≡ Some x = h.seated x i (sym (stays x a b) ∙ e) in
        let not_end : end (f x) i ≡ false = false_from_ne_true (end (f x) i) (λ p.
        let where_ = at_end (f x) i p in
        let who : moved ≡ x = same_Some moved x (sym top ∙ (λ z. s (where_.0 z) (where_.1 z)) ∙ was) in
        apart (same moved x) (one moved x who) b) in
        let not_hole : hole (f x) i ≡ false = false_from_ne_true (hole (f x) i) (λ p.
        let where_ = at_hole (f x) i p in
        let who : row ≡ x = same_Some row x (sym old_seat ∙ (λ z. s (where_.0 z) (where_.1 z)) ∙ was) in
        apart (same row x) (one row x who) a) in
        read_old (f x) i not_end not_hole ∙ was

    seated : (x : List ℕ) (i : ℕ) → n x ≡ Some i → t (f x) i ≡ Some x
    seated x i e = seated_by x i e (same row x) refl (same moved x) refl

    fits : (k : List ℕ) (i : ℕ) → i < c k → end k i ≡ false → (b : Bool) → same (f row) k ≡ b → i < d k
    fits k i l p true a =
        let less : d k + 1 ≡ c k = less_here (f row) k c d (counts k) a in
        let key : c (f row) ≡ c k = ap c (alike (f row) k a) in
        let ne : last ≡ i → ⊥ = λ e. apart (end k i) (is_end k i (alike (f row) k a) e) p in
        omega (arith, ne)
    fits k i l p false a = let e = less_there (f row) k c d (counts k) a in omega arith

    knows_by : (k x : List ℕ) (i : ℕ) → t k i ≡ Some x → (a : Bool) → end k i ≡ a → (b : Bool) → hole k i ≡ b → (f x ≡ k) × (n x ≡ Some i) × (i < d k)
    knows_by k x i e true a b bb = absurd (none-some x (sym (read_end k i a) ∙ e))
    knows_by k x i e false a true b =
        let who : moved ≡ x = same_Some moved x (sym (read_hole k i a b) ∙ e) in
        let where_ = at_hole k i b in
        let other : same row x ≡ false = false_from_ne_true (same row x) (λ p.
        let both : j ≡ last = same_Some j last (sym there ∙ ap m (alike row x p ∙ sym who) ∙ mover.1) in
        apart (end k i) (is_end k i where_.0 (sym both ∙ where_.1)) a) in
        let bound : i < c k = subst (λ z. z < c k) where_.1 (subst (λ z. j < c z) where_.0 below) in
        (ap f (sym who) ∙ mover.0 ∙ where_.0, placed x other (one moved x who) ∙ ap Some where_.1, fits k i bound a (same (f row) k) refl)
    knows_by k x i e false a false b =
        let known = h.knows k x i (sym (read_old k i a b) ∙ e) in
        let not_row : same row x ≡ false = false_from_ne_true (same row x) (λ p.
        let who = alike row x p in
        let place : j ≡ i = same_Some j i (sym there ∙ ap m who ∙ known.1) in
        apart (hole k i) (is_hole k i (ap f who ∙ known.0) place) b) in
        let not_moved : same moved x ≡ false = false_from_ne_true (same moved x) (λ p.
        let who = alike moved x p in
        let place : last ≡ i = same_Some last i (sym mover.1 ∙ ap m who ∙ known.1) in
        apart (end k i) (is_end k i (sym mover.0 ∙ ap f who ∙ known.0) place) a) in
        (known.0, stays x not_row not_moved ∙ known.1, fits k i known.2 a (same (f row) k) refl)

    knows : (k x : List ℕ) (i : ℕ) → t k i ≡ Some x → (f x ≡ k) × (n x ≡ Some i) × (i < d k)
    knows k x i e = knows_by k x i e (end k i) refl (hole k i) refl

    shrinks : (k : List ℕ) (b : Bool) → same (f row) k ≡ b → d k ≤ c k
    shrinks k true a = let e = less_here (f row) k c d (counts k) a in omega arith
    shrinks k false a = let e = less_there (f row) k c d (counts k) a in omega arith

    taken_by : (k : List ℕ) (i : ℕ) → i < d k → (a : Bool) → end k i ≡ a → (b : Bool) → hole k i ≡ b → IsSome (t k i)
    taken_by k i l true a b bb = absurd (
        let where_ = at_end k i a in
        let less : d k + 1 ≡ c k = less_here (f row) k c d (counts k) (one (f row) k where_.0) in
        let key : c (f row) ≡ c k = ap c where_.0 in
        let place : last ≡ i = where_.1 in
        omega arith)
    taken_by k i l false a true b = subst IsSome (sym (read_hole k i a b)) refl
    taken_by k i l false a false b = let up = shrinks k (same (f row) k) refl in subst IsSome (sym (read_old k i a b)) (h.taken k i (omega arith))

    taken : (k : List ℕ) (i : ℕ) → i < d k → IsSome (t k i)
    taken k i l = taken_by k i l (end k i) refl (hole k i) refl

-- a row without a number
pub none_seated : (o : Option ℕ) → is_some o ≡ false → o ≡ None
none_seated None e = refl
none_seated (Some n) e = absurd (true≢false e)

-- the counts with one more at a key
pub counts_more : (c d : List ℕ → ℕ) (key k : List ℕ) → key ≡ k → ((q : List ℕ) → d q ≡ (if same key q then c key + 1 else c q)) → (q : List ℕ) → d q ≡ c q + (if same k q then 1 else 0)
counts_more c d key k e counts q = counts q ∙ by (same key q) refl ∙ ap (λ z. c q + (if same z q then 1 else 0)) e
  where
    by : (b : Bool) → same key q ≡ b → (if same key q then c key + 1 else c q) ≡ c q + (if same key q then 1 else 0)
    by true a = ap (λ b. if b then c key + 1 else c q) a ∙ ap (λ z. c z + 1) (alike key q a) ∙ sym (ap (λ b. c q + (if b then 1 else 0)) a)
    by false a = ap (λ b. if b then c key + 1 else c q) a ∙ sym (ap (λ b. c q + (if b then 1 else 0)) a ∙ omega arith)

-- What is due, looked for from the lowest open request on.
use Rattle.std.proofs.Common.{◌≡◌, ◌++◌, ℕ, zero, suc, ◌+◌, ◌-◌, ◌≤◌, ◌<◌, true, false, List, [], ◌∷◌, length, get_or, take, drop, map, refl, sym, subst, ap, ◌∙◌, append_assoc, arith}
use Rattle.std.specs.Prelude.{Option, Some, None, is_some, slice_get, if◌then◌else◌}
use Rattle.std.specs.List.{list_all}
use Rattle.std.proofs.lemmas.Bool.{and_parts}
use Rattle.std.proofs.lemmas.List.{length_push, append-nil}
use Rattle.ham_syntax.specs.declared.act.Call.{Call}
use Rattle.ham_frame.specs.declared.frame.Frame.{Frame}
use Rattle.ham_frame.specs.declared.frame.Frame.TheVariants as frames
use Rattle.ham_resend.specs.declared.asks.Ask.{Ask}
use Rattle.ham_lane.specs.Lanes.{numbered}
use Rattle.ham_resend.specs.Asking.{is_told, open_from, due, IsGroup}

-- the frames so far, and what is due from the request at an index on
pub record IsDueSo (g : ℕ) (made : List Ask) (at count : ℕ) (frames : List Frame) : Type 0 where
  pub few : count ≤ 16
  pub many : count ≡ length frames
  pub all : frames ++ take (16 - count) (open_from g (at + 1) (drop at made)) ≡ due g made

skipped : (g n at : ℕ) (made : List Ask) → list_all is_told (take at made) ≡ true → open_from g (at + n) (drop at made) ≡ open_from g n made
skipped g n zero made h = let k : 0 + n ≡ n = omega arith in ap (λ k. open_from g k made) k
skipped g n (suc at) [] h = refl
skipped g n (suc at) (a ∷ made) h =
    let parts = and_parts (is_told a) (list_all is_told (take at made)) h in
    let more = skipped g (n + 1) at made parts.1 in
    let k : suc at + n ≡ at + (n + 1) = omega arith in
    ap (λ k. open_from g k (drop at made)) k ∙ more ∙ sym (rw parts.0 refl)

pub due_begins : (g : ℕ) (made : List Ask) (settled : ℕ) → IsGroup made settled → IsDueSo g made settled 0 []
due_begins g made settled group = record { few = omega arith; many = refl; all = ap (take 16) (skipped g 1 settled made group.told) }

unfolded : (g n at : ℕ) (made : List Ask) (d : Ask) → at < length made →
    open_from g n (drop at made) ≡ (if is_told (get_or made at d) then [] else frames.Request g n (get_or made at d).act ∷ []) ++ open_from g (n + 1) (drop (at + 1) made)
unfolded g n at [] d h = absurd (omega arith)
unfolded g n zero (a ∷ made) d h = refl
unfolded g n (suc at) (a ∷ made) d h =
    let e : suc at + 1 ≡ suc (at + 1) = omega arith in
    unfolded g n at made d (omega arith) ∙ ap (λ k. (if is_told (get_or made at d) then [] else frames.Request g n (get_or made at d).act ∷ []) ++ open_from g (n + 1) (drop k (a ∷ made))) (sym e)

pub due_passes : (g : ℕ) (made : List Ask) (at count : ℕ) (fs : List Frame) (d : Ask) → IsDueSo g made at count fs → at < length made →
    is_told (get_or made at d) ≡ true → IsDueSo g made (at + 1) count fs
due_passes g made at count fs d so h told = record {
  few = so.few;
  many = so.many;
  all = ap (λ l. fs ++ take (16 - count) l) (sym (unfolded g (at + 1) at made d h ∙ rw told refl)) ∙ so.all;
}

take_one : {X : Type 0} (n : ℕ) (x : X) (xs : List X) → 0 < n → take n (x ∷ xs) ≡ x ∷ take (n - 1) xs
take_one zero x xs h = absurd (omega arith)
take_one (suc n) x xs h = let k : n ≡ suc n - 1 = omega arith in ap (λ k. x ∷ take k xs) k

pub due_takes : (g : ℕ) (made : List Ask) (at count : ℕ) (fs : List Frame) (d : Ask) → IsDueSo g made at count fs → at < length made → count < 16 →
    is_told (get_or made at d) ≡ false → IsDueSo g made (at + 1) (count + 1) (fs ++ frames.Request g (at + 1) (get_or made at d).act ∷ [])
due_takes g made at count fs d so h room told =
    let f = frames.Request g (at + 1) (get_or made at d).act in
    let rest = open_from g (at + 1 + 1) (drop (at + 1) made) in
    let less : 16 - count - 1 ≡ 16 - (count + 1) = omega arith in
    record {
      few = omega arith;
      many = let l = length_push fs f in let m = so.many in omega arith;
      all = append_assoc fs (f ∷ []) (take (16 - (count + 1)) rest)
          ∙ ap (λ k. fs ++ f ∷ take k rest) (sym less)
          ∙ ap (λ l. fs ++ l) (sym (take_one (16 - count) f rest (omega arith)))
          ∙ ap (λ l. fs ++ take (16 - count) l) (sym (unfolded g (at + 1) at made d h ∙ rw told refl))
          ∙ so.all;
    }

drop_end : {X : Type 0} (n : ℕ) (xs : List X) → length xs ≤ n → drop n xs ≡ []
drop_end zero [] h = refl
drop_end zero (x ∷ xs) h = absurd (omega arith)
drop_end (suc n) [] h = refl
drop_end (suc n) (x ∷ xs) h = drop_end n xs (omega arith)

take_nil : {X : Type 0} (n : ℕ) → take {A = X} n [] ≡ []
take_nil zero = refl
take_nil (suc n) = refl

pub due_ends : (g : ℕ) (made : List Ask) (at count : ℕ) (fs : List Frame) → IsDueSo g made at count fs → length made ≤ at → fs ≡ due g made
due_ends g made at count fs so h =
    sym (append-nil fs) ∙ ap (λ l. fs ++ l) (sym (take_nil (16 - count))) ∙ ap (λ l. fs ++ take (16 - count) (open_from g (at + 1) l)) (sym (drop_end at made h)) ∙ so.all

pub due_full : (g : ℕ) (made : List Ask) (at count : ℕ) (fs : List Frame) → IsDueSo g made at count fs → count ≡ 16 → fs ≡ due g made
due_full g made at count fs so full =
    let none : 16 - count ≡ 0 = omega arith in
    sym (append-nil fs) ∙ ap (λ k. fs ++ take k (open_from g (at + 1) (drop at made))) (sym none) ∙ so.all

-- ---- calls

same_some : {X : Type 0} (x y : X) → Some x ≡ Some y → x ≡ y
same_some x y e = cc

take_next : {X : Type 0} (xs : List X) (n : ℕ) (x : X) → slice_get xs n ≡ Some x → take n xs ++ x ∷ [] ≡ take (n + 1) xs
take_next [] n x e = cc
take_next (z ∷ xs) zero x e = ap (λ k. k ∷ []) (sym (same_some z x e))
take_next (z ∷ xs) (suc n) x e = let k : suc (n + 1) ≡ suc n + 1 = omega arith in ap (λ l. z ∷ l) (take_next xs n x e) ∙ ap (λ k. take k (z ∷ xs)) k

get_drop : {X : Type 0} (a n : ℕ) (xs : List X) → slice_get (drop a xs) n ≡ slice_get xs (a + n)
get_drop zero n xs = let k : n ≡ 0 + n = omega arith in ap (slice_get xs) k
get_drop (suc a) n [] = refl
get_drop (suc a) n (x ∷ xs) = let k : suc (a + n) ≡ suc a + n = omega arith in get_drop a n xs ∙ ap (slice_get (x ∷ xs)) k

map_push : {X Y : Type 0} (f : X → Y) (xs : List X) (x : X) → map f (xs ++ x ∷ []) ≡ map f xs ++ f x ∷ []
map_push f [] x = refl
map_push f (z ∷ xs) x = ap (λ l. f z ∷ l) (map_push f xs x)

pub calls_more : (calls : List Call) (acked more : ℕ) (c : Call) → slice_get calls (acked + more) ≡ Some c →
    map frames.Call (take more (drop acked calls)) ++ frames.Call c ∷ [] ≡ map frames.Call (take (more + 1) (drop acked calls))
calls_more calls acked more c e =
    sym (map_push frames.Call (take more (drop acked calls)) c) ∙ ap (map frames.Call) (take_next (drop acked calls) more c (get_drop acked more calls ∙ e))

-- past the end nothing more is taken
take_past : {X : Type 0} (n m : ℕ) (xs : List X) → slice_get xs n ≡ None → n ≤ m → take n xs ≡ take m xs
take_past zero zero [] e h = refl
take_past zero (suc m) [] e h = refl
take_past (suc n) zero [] e h = refl
take_past (suc n) (suc m) [] e h = refl
take_past zero m (x ∷ xs) e h = cc
take_past (suc n) zero (x ∷ xs) e h = absurd (omega arith)
take_past (suc n) (suc m) (x ∷ xs) e h = ap (λ l. x ∷ l) (take_past n m xs e (omega arith))

pub calls_end : (calls : List Call) (acked more : ℕ) → slice_get calls (acked + more) ≡ None → more ≤ 16 →
    map frames.Call (take more (drop acked calls)) ≡ map frames.Call (take 16 (drop acked calls))
calls_end calls acked more e h = ap (map frames.Call) (take_past more 16 (drop acked calls) (get_drop acked more calls ∙ e) h)

numbered_next : (calls : List Call) (a n : ℕ) → numbered calls (a + 1 + n) ≡ slice_get calls (a + n)
numbered_next calls a n = let k : a + 1 + n ≡ suc (a + n) = omega arith in ap (numbered calls) k

pub calls_step : (calls : List Call) (a acked more : ℕ) (c d : Call) (fs new : List Frame) → a ≡ acked → Some d ≡ numbered calls (a + 1 + more) →
    fs ≡ map frames.Call (take more (drop acked calls)) → new ≡ fs ++ frames.Call c ∷ [] → c ≡ d → new ≡ map frames.Call (take (more + 1) (drop acked calls))
calls_step calls a acked more c d fs new e there so pushed same =
    pushed ∙ ap (λ l. l ++ frames.Call c ∷ []) so ∙ ap (λ k. map frames.Call (take more (drop acked calls)) ++ frames.Call k ∷ []) same
    ∙ calls_more calls acked more d (sym (there ∙ ap (λ k. numbered calls (k + 1 + more)) e ∙ numbered_next calls acked more))

pub calls_stop : (calls : List Call) (a acked more : ℕ) (fs : List Frame) → a ≡ acked → None ≡ numbered calls (a + 1 + more) → more ≤ 16 →
    fs ≡ map frames.Call (take more (drop acked calls)) → fs ≡ map frames.Call (take 16 (drop acked calls))
calls_stop calls a acked more fs e none h so =
    so ∙ calls_end calls acked more (sym (none ∙ ap (λ k. numbered calls (k + 1 + more)) e ∙ numbered_next calls acked more)) h

pub calls_all : (calls : List Call) (acked more : ℕ) (fs : List Frame) → more ≡ 16 →
    fs ≡ map frames.Call (take more (drop acked calls)) → fs ≡ map frames.Call (take 16 (drop acked calls))
calls_all calls acked more fs e so = so ∙ ap (λ k. map frames.Call (take k (drop acked calls))) e

-- the request that is looked at, as the code reads it
pub open_now : (g : ℕ) (made : List Ask) (at count : ℕ) (fs : List Frame) (a : Ask) → IsDueSo g made at count fs → at < length made → count < 16 →
    a ≡ get_or made at a → a.verdict ≡ None → IsDueSo g made (at + 1) (count + 1) (fs ++ frames.Request g (at + 1) a.act ∷ [])
open_now g made at count fs a so h room e none =
    subst (λ (z : Ask). IsDueSo g made (at + 1) (count + 1) (fs ++ frames.Request g (at + 1) z.act ∷ [])) (sym e)
    (due_takes g made at count fs a so h room (ap is_told (sym e) ∙ ap is_some none))

pub told_now : (g : ℕ) (made : List Ask) (at count : ℕ) (fs : List Frame) (a : Ask) → IsDueSo g made at count fs → at < length made →
    a ≡ get_or made at a → (a.verdict ≡ None → ⊥) → IsDueSo g made (at + 1) count fs
told_now g made at count fs a so h e some = due_passes g made at count fs a so h (ap is_told (sym e) ∙ not_none a.verdict some)
  where
    not_none : {X : Type 0} (o : Option X) → (o ≡ None → ⊥) → is_some o ≡ true
    not_none None n = absurd (n refl)
    not_none (Some z) n = refl

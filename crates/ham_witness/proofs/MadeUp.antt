-- Which rows stand in a made-up state, and what its counters hold.
use Rattle.std.proofs.Common.{◌≡◌, ℕ, zero, suc, ◌+◌, ◌*◌, ◌/◌, ◌%◌, ◌^◌, ◌≤◌, ◌<◌, Bool, true, false, cond, List, [], ◌∷◌, ◌++◌, length, get_or, map, Option, Some, None, refl, sym, ap, subst, ◌∙◌, inl, inr, arith, add-one}
use Rattle.std.specs.Prelude.{ℤ, pos, ◌==◌, ◌||◌, ◌&&◌, ◌+ℤ◌, slice_get, unwrap_or, if◌then◌else◌}
use Rattle.std.specs.List.{AllByRecursion, list_any, range_with_len}
use Rattle.std.proofs.lemmas.Bool.{both_ways, and_parts, cases_Bool, eqb-true, eq-eqb, ne_eqb}
use Rattle.std.proofs.lemmas.Bool.Decides.{eqb_tells, leb_tells}
use Rattle.std.proofs.lemmas.Int.{ints}
use Rattle.std.proofs.lemmas.List.Folds.{list_any-append, list_any_at}
use Rattle.std.proofs.lemmas.List.{length-map}
use Rattle.std.proofs.lemmas.List.FromFn.{length-map-range_with_len, get_or-map-range_with_len}
use Rattle.std.proofs.Math.Nat.{div-div-eq-div-mul, pow-succ'}
use Rattle.std.proofs.lemmas.Option.{slice_get_past}
use Rattle.ham_syntax.specs.declared.object.Counter.{Counter}
use Rattle.ham_syntax.specs.Objects.{Schema, columns_of}
use Rattle.ham_steps.specs.declared.step.Step.{Step}
use Rattle.ham_steps.specs.declared.step.Step.TheVariants as steps
use Rattle.ham_steps.specs.Pattern.{is_row}
use Rattle.ham_steps.specs.Content.{State, has, value, opening}
use Rattle.ham_steps.specs.Steps.{after_step, after_steps}
use Rattle.ham_steps.specs.Touch.{touches, puts, gain, gains}
use Rattle.ham_steps.proofs.ContentLaws.{has-opening, value-opening, is_row-same, is_row-itself}
use Rattle.ham_steps.proofs.LastTouch.{has-after_step, value-after_steps}
use Rattle.ham_rules.specs.Claims.{lists_below}
use Rattle.ham_witness.specs.declared.ids.Ids.{Ids}
use Rattle.ham_witness.specs.declared.kinds.Kinds.{Kinds}
use Rattle.ham_witness.specs.declared.kinds.RowKind.{RowKind}
use Rattle.ham_rules.specs.declared.claim.Claim.{Claim}
use Rattle.ham_witness.specs.Cases.{claim_ids, least, ids_of, id_by, row_by, inserts_if, stands, row_steps_of, row_steps, value_by, keys_by, value_steps_of, value_steps, state_steps, state_of}
use Rattle.ham_witness.specs.MadeUp.{IsEither, IsFilled, made_value, IsMadeUp}
use Rattle.ham_witness.proofs.Building.{lists-more, all-append, all-flat_map, all-map}

apart : (a b : ℕ) → a ≤ b → (a ≡ b → ⊥) → suc a ≤ b
apart a b le ne = elim (leb_tells (suc a) b) [ inl h ↦ h.1 | inr h ↦ absurd (ne (omega (arith, h.1))) ]

-- ---- what is gathered from lists of steps
module _ {M : Type 0} (nothing : M) (join : M → M → M) (of : List Step → M) (of-none : of [] ≡ nothing) (of-append : (xs ys : List Step) → of (xs ++ ys) ≡ join (of xs) (of ys))
    (left : (m : M) → join nothing m ≡ m) (right : (m : M) → join m nothing ≡ m) (f : ℕ → List Step) where
  lists-suc : (n : ℕ) → of (lists_below (suc n) f) ≡ join (of (lists_below n f)) (of (f n))
  lists-suc n = ap of (subst (λ (m : ℕ). lists_below m f ≡ lists_below n f ++ f n) (add-one n) (lists-more f n)) ∙ of-append (lists_below n f) (f n)

  pub none-of : ((i : ℕ) → of (f i) ≡ nothing) → (n : ℕ) → of (lists_below n f) ≡ nothing
  none-of each zero = of-none
  none-of each (suc n) = lists-suc n ∙ ((λ i. join (none-of each n i) (each n i)) ∙ left nothing)

  module _ (at : ℕ) (apart_from : (i : ℕ) → (i ≡ at → ⊥) → of (f i) ≡ nothing) where
    none-before : (n : ℕ) → n ≤ at → of (lists_below n f) ≡ nothing
    none-before zero le = of-none
    none-before (suc n) le = lists-suc n ∙ ((λ i. join (none-before n (omega arith) i) (apart_from n (λ e. omega arith) i)) ∙ left nothing)

    -- only the list at one place has something, if it is among them
    pub one-of : (n : ℕ) → (n ≤ at → of (f at) ≡ nothing) → of (lists_below n f) ≡ of (f at)
    one-of zero past = of-none ∙ sym (past (omega arith))
    one-of (suc n) past = elim (eqb_tells n at) [
      | inl here ↦ lists-suc n ∙ ((λ i. join (none-before n (omega (arith, here.1)) i) (of (f (here.1 i)))) ∙ left (of (f at)))
      | inr other ↦ lists-suc n ∙ ((λ i. join (one-of n (λ le. past (apart n at le other.1)) i) (apart_from n other.1 i)) ∙ right (of (f at)))
    ]

-- ---- rows

abbrev touched : List Step → ℕ → List ℕ → Bool
touched all r x = list_any (λ st. touches st r x) all

-- a step that touches the row puts it
abbrev Puts : ℕ → List ℕ → Step → Type 0
Puts r x st = touches st r x ≡ true → puts st ≡ true

or_right : (b : Bool) → (b || false) ≡ b
or_right true = refl
or_right false = refl

put_first : (t p rest now : Bool) → (t ≡ true → p ≡ true) → (rest || cond t p now) ≡ ((t || rest) || now)
put_first true p true now h = refl
put_first true p false now h = h refl
put_first false p rest now h = refl

has-put : (all : List Step) (s : State) (r : ℕ) (x : List ℕ) → AllByRecursion (Puts r x) all → has (after_steps all s) r x ≡ (touched all r x || has s r x)
has-put [] s r x h = refl
has-put (st ∷ all) s r x h =
    has-put all (after_step st s) r x h.1
    ∙ (ap (λ (b : Bool). touched all r x || b) (has-after_step st s r x) ∙ put_first (touches st r x) (puts st) (touched all r x) (has s r x) h.0)

module _ (ids : Ids) (r : ℕ) (x : List ℕ) where
  all_put : (i : ℕ) (there : Bool) (width : Option ℕ) → AllByRecursion (Puts r x) (inserts_if ids there i width)
  all_put i there None = tt
  all_put i true (Some w) = all-map (Puts r x) (λ mask. steps.Insert i (row_by ids w mask)) (λ mask t. refl) (range_with_len 0 (2 ^ w))
  all_put i false (Some w) = tt

  none_touch : (i w : ℕ) → (i ≡ r → ⊥) → (masks : List ℕ) → touched (map (λ mask. steps.Insert i (row_by ids w mask)) masks) r x ≡ false
  none_touch i w ne [] = refl
  none_touch i w ne (m ∷ masks) = ap (λ (b : Bool). (b && is_row (row_by ids w m) x) || touched (map (λ mask. steps.Insert i (row_by ids w mask)) masks) r x) (ne_eqb i r ne) ∙ none_touch i w ne masks

  elsewhere : (i : ℕ) (there : Bool) (width : Option ℕ) → (i ≡ r → ⊥) → touched (inserts_if ids there i width) r x ≡ false
  elsewhere i there None ne = refl
  elsewhere i true (Some w) ne = none_touch i w ne (range_with_len 0 (2 ^ w))
  elsewhere i false (Some w) ne = refl

  no_change : (c : ℕ) (by : ℤ) (keys : List ℕ) → touched (map (λ key. steps.Change c key by) keys) r x ≡ false
  no_change c by [] = refl
  no_change c by (key ∷ keys) = no_change c by keys

  module _ (o : Schema) (kinds : Kinds) where
    touched_rows : touched (row_steps o ids kinds.rows) r x ≡ touched (row_steps_of o ids kinds.rows r) r x
    touched_rows =
        one-of false (λ a b. a || b) (λ all. touched all r x) refl (list_any-append (λ st. touches st r x)) (λ b. refl) or_right (row_steps_of o ids kinds.rows) r
        (λ i ne. elsewhere i (stands o kinds.rows i) (slice_get (columns_of o) i) ne) (length o.relations)
        (λ past. ap (λ (w : Option ℕ). touched (inserts_if ids (stands o kinds.rows r) r w) r x) (slice_get_past (columns_of o) r (omega (arith, past, length-map o.relations (λ q. q.columns)))))

    touched_values : touched (value_steps o ids kinds.counters) r x ≡ false
    touched_values =
        none-of false (λ a b. a || b) (λ all. touched all r x) refl (list_any-append (λ st. touches st r x)) (λ b. refl) or_right (value_steps_of o ids kinds.counters)
        (λ c. no_change c (value_by o kinds.counters c) (keys_by ids (slice_get o.counters c))) (length o.counters)

    has_made : has (state_of o ids kinds) r x ≡ touched (row_steps_of o ids kinds.rows r) r x
    unfolding state_of
    has_made =
        has-put (state_steps o ids kinds) opening r x
        (all-append (Puts r x) (row_steps o ids kinds.rows) (value_steps o ids kinds.counters)
        (all-flat_map (Puts r x) (row_steps_of o ids kinds.rows) (λ i. all_put i (stands o kinds.rows i) (slice_get (columns_of o) i)) (range_with_len 0 (length o.relations)))
        (all-flat_map (Puts r x) (value_steps_of o ids kinds.counters)
        (λ c. all-map (Puts r x) (λ key. steps.Change c key (value_by o kinds.counters c)) (λ key t. absurd (both_ways false refl t)) (keys_by ids (slice_get o.counters c)))
        (range_with_len 0 (length o.counters))))
        ∙ (ap (λ (b : Bool). touched (state_steps o ids kinds) r x || b) (has-opening r x)
        ∙ (or_right (touched (state_steps o ids kinds) r x)
        ∙ (list_any-append (λ st. touches st r x) (row_steps o ids kinds.rows) (value_steps o ids kinds.counters)
        ∙ (ap (λ (b : Bool). touched (row_steps o ids kinds.rows) r x || b) touched_values ∙ (or_right (touched (row_steps o ids kinds.rows) r x) ∙ touched_rows)))))

-- ---- rows by masks

two_pow : (k : ℕ) → 2 ^ suc k ≡ 2 * 2 ^ k
two_pow k = pow-succ' 2 k

map_shift : (f : ℕ → ℕ) (a n : ℕ) → map f (range_with_len (suc a) n) ≡ map (λ k. f (suc k)) (range_with_len a n)
map_shift f a zero = refl
map_shift f a (suc n) = ap (λ (ys : List ℕ). f (suc a) ∷ ys) (ap (λ b. map f (range_with_len b n)) (omega arith) ∙ map_shift f (a + 1) n)

module _ (ids : Ids) where
  abbrev bit_of : (y : ℕ) → IsEither ids y → ℕ
  bit_of y (inl e) = 0
  bit_of y (inr e) = 1

  bit-small : (y : ℕ) (h : IsEither ids y) → bit_of y h < 2
  bit-small y (inl e) = omega arith
  bit-small y (inr e) = omega arith

  abbrev mask_of : (x : List ℕ) → AllByRecursion (IsEither ids) x → ℕ
  mask_of [] h = 0
  mask_of (y ∷ ys) h = bit_of y h.0 + 2 * mask_of ys h.1

  mask-small : (x : List ℕ) (h : AllByRecursion (IsEither ids) x) → mask_of x h < 2 ^ length x
  mask-small [] h = omega arith
  mask-small (y ∷ ys) h =
      let rest = mask-small ys h.1 in
      let bit = bit-small y h.0 in
      let twice = two_pow (length ys) in
      omega arith

  id-first : (y m : ℕ) (h : IsEither ids y) → id_by ids (bit_of y h + 2 * m) 0 ≡ y
  id-first y m (inl e) = ap (λ (b : Bool). if b then ids.d else ids.c) (ne_eqb ((0 + 2 * m) / 2 ^ 0 % 2) 1 (λ is. omega arith)) ∙ sym e
  id-first y m (inr e) = ap (λ (b : Bool). if b then ids.d else ids.c) (eq-eqb ((1 + 2 * m) / 2 ^ 0 % 2) 1 (omega arith)) ∙ sym e

  id-next : (b m k : ℕ) → b < 2 → id_by ids (b + 2 * m) (suc k) ≡ id_by ids m k
  id-next b m k lt =
      let half : (b + 2 * m) / 2 ≡ m = omega arith in
      let shifted : (b + 2 * m) / 2 ^ suc k ≡ m / 2 ^ k = ap (λ n. (b + 2 * m) / n) (two_pow k) ∙ (sym (div-div-eq-div-mul (b + 2 * m) 2 (2 ^ k)) ∙ ap (λ n. n / 2 ^ k) half) in
      ap (λ n. if n % 2 == 1 then ids.d else ids.c) shifted

  row-of : (x : List ℕ) (h : AllByRecursion (IsEither ids) x) → row_by ids (length x) (mask_of x h) ≡ x
  row-of [] h = refl
  row-of (y ∷ ys) h =
      let mask = bit_of y h.0 + 2 * mask_of ys h.1 in
      (λ i. id-first y (mask_of ys h.1) h.0 i ∷ map_shift (id_by ids mask) 0 (length ys) i)
      ∙ ((λ i. y ∷ map (λ k. id-next (bit_of y h.0) (mask_of ys h.1) k (bit-small y h.0) i) (range_with_len 0 (length ys)))
      ∙ ap (λ (zs : List ℕ). y ∷ zs) (row-of ys h.1))

  id-either : (mask k : ℕ) → IsEither ids (id_by ids mask k)
  id-either mask k = by (mask / 2 ^ k % 2 == 1)
    where
      by : (b : Bool) → IsEither ids (if b then ids.d else ids.c)
      by true = inr refl
      by false = inl refl

  module _ (r : ℕ) (x : List ℕ) where
    some_mask : (w : ℕ) (masks : List ℕ) → touched (map (λ mask. steps.Insert r (row_by ids w mask)) masks) r x ≡ true → (m : ℕ) × (row_by ids w m ≡ x)
    some_mask w [] h = absurd (both_ways false refl h)
    some_mask w (m ∷ masks) h = elim (cases_Bool ((r == r) && is_row (row_by ids w m) x)) [
      | inl here ↦ (m, is_row-same (row_by ids w m) x (and_parts (r == r) (is_row (row_by ids w m) x) here).1)
      | inr not ↦ some_mask w masks (sym (ap (λ (b : Bool). b || touched (map (λ mask. steps.Insert r (row_by ids w mask)) masks) r x) not) ∙ h)
    ]

    filled-from : (o : Schema) (kind : RowKind) (there : Bool) (width : Option ℕ) → stands o kind r ≡ there → slice_get (columns_of o) r ≡ width → touched (inserts_if ids there r width) r x ≡ true → IsFilled o ids kind r x
    filled-from o kind there None up is h = absurd (both_ways false refl h)
    filled-from o kind false (Some w) up is h = absurd (both_ways false refl h)
    filled-from o kind true (Some w) up is h =
        let found = some_mask w (range_with_len 0 (2 ^ w)) h in
        record {
          stands = up;
          width = is ∙ ap Some (sym (length-map-range_with_len (id_by ids found.0) 0 w) ∙ ap length found.1);
          over = subst (AllByRecursion (IsEither ids)) found.1 (all-map (IsEither ids) (id_by ids found.0) (λ k. id-either found.0 k) (range_with_len 0 w));
        }

    filled-to : (o : Schema) (kind : RowKind) → IsFilled o ids kind r x → touched (row_steps_of o ids kind r) r x ≡ true
    filled-to o kind h =
        let w = length x in
        let mask = mask_of x h.over in
        let f : ℕ → Step = λ m. steps.Insert r (row_by ids w m) in
        let at : get_or (map f (range_with_len 0 (2 ^ w))) mask (f mask) ≡ f mask = get_or-map-range_with_len f 0 (2 ^ w) mask mask (f mask) (mask-small x h.over) (omega arith) in
        let here : touches (f mask) r x ≡ true = (λ i. eq-eqb r r refl i && is_row (row-of x h.over i) x) ∙ is_row-itself x in
        ((λ i. touched (inserts_if ids (h.stands i) r (h.width i)) r x)
        ∙ list_any_at (λ st. touches st r x) (map f (range_with_len 0 (2 ^ w))) mask (f mask) (omega (arith, mask-small x h.over, length-map-range_with_len f 0 (2 ^ w))) (ap (λ st. touches st r x) at ∙ here))

-- ---- values

zero_left : (z : ℤ) → (pos 0 +ℤ z) ≡ z
zero_left z = omega (arith, ints)

zero_right : (z : ℤ) → (z +ℤ pos 0) ≡ z
zero_right z = omega (arith, ints)

module _ (c k : ℕ) where
  gains-append : (xs ys : List Step) → gains (xs ++ ys) c k ≡ (gains xs c k +ℤ gains ys c k)
  gains-append [] ys = sym (zero_left (gains ys c k))
  gains-append (st ∷ xs) ys = ap (λ (z : ℤ). gain st c k +ℤ z) (gains-append xs ys) ∙ omega (arith, ints)

  no_gain : (r w : ℕ) (ids : Ids) (masks : List ℕ) → gains (map (λ mask. steps.Insert r (row_by ids w mask)) masks) c k ≡ pos 0
  no_gain r w ids [] = refl
  no_gain r w ids (m ∷ masks) = zero_left _ ∙ no_gain r w ids masks

  rows_gain : (ids : Ids) (there : Bool) (r : ℕ) (width : Option ℕ) → gains (inserts_if ids there r width) c k ≡ pos 0
  rows_gain ids there r None = refl
  rows_gain ids true r (Some w) = no_gain r w ids (range_with_len 0 (2 ^ w))
  rows_gain ids false r (Some w) = refl

  other_gain : (d : ℕ) (by : ℤ) → (d ≡ c → ⊥) → (keys : List ℕ) → gains (map (λ key. steps.Change d key by) keys) c k ≡ pos 0
  other_gain d by ne [] = refl
  other_gain d by ne (key ∷ keys) = (λ i. (if ne_eqb d c ne i && (key == k) then by else pos 0) +ℤ other_gain d by ne keys i)

  one_key : (v : ℤ) (p : Bool) → ((if p then v else pos 0) +ℤ pos 0) ≡ (if p || false then v else pos 0)
  one_key v true = zero_right v
  one_key v false = refl

  two_keys : (v : ℤ) (p q : Bool) → (p ≡ true → q ≡ true → ⊥) → ((if p then v else pos 0) +ℤ ((if q then v else pos 0) +ℤ pos 0)) ≡ (if p || (q || false) then v else pos 0)
  two_keys v true true ne = absurd (ne refl refl)
  two_keys v true false ne = zero_right v
  two_keys v false true ne = omega (arith, ints)
  two_keys v false false ne = refl

  keys_gain : (ids : Ids) (by : ℤ) → (ids.c ≡ ids.d → ⊥) → (found : Option Counter) → gains (map (λ key. steps.Change c key by) (keys_by ids found)) c k ≡ (if list_any (λ key. key == k) (keys_by ids found) then by else pos 0)
  keys_gain ids by ne None = refl
  keys_gain ids by ne (Some counter) = of_keyed counter.keyed
    where
      of_keyed : (b : Bool) → gains (map (λ key. steps.Change c key by) (if b then ids.c ∷ ids.d ∷ [] else 0 ∷ [])) c k ≡ (if list_any (λ key. key == k) (if b then ids.c ∷ ids.d ∷ [] else 0 ∷ []) then by else pos 0)
      of_keyed true =
          (λ i. (if eq-eqb c c refl i && (ids.c == k) then by else pos 0) +ℤ ((if eq-eqb c c refl i && (ids.d == k) then by else pos 0) +ℤ pos 0))
          ∙ two_keys by (ids.c == k) (ids.d == k) (λ p q. ne (eqb-true ids.c k p ∙ sym (eqb-true ids.d k q)))
      of_keyed false = (λ i. (if eq-eqb c c refl i && (0 == k) then by else pos 0) +ℤ pos 0) ∙ one_key by (0 == k)

  module _ (o : Schema) (ids : Ids) (kinds : Kinds) (ne : ids.c ≡ ids.d → ⊥) where
    values_gain : gains (value_steps o ids kinds.counters) c k ≡ made_value o ids kinds.counters c k
    values_gain =
        one-of (pos 0) (λ a b. a +ℤ b) (λ all. gains all c k) refl gains-append zero_left zero_right (value_steps_of o ids kinds.counters) c
        (λ d other. other_gain d (value_by o kinds.counters d) other (keys_by ids (slice_get o.counters d))) (length o.counters)
        (λ past. ap (λ (found : Option Counter). gains (map (λ key. steps.Change c key (value_by o kinds.counters c)) (keys_by ids found)) c k) (slice_get_past o.counters c past))
        ∙ keys_gain ids (value_by o kinds.counters c) ne (slice_get o.counters c)

    value_made : value (state_of o ids kinds) c k ≡ made_value o ids kinds.counters c k
    unfolding state_of
    value_made =
        value-after_steps (state_steps o ids kinds) opening c k
        ∙ ((λ i. value-opening c k i +ℤ gains-append (row_steps o ids kinds.rows) (value_steps o ids kinds.counters) i)
        ∙ (zero_left _
        ∙ ((λ i. none-of (pos 0) (λ a b. a +ℤ b) (λ all. gains all c k) refl gains-append zero_left zero_right (row_steps_of o ids kinds.rows) (λ r. rows_gain ids (stands o kinds.rows r) r (slice_get (columns_of o) r)) (length o.relations) i +ℤ values_gain i)
        ∙ zero_left _)))

next_apart : (c : ℕ) → c ≡ (c + 1) % 2 ^ 64 → ⊥
next_apart c e = omega (arith, e)

pub ids_apart : (o : Schema) (claim : Claim) → (ids_of o claim).c ≡ (ids_of o claim).d → ⊥
unfolding ids_of
ids_apart o claim e = next_apart (unwrap_or (least (claim_ids o claim)) 1) e

pub is_made_up : (o : Schema) (ids : Ids) (kinds : Kinds) → (ids.c ≡ ids.d → ⊥) → IsMadeUp o ids kinds (state_of o ids kinds)
is_made_up o ids kinds ne = record {
  rows = λ r x. (
    (λ here. filled-from ids r x o kinds.rows (stands o kinds.rows r) (slice_get (columns_of o) r) refl refl (sym (has_made ids r x o kinds) ∙ here)),
    λ h. has_made ids r x o kinds ∙ filled-to ids r x o kinds.rows h,
  );
  values = λ c k. value_made c k o ids kinds ne;
}

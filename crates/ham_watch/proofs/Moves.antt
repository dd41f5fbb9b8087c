-- What one change does to a watch, and to all.
use Rattle.std.proofs.Common.{◌≡◌, ℕ, ◌+◌, ◌<◌, ◌≤◌, List, Some, refl, sym, ◌∙◌, subst, arith, map, length, get_or, set, inl, inr, ◌⊎◌, Bool, cond, not, ◌&&◌, [], ◌∷◌}
use Rattle.std.specs.Prelude.{Result, Ok, Err, OnOk, ℤ, ◌+ℤ◌, int_le, ◌==◌, slice_get}
use Rattle.std.specs.HashMap.{HashMap}
use Rattle.std.specs.HashSet as bag
use Rattle.std.specs.HashSet.{HashSet}
use Rattle.std.proofs.lemmas.List.{get_or_past}
use Rattle.std.proofs.lemmas.Bool.{cases_lt}
use Rattle.std.proofs.lemmas.Option.{slice_get-get_or}
use Rattle.ham_syntax.specs.declared.object.Invariant.{Invariant}
use Rattle.ham_syntax.specs.declared.object.Invariant.TheVariants as invariants
use Rattle.ham_content.specs.Numbers.{same}
use Rattle.ham_watch.specs.declared.watch.Watch.{Watch}
use Rattle.ham_watch.specs.Watches.{IsWatchOf, IsWatch, HasRoomBy, HasRoomIn, AreWatches, HaveRoom}
use Rattle.ham_content.proofs.Each.{Changed, all_changed, same_images, one_changed, weaker, any_read}
use Rattle.ham_watch.proofs.Limits.{low-same, high-same, low_turned, high_turned, reference-same, unique-same}
use Rattle.ham_content.proofs.Counting.{tally-with_change}
use Rattle.ham_steps.specs.Content.{State, value, with_change}

-- a watch that had room for g n steps watches the state t, and has room for n
pub record Moves (t : State) (g : ℕ → ℕ) (w v : Watch) : Type 0 where
  pub watched : IsWatch t v
  pub room : (n : ℕ) → HasRoomIn (g n) w → HasRoomIn n v
  pub invariant : v.invariant ≡ w.invariant

pub AreWatches-moved : (t : State) (g : ℕ → ℕ) (start xs : List Watch) (i : ℕ) → length xs ≤ i → Changed (Moves t g) start xs i → AreWatches t xs
AreWatches-moved t g start xs i h c j w e = (all_changed (Moves t g) start xs i h c j w e).2.watched

pub HaveRoom-moved : (t : State) (g : ℕ → ℕ) (start xs : List Watch) (i : ℕ) → length xs ≤ i → Changed (Moves t g) start xs i → (n : ℕ) → HaveRoom (g n) start → HaveRoom n xs
HaveRoom-moved t g start xs i h c n room j w e = let found = all_changed (Moves t g) start xs i h c j w e in found.2.room n (room j found.0 found.1)

pub invariants-moved : (t : State) (g : ℕ → ℕ) (start xs : List Watch) (i : ℕ) → length xs ≤ i → Changed (Moves t g) start xs i → map (λ (w : Watch). w.invariant) xs ≡ map (λ (w : Watch). w.invariant) start
invariants-moved t g start xs i h c = same_images (λ (w : Watch). w.invariant) (Moves t g) (λ w v move. move.invariant) start xs i h c

-- one that isn't changed yet is as it was
pub not_yet : (t : State) (g : ℕ → ℕ) (start xs : List Watch) (i : ℕ) (P : Watch → Type 0) → i < length xs → Changed (Moves t g) start xs i → ((j : ℕ) (w : Watch) → slice_get start j ≡ Some w → P w) → (d : Watch) → P (get_or xs i d)
not_yet t g start xs i P h c all d =
    let long = c.long in
    subst P (sym (c.left i d (omega arith))) (all i (get_or start i d) (slice_get-get_or start i d (omega arith)))

-- the invariant by its kind
pub room_as : {S T U V : Type 0} (v u : Invariant) (g : ℕ → ℕ) (tallies : HashMap (List ℕ) ℕ S) (broken : HashSet (List ℕ) T) (tallies' : HashMap (List ℕ) ℕ U) (broken' : HashSet (List ℕ) V) → v ≡ u → ((n : ℕ) → HasRoomBy u (g n) tallies broken → HasRoomBy u n tallies' broken') → (n : ℕ) → HasRoomBy v (g n) tallies broken → HasRoomBy v n tallies' broken'
room_as v u g tallies broken tallies' broken' e h = subst (λ z. (n : ℕ) → HasRoomBy z (g n) tallies broken → HasRoomBy z n tallies' broken') (sym e) h

pub low_kept : {S T : Type 0} (s t : State) (v : Invariant) (c : ℕ) (limit : ℤ) (tallies : HashMap (List ℕ) ℕ S) (broken : HashSet (List ℕ) T) → v ≡ invariants.Low c limit → ((k : ℕ) → value t c k ≡ value s c k) → IsWatchOf s v tallies broken → IsWatchOf t v tallies broken
low_kept s t v c limit tallies broken e is h =
    let w = subst (λ z. IsWatchOf s z tallies broken) e h in
    let made : IsWatchOf t (invariants.Low c limit) tallies broken = record { tallied = w.tallied; marked = λ k. w.marked k ∙ low-same s t c limit is k } in
    subst (λ z. IsWatchOf t z tallies broken) (sym e) made

pub high_kept : {S T : Type 0} (s t : State) (v : Invariant) (c : ℕ) (limit : ℤ) (tallies : HashMap (List ℕ) ℕ S) (broken : HashSet (List ℕ) T) → v ≡ invariants.High c limit → ((k : ℕ) → value t c k ≡ value s c k) → IsWatchOf s v tallies broken → IsWatchOf t v tallies broken
high_kept s t v c limit tallies broken e is h =
    let w = subst (λ z. IsWatchOf s z tallies broken) e h in
    let made : IsWatchOf t (invariants.High c limit) tallies broken = record { tallied = w.tallied; marked = λ k. w.marked k ∙ high-same s t c limit is k } in
    subst (λ z. IsWatchOf t z tallies broken) (sym e) made

-- a change concerns limits on its counter alone
pub reference_turned : {S T : Type 0} (s : State) (counter key : ℕ) (by : ℤ) (v : Invariant) (from : ℕ) (columns : List ℕ) (to : ℕ) (tallies : HashMap (List ℕ) ℕ S) (broken : HashSet (List ℕ) T) → v ≡ invariants.Reference from columns to → IsWatchOf s v tallies broken → IsWatchOf (with_change s counter key by) v tallies broken
reference_turned s counter key by v from columns to tallies broken e h =
    let w = subst (λ z. IsWatchOf s z tallies broken) e h in
    let made : IsWatchOf (with_change s counter key by) (invariants.Reference from columns to) tallies broken = record { tallied = λ k. w.tallied k ∙ sym (tally-with_change s counter key by from columns k); marked = λ k. w.marked k ∙ reference-same s counter key by from columns to k } in
    subst (λ z. IsWatchOf (with_change s counter key by) z tallies broken) (sym e) made

pub unique_turned : {S T : Type 0} (s : State) (counter key : ℕ) (by : ℤ) (v : Invariant) (r : ℕ) (columns : List ℕ) (tallies : HashMap (List ℕ) ℕ S) (broken : HashSet (List ℕ) T) → v ≡ invariants.Unique r columns → IsWatchOf s v tallies broken → IsWatchOf (with_change s counter key by) v tallies broken
unique_turned s counter key by v r columns tallies broken e h =
    let w = subst (λ z. IsWatchOf s z tallies broken) e h in
    let made : IsWatchOf (with_change s counter key by) (invariants.Unique r columns) tallies broken = record { tallied = λ k. w.tallied k ∙ sym (tally-with_change s counter key by r columns k); marked = λ k. w.marked k ∙ unique-same s counter key by r columns k } in
    subst (λ z. IsWatchOf (with_change s counter key by) z tallies broken) (sym e) made

pub low_watched : {S T U : Type 0} (s : State) (counter key : ℕ) (by : ℤ) (v : Invariant) (c : ℕ) (limit : ℤ) (m : Bool) (tallies : HashMap (List ℕ) ℕ S) (broken : HashSet (List ℕ) T) (new : HashSet (List ℕ) U) → v ≡ invariants.Low c limit → m ≡ not (int_le limit (value s counter key +ℤ by)) → ((q : List ℕ) → bag.contains same new q ≡ cond ((c == counter) && same (key ∷ []) q) m (bag.contains same broken q)) → IsWatchOf s v tallies broken → IsWatchOf (with_change s counter key by) v tallies new
low_watched s counter key by v c limit m tallies broken new e value_is made h =
    let w = subst (λ z. IsWatchOf s z tallies broken) e h in
    let is : IsWatchOf (with_change s counter key by) (invariants.Low c limit) tallies new = record { tallied = w.tallied; marked = low_turned s c limit counter key by m (bag.contains same new) (bag.contains same broken) value_is made w.marked } in
    subst (λ z. IsWatchOf (with_change s counter key by) z tallies new) (sym e) is

pub high_watched : {S T U : Type 0} (s : State) (counter key : ℕ) (by : ℤ) (v : Invariant) (c : ℕ) (limit : ℤ) (m : Bool) (tallies : HashMap (List ℕ) ℕ S) (broken : HashSet (List ℕ) T) (new : HashSet (List ℕ) U) → v ≡ invariants.High c limit → m ≡ not (int_le (value s counter key +ℤ by) limit) → ((q : List ℕ) → bag.contains same new q ≡ cond ((c == counter) && same (key ∷ []) q) m (bag.contains same broken q)) → IsWatchOf s v tallies broken → IsWatchOf (with_change s counter key by) v tallies new
high_watched s counter key by v c limit m tallies broken new e value_is made h =
    let w = subst (λ z. IsWatchOf s z tallies broken) e h in
    let is : IsWatchOf (with_change s counter key by) (invariants.High c limit) tallies new = record { tallied = w.tallied; marked = high_turned s c limit counter key by m (bag.contains same new) (bag.contains same broken) value_is made w.marked } in
    subst (λ z. IsWatchOf (with_change s counter key by) z tallies new) (sym e) is

-- less room is room
fewer_of : {S T : Type 0} (v : Invariant) (m n : ℕ) (tallies : HashMap (List ℕ) ℕ S) (broken : HashSet (List ℕ) T) → m ≤ n → HasRoomBy v n tallies broken → HasRoomBy v m tallies broken
fewer_of (invariants.Reference from columns to) m n tallies broken h room = let a = room.0 in let b = room.1 in (omega arith, omega arith)
fewer_of (invariants.Unique r columns) m n tallies broken h room = let a = room.0 in let b = room.1 in (omega arith, omega arith)
fewer_of (invariants.Low c limit) m n tallies broken h room = let a = room.0 in let b = room.1 in (omega arith, omega arith)
fewer_of (invariants.High c limit) m n tallies broken h room = let a = room.0 in let b = room.1 in (omega arith, omega arith)

pub fewer : (m n : ℕ) (watches : List Watch) → m ≤ n → HaveRoom n watches → HaveRoom m watches
fewer m n watches h room i w e = fewer_of w.invariant m n w.tallies w.broken h (room i w e)

-- what it watches stays, and its room
pub record Keeps (w v : Watch) : Type 0 where
  pub watched : (s : State) → IsWatch s w → IsWatch s v
  pub kept : (n : ℕ) → HasRoomIn n w → HasRoomIn n v
  pub invariant : v.invariant ≡ w.invariant

itself : (w : Watch) → Keeps w w
itself w = record { watched = λ s h. h; kept = λ n h. h; invariant = refl }

-- those after the one that is reached are as they were
pub keeps_all : (start xs : List Watch) (i : ℕ) → Changed Keeps start xs i → Changed Keeps start xs (length xs)
keeps_all start xs i c = record {
  done = λ j d h. by j d (cases_lt j i);
  left = λ j d h. past j d h;
  long = c.long;
}
  where
    by : (j : ℕ) (d : Watch) → (j < i) ⊎ (i ≤ j) → Keeps (get_or start j d) (get_or xs j d)
    by j d (inl h) = c.done j d h
    by j d (inr h) = subst (Keeps (get_or start j d)) (sym (c.left j d h)) (itself (get_or start j d))

    past : (j : ℕ) (d : Watch) → length xs ≤ j → get_or xs j d ≡ get_or start j d
    past j d h = let long = c.long in get_or_past xs j d h ∙ sym (get_or_past start j d (omega arith))

pub AreWatches-kept : (start xs : List Watch) (i : ℕ) → Changed Keeps start xs i → (s : State) → AreWatches s start → AreWatches s xs
AreWatches-kept start xs i c s all j w e = let found = all_changed Keeps start xs (length xs) (omega arith) (keeps_all start xs i c) j w e in found.2.watched s (all j found.0 found.1)

pub HaveRoom-kept : (start xs : List Watch) (i : ℕ) → Changed Keeps start xs i → (n : ℕ) → HaveRoom n start → HaveRoom n xs
HaveRoom-kept start xs i c n all j w e = let found = all_changed Keeps start xs (length xs) (omega arith) (keeps_all start xs i c) j w e in found.2.kept n (all j found.0 found.1)

pub invariants-kept : (start xs : List Watch) (i : ℕ) → Changed Keeps start xs i → map (λ (w : Watch). w.invariant) xs ≡ map (λ (w : Watch). w.invariant) start
invariants-kept start xs i c = same_images (λ (w : Watch). w.invariant) Keeps (λ w v move. move.invariant) start xs (length xs) (omega arith) (keeps_all start xs i c)

-- and there is room for n steps
pub record Prepared (n : ℕ) (w v : Watch) : Type 0 where
  pub keeps : Keeps w v
  pub room : HasRoomIn n v

pub prepared_keeps : (n : ℕ) (start xs : List Watch) (i : ℕ) → Changed (Prepared n) start xs i → Changed Keeps start xs i
prepared_keeps n start xs i c = weaker (Prepared n) Keeps (λ w v p. p.keeps) start xs i c

pub prepared_next : (n : ℕ) (start xs : List Watch) (i : ℕ) (r y : Watch) → i < length start → Keeps (get_or xs i r) y → HasRoomIn n y → Changed (Prepared n) start xs i → Changed (Prepared n) start (set xs i y) (i + 1)
prepared_next n start xs i r y h keeps room c = let long = c.long in let within : i < length xs = omega arith in one_changed (Prepared n) start xs i y within (λ d. record { keeps = subst (λ z. Keeps z y) (any_read xs i r d within ∙ c.left i d (omega arith)) keeps; room = room }) c

pub kept_next : (n : ℕ) (start xs : List Watch) (i : ℕ) (r y : Watch) → i < length start → Keeps (get_or xs i r) y → Changed (Prepared n) start xs i → Changed Keeps start (set xs i y) (i + 1)
kept_next n start xs i r y h keeps c = let long = c.long in let within : i < length xs = omega arith in one_changed Keeps start xs i y within (λ d. subst (λ z. Keeps z y) (any_read xs i r d within ∙ c.left i d (omega arith)) keeps) (prepared_keeps n start xs i c)

pub HaveRoom-prepared : (n : ℕ) (start xs : List Watch) (i : ℕ) → length xs ≤ i → Changed (Prepared n) start xs i → HaveRoom n xs
HaveRoom-prepared n start xs i h c j w e = (all_changed (Prepared n) start xs i h c j w e).2.room

pub OnOk-map : {A E P Q : Type 0} (r : Result A E) → (P → Q) → OnOk r P → OnOk r Q
OnOk-map (Ok x) f h = f h
OnOk-map (Err e) f h = h

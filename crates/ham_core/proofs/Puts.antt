-- Frames that are put wait as they were sent, and stay.
use Rattle.std.proofs.Common.{◌≡◌, ℕ, zero, suc, ◌-◌, ◌≤◌, ◌<◌, Bool, true, false, List, [], ◌∷◌, ◌++◌, length, take, drop, set, get_or, map, Option, Some, None, if◌then◌else◌, refl, sym, ap, subst, ◌∙◌}
use Rattle.std.specs.Prelude.{nat_lt, fold}
use Rattle.std.specs.List.{AllByRecursion}
use Rattle.std.proofs.lemmas.List.{length-map, map-append}
use Rattle.ham_syntax.specs.declared.act.Call.{Call}
use Rattle.ham_frame.specs.declared.frame.Frame.{Frame}
use Rattle.ham_frame.specs.declared.frame.Frame.TheVariants as frames
use Rattle.ham_frame.specs.Spelling.{Fits, AllFit}
use Rattle.ham_turns.specs.declared.turn.Out.{Out}
use Rattle.ham_turns.specs.Words.{numbered, place_of}
use Rattle.ham_journal.specs.declared.limits.TheConstants.{MAX_WAITING, MAX_COLLECTED}
use Rattle.ham_journal.specs.Cores.{with_room, box_of, boxed}
use Rattle.ham_replica.proofs.Items.{all_set, all_or, all_append, all_imp, all_map, all_take, all_drop}
use Rattle.ham_core.specs.declared.waiting.Waiting.{Waiting}
use Rattle.ham_core.specs.declared.waiting.Waiting.TheVariants as waiting
use Rattle.ham_core.specs.Waits.{Decided, waits_as, call_frame, shown, shown_in, put, put_at, IsSound, AreSound, IsKnown, Grows}

-- ---- what stays

stays : (d d' : Decided) (w : Waiting) → Grows d d' → IsSound d w → IsSound d' w
stays d d' (waiting.Call p) g h = (h.0, g p.lane p.number h.0 h.1, h.2)
stays d d' (waiting.Other f) g h = h

same : (d d' : Decided) (w : Waiting) → Grows d d' → IsSound d w → shown d' w ≡ shown d w
same d d' (waiting.Call p) g h = ap call_frame (g p.lane p.number h.0 h.1 ∙ sym h.1)
same d d' (waiting.Other f) g h = refl

pub all_stay : (d d' : Decided) (boxes : List (List Waiting)) → Grows d d' → AreSound d boxes → AreSound d' boxes
all_stay d d' boxes g h =
    all_imp (AllByRecursion (IsSound d)) (AllByRecursion (IsSound d')) boxes (λ box. all_imp (IsSound d) (IsSound d') box (λ w. stays d d' w g)) h

box_same : (d d' : Decided) (box : List Waiting) → Grows d d' → AllByRecursion (IsSound d) box → map (shown d') box ≡ map (shown d) box
box_same d d' [] g h = refl
box_same d d' (w ∷ box) g h = ap (λ (f : Frame). f ∷ map (shown d') box) (same d d' w g h.0) ∙ ap (λ (l : List Frame). shown d w ∷ l) (box_same d d' box g h.1)

pub all_same : (d d' : Decided) (boxes : List (List Waiting)) → Grows d d' → AreSound d boxes → shown_in d' boxes ≡ shown_in d boxes
all_same d d' [] g h = refl
all_same d d' (box ∷ boxes) g h =
    ap (λ (f : List Frame). f ∷ shown_in d' boxes) (box_same d d' box g h.0) ∙ ap (λ (l : List (List Frame)). map (shown d) box ∷ l) (all_same d d' boxes g h.1)

-- ---- one frame more

kept_shown : (d : Decided) (f : Frame) → IsKnown d f → shown d (waits_as f) ≡ f
kept_shown d (frames.Call c) k = ap call_frame k
kept_shown d (frames.Hello version digest from of) k = refl
kept_shown d (frames.Ack lane count) k = refl
kept_shown d (frames.Request g n a) k = refl
kept_shown d (frames.Verdict g n v) k = refl
kept_shown d frames.Bye k = refl

kept_sound : (d : Decided) (f : Frame) → IsKnown d f → Fits f → IsSound d (waits_as f)
kept_sound d (frames.Call c) k h = (c, k, h)
kept_sound d (frames.Hello version digest from of) k h = h
kept_sound d (frames.Ack lane count) k h = h
kept_sound d (frames.Request g n a) k h = h
kept_sound d (frames.Verdict g n v) k h = h
kept_sound d frames.Bye k h = h

set_shown : (d : Decided) (boxes : List (List Waiting)) (i : ℕ) (box : List Waiting) → shown_in d (set boxes i box) ≡ set (shown_in d boxes) i (map (shown d) box)
set_shown d [] i box = refl
set_shown d (b ∷ boxes) zero box = refl
set_shown d (b ∷ boxes) (suc i) box = ap (λ (l : List (List Frame)). map (shown d) b ∷ l) (set_shown d boxes i box)

pub box_shown : (d : Decided) (boxes : List (List Waiting)) (i : ℕ) → get_or (shown_in d boxes) i [] ≡ map (shown d) (get_or boxes i [])
box_shown d [] i = refl
box_shown d (b ∷ boxes) zero = refl
box_shown d (b ∷ boxes) (suc i) = box_shown d boxes i

room_shown : (d : Decided) (box : List Waiting) (w : Waiting) → map (shown d) (with_room box w) ≡ with_room (map (shown d) box) (shown d w)
room_shown d box w =
    by_test (nat_lt (length box) MAX_WAITING)
    ∙ ap (λ (n : ℕ). if nat_lt n MAX_WAITING then map (shown d) box ++ shown d w ∷ [] else map (shown d) box) (sym (length-map box (shown d)))
  where
    by_test : (b : Bool) → map (shown d) (if b then box ++ w ∷ [] else box) ≡ (if b then map (shown d) box ++ shown d w ∷ [] else map (shown d) box)
    by_test true = map-append (shown d) box (w ∷ [])
    by_test false = refl

one_shown : (d : Decided) (boxes : List (List Waiting)) (o : Out) → IsKnown d o.frame → shown_in d (put boxes o) ≡ boxed (shown_in d boxes) o
one_shown d boxes o k =
    set_shown d boxes (o.to - 1) (with_room (box_of boxes o.to) (waits_as o.frame))
    ∙ ap (set (shown_in d boxes) (o.to - 1))
    (room_shown d (box_of boxes o.to) (waits_as o.frame)
    ∙ ap (λ (b : List Frame). with_room b (shown d (waits_as o.frame))) (sym (box_shown d boxes (o.to - 1)))
    ∙ ap (with_room (box_of (shown_in d boxes) o.to)) (kept_shown d o.frame k))

one_sound : (d : Decided) (boxes : List (List Waiting)) (o : Out) → AreSound d boxes → IsKnown d o.frame → Fits o.frame → AreSound d (put boxes o)
one_sound d boxes o h k f = all_set (AllByRecursion (IsSound d)) boxes (o.to - 1) (with_room (box_of boxes o.to) (waits_as o.frame)) h (by_test (nat_lt (length (box_of boxes o.to)) MAX_WAITING))
  where
    old : AllByRecursion (IsSound d) (box_of boxes o.to)
    old = all_or (AllByRecursion (IsSound d)) boxes (o.to - 1) [] h tt

    by_test : (b : Bool) → AllByRecursion (IsSound d) (if b then box_of boxes o.to ++ waits_as o.frame ∷ [] else box_of boxes o.to)
    by_test true = all_append (IsSound d) (box_of boxes o.to) (waits_as o.frame ∷ []) old (kept_sound d o.frame k f, tt)
    by_test false = old

pub puts : (d : Decided) (boxes : List (List Waiting)) (out : List Out) → AreSound d boxes → AllByRecursion (λ o. IsKnown d o.frame) out → AllByRecursion (λ o. Fits o.frame) out
    → (shown_in d (fold put boxes out) ≡ fold boxed (shown_in d boxes) out) × AreSound d (fold put boxes out)
puts d boxes [] h k f = (refl, h)
puts d boxes (o ∷ out) h k f =
    let rest = puts d (put boxes o) out (one_sound d boxes o h k.0 f.0) k.1 f.1 in
    (rest.0 ∙ ap (λ (b : List (List Frame)). fold boxed b out) (one_shown d boxes o k.0), rest.1)

-- ---- a look

take_shown : (d : Decided) (n : ℕ) (box : List Waiting) → map (shown d) (take n box) ≡ take n (map (shown d) box)
take_shown d zero box = refl
take_shown d (suc n) [] = refl
take_shown d (suc n) (w ∷ box) = ap (λ (l : List Frame). shown d w ∷ l) (take_shown d n box)

drop_shown : (d : Decided) (n : ℕ) (box : List Waiting) → map (shown d) (drop n box) ≡ drop n (map (shown d) box)
drop_shown d zero box = refl
drop_shown d (suc n) [] = refl
drop_shown d (suc n) (w ∷ box) = drop_shown d n box

pub taken_shown : (d : Decided) (boxes : List (List Waiting)) (peer n : ℕ) → map (shown d) (take n (box_of boxes peer)) ≡ take n (box_of (shown_in d boxes) peer)
taken_shown d boxes peer n = take_shown d n (box_of boxes peer) ∙ ap (take n) (sym (box_shown d boxes (peer - 1)))

pub dropped_shown : (d : Decided) (boxes : List (List Waiting)) (peer n : ℕ)
    → shown_in d (set boxes (peer - 1) (drop n (box_of boxes peer))) ≡ set (shown_in d boxes) (peer - 1) (drop n (box_of (shown_in d boxes) peer))
dropped_shown d boxes peer n =
    set_shown d boxes (peer - 1) (drop n (box_of boxes peer))
    ∙ ap (set (shown_in d boxes) (peer - 1)) (drop_shown d n (box_of boxes peer) ∙ ap (drop n) (sym (box_shown d boxes (peer - 1))))

pub dropped_sound : (d : Decided) (boxes : List (List Waiting)) (peer n : ℕ) → AreSound d boxes → AreSound d (set boxes (peer - 1) (drop n (box_of boxes peer)))
dropped_sound d boxes peer n h =
    all_set (AllByRecursion (IsSound d)) boxes (peer - 1) (drop n (box_of boxes peer)) h
    (all_drop (IsSound d) n (box_of boxes peer) (all_or (AllByRecursion (IsSound d)) boxes (peer - 1) [] h tt))

sound_fits : (d : Decided) (w : Waiting) → IsSound d w → Fits (shown d w)
sound_fits d (waiting.Call p) h = subst Fits (sym (ap call_frame h.1)) h.2
sound_fits d (waiting.Other f) h = h

pub taken_fit : (d : Decided) (boxes : List (List Waiting)) (peer n : ℕ) → AreSound d boxes → AllFit (map (shown d) (take n (box_of boxes peer)))
taken_fit d boxes peer n h =
    all_map Fits (shown d) (take n (box_of boxes peer))
    (all_imp (IsSound d) (λ (w : Waiting). Fits (shown d w)) (take n (box_of boxes peer)) (sound_fits d)
    (all_take (IsSound d) n (box_of boxes peer) (all_or (AllByRecursion (IsSound d)) boxes (peer - 1) [] h tt)))

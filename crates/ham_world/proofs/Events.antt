-- What an event that is taken says of its numbers.
use Rattle.std.proofs.Common.{◌≡◌, ◌≢◌, ℕ, zero, suc, ◌+◌, ◌-◌, ◌*◌, ◌<◌, ◌≤◌, List, [], ◌∷◌, ◌++◌, Bool, true, false, cond, not, ◌&&◌, ◌==◌, nat_lt, nat_le, Option, Some, None, is_some, IsTrue, length, map, fold, take, drop, get_or, set, refl, sym, ap, ◌∙◌, arith, subst}
use Rattle.std.specs.Prelude.{slice_get}
use Rattle.std.specs.List.{range_with_len, flat_map}
use Rattle.std.proofs.lemmas.Bool.Decides.{nat_tests}
use Rattle.std.proofs.lemmas.List.{length-append, length-take, length-drop, map_push, length-map, length-set, map-set, get_or-map, take-append-drop}
use Rattle.std.proofs.lemmas.List.FromFn.{length-range_with_len}
use Rattle.std.proofs.lemmas.List.Concat.{flat_map-cons}
use Rattle.std.proofs.lemmas.List.Sums.{fold-append}
use Rattle.std.proofs.lemmas.Option.{slice_get_within, get_or_from_slice_get, slice_get-get_or}
use Rattle.ham_frame.specs.declared.frame.Frame.{Frame}
use Rattle.ham_turns.specs.declared.turn.Out.{Out}
use Rattle.ham_syntax.specs.declared.limits.TheConstants.{MAX_REPLICAS, MAX_SENT_FRAMES, MAX_FRAME_BYTES}
use Rattle.ham_world.specs.declared.refusal.TheConstants.{MAX_STRETCH}
use Rattle.ham_world.specs.declared.refusal.StepRefusal.{StepRefusal}
use Rattle.ham_world.specs.declared.refusal.StepRefusal.TheVariants as step
use Rattle.ham_turns.specs.Settings.{Rules, Setting, IsReplica}
use Rattle.ham_turns.specs.Words.{Intake, FrameComes, PartComes, numbered}
use Rattle.ham_runs.specs.Runs.{Note, on_link, addressed}
use Rattle.ham_runs.specs.Next.{Input, is_replica, may_take, taken_as, next_note, intake_of, after_input}
use Rattle.ham_runs.specs.Next.Input.{Deliver, Tear}
use Rattle.ham_world.specs.Worlds.{all_sent, unless_full, on_link_refusal}
use Rattle.ham_wire.specs.Cuts.{is_ascending}
use Rattle.ham_turns.specs.Settings.{rules_of, setting_of}
use Rattle.ham_frame.specs.Spelling.{spelling, Fits}
use Rattle.ham_frame.specs.Spelling.{AllFit, stream, IsViable}
use Rattle.ham_frame.specs.Decoding.{Fed}
use Rattle.ham_wire.specs.Streams.{IsIdle}
use Rattle.ham_wire.specs.Streams.{IsStream, ReadsAll}
use Rattle.ham_world.specs.declared.note.Note.{Note as Told}
use Rattle.ham_replica.specs.Values.{Replica}
use Rattle.ham_world.specs.Keeping.{Goes, Keeps, AreIdle}
use Rattle.ham_world.specs.Sending.{place_of_link}
use Rattle.ham_world.specs.Stepping.{Comes, IsLinked}
use Rattle.ham_syntax.specs.Objects.{Schema}
use Rattle.ham_plan.specs.Plans.{Plan}
use Rattle.ham_world.proofs.Each.{each-take, each-drop, each-set, each-get_or}
use Rattle.ham_world.proofs.Refused.{span_stream}
use Rattle.ham_world.specs.Worlds.{are_linked, at_replica_refusal, between, cuts_fit, part_fits, taken}
use Rattle.ham_world.specs.Keeping.{notes_of}

abbrev pub Short : Type 0
Short = (f : Frame) → Fits f → (0 < length (spelling f)) × (length (spelling f) ≤ MAX_FRAME_BYTES)

if_none : (b : Bool) (x : StepRefusal) (rest : Option StepRefusal) → cond (not b) (Some x) rest ≡ None → (b ≡ true) × (rest ≡ None)
if_none true x rest e = (refl, e)
if_none false x rest e = cc

some_full : (n : ℕ) (b : Bool) → nat_lt MAX_SENT_FRAMES n ≡ b → cond b (Some step.SentFull) None ≡ None → n ≤ MAX_SENT_FRAMES
some_full n true t e = cc
some_full n false t e = grind (arith, nat_tests)

not_full : (notes : List Note) → unless_full notes None ≡ None → all_sent notes ≤ MAX_SENT_FRAMES
not_full notes e = some_full (all_sent notes) (nat_lt MAX_SENT_FRAMES (all_sent notes)) refl e

pub and_parts : (a b : Bool) → (a && b) ≡ true → (a ≡ true) × (b ≡ true)
and_parts true b e = (refl, e)
and_parts false b e = cc

not_parts : (a : Bool) → not a ≡ true → a ≡ false
not_parts true e = cc
not_parts false e = refl

above_zero : (r : ℕ) → nat_lt 0 r ≡ true → 0 < r
above_zero r e = grind (arith, nat_tests)

below : (a b : ℕ) → nat_le a b ≡ true → a ≤ b
below a b e = grind (arith, nat_tests)

below_strict : (a b : ℕ) → nat_lt a b ≡ true → a < b
below_strict a b e = grind (arith, nat_tests)

pub replica_true : (y : Setting) (r : ℕ) → is_replica y r ≡ true → IsReplica y r
replica_true y r e =
    let a = and_parts (nat_lt 0 r) (nat_le r y.replicas) e in
    (omega (arith, above_zero r a.0), below r y.replicas a.1)

same_test : (a b : ℕ) → a ≡ b → (a == b) ≡ true
same_test a b e = grind (arith, nat_tests)

apart : (a b : ℕ) → (a == b) ≡ false → a ≢ b
apart a b e = λ s. let t : (a == b) ≡ true = same_test a b s in cc

pub linked_true : (y : Setting) (from to : ℕ) → are_linked y from to ≡ true → IsLinked y from to
linked_true y from to e =
    let a = and_parts (is_replica y from && is_replica y to) (not (from == to)) e in
    let b = and_parts (is_replica y from) (is_replica y to) a.0 in
    record { from_is = replica_true y from b.0; to_is = replica_true y to b.1; other = apart from to (not_parts (from == to) a.1) }

pub record ReplicaTaken (y : Setting) (notes : List Note) (r : ℕ) : Type 0 where
  pub replica : IsReplica y r
  pub few : all_sent notes ≤ MAX_SENT_FRAMES

pub replica_taken : (y : Setting) (notes : List Note) (r : ℕ) → at_replica_refusal y notes r ≡ None → ReplicaTaken y notes r
replica_taken y notes r e =
    let a = if_none (is_replica y r) step.NoSuchReplica (unless_full notes None) e in
    record { replica = replica_true y r a.0; few = not_full notes a.1 }

pub record LinkTaken (y : Setting) (notes : List Note) (from to : ℕ) (s k : Bool) : Type 0 where
  pub linked : IsLinked y from to
  pub sent : s ≡ true
  pub good : k ≡ true
  pub few : all_sent notes ≤ MAX_SENT_FRAMES

pub link_taken : (y : Setting) (notes : List Note) (from to : ℕ) (s k : Bool) → on_link_refusal y notes from to s k ≡ None → LinkTaken y notes from to s k
link_taken y notes from to s k e =
    let a = if_none (are_linked y from to) step.NoSuchReplica (cond (not s) (Some step.NoSuchFrame) (cond (not k) (Some step.BadCut) (unless_full notes None))) e in
    let b = if_none s step.NoSuchFrame (cond (not k) (Some step.BadCut) (unless_full notes None)) a.1 in
    let d = if_none k step.BadCut (unless_full notes None) b.1 in
    record { linked = linked_true y from to a.0; sent = b.0; good = d.0; few = not_full notes d.1 }

some_within : {X : Type 0} (xs : List X) (n : ℕ) (o : Option X) → slice_get xs n ≡ o → is_some o ≡ true → n < length xs
some_within xs n (Some x) e h = slice_get_within xs n x e
some_within xs n None e h = cc

pub numbered_within : (fs : List Frame) (k : ℕ) → is_some (numbered fs k) ≡ true → (1 ≤ k) × (k ≤ length fs)
numbered_within fs zero e = cc
numbered_within fs (suc n) e =
    let lt : n < length fs = some_within fs n (slice_get fs n) refl e in
    (omega arith, omega arith)

-- ---- what is on a link

addressed-few : (to : ℕ) (out : List Out) → length (addressed to out) ≤ length out
addressed-few to [] = omega arith
addressed-few to (o ∷ out) = elim (o.to == to) as (λ t. length (cond t (o.frame ∷ addressed to out) (addressed to out)) ≤ suc (length out))
    [ true ↦ omega (arith, addressed-few to out) | false ↦ omega (arith, addressed-few to out) ]

more-few : (t : Bool) (xs ys : List Frame) (a b : ℕ) → length xs ≤ a → length ys ≤ b → length (cond t (xs ++ ys) xs) ≤ a + b
more-few true xs ys a b h k = omega (arith, length-append xs ys)
more-few false xs ys a b h k = omega arith

pub on_link-few : (notes : List Note) (from to : ℕ) → length (on_link notes from to) ≤ all_sent notes
on_link-few [] from to = omega arith
on_link-few (n ∷ notes) from to =
    more-few (n.at == from) (on_link notes from to) (addressed to n.sent) (all_sent notes) (length n.sent) (on_link-few notes from to) (addressed-few to n.sent)

other_false : (a b : ℕ) → a ≢ b → (a == b) ≡ false
other_false a b h = grind (arith, nat_tests)

taken_link : (x : Rules) (y : Setting) (notes : List Note) (r from to : ℕ) (took : Intake) (t : Bool) → r ≢ from → on_link (cond t (next_note x y notes r took ∷ notes) notes) from to ≡ on_link notes from to
taken_link x y notes r from to took true h = rw (other_false r from h) refl
taken_link x y notes r from to took false h = refl

some_link : (x : Rules) (y : Setting) (notes : List Note) (r from to : ℕ) (o : Option Intake) → r ≢ from → on_link (taken_as x y notes r o) from to ≡ on_link notes from to
some_link x y notes r from to None h = refl
some_link x y notes r from to (Some took) h = taken_link x y notes r from to took (is_replica y r && may_take x y notes r took) h

-- a delivery leaves the link that it came on
pub link_stays : (x : Rules) (y : Setting) (notes : List Note) (to from k : ℕ) → to ≢ from → on_link (after_input x y notes (Deliver to from k)) from to ≡ on_link notes from to
link_stays x y notes to from k h = some_link x y notes to from to (intake_of notes (Deliver to from k)) h

slice_get-drop : {X : Type 0} (m n : ℕ) (xs : List X) → slice_get (drop m xs) n ≡ slice_get xs (m + n)
slice_get-drop zero n xs = ap (slice_get xs) (let e : n ≡ 0 + n = omega arith in e)
slice_get-drop (suc m) n [] = refl
slice_get-drop (suc m) n (x ∷ xs) = slice_get-drop m n xs ∙ ap (slice_get (x ∷ xs)) (let e : suc (m + n) ≡ suc m + n = omega arith in e)

slice_get-take : {X : Type 0} (m n : ℕ) (xs : List X) (x : X) → slice_get (take m xs) n ≡ Some x → slice_get xs n ≡ Some x
slice_get-take zero n xs x e = cc
slice_get-take (suc m) n [] x e = e
slice_get-take (suc m) zero (y ∷ xs) x e = e
slice_get-take (suc m) (suc n) (y ∷ xs) x e = slice_get-take m n xs x e

-- the frames between two numbers stand on the link by their numbers
pub numbered_between : (fs : List Frame) (first last i : ℕ) (f : Frame) → 1 ≤ first → slice_get (between first last fs) i ≡ Some f → numbered fs (first + i) ≡ Some f
numbered_between fs first last i f h e =
    let s : first + i ≡ suc ((first - 1) + i) = omega arith in
    ap (numbered fs) s ∙ (sym (slice_get-drop (first - 1) i fs) ∙ slice_get-take (last + 1 - first) i (drop (first - 1) fs) f e)

pub stream-few : Short → (fs : List Frame) → AllFit fs → length (stream fs) ≤ MAX_FRAME_BYTES * length fs
stream-few full [] fit = omega arith
stream-few full (f ∷ fs) fit =
    rw (flat_map-cons spelling f fs)
    (omega (arith, length-append (spelling f) (stream fs), (full f fit.0).1, stream-few full fs fit.1))

pub length-between : (fs : List Frame) (first last : ℕ) → 1 ≤ first → first ≤ last → last ≤ length fs → length (between first last fs) ≡ last + 1 - first
length-between fs first last a b h = omega (arith, length-take (last + 1 - first) (drop (first - 1) fs), length-drop (first - 1) fs)

pub record CutsFit (fs : List Frame) (first last : ℕ) (cuts : List ℕ) : Type 0 where
  pub order : first ≤ last
  pub few : last < first + MAX_STRETCH
  pub ascend : is_ascending 0 cuts (length (stream (between first last fs))) ≡ true

pub cuts_true : (fs : List Frame) (first last : ℕ) (cuts : List ℕ) → cuts_fit fs first last cuts ≡ true → CutsFit fs first last cuts
cuts_true fs first last cuts e =
    let a = and_parts (nat_le first last) (nat_lt last (first + MAX_STRETCH) && is_ascending 0 cuts (length (stream (between first last fs)))) e in
    let b = and_parts (nat_lt last (first + MAX_STRETCH)) (is_ascending 0 cuts (length (stream (between first last fs)))) a.1 in
    record { order = below first last a.0; few = below_strict last (first + MAX_STRETCH) b.0; ascend = b.1 }

-- ---- inputs one after another

ranged : (a n k : ℕ) → k ≡ n + 1 → range_with_len a k ≡ range_with_len a n ++ (a + n) ∷ []
ranged a zero k e = rw (let s : k ≡ suc zero = omega arith in s) (ap (λ x. x ∷ []) (let z : a ≡ a + 0 = omega arith in z))
ranged a (suc n) zero e = absurd (omega arith)
ranged a (suc n) (suc k) e =
    ap (λ r. a ∷ r) (ranged (a + 1) n k (omega arith) ∙ ap (λ x. range_with_len (a + 1) n ++ x ∷ []) (let z : a + 1 + n ≡ a + suc n = omega arith in z))

pub range-push : (a n : ℕ) → range_with_len a (n + 1) ≡ range_with_len a n ++ (a + n) ∷ []
range-push a n = ranged a n (n + 1) refl

pub fold-push : {A B : Type 0} (f : B → A → B) (b : B) (g : ℕ → A) (a n : ℕ) → fold f b (map g (range_with_len a (n + 1))) ≡ f (fold f b (map g (range_with_len a n))) (g (a + n))
fold-push f b g a n =
    ap (λ r. fold f b (map g r)) (range-push a n)
    ∙ (ap (fold f b) (map_push g (range_with_len a n) (a + n)) ∙ fold-append f b (map g (range_with_len a n)) (g (a + n) ∷ []))

pub taken-push : (o : Schema) (y : Setting) (notes : List Note) (g : ℕ → Input) (a n : ℕ) → taken o y notes (map g (range_with_len a (n + 1))) ≡ after_input (rules_of o) y (taken o y notes (map g (range_with_len a n))) (g (a + n))
unfolding taken
taken-push o y notes g a n = fold-push (after_input (rules_of o) y) notes g a n

pub taken-one : (o : Schema) (y : Setting) (notes : List Note) (i : Input) → taken o y notes (i ∷ []) ≡ after_input (rules_of o) y notes i
unfolding taken
taken-one o y notes i = refl

pub taken-none : (o : Schema) (y : Setting) (notes : List Note) → taken o y notes [] ≡ notes
unfolding taken
taken-none o y notes = refl

-- ---- the bytes of frames that are taken together

pub record Joined (fs : List Frame) (first last : ℕ) (cuts bytes : List ℕ) : Type 0 where
  pub spelled : bytes ≡ stream (between first last fs)
  pub fit : AllFit (between first last fs)
  pub few : length bytes ≤ MAX_FRAME_BYTES * MAX_STRETCH
  pub ascend : is_ascending 0 cuts (length bytes) ≡ true

pub joined : Short → (fs : List Frame) (link : List (List ℕ)) (first last : ℕ) (cuts bytes : List ℕ) → AllFit fs → link ≡ map spelling fs → 1 ≤ first → last ≤ length link →
    cuts_fit fs first last cuts ≡ true → bytes ≡ flat_map (λ (b : List ℕ). b) (take (last + 1 - first) (drop (first - 1) link)) → Joined fs first last cuts bytes
joined full fs link first last cuts bytes fit e a b ok is =
    let k = cuts_true fs first last cuts ok in
    let s : bytes ≡ stream (between first last fs) = is ∙ (ap (λ l. flat_map (λ (b : List ℕ). b) (take (last + 1 - first) (drop (first - 1) l))) e ∙ span_stream first last fs) in
    let f : AllFit (between first last fs) = each-take Fits (last + 1 - first) (drop (first - 1) fs) (each-drop Fits (first - 1) fs fit) in
    let n : length link ≡ length fs = ap length e ∙ length-map fs spelling in
    let le : last ≤ length fs = omega (arith, n) in
    let l : length (between first last fs) ≡ last + 1 - first = length-between fs first last a k.order le in
    record {
      spelled = s;
      fit = f;
      few = rw s (omega (arith, stream-few full (between first last fs) f, l, k.few, k.order));
      ascend = rw s k.ascend;
    }

-- ---- a delivery more

pub more_comes : (o o' : Schema) (p p' : Plan) → o' ≡ o → p' ≡ p → (vs vs' : List Replica) (links links' : List (List (List ℕ))) (ds ds' : List Fed) (kept mid after : List Told) (sent sent' : ℕ) (at from first i : ℕ) (f : Frame) →
    Comes o p vs links ds kept mid sent (map (Deliver at from) (range_with_len first i)) → Goes o' p' vs' links' ds' mid after sent' at (FrameComes from (first + i) f) →
    Comes o p vs' links' ds' kept after sent' (map (Deliver at from) (range_with_len first (i + 1)))
more_comes o o' p p' eo ep vs vs' links links' ds ds' kept mid after sent sent' at from first i f c g =
    let F : Schema → Type 0 = λ q. Goes q p' vs' links' ds' mid after sent' at (FrameComes from (first + i) f) in
    let G : Plan → Type 0 = λ q. Goes o q vs' links' ds' mid after sent' at (FrameComes from (first + i) f) in
    let h : Goes o p vs' links' ds' mid after sent' at (FrameComes from (first + i) f) = subst G ep (subst F eo g) in
    record {
      keeps = h.keeps;
      kept_is = h.kept_is;
      run = h.run ∙ (ap (λ n. after_input (rules_of o) (setting_of p) n (Deliver at from (first + i))) c.run
          ∙ sym (taken-push o (setting_of p) (notes_of o p kept) (Deliver at from) first i));
      count = omega (arith, h.one, c.count, length-map (range_with_len first i) (Deliver at from), length-map (range_with_len first (i + 1)) (Deliver at from), length-range_with_len first i, length-range_with_len first (i + 1));
    }

pub more_link : (o o' : Schema) (p p' : Plan) → o' ≡ o → p' ≡ p → (vs' : List Replica) (links' : List (List (List ℕ))) (ds' : List Fed) (mid after : List Told) (sent' : ℕ) (at from k : ℕ) (f : Frame) → from ≢ at →
    Goes o' p' vs' links' ds' mid after sent' at (FrameComes from k f) → on_link (notes_of o p after) from at ≡ on_link (notes_of o p mid) from at
more_link o o' p p' eo ep vs' links' ds' mid after sent' at from k f other g =
    let F : Schema → Type 0 = λ q. Goes q p' vs' links' ds' mid after sent' at (FrameComes from k f) in
    let G : Plan → Type 0 = λ q. Goes o q vs' links' ds' mid after sent' at (FrameComes from k f) in
    let h : Goes o p vs' links' ds' mid after sent' at (FrameComes from k f) = subst G ep (subst F eo g) in
    ap (λ n. on_link n from at) h.run ∙ link_stays (rules_of o) (setting_of p) (notes_of o p mid) at from k (λ e. other (sym e))

-- frames that are decoded from these bytes are those of the link
pub read_back : (fs : List Frame) (link : List (List ℕ)) (first last : ℕ) (bytes : List ℕ) (before after : List Frame) → AllFit fs → link ≡ map spelling fs →
    bytes ≡ flat_map (λ (b : List ℕ). b) (take (last + 1 - first) (drop (first - 1) link)) → before ≡ [] → ReadsAll bytes before after → after ≡ between first last fs
read_back fs link first last bytes before after fit e is none d =
    let s : bytes ≡ stream (between first last fs) = is ∙ (ap (λ l. flat_map (λ (b : List ℕ). b) (take (last + 1 - first) (drop (first - 1) l))) e ∙ span_stream first last fs) in
    let f : AllFit (between first last fs) = each-take Fits (last + 1 - first) (drop (first - 1) fs) (each-drop Fits (first - 1) fs fit) in
    d (between first last fs) f s ∙ ap (λ b. b ++ between first last fs) none

-- ---- what the calls of the frames of a link ask

pub record Sent (fs : List Frame) (first last : ℕ) (frames : List Frame) : Type 0 where
  pub few : length frames ≤ MAX_STRETCH
  pub count : length frames ≡ last + 1 - first
  pub there : (i : ℕ) (f : Frame) → slice_get frames i ≡ Some f → numbered fs (first + i) ≡ Some f

pub are_sent : (fs : List Frame) (first last : ℕ) (cuts : List ℕ) (frames : List Frame) → 1 ≤ first → last ≤ length fs → cuts_fit fs first last cuts ≡ true → frames ≡ between first last fs → Sent fs first last frames
are_sent fs first last cuts frames a b ok is =
    let k = cuts_true fs first last cuts ok in
    let l : length frames ≡ last + 1 - first = ap length is ∙ length-between fs first last a k.order b in
    record {
      few = omega (arith, l, k.few, k.order);
      count = l;
      there = λ i. λ f. λ e. numbered_between fs first last i f a (rw is at e);
    }

pub place_few : (from to : ℕ) → 1 ≤ from → from ≤ MAX_REPLICAS → 1 ≤ to → to ≤ MAX_REPLICAS → place_of_link from to < MAX_REPLICAS * MAX_REPLICAS
place_few from to a b c d = omega arith

-- another decoder that is idle
pub with_decoders : (o : Schema) (p : Plan) (vs : List Replica) (links : List (List (List ℕ))) (ds ds' : List Fed) (kept : List Told) (sent : ℕ) → Keeps o p vs links ds kept sent → AreIdle ds' → Keeps o p vs links ds' kept sent
with_decoders o p vs links ds ds' kept sent k idle = record { each = k.each; linked = k.linked; fit = k.fit; idle = idle; total = k.total }

pub idle_set : (xs : List Fed) (i : ℕ) (x : Fed) → AreIdle xs → IsIdle x → AreIdle (set xs i x)
idle_set xs i x idle h = (length-set xs i x ∙ idle.0, each-set IsIdle xs i x h idle.1)

pub idle_at : (xs : List Fed) (i : ℕ) (x : Fed) → AreIdle xs → i < length xs → x ≡ get_or xs i x → IsIdle x
idle_at xs i x idle lt is = subst IsIdle (sym is) (each-get_or IsIdle xs i x lt idle.1)

pub links_at : {X : Type 0} (xs : List X) (i : ℕ) (x y : X) → slice_get xs i ≡ Some y → x ≡ get_or xs i x → x ≡ y
links_at xs i x y e is = is ∙ get_or_from_slice_get xs i y x e

pub numbered_some : (fs : List Frame) (k : ℕ) → 1 ≤ k → k ≤ length fs → (f : Frame) × (numbered fs k ≡ Some f)
numbered_some fs zero a b = absurd (omega arith)
numbered_some [] (suc n) a b = absurd (omega arith)
numbered_some (f ∷ fs) (suc n) a b = let lt : n < length (f ∷ fs) = omega arith in (get_or (f ∷ fs) n f, slice_get-get_or (f ∷ fs) n f lt)

pub goes_comes : (o : Schema) (p : Plan) (vs : List Replica) (links : List (List (List ℕ))) (ds : List Fed) (kept kept' : List Told) (sent r from k : ℕ) (f : Frame) →
    Goes o p vs links ds kept kept' sent r (PartComes from k f) → Comes o p vs links ds kept kept' sent (Tear r from k ∷ [])
goes_comes o p vs links ds kept kept' sent r from k f h = record { keeps = h.keeps; kept_is = h.kept_is; run = h.run ∙ sym (taken-one o (setting_of p) (notes_of o p kept) (Tear r from k)); count = h.one }

le_true : (a b : ℕ) → a ≤ b → nat_le a b ≡ true
le_true a b h = grind (arith, nat_tests)

lt_true : (a b : ℕ) → a < b → nat_lt a b ≡ true
lt_true a b h = grind (arith, nat_tests)

pub one_fits : (fs : List Frame) (k : ℕ) → cuts_fit fs k k [] ≡ true
one_fits fs k = let a : k ≤ k = omega arith in let b : k < k + MAX_STRETCH = omega arith in rw (le_true k k a, lt_true k (k + MAX_STRETCH) b) refl

pub record APart (fs : List Frame) (k n : ℕ) (frame : List ℕ) : Type 0 where
  pub cut : n ≡ length (take n frame)
  pub few : length (take n frame) ≤ MAX_FRAME_BYTES * MAX_STRETCH
  pub viable : IsViable (take n frame)

pub a_part : Short → (fs : List Frame) (link : List (List ℕ)) (k n : ℕ) (frame : List ℕ) → AllFit fs → link ≡ map spelling fs → 1 ≤ k → k ≤ length link → part_fits fs k n ≡ true →
    frame ≡ flat_map (λ (b : List ℕ). b) (take (k + 1 - k) (drop (k - 1) link)) → APart fs k n frame
a_part full fs link k n frame fit e a b ok is =
    let j = joined full fs link k k [] frame fit e a b (one_fits fs k) is in
    let t = and_parts (nat_lt 0 n) (nat_lt n (length (stream (between k k fs)))) ok in
    let lt : n < length (stream (between k k fs)) = below_strict n (length (stream (between k k fs))) t.1 in
    let l : length frame ≡ length (stream (between k k fs)) = ap length j.spelled in
    record {
      cut = omega (arith, length-take n frame, lt, l);
      few = omega (arith, length-take n frame, j.few);
      viable = record { frames = between k k fs; more = drop n frame; fit = j.fit; is = take-append-drop n frame ∙ j.spelled };
    }

-- The tests of events, on spelled frames.
use Rattle.std.proofs.Common.{◌≡◌, ℕ, zero, suc, ◌+◌, ◌-◌, ◌<◌, ◌≤◌, List, [], ◌∷◌, ◌++◌, Bool, true, false, Some, None, is_some, nat_lt, nat_le, length, map, take, drop, refl, sym, ap, ◌∙◌, arith}
use Rattle.std.specs.List.{flat_map}
use Rattle.std.proofs.lemmas.List.{take-map, drop-map}
use Rattle.std.proofs.lemmas.List.Concat.{flat_map-cons}
use Rattle.std.proofs.lemmas.Option.{slice_get-get_or, slice_get_past}
use Rattle.ham_frame.specs.declared.frame.Frame.{Frame}
use Rattle.ham_turns.specs.Words.{numbered}
use Rattle.ham_frame.specs.Spelling.{spelling}
use Rattle.ham_frame.specs.Spelling.{stream}
use Rattle.ham_world.specs.Worlds.{between, are_linked, cuts_fit, part_fits}
use Rattle.ham_turns.specs.Settings.{Setting}
use Rattle.ham_runs.specs.Runs.{Note}
use Rattle.ham_world.specs.Worlds.{on_link_refusal, unless_full}
use Rattle.ham_wire.specs.Cuts.{is_ascending}
use Rattle.std.proofs.lemmas.Bool.Decides.{nat_tests}
use Rattle.ham_world.specs.declared.refusal.TheConstants.{MAX_STRETCH}
use Rattle.ham_world.specs.declared.refusal.StepRefusal.TheVariants as step

flat_map-map : {X : Type 0} (f : X → List ℕ) (xs : List X) → flat_map (λ (b : List ℕ). b) (map f xs) ≡ flat_map f xs
flat_map-map f [] = refl
flat_map-map f (x ∷ xs) = flat_map-cons (λ (b : List ℕ). b) (f x) (map f xs) ∙ (ap (λ r. f x ++ r) (flat_map-map f xs) ∙ sym (flat_map-cons f x xs))

pub span_stream : (first last : ℕ) (fs : List Frame) → flat_map (λ (b : List ℕ). b) (take (last + 1 - first) (drop (first - 1) (map spelling fs))) ≡ stream (between first last fs)
span_stream first last fs =
    ap (λ l. flat_map (λ (b : List ℕ). b) (take (last + 1 - first) l)) (drop-map spelling (first - 1) fs)
    ∙ (ap (flat_map (λ (b : List ℕ). b)) (take-map spelling (last + 1 - first) (drop (first - 1) fs)) ∙ flat_map-map spelling (between first last fs))

pub numbered_there : (fs : List Frame) (k : ℕ) → 1 ≤ k → k ≤ length fs → is_some (numbered fs k) ≡ true
numbered_there fs zero h k = absurd (omega arith)
numbered_there [] (suc n) h k = absurd (omega arith)
numbered_there (f ∷ fs) (suc n) h k =
    let lt : n < length (f ∷ fs) = omega arith in
    ap is_some (slice_get-get_or (f ∷ fs) n f lt)

pub numbered_zero : (fs : List Frame) (k : ℕ) → k < 1 → is_some (numbered fs k) ≡ false
numbered_zero fs zero h = refl
numbered_zero fs (suc n) h = absurd (omega arith)

pub numbered_past : (fs : List Frame) (k : ℕ) → length fs < k → is_some (numbered fs k) ≡ false
numbered_past fs zero h = refl
numbered_past fs (suc n) h =
    let le : length fs ≤ n = omega arith in
    ap is_some (slice_get_past fs n le)

-- ---- the first reason, by its tests

pub no_replica : (y : Setting) (notes : List Note) (from to : ℕ) (s k : Bool) → are_linked y from to ≡ false → on_link_refusal y notes from to s k ≡ Some step.NoSuchReplica
no_replica y notes from to s k a = rw a refl

pub no_frame : (y : Setting) (notes : List Note) (from to : ℕ) (s k : Bool) → are_linked y from to ≡ true → s ≡ false → on_link_refusal y notes from to s k ≡ Some step.NoSuchFrame
no_frame y notes from to s k a b = rw (a, b) refl

pub no_cut : (y : Setting) (notes : List Note) (from to : ℕ) (s k : Bool) → are_linked y from to ≡ true → s ≡ true → k ≡ false → on_link_refusal y notes from to s k ≡ Some step.BadCut
no_cut y notes from to s k a b d = rw (a, b, d) refl

pub fullness : (y : Setting) (notes : List Note) (from to : ℕ) (s k : Bool) → are_linked y from to ≡ true → s ≡ true → k ≡ true → on_link_refusal y notes from to s k ≡ unless_full notes None
fullness y notes from to s k a b d = rw (a, b, d) refl

le_test : (a b : ℕ) → a ≤ b → nat_le a b ≡ true
le_test a b h = grind (arith, nat_tests)

lt_test : (a b : ℕ) → a < b → nat_lt a b ≡ true
lt_test a b h = grind (arith, nat_tests)

pub cuts_fit_when : (fs : List Frame) (first last : ℕ) (cuts : List ℕ) → first ≤ last → last < first + MAX_STRETCH → (bytes : List ℕ) (link : List (List ℕ)) → link ≡ map spelling fs →
    bytes ≡ flat_map (λ (b : List ℕ). b) (take (last + 1 - first) (drop (first - 1) link)) → (answer : Bool) → answer ≡ is_ascending 0 cuts (length bytes) → answer ≡ cuts_fit fs first last cuts
cuts_fit_when fs first last cuts a b bytes link e is answer h =
    let s : bytes ≡ stream (between first last fs) = is ∙ (ap (λ l. flat_map (λ (b : List ℕ). b) (take (last + 1 - first) (drop (first - 1) l))) e ∙ span_stream first last fs) in
    h ∙ (ap (λ x. is_ascending 0 cuts (length x)) s ∙ rw (le_test first last a, lt_test last (first + MAX_STRETCH) b) refl)

pub part_fits_when : (fs : List Frame) (k n : ℕ) → 0 < n → (bytes : List ℕ) (link : List (List ℕ)) → link ≡ map spelling fs →
    bytes ≡ flat_map (λ (b : List ℕ). b) (take (k + 1 - k) (drop (k - 1) link)) → nat_lt n (length bytes) ≡ part_fits fs k n
part_fits_when fs k n a bytes link e is =
    let s : bytes ≡ stream (between k k fs) = is ∙ (ap (λ l. flat_map (λ (b : List ℕ). b) (take (k + 1 - k) (drop (k - 1) l))) e ∙ span_stream k k fs) in
    let p : nat_lt 0 n ≡ true = grind (arith, nat_tests) in
    ap (λ x. nat_lt n (length x)) s ∙ rw p refl

-- A frame more on a link.
use Rattle.std.proofs.Common.{◌≡◌, ◌≢◌, ℕ, zero, suc, ◌+◌, ◌*◌, ◌<◌, ◌≤◌, List, [], ◌∷◌, ◌++◌, Bool, true, false, cond, Some, length, map, set, get_or, refl, sym, ap, ◌∙◌, arith, subst, ◌⊎◌, inl, inr, ◌==◌}
use Rattle.std.specs.Prelude.{slice_get}
use Rattle.std.specs.List.{AllByRecursion}
use Rattle.std.proofs.lemmas.Bool.{cases_eq}
use Rattle.std.proofs.lemmas.Bool.Decides.{nat_tests}
use Rattle.std.proofs.lemmas.List.{map_push, map-append, append-nil, append_assoc, length-set, get_or-set_same}
use Rattle.std.proofs.lemmas.Option.{slice_get-get_or, slice_get_within, slice_get_read, same_Some}
use Rattle.ham_syntax.specs.declared.limits.TheConstants.{MAX_REPLICAS}
use Rattle.ham_frame.specs.declared.frame.Frame.{Frame}
use Rattle.ham_turns.specs.declared.turn.Out.{Out}
use Rattle.ham_turns.specs.Sends.{peers}
use Rattle.ham_runs.specs.Runs.{addressed}
use Rattle.ham_world.proofs.Each.{each-parts}
use Rattle.ham_frame.specs.Spelling.{spelling}
use Rattle.ham_world.specs.Sending.{AreLinks, sent_more, Sends, place_of_link, copy_to, copies, first_but}

pub slice_get-set_same : {X : Type 0} (xs : List X) (i : ℕ) (x : X) → i < length xs → slice_get (set xs i x) i ≡ Some x
slice_get-set_same xs i x h =
    let l : i < length (set xs i x) = rw (length-set xs i x) h in
    slice_get-get_or (set xs i x) i x l ∙ ap Some (get_or-set_same xs i x x h)

pub slice_get-set_other : {X : Type 0} (xs : List X) (i j : ℕ) (x : X) → j ≢ i → slice_get (set xs i x) j ≡ slice_get xs j
slice_get-set_other [] i j x h = refl
slice_get-set_other (y ∷ xs) zero zero x h = absurd (h refl)
slice_get-set_other (y ∷ xs) zero (suc j) x h = refl
slice_get-set_other (y ∷ xs) (suc i) zero x h = refl
slice_get-set_other (y ∷ xs) (suc i) (suc j) x h = slice_get-set_other xs i j x (λ e. h (ap (λ n. suc n) e))

same_test : (a b : ℕ) → a ≡ b → (a == b) ≡ true
same_test a b e = grind (arith, nat_tests)

other_test : (a b : ℕ) → (a ≡ b → ⊥) → (a == b) ≡ false
other_test a b e = grind (arith, nat_tests)

-- what is sent on a link, by its tests
sent_same : (me from to : ℕ) (o : Out) (sent : ℕ → ℕ → List Frame) → (me == from) ≡ true → (o.to == to) ≡ true → sent_more me (o ∷ []) sent from to ≡ sent from to ++ o.frame ∷ []
sent_same me from to o sent a b = rw (a, b) refl

sent_elsewhere : (me from to : ℕ) (o : Out) (sent : ℕ → ℕ → List Frame) → (me == from) ≡ true → (o.to == to) ≡ false → sent_more me (o ∷ []) sent from to ≡ sent from to
sent_elsewhere me from to o sent a b = rw (a, b) (append-nil (sent from to))

sent_by_other : (me from to : ℕ) (out : List Out) (sent : ℕ → ℕ → List Frame) → (me == from) ≡ false → sent_more me out sent from to ≡ sent from to
sent_by_other me from to out sent a = rw a refl

places_apart : (from to me q : ℕ) → 1 ≤ from → from ≤ MAX_REPLICAS → 1 ≤ to → to ≤ MAX_REPLICAS → 1 ≤ me → me ≤ MAX_REPLICAS → 1 ≤ q → q ≤ MAX_REPLICAS → place_of_link from to ≡ place_of_link me q → (from ≡ me) × (to ≡ q)
places_apart from to me q a b c d e f h k is = (omega arith, omega arith)

one_more : (links : List (List (List ℕ))) (sent : ℕ → ℕ → List Frame) (me : ℕ) (o : Out) (l : List (List ℕ)) → AreLinks links sent →
    1 ≤ me → me ≤ MAX_REPLICAS → 1 ≤ o.to → o.to ≤ MAX_REPLICAS → slice_get links (place_of_link me o.to) ≡ Some l →
    (from to : ℕ) → 1 ≤ from → from ≤ MAX_REPLICAS → 1 ≤ to → to ≤ MAX_REPLICAS → (from ≡ me) ⊎ (from ≡ me → ⊥) → (to ≡ o.to) ⊎ (to ≡ o.to → ⊥) →
    slice_get (set links (place_of_link me o.to) (l ++ spelling o.frame ∷ [])) (place_of_link from to) ≡ Some (map spelling (sent_more me (o ∷ []) sent from to))
one_more links sent me o l are a b c d at from to s t u v (inl e) (inl f) =
    let is : l ≡ map spelling (sent from to) = same_Some l (map spelling (sent from to)) (sym at ∙ (ap (slice_get links) (let x : place_of_link me o.to ≡ place_of_link from to = rw (e, f) refl in x) ∙ are from to s t u v)) in
    let p : place_of_link from to ≡ place_of_link me o.to = rw (e, f) refl in
    rw (p, sent_same me from to o sent (same_test me from (sym e)) (same_test o.to to (sym f)), map_push spelling (sent from to) o.frame, ← is)
    (slice_get-set_same links (place_of_link me o.to) (l ++ spelling o.frame ∷ []) (slice_get_within links (place_of_link me o.to) l at))
one_more links sent me o l are a b c d at from to s t u v (inl e) (inr f) =
    rw (sent_elsewhere me from to o sent (same_test me from (sym e)) (other_test o.to to (λ x. f (sym x))))
    (slice_get-set_other links (place_of_link me o.to) (place_of_link from to) (l ++ spelling o.frame ∷ []) (λ x. f (places_apart from to me o.to s t u v a b c d x).1) ∙ are from to s t u v)
one_more links sent me o l are a b c d at from to s t u v (inr e) f =
    rw (sent_by_other me from to (o ∷ []) sent (other_test me from (λ x. e (sym x))))
    (slice_get-set_other links (place_of_link me o.to) (place_of_link from to) (l ++ spelling o.frame ∷ []) (λ x. e (places_apart from to me o.to s t u v a b c d x).0) ∙ are from to s t u v)

pub links_one : (links : List (List (List ℕ))) (sent : ℕ → ℕ → List Frame) (me : ℕ) (o : Out) (l : List (List ℕ)) → AreLinks links sent →
    1 ≤ me → me ≤ MAX_REPLICAS → 1 ≤ o.to → o.to ≤ MAX_REPLICAS → slice_get links (place_of_link me o.to) ≡ Some l →
    AreLinks (set links (place_of_link me o.to) (l ++ spelling o.frame ∷ [])) (sent_more me (o ∷ []) sent)
links_one links sent me o l are a b c d at from to s t u v = one_more links sent me o l are a b c d at from to s t u v (cases_eq from me) (cases_eq to o.to)

addressed-append : (to : ℕ) (a b : List Out) → addressed to (a ++ b) ≡ addressed to a ++ addressed to b
addressed-append to [] b = refl
addressed-append to (o ∷ a) b = elim (o.to == to) as (λ t. cond t (o.frame ∷ addressed to (a ++ b)) (addressed to (a ++ b)) ≡ cond t (o.frame ∷ addressed to a) (addressed to a) ++ addressed to b)
    [ true ↦ ap (λ x. o.frame ∷ x) (addressed-append to a b) | false ↦ addressed-append to a b ]

more_twice : (t : Bool) (sent a b ab : List Frame) → ab ≡ a ++ b → cond t (cond t (sent ++ a) sent ++ b) (cond t (sent ++ a) sent) ≡ cond t (sent ++ ab) sent
more_twice true sent a b ab e = append_assoc sent a b ∙ ap (λ x. sent ++ x) (sym e)
more_twice false sent a b ab e = refl

pub links_twice : (links : List (List (List ℕ))) (sent : ℕ → ℕ → List Frame) (me : ℕ) (a b ab : List Out) → ab ≡ a ++ b → AreLinks links (sent_more me b (sent_more me a sent)) → AreLinks links (sent_more me ab sent)
links_twice links sent me a b ab e are from to s t u v =
    are from to s t u v
    ∙ ap (λ fs. Some (map spelling fs)) (more_twice (me == from) (sent from to) (addressed to a) (addressed to b) (addressed to ab) (ap (addressed to) e ∙ addressed-append to a b))

pub links_none : (links : List (List (List ℕ))) (sent : ℕ → ℕ → List Frame) (me : ℕ) → AreLinks links sent → AreLinks links (sent_more me [] sent)
links_none links sent me are from to s t u v = are from to s t u v ∙ ap (λ fs. Some (map spelling fs)) (elim (me == from) as (λ b. sent from to ≡ cond b (sent from to ++ []) (sent from to)) [ true ↦ sym (append-nil (sent from to)) | false ↦ refl ])

pub sends_twice : (old mid new : List (List (List ℕ))) (me : ℕ) (a b ab : List Out) → ab ≡ a ++ b → Sends old mid me a → Sends mid new me b → Sends old new me ab
sends_twice old mid new me a b ab e s t sent are = links_twice new sent me a b ab e (t (sent_more me a sent) (s sent are))

pub sends_none : (links : List (List (List ℕ))) (me : ℕ) → Sends links links me []
sends_none links me sent are = links_none links sent me are

-- ---- one frame put on its link

pub sends_one : (links : List (List (List ℕ))) (me i : ℕ) (o : Out) (l l' : List (List ℕ)) → i ≡ place_of_link me o.to → (1 ≤ me) × (me ≤ MAX_REPLICAS) → 1 ≤ o.to → o.to ≤ MAX_REPLICAS →
    MAX_REPLICAS * MAX_REPLICAS ≤ length links → l ≡ get_or links i l → l' ≡ l ++ spelling o.frame ∷ [] → Sends links (set links i l') me (o ∷ [])
sends_one links me i o l l' e m a b many is more sent are =
    let within : place_of_link me o.to < length links = omega (arith, m.0, m.1) in
    let at : slice_get links (place_of_link me o.to) ≡ Some l = slice_get_read links (length links) (place_of_link me o.to) l refl within (rw e at is) in
    rw (e, more) (links_one links sent me o l are m.0 m.1 a b at)

copy_is : (by q : ℕ) (f : Frame) (t : Bool) → (q == by) ≡ t → t ≡ false → copy_to by f q ≡ record { to = q; frame = f } ∷ []
copy_is by q f true e h = cc
copy_is by q f false e h = rw e refl

pub sends_to : (links : List (List (List ℕ))) (me i by q : ℕ) (f : Frame) (l l' : List (List ℕ)) (bytes : List ℕ) → i ≡ place_of_link me q → (1 ≤ me) × (me ≤ MAX_REPLICAS) → 1 ≤ q → q ≤ MAX_REPLICAS → q ≢ by →
    MAX_REPLICAS * MAX_REPLICAS ≤ length links → l ≡ get_or links i l → l' ≡ l ++ bytes ∷ [] → bytes ≡ spelling f → Sends links (set links i l') me (copy_to by f q)
sends_to links me i by q f l l' bytes e m a b other many is more spelled =
    let F : List Out → Type 0 = λ outs. Sends links (set links i l') me outs in
    subst F (sym (copy_is by q f (q == by) refl (other_test q by other)))
    (sends_one links me i (record { to = q; frame = f }) l l' e m a b many is (more ∙ ap (λ (x : List ℕ). l ++ x ∷ []) spelled))

-- ---- a frame to each of the others

pub copies-more : (by n : ℕ) (f : Frame) → copies by f (n + 1) ≡ copies by f n ++ copy_to by f (n + 1)
copies-more by n f =
    let s : n + 1 ≡ suc n = omega arith in
    rw s (map-append (λ (q : ℕ). record { to = q; frame = f }) (peers by n) (cond (suc n == by) [] (suc n ∷ [])))

pub peer_within : (P : Out → Type 0) (f : Frame) (by n q : ℕ) → AllByRecursion P (copies by f n) → 1 ≤ q → q ≤ n → q ≢ by → P (record { to = q; frame = f })
peer_within P f by zero q all a b other = absurd (omega arith)
peer_within P f by (suc n) q all a b other =
    let s : suc n ≡ n + 1 = omega arith in
    let F : List Out → Type 0 = λ outs. AllByRecursion P outs in
    let parts = each-parts P (copies by f n) (copy_to by f (suc n)) (subst F (map-append (λ (k : ℕ). record { to = k; frame = f }) (peers by n) (cond (suc n == by) [] (suc n ∷ []))) all) in
    elim (cases_eq q (suc n)) [
      | inl e ↦ (let G : ℕ → Type 0 = λ k. P (record { to = k; frame = f }) in
          let H : List Out → Type 0 = λ outs. AllByRecursion P outs in
          let here : AllByRecursion P (record { to = suc n; frame = f } ∷ []) = subst H (copy_is by (suc n) f (suc n == by) refl (other_test (suc n) by (λ x. other (e ∙ x)))) parts.1 in
          subst G (sym e) here.0)
      | inr d ↦ peer_within P f by n q parts.0 a (omega (arith, d)) other
    ]

first_or : (by : ℕ) (t : Bool) → (by == 1) ≡ t → (1 ≤ cond t 2 1) × (cond t 2 1 ≢ by)
first_or by true e = (omega arith, λ s. let u : by ≡ 1 = grind (arith, nat_tests) in absurd (omega arith))
first_or by false e = (omega arith, λ s. let u : (by == 1) ≡ true = same_test by 1 (sym s) in cc)

pub first_peer_is : (by : ℕ) → (1 ≤ first_but by) × (first_but by ≢ by)
first_peer_is by = first_or by (by == 1) refl

-- there is no peer where the first that may be one is not there
no_peers : (by n : ℕ) (t : Bool) → (by == 1) ≡ t → n < cond t 2 1 → peers by n ≡ []
no_peers by zero t e h = refl
no_peers by (suc zero) true e h =
    let u : by ≡ 1 = grind (arith, nat_tests) in
    rw (same_test 1 by (sym u)) refl
no_peers by (suc zero) false e h = absurd (omega arith)
no_peers by (suc (suc n)) true e h = absurd (omega arith)
no_peers by (suc (suc n)) false e h = absurd (omega arith)

pub no_copies : (by n : ℕ) (f : Frame) → n < first_but by → copies by f n ≡ []
no_copies by n f h = ap (map (λ (q : ℕ). record { to = q; frame = f })) (no_peers by n (by == 1) refl h)

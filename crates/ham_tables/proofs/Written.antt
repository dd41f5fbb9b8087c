-- Texts that are written piece by piece, one for each number below another.
use Rattle.std.proofs.Common.{◌≡◌, ℕ, ◌+◌, Bool, true, false, if◌then◌else◌, List, [], ◌∷◌, ◌++◌, map, sym, ap, ◌∙◌, append_assoc, arith}
use Rattle.std.specs.List.{flat_map, range_with_len}
use Rattle.std.proofs.lemmas.List.{append-nil}
use Rattle.std.proofs.lemmas.List.Concat.{flat_map-append}
use Rattle.std.proofs.lemmas.List.FromFn.{map-range_with_len_more}
use Rattle.ham_rules.specs.Claims.{lists_below}
use Rattle.ham_text.specs.Written.{joined, line_text}
use Rattle.ham_text.proofs.Wording.{joined_more}
use Rattle.std.specs.Prelude.{codes}
use Rattle.std.specs.Fmt.{decimal}
use Rattle.ham_syntax.specs.Objects.{Schema}
use Rattle.ham_plan.specs.Plans.{Plan}
use Rattle.ham_tables.specs.TablesText.{conflict_lines, depend_lines, group_lines, group_lanes, free_lanes, tables_text}
use Rattle.ham_plan.proofs.Ranges.{range_more}

flat_map-one : {A B : Type 0} (g : A → List B) (x : A) → flat_map g (x ∷ []) ≡ g x
flat_map-one g x = append-nil (g x)

lists_more : {A : Type 0} (f : ℕ → List A) (n : ℕ) → lists_below (n + 1) f ≡ lists_below n f ++ f n
lists_more {A} f n =
    ap (flat_map f) (range_more 0 n) ∙ (flat_map-append f (range_with_len 0 n) ((0 + n) ∷ []) ∙ ap (λ (last : List A). lists_below n f ++ last) (flat_map-one f (0 + n) ∙ ap f (zero_plus n)))
  where
    zero_plus : (n : ℕ) → 0 + n ≡ n
    zero_plus n = omega arith

-- what is written after some text: a piece for each item of the lists below n
abbrev pub IsWritten : {A : Type 0} → (A → List ℕ) → (ℕ → List A) → ℕ → List ℕ → List ℕ → Type 0
IsWritten g f n old now = now ≡ old ++ flat_map g (lists_below n f)

pub written-none : {A : Type 0} (g : A → List ℕ) (f : ℕ → List A) (old : List ℕ) → IsWritten g f 0 old old
written-none g f old = sym (append-nil old)

pub written-more : {A : Type 0} (g : A → List ℕ) (f : ℕ → List A) (n : ℕ) (old now new : List ℕ) → IsWritten g f n old now → new ≡ now ++ flat_map g (f n) → IsWritten g f (n + 1) old new
written-more g f n old now new is e =
    e ∙ (ap (λ (front : List ℕ). front ++ flat_map g (f n)) is
    ∙ (append_assoc old (flat_map g (lists_below n f)) (flat_map g (f n))
    ∙ ap (λ (rest : List ℕ). old ++ rest) (sym (ap (flat_map g) (lists_more f n) ∙ flat_map-append g (lists_below n f) (f n)))))

-- a list of one item, where a test holds, and else of none
pub written-one : {A : Type 0} (g : A → List ℕ) (x : A) (test : Bool) (now new : List ℕ) → test ≡ true → new ≡ now ++ g x → new ≡ now ++ flat_map g (if test then x ∷ [] else [])
written-one g x test now new here e = rw here (e ∙ ap (λ (rest : List ℕ). now ++ rest) (sym (flat_map-one g x)))

pub written-no : {A : Type 0} (g : A → List ℕ) (x : A) (test : Bool) (now : List ℕ) → test ≡ false → now ≡ now ++ flat_map g (if test then x ∷ [] else [])
written-no g x test now here = rw here (sym (append-nil now))

-- one item for each number from a on
abbrev pub IsEach : {A : Type 0} → (A → List ℕ) → (ℕ → A) → ℕ → ℕ → List ℕ → List ℕ → Type 0
IsEach g f a n old now = now ≡ old ++ flat_map g (map f (range_with_len a n))

pub each-none : {A : Type 0} (g : A → List ℕ) (f : ℕ → A) (a : ℕ) (old : List ℕ) → IsEach g f a 0 old old
each-none g f a old = sym (append-nil old)

pub each-more : {A : Type 0} (g : A → List ℕ) (f : ℕ → A) (a n k : ℕ) (old now new : List ℕ) → a + n ≡ k → IsEach g f a n old now → new ≡ now ++ g (f k) → IsEach g f a (n + 1) old new
each-more g f a n k old now new same is e =
    e ∙ (ap (λ (front : List ℕ). front ++ g (f k)) is
    ∙ (append_assoc old (flat_map g (map f (range_with_len a n))) (g (f k))
    ∙ ap (λ (rest : List ℕ). old ++ rest)
    (sym (ap (flat_map g) (map-range_with_len_more f a n k same)
    ∙ (flat_map-append g (map f (range_with_len a n)) (f k ∷ []) ∙ ap (λ (last : List ℕ). flat_map g (map f (range_with_len a n)) ++ last) (flat_map-one g (f k)))))))

-- ---- words joined by a byte
pub two_numbers : (text first one second other : List ℕ) → (((text ++ first) ++ 32 ∷ one) ++ 32 ∷ second) ++ 32 ∷ other ≡ text ++ joined (first ∷ one ∷ second ∷ other ∷ [])
two_numbers text first one second other = simp append_assoc

-- a line of some words and then of names
pub line-of_names : (x : List ℕ) (xs names : List (List ℕ)) (old front now new : List ℕ) → front ≡ old ++ joined (x ∷ xs) → now ≡ front ++ flat_map (λ (name : List ℕ). 32 ∷ name) names → new ≡ now ++ 10 ∷ [] → new ≡ old ++ line_text ((x ∷ xs) ++ names)
line-of_names x xs names old front now new e f g =
    let names_text = flat_map (λ (name : List ℕ). 32 ∷ name) names in
    g ∙ (ap (λ (t : List ℕ). t ++ 10 ∷ []) (f ∙ (ap (λ (t : List ℕ). t ++ names_text) e ∙ (append_assoc old (joined (x ∷ xs)) names_text ∙ ap (λ (t : List ℕ). old ++ t) (joined_more x xs names))))
    ∙ append_assoc old (joined ((x ∷ xs) ++ names)) (10 ∷ []))

-- ---- lines after lines
abbrev pub Wrote : List (List (List ℕ)) → List ℕ → List ℕ → Type 0
Wrote lines old new = new ≡ old ++ flat_map line_text lines

pub wrote-one : (words : List (List ℕ)) (old new : List ℕ) → new ≡ old ++ line_text words → Wrote (words ∷ []) old new
wrote-one words old new e = e ∙ ap (λ (t : List ℕ). old ++ t) (sym (append-nil (line_text words)))

pub wrote-then : (xs ys : List (List (List ℕ))) (old now new : List ℕ) → Wrote xs old now → Wrote ys now new → Wrote (xs ++ ys) old new
wrote-then xs ys old now new e f =
    f ∙ (ap (λ (t : List ℕ). t ++ flat_map line_text ys) e
    ∙ (append_assoc old (flat_map line_text xs) (flat_map line_text ys) ∙ ap (λ (t : List ℕ). old ++ t) (sym (flat_map-append line_text xs ys))))

-- ---- the tables, section after section
pub tables_are : (o : Schema) (p : Plan) (t0 t1 t2 t3 t4 t5 t6 t7 t8 : List ℕ) → t0 ≡ []
    → t1 ≡ t0 ++ line_text (codes "methods" ∷ decimal p.methods ∷ []) → t2 ≡ t1 ++ line_text (codes "replicas" ∷ decimal p.replicas ∷ [])
    → Wrote (conflict_lines o p) t2 t3 → Wrote (depend_lines o p) t3 t4 → Wrote (group_lines o p) t4 t5 → Wrote (group_lanes p) t5 t6 → Wrote (free_lanes o p) t6 t7
    → t8 ≡ t7 ++ line_text (codes "end" ∷ []) → t8 ≡ tables_text o p
unfolding tables_text
tables_are o p t0 t1 t2 t3 t4 t5 t6 t7 t8 e0 e1 e2 e3 e4 e5 e6 e7 e8 =
    let last = codes "end" ∷ [] in
    let l7 = wrote-then (free_lanes o p) (last ∷ []) t6 t7 t8 e7 (wrote-one last t7 t8 e8) in
    let l6 = wrote-then (group_lanes p) (free_lanes o p ++ last ∷ []) t5 t6 t8 e6 l7 in
    let l5 = wrote-then (group_lines o p) (group_lanes p ++ (free_lanes o p ++ last ∷ [])) t4 t5 t8 e5 l6 in
    let l4 = wrote-then (depend_lines o p) (group_lines o p ++ (group_lanes p ++ (free_lanes o p ++ last ∷ []))) t3 t4 t8 e4 l5 in
    let l3 = wrote-then (conflict_lines o p) (depend_lines o p ++ (group_lines o p ++ (group_lanes p ++ (free_lanes o p ++ last ∷ [])))) t2 t3 t8 e3 l4 in
    let replicas = codes "replicas" ∷ decimal p.replicas ∷ [] in
    let rest = conflict_lines o p ++ (depend_lines o p ++ (group_lines o p ++ (group_lanes p ++ (free_lanes o p ++ last ∷ [])))) in
    let l2 = wrote-then (replicas ∷ []) rest t1 t2 t8 (wrote-one replicas t1 t2 e2) l3 in
    let methods = codes "methods" ∷ decimal p.methods ∷ [] in
    let l1 : Wrote ((methods ∷ []) ++ ((replicas ∷ []) ++ rest)) t0 t8 = wrote-then (methods ∷ []) ((replicas ∷ []) ++ rest) t0 t1 t8 (wrote-one methods t0 t1 e1) l2 in
    l1 ∙ ap (λ (front : List ℕ). front ++ flat_map line_text ((methods ∷ []) ++ ((replicas ∷ []) ++ rest))) e0

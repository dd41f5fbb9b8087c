-- Words and what they stand for, both ways.
use Rattle.std.proofs.Common.{◌≡◌, ◌==◌, ℕ, suc, ◌+◌, ◌-◌, ◌^◌, ◌<◌, ◌≤◌, Bool, true, false, ◌&&◌, nat_lt, nat_le, List, [], ◌∷◌, get_or, Option, Some, None, refl, ap, ◌∙◌, subst, inl, inr, arith, lt-ltb}
use Rattle.std.specs.Prelude.{IsTrue, IfSome, ℤ, pos, negsuc, codes}
use Rattle.std.specs.Fmt.{decimal, signed_decimal}
use Rattle.std.proofs.lemmas.Bool.{ltb-true, leb-true, eqb-true, cases_lt, and_parts}
use Rattle.std.proofs.lemmas.Bool.Decides.{nat_tests}
use Rattle.std.proofs.lemmas.Fmt.{decimal_digit, first_decimal}
use Rattle.std.proofs.lemmas.Option.{same_Some}
use Rattle.ham_text.specs.Words.{is_text}
use Rattle.ham_text.specs.Numbers.{is_numeral, value_after, number_of, ◌>>=◌}
use Rattle.ham_text.proofs.Numerals.{spelled, complete}
use Rattle.ham_text.proofs.Choices.{either, branch, only, steps, mapped, text_is, pick_spelled}
use Rattle.ham_syntax.specs.declared.object.Kind.{Kind}
use Rattle.ham_syntax.specs.declared.object.Kind.TheVariants.{Id, Amount}
use Rattle.ham_check.specs.declared.raw.Verb.{Verb}
use Rattle.ham_check.specs.declared.raw.Verb.TheVariants.{Present, Absent, AtLeast, AtMost, Insert, Delete, Add, Subtract}
use Rattle.ham_check.specs.declared.raw.RawTerm.{RawTerm}
use Rattle.ham_check.specs.declared.raw.RawTerm.TheVariants.{Any, Constant, Named}
use Rattle.ham_syntax.specs.Names.{is_name}
use Rattle.ham_plain.specs.declared.keyword.Keyword.{Keyword}
use Rattle.ham_plain.specs.declared.keyword.Keyword.TheVariants as keywords
use Rattle.ham_syntax.specs.Typed.{IsLimit}
use Rattle.ham_plain.specs.Plain.{keyed_word, kind_word, verb_word, term_word, IsProperTerm}
use Rattle.ham_forms.specs.declared.words.InvariantKind.{InvariantKind}
use Rattle.ham_forms.specs.declared.words.InvariantKind.TheVariants as kinds
use Rattle.ham_forms.specs.Words.{keyed_of, kind_of, verb_of, invariant_kind_of, name_of, constant_of, term_of, positive_of, negative_of, limit_of}
use Rattle.ham_plain.specs.Reading.{keyword_of}

abbrev pub keyword_word : Keyword → List ℕ
keyword_word keywords.Hamsaz = codes "hamsaz"
keyword_word keywords.Relation = codes "relation"
keyword_word keywords.Counter = codes "counter"
keyword_word keywords.Invariant = codes "invariant"
keyword_word keywords.Method = codes "method"
keyword_word keywords.Param = codes "param"
keyword_word keywords.Guard = codes "guard"
keyword_word keywords.Effect = codes "effect"
keyword_word keywords.End = codes "end"

nothing : {A P : Type 0} (x : A) → None ≡ Some x → P
nothing x e = absurd cc

pub keyword_spelled : (w : List ℕ) (k : Keyword) → keyword_of w ≡ Some k → w ≡ keyword_word k
unfolding keyword_of
keyword_spelled w k e =
    pick_spelled keyword_word w (codes "hamsaz") keywords.Hamsaz k _ refl
    (pick_spelled keyword_word w (codes "relation") keywords.Relation k _ refl
    (pick_spelled keyword_word w (codes "counter") keywords.Counter k _ refl
    (pick_spelled keyword_word w (codes "invariant") keywords.Invariant k _ refl
    (pick_spelled keyword_word w (codes "method") keywords.Method k _ refl
    (pick_spelled keyword_word w (codes "param") keywords.Param k _ refl
    (pick_spelled keyword_word w (codes "guard") keywords.Guard k _ refl
    (pick_spelled keyword_word w (codes "effect") keywords.Effect k _ refl
    (pick_spelled keyword_word w (codes "end") keywords.End k None refl (nothing k))))))))) e

pub keyword_back : (k : Keyword) → keyword_of (keyword_word k) ≡ Some k
unfolding keyword_of
keyword_back keywords.Hamsaz = refl
keyword_back keywords.Relation = refl
keyword_back keywords.Counter = refl
keyword_back keywords.Invariant = refl
keyword_back keywords.Method = refl
keyword_back keywords.Param = refl
keyword_back keywords.Guard = refl
keyword_back keywords.Effect = refl
keyword_back keywords.End = refl

pub keyed_spelled : (w : List ℕ) (k : Bool) → keyed_of w ≡ Some k → w ≡ keyed_word k
unfolding keyed_of
keyed_spelled w k e = pick_spelled keyed_word w (codes "plain") false k _ refl (pick_spelled keyed_word w (codes "keyed") true k None refl (nothing k)) e

pub keyed_back : (k : Bool) → keyed_of (keyed_word k) ≡ Some k
unfolding keyed_of
keyed_back true = refl
keyed_back false = refl

pub kind_spelled : (w : List ℕ) (k : Kind) → kind_of w ≡ Some k → w ≡ kind_word k
unfolding kind_of
kind_spelled w k e = pick_spelled kind_word w (codes "id") Id k _ refl (pick_spelled kind_word w (codes "amount") Amount k None refl (nothing k)) e

pub kind_back : (k : Kind) → kind_of (kind_word k) ≡ Some k
unfolding kind_of
kind_back Id = refl
kind_back Amount = refl

pub verb_spelled : (w : List ℕ) (v : Verb) → verb_of w ≡ Some v → w ≡ verb_word v
unfolding verb_of
verb_spelled w v e =
    pick_spelled verb_word w (codes "present") Present v _ refl
    (pick_spelled verb_word w (codes "absent") Absent v _ refl
    (pick_spelled verb_word w (codes "atleast") AtLeast v _ refl
    (pick_spelled verb_word w (codes "atmost") AtMost v _ refl
    (pick_spelled verb_word w (codes "insert") Insert v _ refl
    (pick_spelled verb_word w (codes "delete") Delete v _ refl
    (pick_spelled verb_word w (codes "add") Add v _ refl
    (pick_spelled verb_word w (codes "subtract") Subtract v None refl (nothing v)))))))) e

pub verb_back : (v : Verb) → verb_of (verb_word v) ≡ Some v
unfolding verb_of
verb_back Present = refl
verb_back Absent = refl
verb_back Insert = refl
verb_back Delete = refl
verb_back AtLeast = refl
verb_back AtMost = refl
verb_back Add = refl
verb_back Subtract = refl

abbrev pub invariant_kind_word : InvariantKind → List ℕ
invariant_kind_word kinds.Reference = codes "reference"
invariant_kind_word kinds.Unique = codes "unique"
invariant_kind_word kinds.Low = codes "low"
invariant_kind_word kinds.High = codes "high"

pub invariant_kind_spelled : (w : List ℕ) (r : InvariantKind) → invariant_kind_of w ≡ Some r → w ≡ invariant_kind_word r
unfolding invariant_kind_of
invariant_kind_spelled w r e =
    pick_spelled invariant_kind_word w (codes "reference") kinds.Reference r _ refl
    (pick_spelled invariant_kind_word w (codes "unique") kinds.Unique r _ refl
    (pick_spelled invariant_kind_word w (codes "low") kinds.Low r _ refl
    (pick_spelled invariant_kind_word w (codes "high") kinds.High r None refl (nothing r)))) e

pub invariant_kind_back : (r : InvariantKind) → invariant_kind_of (invariant_kind_word r) ≡ Some r
unfolding invariant_kind_of
invariant_kind_back kinds.Reference = refl
invariant_kind_back kinds.Unique = refl
invariant_kind_back kinds.Low = refl
invariant_kind_back kinds.High = refl

pub name_spelled : (w n : List ℕ) → name_of w ≡ Some n → (w ≡ n) × IsTrue (is_name n)
name_spelled w n e =
    let p = only (is_name w) (Some w) n e in
    let same : w ≡ n = same_Some w n p.1 in
    (same, subst (λ (t : List ℕ). IsTrue (is_name t)) same p.0)

pub name_back : (n : List ℕ) → IsTrue (is_name n) → name_of n ≡ Some n
name_back n h = rw h refl

-- ---- numbers

pub number_spelled : (w : List ℕ) (n : ℕ) → number_of w ≡ Some n → (w ≡ decimal n) × (n < 2 ^ 64)
unfolding number_of
number_spelled w n e =
    let p = only (is_numeral w && nat_lt (value_after 0 w) (2 ^ 64)) (Some (value_after 0 w)) n e in
    let same : value_after 0 w ≡ n = same_Some (value_after 0 w) n p.1 in
    let word = subst (λ (o : Option ℕ). IfSome o (λ m. w ≡ decimal m)) e (spelled w) in
    let small : value_after 0 w < 2 ^ 64 = ltb-true (value_after 0 w) (2 ^ 64) (and_parts (is_numeral w) (nat_lt (value_after 0 w) (2 ^ 64)) p.0).1 in
    (word, subst (λ (m : ℕ). m < 2 ^ 64) same small)

pub number_back : (n : ℕ) → n < 2 ^ 64 → number_of (decimal n) ≡ Some n
number_back n h = complete (decimal n) n h refl

pub constant_spelled : (w : List ℕ) (t : RawTerm) → constant_of w ≡ Some t → (w ≡ term_word t) × IsProperTerm t
constant_spelled [] t e = absurd cc
constant_spelled (b ∷ digits) t e =
    let p = only (b == 35) _ t e in
    let q = mapped (number_of digits) Constant t p.1 in
    let n = number_spelled digits q.0 q.1 in
    let first : b ≡ 35 = eqb-true b 35 p.0 in
    let whole : (b ∷ digits ≡ term_word (Constant q.0)) × IsProperTerm (Constant q.0) = (ap (λ (c : ℕ). c ∷ digits) first ∙ ap (λ (ds : List ℕ). 35 ∷ ds) n.0, n.1) in
    subst (λ (u : RawTerm). (b ∷ digits ≡ term_word u) × IsProperTerm u) q.2 whole

pub term_spelled : (w : List ℕ) (t : RawTerm) → term_of w ≡ Some t → (w ≡ term_word t) × IsProperTerm t
unfolding term_of
term_spelled w t e = elim (either (is_name w) (Named w) t _ e) [
  | inl p ↦ subst (λ (u : RawTerm). (w ≡ term_word u) × IsProperTerm u) p.1 (refl, p.0)
  | inr h ↦ elim (either (is_text w (codes "_")) Any t (constant_of w) h) [
    | inl q ↦ subst (λ (u : RawTerm). (w ≡ term_word u) × IsProperTerm u) q.1 (text_is w (codes "_") q.0, tt)
    | inr k ↦ constant_spelled w t k
  ]
]

pub term_back : (t : RawTerm) → IsProperTerm t → term_of (term_word t) ≡ Some t
unfolding term_of
term_back Any h = refl
term_back (Constant n) h = rw (number_back n h) refl
term_back (Named name) h = rw h refl

-- ---- limits

positive_spelled : (w : List ℕ) (z : ℤ) → (number_of w >>= positive_of) ≡ Some z → (w ≡ signed_decimal z) × IsLimit z
positive_spelled w z e =
    let p = steps (number_of w) positive_of z e in
    let q = only (nat_lt p.0 (2 ^ 63)) (Some (pos p.0)) z p.2 in
    subst (λ (y : ℤ). (w ≡ signed_decimal y) × IsLimit y) (same_Some (pos p.0) z q.1) ((number_spelled w p.0 p.1).0, ltb-true p.0 (2 ^ 63) q.0)

negative_spelled : (w : List ℕ) (z : ℤ) → (number_of w >>= negative_of) ≡ Some z → (45 ∷ w ≡ signed_decimal z) × IsLimit z
negative_spelled w z e =
    let p = steps (number_of w) negative_of z e in
    let q = only (nat_lt 0 p.0 && nat_le p.0 (2 ^ 63)) (Some (negsuc (p.0 - 1))) z p.2 in
    let bounds = and_parts (nat_lt 0 p.0) (nat_le p.0 (2 ^ 63)) q.0 in
    let low : 0 < p.0 = ltb-true 0 p.0 bounds.0 in
    let high : p.0 ≤ 2 ^ 63 = leb-true p.0 (2 ^ 63) bounds.1 in
    let same : p.0 ≡ suc (p.0 - 1) = omega arith in
    let small : p.0 - 1 < 2 ^ 63 = omega arith in
    subst (λ (y : ℤ). (45 ∷ w ≡ signed_decimal y) × IsLimit y) (same_Some (negsuc (p.0 - 1)) z q.1) (ap (λ (ds : List ℕ). 45 ∷ ds) ((number_spelled w p.0 p.1).0 ∙ ap decimal same), small)

pub limit_spelled : (w : List ℕ) (z : ℤ) → limit_of w ≡ Some z → (w ≡ signed_decimal z) × IsLimit z
unfolding limit_of
limit_spelled [] z e = positive_spelled [] z e
limit_spelled (b ∷ digits) z e = elim (branch (b == 45) _ _ z e) [
  | inl p ↦ (let q = negative_spelled digits z p.1 in (ap (λ (c : ℕ). c ∷ digits) (eqb-true b 45 p.0) ∙ q.0, q.1))
  | inr h ↦ positive_spelled (b ∷ digits) z h
]

not_minus : (b : ℕ) → (b ≡ 45 → ⊥) → (b == 45) ≡ false
not_minus b h = grind (arith, nat_tests)

unsigned : (w : List ℕ) → (get_or w 0 0 ≡ 45 → ⊥) → limit_of w ≡ (number_of w >>= positive_of)
unfolding limit_of
unsigned [] h = refl
unsigned (b ∷ digits) h = rw (not_minus b h) refl

no_minus : (n : ℕ) → n < 2 ^ 64 → get_or (decimal n) 0 0 ≡ 45 → ⊥
no_minus n h e = elim (cases_lt n 10) [
  | inl small ↦ (let first : get_or (decimal n) 0 0 ≡ 48 + n = ap (λ (ds : List ℕ). get_or ds 0 0) (decimal_digit n small) in omega arith)
  | inr large ↦ (let first = first_decimal n (omega arith) h in omega arith)
]

positive_back : (n : ℕ) → n < 2 ^ 63 → positive_of n ≡ Some (pos n)
positive_back n h = rw (lt-ltb n (2 ^ 63) h) refl

negative_back : (n : ℕ) → n < 2 ^ 63 → negative_of (suc n) ≡ Some (negsuc n)
negative_back n h =
    let low : nat_lt 0 (suc n) ≡ true = grind (arith, nat_tests) in
    let high : nat_le (suc n) (2 ^ 63) ≡ true = grind (arith, nat_tests) in
    let same : suc n - 1 ≡ n = omega arith in
    rw (low, high, same) refl

pub limit_back : (z : ℤ) → IsLimit z → limit_of (signed_decimal z) ≡ Some z
unfolding limit_of
limit_back (pos n) h =
    let wide : n < 2 ^ 64 = omega arith in
    unsigned (decimal n) (no_minus n wide) ∙ (ap (λ (o : Option ℕ). o >>= positive_of) (number_back n wide) ∙ positive_back n h)
limit_back (negsuc n) h =
    let wide : suc n < 2 ^ 64 = omega arith in
    ap (λ (o : Option ℕ). o >>= negative_of) (number_back (suc n) wide) ∙ negative_back n h

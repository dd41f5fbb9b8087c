-- Lines and their words, both ways.
use Rattle.std.proofs.Common.{◌≡◌, ℕ, ◌^◌, ◌<◌, true, List, [], ◌∷◌, ◌++◌, Option, Some, refl, sym, ap, ◌∙◌, subst, append_assoc, append-nil}
use Rattle.std.specs.Prelude.{IsTrue, ℤ, codes, map, option_map}
use Rattle.std.specs.List.{AllByRecursion}
use Rattle.std.specs.Fmt.{decimal, signed_decimal}
use Rattle.std.proofs.lemmas.Bool.{and_parts}
use Rattle.std.proofs.lemmas.Option.{same_Some}
use Rattle.ham_text.specs.Words.{is_text}
use Rattle.ham_text.specs.Numbers.{number_of, ◌>>=◌}
use Rattle.ham_syntax.specs.declared.object.Counter.{Counter}
use Rattle.ham_syntax.specs.declared.object.Param.{Param}
use Rattle.ham_check.specs.declared.raw.RawTerm.{RawTerm}
use Rattle.ham_check.specs.declared.raw.RawPart.{RawPart}
use Rattle.ham_check.specs.declared.raw.RawRelation.{RawRelation}
use Rattle.ham_check.specs.declared.raw.RawInvariant.{RawInvariant}
use Rattle.ham_check.specs.declared.raw.RawInvariant.TheVariants.{Reference, Unique, Low, High}
use Rattle.ham_syntax.specs.Names.{is_name}
use Rattle.ham_plain.specs.declared.keyword.Keyword.{Keyword}
use Rattle.ham_plain.specs.declared.keyword.Keyword.TheVariants as keywords
use Rattle.ham_plain.specs.declared.line.PlainLine.{PlainLine}
use Rattle.ham_plain.specs.declared.line.PlainLine.TheVariants as lines
use Rattle.ham_syntax.specs.Typed.{IsLimit}
use Rattle.ham_text.specs.Numbers.{AreNumbers}
use Rattle.ham_text.proofs.Choices.{only, steps, mapped, text_is}
use Rattle.ham_plain.specs.Plain.{keyed_word, kind_word, verb_word, term_word, part_words, invariant_words, line_words, IsProperTerm, IsProperPart, IsProperInvariant, IsProperLine}
use Rattle.ham_forms.specs.declared.words.InvariantKind.{InvariantKind}
use Rattle.ham_forms.specs.declared.words.InvariantKind.TheVariants as kinds
use Rattle.ham_forms.specs.Words.{keyed_of, kind_of, verb_of, invariant_kind_of, name_of, term_of, limit_of}
use Rattle.ham_plain.specs.Reading.{keyword_of, single_of, pair_of, is_version, opening_of, relation_of, counter_of, param_of, method_of, values_from, reference_of, unique_of, low_of, high_of, by_kind_of, invariant_of, part_of, end_of, line_after, line_of}
use Rattle.ham_plain.proofs.Spelled.{keyword_word, keyword_spelled, keyword_back, keyed_spelled, keyed_back, kind_spelled, kind_back, verb_spelled, verb_back, invariant_kind_word, invariant_kind_spelled, invariant_kind_back, name_spelled, name_back, number_spelled, number_back, term_spelled, term_back, limit_spelled, limit_back}

-- words that spell a value, which is proper
pub record Spells {A : Type 0} (words_of : A → List (List ℕ)) (IsFit : A → Type 0) (words : List (List ℕ)) (x : A) : Type 0 where
  pub words_are : words ≡ words_of x
  pub fit : IsFit x

along : {A : Type 0} (words_of : A → List (List ℕ)) (IsFit : A → Type 0) (words : List (List ℕ)) (x y : A) → Some x ≡ Some y → words ≡ words_of x → IsFit x → Spells words_of IsFit words y
along words_of IsFit words x y e s h = subst (λ a. Spells words_of IsFit words a) (same_Some x y e) (record { words_are = s; fit = h })

single_spelled : (ws : List (List ℕ)) (a : List ℕ) → single_of ws ≡ Some a → ws ≡ a ∷ []
single_spelled [] a e = absurd cc
single_spelled (b ∷ []) a e = ap (λ (w : List ℕ). w ∷ []) (same_Some b a e)
single_spelled (b ∷ c ∷ ws) a e = absurd cc

pair_spelled : (ws : List (List ℕ)) (p : List ℕ × List ℕ) → pair_of ws ≡ Some p → ws ≡ p.0 ∷ p.1 ∷ []
pair_spelled [] p e = absurd cc
pair_spelled (a ∷ []) p e = absurd cc
pair_spelled (a ∷ b ∷ []) p e = ap (λ (q : List ℕ × List ℕ). q.0 ∷ q.1 ∷ []) (same_Some (a, b) p e)
pair_spelled (a ∷ b ∷ c ∷ ws) p e = absurd cc

two : (a b c d : List ℕ) → a ≡ c → b ≡ d → a ∷ b ∷ [] ≡ c ∷ d ∷ []
two a b c d e h = ap (λ (w : List ℕ). w ∷ b ∷ []) e ∙ ap (λ (w : List ℕ). c ∷ w ∷ []) h

version_spelled : (ws : List (List ℕ)) → is_version ws ≡ true → ws ≡ codes "object" ∷ codes "1" ∷ []
version_spelled [] e = absurd cc
version_spelled (a ∷ []) e = absurd cc
version_spelled (a ∷ b ∷ []) e =
    let p = and_parts (is_text a (codes "object")) (is_text b (codes "1")) e in
    two a b (codes "object") (codes "1") (text_is a (codes "object") p.0) (text_is b (codes "1") p.1)
version_spelled (a ∷ b ∷ c ∷ ws) e = absurd cc

abbrev counter_words : Counter → List (List ℕ)
counter_words c = c.name ∷ keyed_word c.keyed ∷ []

abbrev param_words : Param → List (List ℕ)
param_words p = p.name ∷ kind_word p.kind ∷ []

abbrev relation_words : RawRelation → List (List ℕ)
relation_words r = r.name ∷ decimal r.columns ∷ []

abbrev IsProperRelation : RawRelation → Type 0
IsProperRelation r = IsTrue (is_name r.name) × (r.columns < 2 ^ 64)

relation_spelled : (ws : List (List ℕ)) (r : RawRelation) → relation_of ws ≡ Some r → Spells relation_words IsProperRelation ws r
unfolding relation_of
relation_spelled ws c e =
    let p = steps (pair_of ws) _ c e in
    let n = steps (name_of p.0.0) _ c p.2 in
    let k = steps (number_of p.0.1) _ c n.2 in
    let name = name_spelled p.0.0 n.0 n.1 in
    let number = number_spelled p.0.1 k.0 k.1 in
    along relation_words IsProperRelation ws (record { name = n.0; columns = k.0 }) c k.2
    (pair_spelled ws p.0 p.1 ∙ two p.0.0 p.0.1 n.0 (decimal k.0) name.0 number.0) (name.1, number.1)

counter_spelled : (ws : List (List ℕ)) (c : Counter) → counter_of ws ≡ Some c → Spells counter_words (λ c. IsTrue (is_name c.name)) ws c
unfolding counter_of
counter_spelled ws c e =
    let p = steps (pair_of ws) _ c e in
    let n = steps (name_of p.0.0) _ c p.2 in
    let k = steps (keyed_of p.0.1) _ c n.2 in
    let name = name_spelled p.0.0 n.0 n.1 in
    along counter_words (λ c. IsTrue (is_name c.name)) ws (record { name = n.0; keyed = k.0 }) c k.2
    (pair_spelled ws p.0 p.1 ∙ two p.0.0 p.0.1 n.0 (keyed_word k.0) name.0 (keyed_spelled p.0.1 k.0 k.1)) name.1

param_spelled : (ws : List (List ℕ)) (c : Param) → param_of ws ≡ Some c → Spells param_words (λ c. IsTrue (is_name c.name)) ws c
unfolding param_of
param_spelled ws c e =
    let p = steps (pair_of ws) _ c e in
    let n = steps (name_of p.0.0) _ c p.2 in
    let k = steps (kind_of p.0.1) _ c n.2 in
    let name = name_spelled p.0.0 n.0 n.1 in
    along param_words (λ c. IsTrue (is_name c.name)) ws (record { name = n.0; kind = k.0 }) c k.2
    (pair_spelled ws p.0 p.1 ∙ two p.0.0 p.0.1 n.0 (kind_word k.0) name.0 (kind_spelled p.0.1 k.0 k.1)) name.1

method_spelled : (ws : List (List ℕ)) (n : List ℕ) → method_of ws ≡ Some n → Spells (λ n. n ∷ []) (λ n. IsTrue (is_name n)) ws n
unfolding method_of
method_spelled ws n e =
    let p = steps (single_of ws) name_of n e in
    let name = name_spelled p.0 n p.2 in
    record { words_are = single_spelled ws p.0 p.1 ∙ ap (λ (w : List ℕ). w ∷ []) name.0; fit = name.1 }

abbrev terms_words : List RawTerm → List (List ℕ)
terms_words ts = map term_word ts

all-append : {A : Type 0} (P : A → Type 0) (xs : List A) (x : A) → AllByRecursion P xs → P x → AllByRecursion P (xs ++ x ∷ [])
all-append P [] x h p = (p, tt)
all-append P (y ∷ ys) x h p = (h.0, all-append P ys x h.1 p)

map-more : {A B : Type 0} (f : A → B) (xs : List A) (x : A) (ys : List B) → map f (xs ++ x ∷ []) ++ ys ≡ map f xs ++ f x ∷ ys
map-more f [] x ys = refl
map-more f (y ∷ xs) x ys = ap (λ zs. f y ∷ zs) (map-more f xs x ys)

-- values that are read one by one, where each is spelled as its word
values_spelled : {A : Type 0} (read : List ℕ → Option A) (word : A → List ℕ) (IsFit : A → Type 0) → ((w : List ℕ) (x : A) → read w ≡ Some x → (w ≡ word x) × IsFit x)
    → (ws : List (List ℕ)) (done xs : List A) → AllByRecursion IsFit done → values_from read done ws ≡ Some xs → Spells (map word) (AllByRecursion IsFit) (map word done ++ ws) xs
values_spelled read word IsFit one [] done xs h e = along (map word) (AllByRecursion IsFit) _ done xs e (append-nil (map word done)) h
values_spelled read word IsFit one (w ∷ ws) done xs h e =
    let t = steps (read w) _ xs e in
    let spelled = one w t.0 t.1 in
    let rest = values_spelled read word IsFit one ws (done ++ t.0 ∷ []) xs (all-append IsFit done t.0 h spelled.1) t.2 in
    record { words_are = ap (λ (v : List ℕ). map word done ++ v ∷ ws) spelled.0 ∙ (sym (map-more word done t.0 ws) ∙ rest.words_are); fit = rest.fit }

terms_spelled : (ws : List (List ℕ)) (ts : List RawTerm) → values_from term_of [] ws ≡ Some ts → Spells terms_words (AllByRecursion IsProperTerm) ws ts
terms_spelled ws ts e = values_spelled term_of term_word IsProperTerm term_spelled ws [] ts tt e

columns_spelled : (ws : List (List ℕ)) (ns : List ℕ) → values_from number_of [] ws ≡ Some ns → Spells (map decimal) AreNumbers ws ns
columns_spelled ws ns e = values_spelled number_of decimal (λ n. n < 2 ^ 64) number_spelled ws [] ns tt e

part_spelled : (ws : List (List ℕ)) (p : RawPart) → part_of ws ≡ Some p → Spells part_words IsProperPart ws p
unfolding part_of
part_spelled [] p e = absurd cc
part_spelled (verb ∷ []) p e = absurd cc
part_spelled (verb ∷ name ∷ ws) p e =
    let v = steps (verb_of verb) _ p e in
    let n = steps (name_of name) _ p v.2 in
    let t = steps (values_from term_of [] ws) _ p n.2 in
    let named = name_spelled name n.0 n.1 in
    let terms = terms_spelled ws t.0 t.1 in
    along part_words IsProperPart _ (record { verb = v.0; name = n.0; terms = t.0 }) p t.2
    (ap (λ (w : List ℕ). w ∷ name ∷ ws) (verb_spelled verb v.0 v.1) ∙ (ap (λ (w : List ℕ). verb_word v.0 ∷ w ∷ ws) named.0 ∙ ap (λ (vs : List (List ℕ)). verb_word v.0 ∷ n.0 ∷ vs) terms.words_are))
    (record { is_named = named.1; each_term = terms.fit })

-- the words of an invariant after its kind
abbrev SpellsByKind : InvariantKind → List (List ℕ) → RawInvariant → Type 0
SpellsByKind kind ws i = Spells invariant_words IsProperInvariant (invariant_kind_word kind ∷ ws) i

reference_spelled : (ws : List (List ℕ)) (i : RawInvariant) → reference_of ws ≡ Some i → SpellsByKind kinds.Reference ws i
unfolding reference_of
reference_spelled [] i e = absurd cc
reference_spelled (from ∷ []) i e = absurd cc
reference_spelled (from ∷ to ∷ ws) i e =
    let f = steps (name_of from) _ i e in
    let t = steps (name_of to) _ i f.2 in
    let c = steps (values_from number_of [] ws) _ i t.2 in
    let source = name_spelled from f.0 f.1 in
    let target = name_spelled to t.0 t.1 in
    let columns = columns_spelled ws c.0 c.1 in
    along invariant_words IsProperInvariant _ (Reference f.0 c.0 t.0) i c.2
    (ap (λ (v : List ℕ). codes "reference" ∷ v ∷ to ∷ ws) source.0 ∙ (ap (λ (v : List ℕ). codes "reference" ∷ f.0 ∷ v ∷ ws) target.0 ∙ ap (λ (vs : List (List ℕ)). codes "reference" ∷ f.0 ∷ t.0 ∷ vs) columns.words_are))
    (source.1, target.1, columns.fit)

unique_spelled : (ws : List (List ℕ)) (i : RawInvariant) → unique_of ws ≡ Some i → SpellsByKind kinds.Unique ws i
unfolding unique_of
unique_spelled [] i e = absurd cc
unique_spelled (relation ∷ ws) i e =
    let r = steps (name_of relation) _ i e in
    let c = steps (values_from number_of [] ws) _ i r.2 in
    let name = name_spelled relation r.0 r.1 in
    let columns = columns_spelled ws c.0 c.1 in
    along invariant_words IsProperInvariant _ (Unique r.0 c.0) i c.2
    (ap (λ (v : List ℕ). codes "unique" ∷ v ∷ ws) name.0 ∙ ap (λ (vs : List (List ℕ)). codes "unique" ∷ r.0 ∷ vs) columns.words_are)
    (name.1, columns.fit)

-- a name and a limit
pub record Limits (ws : List (List ℕ)) (name : List ℕ) (limit : ℤ) : Type 0 where
  pub words_are : ws ≡ name ∷ signed_decimal limit ∷ []
  pub named : IsTrue (is_name name)
  pub small : IsLimit limit

limits_spelled : (ws : List (List ℕ)) (p : List ℕ × List ℕ) (name : List ℕ) (limit : ℤ) → pair_of ws ≡ Some p → name_of p.0 ≡ Some name → limit_of p.1 ≡ Some limit → Limits ws name limit
limits_spelled ws p name limit e n l =
    let named = name_spelled p.0 name n in
    let limited = limit_spelled p.1 limit l in
    record { words_are = pair_spelled ws p e ∙ two p.0 p.1 name (signed_decimal limit) named.0 limited.0; named = named.1; small = limited.1 }

low_spelled : (ws : List (List ℕ)) (i : RawInvariant) → low_of ws ≡ Some i → SpellsByKind kinds.Low ws i
unfolding low_of
low_spelled ws i e =
    let p = steps (pair_of ws) _ i e in
    let n = steps (name_of p.0.0) _ i p.2 in
    let k = steps (limit_of p.0.1) _ i n.2 in
    let h = limits_spelled ws p.0 n.0 k.0 p.1 n.1 k.1 in
    along invariant_words IsProperInvariant _ (Low n.0 k.0) i k.2 (ap (λ (vs : List (List ℕ)). codes "low" ∷ vs) h.words_are) (h.named, h.small)

high_spelled : (ws : List (List ℕ)) (i : RawInvariant) → high_of ws ≡ Some i → SpellsByKind kinds.High ws i
unfolding high_of
high_spelled ws i e =
    let p = steps (pair_of ws) _ i e in
    let n = steps (name_of p.0.0) _ i p.2 in
    let k = steps (limit_of p.0.1) _ i n.2 in
    let h = limits_spelled ws p.0 n.0 k.0 p.1 n.1 k.1 in
    along invariant_words IsProperInvariant _ (High n.0 k.0) i k.2 (ap (λ (vs : List (List ℕ)). codes "high" ∷ vs) h.words_are) (h.named, h.small)

by_kind_spelled : (r : InvariantKind) (ws : List (List ℕ)) (i : RawInvariant) → by_kind_of r ws ≡ Some i → SpellsByKind r ws i
unfolding by_kind_of
by_kind_spelled kinds.Reference ws i e = reference_spelled ws i e
by_kind_spelled kinds.Unique ws i e = unique_spelled ws i e
by_kind_spelled kinds.Low ws i e = low_spelled ws i e
by_kind_spelled kinds.High ws i e = high_spelled ws i e

invariant_spelled : (ws : List (List ℕ)) (i : RawInvariant) → invariant_of ws ≡ Some i → Spells invariant_words IsProperInvariant ws i
unfolding invariant_of
invariant_spelled [] i e = absurd cc
invariant_spelled (kind ∷ ws) i e =
    let r = steps (invariant_kind_of kind) _ i e in
    subst (λ (v : List ℕ). Spells invariant_words IsProperInvariant (v ∷ ws) i) (sym (invariant_kind_spelled kind r.0 r.1)) (by_kind_spelled r.0 ws i r.2)

-- a line of one kind
kept : {A : Type 0} (words_of : A → List (List ℕ)) (IsFit : A → Type 0) (keyword : List ℕ) (line : A → PlainLine) (ws : List (List ℕ)) (o : Option A) (l : PlainLine)
    → ((x : A) → line_words (line x) ≡ keyword ∷ words_of x) → ((x : A) → IsFit x → IsProperLine (line x)) → ((x : A) → o ≡ Some x → Spells words_of IsFit ws x)
    → option_map line o ≡ Some l → Spells line_words IsProperLine (keyword ∷ ws) l
kept words_of IsFit keyword line ws o l w f s e =
    let p = mapped o line l e in
    let q = s p.0 p.1 in
    subst (λ (m : PlainLine). Spells line_words IsProperLine (keyword ∷ ws) m) p.2 (record { words_are = ap (λ (vs : List (List ℕ)). keyword ∷ vs) q.words_are ∙ sym (w p.0); fit = f p.0 q.fit })

opening_spelled : (ws : List (List ℕ)) (l : PlainLine) → opening_of ws ≡ Some l → Spells line_words IsProperLine (codes "hamsaz" ∷ ws) l
unfolding opening_of
opening_spelled ws l e =
    let p = only (is_version ws) (Some lines.Opening) l e in
    along line_words IsProperLine _ lines.Opening l p.1 (ap (λ (vs : List (List ℕ)). codes "hamsaz" ∷ vs) (version_spelled ws p.0)) tt

end_spelled : (ws : List (List ℕ)) (l : PlainLine) → end_of ws ≡ Some l → Spells line_words IsProperLine (codes "end" ∷ ws) l
end_spelled [] l e = along line_words IsProperLine _ lines.End l e refl tt
end_spelled (w ∷ ws) l e = absurd cc

after_spelled : (k : Keyword) (ws : List (List ℕ)) (l : PlainLine) → line_after k ws ≡ Some l → Spells line_words IsProperLine (keyword_word k ∷ ws) l
unfolding line_after
after_spelled keywords.Hamsaz ws l e = opening_spelled ws l e
after_spelled keywords.Relation ws l e = kept relation_words IsProperRelation (codes "relation") lines.Relation ws (relation_of ws) l (λ x. refl) (λ x h. h) (relation_spelled ws) e
after_spelled keywords.Counter ws l e = kept counter_words (λ c. IsTrue (is_name c.name)) (codes "counter") lines.Counter ws (counter_of ws) l (λ x. refl) (λ x h. h) (counter_spelled ws) e
after_spelled keywords.Invariant ws l e = kept invariant_words IsProperInvariant (codes "invariant") lines.Invariant ws (invariant_of ws) l (λ x. refl) (λ x h. h) (invariant_spelled ws) e
after_spelled keywords.Method ws l e = kept (λ n. n ∷ []) (λ n. IsTrue (is_name n)) (codes "method") lines.Method ws (method_of ws) l (λ x. refl) (λ x h. h) (method_spelled ws) e
after_spelled keywords.Param ws l e = kept param_words (λ c. IsTrue (is_name c.name)) (codes "param") lines.Param ws (param_of ws) l (λ x. refl) (λ x h. h) (param_spelled ws) e
after_spelled keywords.Guard ws l e = kept part_words IsProperPart (codes "guard") lines.Guard ws (part_of ws) l (λ x. refl) (λ x h. h) (part_spelled ws) e
after_spelled keywords.Effect ws l e = kept part_words IsProperPart (codes "effect") lines.Effect ws (part_of ws) l (λ x. refl) (λ x h. h) (part_spelled ws) e
after_spelled keywords.End ws l e = end_spelled ws l e

-- the words of a line that is read are its words, and it is proper
pub line_spelled : (ws : List (List ℕ)) (l : PlainLine) → line_of ws ≡ Some l → Spells line_words IsProperLine ws l
unfolding line_of
line_spelled [] l e = absurd cc
line_spelled (w ∷ ws) l e =
    let k = steps (keyword_of w) _ l e in
    subst (λ (v : List ℕ). Spells line_words IsProperLine (v ∷ ws) l) (sym (keyword_spelled w k.0 k.1)) (after_spelled k.0 ws l k.2)

-- ---- and back

values_back : {A : Type 0} (read : List ℕ → Option A) (word : A → List ℕ) (IsFit : A → Type 0) → ((x : A) → IsFit x → read (word x) ≡ Some x)
    → (xs done : List A) → AllByRecursion IsFit xs → values_from read done (map word xs) ≡ Some (done ++ xs)
values_back read word IsFit one [] done h = ap Some (sym (append-nil done))
values_back read word IsFit one (x ∷ xs) done h =
    ap (λ o. o >>= (λ u. values_from read (done ++ u ∷ []) (map word xs))) (one x h.0) ∙ (values_back read word IsFit one xs (done ++ x ∷ []) h.1 ∙ ap Some (append_assoc done (x ∷ []) xs))

terms_back : (ts : List RawTerm) → AllByRecursion IsProperTerm ts → values_from term_of [] (terms_words ts) ≡ Some ts
terms_back ts h = values_back term_of term_word IsProperTerm term_back ts [] h

columns_back : (ns : List ℕ) → AreNumbers ns → values_from number_of [] (map decimal ns) ≡ Some ns
columns_back ns h = values_back number_of decimal (λ n. n < 2 ^ 64) number_back ns [] h

by_kind : (r : InvariantKind) (ws : List (List ℕ)) → invariant_of (invariant_kind_word r ∷ ws) ≡ by_kind_of r ws
unfolding invariant_of
by_kind r ws = ap (λ (o : Option InvariantKind). o >>= (λ k. by_kind_of k ws)) (invariant_kind_back r)

invariant_back : (i : RawInvariant) → IsProperInvariant i → invariant_of (invariant_words i) ≡ Some i
unfolding by_kind_of reference_of unique_of low_of high_of
invariant_back (Reference from columns to) h = by_kind kinds.Reference _ ∙ rw (name_back from h.0, name_back to h.1, columns_back columns h.2) refl
invariant_back (Unique r columns) h = by_kind kinds.Unique _ ∙ rw (name_back r h.0, columns_back columns h.1) refl
invariant_back (Low c limit) h = by_kind kinds.Low _ ∙ rw (name_back c h.0, limit_back limit h.1) refl
invariant_back (High c limit) h = by_kind kinds.High _ ∙ rw (name_back c h.0, limit_back limit h.1) refl

part_back : (p : RawPart) → IsProperPart p → part_of (part_words p) ≡ Some p
unfolding part_of
part_back p h = rw (verb_back p.verb, name_back p.name h.is_named, terms_back p.terms h.each_term) refl

relation_back : (r : RawRelation) → IsProperRelation r → relation_of (relation_words r) ≡ Some r
unfolding relation_of
relation_back r h = rw (name_back r.name h.0, number_back r.columns h.1) refl

counter_back : (c : Counter) → IsTrue (is_name c.name) → counter_of (counter_words c) ≡ Some c
unfolding counter_of
counter_back c h = rw (name_back c.name h, keyed_back c.keyed) refl

param_back : (p : Param) → IsTrue (is_name p.name) → param_of (param_words p) ≡ Some p
unfolding param_of
param_back p h = rw (name_back p.name h, kind_back p.kind) refl

method_back : (n : List ℕ) → IsTrue (is_name n) → method_of (n ∷ []) ≡ Some n
unfolding method_of
method_back n h = name_back n h

opening_back : opening_of (codes "object" ∷ codes "1" ∷ []) ≡ Some lines.Opening
unfolding opening_of
opening_back = refl

-- a line of a keyword, where its other words are read
known : (k : Keyword) (ws : List (List ℕ)) → line_of (keyword_word k ∷ ws) ≡ line_after k ws
unfolding line_of
known k ws = ap (λ (o : Option Keyword). o >>= (λ k. line_after k ws)) (keyword_back k)

pub line_back : (l : PlainLine) → IsProperLine l → line_of (line_words l) ≡ Some l
unfolding line_after
line_back lines.Opening h = known keywords.Hamsaz _ ∙ opening_back
line_back (lines.Relation r) h = known keywords.Relation _ ∙ ap (option_map lines.Relation) (relation_back r h)
line_back (lines.Counter c) h = known keywords.Counter _ ∙ ap (option_map lines.Counter) (counter_back c h)
line_back (lines.Invariant i) h = known keywords.Invariant _ ∙ ap (option_map lines.Invariant) (invariant_back i h)
line_back (lines.Method n) h = known keywords.Method _ ∙ ap (option_map lines.Method) (method_back n h)
line_back (lines.Param p) h = known keywords.Param _ ∙ ap (option_map lines.Param) (param_back p h)
line_back (lines.Guard p) h = known keywords.Guard _ ∙ ap (option_map lines.Guard) (part_back p h)
line_back (lines.Effect p) h = known keywords.Effect _ ∙ ap (option_map lines.Effect) (part_back p h)
line_back lines.End h = known keywords.End _

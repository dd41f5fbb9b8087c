-- Lines that are printed word by word, and the lines of an object one after the other.
use Rattle.std.proofs.Common.{◌≡◌, ℕ, Result, Ok, Err, List, [], ◌∷◌, ◌++◌, refl, sym, ap, ◌∙◌, append_assoc, append-nil}
use Rattle.std.specs.Prelude.{OnOk, codes, map}
use Rattle.std.specs.List.{flat_map, join_with_byte}
use Rattle.std.specs.Fmt.{decimal}
use Rattle.std.proofs.lemmas.List.Concat.{flat_map-append}
use Rattle.ham_syntax.specs.declared.object.Param.{Param}
use Rattle.ham_syntax.specs.declared.term.Term.{Term}
use Rattle.ham_check.specs.declared.raw.RawTerm.{RawTerm}
use Rattle.ham_syntax.specs.declared.object.Relation.{Relation}
use Rattle.ham_syntax.specs.declared.object.Counter.{Counter}
use Rattle.ham_syntax.specs.declared.object.Invariant.{Invariant}
use Rattle.ham_syntax.specs.declared.object.Guard.{Guard}
use Rattle.ham_syntax.specs.declared.object.Effect.{Effect}
use Rattle.ham_syntax.specs.declared.object.Method.{Method}
use Rattle.ham_syntax.specs.Objects.{Schema}
use Rattle.ham_plain.specs.declared.line.PlainLine.TheVariants as lines
use Rattle.ham_plain.specs.Plain.{term_word, line_text, method_lines, plain_form}
use Rattle.ham_plain.specs.Written.{written_term, written_terms, written_relation, written_invariant, written_guard, written_effect, written_method, plain_of}
use Rattle.ham_plain.specs.Printing.{line_from, method_text}

-- a word, and words after it with a space before each
joined : {A : Type 0} (word : A → List ℕ) (first : List ℕ) (xs : List A) → join_with_byte 32 (first ∷ map word xs) ≡ first ++ flat_map (λ x. 32 ∷ word x) xs
joined word first [] = sym (append-nil first)
joined word first (x ∷ xs) = ap (λ (t : List ℕ). first ++ 32 ∷ t) (joined word (word x) xs)

spread : (text start first more : List ℕ) → (((text ++ start) ++ 32 ∷ first) ++ more) ++ 10 ∷ [] ≡ text ++ ((start ++ 32 ∷ (first ++ more)) ++ 10 ∷ [])
spread text start first more = simp append_assoc

words_line : {A : Type 0} (word : A → List ℕ) (text start first : List ℕ) (xs : List A) → (((text ++ start) ++ 32 ∷ first) ++ flat_map (λ x. 32 ∷ word x) xs) ++ 10 ∷ [] ≡ text ++ line_from start (first ∷ map word xs)
words_line word text start first xs = spread text start first (flat_map (λ x. 32 ∷ word x) xs) ∙ ap (λ (t : List ℕ). text ++ ((start ++ 32 ∷ t) ++ 10 ∷ [])) (sym (joined word first xs))

pub columns_line : (text first : List ℕ) (columns : List ℕ) → ((text ++ 32 ∷ first) ++ flat_map (λ n. 32 ∷ decimal n) columns) ++ 10 ∷ [] ≡ text ++ line_from [] (first ∷ map decimal columns)
columns_line text first columns = ap (λ (t : List ℕ). ((t ++ 32 ∷ first) ++ flat_map (λ n. 32 ∷ decimal n) columns) ++ 10 ∷ []) (sym (append-nil text)) ∙ words_line decimal text [] first columns

pub amount_line : (text start first : List ℕ) (ts : List RawTerm) → (((text ++ start) ++ 32 ∷ first) ++ flat_map (λ t. 32 ∷ term_word t) ts) ++ 10 ∷ [] ≡ text ++ line_from start (first ∷ map term_word ts)
amount_line text start first ts = words_line term_word text start first ts

pub flat-map : {A B C : Type 0} (f : B → List C) (g : A → B) (xs : List A) → flat_map f (map g xs) ≡ flat_map (λ x. f (g x)) xs
flat-map f g [] = refl
flat-map f g (x ∷ xs) = ap (λ zs. f (g x) ++ zs) (flat-map f g xs)

terms_line : (text start first : List ℕ) (params : List Param) (ts : List Term)
    → (((text ++ start) ++ 32 ∷ first) ++ flat_map (λ t. 32 ∷ term_word (written_term params t)) ts) ++ 10 ∷ [] ≡ text ++ line_from start (first ∷ map term_word (written_terms params ts))
terms_line text start first params ts =
    ap (λ (more : List ℕ). (((text ++ start) ++ 32 ∷ first) ++ more) ++ 10 ∷ []) (sym (flat-map (λ t. 32 ∷ term_word t) (written_term params) ts)) ∙ amount_line text start first (written_terms params ts)

-- ---- one after the other

pub ok_then : {A E : Type 0} {P Q : Type 0} (r : Result A E) → (P → Q) → OnOk r P → OnOk r Q
ok_then (Ok x) f h = f h
ok_then (Err e) f h = tt

-- a text with one piece more
abbrev pub Grows : List ℕ → List ℕ → List ℕ → Type 0
Grows old new piece = new ≡ old ++ piece

-- the same piece, of an equal value
pub of_equal : {A : Type 0} (piece : A → List ℕ) (x y : A) (old new : List ℕ) → x ≡ y → Grows old new (piece x) → Grows old new (piece y)
of_equal piece x y old new e h = h ∙ ap (λ a. old ++ piece a) e

two_pieces : (text a b c : List ℕ) → (text ++ a) ++ (b ++ c) ≡ text ++ ((a ++ b) ++ c)
two_pieces text a b c = simp append_assoc

pub line_printed : (text a z start : List ℕ) (words : List (List ℕ)) → Grows text a start → Grows a z (line_from [] words) → Grows text z (line_from start words)
line_printed text a z start words h e = e ∙ (ap (λ (t : List ℕ). t ++ line_from [] words) h ∙ two_pieces text start (32 ∷ join_with_byte 32 words) (10 ∷ []))

pub terms_printed : (text a b c z start first : List ℕ) (params : List Param) (ts : List Term) → Grows text a start → Grows a b (32 ∷ first) → Grows b c (flat_map (λ t. 32 ∷ term_word (written_term params t)) ts)
    → Grows c z (10 ∷ []) → Grows text z (line_from start (first ∷ map term_word (written_terms params ts)))
terms_printed text a b c z start first params ts h k m e =
    e ∙ (ap (λ (t : List ℕ). t ++ 10 ∷ []) (m ∙ ap (λ (t : List ℕ). t ++ flat_map (λ t. 32 ∷ term_word (written_term params t)) ts) (k ∙ ap (λ (t : List ℕ). t ++ 32 ∷ first) h)) ∙ terms_line text start first params ts)

-- ---- methods

guards_text : (o : Schema) (m : Method) → flat_map line_text (map lines.Guard (map (written_guard o m.params) m.guards)) ≡ flat_map (λ g. line_text (lines.Guard (written_guard o m.params g))) m.guards
guards_text o m = flat-map line_text lines.Guard (map (written_guard o m.params) m.guards) ∙ flat-map (λ p. line_text (lines.Guard p)) (written_guard o m.params) m.guards

effects_text : (o : Schema) (m : Method) → flat_map line_text (map lines.Effect (map (written_effect o m.params) m.effects)) ≡ flat_map (λ e. line_text (lines.Effect (written_effect o m.params e))) m.effects
effects_text o m = flat-map line_text lines.Effect (map (written_effect o m.params) m.effects) ∙ flat-map (λ p. line_text (lines.Effect p)) (written_effect o m.params) m.effects

abbrev pub params_text : List Param → List ℕ
params_text params = flat_map (λ p. line_text (lines.Param p)) params

abbrev params_pieces : Method → List ℕ
params_pieces m = params_text m.params

abbrev pub guards_printed : Schema → List Param → List Guard → List ℕ
guards_printed o params guards = flat_map (λ g. line_text (lines.Guard (written_guard o params g))) guards

abbrev guards_pieces : Schema → Method → List ℕ
guards_pieces o m = guards_printed o m.params m.guards

abbrev pub effects_printed : Schema → List Param → List Effect → List ℕ
effects_printed o params effects = flat_map (λ e. line_text (lines.Effect (written_effect o params e))) effects

abbrev effects_pieces : Schema → Method → List ℕ
effects_pieces o m = effects_printed o m.params m.effects

method_pieces : (o : Schema) (m : Method) → method_text o m ≡ line_text (lines.Method m.name) ++ (params_pieces m ++ (guards_pieces o m ++ effects_pieces o m))
unfolding method_text
method_pieces o m =
    let params = map lines.Param m.params in
    let guards = map lines.Guard (map (written_guard o m.params) m.guards) in
    let effects = map lines.Effect (map (written_effect o m.params) m.effects) in
    ap (λ (t : List ℕ). line_text (lines.Method m.name) ++ t)
    (flat_map-append line_text params (guards ++ effects)
    ∙ (ap (λ (t : List ℕ). t ++ flat_map line_text (guards ++ effects)) (flat-map line_text lines.Param m.params)
    ∙ ap (λ (t : List ℕ). params_pieces m ++ t)
    (flat_map-append line_text guards effects
    ∙ (ap (λ (t : List ℕ). t ++ flat_map line_text effects) (guards_text o m) ∙ ap (λ (t : List ℕ). guards_pieces o m ++ t) (effects_text o m)))))

regroup : (text a b c d e f : List ℕ) → (((((text ++ a) ++ b) ++ c) ++ d) ++ e) ++ f ≡ text ++ (((a ++ b) ++ c) ++ (d ++ (e ++ f)))
regroup text a b c d e f = simp append_assoc

pub method_printed : (text a b c d e z : List ℕ) (o : Schema) (m : Method) → Grows text a (codes "method") → Grows a b (32 ∷ m.name) → Grows b c (10 ∷ []) → Grows c d (params_pieces m) → Grows d e (guards_pieces o m)
    → Grows e z (effects_pieces o m) → Grows text z (method_text o m)
method_printed text a b c d e z o m h k l p g f =
    f
    ∙ (ap (λ (t : List ℕ). t ++ effects_pieces o m)
    (g ∙ ap (λ (t : List ℕ). t ++ guards_pieces o m)
    (p ∙ ap (λ (t : List ℕ). t ++ params_pieces m) (l ∙ ap (λ (t : List ℕ). t ++ 10 ∷ []) (k ∙ ap (λ (t : List ℕ). t ++ 32 ∷ m.name) h))))
    ∙ (regroup text (codes "method") (32 ∷ m.name) (10 ∷ []) (params_pieces m) (guards_pieces o m) (effects_pieces o m) ∙ ap (λ (t : List ℕ). text ++ t) (sym (method_pieces o m))))

-- ---- objects

methods_text : (o : Schema) (ms : List Method) → flat_map line_text (flat_map method_lines (map (written_method o) ms)) ≡ flat_map (method_text o) ms
unfolding method_text
methods_text o [] = refl
methods_text o (m ∷ ms) =
    flat_map-append line_text (method_lines (written_method o m)) (flat_map method_lines (map (written_method o) ms)) ∙ ap (λ (t : List ℕ). flat_map line_text (method_lines (written_method o m)) ++ t) (methods_text o ms)

abbrev pub relations_printed : List Relation → List ℕ
relations_printed relations = flat_map (λ r. line_text (lines.Relation (written_relation r))) relations

abbrev relations_pieces : Schema → List ℕ
relations_pieces o = relations_printed o.relations

abbrev pub counters_printed : List Counter → List ℕ
counters_printed counters = flat_map (λ c. line_text (lines.Counter c)) counters

abbrev counters_pieces : Schema → List ℕ
counters_pieces o = counters_printed o.counters

abbrev pub invariants_printed : Schema → List Invariant → List ℕ
invariants_printed o invariants = flat_map (λ i. line_text (lines.Invariant (written_invariant o i))) invariants

abbrev invariants_pieces : Schema → List ℕ
invariants_pieces o = invariants_printed o o.invariants

object_pieces : (o : Schema) → plain_of o ≡ codes "hamsaz object 1" ++ 10 ∷ (relations_pieces o ++ (counters_pieces o ++ (invariants_pieces o ++ (flat_map (method_text o) o.methods ++ (codes "end" ++ 10 ∷ [])))))
unfolding plain_of plain_form
object_pieces o =
    let relations = map lines.Relation (map written_relation o.relations) in
    let counters = map lines.Counter o.counters in
    let invariants = map lines.Invariant (map (written_invariant o) o.invariants) in
    let methods = flat_map method_lines (map (written_method o) o.methods) in
    let last = lines.End ∷ [] in
    ap (λ (t : List ℕ). codes "hamsaz object 1" ++ 10 ∷ t)
    (flat_map-append line_text relations (counters ++ (invariants ++ (methods ++ last)))
    ∙ (ap (λ (t : List ℕ). t ++ flat_map line_text (counters ++ (invariants ++ (methods ++ last)))) (flat-map line_text lines.Relation (map written_relation o.relations) ∙ flat-map (λ r. line_text (lines.Relation r)) written_relation o.relations)
    ∙ ap (λ (t : List ℕ). relations_pieces o ++ t)
    (flat_map-append line_text counters (invariants ++ (methods ++ last))
    ∙ (ap (λ (t : List ℕ). t ++ flat_map line_text (invariants ++ (methods ++ last))) (flat-map line_text lines.Counter o.counters)
    ∙ ap (λ (t : List ℕ). counters_pieces o ++ t)
    (flat_map-append line_text invariants (methods ++ last)
    ∙ (ap (λ (t : List ℕ). t ++ flat_map line_text (methods ++ last)) (flat-map line_text lines.Invariant (map (written_invariant o) o.invariants) ∙ flat-map (λ i. line_text (lines.Invariant i)) (written_invariant o) o.invariants)
    ∙ ap (λ (t : List ℕ). invariants_pieces o ++ t) (flat_map-append line_text methods last ∙ ap (λ (t : List ℕ). t ++ (codes "end" ++ 10 ∷ [])) (methods_text o o.methods))))))))

in_order : (a b c d e f : List ℕ) → ((((a ++ b) ++ c) ++ d) ++ e) ++ f ≡ a ++ (b ++ (c ++ (d ++ (e ++ f))))
in_order a b c d e f = simp append_assoc

pub object_printed : (a b c d e z : List ℕ) (o : Schema) → a ≡ codes "hamsaz object 1" ++ 10 ∷ [] → Grows a b (relations_pieces o) → Grows b c (counters_pieces o) → Grows c d (invariants_pieces o)
    → Grows d e (flat_map (method_text o) o.methods) → Grows e z (codes "end" ++ 10 ∷ []) → z ≡ plain_of o
object_printed a b c d e z o h r k i m f =
    let methods = flat_map (method_text o) o.methods in
    f
    ∙ (ap (λ (t : List ℕ). t ++ (codes "end" ++ 10 ∷ []))
    (m ∙ ap (λ (t : List ℕ). t ++ methods)
    (i ∙ ap (λ (t : List ℕ). t ++ invariants_pieces o) (k ∙ ap (λ (t : List ℕ). t ++ counters_pieces o) (r ∙ ap (λ (t : List ℕ). t ++ relations_pieces o) h))))
    ∙ (in_order (codes "hamsaz object 1" ++ 10 ∷ []) (relations_pieces o) (counters_pieces o) (invariants_pieces o) methods (codes "end" ++ 10 ∷ []) ∙ sym (object_pieces o)))

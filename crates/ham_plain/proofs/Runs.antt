-- The lines of an object, one after the other, give the object.
use Rattle.std.proofs.Common.{◌≡◌, ℕ, List, [], ◌∷◌, ◌++◌, Option, Some, refl, sym, ap, ◌∙◌, append_assoc, append-nil}
use Rattle.std.specs.Prelude.{map}
use Rattle.std.specs.List.{flat_map}
use Rattle.ham_text.specs.Numbers.{◌>>=◌}
use Rattle.ham_syntax.specs.declared.object.Counter.{Counter}
use Rattle.ham_syntax.specs.declared.object.Param.{Param}
use Rattle.ham_check.specs.declared.raw.RawRelation.{RawRelation}
use Rattle.ham_check.specs.declared.raw.RawPart.{RawPart}
use Rattle.ham_check.specs.declared.raw.RawInvariant.{RawInvariant}
use Rattle.ham_check.specs.declared.raw.RawMethod.{RawMethod}
use Rattle.ham_check.specs.declared.raw.Raw.{Raw}
use Rattle.ham_plain.specs.declared.line.PlainLine.{PlainLine}
use Rattle.ham_plain.specs.declared.line.PlainLine.TheVariants as lines
use Rattle.ham_plain.specs.declared.draft.Draft.{Draft}
use Rattle.ham_plain.specs.declared.draft.Draft.TheVariants.{Nothing, Head, Body, Whole}
use Rattle.ham_plain.specs.Plain.{method_lines, plain_lines}
use Rattle.ham_plain.specs.Drafts.{and_method, draft_with}

-- what is read with these lines more
abbrev pub run : Draft → List PlainLine → Option Draft
run d [] = Some d
run d (l ∷ ls) = draft_with d l >>= λ e. run e ls

abbrev front : List RawRelation → List Counter → List RawInvariant → Draft
front rs cs is = Head (record { relations = rs; counters = cs; invariants = is })

abbrev object : List RawRelation → List Counter → List RawInvariant → List RawMethod → Raw
object rs cs is ms = record { relations = rs; counters = cs; invariants = is; methods = ms }

abbrev body : Raw → List ℕ → List Param → List RawPart → List RawPart → Draft
body raw n ps gs es = Body raw (record { name = n; params = ps; guards = gs; effects = es })

run_relations : (rs xs : List RawRelation) (rest : List PlainLine) → run (front rs [] []) (map lines.Relation xs ++ rest) ≡ run (front (rs ++ xs) [] []) rest
unfolding draft_with
run_relations rs [] rest = ap (λ (ys : List RawRelation). run (front ys [] []) rest) (sym (append-nil rs))
run_relations rs (x ∷ xs) rest = run_relations (rs ++ x ∷ []) xs rest ∙ ap (λ (ys : List RawRelation). run (front ys [] []) rest) (append_assoc rs (x ∷ []) xs)

run_counters : (rs : List RawRelation) (cs xs : List Counter) (rest : List PlainLine) → run (front rs cs []) (map lines.Counter xs ++ rest) ≡ run (front rs (cs ++ xs) []) rest
unfolding draft_with
run_counters rs cs [] rest = ap (λ (ys : List Counter). run (front rs ys []) rest) (sym (append-nil cs))
run_counters rs cs (x ∷ xs) rest = run_counters rs (cs ++ x ∷ []) xs rest ∙ ap (λ (ys : List Counter). run (front rs ys []) rest) (append_assoc cs (x ∷ []) xs)

run_invariants : (rs : List RawRelation) (cs : List Counter) (is xs : List RawInvariant) (rest : List PlainLine) → run (front rs cs is) (map lines.Invariant xs ++ rest) ≡ run (front rs cs (is ++ xs)) rest
unfolding draft_with
run_invariants rs cs is [] rest = ap (λ (ys : List RawInvariant). run (front rs cs ys) rest) (sym (append-nil is))
run_invariants rs cs is (x ∷ xs) rest = run_invariants rs cs (is ++ x ∷ []) xs rest ∙ ap (λ (ys : List RawInvariant). run (front rs cs ys) rest) (append_assoc is (x ∷ []) xs)

run_params : (raw : Raw) (n : List ℕ) (ps xs : List Param) (rest : List PlainLine) → run (body raw n ps [] []) (map lines.Param xs ++ rest) ≡ run (body raw n (ps ++ xs) [] []) rest
unfolding draft_with
run_params raw n ps [] rest = ap (λ (ys : List Param). run (body raw n ys [] []) rest) (sym (append-nil ps))
run_params raw n ps (x ∷ xs) rest = run_params raw n (ps ++ x ∷ []) xs rest ∙ ap (λ (ys : List Param). run (body raw n ys [] []) rest) (append_assoc ps (x ∷ []) xs)

run_guards : (raw : Raw) (n : List ℕ) (ps : List Param) (gs xs : List RawPart) (rest : List PlainLine) → run (body raw n ps gs []) (map lines.Guard xs ++ rest) ≡ run (body raw n ps (gs ++ xs) []) rest
unfolding draft_with
run_guards raw n ps gs [] rest = ap (λ (ys : List RawPart). run (body raw n ps ys []) rest) (sym (append-nil gs))
run_guards raw n ps gs (x ∷ xs) rest = run_guards raw n ps (gs ++ x ∷ []) xs rest ∙ ap (λ (ys : List RawPart). run (body raw n ps ys []) rest) (append_assoc gs (x ∷ []) xs)

run_effects : (raw : Raw) (n : List ℕ) (ps : List Param) (gs es xs : List RawPart) (rest : List PlainLine) → run (body raw n ps gs es) (map lines.Effect xs ++ rest) ≡ run (body raw n ps gs (es ++ xs)) rest
unfolding draft_with
run_effects raw n ps gs es [] rest = ap (λ (ys : List RawPart). run (body raw n ps gs ys) rest) (sym (append-nil es))
run_effects raw n ps gs es (x ∷ xs) rest = run_effects raw n ps gs (es ++ x ∷ []) xs rest ∙ ap (λ (ys : List RawPart). run (body raw n ps gs ys) rest) (append_assoc es (x ∷ []) xs)

-- the lines of a method after its name
abbrev inner_lines : RawMethod → List PlainLine
inner_lines m = map lines.Param m.params ++ (map lines.Guard m.guards ++ map lines.Effect m.effects)

run_method : (raw : Raw) (m : RawMethod) (rest : List PlainLine) → run (body raw m.name [] [] []) (inner_lines m ++ rest) ≡ run (Body raw m) rest
run_method raw m rest =
    let params = map lines.Param m.params in
    let guards = map lines.Guard m.guards in
    let effects = map lines.Effect m.effects in
    ap (run (body raw m.name [] [] [])) (append_assoc params (guards ++ effects) rest ∙ ap (λ (ls : List PlainLine). params ++ ls) (append_assoc guards effects rest))
    ∙ (run_params raw m.name [] m.params (guards ++ (effects ++ rest)) ∙ (run_guards raw m.name m.params [] m.guards (effects ++ rest) ∙ run_effects raw m.name m.params m.guards [] m.effects rest))

method_then : (d : Draft) (m : RawMethod) (ms : List RawMethod) → run d (flat_map method_lines (m ∷ ms) ++ lines.End ∷ []) ≡ run d (method_lines m ++ (flat_map method_lines ms ++ lines.End ∷ []))
method_then d m ms = ap (run d) (append_assoc (method_lines m) (flat_map method_lines ms) (lines.End ∷ []))

run_methods : (raw : Raw) (m : RawMethod) (ms : List RawMethod) → run (Body raw m) (flat_map method_lines ms ++ lines.End ∷ []) ≡ Some (Whole (object raw.relations raw.counters raw.invariants (raw.methods ++ m ∷ ms)))
unfolding draft_with
run_methods raw m [] = refl
run_methods raw m (n ∷ ms) =
    method_then (Body raw m) n ms
    ∙ (run_method (and_method raw m) n (flat_map method_lines ms ++ lines.End ∷ [])
    ∙ (run_methods (and_method raw m) n ms ∙ ap (λ (ys : List RawMethod). Some (Whole (object raw.relations raw.counters raw.invariants ys))) (append_assoc raw.methods (m ∷ []) (n ∷ ms))))

run_first : (rs : List RawRelation) (cs : List Counter) (is : List RawInvariant) (ms : List RawMethod) → run (front rs cs is) (flat_map method_lines ms ++ lines.End ∷ []) ≡ Some (Whole (object rs cs is ms))
unfolding draft_with
run_first rs cs is [] = refl
run_first rs cs is (m ∷ ms) =
    method_then (front rs cs is) m ms ∙ (run_method (object rs cs is []) m (flat_map method_lines ms ++ lines.End ∷ []) ∙ run_methods (object rs cs is []) m ms)

pub run_all : (raw : Raw) → run Nothing (plain_lines raw) ≡ Some (Whole raw)
unfolding draft_with
run_all raw =
    let methods = flat_map method_lines raw.methods ++ lines.End ∷ [] in
    let invariants = map lines.Invariant raw.invariants ++ methods in
    let counters = map lines.Counter raw.counters ++ invariants in
    run_relations [] raw.relations counters
    ∙ (run_counters raw.relations [] raw.counters invariants
    ∙ (run_invariants raw.relations raw.counters [] raw.invariants methods ∙ run_first raw.relations raw.counters raw.invariants raw.methods))

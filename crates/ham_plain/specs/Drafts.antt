-- Objects that are read line by line: which line may come next, and what it adds.
use Rattle.std.specs.Prelude.{ℕ, ◌==◌, ◌&&◌, Bool, true, false, List, [], ◌∷◌, ◌++◌, length, Option, Some, None, option_map, option_and_then, if◌then◌else◌}
use Rattle.ham_syntax.specs.declared.object.Param.{Param}
use Rattle.ham_check.specs.declared.raw.RawPart.{RawPart}
use Rattle.ham_check.specs.declared.raw.RawMethod.{RawMethod}
use Rattle.ham_check.specs.declared.raw.Raw.{Raw}
use Rattle.ham_plain.specs.declared.line.PlainLine.{PlainLine}
use Rattle.ham_plain.specs.declared.line.PlainLine.TheVariants as lines
use Rattle.ham_plain.specs.declared.draft.Draft.{Draft}
use Rattle.ham_plain.specs.declared.draft.Draft.TheVariants.{Nothing, Head, Body, Whole}
use Rattle.ham_plain.specs.declared.draft.Front.{Front}
use Rattle.ham_plain.specs.declared.plain.PlainReader.{PlainReader}
use Rattle.ham_plain.specs.Reading.{line_of}

-- the list is empty
abbrev pub has_none : {A : Type 0} → List A → Bool
has_none xs = length xs == 0

-- the object of what stands before the methods
abbrev pub without_methods : Front → Raw
without_methods f = record { relations = f.relations; counters = f.counters; invariants = f.invariants; methods = [] }

-- a method by its name, before its other lines
abbrev pub method_named : List ℕ → RawMethod
method_named name = record { name = name; params = []; guards = []; effects = [] }

-- a relation stands before the counters and the invariants, and a counter before the invariants
abbrev pub front_with : Front → PlainLine → Option Draft
front_with f (lines.Relation r) =
    if has_none f.counters && has_none f.invariants then Some (Head (record { relations = f.relations ++ r ∷ []; counters = f.counters; invariants = f.invariants })) else None
front_with f (lines.Counter c) = if has_none f.invariants then Some (Head (record { relations = f.relations; counters = f.counters ++ c ∷ []; invariants = f.invariants })) else None
front_with f (lines.Invariant i) = Some (Head (record { relations = f.relations; counters = f.counters; invariants = f.invariants ++ i ∷ [] }))
front_with f (lines.Method name) = Some (Body (without_methods f) (method_named name))
front_with f lines.End = Some (Whole (without_methods f))
front_with f lines.Opening = None
front_with f (lines.Param p) = None
front_with f (lines.Guard p) = None
front_with f (lines.Effect p) = None

-- the object with one method more
abbrev pub and_method : Raw → RawMethod → Raw
and_method raw m = record { relations = raw.relations; counters = raw.counters; invariants = raw.invariants; methods = raw.methods ++ m ∷ [] }

-- a parameter stands before the guards and the effects
abbrev pub with_param : RawMethod → Param → Option RawMethod
with_param m p = if has_none m.guards && has_none m.effects then Some (record { name = m.name; params = m.params ++ p ∷ []; guards = m.guards; effects = m.effects }) else None

-- a guard stands before the effects
abbrev pub with_guard : RawMethod → RawPart → Option RawMethod
with_guard m p = if has_none m.effects then Some (record { name = m.name; params = m.params; guards = m.guards ++ p ∷ []; effects = m.effects }) else None

-- an effect may stand after all others
abbrev pub with_effect : RawMethod → RawPart → RawMethod
with_effect m p = record { name = m.name; params = m.params; guards = m.guards; effects = m.effects ++ p ∷ [] }

-- a line after the first method
abbrev pub body_with : Raw → RawMethod → PlainLine → Option Draft
body_with raw m (lines.Param p) = option_map (λ n. Body raw n) (with_param m p)
body_with raw m (lines.Guard p) = option_map (λ n. Body raw n) (with_guard m p)
body_with raw m (lines.Effect p) = Some (Body raw (with_effect m p))
body_with raw m (lines.Method name) = Some (Body (and_method raw m) (method_named name))
body_with raw m lines.End = Some (Whole (and_method raw m))
body_with raw m lines.Opening = None
body_with raw m (lines.Relation r) = None
body_with raw m (lines.Counter c) = None
body_with raw m (lines.Invariant i) = None

-- the first line is the opening one
abbrev pub opened_with : PlainLine → Option Draft
opened_with lines.Opening = Some (Head (record { relations = []; counters = []; invariants = [] }))
opened_with (lines.Relation r) = None
opened_with (lines.Counter c) = None
opened_with (lines.Invariant i) = None
opened_with (lines.Method name) = None
opened_with (lines.Param p) = None
opened_with (lines.Guard p) = None
opened_with (lines.Effect p) = None
opened_with lines.End = None

-- what is read with one line more
unfoldable pub draft_with : Draft → PlainLine → Option Draft
draft_with Nothing line = opened_with line
draft_with (Head f) line = front_with f line
draft_with (Body raw m) line = body_with raw m line
draft_with (Whole raw) line = None

-- what is read with the line of these words, if it is one that may come next
abbrev pub draft_after : Draft → List (List ℕ) → Option Draft
draft_after d words = option_and_then (draft_with d) (line_of words)

abbrev pub after : PlainReader → List (List ℕ) → Option PlainReader
after r words = option_map (λ d. record r { draft = d }) (draft_after r.draft words)

-- the last line is read
abbrev pub is_end : Draft → Bool
is_end Nothing = false
is_end (Head f) = false
is_end (Body raw m) = false
is_end (Whole raw) = true

abbrev pub is_whole : PlainReader → Bool
is_whole r = is_end r.draft

-- What a line adds to what is read.
use Rattle.std.proofs.Common.{◌≡◌, true, ◌&&◌, List, [], ◌∷◌, ◌++◌, length, Some, refl, sym, ap, ◌∙◌, append_assoc, append-nil}
use Rattle.std.specs.Prelude.{map}
use Rattle.std.specs.List.{flat_map}
use Rattle.std.proofs.lemmas.Bool.{eqb-true, and_parts}
use Rattle.std.proofs.lemmas.List.{nil_from_length}
use Rattle.std.proofs.lemmas.List.Concat.{flat_map-append}
use Rattle.std.proofs.lemmas.Option.{same_Some}
use Rattle.ham_text.proofs.Choices.{only, mapped}
use Rattle.ham_syntax.specs.declared.object.Param.{Param}
use Rattle.ham_check.specs.declared.raw.RawPart.{RawPart}
use Rattle.ham_check.specs.declared.raw.RawMethod.{RawMethod}
use Rattle.ham_check.specs.declared.raw.Raw.{Raw}
use Rattle.ham_plain.specs.declared.line.PlainLine.{PlainLine}
use Rattle.ham_plain.specs.declared.line.PlainLine.TheVariants as lines
use Rattle.ham_plain.specs.declared.draft.Draft.{Draft}
use Rattle.ham_plain.specs.declared.draft.Draft.TheVariants.{Nothing, Head, Body, Whole}
use Rattle.ham_plain.specs.declared.draft.Front.{Front}
use Rattle.ham_plain.specs.Plain.{method_lines, plain_lines}
use Rattle.ham_plain.specs.Drafts.{has_none, front_with, with_param, with_guard, with_effect, body_with, opened_with, draft_with}

-- the lines of what is read
abbrev pub draft_lines : Draft → List PlainLine
draft_lines Nothing = []
draft_lines (Head f) = lines.Opening ∷ (map lines.Relation f.relations ++ (map lines.Counter f.counters ++ map lines.Invariant f.invariants))
draft_lines (Body raw m) =
    lines.Opening ∷ (map lines.Relation raw.relations ++ (map lines.Counter raw.counters ++ (map lines.Invariant raw.invariants ++ (flat_map method_lines raw.methods ++ method_lines m))))
draft_lines (Whole raw) = plain_lines raw

pub none_is : {A : Type 0} (xs : List A) → has_none xs ≡ true → xs ≡ []
none_is xs e = nil_from_length xs (eqb-true (length xs) 0 e)

map-last : {A B : Type 0} (f : A → B) (xs : List A) (x : A) → map f (xs ++ x ∷ []) ≡ map f xs ++ f x ∷ []
map-last f [] x = refl
map-last f (y ∷ xs) x = ap (λ zs. f y ∷ zs) (map-last f xs x)

pub flat-last : {A B : Type 0} (f : A → List B) (xs : List A) (x : A) → flat_map f (xs ++ x ∷ []) ≡ flat_map f xs ++ f x
flat-last f xs x = flat_map-append f xs (x ∷ []) ∙ ap (λ ys. flat_map f xs ++ ys) (append-nil (f x))

-- ---- one line more

abbrev pub Adds : Draft → PlainLine → Draft → Type 0
Adds d l e = draft_lines e ≡ draft_lines d ++ l ∷ []

opened_adds : (l : PlainLine) (e : Draft) → opened_with l ≡ Some e → Adds Nothing l e
opened_adds lines.Opening e h = ap draft_lines (sym (same_Some _ e h))
opened_adds (lines.Relation r) e h = absurd cc
opened_adds (lines.Counter c) e h = absurd cc
opened_adds (lines.Invariant i) e h = absurd cc
opened_adds (lines.Method n) e h = absurd cc
opened_adds (lines.Param p) e h = absurd cc
opened_adds (lines.Guard p) e h = absurd cc
opened_adds (lines.Effect p) e h = absurd cc
opened_adds lines.End e h = absurd cc

-- one more in the first part of three, of which the others are empty
first_last : (xs ys zs : List PlainLine) (l : PlainLine) → ys ≡ [] → zs ≡ [] → (xs ++ l ∷ []) ++ (ys ++ zs) ≡ (xs ++ (ys ++ zs)) ++ l ∷ []
first_last xs ys zs l g e =
    let rest : ys ++ zs ≡ [] = ap (λ (ls : List PlainLine). ls ++ zs) g ∙ e in
    ap (λ (ls : List PlainLine). (xs ++ l ∷ []) ++ ls) rest ∙ (append-nil (xs ++ l ∷ []) ∙ ap (λ (ls : List PlainLine). ls ++ l ∷ []) (sym (append-nil xs) ∙ ap (λ (ls : List PlainLine). xs ++ ls) (sym rest)))

-- one more in the second part of three, of which the last is empty
second_last : (xs ys zs : List PlainLine) (l : PlainLine) → zs ≡ [] → xs ++ ((ys ++ l ∷ []) ++ zs) ≡ (xs ++ (ys ++ zs)) ++ l ∷ []
second_last xs ys zs l e =
    ap (λ (ls : List PlainLine). xs ++ ((ys ++ l ∷ []) ++ ls)) e ∙ (ap (λ (ls : List PlainLine). xs ++ ls) (append-nil (ys ++ l ∷ []))
    ∙ (sym (append_assoc xs ys (l ∷ [])) ∙ ap (λ (ls : List PlainLine). (xs ++ ls) ++ l ∷ []) (sym (append-nil ys) ∙ ap (λ (ls : List PlainLine). ys ++ ls) (sym e))))

front_adds : (f : Front) (l : PlainLine) (e : Draft) → front_with f l ≡ Some e → Adds (Head f) l e
front_adds f lines.Opening e h = absurd cc
front_adds f (lines.Relation r) e h =
    let p = only (has_none f.counters && has_none f.invariants) _ e h in
    let q = and_parts (has_none f.counters) (has_none f.invariants) p.0 in
    let relations = map lines.Relation f.relations in
    let counters = map lines.Counter f.counters in
    let invariants = map lines.Invariant f.invariants in
    ap draft_lines (sym (same_Some _ e p.1))
    ∙ ap (λ (ls : List PlainLine). lines.Opening ∷ ls)
    (ap (λ (ls : List PlainLine). ls ++ (counters ++ invariants)) (map-last lines.Relation f.relations r)
    ∙ first_last relations counters invariants (lines.Relation r) (ap (map lines.Counter) (none_is f.counters q.0)) (ap (map lines.Invariant) (none_is f.invariants q.1)))
front_adds f (lines.Counter c) e h =
    let p = only (has_none f.invariants) _ e h in
    let relations = map lines.Relation f.relations in
    let counters = map lines.Counter f.counters in
    let invariants = map lines.Invariant f.invariants in
    ap draft_lines (sym (same_Some _ e p.1))
    ∙ ap (λ (ls : List PlainLine). lines.Opening ∷ ls)
    (ap (λ (ls : List PlainLine). relations ++ (ls ++ invariants)) (map-last lines.Counter f.counters c)
    ∙ second_last relations counters invariants (lines.Counter c) (ap (map lines.Invariant) (none_is f.invariants p.0)))
front_adds f (lines.Invariant i) e h = ap draft_lines (sym (same_Some _ e h)) ∙ simp (map-last, append_assoc)
front_adds f (lines.Method n) e h = ap draft_lines (sym (same_Some _ e h)) ∙ simp append_assoc
front_adds f (lines.Param p) e h = absurd cc
front_adds f (lines.Guard p) e h = absurd cc
front_adds f (lines.Effect p) e h = absurd cc
front_adds f lines.End e h = ap draft_lines (sym (same_Some _ e h)) ∙ simp append_assoc

param_adds : (m : RawMethod) (p : Param) (n : RawMethod) → with_param m p ≡ Some n → method_lines n ≡ method_lines m ++ lines.Param p ∷ []
param_adds m p n h =
    let q = only (has_none m.guards && has_none m.effects) _ n h in
    let r = and_parts (has_none m.guards) (has_none m.effects) q.0 in
    let params = map lines.Param m.params in
    let guards = map lines.Guard m.guards in
    let effects = map lines.Effect m.effects in
    ap method_lines (sym (same_Some _ n q.1))
    ∙ ap (λ (ls : List PlainLine). lines.Method m.name ∷ ls)
    (ap (λ (ls : List PlainLine). ls ++ (guards ++ effects)) (map-last lines.Param m.params p) ∙ first_last params guards effects (lines.Param p) (ap (map lines.Guard) (none_is m.guards r.0)) (ap (map lines.Effect) (none_is m.effects r.1)))

guard_adds : (m : RawMethod) (p : RawPart) (n : RawMethod) → with_guard m p ≡ Some n → method_lines n ≡ method_lines m ++ lines.Guard p ∷ []
guard_adds m p n h =
    let q = only (has_none m.effects) _ n h in
    let params = map lines.Param m.params in
    let guards = map lines.Guard m.guards in
    let effects = map lines.Effect m.effects in
    ap method_lines (sym (same_Some _ n q.1))
    ∙ ap (λ (ls : List PlainLine). lines.Method m.name ∷ ls)
    (ap (λ (ls : List PlainLine). params ++ (ls ++ effects)) (map-last lines.Guard m.guards p) ∙ second_last params guards effects (lines.Guard p) (ap (map lines.Effect) (none_is m.effects q.0)))

effect_adds : (m : RawMethod) (p : RawPart) → method_lines (with_effect m p) ≡ method_lines m ++ lines.Effect p ∷ []
effect_adds m p = simp (map-last, append_assoc)

within : (raw : Raw) (m n : RawMethod) (l : PlainLine) → method_lines n ≡ method_lines m ++ l ∷ [] → Adds (Body raw m) l (Body raw n)
within raw m n l h =
    ap (λ (ls : List PlainLine). lines.Opening ∷ (map lines.Relation raw.relations ++ (map lines.Counter raw.counters ++ (map lines.Invariant raw.invariants ++ (flat_map method_lines raw.methods ++ ls))))) h ∙ simp append_assoc

body_adds : (raw : Raw) (m : RawMethod) (l : PlainLine) (e : Draft) → body_with raw m l ≡ Some e → Adds (Body raw m) l e
body_adds raw m lines.Opening e h = absurd cc
body_adds raw m (lines.Relation r) e h = absurd cc
body_adds raw m (lines.Counter c) e h = absurd cc
body_adds raw m (lines.Invariant i) e h = absurd cc
body_adds raw m (lines.Method n) e h = ap draft_lines (sym (same_Some _ e h)) ∙ simp (flat-last, append_assoc)
body_adds raw m (lines.Param p) e h =
    let q = mapped (with_param m p) (λ n. Body raw n) e h in
    ap draft_lines (sym q.2) ∙ within raw m q.0 (lines.Param p) (param_adds m p q.0 q.1)
body_adds raw m (lines.Guard p) e h =
    let q = mapped (with_guard m p) (λ n. Body raw n) e h in
    ap draft_lines (sym q.2) ∙ within raw m q.0 (lines.Guard p) (guard_adds m p q.0 q.1)
body_adds raw m (lines.Effect p) e h = ap draft_lines (sym (same_Some _ e h)) ∙ within raw m (with_effect m p) (lines.Effect p) (effect_adds m p)
body_adds raw m lines.End e h = ap draft_lines (sym (same_Some _ e h)) ∙ simp (flat-last, append_assoc)

pub draft_adds : (d : Draft) (l : PlainLine) (e : Draft) → draft_with d l ≡ Some e → Adds d l e
unfolding draft_with
draft_adds Nothing l e h = opened_adds l e h
draft_adds (Head f) l e h = front_adds f l e h
draft_adds (Body raw m) l e h = body_adds raw m l e h
draft_adds (Whole raw) l e h = absurd cc

-- Bytes as objects in plain form: what is read of them, and their first bad line.
use Rattle.std.proofs.Common.{◌≡◌, ℕ, ◌+◌, true, false, List, [], ◌∷◌, ◌++◌, map, Option, Some, None, Result, Ok, Err, refl, sym, ap, ◌∙◌, subst, append_assoc, append-nil}
use Rattle.std.specs.Prelude.{option_and_then, option_map}
use Rattle.std.specs.List.{AllByRecursion, flat_map}
use Rattle.std.proofs.lemmas.List.{map-append, append_cancel_right}
use Rattle.std.proofs.lemmas.Option.{same_Some}
use Rattle.ham_text.specs.Cuts.{pieces_of}
use Rattle.ham_text.specs.Written.{nothing, lines_text}
use Rattle.ham_text.specs.BadLines.{IsFirstBadLine, IsClosed}
use Rattle.ham_text.specs.Forms.{Form, form, state_after, MayBegin, IsText, read_from}
use Rattle.ham_text.proofs.Wording.{lines_apart, lines_together}
use Rattle.ham_text.proofs.Reading.{kept, closed, text_read, read_text, first_bad, same_bad_line, one_bad_line}
use Rattle.ham_text.proofs.Choices.{steps, mapped}
use Rattle.ham_check.specs.declared.raw.Raw.{Raw}
use Rattle.ham_plain.specs.declared.line.PlainLine.{PlainLine}
use Rattle.ham_plain.specs.declared.line.PlainLine.TheVariants as lines
use Rattle.ham_plain.specs.declared.draft.Draft.{Draft}
use Rattle.ham_plain.specs.declared.draft.Draft.TheVariants.{Nothing, Head, Body, Whole}
use Rattle.ham_plain.specs.declared.plain.PlainReader.{PlainReader}
use Rattle.ham_forms.specs.declared.fault.FileFault.{FileFault}
use Rattle.ham_forms.specs.declared.fault.FileFault.TheVariants.{NotUtf8, NotToml, UnknownKey, MissingKey, BadValue, Ill, BadLine, NoMemory}
use Rattle.ham_plain.specs.Plain.{line_words, line_text, plain_lines, plain_form, IsProperLine, IsProper}
use Rattle.ham_plain.specs.PlainFiles.{object_words, BeginsObject, IsObject, IsPlainReading}
use Rattle.ham_plain.specs.Reading.{line_of}
use Rattle.ham_plain.specs.Drafts.{without_methods, and_method, draft_with, draft_after, after, is_end, is_whole}
use Rattle.ham_plain.proofs.Wording.{line_spelled, line_back}
use Rattle.ham_plain.proofs.Spaces.{lines_solid}
use Rattle.ham_plain.proofs.Adds.{draft_lines, Adds, draft_adds}
use Rattle.ham_plain.proofs.Runs.{run, run_all}

abbrev AllProper : List PlainLine → Type 0
AllProper ls = AllByRecursion IsProperLine ls

abbrev Lines : Type 0
Lines = List (List (List ℕ))

all_last : {A : Type 0} (P : A → Type 0) (xs : List A) (x : A) → AllByRecursion P xs → P x → AllByRecursion P (xs ++ x ∷ [])
all_last P [] x h p = (p, tt)
all_last P (y ∷ ys) x h p = (h.0, all_last P ys x h.1 p)

-- a reader with this draft
abbrev pub at : PlainReader → Draft → PlainReader
at r d = record r { draft = d }

abbrev pub plain_of : PlainReader → Form PlainReader
plain_of r = form after is_whole (at r Nothing)

-- ---- what is read is spelled

record IsAt (r : PlainReader) (lines : Lines) : Type 0 where
  spelled : lines ≡ map line_words (draft_lines r.draft)
  proper : AllProper (draft_lines r.draft)

line_taken : (r t : PlainReader) (lines : Lines) (words : List (List ℕ)) → IsAt r lines → after r words ≡ Some t → IsAt t (lines ++ words ∷ [])
line_taken r t lines words h e =
    let w = mapped (draft_after r.draft words) (λ d. record r { draft = d }) t e in
    let p = steps (line_of words) (draft_with r.draft) w.0 w.1 in
    let line = line_spelled words p.0 p.1 in
    let adds : draft_lines w.0 ≡ draft_lines r.draft ++ p.0 ∷ [] = draft_adds r.draft p.0 w.0 p.2 in
    let all : map line_words (draft_lines r.draft ++ p.0 ∷ []) ≡ map line_words (draft_lines r.draft) ++ line_words p.0 ∷ [] = map-append line_words (draft_lines r.draft) (p.0 ∷ []) in
    subst (λ u. IsAt u (lines ++ words ∷ [])) w.2
    (record {
      spelled = ap (λ ls. ls ++ words ∷ []) h.spelled ∙ ap (λ v. map line_words (draft_lines r.draft) ++ v ∷ []) line.words_are ∙ sym all ∙ ap (map line_words) (sym adds);
      proper = subst AllProper (sym adds) (all_last IsProperLine (draft_lines r.draft) p.0 h.proper line.fit);
    })

reached : (r t : PlainReader) (lines : Lines) → state_after (plain_of r) (at r Nothing) lines ≡ Some t → IsAt t lines
reached r t lines e = kept (plain_of r) IsAt (λ s u ls words h d. line_taken s u ls words h d) (at r Nothing) t [] lines (record { spelled = refl; proper = tt }) e

-- ---- what is spelled is read

line_reads : (r : PlainReader) (d : Draft) (l : PlainLine) → IsProperLine l → after (at r d) (line_words l) ≡ option_map (at r) (draft_with d l)
line_reads r d l h = ap (λ o. option_map (at r) (option_and_then (draft_with d) o)) (line_back l h)

lines_read : (r : PlainReader) (d e : Draft) (ls : List PlainLine) → AllProper ls → run d ls ≡ Some e → state_after (plain_of r) (at r d) (map line_words ls) ≡ Some (at r e)
lines_read r d e [] h ran = ap (option_map (at r)) ran
lines_read r d e (l ∷ ls) h ran =
    let p = steps (draft_with d l) (λ f. run f ls) e ran in
    ap (option_and_then (λ t. state_after (plain_of r) t (map line_words ls))) (line_reads r d l h.0 ∙ ap (option_map (at r)) p.1)
    ∙ lines_read r p.0 e ls h.1 p.2

object_read : (r : PlainReader) (raw : Raw) → IsProper raw → state_after (plain_of r) (at r Nothing) (object_words raw) ≡ Some (at r (Whole raw))
unfolding IsProper
object_read r raw h = lines_read r Nothing (Whole raw) (plain_lines raw) h (run_all raw)

-- ---- an object whose lines begin with those of what is read

record Finishes (d : Draft) : Type 0 where
  raw : Raw
  proper : AllProper (plain_lines raw)
  rest : List PlainLine
  more : plain_lines raw ≡ draft_lines d ++ rest

by_end : (d : Draft) (raw : Raw) → AllProper (draft_lines d) → Adds d lines.End (Whole raw) → Finishes d
by_end d raw h a = record { raw = raw; proper = subst AllProper (sym a) (all_last IsProperLine (draft_lines d) lines.End h tt); rest = lines.End ∷ []; more = a }

finishes : (d : Draft) → AllProper (draft_lines d) → Finishes d
unfolding draft_with
finishes Nothing h = record { raw = record { relations = []; counters = []; invariants = []; methods = [] }; proper = (tt, (tt, tt)); rest = lines.Opening ∷ lines.End ∷ []; more = refl }
finishes (Head f) h = by_end (Head f) (without_methods f) h (draft_adds (Head f) lines.End (Whole (without_methods f)) refl)
finishes (Body raw m) h = by_end (Body raw m) (and_method raw m) h (draft_adds (Body raw m) lines.End (Whole (and_method raw m)) refl)
finishes (Whole raw) h = record { raw = raw; proper = h; rest = []; more = sym (append-nil (plain_lines raw)) }

-- ---- the form's texts are the objects'

begins_object : (r : PlainReader) (lines : Lines) → MayBegin (plain_of r) lines → BeginsObject lines
unfolding IsProper
begins_object r lines h =
    let w = reached r h.state lines h.reached in
    let f = finishes h.state.draft w.proper in
    record {
      raw = f.raw;
      proper = f.proper;
      rest = map line_words f.rest;
      spelled = ap (map line_words) f.more ∙ map-append line_words (draft_lines h.state.draft) f.rest ∙ ap (λ (ls : Lines). ls ++ map line_words f.rest) (sym w.spelled);
    }

may_begin : (r : PlainReader) (lines : Lines) → BeginsObject lines → MayBegin (plain_of r) lines
may_begin r lines h =
    closed (plain_of r) lines h.rest (record { state = at r (Whole h.raw); reached = ap (state_after (plain_of r) (at r Nothing)) (sym h.spelled) ∙ object_read r h.raw h.proper })

is_text : (r : PlainReader) (lines : Lines) → IsObject lines → IsText (plain_of r) lines
is_text r lines h = record { state = at r (Whole h.raw); reached = ap (state_after (plain_of r) (at r Nothing)) h.spelled ∙ object_read r h.raw h.proper; ends = refl }

begins_closed : IsClosed BeginsObject
begins_closed lines more h = record { raw = h.raw; proper = h.proper; rest = more ++ h.rest; spelled = h.spelled ∙ append_assoc lines more h.rest }

-- ---- bytes

texts_are : (ls : List PlainLine) → flat_map line_text ls ≡ lines_text (map line_words ls)
texts_are [] = refl
texts_are (l ∷ ls) = ap (λ (text : List ℕ). line_text l ++ text) (texts_are ls)

form_apart : (raw : Raw) → IsProper raw → pieces_of (plain_form raw) ≡ object_words raw ++ nothing ∷ []
unfolding IsProper plain_form
form_apart raw h = ap pieces_of (texts_are (plain_lines raw)) ∙ lines_apart (object_words raw) (lines_solid (plain_lines raw) h)

form_together : (raw : Raw) (bytes : List ℕ) → pieces_of bytes ≡ object_words raw ++ nothing ∷ [] → bytes ≡ plain_form raw
unfolding plain_form
form_together raw bytes e = lines_together (object_words raw) bytes e ∙ sym (texts_are (plain_lines raw))

-- ---- what a reader's answer says

pub not_whole : (d : Draft) → ((raw : Raw) → d ≡ Whole raw → ⊥) → is_end d ≡ true → ⊥
not_whole Nothing h e = absurd cc
not_whole (Head f) h e = absurd cc
not_whole (Body raw m) h e = absurd cc
not_whole (Whole raw) h e = h raw refl

pub ended : (r : PlainReader) (bytes : List ℕ) (t : PlainReader) → read_from (plain_of r) (at r Nothing) 1 (pieces_of bytes) ≡ Ok t → is_whole t ≡ true
ended r bytes t e = (read_text (plain_of r) (at r Nothing) t 1 (pieces_of bytes) e).ends

pub object_found : (r : PlainReader) (bytes : List ℕ) (t : PlainReader) (raw : Raw) → read_from (plain_of r) (at r Nothing) 1 (pieces_of bytes) ≡ Ok t → t.draft ≡ Whole raw → IsPlainReading bytes (Ok raw)
unfolding IsProper
object_found r bytes t raw e d =
    let w = read_text (plain_of r) (at r Nothing) t 1 (pieces_of bytes) e in
    let h = reached r t w.lines w.reached in
    let same : draft_lines t.draft ≡ plain_lines raw = ap draft_lines d in
    (subst AllProper same h.proper, form_together raw bytes (w.pieces_are ∙ ap (λ (ls : Lines). ls ++ nothing ∷ []) (h.spelled ∙ ap (map line_words) same)))

pub bad_line : (r : PlainReader) (bytes : List ℕ) (n : ℕ) → read_from (plain_of r) (at r Nothing) 1 (pieces_of bytes) ≡ Err n → IsPlainReading bytes (Err (BadLine n))
bad_line r bytes n e =
    same_bad_line (MayBegin (plain_of r)) (IsText (plain_of r)) BeginsObject IsObject (begins_object r) (may_begin r) (is_text r) bytes n (first_bad (plain_of r) bytes n e)

-- ---- bytes are read once

no_object : (bytes : List ℕ) (n : ℕ) → IsFirstBadLine BeginsObject IsObject bytes n → (raw : Raw) → IsProper raw → bytes ≡ plain_form raw → ⊥
no_object bytes n bad raw h e = bad.no_text (object_words raw) (ap pieces_of e ∙ form_apart raw h) (record { raw = raw; proper = h; spelled = refl })

-- proper lines of the same words are the same
same_lines : (ls ms : List PlainLine) → AllProper ls → AllProper ms → map line_words ls ≡ map line_words ms → ls ≡ ms
same_lines [] [] h k e = refl
same_lines [] (m ∷ ms) h k e = absurd cc
same_lines (l ∷ ls) [] h k e = absurd cc
same_lines (l ∷ ls) (m ∷ ms) h k e =
    let words : line_words l ≡ line_words m = cc in
    let others : map line_words ls ≡ map line_words ms = cc in
    let first = same_Some l m (sym (line_back l h.0) ∙ (ap line_of words ∙ line_back m k.0)) in
    let rest = same_lines ls ms h.1 k.1 others in
    cc

same_whole : (raw other : Raw) → ◌≡◌ {A = Draft} (Whole raw) (Whole other) → raw ≡ other
same_whole raw other e = cc

-- an object's plain form is that of no other
same_object : (raw other : Raw) → IsProper raw → IsProper other → plain_form raw ≡ plain_form other → raw ≡ other
unfolding IsProper
same_object raw other h k e =
    let pieces = sym (form_apart raw h) ∙ (ap pieces_of e ∙ form_apart other k) in
    let words = append_cancel_right (object_words raw) (object_words other) (nothing ∷ []) pieces in
    let lines_same = same_lines (plain_lines raw) (plain_lines other) h k words in
    same_whole raw other (same_Some (Whole raw) (Whole other) (sym (run_all raw) ∙ (ap (run Nothing) lines_same ∙ run_all other)))

-- bytes are read as one object, or have one first bad line
pub read_once : (bytes : List ℕ) (r s : Result Raw FileFault) → IsPlainReading bytes r → IsPlainReading bytes s → r ≡ s
read_once bytes (Ok raw) (Ok other) h k = ap Ok (same_object raw other h.0 k.0 (sym h.1 ∙ k.1))
read_once bytes (Ok raw) (Err (BadLine n)) h k = absurd (no_object bytes n k raw h.0 h.1)
read_once bytes (Err (BadLine n)) (Ok raw) h k = absurd (no_object bytes n h raw k.0 k.1)
read_once bytes (Err (BadLine m)) (Err (BadLine n)) h k = ap (λ (l : ℕ). Err (BadLine l)) (one_bad_line BeginsObject IsObject begins_closed bytes m n h k)
read_once bytes r (Err (NotUtf8 at)) h k = absurd k
read_once bytes r (Err NotToml) h k = absurd k
read_once bytes r (Err (UnknownKey key)) h k = absurd k
read_once bytes r (Err (MissingKey key)) h k = absurd k
read_once bytes r (Err (BadValue key)) h k = absurd k
read_once bytes r (Err (Ill ill)) h k = absurd k
read_once bytes r (Err NoMemory) h k = absurd k
read_once bytes (Err (NotUtf8 at)) s h k = absurd h
read_once bytes (Err NotToml) s h k = absurd h
read_once bytes (Err (UnknownKey key)) s h k = absurd h
read_once bytes (Err (MissingKey key)) s h k = absurd h
read_once bytes (Err (BadValue key)) s h k = absurd h
read_once bytes (Err (Ill ill)) s h k = absurd h
read_once bytes (Err NoMemory) s h k = absurd h

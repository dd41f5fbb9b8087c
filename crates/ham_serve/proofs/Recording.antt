-- A call's line, written piece by piece, and the lines of recorded calls.
use Rattle.std.proofs.Common.{◌≡◌, ℕ, ◌<◌, Bool, List, [], ◌∷◌, ◌++◌, length, map, if◌then◌else◌, refl, sym, ap, ◌∙◌, append_assoc}
use Rattle.std.proofs.lemmas.Bool.{lt-ltb}
use Rattle.std.specs.Prelude.{codes}
use Rattle.std.specs.Fmt.{decimal}
use Rattle.std.specs.List.{AllByRecursion, flat_map}
use Rattle.ham_text.specs.Written.{spaced, joined, line_text, lines_text}
use Rattle.ham_text.proofs.Wording.{joined_spaced}
use Rattle.ham_syntax.specs.declared.act.Call.{Call}
use Rattle.ham_syntax.specs.Objects.{Schema, method_name}
use Rattle.ham_records.specs.Texts as records
use Rattle.ham_serve.specs.Recorded.{method_word, call_words, call_line, recorded_text, logged_of, RecordedAreLines}

regrouped : (t w a b c d : List ℕ) → ((((t ++ w) ++ a) ++ b) ++ c) ++ d ≡ t ++ (w ++ (a ++ (b ++ (c ++ d))))
regrouped t w a b c d = simp append_assoc

pub call_put : (w l k m : List ℕ) (args : List (List ℕ)) (t word lane number method : List ℕ) → word ≡ t ++ 10 ∷ w → lane ≡ word ++ 32 ∷ l → number ≡ lane ++ 32 ∷ k → method ≡ number ++ 32 ∷ m
    → method ++ spaced args ≡ t ++ 10 ∷ joined (w ∷ l ∷ k ∷ m ∷ args)
call_put w l k m args t word lane number method a b c d =
    ap (λ z. z ++ spaced args) (d ∙ ap (λ z. z ++ 32 ∷ m) (c ∙ ap (λ z. z ++ 32 ∷ k) (b ∙ ap (λ z. z ++ 32 ∷ l) a)))
    ∙ regrouped t (10 ∷ w) (32 ∷ l) (32 ∷ k) (32 ∷ m) (spaced args)
    ∙ ap (λ z. t ++ 10 ∷ z) (sym (joined_spaced w (l ∷ k ∷ m ∷ args)))

-- ---- lines of records

named_word : (o : Schema) (m : ℕ) → m < length o.methods → method_word o m ≡ method_name o m
named_word o m h = ap (λ (b : Bool). if b then method_name o m else decimal m) (lt-ltb m (length o.methods) h)

same_words : (o : Schema) (c : Call) → c.act.method < length o.methods → call_words o c ≡ records.call_words o (logged_of c)
same_words o c h =
    ap (λ (w : List ℕ). codes "call" ∷ decimal c.lane ∷ decimal c.number ∷ w ∷ map decimal c.act.args) (named_word o c.act.method h)

lines_end : (o : Schema) (calls : List Call) → AllByRecursion (λ c. c.act.method < length o.methods) calls
    → flat_map (call_line o) calls ++ 10 ∷ [] ≡ 10 ∷ lines_text (map (records.call_words o) (map logged_of calls))
lines_end o [] h = refl
lines_end o (c ∷ calls) h =
    append_assoc (call_line o c) (flat_map (call_line o) calls) (10 ∷ [])
    ∙ ap (λ (l : List ℕ). call_line o c ++ l) (lines_end o calls h.1)
    ∙ ap (λ (ws : List (List ℕ)). (10 ∷ joined ws) ++ 10 ∷ lines_text (map (records.call_words o) (map logged_of calls))) (same_words o c h.0)
    ∙ ap (λ (l : List ℕ). 10 ∷ l) (sym (append_assoc (joined (records.call_words o (logged_of c))) (10 ∷ []) (lines_text (map (records.call_words o) (map logged_of calls)))))

pub recorded_lines : RecordedAreLines
recorded_lines o calls h =
    append_assoc (codes "record " ++ decimal (length calls)) (flat_map (call_line o) calls) (10 ∷ [])
    ∙ ap (λ (l : List ℕ). (codes "record " ++ decimal (length calls)) ++ l) (lines_end o calls h)
    ∙ sym (append_assoc (codes "record " ++ decimal (length calls)) (10 ∷ []) (lines_text (map (records.call_words o) (map logged_of calls))))

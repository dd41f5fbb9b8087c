-- The text of recorded calls, without the last line's end.
use Rattle.std.specs.Prelude.{◌≡◌, ℕ, ◌<◌, nat_lt, if◌then◌else◌, List, [], ◌∷◌, ◌++◌, length, map, codes}
use Rattle.std.specs.List.{AllByRecursion, flat_map}
use Rattle.std.specs.Fmt.{decimal}
use Rattle.ham_text.specs.Written.{joined, line_text, lines_text}
use Rattle.ham_syntax.specs.declared.act.Call.{Call}
use Rattle.ham_syntax.specs.Objects.{Schema, method_name}
use Rattle.ham_turns.specs.Words.{place_of}
use Rattle.ham_records.specs.declared.records.Logged.{Logged}
use Rattle.ham_records.specs.Texts as records

-- a method's name; its number, where the object has no such method
abbrev pub method_word : Schema → ℕ → List ℕ
method_word o m = if nat_lt m (length o.methods) then method_name o m else decimal m

abbrev pub call_words : Schema → Call → List (List ℕ)
call_words o c = codes "call" ∷ decimal c.lane ∷ decimal c.number ∷ method_word o c.act.method ∷ map decimal c.act.args

-- a call's line, after the end of the line before it
abbrev pub call_line : Schema → Call → List ℕ
call_line o c = 10 ∷ joined (call_words o c)

-- how many calls there are, and then each on a line of its own
abbrev pub recorded_text : Schema → List Call → List ℕ
recorded_text o calls = (codes "record " ++ decimal (length calls)) ++ flat_map (call_line o) calls

-- ---- such calls as records have them

abbrev pub logged_of : Call → Logged
logged_of c = record { place = place_of c; act = c.act }

-- Of calls of the object's methods, the text and its end are a line with their number and their lines in a text of records.
abbrev pub RecordedAreLines : Type 0
RecordedAreLines = (o : Schema) (calls : List Call) → AllByRecursion (λ c. c.act.method < length o.methods) calls
    → recorded_text o calls ++ 10 ∷ [] ≡ line_text (codes "record" ∷ decimal (length calls) ∷ []) ++ lines_text (map (records.call_words o) (map logged_of calls))

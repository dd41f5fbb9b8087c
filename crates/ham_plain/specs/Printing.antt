-- Lines as they are printed, piece by piece.
use Rattle.std.specs.Prelude.{ℕ, List, [], ◌∷◌, ◌++◌}
use Rattle.std.specs.List.{flat_map, join_with_byte}
use Rattle.ham_syntax.specs.declared.object.Method.{Method}
use Rattle.ham_syntax.specs.Objects.{Schema}
use Rattle.ham_plain.specs.Plain.{line_text, method_lines}
use Rattle.ham_plain.specs.Written.{written_method}

-- a line that begins with this text and goes on with these words
abbrev pub line_from : List ℕ → List (List ℕ) → List ℕ
line_from start words = (start ++ 32 ∷ join_with_byte 32 words) ++ 10 ∷ []

-- the lines of a method
unfoldable pub method_text : Schema → Method → List ℕ
method_text o m = flat_map line_text (method_lines (written_method o m))

-- The text of an example, line by line.
--     example_lines    the lines: the claim, the rows, the values, the acts, what is shown, and the end
--     example_text     the text
use Rattle.std.specs.Prelude.{ℕ, pos, min, max, List, [], ◌∷◌, ◌++◌, length, map, slice_get, Option, Some, None, codes, if◌then◌else◌}
use Rattle.std.specs.List.{flat_map}
use Rattle.std.specs.Ordering.{int_eq}
use Rattle.std.specs.Fmt.{decimal, signed_decimal}
use Rattle.ham_text.specs.Written.{lines_text}
use Rattle.ham_syntax.specs.declared.act.Act.{Act}
use Rattle.ham_syntax.specs.declared.object.Counter.{Counter}
use Rattle.ham_syntax.specs.Objects.{Schema, name_by, method_name}
use Rattle.ham_steps.specs.Content.{State, rows, value}
use Rattle.ham_meaning.specs.declared.outcome.Outcome.TheVariants as outcomes
use Rattle.ham_rules.specs.declared.claim.Claim.{Claim}
use Rattle.ham_rules.specs.declared.claim.Claim.TheVariants.{Sc, Is, Pr, Pl}
use Rattle.ham_rules.specs.Claims.{lists_below}
use Rattle.ham_derive.specs.Texts.{claim_words}
use Rattle.ham_witness.specs.declared.answers.Example.{Example}
use Rattle.ham_witness.specs.declared.answers.Shown.{Shown}
use Rattle.ham_witness.specs.declared.answers.Shown.TheVariants as shown
use Rattle.ham_witness.specs.declared.ids.Ids.{Ids}
use Rattle.ham_witness.specs.Cases.{ids_of}

abbrev pub relation_name : Schema → ℕ → List ℕ
relation_name o r = name_by (λ x. x.name) (slice_get o.relations r)

abbrev pub counter_name : Schema → ℕ → List ℕ
counter_name o c = name_by (λ x. x.name) (slice_get o.counters c)

-- the word for a claim's relation
abbrev pub kind_word : Claim → List ℕ
kind_word (Sc m n) = codes "sc"
kind_word (Is m) = codes "is"
kind_word (Pr m n) = codes "pr"
kind_word (Pl m n) = codes "pl"

-- a line of a word, a name and numbers
abbrev pub named_line : List ℕ → List ℕ → List ℕ → List (List ℕ)
named_line word name numbers = word ∷ name ∷ map decimal numbers

-- ---- rows: of each relation, ascending

abbrev pub row_lines_of : Schema → State → ℕ → List (List (List ℕ))
row_lines_of o s r = map (named_line (codes "row") (relation_name o r)) (rows s r)

abbrev pub row_lines : Schema → State → List (List (List ℕ))
row_lines o s = lists_below (length o.relations) (row_lines_of o s)

-- ---- values that are not 0: of each counter at each key that a made-up state may have, ascending

abbrev pub ascending_keys : Ids → Option Counter → List ℕ
ascending_keys ids None = []
ascending_keys ids (Some counter) = if counter.keyed then min ids.c ids.d ∷ max ids.c ids.d ∷ [] else 0 ∷ []

abbrev pub value_lines_at : Schema → State → ℕ → ℕ → List (List (List ℕ))
value_lines_at o s c key = if int_eq (value s c key) (pos 0) then [] else (codes "value" ∷ counter_name o c ∷ decimal key ∷ signed_decimal (value s c key) ∷ []) ∷ []

abbrev pub value_lines_of : Schema → Ids → State → ℕ → List (List (List ℕ))
value_lines_of o ids s c = flat_map (value_lines_at o s c) (ascending_keys ids (slice_get o.counters c))

abbrev pub value_lines : Schema → Ids → State → List (List (List ℕ))
value_lines o ids s = lists_below (length o.counters) (value_lines_of o ids s)

-- ---- acts, and what is shown

abbrev pub act_line : Schema → List ℕ → Act → List (List ℕ)
act_line o word act = named_line word (method_name o act.method) act.args

abbrev pub second_lines : Schema → Option Act → List (List (List ℕ))
second_lines o None = []
second_lines o (Some act) = act_line o (codes "n") act ∷ []

abbrev pub shown_words : Shown → List (List ℕ)
shown_words shown.Unequal = codes "unequal" ∷ []
shown_words (shown.Outcome outcomes.Yes) = codes "yes" ∷ []
shown_words (shown.Outcome (outcomes.Guard i)) = codes "guard" ∷ decimal i ∷ []
shown_words (shown.Outcome (outcomes.Invariant i)) = codes "invariant" ∷ decimal i ∷ []

-- ---- the whole

abbrev pub example_lines : Schema → Claim → Example → List (List (List ℕ))
example_lines o claim e =
    (codes "example" ∷ claim_words o claim)
    ∷ (row_lines o e.state.content ++ (value_lines o (ids_of o claim) e.state.content ++ (act_line o (codes "m") e.m ∷ (second_lines o e.n ++ ((codes "shows" ∷ shown_words e.shown) ∷ (codes "end" ∷ []) ∷ [])))))

unfoldable pub example_text : Schema → Claim → Example → List ℕ
example_text o claim e = lines_text (example_lines o claim e)

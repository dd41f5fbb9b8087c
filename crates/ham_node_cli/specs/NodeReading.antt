-- How the words of a node are read, word by word. The reader's own steps: nothing else rests on them, and what it finds is
-- what the words ask.
use Rattle.std.specs.Prelude.{ℕ, nat_le, Bool, true, false, ◌&&◌, List, [], ◌∷◌, length, map, Option, Some, None, option_and_then, option_map, if◌then◌else◌, codes}
use Rattle.std.specs.List.{list_all}
use Rattle.std.specs.Str.{bytes_eq}
use Rattle.ham_syntax.specs.declared.limits.TheConstants.{MAX_REPLICAS}
use Rattle.ham_text.specs.Numbers.{number_of}
use Rattle.ham_workers.specs.declared.base.TheConstants.{MIN_BASE, MAX_BASE}
use Rattle.ham_node_cli.specs.declared.words.NodeCommand.{NodeCommand}
use Rattle.ham_node_cli.specs.NodeWords.{AskedNode}

abbrev pub within : ℕ → ℕ → ℕ → Option ℕ
within low high n = if nat_le low n && nat_le n high then Some n else None

-- one of so many replicas
unfoldable pub me_of : List ℕ → ℕ → Option ℕ
me_of word replicas = option_and_then (within 1 replicas) (number_of word)

unfoldable pub base_of : List ℕ → Option ℕ
base_of word = option_and_then (within MIN_BASE MAX_BASE) (number_of word)

abbrev pub is_some : Option ℕ → Bool
is_some None = false
is_some (Some n) = true

abbrev pub is_base : List ℕ → Bool
is_base word = is_some (base_of word)

abbrev pub base_or : Option ℕ → ℕ
base_or None = MIN_BASE
base_or (Some n) = n

-- the number of a word that is a base
abbrev pub base_in : List ℕ → ℕ
base_in word = base_or (base_of word)

abbrev pub are_bases : List (List ℕ) → Bool
are_bases words = list_all is_base words

unfoldable pub read_rest : List ℕ → List ℕ → List (List ℕ) → Option AskedNode
read_rest object me bases =
    if nat_le (length bases) MAX_REPLICAS && are_bases bases
    then option_map (λ m. record { object = object; me = m; bases = map base_in bases }) (me_of me (length bases))
    else None

unfoldable pub read_verb : List ℕ → List ℕ → List ℕ → List (List ℕ) → Option AskedNode
read_verb verb object me bases = if bytes_eq verb (codes "node") then read_rest object me bases else None

abbrev pub read : List (List ℕ) → Option AskedNode
read (verb ∷ object ∷ me ∷ bases) = read_verb verb object me bases
read words = None

-- a node as its words name it
abbrev pub seen : NodeCommand → AskedNode
seen c = record { object = c.object.now; me = c.me; bases = map base_in c.bases.now }

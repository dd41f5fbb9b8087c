-- How the words of the command line are read, word by word. The reader's own steps: nothing else rests on them, and
-- what it finds is what the words ask.
use Rattle.std.specs.Prelude.{ℕ, nat_le, ◌&&◌, List, [], ◌∷◌, Option, Some, None, option_and_then, option_map, if◌then◌else◌, codes}
use Rattle.std.specs.Str.{bytes_eq}
use Rattle.ham_syntax.specs.declared.limits.TheConstants.{MAX_REPLICAS}
use Rattle.ham_syntax.specs.Names.{is_name}
use Rattle.ham_text.specs.Numbers.{number_of, ◌>>=◌}
use Rattle.ham_bulk.specs.declared.drafting.TheConstants.{MAX_ROUNDS}
use Rattle.ham_cli.specs.declared.command.Drawing.{Drawing}
use Rattle.ham_cli.specs.declared.named.NamedClaim.{NamedClaim}
use Rattle.ham_cli.specs.declared.named.NamedClaim.TheVariants.{Sc, Pr, Pl, Is}
use Rattle.ham_cli.specs.Commands.{Asked, Normalizes, Replays, Records, Audits, Checks, Derives, Exemplifies, Tabulates, Bulks, Scripts}

-- the one word that there is
abbrev pub only : List (List ℕ) → Option (List ℕ)
only (w ∷ []) = Some w
only _ = None

-- is M, where M is a name
unfoldable pub claim_on_one : List ℕ → List ℕ → Option NamedClaim
claim_on_one kind m = if is_name m && bytes_eq kind (codes "is") then Some (Is m) else None

-- sc, pr or pl, with two names
abbrev pub claim_of_kind : List ℕ → List ℕ → List ℕ → Option NamedClaim
claim_of_kind kind m n =
    if bytes_eq kind (codes "sc") then Some (Sc m n)
    else if bytes_eq kind (codes "pr") then Some (Pr m n)
    else if bytes_eq kind (codes "pl") then Some (Pl m n)
    else None

-- sc M N, pr M N or pl M N, where M and N are names
unfoldable pub claim_on_two : List ℕ → List ℕ → List ℕ → Option NamedClaim
claim_on_two kind m n = if is_name m && is_name n then claim_of_kind kind m n else None

abbrev pub claim_in : List (List ℕ) → Option NamedClaim
claim_in (kind ∷ m ∷ []) = claim_on_one kind m
claim_in (kind ∷ m ∷ n ∷ []) = claim_on_two kind m n
claim_in _ = None

-- a number of replicas
abbrev pub few_of : ℕ → Option ℕ
few_of n = if nat_le 1 n && nat_le n MAX_REPLICAS then Some n else None

unfoldable pub replicas_of : List ℕ → Option ℕ
replicas_of word = option_and_then few_of (number_of word)

-- a number of rounds
abbrev pub rounds_in : ℕ → Option ℕ
rounds_in n = if nat_le n MAX_ROUNDS then Some n else None

unfoldable pub rounds_of : List ℕ → Option ℕ
rounds_of word = option_and_then rounds_in (number_of word)

-- SEED N ROUNDS
unfoldable pub drawing_of : List ℕ → List ℕ → List ℕ → Option Drawing
drawing_of seed replicas rounds = do
  s ← number_of seed
  n ← replicas_of replicas
  k ← rounds_of rounds
  Some (record { seed = s; replicas = n; rounds = k })

abbrev pub drawing_in : List (List ℕ) → Option Drawing
drawing_in (seed ∷ replicas ∷ rounds ∷ []) = drawing_of seed replicas rounds
drawing_in _ = None

abbrev pub normal_in : List (List ℕ) → Option Asked
normal_in [] = Some Normalizes
normal_in (w ∷ ws) = None

-- a verb, and the words after the object's file
unfoldable pub asked_by : List ℕ → List (List ℕ) → Option Asked
asked_by verb rest =
    if bytes_eq verb (codes "normal") then normal_in rest
    else if bytes_eq verb (codes "replay") then option_map Replays (only rest)
    else if bytes_eq verb (codes "record") then option_map Records (only rest)
    else if bytes_eq verb (codes "audit") then option_map Audits (only rest)
    else if bytes_eq verb (codes "check") then option_map Checks (only rest)
    else if bytes_eq verb (codes "derive") then option_map Derives (claim_in rest)
    else if bytes_eq verb (codes "example") then option_map Exemplifies (claim_in rest)
    else if bytes_eq verb (codes "tables") then option_map Tabulates (option_and_then replicas_of (only rest))
    else if bytes_eq verb (codes "bulk") then option_map Bulks (drawing_in rest)
    else if bytes_eq verb (codes "script") then option_map Scripts (drawing_in rest)
    else None

-- the object's file, and what is asked of the object
abbrev pub read : List (List ℕ) → Option (List ℕ × Asked)
read (verb ∷ object ∷ rest) = option_map (λ asked. (object, asked)) (asked_by verb rest)
read _ = None

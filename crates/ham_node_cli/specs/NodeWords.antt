-- What the words of `node OBJECT ME BASE1 .. BASEN` ask.
--     node_words    the words of a node
--     AsksNode      the words are a node's, all of them are text, and its numbers are in range
use Rattle.std.specs.Prelude.{◌≡◌, ℕ, ◌≤◌, true, List, ◌∷◌, length, map, codes}
use Rattle.std.specs.List.{list_all, AllByRecursion}
use Rattle.std.specs.Str.{is_utf8}
use Rattle.std.specs.Fmt.{decimal}
use Rattle.ham_syntax.specs.declared.limits.TheConstants.{MAX_REPLICAS}
use Rattle.ham_workers.specs.declared.base.TheConstants.{MIN_BASE, MAX_BASE}

-- the object's file, which replica it is, and the base of each
pub record AskedNode : Type 0 where
  pub object : List ℕ
  pub me : ℕ
  pub bases : List ℕ

abbrev pub node_words : AskedNode → List (List ℕ)
node_words a = codes "node" ∷ a.object ∷ decimal a.me ∷ map decimal a.bases

abbrev pub IsBase : ℕ → Type 0
IsBase n = (MIN_BASE ≤ n) × (n ≤ MAX_BASE)

-- one of so many replicas, which aren't too many
pub record IsOneOf (me replicas : ℕ) : Type 0 where
  pub some : 1 ≤ me
  pub within : me ≤ replicas
  pub few : replicas ≤ MAX_REPLICAS

pub record IsNode (a : AskedNode) : Type 0 where
  pub one : IsOneOf a.me (length a.bases)
  pub bases : AllByRecursion IsBase a.bases

pub record AsksNode (words : List (List ℕ)) (a : AskedNode) : Type 0 where
  pub words_are : words ≡ node_words a
  pub text : list_all is_utf8 words ≡ true
  pub in_range : IsNode a

abbrev pub AsksNoNode : List (List ℕ) → Type 0
AsksNoNode words = (a : AskedNode) → AsksNode words a → ⊥

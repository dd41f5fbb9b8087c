-- What words stand for, in both forms of object files: none where a word stands for nothing.
use Rattle.std.specs.Prelude.{◌≡◌, ℕ, ◌-◌, ◌^◌, ◌==◌, ◌&&◌, nat_lt, nat_le, nat_eq, pos, negsuc, ℤ, Bool, true, false, List, [], ◌∷◌, Option, Some, None, Result, Ok, Err, option_map, option_and_then, if◌then◌else◌, codes}
use Rattle.std.specs.Cmp.Lexicographic.{pointwise}
use Rattle.ham_text.specs.Numbers.{number_of, ◌>>=◌}
use Rattle.ham_text.specs.Words.{if_word}
use Rattle.ham_syntax.specs.declared.object.Kind.{Kind}
use Rattle.ham_syntax.specs.declared.object.Kind.TheVariants.{Id, Amount}
use Rattle.ham_check.specs.declared.raw.Verb.{Verb}
use Rattle.ham_check.specs.declared.raw.Verb.TheVariants.{Present, Absent, AtLeast, AtMost, Insert, Delete, Add, Subtract}
use Rattle.ham_check.specs.declared.raw.RawTerm.{RawTerm}
use Rattle.ham_check.specs.declared.raw.RawTerm.TheVariants.{Any, Constant, Named}
use Rattle.ham_syntax.specs.Names.{is_name}
use Rattle.ham_forms.specs.declared.fault.Unread.{Unread}
use Rattle.ham_forms.specs.declared.fault.Unread.TheVariants as unread
use Rattle.ham_forms.specs.declared.words.InvariantKind.{InvariantKind}
use Rattle.ham_forms.specs.declared.words.InvariantKind.TheVariants as kinds

-- an answer is what is found, and a refusal comes where nothing is found; memory may run out
abbrev pub Finds : {A : Type 0} → Result A Unread → Option A → Type 0
Finds (Ok x) found = found ≡ Some x
Finds (Err unread.Nothing) found = found ≡ None
Finds (Err unread.NoMemory) found = Unit {0}

-- whether a counter is keyed
unfoldable pub keyed_of : List ℕ → Option Bool
keyed_of word = if_word word (codes "plain") false (if_word word (codes "keyed") true None)

-- what a parameter is
unfoldable pub kind_of : List ℕ → Option Kind
kind_of word = if_word word (codes "id") Id (if_word word (codes "amount") Amount None)

-- what a guard asks, or an effect does
unfoldable pub verb_of : List ℕ → Option Verb
verb_of word =
    if_word word (codes "present") Present (if_word word (codes "absent") Absent (if_word word (codes "atleast") AtLeast (if_word word (codes "atmost") AtMost
    (if_word word (codes "insert") Insert (if_word word (codes "delete") Delete (if_word word (codes "add") Add (if_word word (codes "subtract") Subtract None)))))))

-- what kind of invariant a word names
unfoldable pub invariant_kind_of : List ℕ → Option InvariantKind
invariant_kind_of word =
    if_word word (codes "reference") kinds.Reference (if_word word (codes "unique") kinds.Unique (if_word word (codes "low") kinds.Low (if_word word (codes "high") kinds.High None)))

-- the word, where it is a name
abbrev pub name_of : List ℕ → Option (List ℕ)
name_of word = if is_name word then Some word else None

-- the number after `#`
abbrev pub constant_of : List ℕ → Option RawTerm
constant_of [] = None
constant_of (b ∷ digits) = if b == 35 then option_map Constant (number_of digits) else None

-- a name, `_`, or a constant
unfoldable pub term_of : List ℕ → Option RawTerm
term_of word = if is_name word then Some (Named word) else if_word word (codes "_") Any (constant_of word)

-- a limit without a sign
abbrev pub positive_of : ℕ → Option ℤ
positive_of n = if nat_lt n (2 ^ 63) then Some (pos n) else None

-- 0 has no sign
abbrev pub negative_of : ℕ → Option ℤ
negative_of n = if nat_lt 0 n && nat_le n (2 ^ 63) then Some (negsuc (n - 1)) else None

-- a limit, with `-` or without
unfoldable pub limit_of : List ℕ → Option ℤ
limit_of [] = number_of [] >>= positive_of
limit_of (b ∷ digits) = if b == 45 then (number_of digits >>= negative_of) else (number_of (b ∷ digits) >>= positive_of)

-- Acts, counters and relations by name: how they are written, and what they mean of an object.
use Rattle.std.specs.Prelude.{◌≡◌, ℕ, ◌^◌, ◌<◌, ◌≤◌, Bool, true, false, IsTrue, IfSome, List, [], ◌∷◌, length, map, slice_get, Option, Some, None, Result, Ok, Err, option_map}
use Rattle.std.specs.Fmt.{decimal}
use Rattle.ham_text.specs.Numbers.{AreNumbers}
use Rattle.ham_syntax.specs.declared.act.Act.{Act}
use Rattle.ham_syntax.specs.declared.object.Counter.{Counter}
use Rattle.ham_syntax.specs.declared.limits.TheConstants.{MAX_PARAMS}
use Rattle.ham_syntax.specs.Names.{is_name}
use Rattle.ham_syntax.specs.Objects.{Schema, name_by, method_name, counter_named, method_named}
use Rattle.ham_lines.specs.declared.fault.LineFault.{LineFault}
use Rattle.ham_lines.specs.declared.fault.LineFault.TheVariants.{UnknownName, BadKey}
use Rattle.ham_lines.specs.declared.named.NamedAct.{NamedAct}
use Rattle.ham_lines.specs.declared.named.NamedCounter.{NamedCounter}

-- ---- how they are written

-- a key is written or not
abbrev pub key_words : Option ℕ → List (List ℕ)
key_words None = []
key_words (Some key) = decimal key ∷ []

-- METHOD A1 ..
abbrev pub act_words : NamedAct → List (List ℕ)
act_words a = a.method ∷ map decimal a.args

-- COUNTER or COUNTER KEY
abbrev pub counter_words : NamedCounter → List (List ℕ)
counter_words c = c.counter ∷ key_words c.key

-- the name is a name, and there are at most six arguments, of 64 bits
pub record IsNamedAct (a : NamedAct) : Type 0 where
  pub is_named : IsTrue (is_name a.method)
  pub few : length a.args ≤ MAX_PARAMS
  pub numbers : AreNumbers a.args

-- the name is a name, and a key has 64 bits
pub record IsNamedCounter (c : NamedCounter) : Type 0 where
  pub is_named : IsTrue (is_name c.counter)
  pub key : IfSome c.key (λ k. k < 2 ^ 64)

-- ---- what an object has, by name

abbrev pub counter_name : Schema → ℕ → List ℕ
counter_name o c = name_by (λ x. x.name) (slice_get o.counters c)

abbrev pub relation_name : Schema → ℕ → List ℕ
relation_name o r = name_by (λ x. x.name) (slice_get o.relations r)

abbrev pub is_keyed : Option Counter → Bool
is_keyed None = false
is_keyed (Some c) = c.keyed

-- the key is written exactly for a keyed counter
abbrev pub key_written : Bool → ℕ → Option ℕ
key_written true key = Some key
key_written false key = None

-- an act, with its method's name
abbrev pub act_named : Schema → Act → NamedAct
act_named o a = record { method = method_name o a.method; args = a.args }

-- counter c at a key, with its name
abbrev pub counter_shown : Schema → ℕ → ℕ → NamedCounter
counter_shown o c key = record { counter = counter_name o c; key = key_written (is_keyed (slice_get o.counters c)) key }

-- ---- what names mean

-- the act of the method with the name
unfoldable pub act_meant : Schema → NamedAct → Option Act
act_meant o a = option_map (λ m. record { method = m; args = a.args }) (method_named o a.method)

-- a key is there exactly where the counter is keyed; the key of a plain one is 0
abbrev pub with_key : ℕ → Bool → Option ℕ → Result (ℕ × ℕ) LineFault
with_key c true (Some key) = Ok (c, key)
with_key c true None = Err BadKey
with_key c false (Some key) = Err BadKey
with_key c false None = Ok (c, 0)

abbrev pub key_meant : Schema → Option ℕ → Option ℕ → Result (ℕ × ℕ) LineFault
key_meant o None key = Err UnknownName
key_meant o (Some c) key = with_key c (is_keyed (slice_get o.counters c)) key

-- the counter with the name, and its key
unfoldable pub counter_meant : Schema → NamedCounter → Result (ℕ × ℕ) LineFault
counter_meant o c = key_meant o (counter_named o c.counter) c.key

-- ---- keys

-- the key of a plain counter is 0
abbrev pub IsKeyOf : Bool → ℕ → Type 0
IsKeyOf true key = Unit {0}
IsKeyOf false key = key ≡ 0

-- a key for a plain counter, or none for a keyed one
abbrev pub IsWrongKey : Bool → Option ℕ → Type 0
IsWrongKey true (Some key) = ⊥
IsWrongKey true None = Unit {0}
IsWrongKey false (Some key) = Unit {0}
IsWrongKey false None = ⊥

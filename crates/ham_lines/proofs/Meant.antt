-- What names mean of an object, and the names of what is meant.
use Rattle.std.proofs.Common.{◌≡◌, ℕ, ◌<◌, Bool, true, false, List, length, Option, Some, None, Result, Ok, Err, refl, sym, ap, ◌∙◌, subst}
use Rattle.std.specs.Prelude.{nat_eq, position, slice_get, option_map}
use Rattle.std.specs.Cmp.Lexicographic.{pointwise}
use Rattle.std.proofs.lemmas.Option.{none-some}
use Rattle.ham_text.proofs.Choices.{mapped}
use Rattle.ham_syntax.specs.declared.act.Act.{Act}
use Rattle.ham_syntax.specs.Objects.{Schema, name_by, method_name, relation_named, counter_named, method_named}
use Rattle.ham_syntax.specs.Checked.{IsChecked}
use Rattle.ham_syntax.proofs.Named.{named_is, named_read}
use Rattle.ham_lines.specs.declared.fault.LineFault.{LineFault}
use Rattle.ham_lines.specs.declared.fault.LineFault.TheVariants.{NotALine, UnknownName, BadKey, NoMemory}
use Rattle.ham_lines.specs.declared.named.NamedAct.{NamedAct}
use Rattle.ham_lines.specs.declared.named.NamedCounter.{NamedCounter}
use Rattle.ham_lines.specs.Named.{counter_name, relation_name, is_keyed, key_written, act_named, counter_shown, act_meant, with_key, key_meant, counter_meant, IsKeyOf, IsWrongKey}

-- the entry that is found exists, and has the name
pub record IsNamed {A : Type 0} (name : A → List ℕ) (xs : List A) (word : List ℕ) (k : ℕ) : Type 0 where
  pub exists : k < length xs
  pub is_word : word ≡ name_by name (slice_get xs k)

found_named : {A : Type 0} (name : A → List ℕ) (xs : List A) (word : List ℕ) (k : ℕ) → position (λ x. pointwise nat_eq (name x) word) xs ≡ Some k → IsNamed name xs word k
found_named name xs word k e = let w = named_is name xs word k e in record { exists = w.0; is_word = sym w.1 }

pub method_is : (o : Schema) (name : List ℕ) (m : ℕ) → method_named o name ≡ Some m → IsNamed (λ x. x.name) o.methods name m
method_is o name m e = found_named (λ x. x.name) o.methods name m e

pub counter_is : (o : Schema) (name : List ℕ) (c : ℕ) → counter_named o name ≡ Some c → IsNamed (λ x. x.name) o.counters name c
counter_is o name c e = found_named (λ x. x.name) o.counters name c e

pub relation_is : (o : Schema) (name : List ℕ) (r : ℕ) → relation_named o name ≡ Some r → IsNamed (λ x. x.name) o.relations name r
relation_is o name r e = found_named (λ x. x.name) o.relations name r e

pub method_back : (o : Schema) → IsChecked o → (m : ℕ) → m < length o.methods → method_named o (method_name o m) ≡ Some m
method_back o checked m h = named_read (λ x. x.name) o.methods m checked.distinct_methods h

pub counter_back : (o : Schema) → IsChecked o → (c : ℕ) → c < length o.counters → counter_named o (counter_name o c) ≡ Some c
counter_back o checked c h = named_read (λ x. x.name) o.counters c checked.distinct_counters h

pub relation_back : (o : Schema) → IsChecked o → (r : ℕ) → r < length o.relations → relation_named o (relation_name o r) ≡ Some r
relation_back o checked r h = named_read (λ x. x.name) o.relations r checked.distinct_relations h

-- ---- acts

pub record MeansAct (o : Schema) (a : NamedAct) (act : Act) : Type 0 where
  pub exists : act.method < length o.methods
  pub same : a ≡ act_named o act

pub act_is : (o : Schema) (a : NamedAct) (act : Act) → act_meant o a ≡ Some act → MeansAct o a act
unfolding act_meant
act_is o a act e =
    let t = mapped (method_named o a.method) (λ m. record { method = m; args = a.args }) act e in
    let m = method_is o a.method t.0 t.1 in
    subst (MeansAct o a) t.2 (record { exists = m.exists; same = ap (λ name. record { method = name; args = a.args }) m.is_word })

pub act_unknown : (o : Schema) (a : NamedAct) → act_meant o a ≡ None → method_named o a.method ≡ None
unfolding act_meant
act_unknown o a e = none_of (method_named o a.method) (λ m. record { method = m; args = a.args }) e
  where
    none_of : {A B : Type 0} (o : Option A) (f : A → B) → option_map f o ≡ None → o ≡ None
    none_of None f e = refl
    none_of (Some x) f e = absurd (none-some (f x) (sym e))

pub act_untold : (o : Schema) (a : NamedAct) → method_named o a.method ≡ None → act_meant o a ≡ None
unfolding act_meant
act_untold o a e = ap (option_map (λ m. record { method = m; args = a.args })) e

pub act_back : (o : Schema) → IsChecked o → (act : Act) → act.method < length o.methods → act_meant o (act_named o act) ≡ Some act
unfolding act_meant
act_back o checked act h = ap (option_map (λ m. record { method = m; args = act.args })) (method_back o checked act.method h)

-- ---- counters

pub record MeansCounter (o : Schema) (c : NamedCounter) (n key : ℕ) : Type 0 where
  pub exists : n < length o.counters
  pub is_key : IsKeyOf (is_keyed (slice_get o.counters n)) key
  pub same : c ≡ counter_shown o n key

same_ok : {A : Type 0} (x y : A) (a b : Result A LineFault) → a ≡ Ok x → b ≡ Ok y → a ≡ b → x ≡ y
same_ok x y a b p q e = cc

key_is : (n : ℕ) (keyed : Bool) (key : Option ℕ) (p : ℕ × ℕ) → with_key n keyed key ≡ Ok p → (n ≡ p.0) × IsKeyOf keyed p.1 × (key ≡ key_written keyed p.1)
key_is n true (Some k) p e = let s = same_ok (n, k) p (with_key n true (Some k)) (Ok p) refl refl e in (ap (λ q. q.0) s, tt, ap (λ q. Some q.1) s)
key_is n true None p e = absurd cc
key_is n false (Some k) p e = absurd cc
key_is n false None p e = let s = same_ok (n, 0) p (with_key n false None) (Ok p) refl refl e in (ap (λ q. q.0) s, sym (ap (λ q. q.1) s), refl)

by_name : (o : Schema) (c : NamedCounter) (p : ℕ × ℕ) (found : Option ℕ) → counter_named o c.counter ≡ found → key_meant o found c.key ≡ Ok p → MeansCounter o c p.0 p.1
by_name o c p None t e = absurd cc
by_name o c p (Some n) t e =
    let k = key_is n (is_keyed (slice_get o.counters n)) c.key p e in
    let named = counter_is o c.counter n t in
    let word = named.is_word in
    let key = k.2 in
    let shown : c ≡ record { counter = counter_name o n; key = key_written (is_keyed (slice_get o.counters n)) p.1 } = (ap (λ name. record { counter = name; key = c.key }) word ∙ ap (λ found. record { counter = counter_name o n; key = found }) key) in
    let all : MeansCounter o c n p.1 = record { exists = named.exists; is_key = k.1; same = shown } in
    subst (λ m. MeansCounter o c m p.1) k.0 all

pub counter_means : (o : Schema) (c : NamedCounter) (p : ℕ × ℕ) → counter_meant o c ≡ Ok p → MeansCounter o c p.0 p.1
unfolding counter_meant
counter_means o c p e = by_name o c p (counter_named o c.counter) refl e

-- why a counter isn't found
abbrev pub Unmeant : Schema → NamedCounter → LineFault → Type 0
Unmeant o c UnknownName = counter_named o c.counter ≡ None
Unmeant o c BadKey = (n : ℕ) × (counter_named o c.counter ≡ Some n) × IsWrongKey (is_keyed (slice_get o.counters n)) c.key
Unmeant o c NotALine = ⊥
Unmeant o c NoMemory = ⊥

key_wrong : (n : ℕ) (keyed : Bool) (key : Option ℕ) (f : LineFault) → with_key n keyed key ≡ Err f → (BadKey ≡ f) × IsWrongKey keyed key
key_wrong n true (Some k) f e = absurd cc
key_wrong n true None f e = ((cc), tt)
key_wrong n false (Some k) f e = ((cc), tt)
key_wrong n false None f e = absurd cc

no_name : (o : Schema) (c : NamedCounter) (f : LineFault) (found : Option ℕ) → counter_named o c.counter ≡ found → key_meant o found c.key ≡ Err f → Unmeant o c f
no_name o c f None t e = let same : UnknownName ≡ f = cc in subst (Unmeant o c) same t
no_name o c f (Some n) t e = let k = key_wrong n (is_keyed (slice_get o.counters n)) c.key f e in subst (Unmeant o c) k.0 (n, t, k.1)

pub counter_unmeant : (o : Schema) (c : NamedCounter) (f : LineFault) → counter_meant o c ≡ Err f → Unmeant o c f
unfolding counter_meant
counter_unmeant o c f e = no_name o c f (counter_named o c.counter) refl e

pub counter_untold : (o : Schema) (c : NamedCounter) → counter_named o c.counter ≡ None → counter_meant o c ≡ Err UnknownName
unfolding counter_meant
counter_untold o c e = ap (λ found. key_meant o found c.key) e

key_told : (n : ℕ) (keyed : Bool) (key : Option ℕ) → IsWrongKey keyed key → with_key n keyed key ≡ Err BadKey
key_told n true (Some k) h = absurd h
key_told n true None h = refl
key_told n false (Some k) h = refl
key_told n false None h = absurd h

pub key_untold : (o : Schema) (c : NamedCounter) (n : ℕ) → counter_named o c.counter ≡ Some n → IsWrongKey (is_keyed (slice_get o.counters n)) c.key → counter_meant o c ≡ Err BadKey
unfolding counter_meant
key_untold o c n e h = ap (λ found. key_meant o found c.key) e ∙ key_told n (is_keyed (slice_get o.counters n)) c.key h

key_back : (n : ℕ) (keyed : Bool) (key : ℕ) → IsKeyOf keyed key → with_key n keyed (key_written keyed key) ≡ Ok (n, key)
key_back n true key h = refl
key_back n false key h = ap (λ k. Ok (n, k)) (sym h)

pub shown_back : (o : Schema) → IsChecked o → (c key : ℕ) → c < length o.counters → IsKeyOf (is_keyed (slice_get o.counters c)) key → counter_meant o (counter_shown o c key) ≡ Ok (c, key)
unfolding counter_meant
shown_back o checked c key h k =
    ap (λ found. key_meant o found (key_written (is_keyed (slice_get o.counters c)) key)) (counter_back o checked c h)
    ∙ key_back c (is_keyed (slice_get o.counters c)) key k

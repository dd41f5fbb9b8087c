-- What words spell: numbers, acts, counters and relations by name; and that these are read from their words.
use Rattle.std.proofs.Common.{◌≡◌, ℕ, ◌^◌, ◌<◌, Bool, true, false, cond, List, [], ◌∷◌, map, Option, Some, None, refl, ap, ◌∙◌, subst}
use Rattle.std.specs.Prelude.{IsTrue, IfSome, option_map, option_and_then}
use Rattle.std.specs.Fmt.{decimal}
use Rattle.std.proofs.lemmas.Option.{same_Some, none-some}
use Rattle.ham_text.specs.Numbers.{number_first, numbers_within, AreNumbers}
use Rattle.ham_text.specs.Written.{IsWord, AreWords}
use Rattle.ham_text.proofs.Wording.{decimal_word}
use Rattle.ham_text.proofs.Several.{Spelled, first_spelled, first_read, within_spelled, within_read}
use Rattle.ham_text.proofs.Choices.{chosen, steps, mapped}
use Rattle.ham_syntax.specs.Names.{is_name}
use Rattle.ham_syntax.proofs.Solid.{name_solid}
use Rattle.ham_lines.specs.declared.named.NamedAct.{NamedAct}
use Rattle.ham_lines.specs.declared.named.NamedCounter.{NamedCounter}
use Rattle.ham_lines.specs.Named.{key_words, act_words, counter_words, IsNamedAct, IsNamedCounter}
use Rattle.ham_lines.specs.Reading.{alone, one_number, two_numbers, three_numbers, name_of, named_act, named_counter, act_of, key_of, counter_of, relation_of}

-- ---- words

-- a name is a word
pub name_word : (w : List ℕ) → IsTrue (is_name w) → IsWord w
name_word w h = name_solid w h

pub numbers_words : (ns : List ℕ) → AreNumbers ns → AreWords (map decimal ns)
numbers_words [] h = tt
numbers_words (n ∷ ns) h = (decimal_word n h.0, numbers_words ns h.1)

key_are_words : (key : Option ℕ) → IfSome key (λ k. k < 2 ^ 64) → AreWords (key_words key)
key_are_words None h = tt
key_are_words (Some k) h = (decimal_word k h, tt)

pub act_are_words : (a : NamedAct) → IsNamedAct a → AreWords (act_words a)
act_are_words a h = (name_word a.method h.is_named, numbers_words a.args h.numbers)

pub counter_are_words : (c : NamedCounter) → IsNamedCounter c → AreWords (counter_words c)
counter_are_words c h = (name_word c.counter h.is_named, key_are_words c.key h.key)

-- ---- numbers

alone_is : {A : Type 0} (x y : A) (ws : List (List ℕ)) → alone x ws ≡ Some y → (x ≡ y) × (ws ≡ [])
alone_is x y [] e = (same_Some x y e, refl)
alone_is x y (w ∷ ws) e = absurd (none-some y e)

-- the words are these numbers
pub record Numbers (ws : List (List ℕ)) (ns : List ℕ) : Type 0 where
  pub words : ws ≡ map decimal ns
  pub numbers : AreNumbers ns

more : (ws : List (List ℕ)) (n : ℕ) (rest : List (List ℕ)) (ns : List ℕ) → Spelled ws n rest → Numbers rest ns → Numbers ws (n ∷ ns)
more ws n rest ns h k = let a = h.words in let b = k.words in record { words = cc; numbers = (h.small, k.numbers) }

pub one_spelled : (ws : List (List ℕ)) (n : ℕ) → one_number ws ≡ Some n → Numbers ws (n ∷ [])
one_spelled ws n e =
    let s = steps (number_first ws) (λ p. alone p.0 p.1) n e in
    let a = alone_is s.0.0 n s.0.1 s.2 in
    let all = more ws s.0.0 s.0.1 [] (first_spelled ws s.0 s.1) (record { words = a.1; numbers = tt }) in
    subst (λ k. Numbers ws (k ∷ [])) a.0 all

pub two_spelled : (ws : List (List ℕ)) (p : ℕ × ℕ) → two_numbers ws ≡ Some p → Numbers ws (p.0 ∷ p.1 ∷ [])
two_spelled ws p e =
    let s = steps (number_first ws) (λ p. option_map (λ b. (p.0, b)) (one_number p.1)) p e in
    let t = mapped (one_number s.0.1) (λ b. (s.0.0, b)) p s.2 in
    let all = more ws s.0.0 s.0.1 (t.0 ∷ []) (first_spelled ws s.0 s.1) (one_spelled s.0.1 t.0 t.1) in
    subst (λ (q : ℕ × ℕ). Numbers ws (q.0 ∷ q.1 ∷ [])) t.2 all

pub three_spelled : (ws : List (List ℕ)) (p : ℕ × ℕ × ℕ) → three_numbers ws ≡ Some p → Numbers ws (p.0 ∷ p.1 ∷ p.2 ∷ [])
three_spelled ws p e =
    let s = steps (number_first ws) (λ p. option_map (λ q. (p.0, q.0, q.1)) (two_numbers p.1)) p e in
    let t = mapped (two_numbers s.0.1) (λ q. (s.0.0, q.0, q.1)) p s.2 in
    let all = more ws s.0.0 s.0.1 (t.0.0 ∷ t.0.1 ∷ []) (first_spelled ws s.0 s.1) (two_spelled s.0.1 t.0 t.1) in
    subst (λ (q : ℕ × ℕ × ℕ). Numbers ws (q.0 ∷ q.1 ∷ q.2 ∷ [])) t.2 all

pub one_read : (n : ℕ) → n < 2 ^ 64 → one_number (decimal n ∷ []) ≡ Some n
one_read n h = ap (option_and_then (λ p. alone p.0 p.1)) (first_read n [] h)

pub two_read : (a b : ℕ) → AreNumbers (a ∷ b ∷ []) → two_numbers (decimal a ∷ decimal b ∷ []) ≡ Some (a, b)
two_read a b h =
    ap (option_and_then (λ p. option_map (λ b. (p.0, b)) (one_number p.1))) (first_read a (decimal b ∷ []) h.0)
    ∙ ap (option_map (λ b. (a, b))) (one_read b h.1.0)

pub three_read : (a b c : ℕ) → AreNumbers (a ∷ b ∷ c ∷ []) → three_numbers (decimal a ∷ decimal b ∷ decimal c ∷ []) ≡ Some (a, b, c)
three_read a b c h =
    ap (option_and_then (λ p. option_map (λ q. (p.0, q.0, q.1)) (two_numbers p.1))) (first_read a (decimal b ∷ decimal c ∷ []) h.0)
    ∙ ap (option_map (λ q. (a, q.0, q.1))) (two_read b c h.1)

-- ---- by name

name_is : (w name : List ℕ) → name_of w ≡ Some name → (w ≡ name) × IsTrue (is_name name)
name_is w name e = let p = chosen (is_name w) w name e in (p.1, subst (λ v. IsTrue (is_name v)) p.1 p.0)

name_read : (name : List ℕ) → IsTrue (is_name name) → name_of name ≡ Some name
name_read name h = ap (λ b. cond b (Some name) None) h

abbrev pub SpellsAct : List (List ℕ) → NamedAct → Type 0
SpellsAct ws a = IsNamedAct a × (ws ≡ act_words a)

pub act_spelled : (ws : List (List ℕ)) (a : NamedAct) → act_of ws ≡ Some a → SpellsAct ws a
unfolding act_of
act_spelled [] a e = absurd (none-some a e)
act_spelled (w ∷ ws) a e =
    let s = steps (name_of w) (λ name. option_map (named_act name) (numbers_within 6 ws)) a e in
    let n = name_is w s.0 s.1 in
    let same = n.0 in
    let t = mapped (numbers_within 6 ws) (named_act s.0) a s.2 in
    let all = within_spelled 6 ws t.0 t.1 in
    let rest = all.words in
    let found : SpellsAct (w ∷ ws) (named_act s.0 t.0) = (record { is_named = n.1; few = all.few; numbers = all.numbers }, cc) in
    subst (SpellsAct (w ∷ ws)) t.2 found

pub act_read : (a : NamedAct) → IsNamedAct a → act_of (act_words a) ≡ Some a
unfolding act_of
act_read a h =
    ap (option_and_then (λ name. option_map (named_act name) (numbers_within 6 (map decimal a.args)))) (name_read a.method h.is_named)
    ∙ ap (option_map (named_act a.method)) (within_read 6 a.args h.numbers h.few)

abbrev pub SpellsCounter : List (List ℕ) → NamedCounter → Type 0
SpellsCounter ws c = IsNamedCounter c × (ws ≡ counter_words c)

record SpellsKey (ws : List (List ℕ)) (key : Option ℕ) : Type 0 where
  small : IfSome key (λ k. k < 2 ^ 64)
  words : ws ≡ key_words key

key_spelled : (ws : List (List ℕ)) (key : Option ℕ) → key_of ws ≡ Some key → SpellsKey ws key
key_spelled [] key e = subst (SpellsKey []) (same_Some None key e) (record { small = tt; words = refl })
key_spelled (w ∷ ws) key e =
    let t = mapped (one_number (w ∷ ws)) Some key e in
    let n = one_spelled (w ∷ ws) t.0 t.1 in
    let found : SpellsKey (w ∷ ws) (Some t.0) = record { small = n.numbers.0; words = n.words } in
    subst (SpellsKey (w ∷ ws)) t.2 found

key_read : (key : Option ℕ) → IfSome key (λ k. k < 2 ^ 64) → key_of (key_words key) ≡ Some key
key_read None h = refl
key_read (Some k) h = ap (option_map Some) (one_read k h)

pub counter_spelled : (ws : List (List ℕ)) (c : NamedCounter) → counter_of ws ≡ Some c → SpellsCounter ws c
unfolding counter_of
counter_spelled [] c e = absurd (none-some c e)
counter_spelled (w ∷ ws) c e =
    let s = steps (name_of w) (λ name. option_map (named_counter name) (key_of ws)) c e in
    let n = name_is w s.0 s.1 in
    let same = n.0 in
    let t = mapped (key_of ws) (named_counter s.0) c s.2 in
    let key = key_spelled ws t.0 t.1 in
    let rest = key.words in
    let found : SpellsCounter (w ∷ ws) (named_counter s.0 t.0) = (record { is_named = n.1; key = key.small }, cc) in
    subst (SpellsCounter (w ∷ ws)) t.2 found

pub counter_read : (c : NamedCounter) → IsNamedCounter c → counter_of (counter_words c) ≡ Some c
unfolding counter_of
counter_read c h =
    ap (option_and_then (λ name. option_map (named_counter name) (key_of (key_words c.key)))) (name_read c.counter h.is_named)
    ∙ ap (option_map (named_counter c.counter)) (key_read c.key h.key)

abbrev pub SpellsRelation : List (List ℕ) → List ℕ → Type 0
SpellsRelation ws relation = IsTrue (is_name relation) × (ws ≡ relation ∷ [])

pub relation_spelled : (ws : List (List ℕ)) (relation : List ℕ) → relation_of ws ≡ Some relation → SpellsRelation ws relation
unfolding relation_of
relation_spelled [] relation e = absurd (none-some relation e)
relation_spelled (w ∷ ws) relation e =
    let s = steps (alone w ws) name_of relation e in
    let a = alone_is w s.0 ws s.1 in
    let n = name_is s.0 relation s.2 in
    let x = a.0 in let y = a.1 in let z = n.0 in
    (n.1, cc)

pub relation_read : (relation : List ℕ) → IsTrue (is_name relation) → relation_of (relation ∷ []) ≡ Some relation
unfolding relation_of
relation_read relation h = name_read relation h

-- What the words ask of a node is what is read of them.
use Rattle.std.proofs.Common.{◌≡◌, ℕ, ◌≤◌, Bool, true, false, ◌&&◌, cond, List, [], ◌∷◌, length, map, Option, Some, None, refl, sym, ap, ◌∙◌, subst, arith}
use Rattle.std.specs.Prelude.{nat_le, option_and_then, option_map, MatchOption, IfSome, codes}
use Rattle.std.specs.List.{list_all, AllByRecursion}
use Rattle.std.specs.Str.{bytes_eq, is_utf8}
use Rattle.std.specs.Fmt.{decimal}
use Rattle.std.proofs.lemmas.Bool.{leb-true, le-leb, and_parts}
use Rattle.std.proofs.lemmas.List.{length-map}
use Rattle.std.proofs.lemmas.Option.{same_Some}
use Rattle.ham_syntax.specs.declared.limits.TheConstants.{MAX_REPLICAS}
use Rattle.ham_text.specs.Numbers.{number_of}
use Rattle.ham_text.proofs.Wording.{decimal_read}
use Rattle.ham_text.proofs.Several.{number_spelled}
use Rattle.ham_text.proofs.Choices.{only, steps, mapped, text_is}
use Rattle.ham_bytes.specs.declared.shelf.File.{File}
use Rattle.ham_workers.specs.declared.base.TheConstants.{MIN_BASE, MAX_BASE}
use Rattle.ham_node_cli.specs.declared.words.NodeCommand.{NodeCommand}
use Rattle.ham_node_cli.specs.NodeWords.{AskedNode, node_words, IsBase, IsOneOf, IsNode, AsksNode, AsksNoNode}
use Rattle.ham_node_cli.specs.NodeReading as reading

-- ---- what is read is spelled

within_is : (low high n k : ℕ) → reading.within low high n ≡ Some k → (n ≡ k) × ((low ≤ k) × (k ≤ high))
within_is low high n k e =
    let c = only (nat_le low n && nat_le n high) (Some n) k e in
    let b = and_parts (nat_le low n) (nat_le n high) c.0 in
    let same : n ≡ k = same_Some n k c.1 in
    (same, subst (λ x. (low ≤ x) × (x ≤ high)) same (leb-true low n b.0, leb-true n high b.1))

me_spelled : (w : List ℕ) (n m : ℕ) → reading.me_of w n ≡ Some m → (w ≡ decimal m) × ((1 ≤ m) × (m ≤ n))
unfolding reading.me_of
me_spelled w n m e =
    let s = steps (number_of w) (reading.within 1 n) m e in
    let f = within_is 1 n s.0 m s.2 in
    (number_spelled w s.0 s.1 ∙ ap decimal f.0, f.1)

some_base : (o : Option ℕ) → reading.is_some o ≡ true → o ≡ Some (reading.base_or o)
some_base None e = absurd cc
some_base (Some n) e = refl

base_spelled : (w : List ℕ) → reading.is_base w ≡ true → (w ≡ decimal (reading.base_in w)) × IsBase (reading.base_in w)
unfolding reading.base_of
base_spelled w e =
    let s = steps (number_of w) (reading.within MIN_BASE MAX_BASE) (reading.base_in w) (some_base (reading.base_of w) e) in
    let f = within_is MIN_BASE MAX_BASE s.0 (reading.base_in w) s.2 in
    (number_spelled w s.0 s.1 ∙ ap decimal f.0, f.1)

cons : {A : Type 0} (x y : A) (xs ys : List A) → x ≡ y → xs ≡ ys → x ∷ xs ≡ y ∷ ys
cons x y xs ys e f = cc

bases_spelled : (ws : List (List ℕ)) → reading.are_bases ws ≡ true → (ws ≡ map decimal (map reading.base_in ws)) × AllByRecursion IsBase (map reading.base_in ws)
bases_spelled [] e = (refl, tt)
bases_spelled (w ∷ ws) e =
    let b = and_parts (reading.is_base w) (reading.are_bases ws) e in
    let here = base_spelled w b.0 in
    let rest = bases_spelled ws b.1 in
    (cons w (decimal (reading.base_in w)) ws (map decimal (map reading.base_in ws)) here.0 rest.0, (here.1, rest.1))

-- words after the verb that spell this, in range
record Spells (object me : List ℕ) (bases : List (List ℕ)) (a : AskedNode) : Type 0 where
  object_is : object ≡ a.object
  me_is : me ≡ decimal a.me
  bases_are : bases ≡ map decimal a.bases
  in_range : IsNode a

rest_spelled : (object me : List ℕ) (bases : List (List ℕ)) (a : AskedNode) → reading.read_rest object me bases ≡ Some a → Spells object me bases a
unfolding reading.read_rest
rest_spelled object me bases a e =
    let c = only (nat_le (length bases) MAX_REPLICAS && reading.are_bases bases) (option_map (λ m. record { object = object; me = m; bases = map reading.base_in bases }) (reading.me_of me (length bases))) a e in
    let b = and_parts (nat_le (length bases) MAX_REPLICAS) (reading.are_bases bases) c.0 in
    let m = mapped (reading.me_of me (length bases)) (λ m. record { object = object; me = m; bases = map reading.base_in bases }) a c.1 in
    let s = bases_spelled bases b.1 in
    let k = me_spelled me (length bases) m.0 m.1 in
    let long : length (map reading.base_in bases) ≡ length bases = length-map bases reading.base_in in
    subst (Spells object me bases) m.2 (record {
      object_is = refl;
      me_is = k.0;
      bases_are = s.0;
      in_range = record { one = record { some = k.1.0; within = subst (λ n. m.0 ≤ n) (sym long) k.1.1; few = subst (λ n. n ≤ MAX_REPLICAS) (sym long) (leb-true (length bases) MAX_REPLICAS b.0) }; bases = s.1 };
    })

four : (v o m : List ℕ) (bs cs : List (List ℕ)) (w p k : List ℕ) → v ≡ w → o ≡ p → m ≡ k → bs ≡ cs → v ∷ o ∷ m ∷ bs ≡ w ∷ p ∷ k ∷ cs
four v o m bs cs w p k e f g h = cc

read_asks : (words : List (List ℕ)) (a : AskedNode) → true ≡ list_all is_utf8 words → reading.read words ≡ Some a → AsksNode words a
unfolding reading.read_verb
read_asks [] a t e = absurd cc
read_asks (v ∷ []) a t e = absurd cc
read_asks (v ∷ o ∷ []) a t e = absurd cc
read_asks (v ∷ o ∷ m ∷ bs) a t e =
    let c = only (bytes_eq v (codes "node")) (reading.read_rest o m bs) a e in
    let s = rest_spelled o m bs a c.1 in
    record { words_are = four v o m bs (map decimal a.bases) (codes "node") a.object (decimal a.me) (text_is v (codes "node") c.0) s.object_is s.me_is s.bases_are; text = sym t; in_range = s.in_range }

-- ---- what is spelled is read

within_read : (low high n : ℕ) → low ≤ n → n ≤ high → reading.within low high n ≡ Some n
within_read low high n l h = ap (λ b. cond (b && nat_le n high) (Some n) None) (le-leb low n l) ∙ ap (λ b. cond b (Some n) None) (le-leb n high h)

base_read : (n : ℕ) → IsBase n → reading.base_of (decimal n) ≡ Some n
unfolding reading.base_of
base_read n h = ap (option_and_then (reading.within MIN_BASE MAX_BASE)) (decimal_read n (omega (arith, h.1))) ∙ within_read MIN_BASE MAX_BASE n h.0 h.1

me_read : (m n : ℕ) → 1 ≤ m → m ≤ n → n ≤ MAX_REPLICAS → reading.me_of (decimal m) n ≡ Some m
unfolding reading.me_of
me_read m n s w f = ap (option_and_then (reading.within 1 n)) (decimal_read m (omega (arith, w, f))) ∙ within_read 1 n m s w

bases_read : (ns : List ℕ) → AllByRecursion IsBase ns → (reading.are_bases (map decimal ns) ≡ true) × (map reading.base_in (map decimal ns) ≡ ns)
bases_read [] h = (refl, refl)
bases_read (n ∷ ns) h =
    let here = base_read n h.0 in
    let rest = bases_read ns h.1 in (
      ap (λ o. reading.is_some o && reading.are_bases (map decimal ns)) here ∙ rest.0,
      cons (reading.base_in (decimal n)) n (map reading.base_in (map decimal ns)) ns (ap reading.base_or here) rest.1,
    )

abbrev made_of : List ℕ → Option ℕ → List ℕ → Option AskedNode
made_of object me bases = option_map (λ m. record { object = object; me = m; bases = bases }) me

rest_read : (a : AskedNode) → IsNode a → reading.read_rest a.object (decimal a.me) (map decimal a.bases) ≡ Some a
unfolding reading.read_rest reading.me_of
rest_read a h =
    let b = bases_read a.bases h.bases in
    let long : length (map decimal a.bases) ≡ length a.bases = length-map a.bases decimal in
    ap (λ n. cond (nat_le n MAX_REPLICAS && reading.are_bases (map decimal a.bases)) (made_of a.object (reading.me_of (decimal a.me) n) (map reading.base_in (map decimal a.bases))) None) long
    ∙ ap (λ t. cond (t && reading.are_bases (map decimal a.bases)) (made_of a.object (reading.me_of (decimal a.me) (length a.bases)) (map reading.base_in (map decimal a.bases))) None) (le-leb (length a.bases) MAX_REPLICAS h.one.few)
    ∙ ap (λ t. cond t (made_of a.object (reading.me_of (decimal a.me) (length a.bases)) (map reading.base_in (map decimal a.bases))) None) b.0
    ∙ ap (λ n. made_of a.object n (map reading.base_in (map decimal a.bases))) (me_read a.me (length a.bases) h.one.some h.one.within h.one.few)
    ∙ ap (λ bs. made_of a.object (Some a.me) bs) b.1

spelled_read : (a : AskedNode) → IsNode a → reading.read (node_words a) ≡ Some a
unfolding reading.read_verb
spelled_read a h = rest_read a h

asks_read : (words : List (List ℕ)) (a : AskedNode) → AsksNode words a → reading.read words ≡ Some a
asks_read words a h = ap reading.read h.words_are ∙ spelled_read a h.in_range

-- ---- both

none_read : (words : List (List ℕ)) → reading.read words ≡ None → AsksNoNode words
none_read words e a h = let bad = sym e ∙ asks_read words a h in absurd cc

pub not_text : (words : List (List ℕ)) → false ≡ list_all is_utf8 words → AsksNoNode words
not_text words e a h = let bad = e ∙ h.text in absurd cc

-- words that are text, as they are read
pub asks_by : (words : List (List ℕ)) (r : Option NodeCommand) → true ≡ list_all is_utf8 words → MatchOption r (reading.read words ≡ None) (λ c. reading.read words ≡ Some (reading.seen c)) → MatchOption r (AsksNoNode words) (λ c. AsksNode words (reading.seen c))
asks_by words None t h = none_read words h
asks_by words (Some c) t h = read_asks words (reading.seen c) t h

asks_once : (words : List (List ℕ)) (a b : AskedNode) → AsksNode words a → AsksNode words b → a ≡ b
asks_once words a b h k = same_Some a b (sym (asks_read words a h) ∙ asks_read words b k)

-- ---- what is so of a node that the words ask is so of each

pub for_node : (words : List (List ℕ)) (a : AskedNode) (Says : AskedNode → Type 0) → AsksNode words a → Says a → (b : AskedNode) → AsksNode words b → Says b
for_node words a Says asks h b also = subst Says (asks_once words a b asks also) h

pub for_held : (words : List (List ℕ)) (held : Option (List File)) (a : AskedNode) (Says : AskedNode → List File → Type 0) → AsksNode words a → IfSome held (λ files. Says a files) → IfSome held (λ files. (b : AskedNode) → AsksNode words b → Says b files)
for_held words None a Says asks h = tt
for_held words (Some files) a Says asks h = λ b also. subst (λ (x : AskedNode). Says x files) (asks_once words a b asks also) h

pub for_none : (words : List (List ℕ)) (held : Option (List File)) (Says : AskedNode → List File → Type 0) → AsksNoNode words → IfSome held (λ files. (b : AskedNode) → AsksNode words b → Says b files)
for_none words None Says none = tt
for_none words (Some files) Says none = λ b also. absurd (none b also)

-- What the words ask is what is read of them.
use Rattle.std.proofs.Common.{◌≡◌, ℕ, ◌≤◌, true, false, ◌&&◌, cond, List, [], ◌∷◌, Option, Some, None, refl, sym, ap, ◌∙◌, subst, inl, inr, arith}
use Rattle.std.specs.Prelude.{nat_le, option_and_then, option_map, MatchOption, codes}
use Rattle.std.specs.List.{list_all}
use Rattle.std.specs.Str.{bytes_eq, is_utf8}
use Rattle.std.specs.Fmt.{decimal}
use Rattle.std.proofs.lemmas.Bool.{leb-true, le-leb, and_parts}
use Rattle.std.proofs.lemmas.Option.{same_Some}
use Rattle.ham_syntax.specs.declared.limits.TheConstants.{MAX_REPLICAS}
use Rattle.ham_syntax.specs.Names.{is_name}
use Rattle.ham_text.specs.Numbers.{number_of}
use Rattle.ham_text.proofs.Wording.{decimal_read}
use Rattle.ham_text.proofs.Several.{number_spelled, number_small}
use Rattle.ham_text.proofs.Choices.{either, branch, only, steps, mapped, text_is}
use Rattle.ham_bulk.specs.declared.drafting.TheConstants.{MAX_ROUNDS}
use Rattle.ham_cli.specs.declared.command.Command.{Command}
use Rattle.ham_cli.specs.declared.command.Drawing.{Drawing}
use Rattle.ham_cli.specs.declared.named.NamedClaim.{NamedClaim}
use Rattle.ham_cli.specs.declared.named.NamedClaim.TheVariants.{Sc, Pr, Pl, Is}
use Rattle.ham_cli.specs.Commands.{Asked, Normalizes, Replays, Records, Audits, Checks, Derives, Exemplifies, Tabulates, Bulks, Scripts, verb_of, rest_of, claim_words, drawing_words, spelled, AreNames, AreFew, IsDrawing, IsInRange, Asks, AsksNothing, AsksOnce, seen}
use Rattle.ham_cli.specs.Reading as reading

-- ---- what is read is spelled

-- words that spell this, in range
record Spells (verb : List ℕ) (rest : List (List ℕ)) (asked : Asked) : Type 0 where
  verb_is : verb ≡ verb_of asked
  rest_is : rest ≡ rest_of asked
  in_range : IsInRange asked

few_is : (n k : ℕ) → reading.few_of n ≡ Some k → (n ≡ k) × AreFew k
few_is n k e =
    let c = only (nat_le 1 n && nat_le n MAX_REPLICAS) (Some n) k e in
    let b = and_parts (nat_le 1 n) (nat_le n MAX_REPLICAS) c.0 in
    let same : n ≡ k = same_Some n k c.1 in
    (same, subst AreFew same (record { some = leb-true 1 n b.0; few = leb-true n MAX_REPLICAS b.1 }))

replicas_spelled : (w : List ℕ) (k : ℕ) → reading.replicas_of w ≡ Some k → (w ≡ decimal k) × AreFew k
unfolding reading.replicas_of
replicas_spelled w k e =
    let s = steps (number_of w) reading.few_of k e in
    let f = few_is s.0 k s.2 in
    (number_spelled w s.0 s.1 ∙ ap decimal f.0, f.1)

rounds_is : (n k : ℕ) → reading.rounds_in n ≡ Some k → (n ≡ k) × (k ≤ MAX_ROUNDS)
rounds_is n k e =
    let c = only (nat_le n MAX_ROUNDS) (Some n) k e in
    let same : n ≡ k = same_Some n k c.1 in
    (same, subst (λ x. x ≤ MAX_ROUNDS) same (leb-true n MAX_ROUNDS c.0))

rounds_spelled : (w : List ℕ) (k : ℕ) → reading.rounds_of w ≡ Some k → (w ≡ decimal k) × (k ≤ MAX_ROUNDS)
unfolding reading.rounds_of
rounds_spelled w k e =
    let s = steps (number_of w) reading.rounds_in k e in
    let f = rounds_is s.0 k s.2 in
    (number_spelled w s.0 s.1 ∙ ap decimal f.0, f.1)

three : {A : Type 0} (a b c x y z : A) → a ≡ x → b ≡ y → c ≡ z → a ∷ b ∷ c ∷ [] ≡ x ∷ y ∷ z ∷ []
three a b c x y z e f g = cc

drawing_spelled : (a b c : List ℕ) (d : Drawing) → reading.drawing_of a b c ≡ Some d → (a ∷ b ∷ c ∷ [] ≡ drawing_words d) × IsDrawing d
unfolding reading.drawing_of
drawing_spelled a b c d e =
    let s = steps (number_of a) _ d e in
    let n = steps (reading.replicas_of b) _ d s.2 in
    let k = steps (reading.rounds_of c) _ d n.2 in
    let is : record { seed = s.0; replicas = n.0; rounds = k.0 } ≡ d = same_Some (record { seed = s.0; replicas = n.0; rounds = k.0 }) d k.2 in
    let few = replicas_spelled b n.0 n.1 in
    let more = rounds_spelled c k.0 k.1 in
    subst (λ (x : Drawing). (a ∷ b ∷ c ∷ [] ≡ drawing_words x) × IsDrawing x) is
    (three a b c (decimal s.0) (decimal n.0) (decimal k.0) (number_spelled a s.0 s.1) few.0 more.0, record { seed = number_small a s.0 s.1; replicas = few.1; few_rounds = more.1 })

drawn : (rest : List (List ℕ)) (d : Drawing) → reading.drawing_in rest ≡ Some d → (rest ≡ drawing_words d) × IsDrawing d
drawn [] d e = absurd cc
drawn (a ∷ []) d e = absurd cc
drawn (a ∷ b ∷ []) d e = absurd cc
drawn (a ∷ b ∷ c ∷ []) d e = drawing_spelled a b c d e
drawn (a ∷ b ∷ c ∷ x ∷ xs) d e = absurd cc

kind_spelled : (kind m n : List ℕ) (c : NamedClaim) → is_name m ≡ true → is_name n ≡ true → reading.claim_of_kind kind m n ≡ Some c → (kind ∷ m ∷ n ∷ [] ≡ claim_words c) × AreNames c
kind_spelled kind m n c f g e = elim (either (bytes_eq kind (codes "sc")) (Sc m n) c _ e) [
  | inl a ↦ subst (λ (x : NamedClaim). (kind ∷ m ∷ n ∷ [] ≡ claim_words x) × AreNames x) a.1 (ap (λ (w : List ℕ). w ∷ m ∷ n ∷ []) (text_is kind (codes "sc") a.0), (f, g))
  | inr o ↦ elim (either (bytes_eq kind (codes "pr")) (Pr m n) c _ o) [
    | inl a ↦ subst (λ (x : NamedClaim). (kind ∷ m ∷ n ∷ [] ≡ claim_words x) × AreNames x) a.1 (ap (λ (w : List ℕ). w ∷ m ∷ n ∷ []) (text_is kind (codes "pr") a.0), (f, g))
    | inr p ↦ elim (either (bytes_eq kind (codes "pl")) (Pl m n) c None p) [
      | inl a ↦ subst (λ (x : NamedClaim). (kind ∷ m ∷ n ∷ [] ≡ claim_words x) × AreNames x) a.1 (ap (λ (w : List ℕ). w ∷ m ∷ n ∷ []) (text_is kind (codes "pl") a.0), (f, g))
      | inr q ↦ absurd (let bad = q in cc)
    ]
  ]
]

claimed : (rest : List (List ℕ)) (c : NamedClaim) → reading.claim_in rest ≡ Some c → (rest ≡ claim_words c) × AreNames c
unfolding reading.claim_on_one reading.claim_on_two
claimed [] c e = absurd cc
claimed (k ∷ []) c e = absurd cc
claimed (k ∷ m ∷ []) c e =
    let o = only (is_name m && bytes_eq k (codes "is")) (Some (Is m)) c e in
    let b = and_parts (is_name m) (bytes_eq k (codes "is")) o.0 in
    subst (λ (x : NamedClaim). (k ∷ m ∷ [] ≡ claim_words x) × AreNames x) (same_Some (Is m) c o.1) (ap (λ (w : List ℕ). w ∷ m ∷ []) (text_is k (codes "is") b.1), b.0)
claimed (k ∷ m ∷ n ∷ []) c e =
    let o = only (is_name m && is_name n) (reading.claim_of_kind k m n) c e in
    let b = and_parts (is_name m) (is_name n) o.0 in
    kind_spelled k m n c b.0 b.1 o.1
claimed (k ∷ m ∷ n ∷ x ∷ xs) c e = absurd cc

one_word : (rest : List (List ℕ)) (w : List ℕ) → reading.only rest ≡ Some w → rest ≡ w ∷ []
one_word [] w e = absurd cc
one_word (v ∷ []) w e = ap (λ (x : List ℕ). x ∷ []) (same_Some v w e)
one_word (v ∷ x ∷ xs) w e = absurd cc

-- each verb with its rest
normal_spelled : (verb : List ℕ) (rest : List (List ℕ)) (a : Asked) → verb ≡ codes "normal" → reading.normal_in rest ≡ Some a → Spells verb rest a
normal_spelled verb [] a v e = subst (Spells verb []) (same_Some Normalizes a e) (record { verb_is = v; rest_is = refl; in_range = tt })
normal_spelled verb (x ∷ xs) a v e = absurd cc

file_spelled : (verb : List ℕ) (rest : List (List ℕ)) (make : List ℕ → Asked) (a : Asked) → option_map make (reading.only rest) ≡ Some a → ((w : List ℕ) → rest ≡ w ∷ [] → Spells verb rest (make w)) → Spells verb rest a
file_spelled verb rest make a e here =
    let m = mapped (reading.only rest) make a e in
    subst (Spells verb rest) m.2 (here m.0 (one_word rest m.0 m.1))

claim_spelled : (verb : List ℕ) (rest : List (List ℕ)) (make : NamedClaim → Asked) (a : Asked) → option_map make (reading.claim_in rest) ≡ Some a → ((c : NamedClaim) → (rest ≡ claim_words c) × AreNames c → Spells verb rest (make c)) → Spells verb rest a
claim_spelled verb rest make a e here =
    let m = mapped (reading.claim_in rest) make a e in
    subst (Spells verb rest) m.2 (here m.0 (claimed rest m.0 m.1))

drawn_spelled : (verb : List ℕ) (rest : List (List ℕ)) (make : Drawing → Asked) (a : Asked) → option_map make (reading.drawing_in rest) ≡ Some a → ((d : Drawing) → (rest ≡ drawing_words d) × IsDrawing d → Spells verb rest (make d)) → Spells verb rest a
drawn_spelled verb rest make a e here =
    let m = mapped (reading.drawing_in rest) make a e in
    subst (Spells verb rest) m.2 (here m.0 (drawn rest m.0 m.1))

tables_spelled : (verb : List ℕ) (rest : List (List ℕ)) (a : Asked) → verb ≡ codes "tables" → option_map Tabulates (option_and_then reading.replicas_of (reading.only rest)) ≡ Some a → Spells verb rest a
tables_spelled verb rest a v e =
    let m = mapped (option_and_then reading.replicas_of (reading.only rest)) Tabulates a e in
    let s = steps (reading.only rest) reading.replicas_of m.0 m.1 in
    let r = replicas_spelled s.0 m.0 s.2 in
    subst (Spells verb rest) m.2 (record { verb_is = v; rest_is = one_word rest s.0 s.1 ∙ ap (λ (x : List ℕ). x ∷ []) r.0; in_range = r.1 })

asked_spelled : (verb : List ℕ) (rest : List (List ℕ)) (a : Asked) → reading.asked_by verb rest ≡ Some a → Spells verb rest a
unfolding reading.asked_by
asked_spelled verb rest a e = elim (branch (bytes_eq verb (codes "normal")) (reading.normal_in rest) _ a e) [
  | inl h ↦ normal_spelled verb rest a (text_is verb (codes "normal") h.0) h.1
  | inr e ↦ elim (branch (bytes_eq verb (codes "replay")) (option_map Replays (reading.only rest)) _ a e) [
    | inl h ↦ file_spelled verb rest Replays a h.1 (λ w is. record { verb_is = text_is verb (codes "replay") h.0; rest_is = is; in_range = tt })
    | inr e ↦ elim (branch (bytes_eq verb (codes "record")) (option_map Records (reading.only rest)) _ a e) [
      | inl h ↦ file_spelled verb rest Records a h.1 (λ w is. record { verb_is = text_is verb (codes "record") h.0; rest_is = is; in_range = tt })
      | inr e ↦ elim (branch (bytes_eq verb (codes "audit")) (option_map Audits (reading.only rest)) _ a e) [
        | inl h ↦ file_spelled verb rest Audits a h.1 (λ w is. record { verb_is = text_is verb (codes "audit") h.0; rest_is = is; in_range = tt })
        | inr e ↦ elim (branch (bytes_eq verb (codes "check")) (option_map Checks (reading.only rest)) _ a e) [
          | inl h ↦ file_spelled verb rest Checks a h.1 (λ w is. record { verb_is = text_is verb (codes "check") h.0; rest_is = is; in_range = tt })
          | inr e ↦ elim (branch (bytes_eq verb (codes "derive")) (option_map Derives (reading.claim_in rest)) _ a e) [
            | inl h ↦ claim_spelled verb rest Derives a h.1 (λ x is. record { verb_is = text_is verb (codes "derive") h.0; rest_is = is.0; in_range = is.1 })
            | inr e ↦ elim (branch (bytes_eq verb (codes "example")) (option_map Exemplifies (reading.claim_in rest)) _ a e) [
              | inl h ↦ claim_spelled verb rest Exemplifies a h.1 (λ x is. record { verb_is = text_is verb (codes "example") h.0; rest_is = is.0; in_range = is.1 })
              | inr e ↦ elim (branch (bytes_eq verb (codes "tables")) (option_map Tabulates (option_and_then reading.replicas_of (reading.only rest))) _ a e) [
                | inl h ↦ tables_spelled verb rest a (text_is verb (codes "tables") h.0) h.1
                | inr e ↦ elim (branch (bytes_eq verb (codes "bulk")) (option_map Bulks (reading.drawing_in rest)) _ a e) [
                  | inl h ↦ drawn_spelled verb rest Bulks a h.1 (λ x is. record { verb_is = text_is verb (codes "bulk") h.0; rest_is = is.0; in_range = is.1 })
                  | inr e ↦ elim (branch (bytes_eq verb (codes "script")) (option_map Scripts (reading.drawing_in rest)) None a e) [
                    | inl h ↦ drawn_spelled verb rest Scripts a h.1 (λ x is. record { verb_is = text_is verb (codes "script") h.0; rest_is = is.0; in_range = is.1 })
                    | inr e ↦ absurd (let bad = e in cc)
                  ]
                ]
              ]
            ]
          ]
        ]
      ]
    ]
  ]
]

two : (v o w : List ℕ) (r s : List (List ℕ)) → v ≡ w → r ≡ s → v ∷ o ∷ r ≡ w ∷ o ∷ s
two v o w r s e f = cc

-- ---- what is spelled is read

replicas_read : (n : ℕ) → AreFew n → reading.replicas_of (decimal n) ≡ Some n
unfolding reading.replicas_of
replicas_read n h =
    ap (option_and_then reading.few_of) (decimal_read n (omega (arith, h.few)))
    ∙ ap (λ b. cond (b && nat_le n MAX_REPLICAS) (Some n) None) (le-leb 1 n h.some)
    ∙ ap (λ b. cond b (Some n) None) (le-leb n MAX_REPLICAS h.few)

rounds_read : (n : ℕ) → n ≤ MAX_ROUNDS → reading.rounds_of (decimal n) ≡ Some n
unfolding reading.rounds_of
rounds_read n h = ap (option_and_then reading.rounds_in) (decimal_read n (omega (arith, h))) ∙ ap (λ b. cond b (Some n) None) (le-leb n MAX_ROUNDS h)

drawing_read : (d : Drawing) → IsDrawing d → reading.drawing_in (drawing_words d) ≡ Some d
unfolding reading.drawing_of
drawing_read d h =
    ap (option_and_then (λ s. option_and_then (λ n. option_and_then (λ k. Some (record { seed = s; replicas = n; rounds = k })) (reading.rounds_of (decimal d.rounds))) (reading.replicas_of (decimal d.replicas)))) (decimal_read d.seed h.seed)
    ∙ ap (option_and_then (λ n. option_and_then (λ k. Some (record { seed = d.seed; replicas = n; rounds = k })) (reading.rounds_of (decimal d.rounds)))) (replicas_read d.replicas h.replicas)
    ∙ ap (option_and_then (λ k. Some (record { seed = d.seed; replicas = d.replicas; rounds = k }))) (rounds_read d.rounds h.few_rounds)

claim_read : (c : NamedClaim) → AreNames c → reading.claim_in (claim_words c) ≡ Some c
unfolding reading.claim_on_one reading.claim_on_two
claim_read (Sc m n) h = ap (λ b. cond (b && is_name n) (Some (Sc m n)) None) h.0 ∙ ap (λ b. cond b (Some (Sc m n)) None) h.1
claim_read (Pr m n) h = ap (λ b. cond (b && is_name n) (Some (Pr m n)) None) h.0 ∙ ap (λ b. cond b (Some (Pr m n)) None) h.1
claim_read (Pl m n) h = ap (λ b. cond (b && is_name n) (Some (Pl m n)) None) h.0 ∙ ap (λ b. cond b (Some (Pl m n)) None) h.1
claim_read (Is m) h = ap (λ b. cond (b && true) (Some (Is m)) None) h

asked_read : (a : Asked) → IsInRange a → reading.asked_by (verb_of a) (rest_of a) ≡ Some a
unfolding reading.asked_by
asked_read Normalizes h = refl
asked_read (Replays schedule) h = refl
asked_read (Records schedule) h = refl
asked_read (Audits file) h = refl
asked_read (Checks file) h = refl
asked_read (Derives claim) h = ap (option_map Derives) (claim_read claim h)
asked_read (Exemplifies claim) h = ap (option_map Exemplifies) (claim_read claim h)
asked_read (Tabulates replicas) h = ap (option_map Tabulates) (replicas_read replicas h)
asked_read (Bulks drawing) h = ap (option_map Bulks) (drawing_read drawing h)
asked_read (Scripts drawing) h = ap (option_map Scripts) (drawing_read drawing h)

spelled_read : (object : List ℕ) (a : Asked) → IsInRange a → reading.read (spelled object a) ≡ Some (object, a)
spelled_read object a h = ap (option_map (λ (x : Asked). (object, x))) (asked_read a h)

-- ---- both

pub asks_read : (words : List (List ℕ)) (object : List ℕ) (a : Asked) → Asks words object a → reading.read words ≡ Some (object, a)
asks_read words object a h = ap reading.read h.words_are ∙ spelled_read object a h.in_range

parts : (o p : List ℕ) (a b : Asked) → ◌≡◌ {A = List ℕ × Asked} (o, a) (p, b) → (o ≡ p) × (a ≡ b)
parts o p a b e = (ap (λ (x : List ℕ × Asked). x.0) e, ap (λ (x : List ℕ × Asked). x.1) e)

pub read_asks : (words : List (List ℕ)) (object : List ℕ) (a : Asked) → true ≡ list_all is_utf8 words → reading.read words ≡ Some (object, a) → Asks words object a
read_asks [] object a t e = absurd cc
read_asks (v ∷ []) object a t e = absurd cc
read_asks (v ∷ o ∷ rest) object a t e =
    let m = mapped (reading.asked_by v rest) (λ (x : Asked). (o, x)) (object, a) e in
    let s = asked_spelled v rest m.0 m.1 in
    let is = parts o object m.0 a m.2 in
    subst (λ (x : List ℕ). Asks (v ∷ o ∷ rest) x a) is.0
    (subst (Asks (v ∷ o ∷ rest) o) is.1 (record { words_are = two v o (verb_of m.0) rest (rest_of m.0) s.verb_is s.rest_is; text = sym t; in_range = s.in_range }))

pub none_read : (words : List (List ℕ)) → reading.read words ≡ None → AsksNothing words
none_read words e object a h = let bad = sym e ∙ asks_read words object a h in absurd cc

pub not_text : (words : List (List ℕ)) → false ≡ list_all is_utf8 words → AsksNothing words
not_text words e object a h = let bad = e ∙ h.text in absurd cc

same_pair : (o p : List ℕ) (a b : Asked) → ◌≡◌ {A = Option (List ℕ × Asked)} (Some (o, a)) (Some (p, b)) → (o ≡ p) × (a ≡ b)
same_pair o p a b e = parts o p a b (same_Some {A = List ℕ × Asked} (o, a) (p, b) e)

pub asks_once : (words : List (List ℕ)) → AsksOnce words
asks_once words object other a b h k = same_pair object other a b (sym (asks_read words object a h) ∙ asks_read words other b k)

-- words that are text, as they are read
pub asks_by : (words : List (List ℕ)) (r : Option Command) → true ≡ list_all is_utf8 words → MatchOption r (reading.read words ≡ None) (λ c. reading.read words ≡ Some (c.object.now, seen c.task)) → MatchOption r (AsksNothing words) (λ c. Asks words c.object.now (seen c.task))
asks_by words None t h = none_read words h
asks_by words (Some c) t h = read_asks words c.object.now (seen c.task) t h

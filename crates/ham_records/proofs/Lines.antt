-- What the words of a line spell, and how they are read.
use Rattle.std.proofs.Common.{◌≡◌, ◌⊎◌, ℕ, zero, suc, ◌+◌, ◌^◌, ◌<◌, ◌≤◌, Bool, true, false, cond, List, [], ◌∷◌, length, map, Option, Some, None, refl, sym, ap, ◌∙◌, subst, inl, inr, arith, lt-ltb}
use Rattle.std.specs.Prelude.{nat_lt, nat_le, nat_eq, ◌&&◌, IsTrue, slice_get, option_and_then, option_map, codes}
use Rattle.std.specs.Fmt.{decimal}
use Rattle.std.specs.Cmp.Lexicographic.{pointwise, same_text}
use Rattle.std.proofs.lemmas.Bool.{ltb-true, leb-true, le-leb, and_parts}
use Rattle.std.proofs.lemmas.Option.{same_Some, none-some}
use Rattle.ham_text.specs.Numbers.{number_of, numbers_within, below, AreNumbers}
use Rattle.ham_text.proofs.Wording.{decimal_read}
use Rattle.ham_text.proofs.Several.{spelled_below, read_below, within_spelled, within_read}
use Rattle.ham_text.proofs.Choices.{branch, chosen, steps, mapped, text_is}
use Rattle.ham_syntax.specs.declared.act.Act.{Act}
use Rattle.ham_syntax.specs.declared.act.Place.{Place}
use Rattle.ham_syntax.specs.declared.limits.TheConstants.{MAX_REPLICAS, MAX_PARAMS}
use Rattle.ham_syntax.specs.Objects.{Schema, method_name, method_named, method_fits, args_fit}
use Rattle.ham_syntax.specs.Checked.{IsChecked}
use Rattle.ham_syntax.proofs.Named.{named_is, named_read}
use Rattle.ham_records.specs.declared.records.Logged.{Logged}
use Rattle.ham_records.specs.declared.line.RecordLine.{RecordLine}
use Rattle.ham_records.specs.declared.line.RecordLine.TheVariants.{Opening, Replicas, Replica, Call, End}
use Rattle.ham_records.specs.Texts.{opening_words, replicas_words, replica_words, call_words, end_words, IsLogged}
use Rattle.ham_records.specs.Reading.{single_of, small_of, wide_of, opening_by, opening_of, counted, replicas_of, replica_of, place_of, fitting, act_of, call_of, bare_line, line_after, line_of}

abbrev pub line_words : Schema → RecordLine → List (List ℕ)
line_words o Opening = opening_words
line_words o (Replicas n) = replicas_words n
line_words o (Replica r) = replica_words r
line_words o (Call e) = call_words o e
line_words o End = end_words

-- what a line can say
abbrev pub IsLine : Schema → RecordLine → Type 0
IsLine o Opening = Unit {0}
IsLine o (Replicas n) = (1 ≤ n) × (n ≤ MAX_REPLICAS)
IsLine o (Replica r) = r < 256
IsLine o (Call e) = IsLogged o e
IsLine o End = Unit {0}

pub record Spells (o : Schema) (words : List (List ℕ)) (line : RecordLine) : Type 0 where
  pub is : IsLine o line
  pub words_are : words ≡ line_words o line

-- ---- numbers

small_spelled : (word : List ℕ) (m : ℕ) → small_of word ≡ Some m → (word ≡ decimal m) × (m < 256)
small_spelled word m e = spelled_below 256 word m e

small_read : (n : ℕ) → n < 256 → small_of (decimal n) ≡ Some n
small_read n h = read_below 256 n h (omega arith)

wide_spelled : (word : List ℕ) (m : ℕ) → wide_of word ≡ Some m → (word ≡ decimal m) × (m < 2 ^ 32)
wide_spelled word m e = spelled_below (2 ^ 32) word m e

wide_read : (n : ℕ) → n < 2 ^ 32 → wide_of (decimal n) ≡ Some n
wide_read n h = read_below (2 ^ 32) n h (omega arith)

single_spelled : (words : List (List ℕ)) (word : List ℕ) → single_of words ≡ Some word → words ≡ word ∷ []
unfolding single_of
single_spelled [] word e = absurd (none-some word e)
single_spelled (w ∷ []) word e = ap (λ z. z ∷ []) (same_Some w word e)
single_spelled (w ∷ v ∷ ws) word e = absurd (none-some word e)

single_read : (word : List ℕ) → single_of (word ∷ []) ≡ Some word
unfolding single_of
single_read word = refl

-- ---- the opening, and lines of a number

opening_pair : (a b : List ℕ) (line : RecordLine) → opening_by a b ≡ Some line → (Opening ≡ line) × (a ∷ b ∷ [] ≡ codes "audit" ∷ codes "1" ∷ [])
opening_pair a b line e =
    let w = chosen (pointwise nat_eq a (codes "audit") && pointwise nat_eq b (codes "1")) Opening line e in
    let p = and_parts (pointwise nat_eq a (codes "audit")) (pointwise nat_eq b (codes "1")) w.0 in
    (w.1, ap (λ z. z ∷ b ∷ []) (text_is a (codes "audit") p.0) ∙ ap (λ z. codes "audit" ∷ z ∷ []) (text_is b (codes "1") p.1))

opening_spelled : (o : Schema) (words : List (List ℕ)) (line : RecordLine) → opening_of words ≡ Some line → Spells o (codes "hamsaz" ∷ words) line
unfolding opening_of
opening_spelled o [] line e = absurd (none-some line e)
opening_spelled o (a ∷ []) line e = absurd (none-some line e)
opening_spelled o (a ∷ b ∷ []) line e =
    let w = opening_pair a b line e in
    subst (Spells o (codes "hamsaz" ∷ a ∷ b ∷ [])) w.0 (record { is = tt; words_are = ap (λ ws. codes "hamsaz" ∷ ws) w.1 })
opening_spelled o (a ∷ b ∷ c ∷ ws) line e = absurd (none-some line e)

replica_spelled : (o : Schema) (words : List (List ℕ)) (line : RecordLine) → replica_of words ≡ Some line → Spells o (codes "replica" ∷ words) line
replica_spelled o words line e =
    let w = steps (single_of words) (λ word. option_map (λ r. Replica r) (small_of word)) line e in
    let v = mapped (small_of w.0) (λ r. Replica r) line w.2 in
    let s = small_spelled w.0 v.0 v.1 in
    subst (Spells o (codes "replica" ∷ words)) v.2
    (record { is = s.1; words_are = ap (λ ws. codes "replica" ∷ ws) (single_spelled words w.0 w.1 ∙ ap (λ z. z ∷ []) s.0) })

counted_spelled : (o : Schema) (n : ℕ) (line : RecordLine) → counted n ≡ Some line → (Replicas n ≡ line) × (1 ≤ n) × (n ≤ MAX_REPLICAS)
counted_spelled o n line e =
    let w = chosen (nat_le 1 n && nat_le n MAX_REPLICAS) (Replicas n) line e in
    let p = and_parts (nat_le 1 n) (nat_le n MAX_REPLICAS) w.0 in
    (w.1, leb-true 1 n p.0, leb-true n MAX_REPLICAS p.1)

replicas_spelled : (o : Schema) (words : List (List ℕ)) (line : RecordLine) → replicas_of words ≡ Some line → Spells o (codes "replicas" ∷ words) line
replicas_spelled o words line e =
    let w = steps (single_of words) (λ word. option_and_then counted (small_of word)) line e in
    let v = steps (small_of w.0) counted line w.2 in
    let s = small_spelled w.0 v.0 v.1 in
    let c = counted_spelled o v.0 line v.2 in
    subst (Spells o (codes "replicas" ∷ words)) c.0
    (record { is = (c.1, c.2); words_are = ap (λ ws. codes "replicas" ∷ ws) (single_spelled words w.0 w.1 ∙ ap (λ z. z ∷ []) s.0) })

-- ---- calls

record PlaceSpelled (lane number : List ℕ) (c : Place) : Type 0 where
  lane_is : lane ≡ decimal c.lane
  number_is : number ≡ decimal c.number
  lane_low : c.lane < 256
  number_low : c.number < 2 ^ 32

place_spelled : (lane number : List ℕ) (c : Place) → place_of lane number ≡ Some c → PlaceSpelled lane number c
place_spelled lane number c e =
    let w = steps (small_of lane) (λ l. option_and_then (λ n. Some (record { lane = l; number = n })) (wide_of number)) c e in
    let v = steps (wide_of number) (λ n. Some (record { lane = w.0; number = n })) c w.2 in
    let l = small_spelled lane w.0 w.1 in
    let n = wide_spelled number v.0 v.1 in
    subst (PlaceSpelled lane number) (same_Some (record { lane = w.0; number = v.0 }) c v.2) (record { lane_is = l.0; number_is = n.0; lane_low = l.1; number_low = n.1 })

record ActSpelled (o : Schema) (name : List ℕ) (words : List (List ℕ)) (a : Act) : Type 0 where
  name_is : name ≡ method_name o a.method
  words_are : words ≡ map decimal a.args
  fits : IsTrue (args_fit o a)
  args : AreNumbers a.args
  few : length a.args ≤ MAX_PARAMS

act_spelled : (o : Schema) (name : List ℕ) (words : List (List ℕ)) (a : Act) → act_of o name words ≡ Some a → ActSpelled o name words a
unfolding act_of
act_spelled o name words a e =
    let w = steps (method_named o name) (λ m. option_and_then (λ args. fitting o (record { method = m; args = args })) (numbers_within MAX_PARAMS words)) a e in
    let v = steps (numbers_within MAX_PARAMS words) (λ args. fitting o (record { method = w.0; args = args })) a w.2 in
    let f = chosen (args_fit o (record { method = w.0; args = v.0 })) (record { method = w.0; args = v.0 }) a v.2 in
    let n = named_is (λ x. x.name) o.methods name w.0 w.1 in
    let s = within_spelled MAX_PARAMS words v.0 v.1 in
    subst (ActSpelled o name words) f.1 (record { name_is = sym n.1; words_are = s.words; fits = f.0; args = s.numbers; few = s.few })

call_spelled : (o : Schema) (words : List (List ℕ)) (e : Logged) → call_of o words ≡ Some e → Spells o (codes "call" ∷ words) (Call e)
unfolding call_of
call_spelled o [] e h = absurd (none-some e h)
call_spelled o (l ∷ []) e h = absurd (none-some e h)
call_spelled o (l ∷ k ∷ []) e h = absurd (none-some e h)
call_spelled o (l ∷ k ∷ name ∷ words) e h =
    let w = steps (place_of l k) (λ c. option_and_then (λ a. Some (record { place = c; act = a })) (act_of o name words)) e h in
    let v = steps (act_of o name words) (λ a. Some (record { place = w.0; act = a })) e w.2 in
    let p = place_spelled l k w.0 w.1 in
    let a = act_spelled o name words v.0 v.1 in
    let one = p.lane_is in
    let two = p.number_is in
    let three = a.name_is in
    let four = a.words_are in
    subst (λ z. Spells o (codes "call" ∷ l ∷ k ∷ name ∷ words) (Call z)) (same_Some (record { place = w.0; act = v.0 }) e v.2)
    (record { is = record { lane = p.lane_low; number = p.number_low; fits = a.fits; args = a.args; few = a.few }; words_are = cc })

-- ---- lines

after_spelled : (o : Schema) (word : List ℕ) (words : List (List ℕ)) (line : RecordLine) → line_after o word words ≡ Some line → Spells o (word ∷ words) line
after_spelled o word words line e = elim (branch (pointwise nat_eq word (codes "call")) _ _ line e) [
  | inl p ↦
      let w = mapped (call_of o words) (λ z. Call z) line p.1 in
      subst (λ z. Spells o (z ∷ words) line) (sym (text_is word (codes "call") p.0)) (subst (Spells o (codes "call" ∷ words)) w.2 (call_spelled o words w.0 w.1))
  | inr e2 ↦ elim (branch (pointwise nat_eq word (codes "replica")) _ _ line e2) [
    | inl p ↦ subst (λ z. Spells o (z ∷ words) line) (sym (text_is word (codes "replica") p.0)) (replica_spelled o words line p.1)
    | inr e3 ↦ elim (branch (pointwise nat_eq word (codes "replicas")) _ _ line e3) [
      | inl p ↦ subst (λ z. Spells o (z ∷ words) line) (sym (text_is word (codes "replicas") p.0)) (replicas_spelled o words line p.1)
      | inr e4 ↦ elim (branch (pointwise nat_eq word (codes "hamsaz")) _ _ line e4) [
        | inl p ↦ subst (λ z. Spells o (z ∷ words) line) (sym (text_is word (codes "hamsaz") p.0)) (opening_spelled o words line p.1)
        | inr e5 ↦ absurd (none-some line e5)
      ]
    ]
  ]
]

pub line_spelled : (o : Schema) (words : List (List ℕ)) (line : RecordLine) → line_of o words ≡ Some line → Spells o words line
unfolding line_of
line_spelled o [] line e = absurd (none-some line e)
line_spelled o (word ∷ []) line e =
    let w = chosen (pointwise nat_eq word (codes "end")) End line e in
    subst (Spells o (word ∷ [])) w.1 (record { is = tt; words_are = ap (λ z. z ∷ []) (text_is word (codes "end") w.0) })
line_spelled o (word ∷ next ∷ words) line e = after_spelled o word (next ∷ words) line e

-- ---- what is spelled is read

pub method_there : (o : Schema) (e : Logged) → IsLogged o e → e.act.method < length o.methods
method_there o e is = there o.methods e.act.method e.act.args is.fits
  where
    there : (ms : _) (m : ℕ) (args : List ℕ) → IsTrue (method_fits (slice_get ms m) args) → m < length ms
    there [] zero args h = absurd cc
    there [] (suc m) args h = absurd cc
    there (x ∷ ms) zero args h = omega arith
    there (x ∷ ms) (suc m) args h = let l = there ms m args h in omega arith

place_read : (c : Place) → c.lane < 256 → c.number < 2 ^ 32 → place_of (decimal c.lane) (decimal c.number) ≡ Some c
place_read c h k =
    ap (option_and_then (λ l. option_and_then (λ n. Some (record { lane = l; number = n })) (wide_of (decimal c.number)))) (small_read c.lane h)
    ∙ ap (option_and_then (λ n. Some (record { lane = c.lane; number = n }))) (wide_read c.number k)

act_read : (o : Schema) → IsChecked o → (e : Logged) → IsLogged o e → act_of o (method_name o e.act.method) (map decimal e.act.args) ≡ Some e.act
unfolding act_of
act_read o checked e is =
    ap (option_and_then (λ m. option_and_then (λ args. fitting o (record { method = m; args = args })) (numbers_within MAX_PARAMS (map decimal e.act.args))))
    (named_read (λ x. x.name) o.methods e.act.method checked.distinct_methods (method_there o e is))
    ∙ ap (option_and_then (λ args. fitting o (record { method = e.act.method; args = args }))) (within_read MAX_PARAMS e.act.args is.args is.few)
    ∙ ap (λ b. cond b (Some e.act) None) is.fits

call_read : (o : Schema) → IsChecked o → (e : Logged) → IsLogged o e →
    call_of o (decimal e.place.lane ∷ decimal e.place.number ∷ method_name o e.act.method ∷ map decimal e.act.args) ≡ Some e
unfolding call_of
call_read o checked e is =
    ap (option_and_then (λ c. option_and_then (λ a. Some (record { place = c; act = a })) (act_of o (method_name o e.act.method) (map decimal e.act.args)))) (place_read e.place is.lane is.number)
    ∙ ap (option_and_then (λ a. Some (record { place = e.place; act = a }))) (act_read o checked e is)

pub line_read : (o : Schema) → IsChecked o → (line : RecordLine) → IsLine o line → line_of o (line_words o line) ≡ Some line
unfolding line_of opening_of
line_read o checked Opening is = refl
line_read o checked (Replicas n) is =
    let few = is.1 in
    ap (option_and_then (λ word. option_and_then counted (small_of word))) (single_read (decimal n))
    ∙ ap (option_and_then counted) (small_read n (omega arith))
    ∙ ap (λ b. cond (b && nat_le n MAX_REPLICAS) (Some (Replicas n)) None) (le-leb 1 n is.0)
    ∙ ap (λ b. cond b (Some (Replicas n)) None) (le-leb n MAX_REPLICAS is.1)
line_read o checked (Replica r) is =
    ap (option_and_then (λ word. option_map (λ r. Replica r) (small_of word))) (single_read (decimal r)) ∙ ap (option_map (λ r. Replica r)) (small_read r is)
line_read o checked (Call e) is = ap (option_map (λ z. Call z)) (call_read o checked e is)
line_read o checked End is = refl

-- What is read of a form is what its texts are, and where nothing is read, which line is bad.
use Rattle.std.proofs.Common.{◌≡◌, ℕ, ◌+◌, ◌<◌, Bool, true, false, ◌&&◌, ◌==◌, cond, List, [], ◌∷◌, ◌++◌, length, map, Option, Some, None, Result, Ok, Err, refl, sym, ap, ◌∙◌, subst, inl, inr, arith, length-append, append_assoc}
use Rattle.std.specs.Prelude.{option_and_then}
use Rattle.std.specs.List.{join_with_byte}
use Rattle.std.proofs.lemmas.Bool.{and_parts, cases_lt, both_ways, eqb-true}
use Rattle.std.proofs.lemmas.Option.{same_Some, none-some}
use Rattle.std.proofs.lemmas.List.Splits.{length-slice_split, join_with_byte-slice_split}
use Rattle.std.proofs.lemmas.List.{length-map, append-nil}
use Rattle.ham_text.specs.Cuts.{parts_of, pieces_of}
use Rattle.ham_text.specs.Written.{nothing}
use Rattle.ham_text.specs.BadLines.{IsFirstBadLine, IsClosed}
use Rattle.ham_text.specs.Forms.{Form, state_after, MayBegin, IsText, is_nothing, with_state, end_of, read_from}

abbrev Lines : Type 0
Lines = List (List (List ℕ))

pub some_pieces : (bytes : List ℕ) → 0 < length (pieces_of bytes)
unfolding pieces_of
some_pieces bytes = omega (arith, length-map (parts_of 10 bytes) (parts_of 32), length-slice_split (λ b. b == 10) bytes)

is_nothing_is : (words : List (List ℕ)) → is_nothing words ≡ true → words ≡ nothing
is_nothing_is [] e = absurd cc
is_nothing_is ([] ∷ []) e = refl
is_nothing_is ([] ∷ (w ∷ ws)) e = absurd cc
is_nothing_is ((b ∷ bs) ∷ ws) e = absurd cc

after_steps : {A B : Type 0} (o : Option A) (f : A → Option B) (y : B) → option_and_then f o ≡ Some y → (x : A) × (o ≡ Some x) × (f x ≡ Some y)
after_steps (Some x) f y e = (x, refl, e)
after_steps None f y e = absurd (none-some y e)

nothing_in : (text : List ℕ) → (length text == 0) ≡ true → is_nothing (parts_of 32 text) ≡ true
nothing_in [] e = refl
nothing_in (b ∷ bs) e = let none : length (b ∷ bs) ≡ 0 = eqb-true (length (b ∷ bs)) 0 e in absurd (omega arith)

not_nothing : (text : List ℕ) (b : Bool) → (length text == 0) ≡ false → is_nothing (parts_of 32 text) ≡ b → b ≡ false
not_nothing text false some e = refl
not_nothing text true some e =
    let none : text ≡ [] = sym (join_with_byte-slice_split 32 text) ∙ ap (join_with_byte 32) (is_nothing_is (parts_of 32 text) e) in
    absurd (both_ways (length text == 0) some (ap (λ (t : List ℕ). length t == 0) none))

something_in : (text : List ℕ) → (length text == 0) ≡ false → is_nothing (parts_of 32 text) ≡ false
something_in text some = not_nothing text (is_nothing (parts_of 32 text)) some refl

module _ {S : Type 0} (f : Form S) where
  by_state : (o : Option S) (xs ys : Lines) → ((t : S) → state_after f t (xs ++ ys) ≡ option_and_then (λ u. state_after f u ys) (state_after f t xs))
      → option_and_then (λ t. state_after f t (xs ++ ys)) o ≡ option_and_then (λ t. state_after f t ys) (option_and_then (λ t. state_after f t xs) o)
  by_state None xs ys h = refl
  by_state (Some t) xs ys h = h t

  -- the state after some lines and more
  pub more : (s : S) (xs ys : Lines) → state_after f s (xs ++ ys) ≡ option_and_then (λ t. state_after f t ys) (state_after f s xs)
  more s [] ys = refl
  more s (x ∷ xs) ys = by_state (f.after s x) xs ys (λ t. more t xs ys)

  -- what each line keeps holds after all of them
  pub kept : (P : S → Lines → Type 0) → ((s t : S) (lines : Lines) (words : List (List ℕ)) → P s lines → f.after s words ≡ Some t → P t (lines ++ words ∷ []))
      → (s t : S) (lines later : Lines) → P s lines → state_after f s later ≡ Some t → P t (lines ++ later)
  kept P each s t lines [] h e = subst (λ ls. P t ls) (sym (append-nil lines)) (subst (λ u. P u lines) (same_Some s t e) h)
  kept P each s t lines (words ∷ later) h e =
      let w = after_steps (f.after s words) (λ u. state_after f u later) t e in
      subst (λ ls. P t ls) (append_assoc lines (words ∷ []) later) (kept P each w.0 t (lines ++ words ∷ []) later (each s w.0 lines words h w.1) w.2)

  -- a text that begins with some lines begins with the first of them
  pub closed : IsClosed (MayBegin f)
  closed lines later h =
      let w = after_steps (state_after f f.first lines) (λ t. state_after f t later) h.state (sym (more f.first lines later) ∙ h.reached) in
      record { state = w.0; reached = w.1 }

  step : (s : S) (n : ℕ) (words : List (List ℕ)) (pieces : Lines) → 0 < length pieces → read_from f s n (words ∷ pieces) ≡ with_state n (f.after s words) (λ t. read_from f t (n + 1) pieces)
  step s n words [] h = absurd (omega arith)
  step s n words (p ∷ ps) h = refl

  -- ---- over bytes

  pieces_cut : (bytes text rest : List ℕ) → parts_of 10 bytes ≡ text ∷ parts_of 10 rest → pieces_of bytes ≡ parts_of 32 text ∷ pieces_of rest
  unfolding pieces_of
  pieces_cut bytes text rest e = ap (map (parts_of 32)) e

  pieces_last : (bytes text : List ℕ) → parts_of 10 bytes ≡ text ∷ [] → pieces_of bytes ≡ parts_of 32 text ∷ []
  unfolding pieces_of
  pieces_last bytes text e = ap (map (parts_of 32)) e

  line_step : (s : S) (n : ℕ) (bytes text rest : List ℕ) (found : Option S) → parts_of 10 bytes ≡ text ∷ parts_of 10 rest → f.after s (parts_of 32 text) ≡ found
      → read_from f s n (pieces_of bytes) ≡ with_state n found (λ t. read_from f t (n + 1) (pieces_of rest))
  line_step s n bytes text rest found e t =
      ap (read_from f s n) (pieces_cut bytes text rest e) ∙ step s n (parts_of 32 text) (pieces_of rest) (some_pieces rest) ∙ ap (λ o. with_state n o (λ t. read_from f t (n + 1) (pieces_of rest))) t

  -- a line that may stand
  pub line_taken : (s t : S) (n : ℕ) (bytes text rest : List ℕ) (taken : Bool) → parts_of 10 bytes ≡ text ∷ parts_of 10 rest → f.after s (parts_of 32 text) ≡ cond taken (Some t) None → taken ≡ true
      → read_from f s n (pieces_of bytes) ≡ read_from f t (n + 1) (pieces_of rest)
  line_taken s t n bytes text rest taken e h y = line_step s n bytes text rest (Some t) e (h ∙ ap (λ b. cond b (Some t) None) y)

  -- a line that may not
  pub line_refused : (s t : S) (n : ℕ) (bytes text rest : List ℕ) (taken : Bool) → parts_of 10 bytes ≡ text ∷ parts_of 10 rest → f.after s (parts_of 32 text) ≡ cond taken (Some t) None → taken ≡ false
      → read_from f s n (pieces_of bytes) ≡ Err n
  line_refused s t n bytes text rest taken e h y = line_step s n bytes text rest None e (h ∙ ap (λ b. cond b (Some t) None) y)

  last_step : (s : S) (n : ℕ) (bytes text : List ℕ) (b : Bool) → parts_of 10 bytes ≡ text ∷ [] → (is_nothing (parts_of 32 text) && f.ends s) ≡ b → read_from f s n (pieces_of bytes) ≡ end_of s n b
  last_step s n bytes text b e h = ap (read_from f s n) (pieces_last bytes text e) ∙ ap (end_of s n) h

  -- the end
  pub ended_well : (s : S) (n : ℕ) (bytes text : List ℕ) → parts_of 10 bytes ≡ text ∷ [] → (length text == 0) ≡ true → f.ends s ≡ true → read_from f s n (pieces_of bytes) ≡ Ok s
  ended_well s n bytes text e none h = last_step s n bytes text true e (ap (λ b. b && f.ends s) (nothing_in text none) ∙ h)

  pub ended_early : (s : S) (n : ℕ) (bytes text : List ℕ) → parts_of 10 bytes ≡ text ∷ [] → (length text == 0) ≡ true → f.ends s ≡ false → read_from f s n (pieces_of bytes) ≡ Err n
  ended_early s n bytes text e none h = last_step s n bytes text false e (ap (λ b. b && f.ends s) (nothing_in text none) ∙ h)

  -- a line without its end
  pub endless : (s : S) (n : ℕ) (bytes text : List ℕ) → parts_of 10 bytes ≡ text ∷ [] → (length text == 0) ≡ false → read_from f s n (pieces_of bytes) ≡ Err n
  endless s n bytes text e some = last_step s n bytes text false e (ap (λ b. b && f.ends s) (something_in text some))

  -- ---- texts are read

  then_nothing : (lines : Lines) → 0 < length (lines ++ nothing ∷ [])
  then_nothing [] = omega arith
  then_nothing (l ∷ ls) = omega arith

  pub text_read : (s t : S) (n : ℕ) (lines : Lines) → state_after f s lines ≡ Some t → f.ends t ≡ true → read_from f s n (lines ++ nothing ∷ []) ≡ Ok t
  text_read s t n [] e h = let same = same_Some s t e in ap (end_of s n) (ap f.ends same ∙ h) ∙ ap Ok same
  text_read s t n (l ∷ ls) e h =
      let w = after_steps (f.after s l) (λ t. state_after f t ls) t e in
      step s n l (ls ++ nothing ∷ []) (then_nothing ls) ∙ ap (λ o. with_state n o (λ t. read_from f t (n + 1) (ls ++ nothing ∷ []))) w.1 ∙ text_read w.0 t (n + 1) ls w.2 h

  -- ---- what is read is a text

  pub record Read (s : S) (pieces : Lines) (t : S) : Type 0 where
    pub lines : Lines
    pub pieces_are : pieces ≡ lines ++ nothing ∷ []
    pub reached : state_after f s lines ≡ Some t
    pub ends : f.ends t ≡ true

  at_end : (s t : S) (n : ℕ) (words : List (List ℕ)) (b : Bool) → (is_nothing words && f.ends s) ≡ b → end_of s n b ≡ Ok t → Read s (words ∷ []) t
  at_end s t n words false d e = absurd cc
  at_end s t n words true d e =
      let p = and_parts (is_nothing words) (f.ends s) d in
      let same : s ≡ t = cc in
      let none = is_nothing_is words p.0 in
      record { lines = []; pieces_are = ap (λ w. w ∷ []) none; reached = ap Some same; ends = ap f.ends (sym same) ∙ p.1 }

  read_on : (s t : S) (n : ℕ) (words : List (List ℕ)) (pieces : Lines) (found : Option S) → f.after s words ≡ found → ((u : S) → read_from f u (n + 1) pieces ≡ Ok t → Read u pieces t)
      → with_state n found (λ u. read_from f u (n + 1) pieces) ≡ Ok t → Read s (words ∷ pieces) t
  read_on s t n words pieces None d later e = absurd cc
  read_on s t n words pieces (Some u) d later e =
      let r = later u e in
      record { lines = words ∷ r.lines; pieces_are = ap (λ (ps : Lines). words ∷ ps) r.pieces_are; reached = ap (option_and_then (λ t. state_after f t r.lines)) d ∙ r.reached; ends = r.ends }

  pub read_text : (s t : S) (n : ℕ) (pieces : Lines) → read_from f s n pieces ≡ Ok t → Read s pieces t
  read_text s t n [] e = absurd cc
  read_text s t n (words ∷ []) e = at_end s t n words (is_nothing words && f.ends s) refl e
  read_text s t n (words ∷ next ∷ pieces) e = read_on s t n words (next ∷ pieces) (f.after s words) refl (λ u d. read_text u t (n + 1) (next ∷ pieces) d) e

  -- ---- where nothing is read, a line is bad

  record Bad (s : S) (n m : ℕ) (pieces : Lines) : Type 0 where
    good : Lines
    left : Lines
    state : S
    pieces_are : pieces ≡ good ++ left
    some : 0 < length left
    number : m ≡ length good + n
    reached : state_after f s good ≡ Some state
    stuck : (line : List (List ℕ)) (later : Lines) → left ≡ line ∷ later → 0 < length later → f.after state line ≡ None

  lone : (words line : List (List ℕ)) (later : Lines) (o : Option S) → words ∷ [] ≡ line ∷ later → 0 < length later → o ≡ None
  lone words line [] o e h = absurd (omega arith)
  lone words line (l ∷ ls) o e h = absurd cc

  bad_end : (s : S) (n m : ℕ) (words : List (List ℕ)) (b : Bool) → end_of s n b ≡ Err m → Bad s n m (words ∷ [])
  bad_end s n m words true e = absurd cc
  bad_end s n m words false e =
      let same : n ≡ m = cc in
      record { good = []; left = words ∷ []; state = s; pieces_are = refl; some = omega arith; number = omega arith; reached = refl; stuck = λ line later d h. lone words line later (f.after s line) d h }

  same_line : (words line : List (List ℕ)) (pieces later : Lines) → words ∷ pieces ≡ line ∷ later → words ≡ line
  same_line words line pieces later e = cc

  bad_on : (s : S) (n m : ℕ) (words : List (List ℕ)) (pieces : Lines) (found : Option S) → f.after s words ≡ found → ((u : S) → read_from f u (n + 1) pieces ≡ Err m → Bad u (n + 1) m pieces)
      → with_state n found (λ u. read_from f u (n + 1) pieces) ≡ Err m → Bad s n m (words ∷ pieces)
  bad_on s n m words pieces None d later e =
      let same : n ≡ m = cc in
      record { good = []; left = words ∷ pieces; state = s; pieces_are = refl; some = omega arith; number = omega arith; reached = refl; stuck = λ line rest g h. ap (f.after s) (sym (same_line words line pieces rest g)) ∙ d }
  bad_on s n m words pieces (Some u) d later e =
      let r = later u e in
      let number = r.number in
      record {
        good = words ∷ r.good;
        left = r.left;
        state = r.state;
        pieces_are = ap (λ (ps : Lines). words ∷ ps) r.pieces_are;
        some = r.some;
        number = omega arith;
        reached = ap (option_and_then (λ t. state_after f t r.good)) d ∙ r.reached;
        stuck = r.stuck;
      }

  bad_read : (s : S) (n m : ℕ) (pieces : Lines) → 0 < length pieces → read_from f s n pieces ≡ Err m → Bad s n m pieces
  bad_read s n m [] some e = absurd (omega arith)
  bad_read s n m (words ∷ []) some e = bad_end s n m words (is_nothing words && f.ends s) e
  bad_read s n m (words ∷ next ∷ pieces) some e = bad_on s n m words (next ∷ pieces) (f.after s words) refl (λ u d. bad_read u (n + 1) m (next ∷ pieces) (omega arith) d) e

  read_or_bad : (r : Result S ℕ) (t : S) (m : ℕ) → r ≡ Ok t → r ≡ Err m → ⊥
  read_or_bad r t m d e = cc

  -- the line that is told is the first bad one
  pub first_bad : (bytes : List ℕ) (m : ℕ) → read_from f f.first 1 (pieces_of bytes) ≡ Err m → IsFirstBadLine (MayBegin f) (IsText f) bytes m
  first_bad bytes m e =
      let b = bad_read f.first 1 m (pieces_of bytes) (some_pieces bytes) e in
      record {
        good = b.good;
        left = b.left;
        begins = record { pieces = b.pieces_are; some = b.some };
        number = b.number;
        may_begin = record { state = b.state; reached = b.reached };
        stuck = λ line later d h k.
            none-some k.state (sym (ap (option_and_then (λ t. state_after f t [])) (b.stuck line later d h)) ∙ sym (ap (option_and_then (λ t. state_after f t (line ∷ []))) b.reached) ∙ sym (more f.first b.good (line ∷ [])) ∙ k.reached);
        no_text = λ lines d k. read_or_bad (read_from f f.first 1 (pieces_of bytes)) k.state m (ap (read_from f f.first 1) d ∙ text_read f.first k.state 1 lines k.reached k.ends) e;
      }

-- ---- the first bad line over sets of texts that are the same

pub same_bad_line : (MayBegin IsText Begins IsOther : Lines → Type 0) → ((lines : Lines) → MayBegin lines → Begins lines) → ((lines : Lines) → Begins lines → MayBegin lines) → ((lines : Lines) → IsOther lines → IsText lines)
    → (bytes : List ℕ) (n : ℕ) → IsFirstBadLine MayBegin IsText bytes n → IsFirstBadLine Begins IsOther bytes n
same_bad_line MayBegin IsText Begins IsOther there back text bytes n h = record {
  good = h.good;
  left = h.left;
  begins = h.begins;
  number = h.number;
  may_begin = there h.good h.may_begin;
  stuck = λ line later e some k. h.stuck line later e some (back (h.good ++ line ∷ []) k);
  no_text = λ lines e k. h.no_text lines e (text lines k);
}

-- ---- one line is the first bad one

record Earlier (good later left : Lines) (rest : Lines) : Type 0 where
  line : List (List ℕ)
  next : Lines
  left_is : left ≡ line ∷ (next ++ rest)
  later_is : later ≡ (good ++ line ∷ []) ++ next

earlier : (good later left rest : Lines) → good ++ left ≡ later ++ rest → length good < length later → Earlier good later left rest
earlier [] [] left rest e h = absurd (omega arith)
earlier [] (l ∷ ls) left rest e h = record { line = l; next = ls; left_is = e; later_is = refl }
earlier (g ∷ gs) [] left rest e h = absurd (omega arith)
earlier (g ∷ gs) (l ∷ ls) left rest e h =
    let first : g ≡ l = cc in
    let others : gs ++ left ≡ ls ++ rest = cc in
    let w = earlier gs ls left rest others (omega arith) in
    let tail = w.later_is in
    record { line = w.line; next = w.next; left_is = w.left_is; later_is = cc }

not_before : (MayBegin IsText : Lines → Type 0) → IsClosed MayBegin → (bytes : List ℕ) (m n : ℕ) → IsFirstBadLine MayBegin IsText bytes m → IsFirstBadLine MayBegin IsText bytes n → m < n → ⊥
not_before MayBegin IsText is_closed bytes m n h k lt =
    let one = h.number in
    let other = k.number in
    let w = earlier h.good k.good h.left k.left (sym h.begins.pieces ∙ k.begins.pieces) (omega arith) in
    let some = k.begins.some in
    h.stuck w.line (w.next ++ k.left) w.left_is (omega (arith, length-append w.next k.left)) (is_closed (h.good ++ w.line ∷ []) w.next (subst MayBegin w.later_is k.may_begin))

pub one_bad_line : (MayBegin IsText : Lines → Type 0) → IsClosed MayBegin → (bytes : List ℕ) (m n : ℕ) → IsFirstBadLine MayBegin IsText bytes m → IsFirstBadLine MayBegin IsText bytes n → m ≡ n
one_bad_line MayBegin IsText is_closed bytes m n h k = elim (cases_lt m n) [
  | inl lt ↦ absurd (not_before MayBegin IsText is_closed bytes m n h k lt)
  | inr ge ↦ elim (cases_lt n m) [
    | inl gt ↦ absurd (not_before MayBegin IsText is_closed bytes n m k h gt)
    | inr le ↦ omega arith
  ]
]

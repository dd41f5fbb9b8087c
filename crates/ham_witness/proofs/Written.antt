-- Lines of an example's text.
use Rattle.std.proofs.Common.{◌≡◌, ℕ, ◌+◌, List, [], ◌∷◌, ◌++◌, map, sym, ap, ◌∙◌, append_assoc}
use Rattle.std.specs.Prelude.{Bool, true, false, if◌then◌else◌, Option, Some, slice_get, min, max, codes}
use Rattle.std.specs.List.{flat_map}
use Rattle.std.specs.Fmt.{decimal}
use Rattle.std.proofs.lemmas.List.{append-nil}
use Rattle.std.proofs.lemmas.List.Concat.{flat_map-append}
use Rattle.ham_text.specs.Written.{spaced, line_text, lines_text}
use Rattle.ham_text.proofs.Wording.{joined_spaced}
use Rattle.ham_syntax.specs.declared.object.Counter.{Counter}
use Rattle.ham_syntax.specs.Objects.{Schema}
use Rattle.ham_steps.specs.Content.{State}
use Rattle.ham_rules.specs.Claims.{lists_below}
use Rattle.ham_rules.specs.declared.claim.Claim.{Claim}
use Rattle.ham_derive.specs.Texts.{claim_words}
use Rattle.ham_witness.specs.declared.answers.Example.{Example}
use Rattle.ham_witness.specs.declared.ids.Ids.{Ids}
use Rattle.ham_witness.specs.Cases.{ids_of}
use Rattle.ham_witness.specs.ExampleText.{row_lines, ascending_keys, value_lines_at, value_lines_of, value_lines, act_line, second_lines, shown_words, example_text}
use Rattle.ham_witness.proofs.Building.{lists-more}

four : (t w n s e : List ℕ) → (((t ++ w) ++ n) ++ s) ++ e ≡ t ++ ((w ++ (n ++ s)) ++ e)
four t w n s e = simp append_assoc

-- a line that is written word by word
pub line-written : (word name : List ℕ) (numbers t0 t1 t2 t3 : List ℕ) → t1 ≡ t0 ++ word → t2 ≡ t1 ++ 32 ∷ name → t3 ≡ t2 ++ spaced (map decimal numbers) → t3 ++ 10 ∷ [] ≡ t0 ++ line_text (word ∷ name ∷ map decimal numbers)
line-written word name numbers t0 t1 t2 t3 e1 e2 e3 =
    ap (λ (t : List ℕ). t ++ 10 ∷ []) (e3 ∙ ap (λ (t : List ℕ). t ++ spaced (map decimal numbers)) (e2 ∙ ap (λ (t : List ℕ). t ++ 32 ∷ name) e1))
    ∙ (four t0 word (32 ∷ name) (spaced (map decimal numbers)) (10 ∷ [])
    ∙ ap (λ (t : List ℕ). t0 ++ (t ++ 10 ∷ [])) (sym (joined_spaced word (name ∷ map decimal numbers))))

-- the lines of the pieces below n stand after what was there
abbrev pub Lined : (ℕ → List (List (List ℕ))) → ℕ → List ℕ → List ℕ → Type 0
Lined f n old now = now ≡ old ++ lines_text (lists_below n f)

pub lined-more : (f : ℕ → List (List (List ℕ))) (n : ℕ) (old now new : List ℕ) → Lined f n old now → new ≡ now ++ lines_text (f n) → Lined f (n + 1) old new
lined-more f n old now new is e =
    e
    ∙ (ap (λ (front : List ℕ). front ++ lines_text (f n)) is
    ∙ (append_assoc old (lines_text (lists_below n f)) (lines_text (f n))
    ∙ ap (λ (rest : List ℕ). old ++ rest) (sym (flat_map-append line_text (lists_below n f) (f n)) ∙ ap lines_text (sym (lists-more f n)))))

-- ---- the values of a counter

ascending-two : (ids : Ids) (found : Option Counter) (counter : Counter) → found ≡ Some counter → counter.keyed ≡ true → ascending_keys ids found ≡ min ids.c ids.d ∷ max ids.c ids.d ∷ []
ascending-two ids found counter is keyed = ap (ascending_keys ids) is ∙ ap (λ (b : Bool). if b then min ids.c ids.d ∷ max ids.c ids.d ∷ [] else 0 ∷ []) keyed

ascending-one : (ids : Ids) (found : Option Counter) (counter : Counter) → found ≡ Some counter → counter.keyed ≡ false → ascending_keys ids found ≡ 0 ∷ []
ascending-one ids found counter is plain = ap (ascending_keys ids) is ∙ ap (λ (b : Bool). if b then min ids.c ids.d ∷ max ids.c ids.d ∷ [] else 0 ∷ []) plain

module _ (o : Schema) (ids : Ids) (s : State) (c : ℕ) (counter : Counter) (is : slice_get o.counters c ≡ Some counter) where
  -- at both keys, one after the other
  pub two-written : (old mid : List ℕ) → counter.keyed ≡ true → mid ≡ old ++ lines_text (value_lines_at o s c (min ids.c ids.d)) → mid ++ lines_text (value_lines_at o s c (max ids.c ids.d)) ≡ old ++ lines_text (value_lines_of o ids s c)
  two-written old mid keyed e =
      let low = value_lines_at o s c (min ids.c ids.d) in
      let high = value_lines_at o s c (max ids.c ids.d) in
      ap (λ (t : List ℕ). t ++ lines_text high) e
      ∙ append_assoc old (lines_text low) (lines_text high)
      ∙ ap (λ (t : List ℕ). old ++ t)
      (sym (flat_map-append line_text low high)
      ∙ ap (λ (ls : List (List (List ℕ))). lines_text (low ++ ls)) (sym (append-nil high))
      ∙ ap (λ (keys : List ℕ). lines_text (flat_map (value_lines_at o s c) keys)) (sym (ascending-two ids (slice_get o.counters c) counter is keyed)))

  -- at the one key
  pub one-written : (old : List ℕ) → counter.keyed ≡ false → old ++ lines_text (value_lines_at o s c 0) ≡ old ++ lines_text (value_lines_of o ids s c)
  one-written old plain =
      ap (λ (t : List ℕ). old ++ t)
      (ap lines_text (sym (append-nil (value_lines_at o s c 0)))
      ∙ ap (λ (keys : List ℕ). lines_text (flat_map (value_lines_at o s c) keys)) (sym (ascending-one ids (slice_get o.counters c) counter is plain)))

-- ---- the whole

parts : (first m w end : List (List ℕ)) (r v s : List (List (List ℕ))) → lines_text (first ∷ (r ++ (v ++ (m ∷ (s ++ (w ∷ end ∷ [])))))) ≡ line_text first ++ (lines_text r ++ (lines_text v ++ (line_text m ++ (lines_text s ++ (line_text w ++ (line_text end ++ []))))))
parts first m w end r v s =
    ap (λ (t : List ℕ). line_text first ++ t)
    (flat_map-append line_text r (v ++ (m ∷ (s ++ (w ∷ end ∷ []))))
    ∙ ap (λ (t : List ℕ). lines_text r ++ t)
    (flat_map-append line_text v (m ∷ (s ++ (w ∷ end ∷ []))) ∙ ap (λ (t : List ℕ). lines_text v ++ (line_text m ++ t)) (flat_map-append line_text s (w ∷ end ∷ []))))

seven : (a b c d e f g t1 t2 t3 t4 t5 t6 t7 : List ℕ) → t1 ≡ a → t2 ≡ t1 ++ b → t3 ≡ t2 ++ c → t4 ≡ t3 ++ d → t5 ≡ t4 ++ e → t6 ≡ t5 ++ f → t7 ≡ t6 ++ g → t7 ≡ a ++ (b ++ (c ++ (d ++ (e ++ (f ++ g)))))
seven a b c d e f g t1 t2 t3 t4 t5 t6 t7 e1 e2 e3 e4 e5 e6 e7 =
    e7 ∙ (ap (λ (t : List ℕ). t ++ g) (e6 ∙ ap (λ (t : List ℕ). t ++ f) (e5 ∙ ap (λ (t : List ℕ). t ++ e) (e4 ∙ ap (λ (t : List ℕ). t ++ d) (e3 ∙ ap (λ (t : List ℕ). t ++ c) (e2 ∙ ap (λ (t : List ℕ). t ++ b) e1)))))
    ∙ simp append_assoc)

pub printed : (o : Schema) (claim : Claim) (e : Example) (ids : Ids) (t0 t1 t2 t3 t4 t5 t6 t7 : List ℕ) → t0 ≡ [] → ids ≡ ids_of o claim → t1 ≡ t0 ++ line_text (codes "example" ∷ claim_words o claim) → t2 ≡ t1 ++ lines_text (row_lines o e.state.content)
    → t3 ≡ t2 ++ lines_text (value_lines o ids e.state.content) → t4 ≡ t3 ++ line_text (act_line o (codes "m") e.m) → t5 ≡ t4 ++ lines_text (second_lines o e.n)
    → t6 ≡ t5 ++ line_text (codes "shows" ∷ shown_words e.shown) → t7 ≡ t6 ++ (codes "end" ++ 10 ∷ []) → t7 ≡ example_text o claim e
unfolding example_text
printed o claim e ids t0 t1 t2 t3 t4 t5 t6 t7 none same e1 e2 e3 e4 e5 e6 e7 =
    seven (line_text (codes "example" ∷ claim_words o claim)) (lines_text (row_lines o e.state.content)) (lines_text (value_lines o (ids_of o claim) e.state.content)) (line_text (act_line o (codes "m") e.m))
    (lines_text (second_lines o e.n)) (line_text (codes "shows" ∷ shown_words e.shown)) (codes "end" ++ 10 ∷ []) t1 t2 t3 t4 t5 t6 t7
    (e1 ∙ ap (λ (t : List ℕ). t ++ line_text (codes "example" ∷ claim_words o claim)) none) e2
    (e3 ∙ ap (λ (two : Ids). t2 ++ lines_text (value_lines o two e.state.content)) same) e4 e5 e6 e7
    ∙ sym (parts (codes "example" ∷ claim_words o claim) (act_line o (codes "m") e.m) (codes "shows" ∷ shown_words e.shown) (codes "end" ∷ []) (row_lines o e.state.content) (value_lines o (ids_of o claim) e.state.content) (second_lines o e.n))

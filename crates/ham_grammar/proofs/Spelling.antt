-- What the words of a line spell, and that a line is read from its words.
use Rattle.std.proofs.Common.{◌≡◌, ◌⊎◌, ℕ, ◌^◌, ◌<◌, Bool, true, false, ◌&&◌, nat_le, cond, List, [], ◌∷◌, map, Option, Some, None, refl, sym, ap, ◌∙◌, subst, inl, inr, arith}
use Rattle.std.specs.Prelude.{nat_eq, option_map, option_and_then, codes}
use Rattle.std.specs.Fmt.{decimal}
use Rattle.std.specs.Cmp.Lexicographic.{pointwise, same_text}
use Rattle.std.proofs.lemmas.Bool.{leb-true, le-leb, and_parts}
use Rattle.std.proofs.lemmas.Option.{same_Some, none-some}
use Rattle.ham_text.specs.Numbers.{number_first, numbers_within}
use Rattle.ham_text.specs.Written.{IsWord, AreWords}
use Rattle.ham_text.proofs.Wording.{decimal_word}
use Rattle.ham_text.proofs.Several.{first_spelled, first_read, within_spelled, within_read}
use Rattle.ham_text.specs.Words.{if_word}
use Rattle.ham_text.proofs.Choices.{chosen, steps, mapped, pick_spelled}
use Rattle.ham_lines.specs.Reading.{one_number, two_numbers, three_numbers, act_of, counter_of, relation_of}
use Rattle.ham_lines.specs.Named.{act_words, counter_words}
use Rattle.ham_lines.proofs.Spelled.{name_word, numbers_words, act_are_words, counter_are_words, one_spelled, two_spelled, three_spelled, one_read, two_read, three_read, act_spelled, act_read, counter_spelled, counter_read, relation_spelled, relation_read}
use Rattle.ham_grammar.specs.declared.verb.Verb.{Verb}
use Rattle.ham_grammar.specs.declared.verb.Verb.TheVariants as verbs
use Rattle.ham_grammar.specs.declared.written.Written.{Written}
use Rattle.ham_grammar.specs.declared.written.Written.TheVariants.{Replicas, Issue, Deliver, Pieces, Torn, Tick, Show, Rows, Log, Verdict, Sent, Frame, Compare}
use Rattle.ham_grammar.specs.Lines.{written_words, IsWritten}
use Rattle.ham_grammar.specs.Reading.{verb_of, count_of, replicas_found, issue_found, deliver_found, pieces_found, torn_found, tick_found, show_found, rows_found, log_found, verdict_found, sent_found, frame_found, compare_found, written_after, written_of}

-- ---- verbs

verb_word : Verb → List ℕ
verb_word verbs.Replicas = codes "replicas"
verb_word verbs.Issue = codes "issue"
verb_word verbs.Deliver = codes "deliver"
verb_word verbs.Pieces = codes "pieces"
verb_word verbs.Torn = codes "torn"
verb_word verbs.Tick = codes "tick"
verb_word verbs.Show = codes "show"
verb_word verbs.Rows = codes "rows"
verb_word verbs.Log = codes "log"
verb_word verbs.Verdict = codes "verdict"
verb_word verbs.Sent = codes "sent"
verb_word verbs.Frame = codes "frame"
verb_word verbs.Compare = codes "compare"

-- a verb that is chosen for a word is the one of this word
pick : (w : List ℕ) (v x : Verb) (others : Option Verb) → (others ≡ Some x → w ≡ verb_word x) → if_word w (verb_word v) v others ≡ Some x → w ≡ verb_word x
pick w v x others more e = pick_spelled verb_word w (verb_word v) v x others refl more e

none : (w : List ℕ) (x : Verb) → None ≡ Some x → w ≡ verb_word x
none w x e = absurd (none-some x e)

verb_is : (w : List ℕ) (x : Verb) → verb_of w ≡ Some x → w ≡ verb_word x
unfolding verb_of verb_word
verb_is w x =
    pick w verbs.Replicas x _ (pick w verbs.Issue x _ (pick w verbs.Deliver x _ (pick w verbs.Pieces x _ (pick w verbs.Torn x _ (pick w verbs.Tick x _
    (pick w verbs.Show x _ (pick w verbs.Rows x _ (pick w verbs.Log x _ (pick w verbs.Verdict x _ (pick w verbs.Sent x _ (pick w verbs.Frame x _
    (pick w verbs.Compare x None (none w x)))))))))))))

-- ---- what words spell

pub record Spelt (words : List (List ℕ)) (w : Written) : Type 0 where
  pub is_written : IsWritten w
  pub words_are : words ≡ written_words w

-- a verb, and words after it
abbrev After : List ℕ → List (List ℕ) → Written → Type 0
After verb ws w = IsWritten w × (verb ∷ ws ≡ written_words w)

spelt : (verb v : List ℕ) (ws : List (List ℕ)) (w : Written) → verb ≡ v → After v ws w → Spelt (verb ∷ ws) w
spelt verb v ws w e h = let x = h.1 in record { is_written = h.0; words_are = ap (λ u. u ∷ ws) e ∙ x }

replicas_spelt : (ws : List (List ℕ)) (w : Written) → replicas_found ws ≡ Some w → After (codes "replicas") ws w
replicas_spelt ws w e =
    let s = steps (one_number ws) count_of w e in
    let n = one_spelled ws s.0 s.1 in
    let p = chosen (nat_le 1 s.0 && nat_le s.0 8) (Replicas s.0) w s.2 in
    let q = and_parts (nat_le 1 s.0) (nat_le s.0 8) p.0 in
    let low = leb-true 1 s.0 q.0 in
    let high = leb-true s.0 8 q.1 in
    subst (After (codes "replicas") ws) p.1 ((omega arith, high), ap (λ u. codes "replicas" ∷ u) n.words)

issue_spelt : (ws : List (List ℕ)) (w : Written) → issue_found ws ≡ Some w → After (codes "issue") ws w
issue_spelt ws w e =
    let s = steps (number_first ws) (λ p. option_map (Issue p.0) (act_of p.1)) w e in
    let r = first_spelled ws s.0 s.1 in
    let t = mapped (act_of s.0.1) (Issue s.0.0) w s.2 in
    let a = act_spelled s.0.1 t.0 t.1 in
    subst (After (codes "issue") ws) t.2 ((r.small, a.0), ap (λ u. codes "issue" ∷ u) r.words ∙ ap (λ u. codes "issue" ∷ decimal s.0.0 ∷ u) a.1)

show_spelt : (ws : List (List ℕ)) (w : Written) → show_found ws ≡ Some w → After (codes "show") ws w
show_spelt ws w e =
    let s = steps (number_first ws) (λ p. option_map (Show p.0) (counter_of p.1)) w e in
    let r = first_spelled ws s.0 s.1 in
    let t = mapped (counter_of s.0.1) (Show s.0.0) w s.2 in
    let a = counter_spelled s.0.1 t.0 t.1 in
    subst (After (codes "show") ws) t.2 ((r.small, a.0), ap (λ u. codes "show" ∷ u) r.words ∙ ap (λ u. codes "show" ∷ decimal s.0.0 ∷ u) a.1)

rows_spelt : (ws : List (List ℕ)) (w : Written) → rows_found ws ≡ Some w → After (codes "rows") ws w
rows_spelt ws w e =
    let s = steps (number_first ws) (λ p. option_map (Rows p.0) (relation_of p.1)) w e in
    let r = first_spelled ws s.0 s.1 in
    let t = mapped (relation_of s.0.1) (Rows s.0.0) w s.2 in
    let a = relation_spelled s.0.1 t.0 t.1 in
    subst (After (codes "rows") ws) t.2 ((r.small, a.0), ap (λ u. codes "rows" ∷ u) r.words ∙ ap (λ u. codes "rows" ∷ decimal s.0.0 ∷ u) a.1)

deliver_spelt : (ws : List (List ℕ)) (w : Written) → deliver_found ws ≡ Some w → After (codes "deliver") ws w
deliver_spelt ws w e =
    let t = mapped (three_numbers ws) (λ p. Deliver p.0 p.1 p.2) w e in
    let n = three_spelled ws t.0 t.1 in
    subst (After (codes "deliver") ws) t.2 (n.numbers, ap (λ u. codes "deliver" ∷ u) n.words)

verdict_spelt : (ws : List (List ℕ)) (w : Written) → verdict_found ws ≡ Some w → After (codes "verdict") ws w
verdict_spelt ws w e =
    let t = mapped (three_numbers ws) (λ p. Verdict p.0 p.1 p.2) w e in
    let n = three_spelled ws t.0 t.1 in
    subst (After (codes "verdict") ws) t.2 (n.numbers, ap (λ u. codes "verdict" ∷ u) n.words)

frame_spelt : (ws : List (List ℕ)) (w : Written) → frame_found ws ≡ Some w → After (codes "frame") ws w
frame_spelt ws w e =
    let t = mapped (three_numbers ws) (λ p. Frame p.0 p.1 p.2) w e in
    let n = three_spelled ws t.0 t.1 in
    subst (After (codes "frame") ws) t.2 (n.numbers, ap (λ u. codes "frame" ∷ u) n.words)

sent_spelt : (ws : List (List ℕ)) (w : Written) → sent_found ws ≡ Some w → After (codes "sent") ws w
sent_spelt ws w e =
    let t = mapped (two_numbers ws) (λ p. Sent p.0 p.1) w e in
    let n = two_spelled ws t.0 t.1 in
    subst (After (codes "sent") ws) t.2 (n.numbers, ap (λ u. codes "sent" ∷ u) n.words)

compare_spelt : (ws : List (List ℕ)) (w : Written) → compare_found ws ≡ Some w → After (codes "compare") ws w
compare_spelt ws w e =
    let t = mapped (two_numbers ws) (λ p. Compare p.0 p.1) w e in
    let n = two_spelled ws t.0 t.1 in
    subst (After (codes "compare") ws) t.2 (n.numbers, ap (λ u. codes "compare" ∷ u) n.words)

tick_spelt : (ws : List (List ℕ)) (w : Written) → tick_found ws ≡ Some w → After (codes "tick") ws w
tick_spelt ws w e =
    let t = mapped (one_number ws) Tick w e in
    let n = one_spelled ws t.0 t.1 in
    subst (After (codes "tick") ws) t.2 (n.numbers.0, ap (λ u. codes "tick" ∷ u) n.words)

log_spelt : (ws : List (List ℕ)) (w : Written) → log_found ws ≡ Some w → After (codes "log") ws w
log_spelt ws w e =
    let t = mapped (one_number ws) Log w e in
    let n = one_spelled ws t.0 t.1 in
    subst (After (codes "log") ws) t.2 (n.numbers.0, ap (λ u. codes "log" ∷ u) n.words)

torn_spelt : (ws : List (List ℕ)) (w : Written) → torn_found ws ≡ Some w → After (codes "torn") ws w
torn_spelt ws w e =
    let s = steps (number_first ws) (λ f. option_map (λ p. Torn f.0 p.0 p.1 p.2) (three_numbers f.1)) w e in
    let r = first_spelled ws s.0 s.1 in
    let t = mapped (three_numbers s.0.1) (λ p. Torn s.0.0 p.0 p.1 p.2) w s.2 in
    let n = three_spelled s.0.1 t.0 t.1 in
    subst (After (codes "torn") ws) t.2 ((r.small, n.numbers), ap (λ u. codes "torn" ∷ u) r.words ∙ ap (λ u. codes "torn" ∷ decimal s.0.0 ∷ u) n.words)

pieces_spelt : (ws : List (List ℕ)) (w : Written) → pieces_found ws ≡ Some w → After (codes "pieces") ws w
pieces_spelt ws w e =
    let f = steps (number_first ws) (λ f. option_and_then (λ t. option_and_then (λ k. option_and_then (λ l. option_map (Pieces f.0 t.0 k.0 l.0) (numbers_within 64 l.1)) (number_first k.1)) (number_first t.1)) (number_first f.1)) w e in
    let t = steps (number_first f.0.1) (λ t. option_and_then (λ k. option_and_then (λ l. option_map (Pieces f.0.0 t.0 k.0 l.0) (numbers_within 64 l.1)) (number_first k.1)) (number_first t.1)) w f.2 in
    let k = steps (number_first t.0.1) (λ k. option_and_then (λ l. option_map (Pieces f.0.0 t.0.0 k.0 l.0) (numbers_within 64 l.1)) (number_first k.1)) w t.2 in
    let l = steps (number_first k.0.1) (λ l. option_map (Pieces f.0.0 t.0.0 k.0.0 l.0) (numbers_within 64 l.1)) w k.2 in
    let c = mapped (numbers_within 64 l.0.1) (Pieces f.0.0 t.0.0 k.0.0 l.0.0) w l.2 in
    let a = first_spelled ws f.0 f.1 in
    let b = first_spelled f.0.1 t.0 t.1 in
    let d = first_spelled t.0.1 k.0 k.1 in
    let g = first_spelled k.0.1 l.0 l.1 in
    let n = within_spelled 64 l.0.1 c.0 c.1 in
    let head = codes "pieces" in
    subst (After (codes "pieces") ws) c.2 (
      ((a.small, (b.small, (d.small, (g.small, tt)))), n.numbers, n.few),
      ap (λ u. codes "pieces" ∷ u) a.words ∙ ap (λ u. codes "pieces" ∷ decimal f.0.0 ∷ u) b.words ∙ ap (λ u. codes "pieces" ∷ decimal f.0.0 ∷ decimal t.0.0 ∷ u) d.words
          ∙ ap (λ u. codes "pieces" ∷ decimal f.0.0 ∷ decimal t.0.0 ∷ decimal k.0.0 ∷ u) g.words ∙ ap (λ u. codes "pieces" ∷ decimal f.0.0 ∷ decimal t.0.0 ∷ decimal k.0.0 ∷ decimal l.0.0 ∷ u) n.words,
    )

after_spelt : (v : Verb) (ws : List (List ℕ)) (w : Written) → written_after v ws ≡ Some w → After (verb_word v) ws w
unfolding written_after verb_word
after_spelt verbs.Replicas ws w e = replicas_spelt ws w e
after_spelt verbs.Issue ws w e = issue_spelt ws w e
after_spelt verbs.Deliver ws w e = deliver_spelt ws w e
after_spelt verbs.Pieces ws w e = pieces_spelt ws w e
after_spelt verbs.Torn ws w e = torn_spelt ws w e
after_spelt verbs.Tick ws w e = tick_spelt ws w e
after_spelt verbs.Show ws w e = show_spelt ws w e
after_spelt verbs.Rows ws w e = rows_spelt ws w e
after_spelt verbs.Log ws w e = log_spelt ws w e
after_spelt verbs.Verdict ws w e = verdict_spelt ws w e
after_spelt verbs.Sent ws w e = sent_spelt ws w e
after_spelt verbs.Frame ws w e = frame_spelt ws w e
after_spelt verbs.Compare ws w e = compare_spelt ws w e

-- what is read is what the words spell
pub line_spelt : (words : List (List ℕ)) (w : Written) → written_of words ≡ Some w → Spelt words w
line_spelt [] w e = absurd (none-some w e)
line_spelt (verb ∷ ws) w e =
    let s = steps (verb_of verb) (λ v. written_after v ws) w e in
    spelt verb (verb_word s.0) ws w (verb_is verb s.0 s.1) (after_spelt s.0 ws w s.2)

-- ---- a line is read from its words

numbered : (n : ℕ) (rest : List (List ℕ)) (f : ℕ × List (List ℕ) → Option Written) → n < 2 ^ 64 → option_and_then f (number_first (decimal n ∷ rest)) ≡ f (n, rest)
numbered n rest f h = ap (option_and_then f) (first_read n rest h)

pub line_read : (w : Written) → IsWritten w → written_of (written_words w) ≡ Some w
unfolding verb_of written_after
line_read (Replicas n) h =
    let low : nat_le 1 n ≡ true = le-leb 1 n (omega arith) in
    let high : nat_le n 8 ≡ true = le-leb n 8 h.1 in
    ap (option_and_then count_of) (one_read n (omega arith)) ∙ ap (λ b. cond (b && nat_le n 8) (Some (Replicas n)) None) low ∙ ap (λ b. cond b (Some (Replicas n)) None) high
line_read (Issue r act) h = numbered r (act_words act) (λ p. option_map (Issue p.0) (act_of p.1)) h.0 ∙ ap (option_map (Issue r)) (act_read act h.1)
line_read (Deliver f t k) h = ap (option_map (λ p. Deliver p.0 p.1 p.2)) (three_read f t k h)
line_read (Pieces f t k l cuts) h =
    numbered f (decimal t ∷ decimal k ∷ decimal l ∷ map decimal cuts) (λ f. option_and_then (λ t. option_and_then (λ k. option_and_then (λ l. option_map (Pieces f.0 t.0 k.0 l.0) (numbers_within 64 l.1)) (number_first k.1)) (number_first t.1)) (number_first f.1)) h.0.0
    ∙ numbered t (decimal k ∷ decimal l ∷ map decimal cuts) (λ t. option_and_then (λ k. option_and_then (λ l. option_map (Pieces f t.0 k.0 l.0) (numbers_within 64 l.1)) (number_first k.1)) (number_first t.1)) h.0.1.0
    ∙ numbered k (decimal l ∷ map decimal cuts) (λ k. option_and_then (λ l. option_map (Pieces f t k.0 l.0) (numbers_within 64 l.1)) (number_first k.1)) h.0.1.1.0
    ∙ numbered l (map decimal cuts) (λ l. option_map (Pieces f t k l.0) (numbers_within 64 l.1)) h.0.1.1.1.0
    ∙ ap (option_map (Pieces f t k l)) (within_read 64 cuts h.1 h.2)
line_read (Torn f t k p) h = numbered f (decimal t ∷ decimal k ∷ decimal p ∷ []) (λ f. option_map (λ p. Torn f.0 p.0 p.1 p.2) (three_numbers f.1)) h.0 ∙ ap (option_map (λ q. Torn f q.0 q.1 q.2)) (three_read t k p h.1)
line_read (Tick r) h = ap (option_map Tick) (one_read r h)
line_read (Show r counter) h = numbered r (counter_words counter) (λ p. option_map (Show p.0) (counter_of p.1)) h.0 ∙ ap (option_map (Show r)) (counter_read counter h.1)
line_read (Rows r relation) h = numbered r (relation ∷ []) (λ p. option_map (Rows p.0) (relation_of p.1)) h.0 ∙ ap (option_map (Rows r)) (relation_read relation h.1)
line_read (Log r) h = ap (option_map Log) (one_read r h)
line_read (Verdict r g k) h = ap (option_map (λ p. Verdict p.0 p.1 p.2)) (three_read r g k h)
line_read (Sent f t) h = ap (option_map (λ p. Sent p.0 p.1)) (two_read f t h)
line_read (Frame f t k) h = ap (option_map (λ p. Frame p.0 p.1 p.2)) (three_read f t k h)
line_read (Compare r s) h = ap (option_map (λ p. Compare p.0 p.1)) (two_read r s h)

-- ---- its words are words

verb_is_word : (v : Verb) → IsWord (verb_word v)
unfolding verb_word
verb_is_word verbs.Replicas = (omega arith, refl)
verb_is_word verbs.Issue = (omega arith, refl)
verb_is_word verbs.Deliver = (omega arith, refl)
verb_is_word verbs.Pieces = (omega arith, refl)
verb_is_word verbs.Torn = (omega arith, refl)
verb_is_word verbs.Tick = (omega arith, refl)
verb_is_word verbs.Show = (omega arith, refl)
verb_is_word verbs.Rows = (omega arith, refl)
verb_is_word verbs.Log = (omega arith, refl)
verb_is_word verbs.Verdict = (omega arith, refl)
verb_is_word verbs.Sent = (omega arith, refl)
verb_is_word verbs.Frame = (omega arith, refl)
verb_is_word verbs.Compare = (omega arith, refl)

pub line_words : (w : Written) → IsWritten w → AreWords (written_words w)
unfolding verb_word
line_words (Replicas n) h = (verb_is_word verbs.Replicas, (decimal_word n (omega arith), tt))
line_words (Issue r act) h = (verb_is_word verbs.Issue, (decimal_word r h.0, act_are_words act h.1))
line_words (Deliver f t k) h = (verb_is_word verbs.Deliver, numbers_words (f ∷ t ∷ k ∷ []) h)
line_words (Pieces f t k l cuts) h = (verb_is_word verbs.Pieces, (decimal_word f h.0.0, (decimal_word t h.0.1.0, (decimal_word k h.0.1.1.0, (decimal_word l h.0.1.1.1.0, numbers_words cuts h.1)))))
line_words (Torn f t k p) h = (verb_is_word verbs.Torn, numbers_words (f ∷ t ∷ k ∷ p ∷ []) h)
line_words (Tick r) h = (verb_is_word verbs.Tick, (decimal_word r h, tt))
line_words (Show r counter) h = (verb_is_word verbs.Show, (decimal_word r h.0, counter_are_words counter h.1))
line_words (Rows r relation) h = (verb_is_word verbs.Rows, (decimal_word r h.0, (name_word relation h.1, tt)))
line_words (Log r) h = (verb_is_word verbs.Log, (decimal_word r h, tt))
line_words (Verdict r g k) h = (verb_is_word verbs.Verdict, numbers_words (r ∷ g ∷ k ∷ []) h)
line_words (Sent f t) h = (verb_is_word verbs.Sent, numbers_words (f ∷ t ∷ []) h)
line_words (Frame f t k) h = (verb_is_word verbs.Frame, numbers_words (f ∷ t ∷ k ∷ []) h)
line_words (Compare r s) h = (verb_is_word verbs.Compare, numbers_words (r ∷ s ∷ []) h)

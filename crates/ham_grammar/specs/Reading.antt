-- What a reader finds in the words of a line, from the first on. How lines are written stands in Lines: laws tie what is
-- found to it.
use Rattle.std.specs.Prelude.{◌≡◌, ℕ, nat_le, nat_eq, ◌&&◌, List, [], ◌∷◌, Option, Some, None, Result, Ok, Err, option_map, if◌then◌else◌, codes}
use Rattle.std.specs.Cmp.Lexicographic.{pointwise}
use Rattle.ham_text.specs.Numbers.{number_first, numbers_within, ◌>>=◌}
use Rattle.ham_text.specs.Words.{if_word}
use Rattle.ham_syntax.specs.declared.limits.TheConstants.{MAX_REPLICAS, MAX_CUTS}
use Rattle.ham_lines.specs.declared.fault.LineFault.{LineFault}
use Rattle.ham_lines.specs.declared.fault.LineFault.TheVariants.{NotALine, UnknownName, BadKey, NoMemory}
use Rattle.ham_lines.specs.Reading.{one_number, two_numbers, three_numbers, act_of, counter_of, relation_of}
use Rattle.ham_grammar.specs.declared.verb.Verb.{Verb}
use Rattle.ham_grammar.specs.declared.verb.Verb.TheVariants as verbs
use Rattle.ham_grammar.specs.declared.written.Written.{Written}
use Rattle.ham_grammar.specs.declared.written.Written.TheVariants.{Replicas, Issue, Deliver, Pieces, Torn, Tick, Show, Rows, Log, Verdict, Sent, Frame, Compare}

-- an answer is what is found, or that nothing is, unless memory ran out
abbrev pub IsFoundAs : {A : Type 0} → Option A → Result A LineFault → Type 0
IsFoundAs found (Ok x) = found ≡ Some x
IsFoundAs found (Err NotALine) = found ≡ None
IsFoundAs found (Err UnknownName) = ⊥
IsFoundAs found (Err BadKey) = ⊥
IsFoundAs found (Err NoMemory) = Unit {0}

unfoldable pub verb_of : List ℕ → Option Verb
verb_of word =
    if_word word (codes "replicas") verbs.Replicas (if_word word (codes "issue") verbs.Issue (if_word word (codes "deliver") verbs.Deliver
    (if_word word (codes "pieces") verbs.Pieces (if_word word (codes "torn") verbs.Torn (if_word word (codes "tick") verbs.Tick
    (if_word word (codes "show") verbs.Show (if_word word (codes "rows") verbs.Rows (if_word word (codes "log") verbs.Log
    (if_word word (codes "verdict") verbs.Verdict (if_word word (codes "sent") verbs.Sent (if_word word (codes "frame") verbs.Frame
    (if_word word (codes "compare") verbs.Compare None))))))))))))

-- 1 to 8 replicas
abbrev pub count_of : ℕ → Option Written
count_of n = if nat_le 1 n && nat_le n MAX_REPLICAS then Some (Replicas n) else None

abbrev pub replicas_found : List (List ℕ) → Option Written
replicas_found ws = one_number ws >>= count_of

abbrev pub issue_found : List (List ℕ) → Option Written
issue_found ws = number_first ws >>= (λ p. option_map (Issue p.0) (act_of p.1))

abbrev pub deliver_found : List (List ℕ) → Option Written
deliver_found ws = option_map (λ p. Deliver p.0 p.1 p.2) (three_numbers ws)

abbrev pub pieces_found : List (List ℕ) → Option Written
pieces_found ws = number_first ws >>= (λ f. number_first f.1 >>= (λ t. number_first t.1 >>= (λ k. number_first k.1 >>= (λ l. option_map (Pieces f.0 t.0 k.0 l.0) (numbers_within MAX_CUTS l.1)))))

abbrev pub torn_found : List (List ℕ) → Option Written
torn_found ws = number_first ws >>= (λ f. option_map (λ p. Torn f.0 p.0 p.1 p.2) (three_numbers f.1))

abbrev pub tick_found : List (List ℕ) → Option Written
tick_found ws = option_map Tick (one_number ws)

abbrev pub show_found : List (List ℕ) → Option Written
show_found ws = number_first ws >>= (λ p. option_map (Show p.0) (counter_of p.1))

abbrev pub rows_found : List (List ℕ) → Option Written
rows_found ws = number_first ws >>= (λ p. option_map (Rows p.0) (relation_of p.1))

abbrev pub log_found : List (List ℕ) → Option Written
log_found ws = option_map Log (one_number ws)

abbrev pub verdict_found : List (List ℕ) → Option Written
verdict_found ws = option_map (λ p. Verdict p.0 p.1 p.2) (three_numbers ws)

abbrev pub sent_found : List (List ℕ) → Option Written
sent_found ws = option_map (λ p. Sent p.0 p.1) (two_numbers ws)

abbrev pub frame_found : List (List ℕ) → Option Written
frame_found ws = option_map (λ p. Frame p.0 p.1 p.2) (three_numbers ws)

abbrev pub compare_found : List (List ℕ) → Option Written
compare_found ws = option_map (λ p. Compare p.0 p.1) (two_numbers ws)

unfoldable pub written_after : Verb → List (List ℕ) → Option Written
written_after verbs.Replicas ws = replicas_found ws
written_after verbs.Issue ws = issue_found ws
written_after verbs.Deliver ws = deliver_found ws
written_after verbs.Pieces ws = pieces_found ws
written_after verbs.Torn ws = torn_found ws
written_after verbs.Tick ws = tick_found ws
written_after verbs.Show ws = show_found ws
written_after verbs.Rows ws = rows_found ws
written_after verbs.Log ws = log_found ws
written_after verbs.Verdict ws = verdict_found ws
written_after verbs.Sent ws = sent_found ws
written_after verbs.Frame ws = frame_found ws
written_after verbs.Compare ws = compare_found ws

abbrev pub written_of : List (List ℕ) → Option Written
written_of [] = None
written_of (w ∷ ws) = verb_of w >>= (λ v. written_after v ws)

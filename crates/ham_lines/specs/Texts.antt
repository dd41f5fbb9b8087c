-- The texts of answers, without the last line's end.
use Rattle.std.specs.Prelude.{ℕ, ◌+◌, ◌-◌, ◌/◌, ◌%◌, nat_lt, Bool, List, [], ◌∷◌, ◌++◌, length, map, codes, if◌then◌else◌}
use Rattle.std.specs.List.{flat_map}
use Rattle.std.specs.Fmt.{decimal, signed_decimal}
use Rattle.ham_text.specs.Written.{joined}
use Rattle.ham_syntax.specs.declared.act.Place.{Place}
use Rattle.ham_meaning.specs.declared.outcome.Outcome.{Outcome}
use Rattle.ham_meaning.specs.declared.outcome.Outcome.TheVariants as outcomes
use Rattle.ham_turns.specs.declared.turn.Issued.{Issued}
use Rattle.ham_turns.specs.declared.turn.Issued.TheVariants.{Applied, Forwarded, Impermissible}
use Rattle.ham_turns.specs.declared.turn.Delivered.{Delivered}
use Rattle.ham_turns.specs.declared.turn.Delivered.TheVariants.{Fresh, Repeat, Noted, Early}
use Rattle.ham_resend.specs.declared.asks.Refused.{Refused}
use Rattle.ham_resend.specs.declared.asks.Refused.TheVariants as refusals
use Rattle.ham_resend.specs.declared.asks.Asked.{Asked}
use Rattle.ham_resend.specs.declared.asks.Asked.TheVariants as known
use Rattle.ham_lines.specs.declared.answer.Answer.{Answer}
use Rattle.ham_lines.specs.declared.answer.Answer.TheVariants as answers

-- two numbers after a mark, with a colon between them
abbrev pub pair_text : List ℕ → ℕ → ℕ → List ℕ
pair_text mark a b = mark ++ (decimal a ++ (codes ":" ++ decimal b))

-- a call: its lane and its number there
abbrev pub place_text : List ℕ → Place → List ℕ
place_text mark p = pair_text mark p.lane p.number

-- the calls that a turn logged
abbrev pub logged_text : List Place → List ℕ
logged_text places = flat_map (place_text (codes " +")) places

-- the first condition that fails
abbrev pub impermissible_text : Outcome → List ℕ
impermissible_text outcomes.Yes = codes "impermissible"
impermissible_text (outcomes.Guard g) = codes "impermissible guard " ++ decimal g
impermissible_text (outcomes.Invariant v) = codes "impermissible invariant " ++ decimal v

abbrev pub issued_text : Issued → List Place → List ℕ
issued_text (Applied place) logged = codes "applied" ++ logged_text logged
issued_text (Forwarded g k) logged = codes "forwarded" ++ pair_text (codes " ") g k
issued_text (Impermissible u) logged = impermissible_text u

abbrev pub delivered_text : Delivered → List Place → List ℕ
delivered_text Fresh logged = codes "fresh" ++ logged_text logged
delivered_text Repeat logged = codes "repeat"
delivered_text Noted logged = codes "noted"
delivered_text Early logged = codes "early"

-- the line of a row, after the end of the line before it: its ids, parted by one space
abbrev pub row_line : List ℕ → List ℕ
row_line row = 10 ∷ joined (map decimal row)

-- how many rows there are, and then each on a line of its own
abbrev pub rows_text : List (List ℕ) → List ℕ
rows_text rows = (codes "rows " ++ decimal (length rows)) ++ flat_map row_line rows

abbrev pub log_text : List Place → List ℕ
log_text places = codes "log" ++ flat_map (place_text (codes " ")) places

abbrev pub refused_text : Refused → List ℕ
refused_text (refusals.Guard g) = codes "refused guard " ++ decimal g
refused_text (refusals.Invariant v) = codes "refused invariant " ++ decimal v
refused_text refusals.Full = codes "refused full"

abbrev pub asked_text : Asked → List ℕ
asked_text known.Unknown = codes "unknown"
asked_text known.Pending = codes "pending"
asked_text (known.Applied k) = codes "applied " ++ decimal k
asked_text (known.Refused refused) = refused_text refused

-- whether the calls are the same, and whether the states are equal
abbrev pub compared_text : Bool → Bool → List ℕ
compared_text same equal = (if same then codes "same " else codes "differ ") ++ (if equal then codes "equal" else codes "unequal")

-- 0 to 9, a to f
abbrev pub hexadecimal_digit : ℕ → ℕ
hexadecimal_digit n = if nat_lt n 10 then 48 + n else 97 + (n - 10)

-- two digits a byte
abbrev pub hexadecimal : List ℕ → List ℕ
hexadecimal bytes = flat_map (λ b. hexadecimal_digit (b / 16) ∷ hexadecimal_digit (b % 16) ∷ []) bytes

abbrev pub answer_text : Answer → List ℕ
answer_text (answers.Replicas n) = codes "replicas " ++ decimal n
answer_text (answers.Issued answer logged) = issued_text answer logged
answer_text (answers.Delivered answer logged) = delivered_text answer logged
answer_text answers.Torn = codes "torn"
answer_text (answers.Sent n) = codes "sent " ++ decimal n
answer_text (answers.Value v) = codes "value " ++ signed_decimal v
answer_text (answers.Rows rows) = rows_text rows
answer_text (answers.Log places) = log_text places
answer_text (answers.Asked asked) = asked_text asked
answer_text (answers.Frame bytes) = hexadecimal bytes
answer_text (answers.Compared same equal) = compared_text same equal
answer_text answers.End = codes "end"

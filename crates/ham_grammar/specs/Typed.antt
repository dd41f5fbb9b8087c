-- What the types of a line's values keep: numbers have 64 bits, and there are at most six arguments.
use Rattle.std.specs.Prelude.{◌^◌, ◌<◌, ◌≤◌, [], ◌∷◌, length}
use Rattle.ham_text.specs.Numbers.{AreNumbers}
use Rattle.ham_syntax.specs.declared.act.Act.{Act}
use Rattle.ham_syntax.specs.declared.limits.TheConstants.{MAX_PARAMS}
use Rattle.ham_turns.specs.declared.event.Event.{Event}
use Rattle.ham_turns.specs.declared.event.Event.TheVariants as events
use Rattle.ham_grammar.specs.declared.line.Line.{Line}
use Rattle.ham_grammar.specs.declared.line.Line.TheVariants as lines
use Rattle.ham_grammar.specs.declared.line.Query.{Query}
use Rattle.ham_grammar.specs.declared.line.Query.TheVariants as queries

abbrev pub IsTypedAct : Act → Type 0
IsTypedAct act = (length act.args ≤ MAX_PARAMS) × AreNumbers act.args

abbrev pub IsTypedEvent : Event → Type 0
IsTypedEvent (events.Issue r act) = (r < 2 ^ 64) × IsTypedAct act
IsTypedEvent (events.Deliver f t k) = AreNumbers (f ∷ t ∷ k ∷ [])
IsTypedEvent (events.Pieces f t k l cuts) = AreNumbers (f ∷ t ∷ k ∷ l ∷ []) × AreNumbers cuts
IsTypedEvent (events.Torn f t k p) = AreNumbers (f ∷ t ∷ k ∷ p ∷ [])
IsTypedEvent (events.Tick r) = r < 2 ^ 64

abbrev pub IsTypedQuery : Query → Type 0
IsTypedQuery (queries.Show r c key) = AreNumbers (r ∷ key ∷ [])
IsTypedQuery (queries.Rows r relation) = r < 2 ^ 64
IsTypedQuery (queries.Log r) = r < 2 ^ 64
IsTypedQuery (queries.Verdict r g k) = AreNumbers (r ∷ g ∷ k ∷ [])
IsTypedQuery (queries.Sent f t) = AreNumbers (f ∷ t ∷ [])
IsTypedQuery (queries.Frame f t k) = AreNumbers (f ∷ t ∷ k ∷ [])
IsTypedQuery (queries.Compare r s) = AreNumbers (r ∷ s ∷ [])

abbrev pub IsTypedLine : Line → Type 0
IsTypedLine (lines.Replicas n) = n < 2 ^ 8
IsTypedLine (lines.Act event) = IsTypedEvent event
IsTypedLine (lines.Ask query) = IsTypedQuery query

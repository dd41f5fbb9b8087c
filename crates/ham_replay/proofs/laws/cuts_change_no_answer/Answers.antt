use Rattle.std.proofs.Common.{ap, sym, ◌∙◌}
use Rattle.ham_turns.specs.declared.event.Event.TheVariants as events
use Rattle.ham_replay.specs.Replays.{event_by, event_outcome}
use Rattle.ham_replay.proofs.laws.cuts_change_no_answer.Goals as goal

pub returns : goal.returns
unfolding event_outcome
returns c = λ o y notes from to first last cuts others taken taken_too.
    ap (event_by o y notes (events.Pieces from to first last cuts)) taken ∙ sym (ap (event_by o y notes (events.Pieces from to first last others)) taken_too)

use Rattle.std.proofs.Common.{sym, ap, ◌∙◌}
use Rattle.std.specs.Prelude.{is_some}
use Rattle.ham_frame.specs.declared.frame.Frame.TheVariants as frames
use Rattle.ham_turns.specs.declared.turn.Delivered.TheVariants as delivered
use Rattle.ham_replica.specs.Values.{words}
use Rattle.ham_replica.specs.Shown.{lists_of}
use Rattle.ham_replica.proofs.Plain.{takes_plain, call_again}
use Rattle.ham_replica.proofs.deliver.take_in.Goals as goal

pub returns-then-known : goal.returns-then-known
returns-then-known c =
    takes_plain c.args.site.now (lists_of c.args.held.now) c.args.from (frames.Call c.args.call.now) c.repeat_ack.result delivered.Repeat _ c.repeat_ack.ensures
    (λ which. call_again c.args.site.now (lists_of c.args.held.now) c.requires.may.kept c.requires.may.settled c.args.from which c.args.call.now
    (sym (c.is_kept-known.ensures ∙ ap (λ p. is_some ((words (lists_of c.args.held.now)).kept p)) c.place.ensures) ∙ c.if-known.true))

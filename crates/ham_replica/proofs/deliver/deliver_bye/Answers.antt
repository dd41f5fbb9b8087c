use Rattle.std.proofs.Common.{refl}
use Rattle.ham_turns.specs.Words.{FrameComes}
use Rattle.ham_frame.specs.declared.frame.Frame.TheVariants as frames
use Rattle.ham_turns.specs.declared.turn.Delivered.TheVariants as delivered
use Rattle.ham_replica.specs.Shown.{lists_of}
use Rattle.ham_replica.proofs.Plain.{as_plain, bye}
use Rattle.ham_replica.proofs.deliver.deliver_bye.Goals as goal

pub returns : goal.returns
returns c = record {
  accepted = refl;
  answers = λ which.
      as_plain c.args.site.now (lists_of c.args.held.now) (lists_of c.args.held.now) (FrameComes c.args.from which frames.Bye) c.plain.result delivered.Noted c.none.result _
      c.plain.ensures c.none.ensures (bye c.args.site.now (lists_of c.args.held.now) c.requires.kept c.requires.settled c.args.from which);
}

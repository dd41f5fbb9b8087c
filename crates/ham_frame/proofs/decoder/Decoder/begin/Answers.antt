use Rattle.std.proofs.Common.{sym, ap, subst, arith, length}
use Rattle.ham_frame.specs.declared.field.Field.TheVariants as fields
use Rattle.ham_frame.specs.Table.{IsFront}
use Rattle.ham_frame.proofs.Onward.{starts, starts_again}
use Rattle.ham_frame.proofs.decoder.Decoder.begin.Goals as goal

pub invariant_of-self : goal.invariant_of-self
invariant_of-self c =
    let none = ap length c.clear.ensures.items in
    record {
      read = starts_again _ _ _ c.clear.ensures.items c.clear-2.ensures.items c.start-self-inside.ensures;
      front = subst IsFront (sym c.start-self-inside.ensures) (starts fields.Kind tt);
      count = omega arith;
    }

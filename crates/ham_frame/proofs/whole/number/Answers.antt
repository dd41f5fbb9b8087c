use Rattle.ham_frame.proofs.Fronts.{number_is}
use Rattle.ham_frame.proofs.whole.number.Goals as goal

pub returns : goal.returns
returns c =
    let parts = c.in_ok-number.ensures.cases in
    number_is c.args.bytes.now _ _ _ (λ i. (c.type_inv.bytes i).fits) (record { is_front = parts.0; is_rest = parts.1; enough = parts.2 }) c.from_be_bytes.ensures

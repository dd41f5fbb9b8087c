use Rattle.ham_frame.proofs.Fronts.{hello_is}
use Rattle.ham_frame.proofs.whole.hello.Goals as goal

pub returns : goal.returns
returns c =
    let parts = c.in_ok-digest.ensures.cases in
    hello_is _ _ _ _ _ _ _ _ _ c.in_ok-version.ensures (record { is_front = parts.0; is_rest = parts.1; enough = parts.2 }) c.in_ok-from.ensures c.in_ok-of.ensures

-- What two clauses say of one answer.
use Rattle.std.proofs.Common.{Result, Ok, Err, OnOk}

pub ok_both : {T E P Q R : Type 0} (r : Result T E) → (P → Q → R) → OnOk r P → OnOk r Q → OnOk r R
ok_both (Ok x) f p q = f p q
ok_both (Err e) f p q = tt

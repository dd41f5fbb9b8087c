use Rattle.std.proofs.lemmas.Result.{err_from_is_err_and}
use Rattle.ham_frame.proofs.Pieces.{told_same, refused_by, refuses_first}
use Rattle.ham_frame.proofs.decoder.Decoder.read_some.Goals as goal

pub returns-in_err-read-clause-refused : goal.returns-in_err-read-clause-refused
returns-in_err-read-clause-refused c = λ at why e.
    let told = err_from_is_err_and c.from_residual-in_err-read.result c.from_residual-in_err-read.ensures.1 in
    refuses_first _ _ _ _ c.args.bytes.now at why c.requires.some (refused_by _ _ _ _ _ c.in_err-read.field-0.0 at why (told_same _ _ _ _ told.1 told.2 e) c.in_err-read.ensures.outcome)

use Rattle.ham_grammar.specs.Lines.{IsReading}
use Rattle.ham_grammar.proofs.Readings.{found_line, found_none, unless}
use Rattle.ham_grammar.proofs.Computed.{reads_written, reads_none}
use Rattle.ham_grammar.proofs.line.read_line.Goals as goal

pub returns-in-Ok-clause-reading : goal.returns-in-Ok-clause-reading
returns-in-Ok-clause-reading c =
    let o = c.args.object.now in
    let bytes = c.args.line.now in
    rw c.meant.ensures (unless (IsReading o bytes) _ (found_line o bytes c.in-Ok.written c.in-Ok.ensures))

pub returns-in-Ok-clause-read : goal.returns-in-Ok-clause-read
returns-in-Ok-clause-read c = reads_written c.args.object.now c.args.line.now c.in-Ok.written _ c.in-Ok.ensures c.meant.ensures

pub returns-in-Err-clause-reading : goal.returns-in-Err-clause-reading
returns-in-Err-clause-reading c = found_none c.args.object.now c.args.line.now c.in-Err.fault c.in-Err.ensures

pub returns-in-Err-clause-read : goal.returns-in-Err-clause-read
returns-in-Err-clause-read c = reads_none c.args.object.now c.args.line.now c.in-Err.fault c.in-Err.ensures

use Rattle.std.proofs.Common.{sym}
use Rattle.ham_lines.proofs.ClientReadings.{found_line, found_none}
use Rattle.ham_lines.proofs.client.read_client.Goals as goal

pub returns-in-Some : goal.returns-in-Some
returns-in-Some c = rw c.meant.ensures (found_line c.args.object.now c.args.line.now c.in-Some.written (sym c.in-Some.ensures))

pub returns-in-None : goal.returns-in-None
returns-in-None c = found_none c.args.object.now c.args.line.now (sym c.in-None.ensures)

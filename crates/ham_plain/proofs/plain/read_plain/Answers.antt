use Rattle.std.proofs.Common.{◌≡◌, Ok, Err}
use Rattle.ham_text.specs.Cuts.{pieces_of}
use Rattle.ham_text.specs.Forms.{read_from}
use Rattle.ham_plain.specs.declared.draft.Draft.TheVariants.{Nothing}
use Rattle.ham_plain.specs.declared.plain.PlainReader.{PlainReader}
use Rattle.ham_plain.proofs.Forms.{at, plain_of, ended, object_found, bad_line}
use Rattle.ham_plain.proofs.plain.read_plain.Goals as goal

pub returns-in-Some : goal.returns-in-Some
returns-in-Some c =
    let r : PlainReader = record { alloc = c.args.alloc; draft = Nothing } in
    let found : read_from (plain_of r) (at r Nothing) 1 (pieces_of c.args.bytes.now) ≡ Err c.in-Some.line = rw c.in-Some.is at c.in_ok-line.ensures in
    bad_line r c.args.bytes.now c.in-Some.line found

pub object-requires : goal.object-requires
object-requires c =
    let r : PlainReader = record { alloc = c.args.alloc; draft = Nothing } in
    let found : read_from (plain_of r) (at r Nothing) 1 (pieces_of c.args.bytes.now) ≡ Ok c.read_lines.new.reader = rw c.in_default.is at c.in_ok-line.ensures in
    ended r c.args.bytes.now c.read_lines.new.reader found

pub returns : goal.returns
returns c =
    let r : PlainReader = record { alloc = c.args.alloc; draft = Nothing } in
    let found : read_from (plain_of r) (at r Nothing) 1 (pieces_of c.args.bytes.now) ≡ Ok c.read_lines.new.reader = rw c.in_default.is at c.in_ok-line.ensures in
    object_found r c.args.bytes.now c.read_lines.new.reader c.object.result found c.object.ensures

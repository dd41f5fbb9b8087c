use Rattle.std.proofs.Common.{◌≡◌, true, Ok, Err}
use Rattle.ham_text.specs.Cuts.{pieces_of}
use Rattle.ham_text.specs.Forms.{read_from}
use Rattle.ham_records.specs.declared.draft.Draft.TheVariants.{Nothing}
use Rattle.ham_records.specs.Drafts.{is_whole}
use Rattle.ham_records.proofs.Understood.{at, text_form, same_line, bad_line, refused, read_whole, text_found}
use Rattle.ham_records.proofs.Textual.{texts_are_of_one}
use Rattle.ham_records.proofs.reader.read.Goals as goal

pub returns-in-Some-clause-bad_line : goal.returns-in-Some-clause-bad_line
returns-in-Some-clause-bad_line c line e =
    let found : read_from (text_form c.args.object c.args.alloc) (at c.args.object c.args.alloc Nothing) 1 (pieces_of c.args.bytes.now) ≡ Err c.in-Some.line = rw c.in-Some.is at c.in_ok-line.ensures in
    same_line c.args.object.now c.args.bytes.now c.in-Some.line line e (bad_line c.args.object c.args.alloc c.methods.ensures.checked c.args.bytes.now c.in-Some.line found)

pub returns-in-Some-clause-refused : goal.returns-in-Some-clause-refused
returns-in-Some-clause-refused c line e = refused c.args.object.now c.args.bytes.now line (returns-in-Some-clause-bad_line c line e)

pub logs-requires : goal.logs-requires
logs-requires c =
    let found : read_from (text_form c.args.object c.args.alloc) (at c.args.object c.args.alloc Nothing) 1 (pieces_of c.args.bytes.now) ≡ Ok c.read_lines.new.reader = rw c.in_default.is at c.in_ok-line.ensures in
    read_whole c.args.object c.args.alloc c.args.bytes.now c.read_lines.new.reader found

pub new-requires-clause-some : goal.new-requires-clause-some
new-requires-clause-some c =
    let found : read_from (text_form c.args.object c.args.alloc) (at c.args.object c.args.alloc Nothing) 1 (pieces_of c.args.bytes.now) ≡ Ok c.read_lines.new.reader = rw c.in_default.is at c.in_ok-line.ensures in
    (text_found c.args.object c.args.alloc c.args.bytes.now c.read_lines.new.reader c.logs.result found c.logs.ensures).logs_are.some

pub new-requires-clause-few : goal.new-requires-clause-few
new-requires-clause-few c =
    let found : read_from (text_form c.args.object c.args.alloc) (at c.args.object c.args.alloc Nothing) 1 (pieces_of c.args.bytes.now) ≡ Ok c.read_lines.new.reader = rw c.in_default.is at c.in_ok-line.ensures in
    (text_found c.args.object c.args.alloc c.args.bytes.now c.read_lines.new.reader c.logs.result found c.logs.ensures).logs_are.few

pub returns-clause-text : goal.returns-clause-text
returns-clause-text c =
    let found : read_from (text_form c.args.object c.args.alloc) (at c.args.object c.args.alloc Nothing) 1 (pieces_of c.args.bytes.now) ≡ Ok c.read_lines.new.reader = rw c.in_default.is at c.in_ok-line.ensures in
    rw c.new.ensures (text_found c.args.object c.args.alloc c.args.bytes.now c.read_lines.new.reader c.logs.result found c.logs.ensures)

pub returns-clause-one : goal.returns-clause-one
returns-clause-one c others text =
    texts_are_of_one c.args.object.now c.methods.ensures.checked c.args.alloc others _ c.args.bytes.now text (returns-clause-text c)

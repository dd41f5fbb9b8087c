use Rattle.std.proofs.Common.{◌≡◌, ℕ, List, subst}
use Rattle.std.specs.Prelude.{OnOk}
use Rattle.ham_witness.proofs.Written.{line-written}
use Rattle.ham_witness.proofs.printer.push_named.Goals as goal

pub returns : goal.returns
returns c =
    subst (λ (t : List ℕ). OnOk c.push_line_end.result (c.push_line_end.new.text ≡ t))
    (line-written c.args.word.now c.args.name.now c.args.numbers.now c.args.text.now c.extend.new.self c.push_word.new.text c.push_numbers.new.text c.in_ok-extend.ensures.ok c.in_ok-push_word.ensures c.in_ok-push_numbers.ensures.text) c.push_line_end.ensures

use Rattle.std.proofs.Common.{◌≡◌, None, sym, ◌∙◌}
use Rattle.std.proofs.lemmas.Bool.{false≢true}
use Rattle.toml.specs.Parse.{parse_document}
use Rattle.ham_toml.proofs.Documents.{not_toml}
use Rattle.ham_toml.proofs.document.read_document.Goals as goal

pub returns-else-is_memory : goal.returns-else-is_memory
returns-else-is_memory c =
    let refused : parse_document c.in-Ok.text.now ≡ None =
    c.in-Err-table_from_str.ensures.refused (λ k. false≢true (sym c.if-is_memory.false ∙ c.is_memory.ensures.1 k)) in
    not_toml c.args.bytes.now c.in-Ok.ensures.cases.1 (rw c.in-Ok.ensures.cases.0 at refused)

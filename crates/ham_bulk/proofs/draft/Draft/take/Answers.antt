use Rattle.std.proofs.Common.{sym, ◌∙◌}
use Rattle.ham_bulk.proofs.After.{not_taken}
use Rattle.ham_bulk.proofs.draft.Draft.take.Goals as goal

pub returns-then-is_some : goal.returns-then-is_some
returns-then-is_some c = not_taken c.args.world.now c.args.self.now c.args.event (sym c.is_some.ensures ∙ c.if-is_some.true)

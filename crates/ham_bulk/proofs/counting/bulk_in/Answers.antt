use Rattle.ham_bulk.proofs.Texts.{if_ok_both, bulk_made}
use Rattle.ham_bulk.proofs.counting.bulk_in.Goals as goal

pub returns : goal.returns
returns c = if_ok_both c.counted.result
    (λ m. bulk_made c.args.world.now c.draft_of.new.world c.args.seed c.args.rounds c.in_ok-draft.draft _ _ m c.in_ok-draft.ensures c.replicas.ensures.replicas c.in_ok-text.ensures)
    c.counted.ensures.text c.counted.ensures.refused

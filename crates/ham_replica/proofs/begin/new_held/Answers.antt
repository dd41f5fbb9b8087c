use Rattle.std.proofs.Common.{◌≡◌, ◌+◌, [], ap, ◌∙◌, rules}
use Rattle.std.specs.Prelude.{replicate}
use Rattle.ham_buffer.specs.Buffers.{begun}
use Rattle.ham_replica.proofs.Opened.{no_rulings}
use Rattle.ham_replica.proofs.begin.new_held.Goals as goal

pub returns-clause-lists : goal.returns-clause-lists
returns-clause-lists c =
    let rulings = no_rulings c.in_ok-rulings.rulings _ _ c.in_ok-rulings.ensures.long c.in_ok-rulings.ensures.each c.in_ok-rulings.ensures.none in
    let counts : c.in_ok-counts.counts.items ≡ replicate c.slots.result 0 = search rules in
    let logged : c.in_ok-logged.logged.items ≡ replicate c.lanes-3.result 0 = search rules in
    λ i. record {
      state = c.in_ok-state.ensures.0 i;
      watched = c.in_ok-state.ensures.1 i;
      log = c.new-3.ensures.items i;
      counts = (counts ∙ ap (λ n. replicate n 0) c.slots.ensures) i;
      logged = (logged ∙ ap (λ n. replicate n 0) c.lanes-3.ensures) i;
      decided = (c.in_ok-outs.ensures.decided ∙ ap (λ n. replicate n []) c.lanes.ensures) i;
      acked = (c.in_ok-outs.ensures.acked ∙ (λ j. replicate (c.lanes.ensures j) (replicate (c.replicas.ensures j + 1) 0))) i;
      came = (c.in_ok-ins.ensures ∙ ap (λ n. replicate n []) c.lanes-2.ensures) i;
      buffer = (c.new-4.ensures ∙ (λ j. begun (c.lanes-4.ensures j) (c.slots-2.ensures j))) i;
      asks = (c.in_ok-asks.ensures ∙ ap (λ n. replicate n []) c.groups.ensures.groups) i;
      rulings = (rulings ∙ (λ j. replicate (c.replicas-2.ensures j + 1) (replicate (c.groups-2.ensures.groups j) []))) i;
    }

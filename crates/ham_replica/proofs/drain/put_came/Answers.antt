use Rattle.std.proofs.Common.{◌++◌, [], ◌∷◌, map, ap, ◌∙◌}
use Rattle.ham_lane.specs.Lanes.{InLane}
use Rattle.ham_replica.proofs.Items.{map_set_item, one_more_as}
use Rattle.ham_replica.proofs.drain.put_came.Goals as goal

pub returns-clause-lists : goal.returns-clause-lists
returns-clause-lists c =
    let came = map_set_item (λ (l : InLane). l.calls) c.args.held.now.ins.items c.args.call.lane c.accept_reserved.new.self c.index_mut-lane.result.now c.args.call c.index_mut-lane.ensures.value c.accept_reserved.ensures in
    let counts = one_more_as c.args.held.now.counts.items c.args.slot c.index_mut.result.now c.requires.slot c.index_mut.ensures.value in
    let logged = one_more_as c.args.held.now.logged.items c.args.call.lane c.index_mut-2.result.now c.requires.logged c.index_mut-2.ensures.value in
    λ i. record {
      state = c.args.held.now.state.content;
      watched = c.args.held.now.state.invariants;
      log = (c.push_place-2.ensures ∙ ap (λ p. c.args.held.now.log.items ++ p ∷ []) c.place-2.ensures) i;
      counts = counts i;
      logged = logged i;
      decided = map (λ l. l.calls) c.args.held.now.outs.items;
      acked = map (λ l. l.acked) c.args.held.now.outs.items;
      came = came i;
      buffer = c.args.held.now.buffer;
      asks = c.args.held.now.asks;
      rulings = map (map (λ g. g.ruled)) c.args.held.now.rulings;
    }

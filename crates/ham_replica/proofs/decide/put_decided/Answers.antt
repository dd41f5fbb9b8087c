use Rattle.std.proofs.Common.{◌++◌, [], ◌∷◌, map, ap, ◌∙◌}
use Rattle.ham_lane.specs.Lanes.{OutLane}
use Rattle.ham_replica.proofs.Items.{map_set_item, map_set_same, one_more_as}
use Rattle.ham_replica.proofs.decide.put_decided.Goals as goal

pub returns-clause-lists : goal.returns-clause-lists
returns-clause-lists c =
    let decided = map_set_item (λ (l : OutLane). l.calls) c.args.held.now.outs.items c.args.call.lane c.append_reserved.new.self c.index_mut-lane.result.now c.args.call c.index_mut-lane.ensures.value c.append_reserved.ensures.calls in
    let acked = map_set_same (λ (l : OutLane). l.acked) c.args.held.now.outs.items c.args.call.lane c.append_reserved.new.self c.index_mut-lane.result.now c.index_mut-lane.ensures.value c.append_reserved.ensures.acked in
    let counts = one_more_as c.args.held.now.counts.items c.args.slot c.index_mut.result.now c.requires.slot c.index_mut.ensures.value in
    let logged = one_more_as c.args.held.now.logged.items c.args.call.lane c.index_mut-2.result.now c.requires.logged c.index_mut-2.ensures.value in
    λ i. record {
      state = c.args.held.now.state.content;
      watched = c.args.held.now.state.invariants;
      log = (c.push_place-2.ensures ∙ ap (λ p. c.args.held.now.log.items ++ p ∷ []) c.place-2.ensures) i;
      counts = counts i;
      logged = logged i;
      decided = decided i;
      acked = acked i;
      came = map (λ l. l.calls) c.args.held.now.ins.items;
      buffer = c.args.held.now.buffer;
      asks = c.args.held.now.asks;
      rulings = map (map (λ g. g.ruled)) c.args.held.now.rulings;
    }

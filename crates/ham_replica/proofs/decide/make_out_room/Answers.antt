use Rattle.std.proofs.Common.{map}
use Rattle.ham_lane.specs.Lanes.{OutLane}
use Rattle.ham_replica.proofs.Items.{map_set_same}
use Rattle.ham_replica.proofs.decide.make_out_room.Goals as goal

pub returns-clause-lists : goal.returns-clause-lists
returns-clause-lists c =
    let decided = map_set_same (λ (l : OutLane). l.calls) c.args.held.now.outs.items c.args.lane c.reserve-3.new.self c.index_mut-lane.result.now c.index_mut-lane.ensures.value c.reserve-3.ensures.calls in
    let acked = map_set_same (λ (l : OutLane). l.acked) c.args.held.now.outs.items c.args.lane c.reserve-3.new.self c.index_mut-lane.result.now c.index_mut-lane.ensures.value c.reserve-3.ensures.acked in
    λ i. record {
      state = c.args.held.now.state.content;
      watched = c.args.held.now.state.invariants;
      log = c.reserve-2.ensures.items i;
      counts = c.args.held.now.counts.items;
      logged = c.args.held.now.logged.items;
      decided = decided i;
      acked = acked i;
      came = map (λ l. l.calls) c.args.held.now.ins.items;
      buffer = c.args.held.now.buffer;
      asks = c.args.held.now.asks;
      rulings = map (map (λ g. g.ruled)) c.args.held.now.rulings;
    }

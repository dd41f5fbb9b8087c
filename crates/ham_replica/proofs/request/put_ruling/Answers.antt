use Rattle.std.proofs.Common.{map}
use Rattle.ham_replica.proofs.Shaped.{rulings_ruled}
use Rattle.ham_replica.proofs.request.put_ruling.Goals as goal

pub returns : goal.returns
returns c = λ i. record {
  state = c.args.held.now.state.content;
  watched = c.args.held.now.state.invariants;
  log = c.args.held.now.log.items;
  counts = c.args.held.now.counts.items;
  logged = c.args.held.now.logged.items;
  decided = map (λ l. l.calls) c.args.held.now.outs.items;
  acked = map (λ l. l.acked) c.args.held.now.outs.items;
  came = map (λ l. l.calls) c.args.held.now.ins.items;
  buffer = c.args.held.now.buffer;
  asks = c.args.held.now.asks;
  rulings = rulings_ruled c.args.held.now.rulings c.rule_reserved.new.self c.args.request.now.from c.args.request.now.group _ c.rule_reserved.ensures i;
}

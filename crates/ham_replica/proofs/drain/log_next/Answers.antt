use Rattle.std.proofs.Common.{arith}
use Rattle.ham_lane.specs.Lanes.{InLane}
use Rattle.ham_replica.specs.Shown.{lists_of}
use Rattle.ham_replica.proofs.Items.{length_map}
use Rattle.ham_replica.proofs.Loggable.{ready_lane}
use Rattle.ham_replica.proofs.drain.log_next.Goals as goal

pub make_room-requires : goal.make_room-requires
make_room-requires c =
    let lane = ready_lane c.args.site.now (lists_of c.args.held.now) (lists_of c.next_ready.new.held) c.in-Some.place c.requires c.in-Some.ensures.first c.in-Some.ensures.lists in
    let long = length_map (λ (l : InLane). l.calls) c.next_ready.new.held.ins.items in
    omega arith

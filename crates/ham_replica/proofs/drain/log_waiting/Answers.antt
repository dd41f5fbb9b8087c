use Rattle.std.proofs.Common.{◌<◌, ◌+◌, length, get_or, arith, ap, sym, subst, ◌∙◌, [], ◌∷◌, ◌++◌}
use Rattle.ham_lane.specs.Lanes.{InLane}
use Rattle.ham_syntax.specs.declared.act.Place.{Place}
use Rattle.ham_syntax.specs.declared.act.Call.{Call}
use Rattle.ham_turns.specs.Words.{place_of}
use Rattle.ham_replica.specs.Shown.{lists_of, no_in_lane}
use Rattle.ham_replica.proofs.Items.{length_map, get_map}
use Rattle.ham_replica.proofs.Loggable.{found_loggable, state_small, slot_as, same_some, logs_lists}
use Rattle.ham_replica.proofs.drain.log_waiting.Goals as goal

pub apply-requires-clause-small : goal.apply-requires-clause-small
apply-requires-clause-small c = state_small _ _ c.requires.kept

pub steps-steps-requires : goal.steps-steps-requires
steps-steps-requires c = (found_loggable _ _ c.requires.kept _ _ c.requires.first.0 c.in-Some.ensures.call).can.next.fits

pub slot_of-slot-requires-clause-method : goal.slot_of-slot-requires-clause-method
slot_of-slot-requires-clause-method c = (found_loggable _ _ c.requires.kept _ _ c.requires.first.0 c.in-Some.ensures.call).can.next.method

pub put_came-requires-clause-lane : goal.put_came-requires-clause-lane
put_came-requires-clause-lane c =
    let found = found_loggable _ _ c.requires.kept _ _ c.requires.first.0 c.in-Some-take.ensures.call in
    let long = length_map (λ (l : InLane). l.calls) c.args.held.now.ins.items in
    let came = c.requires.kept.shaped.came in
    let lane = found.can.next.lane in
    omega arith

pub put_came-requires-clause-logged : goal.put_came-requires-clause-logged
put_came-requires-clause-logged c =
    let found = found_loggable _ _ c.requires.kept _ _ c.requires.first.0 c.in-Some-take.ensures.call in
    let long = c.requires.kept.shaped.logged in
    let lane = found.can.next.lane in
    omega arith

pub put_came-requires-clause-slot : goal.put_came-requires-clause-slot
put_came-requires-clause-slot c =
    let found = found_loggable _ _ c.requires.kept _ _ c.requires.first.0 c.in-Some-take.ensures.call in
    let same = same_some _ _ _ c.in-Some.ensures.call c.in-Some-take.ensures.call in
    let slot = slot_as c.args.site.now _ _ _ _ _ same found.can.place c.decider_of.ensures c.slot_of-slot.ensures in
    let long = c.requires.kept.shaped.counts in
    let there = found.can.slot in
    omega arith

pub put_came-requires-clause-few : goal.put_came-requires-clause-few
put_came-requires-clause-few c = (found_loggable _ _ c.requires.kept _ _ c.requires.first.0 c.in-Some-take.ensures.call).can.next.few

pub put_came-requires-clause-many : goal.put_came-requires-clause-many
put_came-requires-clause-many c =
    let found = found_loggable _ _ c.requires.kept _ _ c.requires.first.0 c.in-Some-take.ensures.call in
    let same = same_some _ _ _ c.in-Some.ensures.call c.in-Some-take.ensures.call in
    let slot = slot_as c.args.site.now _ _ _ _ _ same found.can.place c.decider_of.ensures c.slot_of-slot.ensures in
    subst (λ s. get_or c.args.held.now.counts.items s 0 < 4294967295) (sym slot) found.can.many

pub put_came-requires-clause-number : goal.put_came-requires-clause-number
put_came-requires-clause-number c =
    let found = found_loggable _ _ c.requires.kept _ _ c.requires.first.0 c.in-Some-take.ensures.call in
    let lane = get_map (λ (l : InLane). l.calls) c.args.held.now.ins.items c.in-Some-take.call.lane no_in_lane in
    found.can.number ∙ ap (λ n. n + 1) (ap length lane)

pub put_came-requires-clause-short : goal.put_came-requires-clause-short
put_came-requires-clause-short c =
    let found = found_loggable _ _ c.requires.kept _ _ c.requires.first.0 c.in-Some-take.ensures.call in
    let lane = ap length (get_map (λ (l : InLane). l.calls) c.args.held.now.ins.items c.in-Some-take.call.lane no_in_lane) in
    let number = found.can.number in
    let next = found.can.next.number in
    let few = found.can.next.few in
    omega arith

pub put_came-requires-clause-room : goal.put_came-requires-clause-room
put_came-requires-clause-room c =
    let found = found_loggable _ _ c.requires.kept _ _ c.requires.first.0 c.in-Some-take.ensures.call in
    let lane = ap (λ (p : Place). p.lane) found.can.place in
    record {
      log = c.requires.room.log;
      told = c.requires.room.told;
      came = rw (sym lane) c.requires.room.came;
    }

pub returns-in-Some-take : goal.returns-in-Some-take
returns-in-Some-take c =
    let found = found_loggable _ _ c.requires.kept _ _ c.requires.first.0 c.in-Some-take.ensures.call in
    let same = same_some _ _ _ c.in-Some.ensures.call c.in-Some-take.ensures.call in
    let slot = slot_as c.args.site.now _ _ _ _ _ same found.can.place c.decider_of.ensures c.slot_of-slot.ensures in
    record {
      place = c.args.place.now;
      kept = found.kept;
      first = c.requires.first;
      found = found.at;
      lists = c.put_came.ensures.lists ∙ logs_lists c.args.site.now (lists_of c.args.held.now) _ _ _ _ _ _ _ _ found.call same slot found.can.place c.in-Ok.ensures.applied c.apply.ensures.invariants c.take.ensures.rest;
      told = c.put_came.ensures.places ∙ ap (λ (z : Call). c.args.places.now.items ++ place_of z ∷ []) (sym found.call);
    }

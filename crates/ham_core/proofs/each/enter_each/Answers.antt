use Rattle.std.proofs.Common.{◌∙◌, refl, sym, arith, ap, length}
use Rattle.ham_core.proofs.Entering.{each_start, each_more, each_stop, each_end, rest_may, none_left}
use Rattle.ham_core.proofs.each.enter_each.Goals as goal

pub loop-input-init : goal.loop-input-init
loop-input-init g c =
    record {
      may = c.requires.may;
      room = omega (arith, ap length c.requires.empty, c.requires.room);
      on = each_start _ _ _ _ _ _ c.requires.empty;
      number = refl;
    }

pub returns-then-stops-clause-told : goal.returns-then-stops-clause-told
returns-then-stops-clause-told g c =
    each_stop _ _ _ _ _ _ _ _ _ c.in-Some.input c.enter-reply.result _ _ c.is_stop_reply-stops.result c.loop-input.invariant.on c.in-Some.ensures.items c.push_reserved.ensures.items
    (record {
      told = (_, _, _, c.enter-reply.ensures.told, c.enter-reply.ensures.enters);
      kind = c.enter-reply.ensures.kind;
      fits = c.enter-reply.ensures.fits;
      entries = c.enter-reply.ensures.moves;
      stops = c.count.ensures.stops;
      fulls = c.count.ensures.fulls;
      refusals = c.count.ensures.refusals;
      causes = c.count.ensures.causes;
    }) c.is_stop_reply-stops.ensures c.if-stops.true

pub loop-input-preserved : goal.loop-input-preserved
loop-input-preserved g c =
    let i = c.loop-input.invariant in
    record {
      may = rest_may _ _ _ _ _ c.in-Some.ensures.items i.may;
      room = omega (arith, i.room, ap length c.in-Some.ensures.items, c.push_reserved.ensures.len, c.push_reserved.ensures.capacity);
      on = each_more _ _ _ _ _ _ _ _ _ c.in-Some.input c.enter-reply.result _ _ c.is_stop_reply-stops.result i.on c.in-Some.ensures.items c.push_reserved.ensures.items
          (record {
            told = (_, _, _, c.enter-reply.ensures.told, c.enter-reply.ensures.enters);
            kind = c.enter-reply.ensures.kind;
            fits = c.enter-reply.ensures.fits;
            entries = c.enter-reply.ensures.moves;
            stops = c.count.ensures.stops;
            fulls = c.count.ensures.fulls;
            refusals = c.count.ensures.refusals;
            causes = c.count.ensures.causes;
          }) c.is_stop_reply-stops.ensures c.if-stops.false;
      number = c.enter-reply.ensures.number ∙ i.number;
    }

pub returns-clause-told : goal.returns-clause-told
returns-clause-told g c =
    let none = none_left c.loop-input.inputs.items (omega (arith, c.in_default.ensures.cases.0, c.loop-input.inputs.ok)) in
    each_end _ _ _ _ _ _ _ _ _ c.loop-input.invariant.on none (sym c.in_default.ensures.items ∙ none)

use Rattle.std.proofs.Common.{◌∙◌, List, get_or, subst}
use Rattle.ham_syntax.specs.declared.act.Place.{Place}
use Rattle.ham_plan.specs.Lists.{In}
use Rattle.ham_core.proofs.Recording.{in_get, call_more, all_found}
use Rattle.ham_core.proofs.logged.logged_calls.Goals as goal

abbrev none : Place
none = record { lane = 0; number = 0 }

pub logged_call-requires : goal.logged_call-requires
logged_call-requires c =
    subst (λ (l : List Place). In (get_or c.log-log.result.now c.loop-place.place-index none) l) c.log-log.ensures.log (in_get c.log-log.result.now c.loop-place.place-index none c.loop-place-test.true)

pub loop-place-preserved : goal.loop-place-preserved
loop-place-preserved c =
    call_more c.args.replica.now.lists c.log-log.result.now c.loop-place.place-index none c.in_ok-logged_call.field-0 _ _ c.log-log.ensures.log c.loop-place-test.true c.in_ok-logged_call.ensures c.loop-place.invariant c.in_ok-push.ensures.items

pub returns : goal.returns
returns c =
    c.from.ensures ∙ all_found c.args.replica.now.lists c.log-log.result.now c.loop-place.place-index c.loop-place.calls.items c.log-log.ensures.log c.loop-place-test.false c.loop-place.invariant

use Rattle.std.proofs.Common.{◌≡◌, ◌<◌, ◌≤◌, ◌+◌, ◌-◌, ◌^◌, ℕ, slice_set, refl, sym, subst, ap, ◌∙◌, arith, length, get_or}
use Rattle.ham_site.specs.Sites.{rules_at, setting_at, IsBounded}
use Rattle.ham_plan.specs.Lists.{In}
use Rattle.ham_records.specs.declared.records.Logged.{Logged}
use Rattle.ham_audit.specs.declared.order.Progress.{Progress}
use Rattle.ham_audit.specs.Records.{log_of}
use Rattle.ham_audit.specs.Passing.{at_of, state_of, contents, next_in}
use Rattle.ham_audit.proofs.Choosing.{own_call, at_call}
use Rattle.ham_audit.proofs.Looking.{in_at}
use Rattle.ham_audit.proofs.Under.{fits_in, small_here, at_decided}
use Rattle.ham_audit.proofs.order.decide.Goals as goal

pub steps-steps-requires : goal.steps-steps-requires
steps-steps-requires c =
    let records = c.args.logs.now in
    let r = c.args.replica in
    let at = c.args.progress.now.at.items in
    let call = own_call (setting_at c.args.site.now) r (next_in records at r) c.args.logged.now c.requires.own in
    let w = at_call (log_of records r) (at_of at r) c.args.logged.now call.0 in
    fits_in c.args.site.now records c.requires.under r c.args.logged.now (in_at (log_of records r) (at_of at r) c.args.logged.now w.0 w.1)

pub judge-requires-clause-fits : goal.judge-requires-clause-fits
judge-requires-clause-fits c =
    let records = c.args.logs.now in
    let r = c.args.replica in
    let at = c.args.progress.now.at.items in
    let call = own_call (setting_at c.args.site.now) r (next_in records at r) c.args.logged.now c.requires.own in
    let w = at_call (log_of records r) (at_of at r) c.args.logged.now call.0 in
    fits_in c.args.site.now records c.requires.under r c.args.logged.now (in_at (log_of records r) (at_of at r) c.args.logged.now w.0 w.1)

pub judge-requires-clause-few : goal.judge-requires-clause-few
judge-requires-clause-few c =
    let records = c.args.logs.now in
    let r = c.args.replica in
    let at = c.args.progress.now.at.items in
    let call = own_call (setting_at c.args.site.now) r (next_in records at r) c.args.logged.now c.requires.own in
    let w = at_call (log_of records r) (at_of at r) c.args.logged.now call.0 in
    let inside = w.0 in
    let few = c.requires.under.few r in
    omega arith

pub pass-requires-clause-few : goal.pass-requires-clause-few
pass-requires-clause-few c =
    let records = c.args.logs.now in
    let r = c.args.replica in
    let at = c.args.progress.now.at.items in
    let call = own_call (setting_at c.args.site.now) r (next_in records at r) c.args.logged.now c.requires.own in
    let w = at_call (log_of records r) (at_of at r) c.args.logged.now call.0 in
    let inside = w.0 in
    let few = c.requires.under.few r in
    subst (λ (p : Progress). at_of p.at.items r < 2 ^ 24) (sym c.judge.ensures.rest) (omega arith)

pub pass-requires-clause-small : goal.pass-requires-clause-small
pass-requires-clause-small c =
    let records = c.args.logs.now in
    let r = c.args.replica in
    let at = c.args.progress.now.at.items in
    let call = own_call (setting_at c.args.site.now) r (next_in records at r) c.args.logged.now c.requires.own in
    let w = at_call (log_of records r) (at_of at r) c.args.logged.now call.0 in
    subst (λ (p : Progress). IsBounded (state_of (contents p.states.items) r (rules_at c.args.site.now).opening) (2 ^ 60)) (sym c.judge.ensures.rest)
    (small_here c.args.site.now records c.requires.under c.me-me.ensures.site c.args.progress.now c.requires.at r c.requires.replica c.args.logged.now w.0 w.1)

pub returns-clause-at : goal.returns-clause-at
returns-clause-at c =
    let records = c.args.logs.now in
    let r = c.args.replica in
    let old = c.args.progress.now in
    let at = old.at.items in
    let call = own_call (setting_at c.args.site.now) r (next_in records at r) c.args.logged.now c.requires.own in
    let w = at_call (log_of records r) (at_of at r) c.args.logged.now call.0 in
    let passed = c.in_ok-pass.ensures in
    let judged = c.judge.ensures.rest in
    at_decided c.args.site.now records c.requires.under c.me-me.ensures.site old c.requires.at r c.requires.replica c.args.logged.now w.0 w.1 call.1 c.requires.new _
    (passed.at ∙ ap (λ (p : Progress). slice_set p.at.items (r - 1) (at_of p.at.items r + 1)) judged)
    (passed.states ∙ ap (λ (p : Progress). slice_set (contents p.states.items) (r - 1) ((rules_at c.args.site.now).update c.args.logged.now.act (state_of (contents p.states.items) r (rules_at c.args.site.now).opening))) judged)
    passed.opened
    (ap (λ n. n + 1) (passed.count ∙ ap (λ (p : Progress). p.count) judged))
    (passed.forbidden ∙ c.judge.ensures.forbidden)

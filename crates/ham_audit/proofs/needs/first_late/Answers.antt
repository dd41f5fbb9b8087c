use Rattle.std.proofs.Common.{◌≡◌, ◌+◌, ℕ, Bool, take, true, false, not, sym, ap, subst, ◌∙◌, inl, inr}
use Rattle.std.specs.Prelude.{◌&&◌, All}
use Rattle.std.proofs.lemmas.Bool.{not-true, not-false, and_parts, and_cases, true≢false}
use Rattle.ham_site.specs.Sites.{setting_at}
use Rattle.ham_records.specs.declared.records.Logged.{Logged}
use Rattle.ham_audit.specs.Faults as faults
use Rattle.ham_audit.specs.Lateness.{IsIn, need_between}
use Rattle.ham_audit.specs.Order.{audited}
use Rattle.ham_audit.specs.Records.{log_of, places, stands}
use Rattle.ham_audit.proofs.Timely.{needed, finds_late, goes_late, in_all}
use Rattle.ham_audit.proofs.needs.first_late.Goals as goal

pub is_late-requires-clause-other : goal.is_late-requires-clause-other
is_late-requires-clause-other c = in_all c.args.logs.now c.args.front.now c.requires.front c.loop-other.other-index c.other-item.result c.loop-other-test.true c.other-item.is

pub returns-then-is_late : goal.returns-then-is_late
returns-then-is_late c =
    let y = setting_at c.args.site.now in
    let other = in_all c.args.logs.now c.args.front.now c.requires.front c.loop-other.other-index c.other-item.result c.loop-other-test.true c.other-item.is in
    let seen = places (take c.args.index (log_of c.args.logs.now c.args.replica)) in
    let p = and_parts (need_between c.args.plan.now c.args.call.now c.other-item.result) (not (stands c.other-item.result.place seen)) (sym c.is_late.ensures ∙ c.if-is_late.true) in
    finds_late y (audited y c.args.logs.now) c.args.call.now.place seen c.args.front.now c.loop-other.other-index c.other-item.result c.loop-other-test.true c.other-item.is c.loop-other.invariant
    (sym (needed c.args.site.now c.args.plan.now c.args.logs.now c.requires.under c.requires.plan c.args.call.now c.other-item.result c.requires.call other) ∙ p.0) (not-true (stands c.other-item.result.place seen) p.1)

pub loop-other-preserved : goal.loop-other-preserved
loop-other-preserved c =
    let y = setting_at c.args.site.now in
    let other = in_all c.args.logs.now c.args.front.now c.requires.front c.loop-other.other-index c.other-item.result c.loop-other-test.true c.other-item.is in
    let seen = places (take c.args.index (log_of c.args.logs.now c.args.replica)) in
    let none : (need_between c.args.plan.now c.args.call.now c.other-item.result && not (stands c.other-item.result.place seen)) ≡ false = sym c.is_late.ensures ∙ c.if-is_late.false in
    goes_late y (audited y c.args.logs.now) c.args.call.now.place seen c.args.front.now c.loop-other.other-index c.other-item.result c.loop-other-test.true c.other-item.is c.loop-other.invariant
    (λ t. elim (and_cases (need_between c.args.plan.now c.args.call.now c.other-item.result) (not (stands c.other-item.result.place seen)) none) [
      | inl f ↦ absurd (true≢false (sym t ∙ sym (needed c.args.site.now c.args.plan.now c.args.logs.now c.requires.under c.requires.plan c.args.call.now c.other-item.result c.requires.call other) ∙ f))
      | inr f ↦ not-false (stands c.other-item.result.place seen) f
    ])

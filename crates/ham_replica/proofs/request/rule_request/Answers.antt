use Rattle.std.proofs.Common.{◌≡◌, ◌<◌, ◌≤◌, length, refl, sym, subst, ◌∙◌}
use Rattle.std.proofs.lemmas.Bool.{leb-true, leb-false}
use Rattle.ham_site.specs.Sites.{rules_at}
use Rattle.ham_meaning.specs.declared.outcome.Outcome.TheVariants as outcomes
use Rattle.ham_frame.specs.declared.frame.Ruling.TheVariants as rulings
use Rattle.ham_frame.specs.declared.frame.Frame.TheVariants as frames
use Rattle.ham_replica.specs.Values.{Lists, words}
use Rattle.ham_replica.specs.Shown.{lists_of}
use Rattle.ham_replica.specs.Deliveries.{TakesFrame}
use Rattle.ham_replica.proofs.Requesting.{plainly, ruling_full, ruling_as}
use Rattle.ham_replica.proofs.request.rule_request.Goals as goal

pub returns-then-full : goal.returns-then-full
returns-then-full c =
    let full = leb-true _ _ (sym c.is_full-full.ensures ∙ c.if-full.true) in
    let room = c.in_ok-make_ruling_room.ensures.lists in
    λ which. plainly c.args.site.now (lists_of c.args.held.now) c.args.request.now c.requires.may
    (lists_of c.make_ruling_room.new.held) (lists_of c.rule_plainly.new.held) rulings.Full c.rule_plainly.result which room c.rule_plainly.ensures.lists c.rule_plainly.ensures.turn
    (ruling_full c.args.site.now (lists_of c.args.held.now) c.args.request.now.from 0 c.args.request.now.group c.args.request.now.number c.args.request.now.act
    (subst (λ (l : Lists). 65536 ≤ length ((words l).decided c.args.request.now.group)) room full)) refl tt

pub returns-in-Yes : goal.returns-in-Yes
returns-in-Yes c =
    subst (λ (l : Lists). TakesFrame c.args.site.now l (lists_of c.rule_yes.new.held) c.args.request.now.from
    (frames.Request c.args.request.now.group c.args.request.now.number c.args.request.now.act) c.rule_yes.result) c.in_ok-make_ruling_room.ensures.lists c.rule_yes.ensures

pub returns-in-Guard : goal.returns-in-Guard
returns-in-Guard c =
    let some = leb-false _ _ (sym c.is_full-full.ensures ∙ c.if-full.false) in
    let room = c.in_ok-make_ruling_room.ensures.lists in
    λ which. plainly c.args.site.now (lists_of c.args.held.now) c.args.request.now c.requires.may
    (lists_of c.make_ruling_room.new.held) (lists_of c.rule_plainly-in-Guard.new.held) (rulings.Guard c.in-Guard.guard) c.rule_plainly-in-Guard.result which room c.rule_plainly-in-Guard.ensures.lists c.rule_plainly-in-Guard.ensures.turn
    (ruling_as c.args.site.now (lists_of c.args.held.now) c.args.request.now.from 0 c.args.request.now.group c.args.request.now.number c.args.request.now.act (outcomes.Guard c.in-Guard.guard)
    (subst (λ (l : Lists). length ((words l).decided c.args.request.now.group) < 65536) room some)
    (subst (λ (l : Lists). (rules_at c.args.site.now).outcome l.state c.args.request.now.act ≡ outcomes.Guard c.in-Guard.guard) room (sym c.in-Guard.ensures))) refl
    (c.requires.may.may.kept.at.ranged.guard _ _ _ (subst (λ (l : Lists). (rules_at c.args.site.now).outcome l.state c.args.request.now.act ≡ outcomes.Guard c.in-Guard.guard) room (sym c.in-Guard.ensures)))

pub returns-in-Invariant : goal.returns-in-Invariant
returns-in-Invariant c =
    let some = leb-false _ _ (sym c.is_full-full.ensures ∙ c.if-full.false) in
    let room = c.in_ok-make_ruling_room.ensures.lists in
    λ which. plainly c.args.site.now (lists_of c.args.held.now) c.args.request.now c.requires.may
    (lists_of c.make_ruling_room.new.held) (lists_of c.rule_plainly-in-Invariant.new.held) (rulings.Invariant c.in-Invariant.invariant) c.rule_plainly-in-Invariant.result which room c.rule_plainly-in-Invariant.ensures.lists c.rule_plainly-in-Invariant.ensures.turn
    (ruling_as c.args.site.now (lists_of c.args.held.now) c.args.request.now.from 0 c.args.request.now.group c.args.request.now.number c.args.request.now.act (outcomes.Invariant c.in-Invariant.invariant)
    (subst (λ (l : Lists). length ((words l).decided c.args.request.now.group) < 65536) room some)
    (subst (λ (l : Lists). (rules_at c.args.site.now).outcome l.state c.args.request.now.act ≡ outcomes.Invariant c.in-Invariant.invariant) room (sym c.in-Invariant.ensures))) refl
    (c.requires.may.may.kept.at.ranged.invariant _ _ _ (subst (λ (l : Lists). (rules_at c.args.site.now).outcome l.state c.args.request.now.act ≡ outcomes.Invariant c.in-Invariant.invariant) room (sym c.in-Invariant.ensures)))

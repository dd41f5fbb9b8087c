use Rattle.std.proofs.Common.{rules, ◌≡◌, ◌≤◌, ℕ, get_or, subst}
use Rattle.std.specs.Prelude.{slice_index, All}
use Rattle.std.proofs.lemmas.List.{take_all}
use Rattle.std.proofs.lemmas.List.Elements.{All-more}
use Rattle.ham_syntax.specs.declared.act.Place.{Place}
use Rattle.ham_audit.proofs.needs.are_within.Goals as goal

pub loop-place-preserved : goal.loop-place-preserved
loop-place-preserved c =
    All-more (λ (p : Place). p.number ≤ slice_index c.args.counts.now p.lane) c.args.reached.now c.loop-place.place-index (record { lane = 0; number = 0 }) c.loop-place-test.true c.loop-place.invariant
    (search rules)

pub returns : goal.returns
returns c t =
    subst (All (λ (p : Place). p.number ≤ slice_index c.args.counts.now p.lane)) (take_all c.loop-place.place-index c.args.reached.now c.loop-place-test.false) c.loop-place.invariant

use Rattle.std.proofs.Common.{◌∙◌, ◌++◌, ◌∷◌, [], ◌||◌, ℕ, List, Bool, get_or, take, drop, ◌+◌, sym, ap, refl}
use Rattle.std.proofs.lemmas.List.{take_more}
use Rattle.ham_check.specs.Faults.{has_bad_column}
use Rattle.ham_check.proofs.Columns.{AreColumns-none, AreColumns-push, AreColumns-room, has_bad_column-step}
use Rattle.ham_check.proofs.invariants.resolve_columns.Goals as goal

pub loop-i-init : goal.loop-i-init
loop-i-init c = record { done = c.none-resolved.ensures; good = AreColumns-none _; rest = refl }

pub push-requires : goal.push-requires
push-requires c = rw c.loop-i.invariant.done (AreColumns-room _ _ _ c.requires c.loop-i.invariant.good (sym c.if-is_bad_column.ensures))

pub loop-i-preserved : goal.loop-i-preserved
loop-i-preserved c =
    let cs = c.args.columns.now in
    let i = c.loop-i.i in
    let more = take_more cs i 0 c.loop-i-test.true in
    let good = sym c.if-is_bad_column.ensures in
    record {
      done = c.push.ensures ∙ (ap (λ (front : List ℕ). front ++ get_or cs i 0 ∷ []) c.loop-i.invariant.done ∙ sym more);
      good = rw more (AreColumns-push _ _ _ c.loop-i.invariant.good good);
      rest = c.loop-i.invariant.rest ∙ (has_bad_column-step c.args.width cs i c.loop-i-test.true ∙ ap (λ (b : Bool). b || has_bad_column c.args.width (take (i + 1) cs) (drop (i + 1) cs)) good);
    }

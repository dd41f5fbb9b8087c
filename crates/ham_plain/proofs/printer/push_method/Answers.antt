use Rattle.std.proofs.Common.{ℕ, List, ◌∷◌}
use Rattle.ham_syntax.specs.declared.object.Param.{Param}
use Rattle.ham_plain.proofs.Printed.{ok_then, of_equal, params_text, guards_printed, effects_printed, method_printed}
use Rattle.ham_plain.proofs.printer.push_method.Goals as goal

pub returns : goal.returns
returns c =
    let o = c.args.object.now in
    let m = c.args.method.now in
    let guards = of_equal (guards_printed o m.params) _ _ _ _ c.items.ensures (of_equal (λ (ps : List Param). guards_printed o ps c.items.result.now) _ _ _ _ c.items-params.ensures c.in_ok-push_guards.ensures) in
    ok_then c.push_effects.result
    (λ e. method_printed _ _ _ _ _ _ _ o m c.in_ok-extend.ensures.ok (of_equal (λ (n : List ℕ). 32 ∷ n) _ _ _ _ c.bytes.ensures.text c.in_ok-push_word.ensures) c.in_ok-push_line_end.ensures
    (of_equal params_text _ _ _ _ c.items-params.ensures c.in_ok-push_params.ensures) guards
    (of_equal (effects_printed o m.params) _ _ _ _ c.items-2.ensures (of_equal (λ (ps : List Param). effects_printed o ps c.items-2.result.now) _ _ _ _ c.items-params.ensures e)))
    c.push_effects.ensures

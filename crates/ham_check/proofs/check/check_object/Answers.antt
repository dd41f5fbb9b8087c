use Rattle.std.proofs.Common.{map, ◌∙◌}
use Rattle.std.proofs.lemmas.List.Elements.{All-from_recursion}
use Rattle.std.proofs.lemmas.Result.{err_from_is_err_and}
use Rattle.ham_syntax.specs.Checked.{IsRelation}
use Rattle.ham_check.specs.Resolved.{resolved, resolved_invariant}
use Rattle.ham_check.proofs.Soundness.{AreParts-of, IsChecked-parts, first-invariant}
use Rattle.ham_check.proofs.check.check_object.Goals as goal

pub of_parts-requires : goal.of_parts-requires
of_parts-requires c =
    let relations = rw c.items.ensures at c.in_ok-relations.ensures.checks in
    let counters = rw (c.items-2.ensures, c.items-3.ensures) at c.in_ok-counters.ensures.checks in
    let invariants = rw (c.items-4.ensures, c.items-5.ensures, c.items-6.ensures) at c.in_ok-invariants.ensures.checks in
    let methods = rw (c.items-4.ensures, c.items-5.ensures, c.items-7.ensures) at c.in_ok-methods.ensures.checks in
    IsChecked-parts c.args.raw.now _ _ _ _ (AreParts-of c.args.raw.now _ _ _ _ relations counters invariants methods)
    (record { relations = c.in_ok-relations.ensures.named; counters = c.in_ok-counters.ensures.named; invariants = c.in_ok-invariants.ensures.typed; methods = c.in_ok-methods.ensures.typed })

pub returns : goal.returns
returns c =
    let relations = rw c.items.ensures at c.in_ok-relations.ensures.checks in
    let counters = rw (c.items-2.ensures, c.items-3.ensures) at c.in_ok-counters.ensures.checks in
    let invariants = rw (c.items-4.ensures, c.items-5.ensures, c.items-6.ensures) at c.in_ok-invariants.ensures.checks in
    let methods = rw (c.items-4.ensures, c.items-5.ensures, c.items-7.ensures) at c.in_ok-methods.ensures.checks in
    let parts = AreParts-of c.args.raw.now _ _ _ _ relations counters invariants methods in
    (parts.none, c.in_ok-of_parts.ensures ∙ parts.same)

pub invariant_of-declared-clause-each : goal.invariant_of-declared-clause-each
invariant_of-declared-clause-each c = rw c.items-4.ensures (All-from_recursion IsRelation _ c.in_ok-relations.ensures.each)

pub returns-in_err-invariants : goal.returns-in_err-invariants
returns-in_err-invariants c =
    let p = err_from_is_err_and c.from_residual-in_err-invariants.result c.from_residual-in_err-invariants.ensures.1 in
    let relations = rw c.items.ensures at c.in_ok-relations.ensures.checks in
    let counters = rw (c.items-2.ensures, c.items-3.ensures) at c.in_ok-counters.ensures.checks in
    rw (p.1, p.2) (first-invariant c.args.raw.now _ _ _ _ _ (map (resolved_invariant c.items-4.result.now c.items-5.result.now) c.items-6.result.now) (resolved c.args.raw.now) c.in_err-invariants.field-0.0 relations counters c.items-4.ensures c.items-5.ensures c.items-6.ensures c.in_err-invariants.ensures.checks)

use Rattle.std.proofs.Common.{◌≡◌, ◌+◌, ◌++◌, [], ◌∷◌, List, ℕ, map, sym, subst, ap, ◌∙◌}
use Rattle.std.specs.Prelude.{replicate, All}
use Rattle.std.proofs.lemmas.List.{map-append, replicate_more}
use Rattle.std.proofs.lemmas.List.Elements.{All-append}
use Rattle.ham_state.specs.Content.{State}
use Rattle.ham_state.specs.Store.{Store}
use Rattle.ham_site.specs.Sites.{rules_at}
use Rattle.ham_audit.specs.Passing.{contents}
use Rattle.ham_audit.proofs.Held.{only}
use Rattle.ham_audit.proofs.order.opened.Goals as goal

pub loop-preserved : goal.loop-preserved
loop-preserved c =
    let old = c.loop.states.items in
    let one = c.in_ok-open.field-0 in
    let s = (rules_at c.args.site.now).opening in
    record {
      contents = ap contents c.in_ok-push.ensures.items ∙ map-append (λ (z : Store). z.content) old (one ∷ [])
          ∙ ap (λ (l : List State). l ++ one.content ∷ []) c.loop.invariant.contents ∙ ap (λ (t : State). replicate c.loop.counter s ++ t ∷ []) c.in_ok-open.ensures.0
          ∙ replicate_more c.loop.counter s;
      opened = subst (λ l. All (λ (z : Store). z.invariants ≡ c.args.site.now.object.invariants) l) (sym c.in_ok-push.ensures.items)
          (All-append (λ (z : Store). z.invariants ≡ c.args.site.now.object.invariants) old (one ∷ []) c.loop.invariant.opened (only (λ (z : Store). z.invariants ≡ c.args.site.now.object.invariants) one c.in_ok-open.ensures.1));
    }

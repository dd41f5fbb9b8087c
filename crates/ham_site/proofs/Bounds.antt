-- How far acts take counters.
use Rattle.std.proofs.Common.{◌≡◌, ℕ, ◌+◌, ◌^◌, ◌≤◌, List, Result, Ok, Err, refl, sym, subst, ap, ◌∙◌, arith}
use Rattle.std.specs.Prelude.{IsTrue, nat_abs, OnOk}
use Rattle.ham_lists.specs.declared.list.NoMemory.{NoMemory}
use Rattle.ham_steps.specs.declared.step.Step.{Step}
use Rattle.ham_state.specs.Steps.{after_steps}
use Rattle.ham_syntax.specs.declared.act.Act.{Act}
use Rattle.ham_syntax.specs.Checked.{IsChecked}
use Rattle.ham_syntax.specs.declared.limits.TheConstants.{MAX_LANE_CALLS}
use Rattle.ham_state.specs.Content.{State, value}
use Rattle.ham_steps.proofs.ContentLaws.{value-opening}
use Rattle.ham_meaning.specs.Meaning.{net_of, update}
use Rattle.ham_meaning.proofs.Small.{small_net, few_effects, few_net}
use Rattle.ham_meaning.proofs.Bounded.{taken_small}
use Rattle.ham_site.specs.Sites.{Site, rules_at, IsBounded, AreSteps}

pub bounded_more : (s : State) (n m : ℕ) → IsBounded s n → n ≤ m → IsBounded s m
unfolding IsBounded
bounded_more s n m small le c k = let here = small c k in omega arith

pub bounded_opening : (site : Site) → IsBounded (rules_at site).opening 0
unfolding IsBounded rules_at
bounded_opening site c k = subst (λ z. nat_abs z ≤ 0) (sym (value-opening c k)) (omega arith)

-- an act that fits raises no magnitude by more than this
pub bounded_update : (site : Site) (a : Act) (s : State) (n : ℕ) → IsChecked site.object → IsTrue ((rules_at site).fits a) → IsBounded s n → IsBounded ((rules_at site).update a s) (n + 2 ^ 35)
unfolding IsBounded rules_at
bounded_update site a s n checked fits small =
    taken_small s (update site.object a s) (net_of site.object a) (few_net site.object a _ refl (few_effects site.object a checked)) (small_net site.object a checked fits) refl n small

-- what the code needs to take steps
pub values_within : (s : State) → IsBounded s (2 ^ 60) → (c k : ℕ) → nat_abs (value s c k) ≤ 2 ^ 100
unfolding IsBounded
values_within s small c k = let here = small c k in omega arith

-- an act's steps are its update
pub steps_applied : (site : Site) (a : Act) (steps : List Step) (s t : State) (r : Result (Unit {0}) NoMemory) → AreSteps site a steps → OnOk r (t ≡ after_steps steps s) → OnOk r (t ≡ (rules_at site).update a s)
unfolding rules_at
steps_applied site a steps s t (Ok u) are taken = taken ∙ ap (λ n. after_steps n s) are.are
steps_applied site a steps s t (Err e) are taken = tt

pub limit_is : (site : Site) → (rules_at site).lane_limit ≡ MAX_LANE_CALLS
unfolding rules_at
limit_is site = refl

-- Acts of methods that an object doesn't have: there are none that fit.
use Rattle.std.proofs.Common.{◌≡◌, ℕ, ◌<◌, false, length, Option, Some, None, refl, inr, sym, subst, ◌∙◌, true≢false}
use Rattle.std.specs.Prelude.{slice_get, IsTrue}
use Rattle.std.proofs.lemmas.Option.{slice_get_within}
use Rattle.ham_syntax.specs.declared.act.Act.{Act}
use Rattle.ham_syntax.specs.declared.object.Method.{Method}
use Rattle.ham_syntax.specs.Objects.{Schema, args_fit, method_fits}
use Rattle.ham_meaning.specs.Relations.{IsActOf}
use Rattle.ham_meaning.specs.OfObjects.{meaning}
use Rattle.ham_laws.specs.Executions.{IsSound}
use Rattle.ham_plan.specs.Plans.{Plan, IsPlan, conflicts, depends_on}
use Rattle.ham_laws.specs.Constrained.{constraints_of}
use Rattle.ham_plan.specs.Plans.{IsSingle}

-- the method of an act that fits exists
pub act-within : (o : Schema) (a : Act) → IsTrue (args_fit o a) → a.method < length o.methods
act-within o a fits = by (slice_get o.methods a.method) refl fits
  where
    by : (m : Option Method) → slice_get o.methods a.method ≡ m → IsTrue (method_fits m a.args) → a.method < length o.methods
    by None e h = absurd (true≢false (sym h))
    by (Some m) e h = slice_get_within o.methods a.method m e

pub IsActOf-within : (o : Schema) (f : ℕ) (a : Act) → IsActOf (meaning o) f a → f < length o.methods
IsActOf-within o f a is = subst (λ (m : ℕ). m < length o.methods) is.1 (act-within o a is.0)

-- the single plan leaves no two methods without conflict, and so nothing to show
pub single_plan_sound : (o : Schema) (p : Plan) → IsPlan p → p.methods ≡ length o.methods → IsSingle p → IsSound (meaning o) (constraints_of p)
single_plan_sound o p is same single = record {
  symmetric = is.symmetric;
  commute = λ f g apart a b s of_f of_g well. absurd (both f g apart a b of_f of_g);
  right = λ f g apart. inr (λ a b s of_f of_g well inv pa pb. absurd (both f g apart a b of_f of_g));
  left = λ f g apart. inr (λ a b s of_f of_g well inv pb pa. absurd (alone f g apart a b of_f of_g));
}
  where
    both : (f g : ℕ) → conflicts p f g ≡ false → (a b : Act) → IsActOf (meaning o) f a → IsActOf (meaning o) g b → ⊥
    both f g apart a b of_f of_g =
        true≢false (sym (single.conflict f g (rw same (IsActOf-within o f a of_f)) (rw same (IsActOf-within o g b of_g))) ∙ apart)

    alone : (f g : ℕ) → depends_on p f g ≡ false → (a b : Act) → IsActOf (meaning o) f a → IsActOf (meaning o) g b → ⊥
    alone f g apart a b of_f of_g =
        true≢false (sym (single.depends f g (rw same (IsActOf-within o f a of_f)) (rw same (IsActOf-within o g b of_g))) ∙ apart)

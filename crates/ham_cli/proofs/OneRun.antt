-- An object and a schedule fix what is played.
use Rattle.std.proofs.Common.{◌≡◌, ℕ, ◌+◌, ◌-◌, ◌<◌, List, length, Some, inl, inr, sym, ap, ◌∙◌, arith}
use Rattle.std.specs.Prelude.{slice_get}
use Rattle.std.proofs.lemmas.Option.{slice_get_cases}
use Rattle.ham_syntax.specs.Objects.{Schema}
use Rattle.ham_plan.specs.Plans.{Plan, IsPlan}
use Rattle.ham_plan.specs.Same.{SaysSame}
use Rattle.ham_turns.specs.Settings.{Setting, setting_of}
use Rattle.ham_tables.specs.DerivedPlans.{IsDerivedPlan}
use Rattle.ham_replay.specs.Claims.{settings_of, setting_by}
use Rattle.ham_replay.specs.Replays.{played}
use Rattle.ham_cli.specs.Plans.{IsPlanFor, AreDerived, HaveOneSetting}
use Rattle.ham_cli.specs.PlayAnswers.{IsPlayedOnce}

-- what laws of plans say
abbrev pub DerivedSaySame : Type 0
DerivedSaySame = (o : Schema) (p q : Plan) → IsDerivedPlan o p → IsDerivedPlan o q → p.replicas ≡ q.replicas → SaysSame p q

abbrev pub SameHaveOneSetting : Type 0
SameHaveOneSetting = (p q : Plan) → IsPlan p → IsPlan q → SaysSame p q → setting_of p ≡ setting_of q

pub one_setting : DerivedSaySame → SameHaveOneSetting → HaveOneSetting
one_setting say one o n p q h k = one p q h.derived.plan k.derived.plan (say o p q h.derived k.derived (h.replicas_are ∙ sym k.replicas_are))

module _ (one : HaveOneSetting) (o : Schema) where
  for_at : (plans : List Plan) (i : ℕ) (p : Plan) → AreDerived o plans → i < length plans → slice_get plans i ≡ Some p → IsPlanFor o (i + 1) p
  for_at plans i p h within e =
      let at : i + 1 - 1 ≡ i = omega arith in
      h.derived (i + 1) p (omega arith) (omega (arith, h.all, within)) (ap (slice_get plans) at ∙ e)

  setting_at : (ps qs : List Plan) (i : ℕ) → AreDerived o ps → AreDerived o qs → setting_by (slice_get ps i) ≡ setting_by (slice_get qs i)
  setting_at ps qs i h k = elim ((slice_get_cases ps i).1) [
    | inl a ↦ elim ((slice_get_cases qs i).1) [
      | inl b ↦ ap setting_by a.2 ∙ one o (i + 1) a.0 b.0 (for_at ps i a.0 h a.1 a.2) (for_at qs i b.0 k b.1 b.2) ∙ ap setting_by (sym b.2)
      | inr b ↦ absurd (omega (arith, h.all, k.all, a.1, b.0))
    ]
    | inr a ↦ elim ((slice_get_cases qs i).1) [
      | inl b ↦ absurd (omega (arith, h.all, k.all, a.0, b.1))
      | inr b ↦ ap setting_by a.1 ∙ ap setting_by (sym b.1)
    ]
  ]

  one_settings : (ps qs : List Plan) → AreDerived o ps → AreDerived o qs → settings_of ps ≡ settings_of qs
  unfolding settings_of
  one_settings ps qs h k = λ i n. setting_at ps qs (n - 1) h k i

pub played_once : HaveOneSetting → IsPlayedOnce
played_once one o schedule p q h k = h.comes ∙ ap (λ (y : ℕ → Setting). played o y schedule) (one_settings one o h.plans k.plans h.derived k.derived) ∙ sym k.comes

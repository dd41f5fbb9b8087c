-- What is drawn, replayed.
use Rattle.std.proofs.Common.{◌≡◌, ℕ, ◌-◌, ◌≤◌, List, inl, inr, refl, sym, ap, subst, ◌∙◌, arith}
use Rattle.std.proofs.lemmas.Option.{slice_get_cases}
use Rattle.ham_syntax.specs.declared.limits.TheConstants.{MAX_REPLICAS}
use Rattle.ham_syntax.specs.Objects.{Schema}
use Rattle.ham_plan.specs.Plans.{Plan}
use Rattle.ham_turns.specs.Settings.{Setting, setting_of}
use Rattle.ham_replay.specs.declared.end.ReplayEnd.{ReplayEnd}
use Rattle.ham_replay.specs.declared.end.ReplayEnd.TheVariants as ends
use Rattle.ham_replay.specs.Claims.{settings_of, setting_by}
use Rattle.ham_replay.specs.Replays.{played}
use Rattle.ham_bulk.specs.Scripted.{scripted, IsPlayedTo}
use Rattle.ham_cli.specs.declared.exit.Exit.{Exit}
use Rattle.ham_cli.specs.declared.exit.Exit.TheVariants as exits
use Rattle.ham_cli.specs.declared.command.Drawing.{Drawing}
use Rattle.ham_cli.specs.Exits.{exit_of_replay}
use Rattle.ham_cli.specs.Plans.{IsPlanFor, AreDerived, HaveOneSetting}
use Rattle.ham_cli.specs.PlayAnswers.{IsReplayed}

pub was_done : (end : ReplayEnd) (exit : Exit) → exit ≡ exit_of_replay end → exit ≡ exits.Done → end ≡ ends.Done
was_done ends.Done exit at done = refl
was_done (ends.Refused line why) exit at done = absurd (let bad = sym at ∙ done in cc)
was_done ends.WriteFault exit at done = absurd (let bad = sym at ∙ done in cc)
was_done ends.NoMemory exit at done = absurd (let bad = sym at ∙ done in cc)

-- the setting of derived plans for so many replicas
derived_at : HaveOneSetting → (o : Schema) (n : ℕ) (p : Plan) (plans : List Plan) → AreDerived o plans → IsPlanFor o n p → 1 ≤ n → n ≤ MAX_REPLICAS → settings_of plans n ≡ setting_of p
unfolding settings_of
derived_at one o n p plans h k some few = elim ((slice_get_cases plans (n - 1)).1) [
  | inl a ↦ ap setting_by a.2 ∙ one o n a.0 p (h.derived n a.0 some few a.2) k
  | inr a ↦ absurd (omega (arith, h.all, a.0, some, few))
]

pub is_replayed : HaveOneSetting → (o : Schema) (d : Drawing) (p : Plan) → IsPlanFor o d.replicas p → 1 ≤ d.replicas → d.replicas ≤ MAX_REPLICAS →
    ((settings : ℕ → Setting) → settings p.replicas ≡ setting_of p → IsPlayedTo (played o settings (scripted o (setting_of p) d.seed d.rounds).text) p.replicas (scripted o (setting_of p) d.seed d.rounds).notes) → IsReplayed o d
is_replayed one o d p k some few replays = (
  p,
  k,
  λ plans h.
      let at : settings_of plans p.replicas ≡ setting_of p = ap (settings_of plans) k.replicas_are ∙ derived_at one o d.replicas p plans h k some few in
      subst (λ (n : ℕ). IsPlayedTo (played o (settings_of plans) (scripted o (setting_of p) d.seed d.rounds).text) n (scripted o (setting_of p) d.seed d.rounds).notes) k.replicas_are (replays (settings_of plans) at),
)

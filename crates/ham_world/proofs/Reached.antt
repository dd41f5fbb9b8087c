-- A run that a world made is that of some inputs.
use Rattle.std.proofs.Common.{◌≡◌, ℕ, List, [], ◌++◌, Result, Ok, Err, fold, take, refl, sym, ap, ◌∙◌, subst}
use Rattle.std.proofs.lemmas.List.Sums.{fold-append}
use Rattle.ham_syntax.specs.Objects.{Schema}
use Rattle.ham_plan.specs.Plans.{Plan}
use Rattle.ham_laws.specs.Constrained.{IsPlanned}
use Rattle.ham_turns.specs.declared.event.Event.{Event}
use Rattle.ham_turns.specs.Settings.{rules_of, setting_of}
use Rattle.ham_runs.specs.Runs.{Note, IsRun}
use Rattle.ham_runs.specs.Next.{Input, run_of, after_input}
use Rattle.ham_runs.specs.Claims.{RunsAreFaithful, InputsGiveRuns}
use Rattle.ham_world.specs.declared.refusal.StepRefusal.{StepRefusal}
use Rattle.ham_world.specs.declared.refusal.StepRefusal.TheVariants as step
use Rattle.ham_world.specs.Worlds.{Run, begun, Steps, taken, inputs_of}
use Rattle.ham_world.specs.Claims.{IsReached, Begun, Stepped, WorldsAreFaithful}

pub record Made (o : Schema) (p : Plan) (r : Run) : Type 0 where
  pub inputs : List Input
  pub object : r.object ≡ o
  pub plan : r.plan ≡ p
  pub notes : r.notes ≡ run_of (rules_of o) (setting_of p) inputs

extended : (o : Schema) (p : Plan) (old new : Run) (more : List Input) → Made o p old → new.object ≡ old.object → new.plan ≡ old.plan →
    new.notes ≡ taken old.object (setting_of old.plan) old.notes more → Made o p new
unfolding run_of taken
extended o p old new more m ob pl is = record {
  inputs = m.inputs ++ more;
  object = ob ∙ m.object;
  plan = pl ∙ m.plan;
  notes = is ∙ (ap (λ q. fold (after_input (rules_of q) (setting_of old.plan)) old.notes more) m.object
      ∙ (ap (λ q. fold (after_input (rules_of o) (setting_of q)) old.notes more) m.plan
      ∙ (ap (λ n. fold (after_input (rules_of o) (setting_of p)) n more) m.notes
      ∙ sym (fold-append (after_input (rules_of o) (setting_of p)) [] m.inputs more))));
}

same_run : (o : Schema) (p : Plan) (old new : Run) → Made o p old → new ≡ old → Made o p new
same_run o p old new m e = record { inputs = m.inputs; object = ap (λ r. r.object) e ∙ m.object; plan = ap (λ r. r.plan) e ∙ m.plan; notes = ap (λ r. r.notes) e ∙ m.notes }

stepped : (o : Schema) (p : Plan) (old new : Run) (e : Event) (result : Result ℕ StepRefusal) → Made o p old → Steps old new e result → Made o p new
stepped o p old new e (Ok count) m s = extended o p old new (inputs_of e) m (ap (λ r. r.object) s.run) (ap (λ r. r.plan) s.run) (ap (λ r. r.notes) s.run)
stepped o p old new e (Err step.NoMemory) m s = extended o p old new (take s.0 (inputs_of e)) m (ap (λ r. r.object) s.1) (ap (λ r. r.plan) s.1) (ap (λ r. r.notes) s.1)
stepped o p old new e (Err step.NoSuchReplica) m s = same_run o p old new m s.1
stepped o p old new e (Err step.NoSuchFrame) m s = same_run o p old new m s.1
stepped o p old new e (Err step.BadCut) m s = same_run o p old new m s.1
stepped o p old new e (Err step.SentFull) m s = same_run o p old new m s.1
stepped o p old new e (Err (step.Issue why)) m s = same_run o p old new m s.1

begun_made : (o : Schema) (p : Plan) → Made o p (begun o p)
unfolding run_of
begun_made o p = record { inputs = []; object = refl; plan = refl; notes = refl }

made : (o : Schema) (p : Plan) (r : Run) → IsReached o p r → Made o p r
made o p _ Begun = begun_made o p
made o p _ (Stepped {old = old} {new = new} e result h s) = stepped o p old new e result (made o p old h) s

pub worlds_faithful : ((o : Schema) (p : Plan) → IsPlanned o p → RunsAreFaithful (rules_of o) (setting_of p)) → ((o : Schema) (p : Plan) → IsPlanned o p → InputsGiveRuns (rules_of o) (setting_of p)) → WorldsAreFaithful
worlds_faithful all runs o p sound r h =
    let m = made o p r h in
    all o p sound r.notes (subst (λ (n : List Note). IsRun (rules_of o) (setting_of p) n) (sym m.notes) ((runs o p sound).0 m.inputs))

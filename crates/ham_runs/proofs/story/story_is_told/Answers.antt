use Rattle.std.proofs.Common.{subst}
use Rattle.ham_laws.specs.Bank.{bank}
use Rattle.ham_runs.specs.Runs.{IsRun}
use Rattle.ham_turns.specs.Settings.{rules_of}
use Rattle.ham_runs.specs.Story.{HasOutcomes, three, setting, story, told}
use Rattle.ham_runs.proofs.Outcomes.{bank_outcomes}
use Rattle.ham_runs.proofs.Telling.{bank_is_planned, story_gives}
use Rattle.ham_runs.proofs.story.story_is_told.Goals as goal

pub returns : goal.returns
returns c =
    let outcomes : HasOutcomes (rules_of bank) = bank_outcomes (c.plans_are_settings.ensures bank three bank_is_planned).setting.outcome in
    let run : IsRun (rules_of bank) setting told =
    subst (λ notes. IsRun (rules_of bank) setting notes) (story_gives (rules_of bank) outcomes) ((c.inputs_give_runs.ensures.computed bank three bank_is_planned).0 story) in
    record {
      planned = bank_is_planned;
      computed = λ o of_o. story_gives (rules_of o) of_o;
      outcomes = outcomes;
      run = run;
      faithful = c.runs_are_faithful.ensures bank three bank_is_planned told run;
    }

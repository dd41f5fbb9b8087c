use Rattle.std.proofs.Common.{subst}
use Rattle.ham_laws.specs.Bank.{bank}
use Rattle.ham_turns.specs.Settings.{rules_of}
use Rattle.ham_runs.specs.Runs.{IsRun}
use Rattle.ham_runs.specs.Leaders.{two_led, leaders, asked_of_both, led}
use Rattle.ham_runs.proofs.Leading.{leaders_are_planned, leaders_give}
use Rattle.ham_runs.proofs.story.leaders_are_told.Goals as goal

pub returns : goal.returns
returns c =
    let run : IsRun (rules_of bank) leaders led =
    subst (λ notes. IsRun (rules_of bank) leaders notes) (leaders_give (rules_of bank) c.story_is_told.ensures.outcomes) ((c.inputs_give_runs.ensures.computed bank two_led leaders_are_planned).0 asked_of_both) in
    record {
      planned = leaders_are_planned;
      computed = λ o of_o. leaders_give (rules_of o) of_o;
      run = run;
      faithful = c.runs_are_faithful.ensures bank two_led leaders_are_planned led run;
    }

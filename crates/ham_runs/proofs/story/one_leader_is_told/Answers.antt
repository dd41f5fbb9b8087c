use Rattle.std.proofs.Common.{subst}
use Rattle.ham_laws.specs.Bank.{bank}
use Rattle.ham_turns.specs.Settings.{rules_of}
use Rattle.ham_runs.specs.Runs.{IsRun}
use Rattle.ham_runs.specs.OneLed.{one_led, one_leader, asked_of_one, followed}
use Rattle.ham_runs.proofs.OneLeading.{is_single, one_led_is_planned, one_gives}
use Rattle.ham_runs.proofs.story.one_leader_is_told.Goals as goal

pub returns : goal.returns
returns c =
    let run : IsRun (rules_of bank) one_leader followed =
    subst (λ notes. IsRun (rules_of bank) one_leader notes) (one_gives (rules_of bank) c.story_is_told.ensures.outcomes) ((c.inputs_give_runs.ensures.computed bank one_led one_led_is_planned).0 asked_of_one) in
    record {
      planned = one_led_is_planned;
      single = is_single;
      computed = λ o of_o. one_gives (rules_of o) of_o;
      run = run;
      faithful = c.runs_are_faithful.ensures bank one_led one_led_is_planned followed run;
    }

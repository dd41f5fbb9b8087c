use Rattle.ham_meaning.specs.declared.outcome.Outcome.TheVariants.{Yes}
use Rattle.ham_turns.specs.Settings.{rules_of}
use Rattle.ham_turns.specs.Settings.{setting_of}
use Rattle.ham_audit.proofs.Faultless.{runs_have_no_fault}
use Rattle.ham_audit.proofs.laws.runs_have_no_fault.Goals as goal

pub returns : goal.returns
returns c o p planned =
    let given = c.plans_are_settings.ensures o p planned in
    runs_have_no_fault (rules_of o) (setting_of p) given (λ s a h. (given.setting.outcome s a Yes).1 h)

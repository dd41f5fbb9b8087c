use Rattle.ham_turns.specs.Settings.{rules_of}
use Rattle.ham_turns.specs.Settings.{setting_of}
use Rattle.ham_audit.proofs.Soundness.{faultless_sound}
use Rattle.ham_audit.proofs.laws.faultless_records_are_sound.Goals as goal

pub returns : goal.returns
returns c o p planned = faultless_sound (rules_of o) (setting_of p) (c.plans_are_settings.ensures o p planned)

use Rattle.ham_tables.proofs.Deriving.{derived_sound}
use Rattle.ham_tables.proofs.laws.derived_plans_are_sound.Goals as goal

pub returns : goal.returns
returns c o p checked is = record { checked = checked; plan = is.plan; methods = is.methods; sound = derived_sound o checked p is }

use Rattle.ham_tables.proofs.Deriving.{derived_same}
use Rattle.ham_tables.proofs.OneText.{one_text}
use Rattle.ham_tables.proofs.laws.derived_plans_say_one.Goals as goal

pub returns : goal.returns
returns c = record { text = one_text; same = derived_same }

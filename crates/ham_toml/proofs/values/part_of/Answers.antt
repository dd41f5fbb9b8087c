use Rattle.std.proofs.Common.{arith}
use Rattle.ham_toml.proofs.Arrays.{below_two}
use Rattle.ham_toml.proofs.values.part_of.Goals as goal

pub returns-in_default : goal.returns-in_default
returns-in_default c = below_two c.args.values.now (omega arith)

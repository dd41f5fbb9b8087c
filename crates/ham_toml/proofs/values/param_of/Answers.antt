use Rattle.std.proofs.Common.{arith}
use Rattle.ham_toml.proofs.Arrays.{not_two}
use Rattle.ham_toml.proofs.values.param_of.Goals as goal

pub returns-in_default : goal.returns-in_default
returns-in_default c = not_two c.args.values.now (λ e. omega arith)

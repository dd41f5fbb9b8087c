use Rattle.ham_toml.proofs.Least.{unknown_is_least}
use Rattle.ham_toml.proofs.keys.unknown_key_is_least.Goals as goal

pub returns : goal.returns
returns c = unknown_is_least

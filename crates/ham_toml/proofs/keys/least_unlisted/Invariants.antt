use Rattle.std.proofs.Common.{◌≡◌}
use Rattle.std.specs.Prelude.{option_map}
use Rattle.toml.specs.View.{members_view}
use Rattle.ham_toml.specs.Toml.{least_unlisted}
use Rattle.ham_toml.proofs.Least.{lesser_of}
use Rattle.ham_toml.proofs.keys.least_unlisted.Given as goal

abbrev pub invariant-loop-key : goal.invariant-loop-key
invariant-loop-key l = least_unlisted l.form (members_view l.table.entries) ≡ lesser_of (option_map (λ s. s.now) l.least) (least_unlisted l.form (members_view l.key-iterator))

use Rattle.std.proofs.Common.{◌≡◌, map, take}
use Rattle.std.specs.Prelude.{vec_len}
use Rattle.ham_node_cli.specs.NodeReading.{base_in}
use Rattle.ham_node_cli.proofs.words.bases_of.Given as goal

-- the bases of the words so far
abbrev pub invariant-loop-word : goal.invariant-loop-word
invariant-loop-word l = (map (λ b. b.port) l.bases.items ≡ map base_in (take l.word-index l.words)) × (vec_len l.bases ≡ l.word-index)

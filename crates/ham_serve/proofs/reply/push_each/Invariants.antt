use Rattle.std.proofs.Common.{◌≡◌, ◌++◌, take}
use Rattle.std.specs.List.{flat_map}
use Rattle.ham_serve.specs.Texts.{count_text}
use Rattle.ham_serve.proofs.reply.push_each.Given as goal

abbrev pub invariant-loop-count : goal.invariant-loop-count
invariant-loop-count l = l.text ≡ l.fn.text ++ flat_map count_text (take l.count-index l.counts)

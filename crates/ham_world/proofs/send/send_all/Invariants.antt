use Rattle.std.proofs.Common.{◌≡◌, length, take}
use Rattle.ham_world.specs.Sending.{Sends}
use Rattle.ham_world.proofs.send.send_all.Given as goal

abbrev pub invariant-loop-out : goal.invariant-loop-out
invariant-loop-out l =
    Sends l.fn.links.items l.links.items l.me (take l.out-index l.outs)
    × (length l.links.items ≡ length l.fn.links.items)

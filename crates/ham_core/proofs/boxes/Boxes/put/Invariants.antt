use Rattle.std.proofs.Common.{◌≡◌, take}
use Rattle.std.specs.Prelude.{fold}
use Rattle.ham_core.specs.Waits.{put}
use Rattle.ham_core.proofs.boxes.Boxes.put.Given as goal

abbrev pub invariant-loop-out : goal.invariant-loop-out
invariant-loop-out l = record { boxes : l.self ≡ fold put l.initial.self (take l.out-index l.rest) }

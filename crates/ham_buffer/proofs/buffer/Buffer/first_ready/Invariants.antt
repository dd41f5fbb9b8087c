use Rattle.std.proofs.Common.{◌≡◌, ℕ, ◌<◌, false}
use Rattle.ham_buffer.specs.Buffers.{is_met_at, next_place}
use Rattle.ham_buffer.proofs.buffer.Buffer.first_ready.Given as goal

abbrev pub invariant-loop-lane : goal.invariant-loop-lane
invariant-loop-lane l = (k : ℕ) → k < l.lane → is_met_at l.self l.counts (next_place l.logged k) ≡ false

use Rattle.std.proofs.Common.{◌≡◌, ◌+◌, ◌*◌, ◌≤◌, map}
use Rattle.std.specs.List.{range_with_len}
use Rattle.ham_site.specs.Outs.{most_frames}
use Rattle.ham_runs.specs.Runs.{on_link}
use Rattle.ham_runs.specs.Next.Input.{Deliver}
use Rattle.ham_world.specs.Keeping.{notes_of}
use Rattle.ham_world.specs.Stepping.{Comes}
use Rattle.ham_world.proofs.step.deliver_all.Given as goal

abbrev pub invariant-loop-i : goal.invariant-loop-i
invariant-loop-i l = record {
  object : l.parts.object ≡ l.fn.parts.object;
  plan : l.parts.plan ≡ l.fn.parts.plan;
  comes : Comes l.fn.parts.object l.fn.parts.plan (l.parts.replicas.items) l.parts.links.items (l.parts.decoders.items) l.fn.parts.notes.items l.parts.notes.items l.parts.sent (map (Deliver l.at l.from) (range_with_len l.first l.i));
  link : on_link (notes_of l.fn.parts.object l.fn.parts.plan l.parts.notes.items) l.from l.at ≡ on_link (notes_of l.fn.parts.object l.fn.parts.plan l.fn.parts.notes.items) l.from l.at;
  few : l.parts.sent ≤ l.fn.parts.sent + most_frames * l.i;
}

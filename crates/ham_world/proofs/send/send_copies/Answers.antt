use Rattle.std.proofs.Common.{◌≡◌, ◌+◌, ◌≤◌, length, arith, ap, ◌∙◌, length-append}
use Rattle.std.specs.Prelude.{IfOk}
use Rattle.ham_world.specs.Sending.{copies, copy_to}
use Rattle.ham_world.proofs.Sent.{sends_twice, copies-more}
use Rattle.ham_world.proofs.send.send_copies.Goals as goal

pub send_copy-requires-clause-few : goal.send_copy-requires-clause-few
send_copy-requires-clause-few c = λ other. c.requires.few (c.loop-before.before + 1) (omega arith) (omega (arith, c.loop-before-test.true)) other

pub overflow_add-count : goal.overflow_add-count
overflow_add-count c = omega (arith, c.loop-before.invariant.2, c.in_ok-count.ensures.one, c.ranges.replicas.fits, c.loop-before-test.true)

pub loop-before-preserved : goal.loop-before-preserved
loop-before-preserved c = (
  (λ f. λ e. sends_twice c.args.links.now.items c.loop-before.links.items c.send_copy.new.links.items c.args.me (copies c.args.by f c.loop-before.before) (copy_to c.args.by f (c.loop-before.before + 1)) (copies c.args.by f (c.loop-before.before + 1)) (copies-more c.args.by c.loop-before.before f) (c.loop-before.invariant.0 f e) (c.in_ok-count.ensures.links f e)),
  (λ f. omega (arith, c.loop-before.invariant.1 f, c.in_ok-count.ensures.count f, ap length (copies-more c.args.by c.loop-before.before f), length-append (copies c.args.by f c.loop-before.before) (copy_to c.args.by f (c.loop-before.before + 1)))),
  omega (arith, c.loop-before.invariant.2, c.in_ok-count.ensures.one),
  c.send_copy.ensures.length ∙ c.loop-before.invariant.3,
)

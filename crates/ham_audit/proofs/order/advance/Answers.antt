use Rattle.std.proofs.Common.{◌≡◌, ◌<◌, ◌≤◌, ◌+◌, ℕ, get_or, length, true, false, sym, subst, ap, ◌∙◌, arith}
use Rattle.ham_site.specs.Sites.{rules_at, setting_at}
use Rattle.ham_records.specs.declared.records.Logged.{Logged}
use Rattle.ham_audit.specs.Order.{taken_after}
use Rattle.ham_audit.specs.Records.{log_of, stands}
use Rattle.ham_audit.specs.Passing.{at_of}
use Rattle.ham_audit.proofs.Looking.{in_at}
use Rattle.ham_plan.specs.Lists.{In}
use Rattle.ham_audit.proofs.Choosing.{left_at_end, left_at_call}
use Rattle.ham_audit.proofs.Gone.{at_own_next as moved}
use Rattle.ham_audit.proofs.Under.{lane_in, fits_in, small_here, at_taken}
use Rattle.ham_audit.proofs.order.advance.Goals as goal

is_in : (records : _) (r i : ℕ) (e : Logged) (log : _) → log ≡ log_of records r → i < length log → e ≡ get_or log i e → In e (log_of records r)
is_in records r i e log is h q = subst (λ l. In e l) is (in_at log i e h q)

pub is_taken-requires-clause-lane : goal.is_taken-requires-clause-lane
is_taken-requires-clause-lane c =
    lane_in c.args.site.now c.args.logs.now c.requires.under c.args.replica c.index-log-i.result
    (is_in c.args.logs.now c.args.replica c.loop-i.i c.index-log-i.result c.log-log.result.now c.loop-i.invariant.log c.loop-i-test.true c.index-log-i.is)

pub steps-steps-requires : goal.steps-steps-requires
steps-steps-requires c =
    fits_in c.args.site.now c.args.logs.now c.requires.under c.args.replica c.index-log-i.result
    (is_in c.args.logs.now c.args.replica c.loop-i.i c.index-log-i.result c.log-log.result.now c.loop-i.invariant.log c.loop-i-test.true c.index-log-i.is)

-- the call at the pointer, by the log as its replica's
inside : (records : _) (at : _) (r i : ℕ) (log : _) → log ≡ log_of records r → i < length log → at_of at r ≡ i → at_of at r < length (log_of records r)
inside records at r i log is h q = subst (λ l. at_of at r < length l) is (subst (λ n. n < length log) (sym q) h)

here : (records : _) (at : _) (r i : ℕ) (e : Logged) (log : _) → log ≡ log_of records r → e ≡ get_or log i e → at_of at r ≡ i → e ≡ get_or (log_of records r) (at_of at r) e
here records at r i e log is h q = h ∙ ap (λ l. get_or l i e) is ∙ ap (λ n. get_or (log_of records r) n e) (sym q)

pub returns-then-not-is_taken-clause-next : goal.returns-then-not-is_taken-clause-next
returns-then-not-is_taken-clause-next c =
    let p = c.loop-i.progress in
    let records = c.args.logs.now in
    let r = c.args.replica in
    let e = c.index-log-i.result in
    left_at_call (taken_after (setting_at c.args.site.now) records p.count) records p.at.items r e (λ z k. c.loop-i.invariant.at.past.behind r z k)
    (inside records p.at.items r c.loop-i.i c.log-log.result.now c.loop-i.invariant.log c.loop-i-test.true c.loop-i.invariant.here)
    (here records p.at.items r c.loop-i.i e c.log-log.result.now c.loop-i.invariant.log c.index-log-i.is c.loop-i.invariant.here)
    (sym c.is_taken.ensures ∙ c.if-not-is_taken.true)

pub pass-requires-clause-small : goal.pass-requires-clause-small
pass-requires-clause-small c =
    let p = c.loop-i.progress in
    let records = c.args.logs.now in
    let r = c.args.replica in
    let e = c.index-log-i.result in
    small_here c.args.site.now records c.requires.under c.me-me.ensures.site p c.loop-i.invariant.at r c.requires.replica e
    (inside records p.at.items r c.loop-i.i c.log-log.result.now c.loop-i.invariant.log c.loop-i-test.true c.loop-i.invariant.here)
    (here records p.at.items r c.loop-i.i e c.log-log.result.now c.loop-i.invariant.log c.index-log-i.is c.loop-i.invariant.here)

pub loop-i-preserved : goal.loop-i-preserved
loop-i-preserved c =
    let p = c.loop-i.progress in
    let records = c.args.logs.now in
    let r = c.args.replica in
    let e = c.index-log-i.result in
    let many = c.loop-i.invariant.at.past.many_at in
    let high = c.requires.replica.1 in
    record {
      at = at_taken c.args.site.now records c.requires.under c.me-me.ensures.site p c.loop-i.invariant.at r c.requires.replica e
          (inside records p.at.items r c.loop-i.i c.log-log.result.now c.loop-i.invariant.log c.loop-i-test.true c.loop-i.invariant.here)
          (here records p.at.items r c.loop-i.i e c.log-log.result.now c.loop-i.invariant.log c.index-log-i.is c.loop-i.invariant.here)
          c.pass.new.progress c.in_ok-pass.ensures (sym c.is_taken.ensures ∙ c.if-not-is_taken.false);
      count = c.in_ok-pass.ensures.count ∙ c.loop-i.invariant.count;
      here = ap (λ l. at_of l r) c.in_ok-pass.ensures.at ∙ moved p.at.items r c.requires.replica.0 (omega arith) ∙ ap (λ n. n + 1) c.loop-i.invariant.here;
      log = c.loop-i.invariant.log;
    }

pub returns-clause-next : goal.returns-clause-next
returns-clause-next c =
    let p = c.loop-i.progress in
    let records = c.args.logs.now in
    let r = c.args.replica in
    let end = c.loop-i-test.false in
    let q = c.loop-i.invariant.here in
    left_at_end (taken_after (setting_at c.args.site.now) records p.count) records p.at.items r (λ z k. c.loop-i.invariant.at.past.behind r z k)
    (subst (λ l. length l ≤ at_of p.at.items r) c.loop-i.invariant.log (omega arith))

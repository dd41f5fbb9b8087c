use Rattle.std.proofs.Common.{sym, ◌∙◌, arith}
use Rattle.std.proofs.lemmas.Bool.{eqb-true}
use Rattle.ham_replay.proofs.Playing.{at_end, turned, next_answered, next_refused, still_going}
use Rattle.ham_record.proofs.Steps.{begins, goes_on, finishes, halts}
use Rattle.ham_record.proofs.running.run_rest.Goals as goal

pub loop-rest-init : goal.loop-rest-init
loop-rest-init c = record { running = begins _ _; going = c.requires.going; few = omega arith }

pub loop-rest-preserved : goal.loop-rest-preserved
loop-rest-preserved c =
    let is = turned _ _ _ _ _ _ _ c.truncate.ensures c.in_default.is c.in_ok-why.ensures in
    let next = next_answered c.loop-rest.number _ _ _ _ _ _ c.first_line.ensures.lines is in
    record {
      running = goes_on _ _ _ _ _ _ _ _ c.loop-rest.invariant.running next is;
      going = still_going _ _ _ _ is c.loop-rest.invariant.going;
      few = omega (arith, c.first_line.ensures.shorter, c.loop-rest.invariant.few);
    }

pub returns-in-Some : goal.returns-in-Some
returns-in-Some c =
    let is = turned _ _ _ _ _ _ _ c.truncate.ensures c.in-Some.is c.in_ok-why.ensures in
    halts _ _ _ _ _ c.loop-rest.invariant.running (next_refused c.loop-rest.number _ _ _ _ _ _ _ c.first_line.ensures.lines is)

pub returns : goal.returns
returns c =
    finishes _ _ _ _ c.loop-rest.invariant.running
    (at_end c.loop-rest.number c.loop-rest.world _ (eqb-true _ 0 (sym c.is_empty.ensures ∙ c.loop-rest-test.false)))

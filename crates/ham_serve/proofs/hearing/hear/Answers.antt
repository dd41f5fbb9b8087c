use Rattle.std.proofs.Common.{refl, ap, length, arith}
use Rattle.ham_serve.proofs.Heard.{heard_none, heard_more, heard_last, left_more}
use Rattle.ham_serve.proofs.hearing.hear.Goals as goal

pub loop-rest-init : goal.loop-rest-init
loop-rest-init c = record { heard = heard_none _ _ _ _ refl c.new-inputs.ensures.items; left = omega (arith, ap length c.new-inputs.ensures.items) }

pub loop-rest-preserved : goal.loop-rest-preserved
loop-rest-preserved c =
    let i = c.loop-rest.invariant in
    record {
      heard = heard_more _ _ _ _ _ _ _ _ i.heard c.in-Some.ensures.some c.in-Some.ensures.line c.in-Ok.ensures c.in_ok-push_back-in-Ok.ensures.items;
      left = left_more _ _ _ _ _ _ c.in_ok-push_back-in-Ok.ensures.items c.in-Some.ensures.shorter i.left;
    }

pub returns-then-long-clause-heard : goal.returns-then-long-clause-heard
returns-then-long-clause-heard c =
    heard_more _ _ _ _ _ _ _ _ c.loop-rest.invariant.heard c.in-Some.ensures.some c.in-Some.ensures.line c.in-Ok.ensures c.in_ok-push_back-in-Ok.ensures.items

pub returns-then-long-clause-shorter : goal.returns-then-long-clause-shorter
returns-then-long-clause-shorter c = λ e. omega (arith, c.loop-rest.invariant.left, c.in-Some.ensures.shorter)

pub returns-in-Err-clause-heard : goal.returns-in-Err-clause-heard
returns-in-Err-clause-heard c = heard_last _ _ _ _ _ _ _ c.loop-rest.invariant.heard c.in-Some.ensures.some c.in-Some.ensures.line c.in-Err.ensures

pub returns-in-Err-clause-shorter : goal.returns-in-Err-clause-shorter
returns-in-Err-clause-shorter c = λ e. omega (arith, c.loop-rest.invariant.left, c.in-Some.ensures.shorter)

use Rattle.std.proofs.Common.{length, ap, arith, subst, IsTrue}
use Rattle.ham_core.proofs.Steps.{settles, drain_length, logs_decided}
use Rattle.ham_core.proofs.Doing.{drain_of, drain_ends}
use Rattle.ham_core.proofs.work.settle_first.Goals as goal

pub grown-requires : goal.grown-requires
grown-requires c =
    let d = drain_of c.args.replica.now c.settle.new.self c.settle.result c.settle.ensures.drain in
    omega (arith, ap length c.log-old.ensures.log, drain_length _ _ _ _ d.0 d.1)

pub returns-clause-drained : goal.returns-clause-drained
returns-clause-drained c =
    let d = drain_of c.args.replica.now c.settle.new.self c.settle.result c.settle.ensures.drain in
    settles _ _ _ _ c.grown.result d.0 d.1 (omega (arith, c.grown.ensures, ap length c.log-old.ensures.log))

pub returns-clause-decided : goal.returns-clause-decided
returns-clause-decided c =
    let d = drain_of c.args.replica.now c.settle.new.self c.settle.result c.settle.ensures.drain in
    logs_decided _ _ _ _ d.0 d.1

pub returns-clause-settled : goal.returns-clause-settled
returns-clause-settled c = λ t. drain_ends c.args.replica.now c.settle.new.self c.settle.result c.settle.ensures.drain (subst IsTrue c.is_ok-settled.ensures.value t)

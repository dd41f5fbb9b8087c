use Rattle.std.proofs.Common.{◌≡◌, Err, Some, subst}
use Rattle.ham_replay.specs.Claims.{settings_of}
use Rattle.ham_replay.specs.Replays.{played}
use Rattle.ham_record.specs.declared.running.Halt.{Halt}
use Rattle.ham_record.specs.Recorded.{IsRecord}
use Rattle.ham_record.proofs.Accepted.{refused_writes}
use Rattle.ham_record.proofs.written.write_logs.Goals as goal

pub returns-in-Err-Refused-clause-writes : goal.returns-in-Err-Refused-clause-writes
returns-in-Err-Refused-clause-writes g c =
    let o = c.args.object.now in
    let settings = settings_of c.args.plans.now.at in
    let p = played o settings c.args.schedule.now in
    let is : p.refused ≡ Some c.in-Err-Refused.refusal = subst (λ (why : Halt). IsRecord o settings p (Err why)) c.in-Err-Refused.field-0-is c.in-Err-Refused.ensures in
    refused_writes o settings p c.in-Err-Refused.refusal _ _ _ is c.write_refusal.ensures.writes

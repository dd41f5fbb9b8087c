use Rattle.std.proofs.Common.{◌++◌, [], refl, subst, arith}
use Rattle.ham_serve.specs.Talks.{Silent, Talk}
use Rattle.ham_links.proofs.Sending.{goes_none}
use Rattle.ham_serve.specs.declared.serve.Went.TheVariants as went
use Rattle.ham_serve.specs.declared.serve.Went.{Went}
use Rattle.ham_serve.proofs.Ends.{held_line}
use Rattle.ham_serve.proofs.serve.take_in.Goals as goal

pub returns-then-is_err-clause-off : goal.returns-then-is_err-clause-off
returns-then-is_err-clause-off g c = ([], [], c.args.held.items ++ c.args.piece.now, went.On, Silent, refl, ([], [], refl, goes_none _), tt)

pub returns-clause-on : goal.returns-clause-on
returns-clause-on g c =
    let s = c.in-Ok.ensures.served in (
      s.0,
      s.1,
      subst (λ (w : Went). Talk (g.D.Door.object c.args.door.now) (g.D.Door.plan c.args.door.now) (g.D.Door.me c.args.door.now) (g.D.Door.history c.args.door.now) s.0 (g.D.Door.history c.answer.new.door) s.1 w) c.in-On.is s.3,
      grind (arith, c.extend_from_slice.ensures.items, c.is_err.ensures.value, c.if-is_err.false, c.deref.ensures.value, s.4, s.5 c.in-On.is),
      s.6,
      held_line _ (c.in-Ok.ensures.no_end c.in-On.is) (omega (arith, c.if-len-ge-MAX_LINE.false, c.len.ensures)),
    )

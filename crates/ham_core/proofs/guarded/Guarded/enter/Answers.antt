use Rattle.std.proofs.Common.{length, refl, false, arith}
use Rattle.ham_core.proofs.Keeps.{placed_in, may_enter_in, kept_after, kept_idle, enters_after, enters_idle, not_stopped, not_full, kind_after, nothing_moves, moves_after}
use Rattle.ham_core.proofs.guarded.Guarded.enter.Goals as goal

pub entered-entry-requires-clause-placed : goal.entered-entry-requires-clause-placed
entered-entry-requires-clause-placed g c = placed_in g.L.Home.object g.L.Home.plan g.L.Home.me c.self.inside.replica c.self.inside.boxes c.self.inside.stopped c.self.inside.journal.items c.self.inside.book.total c.self.invariant.0

pub entered-entry-requires-clause-sound : goal.entered-entry-requires-clause-sound
entered-entry-requires-clause-sound g c = c.self.invariant.1

pub entered-entry-requires-clause-deliver : goal.entered-entry-requires-clause-deliver
entered-entry-requires-clause-deliver g c = may_enter_in g.L.Home.object g.L.Home.plan g.L.Home.me c.self.inside.replica c.args.input c.self.invariant.0.site c.requires

pub invariant_of-self-2 : goal.invariant_of-self-2
invariant_of-self-2 g c =
    kept_after g.L.Home.object g.L.Home.plan g.L.Home.me c.self.inside.replica c.entered-entry.new.replica c.self.inside.boxes c.entered-entry.new.boxes c.self.inside.stopped c.entered-entry.new.stopped
    c.self.inside.journal.items c.reserve.new.self.items c.push_reserved.new.self.items c.self.inside.book.total c.add.new.self.total c.args.seat.now.number c.args.input c.entered-entry.result.0 c.entered-entry.result.1
    c.self.invariant.0 c.if-self.false c.entered-entry.ensures c.reserve.ensures.items c.push_reserved.ensures.items c.add.ensures.total c.requires

pub invariant_of-self-then-is_idle : goal.invariant_of-self-then-is_idle
invariant_of-self-then-is_idle g c =
    kept_idle g.L.Home.object g.L.Home.plan g.L.Home.me c.self.inside.replica c.entered-entry.new.replica c.self.inside.boxes c.entered-entry.new.boxes c.self.inside.stopped c.entered-entry.new.stopped
    c.self.inside.journal.items c.reserve.new.self.items c.self.inside.book.total c.args.seat.now.number c.args.input c.entered-entry.result.0 c.entered-entry.result.1
    c.self.invariant.0 c.if-self.false c.entered-entry.ensures (c.is_idle.ensures.0 c.if-is_idle.true) c.reserve.ensures.items

pub returns-then-is_idle-clause-enters : goal.returns-then-is_idle-clause-enters
returns-then-is_idle-clause-enters g c =
    rw (← c.self.view_is)
    (enters_idle g.L.Home.object g.L.Home.plan g.L.Home.me c.self.inside.replica c.entered-entry.new.replica c.self.inside.boxes c.entered-entry.new.boxes c.self.inside.stopped c.entered-entry.new.stopped
    c.self.inside.journal.items c.reserve.new.self.items c.self.inside.book.total c.args.seat.now.number c.args.input c.entered-entry.result.0 c.entered-entry.result.1
    c.self.invariant.0 c.if-self.false c.entered-entry.ensures (c.is_idle.ensures.0 c.if-is_idle.true) c.reserve.ensures.items)

pub returns-clause-enters : goal.returns-clause-enters
returns-clause-enters g c =
    rw (← c.self.view_is)
    (enters_after g.L.Home.object g.L.Home.plan g.L.Home.me c.self.inside.replica c.entered-entry.new.replica c.self.inside.boxes c.entered-entry.new.boxes c.self.inside.stopped c.entered-entry.new.stopped c.is_idle.result
    c.self.inside.journal.items c.reserve.new.self.items c.push_reserved.new.self.items c.self.inside.book.total c.args.seat.now.number c.args.input c.entered-entry.result.0 c.entered-entry.result.1
    c.self.invariant.0 c.if-self.false c.entered-entry.ensures c.is_idle.ensures c.if-is_idle.false c.reserve.ensures.items c.push_reserved.ensures.items)

pub returns-then-is_idle-clause-kind : goal.returns-then-is_idle-clause-kind
returns-then-is_idle-clause-kind g c = kind_after c.self.inside.replica c.entered-entry.new.replica c.self.inside.boxes c.entered-entry.new.boxes c.entered-entry.new.stopped c.args.seat.now.number c.args.input c.entered-entry.result.0 c.entered-entry.result.1 c.entered-entry.ensures

pub returns-clause-kind : goal.returns-clause-kind
returns-clause-kind g c = kind_after c.self.inside.replica c.entered-entry.new.replica c.self.inside.boxes c.entered-entry.new.boxes c.entered-entry.new.stopped c.args.seat.now.number c.args.input c.entered-entry.result.0 c.entered-entry.result.1 c.entered-entry.ensures

pub returns-then-is_idle-clause-fits : goal.returns-then-is_idle-clause-fits
returns-then-is_idle-clause-fits g c = c.entered-entry.ensures.fits

pub returns-clause-fits : goal.returns-clause-fits
returns-clause-fits g c = c.entered-entry.ensures.fits

pub returns-clause-stopped : goal.returns-clause-stopped
returns-clause-stopped g c = rw (← c.self.view_is)
    (not_stopped c.self.inside.replica c.entered-entry.new.replica c.self.inside.boxes c.entered-entry.new.boxes c.self.inside.stopped c.entered-entry.new.stopped c.args.seat.now.number c.args.input c.entered-entry.result.0 c.entered-entry.result.1 c.entered-entry.ensures c.if-self.false)

pub returns-then-is_idle-clause-stopped : goal.returns-then-is_idle-clause-stopped
returns-then-is_idle-clause-stopped g c = rw (← c.self.view_is)
    (not_stopped c.self.inside.replica c.entered-entry.new.replica c.self.inside.boxes c.entered-entry.new.boxes c.self.inside.stopped c.entered-entry.new.stopped c.args.seat.now.number c.args.input c.entered-entry.result.0 c.entered-entry.result.1 c.entered-entry.ensures c.if-self.false)

pub returns-clause-full : goal.returns-clause-full
returns-clause-full g c = rw (← c.self.view_is)
    (not_full c.self.inside.replica c.entered-entry.new.replica c.self.inside.boxes c.entered-entry.new.boxes c.self.inside.stopped c.entered-entry.new.stopped c.is_full.result c.args.seat.now.number c.args.input c.entered-entry.result.0 c.entered-entry.result.1 c.len.result (length c.self.inside.journal.items)
    c.entered-entry.ensures c.is_full.ensures c.if-is_full.false (omega (arith, c.len.ensures, c.self.inside.journal.ok)))

pub returns-then-is_idle-clause-full : goal.returns-then-is_idle-clause-full
returns-then-is_idle-clause-full g c = rw (← c.self.view_is)
    (not_full c.self.inside.replica c.entered-entry.new.replica c.self.inside.boxes c.entered-entry.new.boxes c.self.inside.stopped c.entered-entry.new.stopped c.is_full.result c.args.seat.now.number c.args.input c.entered-entry.result.0 c.entered-entry.result.1 c.len.result (length c.self.inside.journal.items)
    c.entered-entry.ensures c.is_full.ensures c.if-is_full.false (omega (arith, c.len.ensures, c.self.inside.journal.ok)))

pub returns-then-is_idle-clause-moves : goal.returns-then-is_idle-clause-moves
returns-then-is_idle-clause-moves g c = nothing_moves c.entered-entry.result.1 _ _ (c.is_idle.ensures.0 c.if-is_idle.true).1 refl

pub returns-clause-moves : goal.returns-clause-moves
returns-clause-moves g c = moves_after c.self.inside.replica c.entered-entry.new.replica c.self.inside.boxes c.entered-entry.new.boxes c.entered-entry.new.stopped c.args.seat.now.number c.args.input c.entered-entry.result.0 c.entered-entry.result.1 _ _ c.entered-entry.ensures (omega arith)

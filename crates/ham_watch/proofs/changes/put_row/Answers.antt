use Rattle.std.proofs.Common.{arith, ◌-◌, ◌∙◌, sym, subst}
use Rattle.ham_content.specs.Kept.{content}
use Rattle.ham_content.specs.Seats.{AreSieves, AllHaveSeats}
use Rattle.ham_watch.specs.Watches.{AreWatches, HaveRoom}
use Rattle.ham_watch.proofs.Unmoved.{with_row-again, sound_fewer, one_less}
use Rattle.ham_watch.proofs.changes.put_row.Goals as goal

pub returns-else-not-has_row-clause-content : goal.returns-else-not-has_row-clause-content
returns-else-not-has_row-clause-content c = with_row-again (content c.args.facts.now c.args.amounts.now) c.args.relation c.args.row (sym c.has_row.ensures ∙ c.if-not-has_row.false)

pub returns-else-not-has_row-clause-sound : goal.returns-else-not-has_row-clause-sound
returns-else-not-has_row-clause-sound c = sound_fewer c.args.facts.now c.args.amounts.now c.args.watches.now c.args.sieves.now (c.args.room - 1) c.args.room (omega arith) c.requires.sound

pub returns-then-not-has_row-clause-sound : goal.returns-then-not-has_row-clause-sound
returns-then-not-has_row-clause-sound c =
    let f = c.requires.sound.room_facts in
    let a = c.requires.sound.room_amounts in
    let less = c.put.ensures.room in
    record {
      watched = subst (λ s. AreWatches s c.come_all.new.watches) (sym c.put.ensures.content) c.come_all.ensures.watched;
      sieved = subst (λ s. AreSieves s c.sit_all.new.sieves) (sym c.put.ensures.content) c.sit_all.ensures.sieves;
      room_facts = omega arith;
      room_amounts = omega arith;
      room_watches = c.come_all.ensures.room (c.args.room - 1) (one_less HaveRoom c.args.room c.args.watches.now c.requires.room c.requires.sound.room_watches);
      room_sieves = c.sit_all.ensures.room (c.args.room - 1) (one_less AllHaveSeats c.args.room c.args.sieves.now c.requires.room c.requires.sound.room_sieves);
    }

use Rattle.std.proofs.Common.{arith, rules, ◌≡◌, ◌-◌, sym, subst}
use Rattle.ham_steps.specs.Content.{with_change}
use Rattle.ham_content.specs.Kept.{content}
use Rattle.ham_content.specs.Seats.{AreSieves}
use Rattle.ham_content.proofs.Sieving.{AreSieves-changed}
use Rattle.ham_watch.specs.Watches.{AreWatches, HaveRoom}
use Rattle.ham_watch.proofs.Unmoved.{one_less, sound_fewer}
use Rattle.ham_watch.proofs.changes.add.Goals as goal

pub returns-clause-sound : goal.returns-clause-sound
returns-clause-sound c =
    let f = c.requires.sound.room_facts in
    let a = c.requires.sound.room_amounts in
    let less = c.change.ensures.room in
    let fewer = sound_fewer c.args.facts.now c.args.amounts.now c.args.watches.now c.args.sieves.now (c.args.room - 1) c.args.room (omega arith) c.requires.sound in
    let watched : AreWatches (with_change (content c.args.facts.now c.args.amounts.now) c.args.counter c.args.key c.args.by) c.turn_all.new.watches = search rules in
    let is : content c.args.facts.now c.change.new.amounts ≡ with_change (content c.args.facts.now c.args.amounts.now) c.args.counter c.args.key c.args.by = search rules in
    record {
      watched = subst (λ s. AreWatches s c.turn_all.new.watches) (sym is) watched;
      sieved = subst (λ s. AreSieves s c.args.sieves.now) (sym is) (AreSieves-changed (content c.args.facts.now c.args.amounts.now) c.args.counter c.args.key c.args.by c.args.sieves.now c.requires.sound.sieved);
      room_facts = omega arith;
      room_amounts = omega arith;
      room_watches = c.turn_all.ensures.room (c.args.room - 1) (one_less HaveRoom c.args.room c.args.watches.now c.requires.room c.requires.sound.room_watches);
      room_sieves = fewer.room_sieves;
    }

use Rattle.std.proofs.Common.{arith, sym, subst}
use Rattle.ham_content.specs.Kept.{content}
use Rattle.ham_content.specs.Seats.{AreSieves}
use Rattle.ham_watch.specs.Watches.{AreWatches}
use Rattle.ham_watch.proofs.Moves.{OnOk-map}
use Rattle.ham_watch.proofs.room.prepare.Goals as goal

pub returns-in_err-reserve_tables-clause-kept : goal.returns-in_err-reserve_tables-clause-kept
returns-in_err-reserve_tables-clause-kept c =
    let f = c.requires.sound.room_facts in
    let a = c.requires.sound.room_amounts in
    let g = c.in_err-reserve_tables.ensures.facts in
    let b = c.in_err-reserve_tables.ensures.amounts in
    record {
      watched = subst (λ s. AreWatches s c.args.watches.now) (sym c.in_err-reserve_tables.ensures.content) c.requires.sound.watched;
      sieved = subst (λ s. AreSieves s c.args.sieves.now) (sym c.in_err-reserve_tables.ensures.content) c.requires.sound.sieved;
      room_facts = omega arith;
      room_amounts = omega arith;
      room_watches = c.requires.sound.room_watches;
      room_sieves = c.requires.sound.room_sieves;
    }

pub returns-in_err-prepare_all-clause-kept : goal.returns-in_err-prepare_all-clause-kept
returns-in_err-prepare_all-clause-kept c =
    let f = c.requires.sound.room_facts in
    let a = c.requires.sound.room_amounts in
    let g = c.in_ok-reserve_tables.ensures.facts in
    let b = c.in_ok-reserve_tables.ensures.amounts in
    record {
      watched = c.prepare_all.ensures.watched (content c.reserve_tables.new.facts c.reserve_tables.new.amounts) (subst (λ s. AreWatches s c.args.watches.now) (sym c.in_ok-reserve_tables.ensures.content) c.requires.sound.watched);
      sieved = subst (λ s. AreSieves s c.args.sieves.now) (sym c.in_ok-reserve_tables.ensures.content) c.requires.sound.sieved;
      room_facts = omega arith;
      room_amounts = omega arith;
      room_watches = c.prepare_all.ensures.kept c.args.room c.requires.sound.room_watches;
      room_sieves = c.requires.sound.room_sieves;
    }

pub returns-clause-kept : goal.returns-clause-kept
returns-clause-kept c =
    let f = c.requires.sound.room_facts in
    let a = c.requires.sound.room_amounts in
    let g = c.in_ok-reserve_tables.ensures.facts in
    let b = c.in_ok-reserve_tables.ensures.amounts in
    record {
      watched = c.prepare_all.ensures.watched (content c.reserve_tables.new.facts c.reserve_tables.new.amounts) (subst (λ s. AreWatches s c.args.watches.now) (sym c.in_ok-reserve_tables.ensures.content) c.requires.sound.watched);
      sieved = c.prepare_sieves.ensures.sieves (content c.reserve_tables.new.facts c.reserve_tables.new.amounts) (subst (λ s. AreSieves s c.args.sieves.now) (sym c.in_ok-reserve_tables.ensures.content) c.requires.sound.sieved);
      room_facts = omega arith;
      room_amounts = omega arith;
      room_watches = c.prepare_all.ensures.kept c.args.room c.requires.sound.room_watches;
      room_sieves = c.prepare_sieves.ensures.kept c.args.room c.requires.sound.room_sieves;
    }

pub returns-clause-room : goal.returns-clause-room
returns-clause-room c =
    let f = c.in_ok-reserve_tables.ensures.room in
    let facts_room = f.0 in
    let amounts_room = f.1 in
    OnOk-map c.prepare_sieves.result (λ room. record {
      watched = c.prepare_all.ensures.watched (content c.reserve_tables.new.facts c.reserve_tables.new.amounts) (subst (λ s. AreWatches s c.args.watches.now) (sym c.in_ok-reserve_tables.ensures.content) c.requires.sound.watched);
      sieved = c.prepare_sieves.ensures.sieves (content c.reserve_tables.new.facts c.reserve_tables.new.amounts) (subst (λ s. AreSieves s c.args.sieves.now) (sym c.in_ok-reserve_tables.ensures.content) c.requires.sound.sieved);
      room_facts = omega arith;
      room_amounts = omega arith;
      room_watches = c.in_ok-prepare_all.ensures.room;
      room_sieves = room;
    }) c.prepare_sieves.ensures.room

use Rattle.std.proofs.Common.{arith, ◌≡◌, ◌+◌, ◌∙◌, sym, ap, subst, true}
use Rattle.std.specs.Prelude.{if◌then◌else◌}
use Rattle.std.specs.HashSet as bag
use Rattle.ham_content.proofs.Contents.{has-content}
use Rattle.ham_content.specs.Kept.{content, fact, same_fact}
use Rattle.ham_content.specs.Seats.{AreSieves}
use Rattle.ham_watch.specs.Watches.{AreWatches}
use Rattle.ham_watch.proofs.Unmoved.{without-absent}
use Rattle.ham_watch.proofs.changes.take_row.Goals as goal

pub returns-else-has_row-clause-content : goal.returns-else-has_row-clause-content
returns-else-has_row-clause-content c = without-absent (content c.args.facts.now c.args.amounts.now) c.args.relation c.args.row (sym c.has_row.ensures ∙ c.if-has_row.false)

pub returns-then-has_row-clause-fewer : goal.returns-then-has_row-clause-fewer
returns-then-has_row-clause-fewer c = λ _.
    let there : bag.contains same_fact c.args.facts.now (fact c.args.relation c.args.row) ≡ true = sym (has-content c.args.facts.now c.args.amounts.now c.args.relation c.args.row) ∙ sym c.has_row.ensures ∙ c.if-has_row.true in
    let less : bag.hash_set_len c.take.new.facts + 1 ≡ bag.hash_set_len c.args.facts.now = ap (λ b. bag.hash_set_len c.take.new.facts + (if b then 1 else 0)) (sym there) ∙ c.take.ensures.len in
    omega arith

pub returns-then-has_row-clause-sound : goal.returns-then-has_row-clause-sound
returns-then-has_row-clause-sound c =
    let f = c.requires.sound.room_facts in
    let a = c.requires.sound.room_amounts in
    let more = c.take.ensures.room in
    record {
      watched = subst (λ s. AreWatches s c.leave_all.new.watches) (sym c.take.ensures.content) c.leave_all.ensures.watched;
      sieved = subst (λ s. AreSieves s c.stand_all.new.sieves) (sym c.take.ensures.content) c.stand_all.ensures.sieves;
      room_facts = omega arith;
      room_amounts = omega arith;
      room_watches = c.leave_all.ensures.room c.args.room c.requires.sound.room_watches;
      room_sieves = c.stand_all.ensures.room c.args.room c.requires.sound.room_sieves;
    }

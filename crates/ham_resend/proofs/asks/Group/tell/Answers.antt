use Rattle.std.proofs.Common.{◌<◌, ◌-◌, length, arith}
use Rattle.ham_resend.proofs.Telling.{told_written, told_group}
use Rattle.ham_resend.proofs.asks.Group.tell.Goals as goal

pub invariant_of-self : goal.invariant_of-self
invariant_of-self c =
    let made = rw (← c.self.view_is) at c.requires.made in
    let there : c.args.number - 1 < length c.self.inside.made.items = let some = c.requires.some in omega arith in
    let first = rw c.deref.ensures.value at c.first_open-self-inside.ensures in
    told_group _ _ _ _ (c.args.number - 1) c.args.ruling c.self.invariant (told_written _ _ _ _ there c.index-ask.ensures) first

pub returns : goal.returns
returns c =
    let made = rw (← c.self.view_is) at c.requires.made in
    let there : c.args.number - 1 < length c.self.inside.made.items = let some = c.requires.some in omega arith in
    rw (← c.self.view_is) (told_written _ _ _ _ there c.index-ask.ensures)

use Rattle.std.proofs.Common.{◌≡◌, ◌++◌, ◌≤◌, ◌∷◌, [], length, ◌∙◌, arith, length-append}
use Rattle.std.proofs.lemmas.Grind.{common_steps}
use Rattle.ham_frame.specs.Spelling.{spelling}
use Rattle.ham_wire.proofs.Spans.{AscendTo-push, parts-push}
use Rattle.ham_wire.proofs.link.Link.put.Goals as goal

bytes_are : (c : goal.After-push_reserved) → c.put_frame.new.out ≡ c.self.inside.bytes ++ spelling c.args.frame.now
bytes_are c = grind (arith, common_steps)

ends_are : (c : goal.After-push_reserved) → c.push_reserved.new.self.items ≡ c.self.inside.ends.items ++ length (c.self.inside.bytes ++ spelling c.args.frame.now) ∷ []
ends_are c =
    let b : c.items-end.result.now ≡ c.self.inside.bytes ++ spelling c.args.frame.now = c.items-end.ensures ∙ bytes_are c in
    rw (← b) (let e : c.reserve.new.self.items ≡ c.self.inside.ends.items = grind (arith, common_steps) in rw (← e) c.push_reserved.ensures.items)

pub invariant_of-self-2 : goal.invariant_of-self-2
invariant_of-self-2 c =
    let le : length c.self.inside.bytes ≤ length (c.self.inside.bytes ++ spelling c.args.frame.now) = omega (arith, length-append c.self.inside.bytes (spelling c.args.frame.now)) in
    rw (bytes_are c, ends_are c) (AscendTo-push 0 _ _ _ c.self.invariant le)

pub returns-clause-ok : goal.returns-clause-ok
returns-clause-ok c =
    rw (← c.self.view_is, bytes_are c, ends_are c)
    (parts-push 0 c.self.inside.ends.items c.self.inside.bytes (spelling c.args.frame.now) _ c.self.invariant (length-append c.self.inside.bytes (spelling c.args.frame.now)))

use Rattle.std.proofs.Common.{◌≡◌, ◌+◌, ◌≤◌, List, [], ◌∷◌, ◌++◌, take, sym, ap, ◌∙◌, subst, refl}
use Rattle.std.proofs.lemmas.List.{take_more, take_all}
use Rattle.ham_turns.specs.declared.turn.Out.{Out}
use Rattle.ham_world.specs.Sending.{Sends, IsOnLink}
use Rattle.ham_world.proofs.Each.{each-get_or}
use Rattle.ham_world.proofs.Sent.{sends_twice, sends_none}
use Rattle.ham_world.proofs.send.send_all.Goals as goal

pub loop-out-init : goal.loop-out-init
loop-out-init c = (sends_none c.args.links.now.items c.args.me, refl)

pub send_one-requires-clause-on : goal.send_one-requires-clause-on
send_one-requires-clause-on c = subst IsOnLink (sym c.out-item.is) (each-get_or IsOnLink c.args.outs.now c.loop-out.out-index c.out-item.result c.loop-out-test.true c.requires.on)

pub loop-out-preserved : goal.loop-out-preserved
loop-out-preserved c =
    let o : take (c.loop-out.out-index + 1) c.args.outs.now ≡ take c.loop-out.out-index c.args.outs.now ++ c.out-item.result ∷ [] =
    take_more c.args.outs.now c.loop-out.out-index c.out-item.result c.loop-out-test.true ∙ ap (λ x. take c.loop-out.out-index c.args.outs.now ++ x ∷ []) (sym c.out-item.is) in (
      sends_twice c.args.links.now.items c.loop-out.links.items c.send_one.new.links.items c.args.me (take c.loop-out.out-index c.args.outs.now) (c.out-item.result ∷ []) (take (c.loop-out.out-index + 1) c.args.outs.now) o c.loop-out.invariant.0 c.in_ok-send_one.ensures.links,
      c.send_one.ensures.length ∙ c.loop-out.invariant.1,
    )

pub returns-clause-links : goal.returns-clause-links
returns-clause-links c =
    let all : take c.loop-out.out-index c.args.outs.now ≡ c.args.outs.now = take_all c.loop-out.out-index c.args.outs.now c.loop-out-test.false in
    let F : List Out → Type 0 = λ outs. Sends c.args.links.now.items c.loop-out.links.items c.args.me outs in
    subst F all c.loop-out.invariant.0

use Rattle.std.proofs.Common.{◌≡◌, ◌<◌, ◌++◌, sym, subst, ◌∙◌}
use Rattle.std.specs.Prelude.{OnOk}
use Rattle.ham_lane.specs.Lanes.{OutLane}
use Rattle.ham_site.specs.Sites.{setting_at}
use Rattle.ham_turns.specs.Sends.{due_calls}
use Rattle.ham_replica.specs.Values.{words}
use Rattle.ham_replica.specs.Shown.{lists_of}
use Rattle.ham_replica.proofs.Items.{length_map}
use Rattle.ham_replica.proofs.Ticking.{if_is, lane_due, peer_there}
use Rattle.ham_replica.proofs.tick.push_lane.Goals as goal

pub due_calls-requires : goal.due_calls-requires
due_calls-requires c =
    let long = sym c.requires.kept.shaped.decided ∙ length_map (λ (z : OutLane). z.calls) c.args.held.now.outs.items in
    peer_there c.args.held.now.outs.items c.args.lane c.args.peer _ c.index.result.now (subst (λ n. c.args.lane < n) long c.requires.lane) c.index.ensures c.requires.kept.shaped.peers c.requires.peer.1

pub returns : goal.returns
returns c =
    let long = sym c.requires.kept.shaped.decided ∙ length_map (λ (z : OutLane). z.calls) c.args.held.now.outs.items in
    subst (λ l. OnOk c.push_all.result (c.push_all.new.out.items ≡ c.args.out.now.items ++ l))
    (if_is (setting_at c.args.site.now) c.args.site.now.me c.args.lane c.args.peer (due_calls (words (lists_of c.args.held.now)) c.args.peer) c.in_ok-due_calls.field-0.items (sym c.decider_of.ensures ∙ c.if-decider_of-me.false ∙ c.me.ensures.me)
    (c.in_ok-due_calls.ensures ∙ lane_due c.args.held.now.outs.items c.args.lane c.args.peer c.index.result.now (subst (λ n. c.args.lane < n) long c.requires.lane) c.index.ensures))
    c.push_all.ensures

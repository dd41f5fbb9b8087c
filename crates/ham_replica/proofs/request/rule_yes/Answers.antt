use Rattle.std.proofs.Common.{◌++◌, [], ◌∷◌, ap, ◌∙◌}
use Rattle.ham_turns.specs.Words.{place_of}
use Rattle.ham_frame.specs.declared.frame.Ruling.TheVariants as rulings
use Rattle.ham_replica.specs.Shown.{lists_of}
use Rattle.ham_replica.specs.Steps.{decide, ruled_more}
use Rattle.ham_replica.proofs.Requesting.{yes_kept, yes_told}
use Rattle.ham_replica.proofs.request.rule_yes.Goals as goal

pub drain-settled-requires : goal.drain-settled-requires
drain-settled-requires c =
    let left = c.put_ruling.ensures ∙ ap (λ l. ruled_more l c.args.request.now.from c.args.request.now.group (record { act = c.args.request.now.act; ruling = rulings.Applied c.in_ok-call.call.number }))
    (c.in_ok-log_decided.ensures.decides.0 ∙ ap (λ l. decide c.args.site.now l c.in_ok-call.call) c.in_ok-make_out_room.ensures.lists) in
    yes_kept c.args.site.now (lists_of c.args.held.now) c.args.request.now c.requires.may c.requires.permissible c.requires.short
    c.in_ok-call.call (lists_of c.put_ruling.new.held) c.in_ok-call.ensures left

pub returns : goal.returns
returns c =
    let left = c.put_ruling.ensures ∙ ap (λ l. ruled_more l c.args.request.now.from c.args.request.now.group (record { act = c.args.request.now.act; ruling = rulings.Applied c.in_ok-call.call.number }))
    (c.in_ok-log_decided.ensures.decides.0 ∙ ap (λ l. decide c.args.site.now l c.in_ok-call.call) c.in_ok-make_out_room.ensures.lists) in
    let first = c.in_ok-log_decided.ensures.decides.1 ∙ ap (λ l. l ++ place_of c.in_ok-call.call ∷ []) (c.in_ok-make_out_room.ensures.places ∙ c.new-places.ensures.items) in
    λ which. rw (c.from.ensures, c.of_call.ensures, c.me.ensures.me, c.in_ok-sent.ensures)
    (yes_told c.args.site.now (lists_of c.args.held.now) c.args.request.now c.requires.may c.requires.permissible c.requires.short
    c.in_ok-call.call (lists_of c.put_ruling.new.held) (lists_of c.drain-settled.new.held) _ _ _ _ _ which c.in_ok-call.ensures left first c.replicas.ensures c.verdict_frame-rest.ensures c.drain-settled.ensures)

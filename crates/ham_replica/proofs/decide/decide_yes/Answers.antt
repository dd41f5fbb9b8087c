use Rattle.std.proofs.Common.{◌++◌, [], ◌∷◌, refl, ap, ◌∙◌}
use Rattle.ham_site.specs.Sites.{setting_at}
use Rattle.ham_turns.specs.Words.{place_of}
use Rattle.ham_replica.specs.Shown.{lists_of}
use Rattle.ham_replica.specs.Steps.{decide}
use Rattle.ham_replica.proofs.Issuing.{kept_as_made, turn_as_made, sent_alone}
use Rattle.ham_replica.proofs.decide.decide_yes.Goals as goal

pub drain-settled-requires : goal.drain-settled-requires
drain-settled-requires c =
    let decided = c.in_ok-log_decided.ensures.decides.0 ∙ ap (λ l. decide c.args.site.now l c.in_ok-call.call) c.in_ok-make_out_room.ensures.lists in
    kept_as_made c.args.site.now (lists_of c.args.held.now) c.requires.kept c.args.act.now c.args.lane c.requires.may
    c.in_ok-call.call (lists_of c.log_decided.new.held) c.in_ok-call.ensures decided

pub returns : goal.returns
returns c =
    let decided = c.in_ok-log_decided.ensures.decides.0 ∙ ap (λ l. decide c.args.site.now l c.in_ok-call.call) c.in_ok-make_out_room.ensures.lists in
    let first = c.in_ok-log_decided.ensures.decides.1 ∙ ap (λ l. l ++ place_of c.in_ok-call.call ∷ []) (c.in_ok-make_out_room.ensures.places ∙ c.new-places.ensures.items) in
    let sent = c.of_call.ensures ∙ sent_alone _ _ _ _ _ _ _ c.me.ensures.me c.replicas.ensures c.in_ok-sent.ensures c.new.ensures.items in
    rw (c.place-place.ensures, c.from.ensures, sent)
    (turn_as_made c.args.site.now (lists_of c.args.held.now) c.requires.kept c.args.act.now c.args.lane c.requires.may
    c.in_ok-call.call (lists_of c.log_decided.new.held) (lists_of c.drain-settled.new.held) _ _ _ (setting_at c.args.site.now).replicas c.requires.permissible c.in_ok-call.ensures decided first refl c.drain-settled.ensures)

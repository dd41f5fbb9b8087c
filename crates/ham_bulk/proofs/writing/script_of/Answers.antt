use Rattle.std.proofs.Common.{◌≡◌, ◌++◌, List, sym, subst, ◌∙◌}
use Rattle.std.specs.List.{flat_map}
use Rattle.ham_turns.specs.Settings.{setting_of}
use Rattle.ham_turns.specs.declared.event.Event.{Event}
use Rattle.ham_grammar.specs.declared.line.Line.TheVariants.{Replicas}
use Rattle.ham_bulk.specs.ScriptTexts.{line_of, event_line}
use Rattle.ham_bulk.proofs.Texts.{if_ok_both, script_made, setting_replicas}
use Rattle.ham_bulk.proofs.writing.script_of.Goals as goal

pub returns-clause-made : goal.returns-clause-made
returns-clause-made c =
    let o = c.args.object.now in
    let begins = subst (λ (es : List Event). c.in_ok-text.text ≡ line_of o (Replicas c.replicas-replicas.result) ++ flat_map (event_line o) es) c.items.ensures c.in_ok-text.ensures.text in
    if_ok_both c.ended.result
    (λ m. script_made o (setting_of c.args.plan.now) c.args.seed c.args.rounds c.in_ok-draft.draft _ _ m c.in_ok-draft.ensures (c.replicas-replicas.ensures.replicas ∙ sym (setting_replicas c.args.plan.now)) begins)
    c.ended.ensures.text c.ended.ensures.refused

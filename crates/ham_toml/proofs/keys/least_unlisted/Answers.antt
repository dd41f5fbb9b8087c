use Rattle.std.proofs.Common.{rules, ◌≡◌, Some, ap, sym, ◌∙◌}
use Rattle.std.specs.Prelude.{option_map}
use Rattle.toml.specs.View.{members_view}
use Rattle.ham_toml.specs.Toml.{lesser, least_unlisted}
use Rattle.ham_toml.proofs.Least.{lesser_of, taken}
use Rattle.ham_toml.proofs.keys.least_unlisted.Goals as goal

pub loop-key-preserved-then-not-lists : goal.loop-key-preserved-then-not-lists
loop-key-preserved-then-not-lists c =
    let least = option_map (λ s. s.now) c.loop-key.least in
    let after = least_unlisted c.args.form (members_view c.next.new.self) in
    let key = c.as_str-then-not-lists.result.now in
    let before : least_unlisted c.args.form (members_view c.args.table.now.entries) ≡ lesser_of least (Some (lesser key after)) = search rules in
    before ∙ taken least after key ∙ ap (λ r. lesser_of (Some r) after) (sym c.lesser.ensures)

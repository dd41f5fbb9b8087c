use Rattle.std.proofs.Common.{◌≡◌, ◌∙◌, Bor, Option, Some, None, is_some, refl}
use Rattle.std.specs.Option.{option_copied}
use Rattle.ham_syntax.specs.declared.act.Call.{Call}
use Rattle.ham_world.proofs.Compared.{found_any}
use Rattle.ham_world.proofs.compare.has.Goals as goal

copied : (o : Option (Bor Call)) → is_some o ≡ is_some (option_copied o)
copied None = refl
copied (Some b) = refl

pub returns : goal.returns
returns c = c.is_some.ensures ∙ copied c.call_at.result ∙ found_any c.args.place.now c.args.replica.now.lists.log _ c.call_at.ensures.logged.0 c.call_at.ensures.logged.1

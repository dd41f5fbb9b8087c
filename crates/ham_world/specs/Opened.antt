-- A replica of a world before its first event.
use Rattle.std.specs.Prelude.{ℕ}
use Rattle.ham_syntax.specs.Objects.{Schema}
use Rattle.ham_state.specs.Content.{opening}
use Rattle.ham_plan.specs.Plans.{Plan}
use Rattle.ham_site.specs.Sites.{Site}
use Rattle.ham_replica.specs.Values.{Replica}
use Rattle.ham_replica.specs.Opening.{opening_lists}

abbrev pub site_of : Schema → Plan → ℕ → Site
site_of o p r = record { object = o; plan = p; me = r }

abbrev pub opened : Schema → Plan → ℕ → Replica
opened o p r = record { site = site_of o p r; lists = opening_lists (site_of o p r) opening }

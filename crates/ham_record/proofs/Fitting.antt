-- The acts of a run's calls fit the object, so that a text spells them.
use Rattle.std.proofs.Common.{◌≡◌, ℕ, ◌<◌, List, length, Option, Some, None, refl}
use Rattle.std.specs.Prelude.{IsTrue, slice_get}
use Rattle.std.proofs.lemmas.Option.{slice_get_within}
use Rattle.ham_syntax.specs.declared.act.Act.{Act}
use Rattle.ham_syntax.specs.declared.act.Place.{Place}
use Rattle.ham_syntax.specs.declared.object.Method.{Method}
use Rattle.ham_syntax.specs.Objects.{Schema, method_fits, args_fit}
use Rattle.ham_plan.specs.Plans.{Plan}
use Rattle.ham_plan.specs.Lists.{In}
use Rattle.ham_turns.specs.Settings.{rules_of, setting_of}
use Rattle.ham_runs.specs.Facts.{IsGiven}
use Rattle.ham_runs.specs.Runs.{Note, IsRun, execution, log_of}
use Rattle.ham_audit.proofs.Recorded.{own, decided_in}

some_method : (methods : List Method) (m : ℕ) (args : List ℕ) (found : Option Method) → slice_get methods m ≡ found → IsTrue (method_fits found args) → m < length methods
some_method methods m args None e h = absurd cc
some_method methods m args (Some found) e h = slice_get_within methods m found e

pub method_there : (o : Schema) (a : Act) → IsTrue (args_fit o a) → a.method < length o.methods
method_there o a h = some_method o.methods a.method a.args (slice_get o.methods a.method) refl h

pub logged_fits : (o : Schema) (p : Plan) (notes : List Note) (r : ℕ) (c : Place) → IsGiven (rules_of o) (setting_of p) → IsRun (rules_of o) (setting_of p) notes → In c (log_of notes r) → IsTrue (args_fit o ((execution notes).act c))
logged_fits o p notes r c given run k = (own (rules_of o) (setting_of p) given notes run c (decided_in (rules_of o) (setting_of p) given notes run r c k)).fits

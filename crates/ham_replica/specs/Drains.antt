-- A drain, as far as it has come.
use Rattle.std.specs.Prelude.{◌≡◌, Bool, ◌↔◌, IsTrue, List, ◌++◌, map}
use Rattle.ham_syntax.specs.declared.act.Place.{Place}
use Rattle.ham_syntax.specs.declared.act.Call.{Call}
use Rattle.ham_turns.specs.Words.{place_of}
use Rattle.ham_turns.specs.Ready.{LogsReady, IsSettled}
use Rattle.ham_site.specs.Sites.{Site, rules_at, setting_at}
use Rattle.ham_replica.specs.Values.{Lists, words}
use Rattle.ham_replica.specs.Kept.{IsKept}

-- calls of the drain were logged from the lists old on, and their places told
pub record GoesOn (site : Site) (old new : Lists) (before after : List Place) : Type 0 where
  pub calls : List Call
  pub logs : LogsReady (rules_at site) (setting_at site) (words old) calls (words new)
  pub told : after ≡ before ++ map place_of calls

pub record Drains (site : Site) (old new : Lists) (before after : List Place) (done : Bool) : Type 0 where
  pub kept : IsKept site new
  pub goes : GoesOn site old new before after
  pub settled : IsTrue done ↔ IsSettled (setting_at site) (words new)

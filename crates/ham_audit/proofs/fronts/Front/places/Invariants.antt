use Rattle.std.proofs.Common.{◌≡◌, ◌∷◌, take, map, get_or}
use Rattle.std.specs.Prelude.{slice_index}
use Rattle.ham_site.specs.Sites.{setting_at}
use Rattle.ham_audit.specs.Lateness.{no_place}
use Rattle.ham_audit.proofs.fronts.Front.places.Given as goal

abbrev pub invariant-loop-slot : goal.invariant-loop-slot
invariant-loop-slot l = record {
  needs : l.needs ≡ (setting_at l.site).needs l.logged.act.method;
  places : l.places ≡ record { lane = l.logged.place.lane; number = slice_index l.self.highest.items l.logged.place.lane }
      ∷ map (λ s. get_or l.self.farthest.items s no_place) (take l.slot-index l.needs);
}

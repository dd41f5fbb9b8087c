use Rattle.std.proofs.Common.{◌≡◌, ◌++◌, take}
use Rattle.std.specs.List.{flat_map}
use Rattle.ham_lines.specs.Texts as texts
use Rattle.ham_lines.proofs.writers.push_places.Given as goal

abbrev pub invariant-loop-place : goal.invariant-loop-place
invariant-loop-place l = l.text ≡ l.fn.text ++ flat_map (texts.place_text l.mark) (take l.place-index l.places)

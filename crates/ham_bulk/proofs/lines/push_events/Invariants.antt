use Rattle.std.proofs.Common.{◌≡◌, ◌++◌, length}
use Rattle.std.specs.List.{flat_map, AllByRecursion}
use Rattle.ham_grammar.specs.Lines.{IsPrintableEvent}
use Rattle.ham_bulk.specs.ScriptTexts.{event_line}
use Rattle.ham_bulk.specs.Scripted.{AreSpelled}
use Rattle.ham_bulk.proofs.lines.push_events.Given as goal

abbrev pub invariant-loop-rest : goal.invariant-loop-rest
invariant-loop-rest l = record {
  text : l.text ++ flat_map (event_line l.object) l.rest ≡ l.fn.text ++ flat_map (event_line l.object) l.events;
  printable : AllByRecursion (IsPrintableEvent l.object) l.rest;
  spelled : AreSpelled l.object l.rest → AreSpelled l.object l.events;
}

abbrev pub decreases-loop-rest : goal.decreases-loop-rest
decreases-loop-rest l = length l.rest

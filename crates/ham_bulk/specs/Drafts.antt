-- A draft of a script, and the world that takes its events.
use Rattle.std.specs.Prelude.{◌≡◌, ℕ, List}
use Rattle.std.specs.List.{AllByRecursion}
use Rattle.ham_syntax.specs.Objects.{Schema}
use Rattle.ham_grammar.specs.Lines.{IsPrintableEvent}
use Rattle.ham_world.specs.Worlds.{Run}
use Rattle.ham_bulk.specs.declared.draft.Draft.{Draft}
use Rattle.ham_bulk.specs.Scripts.{Script, Swept}

-- the script so far
abbrev pub seen : Run → Draft → Script
seen w d = record { number = d.number; events = d.events; notes = w.notes; refused = d.refused }

abbrev pub swept_so_far : Run → Draft → List ℕ → Swept
swept_so_far w d done = record { script = seen w d; done = done }

-- what a draft keeps of a script
abbrev pub kept : Script → Draft
kept s = record { number = s.number; events = s.events; refused = s.refused }

-- a world and a draft are now as the script says, and else the world is as before
pub record IsAfter (old new : Run) (draft : Draft) (s : Script) : Type 0 where
  pub ran : new ≡ record old { notes = s.notes }
  pub drafted : draft ≡ kept s

-- the same, with the links that were swept
pub record IsSweptAfter (old new : Run) (draft : Draft) (done : List ℕ) (s : Swept) : Type 0 where
  pub script : IsAfter old new draft s.script
  pub swept_to : done ≡ s.done

-- the draft is the script's, and its lines can be printed
pub record IsDraftOf (o : Schema) (s : Script) (draft : Draft) : Type 0 where
  pub drafted : draft ≡ kept s
  pub printable : AllByRecursion (IsPrintableEvent o) draft.events

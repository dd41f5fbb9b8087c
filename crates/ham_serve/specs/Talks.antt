-- What a client is told, line by line.
--     Tells_to     a line's reading, what it enters and what is said of it
--     Talk         lines, each told in its turn, and none after a `quit` or a stop
--     Served       the whole lines of what was held
use Rattle.std.specs.Prelude.{◌≡◌, ℕ, List, [], ◌∷◌, ◌++◌, Option, Some, None, Result, Ok, Err}
use Rattle.ham_syntax.specs.Objects.{Schema}
use Rattle.ham_plan.specs.Plans.{Plan}
use Rattle.ham_lines.specs.declared.client.ClientLine.{ClientLine}
use Rattle.ham_lines.specs.declared.fault.LineFault.{LineFault}
use Rattle.ham_lines.specs.Clients.{IsClientReading}
use Rattle.ham_journal.specs.declared.entry.Entry.{Entry}
use Rattle.ham_journal.specs.declared.input.Input.{Input}
use Rattle.ham_journal.specs.declared.input.Reply.{Reply}
use Rattle.ham_core.specs.Doors.{EntersBy}
use Rattle.ham_serve.specs.declared.serve.Said.{Said}
use Rattle.ham_serve.specs.declared.serve.Said.TheVariants as said
use Rattle.ham_serve.specs.declared.serve.Went.{Went}
use Rattle.ham_serve.specs.declared.serve.Went.TheVariants as went
use Rattle.ham_serve.specs.Lines.{IsLine, joined}
use Rattle.ham_serve.specs.Texts.{input_by, said_text, way_of}

-- what is said of an input, the journal afterwards, and how the talk goes
abbrev pub TellsInput : Schema → Plan → ℕ → Option (List Entry) → Option Input → Option (List Entry) → Said → Went → Type 0
TellsInput o p m h None h' s w = (h' ≡ h) × (s ≡ said.Bye) × (w ≡ went.Quit)
TellsInput o p m h (Some i) h' s w = (r : Reply) × EntersBy o p m h h' i r × (s ≡ said.Reply r) × (w ≡ way_of r)

abbrev pub TellsRead : Schema → Plan → ℕ → Option (List Entry) → Result ClientLine LineFault → Option (List Entry) → Said → Went → Type 0
TellsRead o p m h (Err fault) h' s w = (h' ≡ h) × (s ≡ said.Fault fault) × (w ≡ went.On)
TellsRead o p m h (Ok line) h' s w = TellsInput o p m h (input_by line) h' s w

-- the same of a line, with the text
pub record Tells_to (o : Schema) (p : Plan) (m : ℕ) (h : Option (List Entry)) (line : List ℕ) (h' : Option (List Entry)) (text : List ℕ) (w : Went) : Type 0 where
  pub reading : Result ClientLine LineFault
  pub read : IsClientReading o line reading
  pub says : Said
  pub tells : TellsRead o p m h reading h' says w
  pub text_is : text ≡ said_text o says

pub data Talk (o : Schema) (p : Plan) (m : ℕ) (h : Option (List Entry)) : List (List ℕ) → Option (List Entry) → List ℕ → Went → Type 0 where
  Silent : Talk o p m h [] h [] went.On
  More : (lines : List (List ℕ)) (h1 h2 : Option (List Entry)) (text added line : List ℕ) (w : Went) → Talk o p m h lines h1 text went.On
      → IsLine line → Tells_to o p m h1 line h2 added w → Talk o p m h (lines ++ line ∷ []) h2 (text ++ added) w

-- whole lines of what was held were served: what is left of it, and what was gathered behind what was gathered before
pub record Served (o : Schema) (p : Plan) (m : ℕ) (h h' : Option (List Entry)) (w : Went) (held rest out out' : List ℕ) : Type 0 where
  pub lines : List (List ℕ)
  pub text : List ℕ
  pub read : held ≡ joined lines ++ rest
  pub talk : Talk o p m h lines h' text w
  pub gathered : out' ≡ out ++ text

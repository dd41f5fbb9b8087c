-- Whole lines, read before any of them is served.
--     asked, Asks      what a line enters, or what is said of one that enters nothing
--     Heard            lines that enter these inputs, and one more that ends them, where there is one
--     HeardTo          whole lines of what is held, read
--     Answered         what entering them does, the text of it, and how the talk goes
use Rattle.std.specs.Prelude.{◌≡◌, ℕ, Bool, true, false, List, [], ◌∷◌, ◌++◌, Option, Some, None, Result, Ok, Err, ⊤}
use Rattle.std.specs.List.{flat_map}
use Rattle.ham_syntax.specs.Objects.{Schema}
use Rattle.ham_plan.specs.Plans.{Plan}
use Rattle.ham_lines.specs.declared.client.ClientLine.{ClientLine}
use Rattle.ham_lines.specs.declared.fault.LineFault.{LineFault}
use Rattle.ham_lines.specs.Clients.{IsClientReading}
use Rattle.ham_journal.specs.declared.input.Input.{Input}
use Rattle.ham_journal.specs.declared.input.Reply.{Reply}
use Rattle.ham_core.specs.Each.{Standing, EntersEach}
use Rattle.ham_serve.specs.declared.serve.Said.{Said}
use Rattle.ham_serve.specs.declared.serve.Said.TheVariants as said
use Rattle.ham_serve.specs.declared.serve.Went.{Went}
use Rattle.ham_serve.specs.declared.serve.Went.TheVariants as went
use Rattle.ham_serve.specs.Lines.{IsLine, joined}
use Rattle.ham_serve.specs.Texts.{input_by, said_text, way_of}

abbrev pub asked_by : Option Input → Result Input Said
asked_by None = Err said.Bye
asked_by (Some i) = Ok i

-- what a reading enters; what is said where it enters nothing
abbrev pub asked : Result ClientLine LineFault → Result Input Said
asked (Err fault) = Err (said.Fault fault)
asked (Ok line) = asked_by (input_by line)

pub record Asks (o : Schema) (line : List ℕ) (what : Result Input Said) : Type 0 where
  pub reading : Result ClientLine LineFault
  pub read : IsClientReading o line reading
  pub what_is : what ≡ asked reading

-- lines, each of which enters its input
abbrev pub Enter : Schema → List (List ℕ) → List Input → Type 0
Enter o [] [] = ⊤
Enter o (line ∷ lines) (input ∷ inputs) = IsLine line × Asks o line (Ok input) × Enter o lines inputs
Enter o [] (input ∷ inputs) = ⊥
Enter o (line ∷ lines) [] = ⊥

-- a line that enters nothing comes last
abbrev pub Heard : Schema → List (List ℕ) → List Input → Option Said → Type 0
Heard o lines inputs None = Enter o lines inputs
Heard o lines inputs (Some s) = (front : List (List ℕ)) × (line : List ℕ) × (lines ≡ front ++ line ∷ []) × Enter o front inputs × IsLine line × Asks o line (Err s)

abbrev pub way_after : Said → Went
way_after (said.Fault fault) = went.On
way_after said.Bye = went.Quit
way_after (said.Reply reply) = way_of reply

-- after a stop nothing more is said
abbrev pub last_text : Schema → Bool → Option Said → List ℕ
last_text o true last = []
last_text o false None = []
last_text o false (Some s) = said_text o s

abbrev pub last_way : Bool → Option Said → Went
last_way true last = went.Stopped
last_way false None = went.On
last_way false (Some s) = way_after s

abbrev pub replies_text : Schema → List Reply → List ℕ
replies_text o replies = flat_map (λ r. said_text o (said.Reply r)) replies

pub record Answered (o : Schema) (p : Plan) (m : ℕ) (s s' : Standing) (inputs : List Input) (last : Option Said) (text : List ℕ) (w : Went) : Type 0 where
  pub left : List Input
  pub replies : List Reply
  pub stopped : Bool
  pub entered : EntersEach o p m s s' inputs left replies stopped
  pub text_is : text ≡ replies_text o replies ++ last_text o stopped last
  pub way : w ≡ last_way stopped last

-- whole lines of what is held were read: what is left of it
pub record HeardTo (o : Schema) (held : List ℕ) (inputs : List Input) (last : Option Said) (rest : List ℕ) : Type 0 where
  pub lines : List (List ℕ)
  pub heard : Heard o lines inputs last
  pub read : held ≡ joined lines ++ rest

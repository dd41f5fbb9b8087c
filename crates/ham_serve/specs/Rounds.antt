-- A talk over a link, between two gets and at its end.
--     Talked, Round     what was taken, entered and sent so far, and by one get more
--     Broke, Halt       the same at an end, where a front of the text may have been sent
--     EndOf, EndsBy     what an end says of the talk, and of the counts
use Rattle.std.specs.Prelude.{◌≡◌, ℕ, ◌⊎◌, true, List, ◌++◌, Option, ⊤}
use Rattle.ham_bytes.specs.Causes.{Rose}
use Rattle.ham_syntax.specs.Objects.{Schema}
use Rattle.ham_plan.specs.Plans.{Plan}
use Rattle.ham_journal.specs.declared.entry.Entry.{Entry}
use Rattle.ham_core.specs.Doors.{StoppedBy}
use Rattle.ham_links.specs.Links.{Loses, Goes, GoesSome, IsOver}
use Rattle.ham_serve.specs.declared.serve.ClientEnd.{ClientEnd}
use Rattle.ham_serve.specs.declared.serve.ClientEnd.TheVariants as ends
use Rattle.ham_serve.specs.declared.serve.Went.{Went}
use Rattle.ham_serve.specs.declared.serve.Went.TheVariants as went
use Rattle.ham_serve.specs.Lines.{IsLine, IsTooLong, joined}
use Rattle.ham_serve.specs.Talks.{Talk}

-- whole lines were taken and talked about, and what is left of what was taken
pub record Talked (o : Schema) (p : Plan) (m : ℕ) (h h' : Option (List Entry)) (left left' sent sent' : Option (List ℕ)) (rest : List ℕ) : Type 0 where
  pub lines : List (List ℕ)
  pub text : List ℕ
  pub talk : Talk o p m h lines h' text went.On
  pub took : Loses left left' (joined lines ++ rest)
  pub told : Goes sent sent' text
  pub held : IsLine rest

-- what an end says of how the talk went, of what is left of the bytes taken, and of what was sent
abbrev pub EndOf : ClientEnd → Schema → Plan → ℕ → Option (List Entry) → Option (List ℕ) → Went → List ℕ → Type 0 → Type 0
EndOf ends.Quit o p m h' left' w rest whole = whole × (w ≡ went.Quit)
EndOf ends.Stopped o p m h' left' w rest whole = whole × ((w ≡ went.Stopped) ⊎ ((w ≡ went.On) × IsLine rest × StoppedBy o p m h' true))
EndOf ends.Closed o p m h' left' w rest whole = whole × (w ≡ went.On) × IsLine rest × IsOver left'
EndOf ends.LineTooLong o p m h' left' w rest whole = whole × (w ≡ went.On) × IsTooLong rest
EndOf ends.LinkFault o p m h' left' w rest whole = ⊤
EndOf ends.NoMemory o p m h' left' w rest whole = ⊤

-- the same at an end, where a front of the text alone may have been sent
pub record Broke (end : ClientEnd) (o : Schema) (p : Plan) (m : ℕ) (h h' : Option (List Entry)) (left left' sent sent' : Option (List ℕ)) : Type 0 where
  pub lines : List (List ℕ)
  pub text : List ℕ
  pub rest : List ℕ
  pub way : Went
  pub talk : Talk o p m h lines h' text way
  pub took : Loses left left' (joined lines ++ rest)
  pub told : GoesSome sent sent' text
  pub ended : EndOf end o p m h' left' way rest (Goes sent sent' text)

-- one more piece was taken: whole lines of what was held and of the piece were talked about
pub record Round (o : Schema) (p : Plan) (m : ℕ) (h h' : Option (List Entry)) (left left' sent sent' : Option (List ℕ)) (held held' : List ℕ) : Type 0 where
  pub lines : List (List ℕ)
  pub text : List ℕ
  pub taken : List ℕ
  pub talk : Talk o p m h lines h' text went.On
  pub took : Loses left left' taken
  pub cut : held ++ taken ≡ joined lines ++ held'
  pub told : Goes sent sent' text
  pub kept : IsLine held'

-- the same at an end
pub record Halt (end : ClientEnd) (o : Schema) (p : Plan) (m : ℕ) (h h' : Option (List Entry)) (left left' sent sent' : Option (List ℕ)) (held : List ℕ) : Type 0 where
  pub lines : List (List ℕ)
  pub text : List ℕ
  pub taken : List ℕ
  pub rest : List ℕ
  pub way : Went
  pub talk : Talk o p m h lines h' text way
  pub took : Loses left left' taken
  pub cut : held ++ taken ≡ joined lines ++ rest
  pub told : GoesSome sent sent' text
  pub ended : EndOf end o p m h' left' way rest (Goes sent sent' text)

-- what an end says
abbrev pub EndsBy : ClientEnd → ℕ → ℕ → ℕ → ℕ → ℕ → ℕ → Type 0
EndsBy ends.Quit f f' n n' s s' = ⊤
EndsBy ends.LineTooLong f f' n n' s s' = ⊤
EndsBy ends.NoMemory f f' n n' s s' = ⊤
EndsBy ends.LinkFault f f' n n' s s' = Rose f f'
EndsBy ends.Closed f f' n n' s s' = Rose n n'
EndsBy ends.Stopped f f' n n' s s' = Rose s s'

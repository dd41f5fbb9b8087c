-- What a reader returned, beside what it is to read.
use Rattle.std.specs.Prelude.{◌≡◌, Result, Ok, Err, IfErr, IsErr}
use Rattle.ham_forms.specs.declared.fault.FileFault.{FileFault}
use Rattle.ham_forms.specs.declared.fault.FileFault.TheVariants.{NoMemory}
use Rattle.ham_forms.specs.declared.fault.Unread.{Unread}
use Rattle.ham_forms.specs.declared.fault.Unread.TheVariants as unread

-- what comes after a step that had no fault
infixl 10 ◌>>=◌
abbrev pub ◌>>=◌ : {A B : Type 0} → Result A FileFault → (A → Result B FileFault) → Result B FileFault
(Ok x) >>= f = f x
(Err e) >>= f = Err e

-- the fault e is the fault f, unless memory ran out
abbrev pub Means : FileFault → FileFault → Type 0
Means NoMemory f = Unit {0}
Means e f = f ≡ e

-- the fault e is what reading gives, unless memory ran out
abbrev pub Fails : {A : Type 0} → FileFault → Result A FileFault → Type 0
Fails NoMemory read = Unit {0}
Fails e read = read ≡ Err e

-- an answer, seen by view, is what reading gives, and so is a fault, unless memory ran out
abbrev pub Shows : {X A : Type 0} → (X → A) → Result X FileFault → Result A FileFault → Type 0
Shows view (Ok x) read = read ≡ Ok (view x)
Shows view (Err e) read = Fails e read

-- an answer is what reading gives, and so is a fault, unless memory ran out
abbrev pub Gives : {A : Type 0} → Result A FileFault → Result A FileFault → Type 0
Gives r read = Shows (λ x. x) r read

-- what was read where a value of this form is wanted: a part that stands for nothing has this fault
abbrev pub FormsAs : {A : Type 0} → FileFault → Result A Unread → Result A FileFault → Type 0
FormsAs fault (Ok x) r = r ≡ Ok x
FormsAs fault (Err unread.Nothing) r = IfErr r (λ e. Means e fault) × IsErr r
FormsAs fault (Err unread.NoMemory) r = r ≡ Err NoMemory

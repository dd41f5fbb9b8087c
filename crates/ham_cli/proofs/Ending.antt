-- Ends of commands, put together of what their parts did.
use Rattle.std.proofs.Common.{◌≡◌, ℕ, ◌≤◌, true, List, [], ◌∷◌, ◌++◌, length, Option, Some, None, Ok, Err, inl, inr, refl, sym, ap, ◌∙◌, subst}
use Rattle.std.specs.Prelude.{IfSome}
use Rattle.ham_syntax.specs.declared.limits.TheConstants.{MAX_OBJECT_BYTES}
use Rattle.ham_syntax.specs.Objects.{Schema}
use Rattle.ham_bytes.specs.Outside.{file_of, Fetches, FetchesFrom}
use Rattle.ham_bytes.specs.declared.shelf.File.{File}
use Rattle.ham_bytes.specs.declared.shelf.FetchFault.{FetchFault}
use Rattle.ham_bytes.specs.declared.shelf.FetchFault.TheVariants as fetches
use Rattle.ham_forms.specs.declared.fault.FileFault.{FileFault}
use Rattle.ham_forms.specs.declared.fault.FileFault.TheVariants as faults
use Rattle.ham_objfile.specs.Texts.{Answers}
use Rattle.ham_cli.specs.declared.exit.Exit.{Exit}
use Rattle.ham_cli.specs.declared.exit.Exit.TheVariants as exits
use Rattle.ham_cli.specs.Commands.{Asked, Asks, AsksNothing, AsksOnce, Beside, beside}
use Rattle.ham_cli.specs.Exits.{exit_of_fetch}
use Rattle.ham_cli.specs.Files.{HasFile, HasBeside, Stops, EndsBeside, EndsUnread}
use Rattle.ham_cli.specs.Told.{Nothing, RunsOut, PutsMade, is_no_memory, object_refusal}
use Rattle.ham_cli.specs.Top.{EndsWith, EndsOn, EndsRead, Ends}

-- ---- fetching

nothing_more : (xs : List ℕ) → xs ≡ xs ++ []
nothing_more [] = refl
nothing_more (x ∷ xs) = ap (λ (ys : List ℕ). x ∷ ys) (nothing_more xs)

nothing : (t : Option (List ℕ)) → Nothing t t
nothing None = tt
nothing (Some xs) = ap Some (nothing_more xs)

-- a fetch gave the file of the name
has_file_of : (files : List File) (name bytes : List ℕ) (limit : ℕ) (file : Option (List ℕ)) → file_of files name ≡ file → Fetches file limit (Ok bytes) → HasFile files name limit bytes
has_file_of files name bytes limit None is h = absurd h
has_file_of files name bytes limit (Some file) is h = record { holds = is ∙ ap Some (sym h.0); within = subst (λ (x : List ℕ). length x ≤ limit) (sym h.0) h.1 }

pub has_file : (files : List File) (name bytes : List ℕ) (limit : ℕ) → Fetches (file_of files name) limit (Ok bytes) → HasFile files name limit bytes
has_file files name bytes limit h = has_file_of files name bytes limit (file_of files name) refl h

-- or none
stops_of : (files : List File) (name : List ℕ) (limit : ℕ) (t : Option (List ℕ)) (file : Option (List ℕ)) (fault : FetchFault) → file_of files name ≡ file → Fetches file limit (Err fault) → Stops files name limit t t (exit_of_fetch fault)
stops_of files name limit t file fetches.Failed is h = nothing t
stops_of files name limit t None (fetches.TooLong l) is h = absurd h
stops_of files name limit t (Some bytes) (fetches.TooLong l) is h = ((bytes, is, h.1), nothing t)
stops_of files name limit t file fetches.NoMemory is h = nothing t

pub stops : (files : List File) (name : List ℕ) (limit : ℕ) (t : Option (List ℕ)) (fault : FetchFault) (exit : Exit) → Fetches (file_of files name) limit (Err fault) → exit ≡ exit_of_fetch fault → Stops files name limit t t exit
stops files name limit t fault exit h at = subst (λ (x : Exit). Stops files name limit t t x) (sym at) (stops_of files name limit t (file_of files name) fault refl h)

-- ---- the file beside the object's

pub on_none : (held : Option (List File)) (o : Schema) (asked : Asked) (before now : Option (List ℕ)) (exit : Exit) → beside asked ≡ None → EndsWith o asked [] before now exit → IfSome held (λ files. EndsOn o asked files before now exit)
on_none None o asked before now exit none ends = tt
on_none (Some files) o asked before now exit none ends = inr ([], subst (λ (b : Option Beside). HasBeside files b []) (sym none) refl, ends)

pub on_found : (held : Option (List File)) (o : Schema) (asked : Asked) (file : Beside) (bytes text : List ℕ) (before now : Option (List ℕ)) (exit : Exit) → beside asked ≡ Some file → FetchesFrom held file.name file.limit (Ok bytes) → text ≡ bytes
    → EndsWith o asked text before now exit → IfSome held (λ files. EndsOn o asked files before now exit)
on_found None o asked file bytes text before now exit is fetched same ends = tt
on_found (Some files) o asked file bytes text before now exit is fetched same ends =
    inr (bytes, subst (λ (b : Option Beside). HasBeside files b bytes) (sym is) (has_file files file.name bytes file.limit fetched), subst (λ (x : List ℕ). EndsWith o asked x before now exit) same ends)

pub on_unfetched : (held : Option (List File)) (o : Schema) (asked : Asked) (file : Beside) (t : Option (List ℕ)) (fault : FetchFault) (exit : Exit) → beside asked ≡ Some file → FetchesFrom held file.name file.limit (Err fault) → exit ≡ exit_of_fetch fault
    → IfSome held (λ files. EndsOn o asked files t t exit)
on_unfetched None o asked file t fault exit is fetched at = tt
on_unfetched (Some files) o asked file t fault exit is fetched at = inl (subst (λ (b : Option Beside). EndsBeside files b t t exit) (sym is) (stops files file.name file.limit t fault exit fetched at))

-- ---- the object's text

pub read_object : (held : Option (List File)) (text : List ℕ) (o : Schema) (asked : Asked) (before now : Option (List ℕ)) (exit : Exit) → Answers text (Ok o) → IfSome held (λ files. EndsOn o asked files before now exit)
    → IfSome held (λ files. EndsRead text asked files before now exit)
read_object None text o asked before now exit is ends = tt
read_object (Some files) text o asked before now exit is ends = inr (o, is, ends)

pub unread : (text : List ℕ) (fault : FileFault) (before now : Option (List ℕ)) (exit : Exit) → Answers text (Err fault) → (is_no_memory fault ≡ true → RunsOut before now exit) → PutsMade before now (object_refusal fault) exits.ObjectRefused exit
    → EndsUnread text before now exit
unread text (faults.NotUtf8 at) before now exit is want puts = inr (faults.NotUtf8 at, is, puts)
unread text faults.NotToml before now exit is want puts = inr (faults.NotToml, is, puts)
unread text (faults.UnknownKey key) before now exit is want puts = inr (faults.UnknownKey key, is, puts)
unread text (faults.MissingKey key) before now exit is want puts = inr (faults.MissingKey key, is, puts)
unread text (faults.BadValue key) before now exit is want puts = inr (faults.BadValue key, is, puts)
unread text (faults.Ill ill) before now exit is want puts = inr (faults.Ill ill, is, puts)
unread text (faults.BadLine line) before now exit is want puts = inr (faults.BadLine line, is, puts)
unread text faults.NoMemory before now exit is want puts = inl (want refl)

pub read_refused : (held : Option (List File)) (text : List ℕ) (fault : FileFault) (asked : Asked) (before now : Option (List ℕ)) (exit : Exit) → Answers text (Err fault) → (is_no_memory fault ≡ true → RunsOut before now exit)
    → PutsMade before now (object_refusal fault) exits.ObjectRefused exit → IfSome held (λ files. EndsRead text asked files before now exit)
read_refused None text fault asked before now exit is want puts = tt
read_refused (Some files) text fault asked before now exit is want puts = inl (unread text fault before now exit is want puts)

-- ---- the object's file

pub fetched_object : (held after : Option (List File)) (object bytes text : List ℕ) (asked : Asked) (before now : Option (List ℕ)) (exit : Exit) → after ≡ held → FetchesFrom held object MAX_OBJECT_BYTES (Ok bytes) → text ≡ bytes
    → IfSome after (λ files. EndsRead text asked files before now exit) → IfSome held (λ files. Ends object asked files before now exit)
fetched_object None after object bytes text asked before now exit kept fetched same ends = tt
fetched_object (Some files) after object bytes text asked before now exit kept fetched same ends =
    let there : IfSome (Some files) (λ files. EndsRead text asked files before now exit) = subst (λ (h : Option (List File)). IfSome h (λ files. EndsRead text asked files before now exit)) kept ends in
    inr (bytes, has_file files object bytes MAX_OBJECT_BYTES fetched, subst (λ (x : List ℕ). EndsRead x asked files before now exit) same there)

pub unfetched_object : (held : Option (List File)) (object : List ℕ) (asked : Asked) (t : Option (List ℕ)) (fault : FetchFault) (exit : Exit) → FetchesFrom held object MAX_OBJECT_BYTES (Err fault) → exit ≡ exit_of_fetch fault → IfSome held (λ files. Ends object asked files t t exit)
unfetched_object None object asked t fault exit fetched at = tt
unfetched_object (Some files) object asked t fault exit fetched at = inl (stops files object MAX_OBJECT_BYTES t fault exit fetched at)

-- ---- whatever command the words ask

pub for_any : (words : List (List ℕ)) (held : Option (List File)) (object : List ℕ) (asked : Asked) (Says : List ℕ → Asked → List File → Type 0) → AsksOnce words → Asks words object asked → IfSome held (λ files. Says object asked files)
    → IfSome held (λ files. (other : List ℕ) (more : Asked) → Asks words other more → Says other more files)
for_any words None object asked Says once asks h = tt
for_any words (Some files) object asked Says once asks h = λ other more also.
    let same = once object other asked more asks also in
    subst (λ (x : List ℕ). Says x more files) same.0 (subst (λ (x : Asked). Says object x files) same.1 h)

pub for_one : (words : List (List ℕ)) (object : List ℕ) (asked : Asked) (Says : List ℕ → Asked → Type 0) → AsksOnce words → Asks words object asked → Says object asked → (other : List ℕ) (more : Asked) → Asks words other more → Says other more
for_one words object asked Says once asks h other more also =
    let same = once object other asked more asks also in
    subst (λ (x : List ℕ). Says x more) same.0 (subst (λ (x : Asked). Says object x) same.1 h)

pub for_none : (words : List (List ℕ)) (held : Option (List File)) (Says : List ℕ → Asked → List File → Type 0) → AsksNothing words → IfSome held (λ files. (object : List ℕ) (asked : Asked) → Asks words object asked → Says object asked files)
for_none words None Says none = tt
for_none words (Some files) Says none = λ object asked asks. absurd (none object asked asks)

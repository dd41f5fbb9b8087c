-- A command whose files allow it ends well, unless something outside fails.
use Rattle.std.proofs.Common.{◌≡◌, ℕ, ◌<◌, List, length, Option, Some, None, Result, Ok, Err, ◌⊎◌, inl, inr, refl, sym, ap, subst, ◌∙◌, arith}
use Rattle.std.specs.Prelude.{IfSome, option_map}
use Rattle.ham_syntax.specs.declared.limits.TheConstants.{MAX_OBJECT_BYTES}
use Rattle.ham_syntax.specs.Objects.{Schema}
use Rattle.ham_bytes.specs.declared.shelf.File.{File}
use Rattle.ham_bytes.specs.Causes.{Rose}
use Rattle.ham_forms.specs.declared.fault.FileFault.{FileFault}
use Rattle.ham_objfile.specs.Texts.{IsText, IsFirstFault, IsAnsweredOnce}
use Rattle.ham_rules.specs.declared.claim.Claim.{Claim}
use Rattle.ham_plan.specs.Plans.{Plan}
use Rattle.ham_turns.specs.Settings.{Setting, setting_of}
use Rattle.ham_replay.specs.declared.end.Refusal.{Refusal}
use Rattle.ham_replay.specs.Replays.{Played}
use Rattle.ham_world.specs.declared.refusal.StepRefusal.{StepRefusal}
use Rattle.ham_bulk.specs.Scripts.{generated}
use Rattle.ham_bulk.specs.ScriptTexts.{refusal_in}
use Rattle.ham_cli.specs.declared.command.Drawing.{Drawing}
use Rattle.ham_cli.specs.declared.exit.Exit.{Exit}
use Rattle.ham_cli.specs.declared.exit.Exit.TheVariants as exits
use Rattle.ham_cli.specs.Exits.{IsCounted}
use Rattle.ham_cli.specs.Commands.{Asked, Normalizes, Replays, Records, Audits, Checks, Derives, Exemplifies, Tabulates, Bulks, Scripts, Beside, beside}
use Rattle.ham_cli.specs.Files.{HasFile, HasBeside, IsTooLong, Stops, EndsBeside, EndsUnread}
use Rattle.ham_cli.specs.Told.{TellsWhole, Tells}
use Rattle.ham_cli.specs.Plans.{IsPlanFor, HaveOneSetting}
use Rattle.ham_cli.specs.ClaimAnswers.{claim_named, AnswersDerive, AnswersExample}
use Rattle.ham_cli.specs.PlayAnswers.{exit_of_refused, IsPlayedOnce, IsWhole}
use Rattle.ham_cli.specs.Answers.{Answers, IsMet}
use Rattle.ham_cli.specs.Top.{EndsWith, EndsOn, EndsRead, Ends, IsAllowed, Completes}
use Rattle.ham_cli.proofs.Telling.{from_tells}

abbrev pub Fine : Exit → Type 0
Fine exit = (exit ≡ exits.Done) ⊎ (exit ≡ exits.NoMemory)

-- neither the shelf nor the sink failed
pub record IsCalm (exit : Exit) : Type 0 where
  pub reads : exit ≡ exits.ReadFault → ⊥
  pub writes : exit ≡ exits.WriteFault → ⊥

-- ---- what is met is answered by Done

done_of : (r s : Option Refusal) (exit : Exit) → exit ≡ exit_of_refused r → r ≡ s → s ≡ None → exit ≡ exits.Done
done_of r s exit e same none = e ∙ ap exit_of_refused (same ∙ none)

derive_done : (o : Schema) (found : Option Claim) (claim : Claim) (exit : Exit) (text : List ℕ) → found ≡ Some claim → AnswersDerive o found exit text → exit ≡ exits.Done
derive_done o None claim exit text is h = absurd cc
derive_done o (Some c) claim exit text is h = elim h [ inl d ↦ let told = d.2 in told.0 | inr d ↦ let told = d.2 in told.0 ]

example_done : (o : Schema) (found : Option Claim) (claim : Claim) (exit : Exit) (text : List ℕ) → found ≡ Some claim → AnswersExample o found exit text → exit ≡ exits.Done
example_done o None claim exit text is h = absurd cc
example_done o (Some c) claim exit text is h = elim h [
  | inl d ↦ let told = d.2 in told.0
  | inr k ↦ elim k [ inl d ↦ let told = d.1 in told.0 | inr d ↦ let told = d.1 in told.0 ]
]

-- no line of a script is refused under one derived plan, so none is under another
whole_script : HaveOneSetting → (o : Schema) (d : Drawing) (p : Plan) → IsPlanFor o d.replicas p → IsWhole o d → refusal_in (generated o (setting_of p) d.seed d.rounds) ≡ None
whole_script one o d p k whole = no_refusal _ _ (ap (λ (y : Setting). (generated o y d.seed d.rounds).refused) (one o d.replicas p whole.0 k whole.1) ∙ whole.2)
  where
    no_refusal : (es : Option StepRefusal) (f : StepRefusal → Refusal) → es ≡ None → option_map f es ≡ None
    no_refusal None f none = refl
    no_refusal (Some why) f none = absurd cc

is_done : IsPlayedOnce → HaveOneSetting → (o : Schema) (asked : Asked) (bytes : List ℕ) (exit : Exit) (text : List ℕ) → IsMet o asked bytes → Answers o asked bytes exit text → exit ≡ exits.Done
is_done once one o Normalizes bytes exit text met h = h.0
is_done once one o (Replays schedule) bytes exit text met h = let told = h.2 in done_of h.0.refused met.0.refused exit told.0 (ap (λ (p : Played). p.refused) (once o bytes h.0 met.0 h.1.is met.1)) met.2
is_done once one o (Records schedule) bytes exit text met h = let told = h.2 in done_of h.0.refused met.0.refused exit told.0 (ap (λ (p : Played). p.refused) (once o bytes h.0 met.0 h.1 met.1)) met.2
is_done once one o (Audits file) bytes exit text met h = elim h [ inl d ↦ let told = d.2 in told.0 | inr d ↦ absurd (d.1.none met) ]
is_done once one o (Checks file) bytes exit text met h = elim h [ inl d ↦ let told = d.1 in told.0 | inr d ↦ absurd (d.1.none met) ]
is_done once one o (Derives claim) bytes exit text met h = derive_done o (claim_named o claim) met.0 exit text met.1 h
is_done once one o (Exemplifies claim) bytes exit text met h = example_done o (claim_named o claim) met.0 exit text met.1 h
is_done once one o (Tabulates replicas) bytes exit text met h = let told = h.2 in told.0
is_done once one o (Bulks drawing) bytes exit text met h = let told = h.2 in done_of _ None exit told.0 (whole_script one o drawing h.0 h.1.plan met) refl
is_done once one o (Scripts drawing) bytes exit text met h = let told = h.2 in done_of _ None exit told.0 (whole_script one o drawing h.0 h.1.plan met) refl

-- ---- what is told

whole_fine : (Says : Exit → List ℕ → Type 0) (before now : Option (List ℕ)) (exit : Exit) → IsCalm exit → ((e : Exit) (t : List ℕ) → Says e t → e ≡ exits.Done) → TellsWhole Says before now exit → Fine exit
whole_fine Says before now exits.Done calm done h = inl refl
whole_fine Says before now exits.Usage calm done h = inl (done _ h.0 h.1)
whole_fine Says before now exits.ObjectRefused calm done h = inl (done _ h.0 h.1)
whole_fine Says before now exits.ScheduleRefused calm done h = inl (done _ h.0 h.1)
whole_fine Says before now exits.ReadFault calm done h = absurd (calm.reads refl)
whole_fine Says before now exits.WriteFault calm done h = absurd (calm.writes refl)
whole_fine Says before now exits.NoMemory calm done h = inr refl
whole_fine Says before now exits.TooLong calm done h = inl (done _ h.0 h.1)
whole_fine Says before now exits.DerivationRefused calm done h = inl (done _ h.0 h.1)
whole_fine Says before now exits.AuditRefused calm done h = inl (done _ h.0 h.1)

tells_fine : (Says : Exit → List ℕ → Type 0) (before now : Option (List ℕ)) (exit : Exit) → IsCalm exit → ((e : Exit) (t : List ℕ) → Says e t → e ≡ exits.Done) → Tells Says before now exit → Fine exit
tells_fine Says before now exit calm done h = elim (from_tells Says before now exit h) [ inl e ↦ inr e | inr w ↦ whole_fine Says before now exit calm done w ]

with_fine : IsPlayedOnce → HaveOneSetting → (o : Schema) (asked : Asked) (bytes : List ℕ) (before now : Option (List ℕ)) (exit : Exit) → IsCalm exit → IsMet o asked bytes → EndsWith o asked bytes before now exit → Fine exit
with_fine once one o Normalizes bytes before now exit calm met h = whole_fine _ before now exit calm (λ e t s. is_done once one o Normalizes bytes e t met s) h
with_fine once one o (Replays schedule) bytes before now exit calm met h = tells_fine _ before now exit calm (λ e t s. is_done once one o (Replays schedule) bytes e t met s) h
with_fine once one o (Records schedule) bytes before now exit calm met h = tells_fine _ before now exit calm (λ e t s. is_done once one o (Records schedule) bytes e t met s) h.0
with_fine once one o (Audits file) bytes before now exit calm met h = whole_fine _ before now exit calm (λ e t s. is_done once one o (Audits file) bytes e t met s) h
with_fine once one o (Checks file) bytes before now exit calm met h = whole_fine _ before now exit calm (λ e t s. is_done once one o (Checks file) bytes e t met s) h
with_fine once one o (Derives claim) bytes before now exit calm met h = whole_fine _ before now exit calm (λ e t s. is_done once one o (Derives claim) bytes e t met s) h
with_fine once one o (Exemplifies claim) bytes before now exit calm met h = whole_fine _ before now exit calm (λ e t s. is_done once one o (Exemplifies claim) bytes e t met s) h
with_fine once one o (Tabulates replicas) bytes before now exit calm met h = whole_fine _ before now exit calm (λ e t s. is_done once one o (Tabulates replicas) bytes e t met s) h
with_fine once one o (Bulks drawing) bytes before now exit calm met h = tells_fine _ before now exit calm (λ e t s. is_done once one o (Bulks drawing) bytes e t met s) h
with_fine once one o (Scripts drawing) bytes before now exit calm met h = tells_fine _ before now exit calm (λ e t s. is_done once one o (Scripts drawing) bytes e t met s) h.0

-- ---- files

same_some : (a b : List ℕ) → Some a ≡ Some b → a ≡ b
same_some a b e = cc

-- a name has one file
pub one_file : (files : List File) (name : List ℕ) (limit : ℕ) (a b : List ℕ) → HasFile files name limit a → HasFile files name limit b → a ≡ b
one_file files name limit a b h k = same_some a b (sym h.holds ∙ k.holds)

one_beside : (files : List File) (file : Option Beside) (a b : List ℕ) → HasBeside files file a → HasBeside files file b → a ≡ b
one_beside files None a b h k = h ∙ sym k
one_beside files (Some file) a b h k = one_file files file.name file.limit a b h k

pub not_too_long : (files : List File) (name : List ℕ) (limit : ℕ) (a : List ℕ) → HasFile files name limit a → IsTooLong files name limit → ⊥
not_too_long files name limit a h k =
    let same : a ≡ k.0 = same_some a k.0 (sym h.holds ∙ k.1) in
    let long : limit < length a = subst (λ (x : List ℕ). limit < length x) (sym same) k.2 in
    omega (arith, h.within)

stops_fine : (files : List File) (name : List ℕ) (limit : ℕ) (a : List ℕ) (before now : Option (List ℕ)) (exit : Exit) → IsCalm exit → HasFile files name limit a → Stops files name limit before now exit → Fine exit
stops_fine files name limit a before now exits.Done calm has h = absurd h
stops_fine files name limit a before now exits.Usage calm has h = absurd h
stops_fine files name limit a before now exits.ObjectRefused calm has h = absurd h
stops_fine files name limit a before now exits.ScheduleRefused calm has h = absurd h
stops_fine files name limit a before now exits.ReadFault calm has h = absurd (calm.reads refl)
stops_fine files name limit a before now exits.WriteFault calm has h = absurd h
stops_fine files name limit a before now exits.NoMemory calm has h = inr refl
stops_fine files name limit a before now exits.TooLong calm has h = absurd (not_too_long files name limit a has h.0)
stops_fine files name limit a before now exits.DerivationRefused calm has h = absurd h
stops_fine files name limit a before now exits.AuditRefused calm has h = absurd h

beside_fine : (files : List File) (file : Option Beside) (a : List ℕ) (before now : Option (List ℕ)) (exit : Exit) → IsCalm exit → HasBeside files file a → EndsBeside files file before now exit → Fine exit
beside_fine files None a before now exit calm has h = absurd h
beside_fine files (Some file) a before now exit calm has h = stops_fine files file.name file.limit a before now exit calm has h

-- ---- objects

not_both : (o : Schema) (e : FileFault) (r s : Result Schema FileFault) → r ≡ Ok o → s ≡ Err e → r ≡ s → ⊥
not_both o e r s h k same = absurd cc

no_fault : IsAnsweredOnce → (text : List ℕ) (o : Schema) (e : FileFault) → IsText text o → IsFirstFault text e → ⊥
no_fault one text o e h k = not_both o e (Ok o) (Err e) refl refl (one text (Ok o) (Err e) h k)

same_ok : (o p : Schema) (r s : Result Schema FileFault) → r ≡ Ok o → s ≡ Ok p → r ≡ s → o ≡ p
same_ok o p r s h k e = cc

same_object : IsAnsweredOnce → (text : List ℕ) (o p : Schema) → IsText text o → IsText text p → o ≡ p
same_object one text o p h k = same_ok o p (Ok o) (Ok p) refl refl (one text (Ok o) (Ok p) h k)

-- an object's text is read, unless memory ran out
pub unread_memory : IsAnsweredOnce → (text : List ℕ) (o : Schema) (before now : Option (List ℕ)) (exit : Exit) → IsText text o → EndsUnread text before now exit → exit ≡ exits.NoMemory
unread_memory one text o before now exit is h = elim h [ inl r ↦ r.0 | inr f ↦ absurd (no_fault one text o f.0 is f.1) ]

-- ---- commands

module _ (answered : IsAnsweredOnce) (once : IsPlayedOnce) (one : HaveOneSetting) (files : List File) (object : List ℕ) (asked : Asked) (before now : Option (List ℕ)) (exit : Exit) (calm : IsCalm exit) (allowed : IsAllowed object asked files) where
  on_fine : (o : Schema) → allowed.o ≡ o → EndsOn o asked files before now exit → Fine exit
  on_fine o same h = elim h [
    | inl s ↦ beside_fine files (beside asked) allowed.bytes before now exit calm allowed.beside s
    | inr b ↦ with_fine once one o asked b.0 before now exit calm
        (subst (λ (x : List ℕ). IsMet o asked x) (one_beside files (beside asked) allowed.bytes b.0 allowed.beside b.1) (subst (λ (x : Schema). IsMet x asked allowed.bytes) same allowed.met)) b.2
  ]

  read_fine : (text : List ℕ) → IsText text allowed.o → EndsRead text asked files before now exit → Fine exit
  read_fine text is h = elim h [
    | inl u ↦ inr (unread_memory answered text allowed.o before now exit is u)
    | inr o ↦ on_fine o.0 (same_object answered text allowed.o o.0 is o.1) o.2
  ]

  ends_fine : Ends object asked files before now exit → Fine exit
  ends_fine h = elim h [
    | inl s ↦ stops_fine files object MAX_OBJECT_BYTES allowed.text before now exit calm allowed.file s
    | inr t ↦ read_fine t.0 (subst (λ (x : List ℕ). IsText x allowed.o) (one_file files object MAX_OBJECT_BYTES allowed.text t.0 allowed.file t.1) allowed.is) t.2
  ]

calm_by : (shelf shelf_now sink sink_now : ℕ) (exit : Exit) → IsCounted shelf shelf_now sink sink_now exit → ¬ (Rose shelf shelf_now) → ¬ (Rose sink sink_now) → IsCalm exit
calm_by shelf shelf_now sink sink_now exit counted r w = record {
  reads = λ (e : exit ≡ exits.ReadFault). r (subst (IsCounted shelf shelf_now sink sink_now) e counted);
  writes = λ (e : exit ≡ exits.WriteFault). w (subst (IsCounted shelf shelf_now sink sink_now) e counted);
}

-- what a command that ended so completes
pub completes : IsAnsweredOnce → IsPlayedOnce → HaveOneSetting → (held : Option (List File)) (object : List ℕ) (asked : Asked) (before now : Option (List ℕ)) (shelf shelf_now sink sink_now : ℕ) (exit : Exit) → IsCounted shelf shelf_now sink sink_now exit
    → IfSome held (λ files. Ends object asked files before now exit) → IfSome held (λ files. Completes object asked files (Rose shelf shelf_now) (Rose sink sink_now) exit)
completes answered once one None object asked before now shelf shelf_now sink sink_now exit counted ends = tt
completes answered once one (Some files) object asked before now shelf shelf_now sink sink_now exit counted ends = λ allowed r w.
    ends_fine answered once one files object asked before now exit (calm_by shelf shelf_now sink sink_now exit counted r w) allowed ends

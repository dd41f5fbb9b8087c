-- A node is stopped exactly where its journal holds a Stop marked Done.
use Rattle.std.proofs.Common.{◌≡◌, ◌≢◌, ℕ, ◌⊎◌, ◌↔◌, true, false, List, [], ◌∷◌, Option, Some, None, refl, sym, ap, subst, ◌∙◌, inl, inr, true≢false}
use Rattle.std.specs.Prelude.{fold, option_map}
use Rattle.std.proofs.lemmas.Option.{none-some, same_Some}
use Rattle.ham_turns.specs.Settings.{Rules, Setting, rules_of, setting_of}
use Rattle.ham_journal.specs.Histories.{opening_core}
use Rattle.ham_journal.specs.Cores.{Core, Answered, history, core_after, entered, step}
use Rattle.ham_journal.specs.Drains.{is_settled}
use Rattle.ham_journal.specs.Laws.{HoldsStop, StoppedByStop}
use Rattle.ham_journal.specs.declared.entry.Entry.{Entry}
use Rattle.ham_journal.specs.declared.input.Input.{Input}
use Rattle.ham_journal.specs.declared.input.Input.TheVariants as inputs
use Rattle.ham_journal.specs.declared.entry.Mark.TheVariants as marks
use Rattle.ham_journal.specs.declared.input.Reply.TheVariants as replies
use Rattle.ham_journal.proofs.Parts.{replayed, step_says, told_is, tells_going}

none_stays : (x : Rules) (y : Setting) (me : ℕ) (es : List Entry) → fold (core_after x y me) None es ≡ None
none_stays x y me [] = refl
none_stays x y me (e ∷ es) = none_stays x y me es

-- a journal begins with an entry that the opening takes
pub history_cons : (x : Rules) (y : Setting) (me : ℕ) (k0 k : Core) (e : Entry) (es : List Entry) → history x y me k0 (e ∷ es) ≡ Some k
    → (a : Answered) × (entered x y me k0 e ≡ Some a) × (history x y me a.core es ≡ Some k)
unfolding history
history_cons x y me k0 k e es h = by_entry (entered x y me k0 e) refl
  where
    by_entry : (o : Option Answered) → entered x y me k0 e ≡ o → (a : Answered) × (entered x y me k0 e ≡ Some a) × (fold (core_after x y me) (Some a.core) es ≡ Some k)
    by_entry None q = absurd (none-some k (sym (none_stays x y me es) ∙ ap (λ (o : Option Answered). fold (core_after x y me) (option_map (λ (a : Answered). a.core) o) es) (sym q) ∙ h))
    by_entry (Some a) q = (a, q, ap (λ (o : Option Answered). fold (core_after x y me) (option_map (λ (z : Answered). z.core) o) es) (sym q) ∙ h)

pub history_nil : (x : Rules) (y : Setting) (me : ℕ) (k0 k : Core) → history x y me k0 [] ≡ Some k → k0 ≡ k
unfolding history
history_nil x y me k0 k h = same_Some k0 k h

-- whether an entry stops
abbrev Stops : Entry → Answered → Type 0
Stops e a = ((a.core.stopped ≡ true) × (e.input ≡ inputs.Stop) × (e.mark ≡ marks.Done)) ⊎ ((a.core.stopped ≡ false) × ((e.input ≡ inputs.Stop) × (e.mark ≡ marks.Done) → ⊥))

stops : (x : Rules) (y : Setting) (me : ℕ) (k : Core) (e : Entry) (a : Answered) → entered x y me k e ≡ Some a → Stops e a
stops x y me k e a h = by_input e.input refl
  where
    goes_on : e.input ≢ inputs.Stop → Stops e a
    goes_on n = inr ((tells_going x y me k a.core e a.reply h).1 n, λ q. n q.0)

    by_input : (i : Input) → e.input ≡ i → Stops e a
    by_input inputs.Stop q =
        let r = replayed x y me k e a h in
        elim r.work [
          | inl none ↦ inr (sym (ap (λ (z : Answered). z.core.stopped) none.1) ∙ r.going, λ both. cc (none.0, both.1))
          | inr did ↦ elim did.2 [
            | inl done ↦ inl ((step_says x y me (record k { words = r.first }) e.input e.logged a did.1).stopped q, q, done)
            | inr left ↦ (
                let told = told_is (record k { words = r.first; stopped = true }) replies.Stopping e.logged a (subst (λ (i : Input). step x y me (record k { words = r.first }) i e.logged ≡ Some a) q did.1) in
                absurd (true≢false (sym did.0 ∙ ap (λ (z : Answered). is_settled y z.core.words) told ∙ left.1)))
          ]
        ]
    by_input (inputs.Issue b) q = goes_on (λ z. absurd (cc))
    by_input (inputs.Deliver from f) q = goes_on (λ z. absurd (cc))
    by_input inputs.Tick q = goes_on (λ z. absurd (cc))
    by_input (inputs.Collect peer) q = goes_on (λ z. absurd (cc))
    by_input (inputs.Show counter key) q = goes_on (λ z. absurd (cc))
    by_input (inputs.Rows relation) q = goes_on (λ z. absurd (cc))
    by_input (inputs.Verdict group number) q = goes_on (λ z. absurd (cc))
    by_input inputs.Log q = goes_on (λ z. absurd (cc))
    by_input inputs.Counts q = goes_on (λ z. absurd (cc))
    by_input inputs.Record q = goes_on (λ z. absurd (cc))

none_after : (x : Rules) (y : Setting) (me : ℕ) (k0 k : Core) (es : List Entry) → k0.stopped ≡ true → history x y me k0 es ≡ Some k → k0 ≡ k
none_after x y me k0 k [] s h = history_nil x y me k0 k h
none_after x y me k0 k (e ∷ es) s h =
    let r = history_cons x y me k0 k e es h in
    absurd (true≢false (sym s ∙ (replayed x y me k0 e r.0 r.1).going))

pub stops_law : (x : Rules) (y : Setting) (me : ℕ) (k0 k : Core) (es : List Entry) → k0.stopped ≡ false → history x y me k0 es ≡ Some k → (k.stopped ≡ true) ↔ HoldsStop es
stops_law x y me k0 k [] going h = (λ s. absurd (true≢false (sym s ∙ ap (λ (c : Core). c.stopped) (sym (history_nil x y me k0 k h)) ∙ going)), λ q. absurd q.1)
stops_law x y me k0 k (e ∷ es) going h =
    let r = history_cons x y me k0 k e es h in
    elim (stops x y me k0 e r.0 r.1) [
      | inl stop ↦ (
          let same : r.0.core ≡ k = none_after x y me r.0.core k es stop.0 r.2 in
          (λ s. (e, inl refl, stop.1, stop.2), λ q. sym (ap (λ (c : Core). c.stopped) same) ∙ stop.0))
      | inr goes ↦ (
          let rest = stops_law x y me r.0.core k es goes.0 r.2 in (
            λ s. (let f = rest.0 s in (f.0, inr f.1, f.2, f.3)),
            λ q. elim q.1 [ inl here ↦ absurd (goes.1 (ap (λ (z : Entry). z.input) (sym here) ∙ q.2, ap (λ (z : Entry). z.mark) (sym here) ∙ q.3)) | inr there ↦ rest.1 (q.0, there, q.2, q.3) ],
          ))
    ]

pub stopped_by_stop : StoppedByStop
stopped_by_stop o p me k es h = stops_law (rules_of o) (setting_of p) me (opening_core o p) k es refl h

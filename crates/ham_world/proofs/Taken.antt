-- What is left of an event that is taken, or is not.
use Rattle.std.proofs.Common.{◌≡◌, ℕ, ◌+◌, true, List, [], ◌∷◌, Option, Some, None, Ok, Err, ◌⊎◌, inl, inr, length, map, refl, sym, ap, ◌∙◌, arith, subst}
use Rattle.std.specs.List.{range_with_len}
use Rattle.ham_syntax.specs.declared.act.Act.{Act}
use Rattle.ham_syntax.specs.Objects.{Schema}
use Rattle.ham_plan.specs.Plans.{Plan}
use Rattle.ham_frame.specs.Decoding.{Fed}
use Rattle.ham_turns.specs.declared.event.Event.{Event}
use Rattle.ham_turns.specs.declared.event.Event.TheVariants as events
use Rattle.ham_turns.specs.declared.turn.IssueRefusal.{IssueRefusal}
use Rattle.ham_turns.specs.declared.turn.IssueRefusal.TheVariants as issue
use Rattle.ham_turns.specs.Settings.{Setting, rules_of, setting_of}
use Rattle.ham_turns.specs.Words.{Intake}
use Rattle.ham_turns.specs.Refusals.{issue_refusal}
use Rattle.ham_replica.specs.Values.{Replica}
use Rattle.ham_runs.specs.Runs.{Note, words_of}
use Rattle.ham_runs.specs.Next.{Input, input_of}
use Rattle.ham_world.specs.declared.note.Note.{Note as Told}
use Rattle.ham_world.specs.declared.refusal.StepRefusal.{StepRefusal}
use Rattle.ham_world.specs.declared.refusal.StepRefusal.TheVariants as step
use Rattle.ham_world.specs.Worlds.{world_refusal, replica_refusal, refusal_of, first_some, as_issue, inputs_of, taken, Run, Stops}
use Rattle.ham_world.specs.Keeping.{notes_of, Keeps, IsKept, Goes}
use Rattle.ham_world.specs.Stepping.{Comes, Halts, Refused, TakesIn, Leaves, step_of}
use Rattle.ham_world.proofs.Events.{taken-one, taken-none}

pub is_allowed : (o : Schema) (y : Setting) (notes : List Note) (e : Event) → world_refusal y notes e ≡ None → replica_refusal (rules_of o) y notes e ≡ None → refusal_of o y notes e ≡ None
unfolding refusal_of
is_allowed o y notes e w r = ap (λ x. first_some x (replica_refusal (rules_of o) y notes e)) w ∙ r

refused_by_world : (o : Schema) (y : Setting) (notes : List Note) (e : Event) (why : StepRefusal) → world_refusal y notes e ≡ Some why → refusal_of o y notes e ≡ Some why
unfolding refusal_of
refused_by_world o y notes e why w = ap (λ x. first_some x (replica_refusal (rules_of o) y notes e)) w

refused_by_replica : (o : Schema) (y : Setting) (notes : List Note) (e : Event) (why : StepRefusal) → world_refusal y notes e ≡ None → replica_refusal (rules_of o) y notes e ≡ Some why → refusal_of o y notes e ≡ Some why
unfolding refusal_of
refused_by_replica o y notes e why w r = ap (λ x. first_some x (replica_refusal (rules_of o) y notes e)) w ∙ r

-- no turn was made
pub halts_at_once : (o : Schema) (p : Plan) (kept kept' : List Told) (inputs : List Input) → kept' ≡ kept → IsKept o p kept → Halts o p kept kept' inputs
halts_at_once o p kept kept' inputs same is =
    let F : List Told → Type 0 = λ k. Halts o p kept k inputs in
    subst F (sym same) (record { made = 0; kept_is = is; run = sym (taken-none o (setting_of p) (notes_of o p kept)) })

pub world_leaves : (o : Schema) (p : Plan) (vs : List Replica) (links : List (List (List ℕ))) (ds : List Fed) (kept : List Told) (sent : ℕ) (e : Event) (why : StepRefusal) →
    Keeps o p vs links ds kept sent → IsKept o p kept → {found : Option StepRefusal} → found ≡ world_refusal (setting_of p) (notes_of o p kept) e → found ≡ Some why →
    Leaves o p vs links ds kept kept sent e (Err why)
world_leaves o p vs links ds kept sent e step.NoMemory keeps is f w = halts_at_once o p kept kept (inputs_of e) refl is
world_leaves o p vs links ds kept sent e step.NoSuchReplica keeps is f w = record { refusal = refused_by_world o (setting_of p) (notes_of o p kept) e step.NoSuchReplica (sym f ∙ w); keeps = keeps; kept_is = refl }
world_leaves o p vs links ds kept sent e step.NoSuchFrame keeps is f w = record { refusal = refused_by_world o (setting_of p) (notes_of o p kept) e step.NoSuchFrame (sym f ∙ w); keeps = keeps; kept_is = refl }
world_leaves o p vs links ds kept sent e step.BadCut keeps is f w = record { refusal = refused_by_world o (setting_of p) (notes_of o p kept) e step.BadCut (sym f ∙ w); keeps = keeps; kept_is = refl }
world_leaves o p vs links ds kept sent e step.SentFull keeps is f w = record { refusal = refused_by_world o (setting_of p) (notes_of o p kept) e step.SentFull (sym f ∙ w); keeps = keeps; kept_is = refl }
world_leaves o p vs links ds kept sent e (step.Issue r) keeps is f w = record { refusal = refused_by_world o (setting_of p) (notes_of o p kept) e (step.Issue r) (sym f ∙ w); keeps = keeps; kept_is = refl }

-- one turn was made
pub one_comes : (o : Schema) (p : Plan) (vs : List Replica) (links : List (List (List ℕ))) (ds : List Fed) (kept kept' : List Told) (sent r : ℕ) (took : Intake) →
    Goes o p vs links ds kept kept' sent r took → Comes o p vs links ds kept kept' sent (input_of r took ∷ [])
one_comes o p vs links ds kept kept' sent r took h = record { keeps = h.keeps; kept_is = h.kept_is; run = h.run ∙ sym (taken-one o (setting_of p) (notes_of o p kept) (input_of r took)); count = h.one }

pub same_range : (o : Schema) (p : Plan) (vs : List Replica) (links : List (List (List ℕ))) (ds : List Fed) (kept kept' : List Told) (sent : ℕ) (g : ℕ → Input) (k n : ℕ) → n ≡ 1 →
    Comes o p vs links ds kept kept' sent (map g (range_with_len k n)) → Comes o p vs links ds kept kept' sent (g k ∷ [])
same_range o p vs links ds kept kept' sent g k n e h =
    let F : ℕ → Type 0 = λ m. Comes o p vs links ds kept kept' sent (map g (range_with_len k m)) in
    subst F e h

pub same_halt : (o : Schema) (p : Plan) (kept kept' : List Told) (g : ℕ → Input) (k n : ℕ) → n ≡ 1 → Halts o p kept kept' (map g (range_with_len k n)) → Halts o p kept kept' (g k ∷ [])
same_halt o p kept kept' g k n e h =
    let F : ℕ → Type 0 = λ m. Halts o p kept kept' (map g (range_with_len k m)) in
    subst F e h

-- a replica refused an act
refused_act : (o : Schema) (p : Plan) (vs : List Replica) (links : List (List (List ℕ))) (ds : List Fed) (kept kept' : List Told) (sent r : ℕ) (a : Act) (why : IssueRefusal) →
    world_refusal (setting_of p) (notes_of o p kept) (events.Issue r a) ≡ None → kept' ≡ kept →
    Keeps o p vs links ds kept' sent → issue_refusal (rules_of o) (setting_of p) (words_of (rules_of o) (setting_of p) (notes_of o p kept) r) r a ≡ Some why →
    Refused o p vs links ds kept kept' sent (events.Issue r a) (step.Issue why)
refused_act o p vs links ds kept kept' sent r a why w same keeps is = record {
  refusal = refused_by_replica o (setting_of p) (notes_of o p kept) (events.Issue r a) (step.Issue why) w (ap as_issue is);
  keeps = keeps;
  kept_is = same;
}

pub issue_leaves : (o : Schema) (p : Plan) (vs : List Replica) (links : List (List (List ℕ))) (ds : List Fed) (kept kept' : List Told) (sent r : ℕ) (a : Act) (why : IssueRefusal) →
    IsKept o p kept → world_refusal (setting_of p) (notes_of o p kept) (events.Issue r a) ≡ None → kept' ≡ kept →
    ((why ≡ issue.NoMemory) ⊎ (Keeps o p vs links ds kept' sent × (issue_refusal (rules_of o) (setting_of p) (words_of (rules_of o) (setting_of p) (notes_of o p kept) r) r a ≡ Some why))) →
    Leaves o p vs links ds kept kept' sent (events.Issue r a) (Err (step_of why))
issue_leaves o p vs links ds kept kept' sent r a issue.NoMemory is w same h = halts_at_once o p kept kept' (inputs_of (events.Issue r a)) same is
issue_leaves o p vs links ds kept kept' sent r a issue.UnknownMethod is w same (inl e) = absurd cc
issue_leaves o p vs links ds kept kept' sent r a issue.UnknownMethod is w same (inr h) = refused_act o p vs links ds kept kept' sent r a issue.UnknownMethod w same h.0 h.1
issue_leaves o p vs links ds kept kept' sent r a issue.BadArgs is w same (inl e) = absurd cc
issue_leaves o p vs links ds kept kept' sent r a issue.BadArgs is w same (inr h) = refused_act o p vs links ds kept kept' sent r a issue.BadArgs w same h.0 h.1
issue_leaves o p vs links ds kept kept' sent r a issue.LaneFull is w same (inl e) = absurd cc
issue_leaves o p vs links ds kept kept' sent r a issue.LaneFull is w same (inr h) = refused_act o p vs links ds kept kept' sent r a issue.LaneFull w same h.0 h.1
issue_leaves o p vs links ds kept kept' sent r a issue.RequestsFull is w same (inl e) = absurd cc
issue_leaves o p vs links ds kept kept' sent r a issue.RequestsFull is w same (inr h) = refused_act o p vs links ds kept kept' sent r a issue.RequestsFull w same h.0 h.1

-- the same object and plan under other names
pub keeps_as : (o o' : Schema) (p p' : Plan) (vs : List Replica) (links : List (List (List ℕ))) (ds : List Fed) (kept : List Told) (sent : ℕ) → o' ≡ o → p' ≡ p → Keeps o' p' vs links ds kept sent → Keeps o p vs links ds kept sent
keeps_as o o' p p' vs links ds kept sent e f k =
    let F : Schema → Type 0 = λ q. Keeps q p' vs links ds kept sent in
    let G : Plan → Type 0 = λ q. Keeps o q vs links ds kept sent in
    subst G f (subst F e k)

-- a world that was stopped stays as it is
pub stopped_stays : (r : Run) (e : Event) → r.stopped ≡ true → Stops r r e
stopped_stays r e stopped = (0, λ i. record { object = r.object; plan = r.plan; notes = sym (taken-none r.object (setting_of r.plan) r.notes) i; stopped = stopped i })

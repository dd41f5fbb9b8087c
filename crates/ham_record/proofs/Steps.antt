-- A schedule that is played to its end, line by line.
use Rattle.std.proofs.Common.{◌≡◌, ℕ, List, [], Some, None, Err, refl, sym, ap, subst, ◌∙◌}
use Rattle.ham_syntax.specs.Objects.{Schema}
use Rattle.ham_plan.specs.Plans.{Plan}
use Rattle.ham_turns.specs.Settings.{Setting, setting_of}
use Rattle.ham_runs.specs.Runs.{Note}
use Rattle.ham_world.specs.Worlds.{Run, begun}
use Rattle.ham_replay.specs.declared.end.Refusal.{Refusal}
use Rattle.ham_replay.specs.Ends.{IsLineOutcome}
use Rattle.ham_replay.specs.Replays.{LineOutcome, Refuses, Answers, Played, line_outcome, then_played, ended, refused_at}
use Rattle.ham_record.specs.declared.running.Halt.{Halt}
use Rattle.ham_record.specs.declared.running.Halt.TheVariants.{Refused, NoMemory}
use Rattle.ham_record.specs.Recorded.{IsWhole, IsRest, MakesWorld, PlaysRest}

-- so much is played, and what is left ends alike
pub record Running (old now : Run) (whole rest : Played) : Type 0 where
  pub refused : whole.refused ≡ rest.refused
  pub notes : whole.notes ≡ rest.notes
  pub replicas : whole.replicas ≡ rest.replicas
  pub same : now ≡ record old { notes = now.notes }

pub begins : (old : Run) (whole : Played) → Running old old whole whole
begins old whole = record { refused = refl; notes = refl; replicas = refl; same = refl }

answered_same : (old new : Run) (text : List ℕ) (t : LineOutcome) → IsLineOutcome old new [] text t None → new ≡ record old { notes = new.notes }
answered_same old new text (Answers notes told) h = h.0 ∙ ap (λ (ns : List Note). record old { notes = ns }) (sym (ap (λ (r : Run). r.notes) h.0))
answered_same old new text (Refuses why) h = absurd h

pub goes_on : (old mid now : Run) (whole rest rest_now : Played) (line text : List ℕ) → Running old mid whole rest → rest ≡ then_played text rest_now →
    IsLineOutcome mid now [] text (line_outcome mid.object (setting_of mid.plan) mid.notes line) None → Running old now whole rest_now
goes_on old mid now whole rest rest_now line text p e turn =
    let step = answered_same mid now text (line_outcome mid.object (setting_of mid.plan) mid.notes line) turn in
    record {
      refused = p.refused ∙ ap (λ (q : Played). q.refused) e;
      notes = p.notes ∙ ap (λ (q : Played). q.notes) e;
      replicas = p.replicas ∙ ap (λ (q : Played). q.replicas) e;
      same = step ∙ ap (λ (r : Run). record r { notes = now.notes }) p.same;
    }

pub finishes : (old now : Run) (whole rest : Played) → Running old now whole rest → rest ≡ ended (Some now.plan.replicas) now.notes → IsRest old now whole
finishes old now whole rest p e = record {
  run = p.same ∙ ap (λ (ns : List Note). record old { notes = ns }) (sym (p.notes ∙ ap (λ (q : Played). q.notes) e));
  replicas = p.replicas ∙ ap (λ (q : Played). q.replicas) e ∙ ap (λ (r : Run). Some r.plan.replicas) p.same;
  refused = p.refused ∙ ap (λ (q : Played). q.refused) e;
}

pub halts : (old now : Run) (whole rest : Played) (refusal : Refusal) → Running old now whole rest → rest ≡ refused_at (Some now.plan.replicas) now.notes refusal → whole.refused ≡ Some refusal
halts old now whole rest refusal p e = p.refused ∙ ap (λ (q : Played). q.refused) e

-- the world of the whole run, made by the first line
pub made_whole : (o : Schema) (settings : ℕ → Setting) (p : Plan) (n : ℕ) (begin world : Run) (whole rest : Played) (text : List ℕ) →
    begin ≡ begun o p → p.replicas ≡ n → settings n ≡ setting_of p → whole ≡ then_played text rest → IsRest begin world rest → IsWhole o settings whole world
made_whole o settings p n begin world whole rest text made replicas setting e h =
    let run : world ≡ record (begun o p) { notes = rest.notes } = h.run ∙ ap (λ (r : Run). record r { notes = rest.notes }) made in
    let count : world.plan.replicas ≡ p.replicas = ap (λ (r : Run). r.plan.replicas) run in
    record {
      object = ap (λ (r : Run). r.object) run;
      going = ap (λ (r : Run). r.stopped) run;
      replicas = ap (λ (q : Played). q.replicas) e ∙ h.replicas ∙ ap (λ (r : Run). Some r.plan.replicas) made ∙ ap Some (sym count);
      setting = ap settings (count ∙ replicas) ∙ setting ∙ ap setting_of (sym (ap (λ (r : Run). r.plan) run));
      notes = ap (λ (q : Played). q.notes) e ∙ sym (ap (λ (r : Run). r.notes) run);
      refused = ap (λ (q : Played). q.refused) e ∙ h.refused;
    }

-- a refused line ends the whole
pub halted : (o : Schema) (settings : ℕ → Setting) (old new : Run) (whole rest : Played) (text : List ℕ) (why other : Halt) → other ≡ why → whole ≡ then_played text rest → PlaysRest old new rest (Err why) → MakesWorld o settings whole (Err other)
halted o settings old new whole rest text (Refused refusal) other q e h = subst (λ (x : Halt). MakesWorld o settings whole (Err x)) (sym q) (ap (λ (p : Played). p.refused) e ∙ h)
halted o settings old new whole rest text NoMemory other q e h = subst (λ (x : Halt). MakesWorld o settings whole (Err x)) (sym q) tt

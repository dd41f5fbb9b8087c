-- One list of inputs gives one run.
use Rattle.std.proofs.Common.{◌≡◌, ◌++◌, ℕ, cond, eqb, List, [], ◌∷◌, refl, sym, subst, ap, ◌∙◌}
use Rattle.std.specs.Prelude.{Option}
use Rattle.ham_syntax.specs.declared.act.Place.{Place}
use Rattle.ham_syntax.specs.declared.act.Call.{Call}
use Rattle.ham_laws.specs.Executions.{IsSound}
use Rattle.ham_laws.specs.Drain.{Drains}
use Rattle.ham_runs.specs.Facts.{constraints, IsSetting, Laws, IsGiven}
use Rattle.ham_turns.specs.Settings.{Rules, Setting, meaning_by}
use Rattle.ham_turns.specs.Words.{Intake, ActComes, FrameComes, PartComes, Beat, numbered}
use Rattle.ham_turns.specs.Work.{place_made, call_in, answer_of, ruled_of, made_of}
use Rattle.ham_turns.specs.Sends.{sent_by}
use Rattle.ham_runs.specs.Runs.{Note, log_of, decision_of, decisions, execution_of, decided_execution, pushed, on_link, arrived, places, words_of, MayTake, IsNext, IsRun}
use Rattle.ham_runs.specs.Next.{input_of, inputs}
use Rattle.ham_runs.specs.Claims.{OneRun}
use Rattle.ham_runs.proofs.Listed.{some_inj}
use Rattle.ham_runs.proofs.Begun.{IsBegun, delivered_known, mid_kept}
use Rattle.ham_runs.proofs.Steps.{run_kept}

module _ (x : Rules) (y : Setting) (earlier : List Note) (r : ℕ) where
  took_one : (t u : Intake) → MayTake x y earlier r t → MayTake x y earlier r u → input_of r t ≡ input_of r u → t ≡ u
  took_one (ActComes a) (ActComes b) mt mu h = cc
  took_one (FrameComes f k z) (FrameComes f' k' z') mt mu h =
      let qf : f ≡ f' = cc in
      let qk : k ≡ k' = cc in
      let qz : z ≡ z' = some_inj z z' (sym mt ∙ ap (λ v. numbered (on_link earlier v r) k) qf ∙ ap (λ v. numbered (on_link earlier f' r) v) qk ∙ mu) in
      cc
  took_one (PartComes f k z) (PartComes f' k' z') mt mu h =
      let qf : f ≡ f' = cc in
      let qk : k ≡ k' = cc in
      let qz : z ≡ z' = some_inj z z' (sym mt ∙ ap (λ v. numbered (on_link earlier v r) k) qf ∙ ap (λ v. numbered (on_link earlier f' r) v) qk ∙ mu) in
      cc
  took_one Beat Beat mt mu h = refl
  took_one (ActComes a) (FrameComes f k z) mt mu h = cc
  took_one (ActComes a) (PartComes f k z) mt mu h = cc
  took_one (ActComes a) Beat mt mu h = cc
  took_one (FrameComes f k z) (ActComes a) mt mu h = cc
  took_one (FrameComes f k z) (PartComes f' k' z') mt mu h = cc
  took_one (FrameComes f k z) Beat mt mu h = cc
  took_one (PartComes f k z) (ActComes a) mt mu h = cc
  took_one (PartComes f k z) (FrameComes f' k' z') mt mu h = cc
  took_one (PartComes f k z) Beat mt mu h = cc
  took_one Beat (ActComes a) mt mu h = cc
  took_one Beat (FrameComes f k z) mt mu h = cc
  took_one Beat (PartComes f k z) mt mu h = cc

cancel : {X : Type 0} (xs ys zs : List X) → xs ++ ys ≡ xs ++ zs → ys ≡ zs
cancel [] ys zs h = h
cancel (v ∷ vs) ys zs h = cancel vs ys zs (cc)

heads : {X : Type 0} (u v : X) (us vs : List X) → u ∷ us ≡ v ∷ vs → (u ≡ v) × (us ≡ vs)
heads u v us vs h = (cc, cc)

empty : {X : Type 0} (v : X) (vs : List X) → v ∷ vs ≡ [] → ⊥
empty v vs h = cc

join : {X : Type 0} (u v : X) (us vs : List X) → u ≡ v → us ≡ vs → u ∷ us ≡ v ∷ vs
join u v us vs h k = cc

no_last : {X : Type 0} (xs : List X) (v : X) → xs ++ v ∷ [] ≡ [] → ⊥
no_last [] v h = empty v [] h
no_last (u ∷ us) v h = empty u (us ++ v ∷ []) h

lasts : {X : Type 0} (xs ys : List X) (u v : X) → xs ++ u ∷ [] ≡ ys ++ v ∷ [] → (xs ≡ ys) × (u ≡ v)
lasts [] [] u v h = (refl, (heads u v [] [] h).0)
lasts [] (y ∷ ys) u v h = absurd (no_last ys v (sym (heads u y [] (ys ++ v ∷ []) h).1))
lasts (x ∷ xs) [] u v h = absurd (no_last xs u (heads x v (xs ++ u ∷ []) [] h).1)
lasts (x ∷ xs) (y ∷ ys) u v h =
    let w = heads x y (xs ++ u ∷ []) (ys ++ v ∷ []) h in
    let rest = lasts xs ys u v w.1 in
    (join x y xs ys w.0 rest.0, rest.1)

-- the drain of a turn, by what the turn is
abbrev TurnDrains : Rules → Setting → List Note → ℕ → Intake → Option Call → List Place → Type 0
TurnDrains x y earlier at took made after =
    Drains (meaning_by x) (constraints y) (execution_of (decisions earlier ++ decision_of at (log_of earlier at) made) (pushed (log_of earlier) at (place_made made)))
    (places (cond (eqb at at) (arrived earlier at ++ call_in took) (arrived earlier at))) (log_of earlier at ++ place_made made) (log_of earlier at ++ after)

module _ (x : Rules) (y : Setting) (setting : IsSetting x y) (sound : IsSound (meaning_by x) (constraints y)) (laws : Laws (meaning_by x)) where
  pub note_one : (earlier : List Note) (n m : Note) → IsRun x y earlier → IsNext x y earlier n → IsNext x y earlier m → n.at ≡ m.at → input_of n.at n.took ≡ input_of n.at m.took → n ≡ m
  note_one earlier n m run next mext at input =
      let kept = run_kept x y setting sound laws earlier run in
      let begun : IsBegun x y earlier n = record { replica = next.replica; may = next.may; made = next.made } in
      let took : n.took ≡ m.took = took_one x y earlier n.at n.took m.took next.may (subst (λ z. MayTake x y earlier z m.took) (sym at) mext.may) input in
      let answer : n.answer ≡ m.answer =
      next.answer ∙ ap (λ z. answer_of x y (words_of x y earlier z) z n.took) at ∙ ap (λ z. answer_of x y (words_of x y earlier m.at) m.at z) took ∙ sym mext.answer in
      let ruled : n.ruled ≡ m.ruled =
      next.ruled ∙ ap (λ z. ruled_of x (words_of x y earlier z) n.took) at ∙ ap (λ z. ruled_of x (words_of x y earlier m.at) z) took ∙ sym mext.ruled in
      let made : n.made ≡ m.made =
      next.made ∙ ap (λ z. made_of x y (words_of x y earlier z) z n.took) at ∙ ap (λ z. made_of x y (words_of x y earlier m.at) m.at z) took ∙ sym mext.made in
      let drain : TurnDrains x y earlier n.at n.took n.made m.logged =
      subst (λ z. TurnDrains x y earlier n.at n.took z m.logged) (sym made)
      (subst (λ z. TurnDrains x y earlier n.at z m.made m.logged) (sym took)
      (subst (λ z. TurnDrains x y earlier z m.took m.made m.logged) (sym at) mext.logged)) in
      let after : log_of earlier n.at ++ n.logged ≡ log_of earlier n.at ++ m.logged =
      (laws.drains_reach (constraints y) (decided_execution n earlier) (places (arrived (n ∷ earlier) n.at)) _ _ (delivered_known x y setting sound laws earlier n kept begun) next.logged).2
      (mid_kept x y setting sound laws earlier n kept begun).ordered _ _ (λ z k. k, λ z k. k) drain in
      let logged : n.logged ≡ m.logged = cancel (log_of earlier n.at) n.logged m.logged after in
      let sent : n.sent ≡ m.sent =
      next.sent ∙ ap (λ z. sent_by y (words_of x y earlier z) z n.took n.answer n.ruled n.made (log_of earlier z ++ n.logged)) at
      ∙ ap (λ z. sent_by y (words_of x y earlier m.at) m.at z n.answer n.ruled n.made (log_of earlier m.at ++ n.logged)) took
      ∙ ap (λ z. sent_by y (words_of x y earlier m.at) m.at m.took z n.ruled n.made (log_of earlier m.at ++ n.logged)) answer
      ∙ ap (λ z. sent_by y (words_of x y earlier m.at) m.at m.took m.answer z n.made (log_of earlier m.at ++ n.logged)) ruled
      ∙ ap (λ z. sent_by y (words_of x y earlier m.at) m.at m.took m.answer m.ruled z (log_of earlier m.at ++ n.logged)) made
      ∙ ap (λ z. sent_by y (words_of x y earlier m.at) m.at m.took m.answer m.ruled m.made (log_of earlier m.at ++ z)) logged ∙ sym mext.sent in
      λ i. record { at = at i; took = took i; answer = answer i; ruled = ruled i; made = made i; logged = logged i; sent = sent i }

  at_one : (r q : ℕ) (t u : Intake) → input_of r t ≡ input_of q u → r ≡ q
  at_one r q (ActComes a) (ActComes b) h = cc
  at_one r q (FrameComes f k z) (FrameComes f' k' z') h = cc
  at_one r q (PartComes f k z) (PartComes f' k' z') h = cc
  at_one r q Beat Beat h = cc
  at_one r q (ActComes a) (FrameComes f k z) h = cc
  at_one r q (ActComes a) (PartComes f k z) h = cc
  at_one r q (ActComes a) Beat h = cc
  at_one r q (FrameComes f k z) (ActComes a) h = cc
  at_one r q (FrameComes f k z) (PartComes f' k' z') h = cc
  at_one r q (FrameComes f k z) Beat h = cc
  at_one r q (PartComes f k z) (ActComes a) h = cc
  at_one r q (PartComes f k z) (FrameComes f' k' z') h = cc
  at_one r q (PartComes f k z) Beat h = cc
  at_one r q Beat (ActComes a) h = cc
  at_one r q Beat (FrameComes f k z) h = cc
  at_one r q Beat (PartComes f k z) h = cc

  one_run : (notes others : List Note) → IsRun x y notes → IsRun x y others → inputs notes ≡ inputs others → notes ≡ others
  one_run [] [] run run' h = refl
  one_run [] (m ∷ others) run run' h = absurd (no_last _ _ (sym h))
  one_run (n ∷ notes) [] run run' h = absurd (no_last _ _ h)
  one_run (n ∷ notes) (m ∷ others) run run' h =
      let w = lasts (inputs notes) (inputs others) (input_of n.at n.took) (input_of m.at m.took) h in
      let same : notes ≡ others = one_run notes others run.1 run'.1 w.0 in
      let at : n.at ≡ m.at = at_one n.at m.at n.took m.took w.1 in
      join n m notes others
      (note_one notes n m run.1 run.0 (subst (λ z. IsNext x y z m) (sym same) run'.0) at (w.1 ∙ ap (λ z. input_of z m.took) (sym at))) same

pub runs_one : (x : Rules) (y : Setting) → IsGiven x y → OneRun x y
runs_one x y given = one_run x y given.setting given.sound given.laws

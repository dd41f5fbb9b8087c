-- The events of a script are taken, one after another, and its lines can be printed.
use Rattle.std.proofs.Common.{◌≡◌, ℕ, zero, ◌+◌, ◌<◌, ◌==◌, Bool, true, false, ◌||◌, List, [], ◌∷◌, ◌++◌, length, Option, Some, None, refl, sym, ap, subst, ◌∙◌, arith}
use Rattle.std.specs.Prelude.{if◌then◌else◌, is_some, nat_le}
use Rattle.std.specs.List.{AllByRecursion}
use Rattle.std.proofs.lemmas.Nat.{mod_below}
use Rattle.std.proofs.lemmas.Bool.{eqb-false}
use Rattle.ham_syntax.specs.Objects.{Schema}
use Rattle.ham_turns.specs.Settings.{Setting}
use Rattle.ham_turns.specs.declared.event.Event.{Event}
use Rattle.ham_turns.specs.declared.event.Event.TheVariants as events
use Rattle.ham_runs.specs.Runs.{Note, on_link}
use Rattle.ham_grammar.specs.Lines.{IsPrintableEvent}
use Rattle.ham_world.specs.declared.refusal.StepRefusal.{StepRefusal}
use Rattle.ham_world.specs.Worlds.{refusal_of, taken, inputs_of}
use Rattle.ham_bulk.specs.Scripts.{Script, after_refusal, after_event, next, drawn, tick_drawn, frame_drawn, deliver_drawn, act_drawn, issue_drawn, replica_drawn, round, generated}
use Rattle.ham_bulk.specs.Scripted.{AreTaken}
use Rattle.ham_bulk.proofs.Keeping.{AreDrawn, generated_keeps}

same_some : (e f : Event) → Some e ≡ Some f → e ≡ f
same_some e f h = cc

module _ (o : Schema) (y : Setting) where
  -- ---- taken

  more_taken : (notes mid end : List Note) (es : List Event) (e : Event) → AreTaken o y notes es mid → refusal_of o y mid e ≡ None → end ≡ taken o y mid (inputs_of e) → AreTaken o y notes (es ++ e ∷ []) end
  more_taken notes mid end [] e h is same =
      (subst (λ (ns : List Note). refusal_of o y ns e ≡ None) h is, same ∙ ap (λ (ns : List Note). taken o y ns (inputs_of e)) h)
  more_taken notes mid end (d ∷ es) e h is same = (h.0, more_taken (taken o y notes (inputs_of d)) mid end es e h.1 is same)

  abbrev IsTakenScript : Script → Type 0
  IsTakenScript s = AreTaken o y [] s.events s.notes

  by_refusal : (s : Script) (e : Event) (why : Option StepRefusal) → refusal_of o y s.notes e ≡ why → IsTakenScript s → IsTakenScript (after_refusal o y s e why)
  by_refusal s e None is h = more_taken [] s.notes (taken o y s.notes (inputs_of e)) s.events e h is refl
  by_refusal s e (Some why) is h = h

  unless_refused : (b : Bool) (s : Script) (e : Event) → IsTakenScript s → IsTakenScript (if b then s else after_refusal o y s e (refusal_of o y s.notes e))
  unless_refused true s e h = h
  unless_refused false s e h = by_refusal s e (refusal_of o y s.notes e) refl h

  event_taken : (s : Script) (e : Event) → IsTakenScript s → IsTakenScript (after_event o y s e)
  unfolding after_event
  event_taken s e h = unless_refused (is_some s.refused) s e h

  pub generated_taken : (seed n : ℕ) → AreTaken o y [] (generated o y seed n).events (generated o y seed n).notes
  generated_taken seed n = generated_keeps o y (λ e. Unit {0}) IsTakenScript (λ s e is h. event_taken s e h) (λ s x h. h) (λ notes x e is. tt) (λ from to k. tt) seed n refl

  -- ---- printed

  abbrev ArePrintable : List Event → Type 0
  ArePrintable es = AllByRecursion (IsPrintableEvent o) es

  one_more : (es : List Event) (e : Event) → IsPrintableEvent o e → ArePrintable es → ArePrintable (es ++ e ∷ [])
  one_more [] e is h = (is, tt)
  one_more (d ∷ es) e is h = (h.0, one_more es e is h.1)

  print_by : (s : Script) (e : Event) (why : Option StepRefusal) → IsPrintableEvent o e → ArePrintable s.events → ArePrintable (after_refusal o y s e why).events
  print_by s e None is h = one_more s.events e is h
  print_by s e (Some why) is h = h

  print_unless : (b : Bool) (s : Script) (e : Event) → IsPrintableEvent o e → ArePrintable s.events → ArePrintable (if b then s else after_refusal o y s e (refusal_of o y s.notes e)).events
  print_unless true s e is h = h
  print_unless false s e is h = print_by s e (refusal_of o y s.notes e) is h

  event_prints : (s : Script) (e : Event) → IsPrintableEvent o e → ArePrintable s.events → ArePrintable (after_event o y s e).events
  unfolding after_event
  event_prints s e is h = print_unless (is_some s.refused) s e is h

  tick_prints : (x : ℕ) (e : Event) → (tick_drawn y x).event ≡ Some e → IsPrintableEvent o e
  tick_prints x e is = subst (IsPrintableEvent o) (same_some (events.Tick (replica_drawn y x)) e is) tt

  deliver_by : (b : Bool) (from to count x : ℕ) (e : Event) → ((from == to) || (count == 0)) ≡ b → (frame_drawn from to count x).event ≡ Some e → IsPrintableEvent o e
  deliver_by true from to count x e t is = absurd (let bad = rw t at is in cc)
  deliver_by false from to count x e t is = let got = rw t at is in subst (IsPrintableEvent o) (same_some (events.Deliver from to (drawn x count + 1)) e got) tt

  issue_by : (b : Bool) (x : ℕ) (e : Event) → (length o.methods == 0) ≡ b → (issue_drawn o y x).event ≡ Some e → IsPrintableEvent o e
  issue_by true x e t is = absurd (let bad = rw t at is in cc)
  issue_by false x e t is =
      let got = rw t at is in
      let some : length o.methods ≡ 0 → ⊥ = eqb-false (length o.methods) 0 t in
      subst (IsPrintableEvent o) (same_some _ _ got) (mod_below _ (length o.methods) (omega (arith, some)))

  round_by_tests : (a b : Bool) (notes : List Note) (x : ℕ) (e : Event) → (if a then tick_drawn y x else if b then deliver_drawn y notes x else issue_drawn o y x).event ≡ Some e → IsPrintableEvent o e
  round_by_tests true b notes x e is = tick_prints x e is
  round_by_tests false true notes x e is =
      let from = replica_drawn y x in
      let to = replica_drawn y (next x) in
      let count = length (on_link notes from to) in
      deliver_by ((from == to) || (count == 0)) from to count (next (next x)) e refl is
  round_by_tests false false notes x e is = issue_by (length o.methods == 0) x e refl is

  round_prints : AreDrawn o y (IsPrintableEvent o)
  unfolding round
  round_prints notes x e is = round_by_tests (drawn x 256 == 0) (nat_le (drawn x 256) 127) notes (next x) e is

  pub generated_prints : (seed n : ℕ) → ArePrintable (generated o y seed n).events
  generated_prints seed n = generated_keeps o y (IsPrintableEvent o) (λ s. ArePrintable s.events) event_prints (λ s x h. h) round_prints (λ from to k. tt) seed n tt

-- What is kept by every event of a script is so of every script.
use Rattle.std.proofs.Common.{◌≡◌, ℕ, zero, suc, ◌+◌, ◌-◌, Bool, true, false, List, [], ◌∷◌, Option, Some, None, refl}
use Rattle.std.specs.Prelude.{if◌then◌else◌, fold, map, length, slice_index, replicate}
use Rattle.std.specs.List.{range_with_len}
use Rattle.ham_syntax.specs.Objects.{Schema}
use Rattle.ham_turns.specs.Settings.{Setting}
use Rattle.ham_turns.specs.declared.event.Event.{Event}
use Rattle.ham_turns.specs.declared.event.Event.TheVariants as events
use Rattle.ham_runs.specs.Runs.{Note, on_link}
use Rattle.ham_bulk.specs.Scripts.{Script, Swept, Link, after_event, after_draw, after_round, rounds, round, reached_last, links_from, deliveries, link_swept, swept_from, swept, swept_twice, opening_script, generated}
use Rattle.ham_bulk.specs.declared.reached.TheConstants.{MAX_LINKS}

-- an event that a round may draw
abbrev pub AreDrawn : Schema → Setting → (Event → Type 0) → Type 0
AreDrawn o y Is = (notes : List Note) (x : ℕ) (e : Event) → (round o y notes x).event ≡ Some e → Is e

module _ (o : Schema) (y : Setting) (Is : Event → Type 0) (Holds : Script → Type 0)
    (keeps : (s : Script) (e : Event) → Is e → Holds s → Holds (after_event o y s e))
    (renumbered : (s : Script) (x : ℕ) → Holds s → Holds (record s { number = x }))
    (drawn : AreDrawn o y Is) (delivered : (from to k : ℕ) → Is (events.Deliver from to k)) where
  draw_keeps : (s : Script) (found : Option Event) → ((e : Event) → found ≡ Some e → Is e) → Holds s → Holds (after_draw o y s found)
  draw_keeps s None is h = h
  draw_keeps s (Some e) is h = keeps s e (is e refl) h

  round_keeps : (s : Script) → Holds s → Holds (after_round o y s)
  unfolding after_round
  round_keeps s h = draw_keeps (record s { number = (round o y s.notes s.number).number }) (round o y s.notes s.number).event (drawn s.notes s.number) (renumbered s (round o y s.notes s.number).number h)

  rounds_keep : (n : ℕ) (s : Script) → Holds s → Holds (rounds o y n s)
  rounds_keep zero s h = h
  rounds_keep (suc n) s h = round_keeps (rounds o y n s) (rounds_keep n s h)

  deliveries_keep : (from to : ℕ) (ks : List ℕ) (s : Script) → Holds s → Holds (fold (after_event o y) s (map (events.Deliver from to) ks))
  deliveries_keep from to [] s h = h
  deliveries_keep from to (k ∷ ks) s h = deliveries_keep from to ks (after_event o y s (events.Deliver from to k)) (keeps s (events.Deliver from to k) (delivered from to k) h)

  link_keeps : (s : Swept) (l : Link) → Holds s.script → Holds (link_swept o y s l).script
  unfolding link_swept
  link_keeps s l h = deliveries_keep l.from l.to (range_with_len (reached_last s.done l + 1) (length (on_link s.script.notes l.from l.to) - reached_last s.done l)) s.script h

  links_keep : (ls : List Link) (s : Swept) → Holds s.script → Holds (fold (link_swept o y) s ls).script
  links_keep [] s h = h
  links_keep (l ∷ ls) s h = links_keep ls (link_swept o y s l) (link_keeps s l h)

  senders_keep : (fs : List ℕ) (s : Swept) → Holds s.script → Holds (fold (swept_from o y) s fs).script
  senders_keep [] s h = h
  senders_keep (f ∷ fs) s h = senders_keep fs (swept_from o y s f) (links_keep (links_from y.replicas f) s h)

  sweep_keeps : (s : Swept) → Holds s.script → Holds (swept o y s).script
  unfolding swept
  sweep_keeps s h = senders_keep (range_with_len 1 y.replicas) s h

  twice_keep : (s : Script) → Holds s → Holds (swept_twice o y s)
  unfolding swept_twice
  twice_keep s h = sweep_keeps (swept o y (record { script = s; done = replicate MAX_LINKS 0 })) (sweep_keeps (record { script = s; done = replicate MAX_LINKS 0 }) h)

  pub generated_keeps : (seed n : ℕ) → Holds (opening_script seed) → Holds (generated o y seed n)
  unfolding generated
  generated_keeps seed n h = twice_keep (rounds o y n (opening_script seed)) (rounds_keep n (opening_script seed) h)

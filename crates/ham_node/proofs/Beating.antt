-- A tick more.
use Rattle.std.proofs.Common.{◌≡◌, ℕ, ◌≤◌, ◌<◌, List, Option, subst, arith, inl, inr}
use Rattle.ham_syntax.specs.Objects.{Schema}
use Rattle.ham_plan.specs.Plans.{Plan}
use Rattle.ham_core.specs.Doors.{EntersBy}
use Rattle.ham_node.specs.Beats.{Beats, Again}
use Rattle.ham_journal.specs.declared.entry.Entry.{Entry}
use Rattle.ham_journal.specs.declared.input.Input.TheVariants as inputs
use Rattle.ham_journal.specs.declared.input.Reply.{Reply}

pub beats_at : (o o1 : Schema) (p p1 : Plan) (m m1 : ℕ) (h h1 h2 : Option (List Entry)) (r : Reply)
    → Beats o p m h h1 → o1 ≡ o → p1 ≡ p → m1 ≡ m → EntersBy o1 p1 m1 h1 h2 inputs.Tick r → Beats o p m h h2
beats_at o o1 p p1 m m1 h h1 h2 r b eo ep em e =
    Again h1 h2 r b
    (subst (λ (n : ℕ). EntersBy o p n h1 h2 inputs.Tick r) em
    (subst (λ (q : Plan). EntersBy o q m1 h1 h2 inputs.Tick r) ep
    (subst (λ (c : Schema). EntersBy c p1 m1 h1 h2 inputs.Tick r) eo e)))

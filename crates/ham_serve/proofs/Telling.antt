-- What a line enters is no delivery.
use Rattle.std.proofs.Common.{◌≡◌, ◌≢◌, ℕ, Option, Some, None, sym, subst}
use Rattle.std.specs.Prelude.{nat_lt, nat_le, ◌&&◌, Bool, true, false, if◌then◌else◌}
use Rattle.ham_syntax.specs.declared.limits.TheConstants.{MAX_GROUPS, MAX_REQUESTS}
use Rattle.ham_frame.specs.declared.frame.Frame.{Frame}
use Rattle.ham_turns.specs.Settings.{Setting}
use Rattle.ham_lines.specs.declared.client.ClientLine.{ClientLine}
use Rattle.ham_lines.specs.declared.client.ClientLine.TheVariants as lines
use Rattle.ham_journal.specs.declared.input.Input.{Input}
use Rattle.ham_journal.specs.declared.input.Input.TheVariants as inputs
use Rattle.ham_journal.specs.Replies.{MayEnter}
use Rattle.ham_serve.specs.Texts.{input_by, verdict_by}

-- no line enters a delivery
not_delivery : (i : Input) → ((from : ℕ) (f : Frame) → i ≢ inputs.Deliver from f) → (y : Setting) (me : ℕ) → MayEnter y me i
not_delivery i n y me from f e = absurd (n from f e)

verdict_not : (b : Bool) (g n from : ℕ) (f : Frame) → (if b then inputs.Verdict g n else inputs.Verdict 0 0) ≢ inputs.Deliver from f
verdict_not true g n from f q = cc
verdict_not false g n from f q = cc

line_enters : (l : ClientLine) (i : Input) (y : Setting) (me : ℕ) → input_by l ≡ Some i → MayEnter y me i
line_enters l i y me e = subst (λ (o : Option Input). Fine o) e (fine l)
  where
    Fine : Option Input → Type 0
    Fine None = Unit {0}
    Fine (Some z) = MayEnter y me z

    fine : (l : ClientLine) → Fine (input_by l)
    fine (lines.Issue a) = not_delivery (inputs.Issue a) (λ from f q. cc) y me
    fine (lines.Show counter key) = not_delivery (inputs.Show counter key) (λ from f q. cc) y me
    fine (lines.Rows relation) = not_delivery (inputs.Rows relation) (λ from f q. cc) y me
    fine (lines.Verdict g n) = not_delivery (verdict_by g n) (verdict_not (nat_lt g MAX_GROUPS && nat_le n MAX_REQUESTS) g n) y me
    fine lines.Log = not_delivery inputs.Log (λ from f q. cc) y me
    fine lines.Counts = not_delivery inputs.Counts (λ from f q. cc) y me
    fine lines.Record = not_delivery inputs.Record (λ from f q. cc) y me
    fine lines.Quit = tt
    fine lines.Stop = not_delivery inputs.Stop (λ from f q. cc) y me

pub may_enter : (l : ClientLine) (i : Input) (y : Setting) (me : ℕ) → Some i ≡ input_by l → MayEnter y me i
may_enter l i y me e = line_enters l i y me (sym e)

use Rattle.std.proofs.Common.{◌≡◌, ◌++◌, ◌∙◌, ℕ, List, ap, subst, append_assoc}
use Rattle.std.specs.Prelude.{OnOk}
use Rattle.ham_text.specs.Written.{line_text}
use Rattle.ham_records.specs.Texts.{opening_words, replicas_words}
use Rattle.ham_records.proofs.writer.push_opening.Goals as goal

pub returns : goal.returns
returns c =
    subst (λ (t : List ℕ). OnOk c.push_numbered.result (c.push_numbered.new.text ≡ t))
    (ap (λ (z : List ℕ). z ++ line_text (replicas_words c.args.replicas)) c.in_ok-extend.ensures.ok
    ∙ append_assoc c.args.text.now (line_text opening_words) (line_text (replicas_words c.args.replicas))) c.push_numbered.ensures

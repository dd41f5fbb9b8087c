-- What is skipped spells nothing.
use Rattle.std.proofs.Common.{◌≡◌, ℕ, false, List, refl, ap, ◌∙◌}
use Rattle.ham_grammar.specs.declared.written.Written.{Written}
use Rattle.ham_grammar.specs.declared.written.Written.TheVariants.{Replicas, Issue, Deliver, Pieces, Torn, Tick, Show, Rows, Log, Verdict, Sent, Frame, Compare}
use Rattle.ham_grammar.specs.Lines.{written_words, IsSpelling, are_skipped, is_skipped}

kept : (w : Written) → are_skipped (written_words w) ≡ false
kept (Replicas n) = refl
kept (Issue r act) = refl
kept (Deliver f t k) = refl
kept (Pieces f t k l cuts) = refl
kept (Torn f t k p) = refl
kept (Tick r) = refl
kept (Show r counter) = refl
kept (Rows r relation) = refl
kept (Log r) = refl
kept (Verdict r g k) = refl
kept (Sent f t) = refl
kept (Frame f t k) = refl
kept (Compare r s) = refl

pub not_skipped : (w : Written) (bytes : List ℕ) → IsSpelling w bytes → is_skipped bytes ≡ false
not_skipped w bytes h = ap are_skipped h.words ∙ kept w

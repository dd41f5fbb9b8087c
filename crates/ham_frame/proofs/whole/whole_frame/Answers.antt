use Rattle.std.proofs.Common.{List, ℕ, ◌++◌, ap, ◌∙◌, refl}
use Rattle.std.proofs.lemmas.Option.{MatchOption-at_some}
use Rattle.ham_frame.proofs.Plain.{plain_is}
use Rattle.ham_frame.proofs.whole.whole_frame.Goals as goal

pub returns : goal.returns
returns c =
    let fit = c.if-not-fits.ensures.0 refl in
    let any = MatchOption-at_some _ _ _ c.in-Some.is c.in_ok-frame.ensures in
    record { fits = fit; is = any ∙ ap (λ (bs : List ℕ). bs ++ c.in-Some.rest.now) (plain_is c.in-Some.frame fit) }

-- What `derive OBJECT CLAIM` and `example OBJECT CLAIM` answer.
--     claim_named    the claim on the methods of these names
use Rattle.std.specs.Prelude.{◌⊎◌, ℕ, List, [], ◌∷◌, ◌++◌, Option, Some, None, codes, option_map}
use Rattle.std.specs.Fmt.{decimal}
use Rattle.ham_syntax.specs.Objects.{Schema, method_named}
use Rattle.ham_rules.specs.declared.claim.Claim.{Claim}
use Rattle.ham_rules.specs.declared.claim.Claim.TheVariants as claims
use Rattle.ham_rules.specs.declared.claim.Reason.{Reason}
use Rattle.ham_rules.specs.Claims.{Derivable}
use Rattle.ham_rules.specs.Derivations.{IsGood}
use Rattle.ham_derive.specs.Texts.{text_of}
use Rattle.ham_analyse.specs.Analysis.{AreFirst, IsFirstWithout}
use Rattle.ham_witness.specs.declared.answers.Example.{Example}
use Rattle.ham_witness.specs.Cases.{cases}
use Rattle.ham_witness.specs.Shown.{IsFirstExample, NoneBreaks}
use Rattle.ham_witness.specs.ExampleText.{example_text}
use Rattle.ham_cli.specs.declared.exit.Exit.{Exit}
use Rattle.ham_cli.specs.declared.exit.Exit.TheVariants as exits
use Rattle.ham_cli.specs.declared.named.NamedClaim.{NamedClaim}
use Rattle.ham_cli.specs.declared.named.NamedClaim.TheVariants as named
use Rattle.ham_cli.specs.declared.refusal.Refusal.TheVariants as refusals
use Rattle.ham_cli.specs.Told.{IsTold, derivation_refusal}

-- a claim on two methods, where both are there
abbrev pub claim_of_both : (ℕ → ℕ → Claim) → Option ℕ → Option ℕ → Option Claim
claim_of_both claim (Some m) (Some n) = Some (claim m n)
claim_of_both claim (Some m) None = None
claim_of_both claim None n = None

unfoldable pub claim_named : Schema → NamedClaim → Option Claim
claim_named o (named.Sc m n) = claim_of_both claims.Sc (method_named o m) (method_named o n)
claim_named o (named.Pr m n) = claim_of_both claims.Pr (method_named o m) (method_named o n)
claim_named o (named.Pl m n) = claim_of_both claims.Pl (method_named o m) (method_named o n)
claim_named o (named.Is m) = option_map claims.Is (method_named o m)

-- a name of the claim is no method
abbrev pub IsUnnamed : Exit → List ℕ → Type 0
IsUnnamed exit text = IsTold exits.DerivationRefused (derivation_refusal refusals.UnknownName) exit text

-- ---- derive

-- the derivation of a claim: the first reason of each obligation, and it is good
pub record IsDerived (o : Schema) (claim : Claim) (reasons : List Reason) : Type 0 where
  pub first : AreFirst o claim reasons
  pub good : IsGood o claim reasons

abbrev pub none_line : ℕ → List ℕ
none_line k = codes "none " ++ (decimal k ++ 10 ∷ [])

-- the derivation, or the first obligation without a reason
abbrev pub AnswersDerive : Schema → Option Claim → Exit → List ℕ → Type 0
AnswersDerive o None exit text = IsUnnamed exit text
AnswersDerive o (Some claim) exit text =
    ((reasons : List Reason) × IsDerived o claim reasons × IsTold exits.Done (text_of o claim reasons) exit text)
    ⊎ ((k : ℕ) × IsFirstWithout o claim k × IsTold exits.Done (none_line k) exit text)

-- ---- example

abbrev pub derivable_line : List ℕ
derivable_line = codes "derivable" ++ 10 ∷ []

abbrev pub none_shown_line : List ℕ
none_shown_line = codes "none shown" ++ 10 ∷ []

-- no case shows the claim false, though it isn't derivable
pub record IsNotShown (o : Schema) (claim : Claim) : Type 0 where
  pub underivable : ¬ Derivable o claim
  pub none : NoneBreaks o claim (cases o claim)

-- the first case that shows the claim false, or that it is derivable, or neither
abbrev pub AnswersExample : Schema → Option Claim → Exit → List ℕ → Type 0
AnswersExample o None exit text = IsUnnamed exit text
AnswersExample o (Some claim) exit text =
    ((case : Example) × IsFirstExample o claim (cases o claim) case × IsTold exits.Done (example_text o claim case) exit text)
    ⊎ ((Derivable o claim × IsTold exits.Done derivable_line exit text) ⊎ (IsNotShown o claim × IsTold exits.Done none_shown_line exit text))

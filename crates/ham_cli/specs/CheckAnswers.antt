-- What `check OBJECT FILE` answers.
--     IsProof         the file is the text of a good derivation, so its claim holds
--     IsRefused       the file is none, by its first bad line or its first gap
use Rattle.std.specs.Prelude.{◌⊎◌, ℕ, List, [], ◌∷◌, ◌++◌, Option, Some, None, codes}
use Rattle.ham_syntax.specs.Objects.{Schema}
use Rattle.ham_rules.specs.declared.claim.Claim.{Claim}
use Rattle.ham_rules.specs.declared.claim.Reason.{Reason}
use Rattle.ham_rules.specs.Claims.{ClaimHolds}
use Rattle.ham_rules.specs.Derivations.{IsGood, IsFirstGap}
use Rattle.ham_derive.specs.Texts.{IsDerivationText, IsBadLine}
use Rattle.ham_cli.specs.declared.exit.Exit.{Exit}
use Rattle.ham_cli.specs.declared.exit.Exit.TheVariants as exits
use Rattle.ham_cli.specs.declared.refusal.Refusal.{Refusal}
use Rattle.ham_cli.specs.declared.refusal.Refusal.TheVariants as refusals
use Rattle.ham_cli.specs.Told.{IsTold, derivation_refusal}

-- the bytes are the text of a claim and of a good derivation of it
pub record IsGoodText (o : Schema) (bytes : List ℕ) : Type 0 where
  pub claim : Claim
  pub reasons : List Reason
  pub text : IsDerivationText o claim reasons bytes
  pub good : IsGood o claim reasons

-- they are, and the claim holds
pub record IsProof (o : Schema) (bytes : List ℕ) : Type 0 where
  pub text : IsGoodText o bytes
  pub holds : ClaimHolds o text.claim

-- the bytes are the text of a claim and reasons, of which this is the first gap
pub record HasGap (o : Schema) (bytes : List ℕ) (number : ℕ) : Type 0 where
  pub claim : Claim
  pub reasons : List Reason
  pub text : IsDerivationText o claim reasons bytes
  pub gap : IsFirstGap o claim reasons number

abbrev pub IsCause : Schema → List ℕ → Refusal → Type 0
IsCause o bytes (refusals.BadLine line) = IsBadLine o bytes line
IsCause o bytes (refusals.Obligation number) = HasGap o bytes number
IsCause o bytes refusals.UnknownName = ⊥

-- the bytes are no text of a good derivation, for this cause
pub record IsRefused (o : Schema) (bytes : List ℕ) (why : Refusal) : Type 0 where
  pub cause : IsCause o bytes why
  pub none : IsGoodText o bytes → ⊥

abbrev pub ok_line : List ℕ
ok_line = codes "ok" ++ 10 ∷ []

abbrev pub AnswersCheck : Schema → List ℕ → Exit → List ℕ → Type 0
AnswersCheck o bytes exit text =
    (IsProof o bytes × IsTold exits.Done ok_line exit text)
    ⊎ ((why : Refusal) × IsRefused o bytes why × IsTold exits.DerivationRefused (derivation_refusal why) exit text)

-- what is found of bytes: nothing to refuse, or why they are refused
abbrev pub IsVerdict : Schema → List ℕ → Option Refusal → Type 0
IsVerdict o bytes None = IsProof o bytes
IsVerdict o bytes (Some why) = IsRefused o bytes why

-- What a check of a derivation says of the bytes that spell it.
use Rattle.std.proofs.Common.{◌≡◌, ℕ, List, subst}
use Rattle.ham_syntax.specs.Objects.{Schema}
use Rattle.ham_rules.specs.declared.claim.Claim.{Claim}
use Rattle.ham_rules.specs.declared.claim.Reason.{Reason}
use Rattle.ham_rules.specs.Claims.{ClaimHolds}
use Rattle.ham_rules.specs.Derivations.{IsGood, IsFirstGap}
use Rattle.ham_derive.specs.Texts.{IsDerivationText, TextsAreOfOne, IsBadLine}
use Rattle.ham_cli.specs.declared.refusal.Refusal.TheVariants as refusals
use Rattle.ham_cli.specs.CheckAnswers.{IsGoodText, IsProof, IsRefused}

pub proved : (o : Schema) (bytes : List ℕ) (claim : Claim) (reasons : List Reason) → IsDerivationText o claim reasons bytes → IsGood o claim reasons → ClaimHolds o claim → IsProof o bytes
proved o bytes claim reasons text good holds = record { text = record { claim = claim; reasons = reasons; text = text; good = good }; holds = holds }

-- another reading of the bytes would be good of one that isn't
same_good : (o : Schema) (claim other : Claim) (reasons others : List Reason) → (claim ≡ other) × (reasons ≡ others) → IsGood o claim reasons → IsGood o other others
same_good o claim other reasons others e good = subst (λ (x : List Reason). IsGood o other x) e.1 (subst (λ (x : Claim). IsGood o x reasons) e.0 good)

pub gapped : (o : Schema) (bytes : List ℕ) (claim : Claim) (reasons : List Reason) (number : ℕ) → TextsAreOfOne o → IsDerivationText o claim reasons bytes → IsFirstGap o claim reasons number → (IsGood o claim reasons → ⊥) → IsRefused o bytes (refusals.Obligation number)
gapped o bytes claim reasons number one text gap bad = record {
  cause = record { claim = claim; reasons = reasons; text = text; gap = gap };
  none = λ (g : IsGoodText o bytes). bad (same_good o g.claim claim g.reasons reasons (one g.claim claim g.reasons reasons bytes g.text text) g.good);
}

pub ill_spelled : (o : Schema) (bytes : List ℕ) (line : ℕ) → IsBadLine o bytes line → ((claim : Claim) (reasons : List Reason) → IsDerivationText o claim reasons bytes → ⊥) → IsRefused o bytes (refusals.BadLine line)
ill_spelled o bytes line bad none = record { cause = bad; none = λ (g : IsGoodText o bytes). none g.claim g.reasons g.text }

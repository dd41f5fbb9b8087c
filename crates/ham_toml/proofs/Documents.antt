-- What a TOML file is, by whether its bytes are UTF-8.
use Rattle.std.proofs.Common.{◌≡◌, ℕ, List, Some, None, Err, inl, inr}
use Rattle.std.specs.Str.{IsUtf8, is_utf8}
use Rattle.std.specs.Str.Lossy.{utf8_valid_len}
use Rattle.std.proofs.lemmas.Bool.{cases_Bool}
use Rattle.std.proofs.lemmas.Str.{IsUtf8-from_is_utf8, is_utf8-from_IsUtf8}
use Rattle.toml.specs.Data.{Members}
use Rattle.toml.specs.Parse.{parse_document}
use Rattle.ham_forms.specs.declared.fault.FileFault.TheVariants.{NotUtf8, NotToml}
use Rattle.ham_toml.specs.Toml.{document_in, toml_of}

pub not_text : (bytes : List ℕ) (n : ℕ) → ¬ (IsUtf8 bytes) → n ≡ utf8_valid_len bytes → toml_of bytes ≡ Err (NotUtf8 n)
unfolding toml_of
not_text bytes n bad e =
    elim (cases_Bool (is_utf8 bytes)) [
      | inl text ↦ absurd (bad (IsUtf8-from_is_utf8 bytes text))
      | inr other ↦ rw (other, e)
    ]

pub not_toml : (bytes : List ℕ) → IsUtf8 bytes → parse_document bytes ≡ None → toml_of bytes ≡ Err NotToml
unfolding toml_of
not_toml bytes text e = rw (is_utf8-from_IsUtf8 bytes text, e)

pub is_document : (bytes : List ℕ) (ms : Members) → IsUtf8 bytes → parse_document bytes ≡ Some ms → toml_of bytes ≡ document_in ms
unfolding toml_of
is_document bytes ms text e = rw (is_utf8-from_IsUtf8 bytes text, e)

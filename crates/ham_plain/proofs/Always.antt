-- Bytes are always read in plain form, as an object or as a first bad line.
use Rattle.std.proofs.Common.{◌≡◌, ℕ, true, List, Result, Ok, Err, refl}
use Rattle.std.specs.declared.alloc.Global.{Global}
use Rattle.ham_text.specs.Cuts.{pieces_of}
use Rattle.ham_text.specs.Forms.{read_from}
use Rattle.ham_check.specs.declared.raw.Raw.{Raw}
use Rattle.ham_forms.specs.declared.fault.FileFault.{FileFault}
use Rattle.ham_forms.specs.declared.fault.FileFault.TheVariants.{BadLine}
use Rattle.ham_plain.specs.declared.draft.Draft.{Draft}
use Rattle.ham_plain.specs.declared.draft.Draft.TheVariants.{Nothing, Head, Body, Whole}
use Rattle.ham_plain.specs.declared.plain.PlainReader.{PlainReader}
use Rattle.ham_plain.specs.PlainFiles.{IsPlainReading}
use Rattle.ham_plain.specs.Drafts.{is_end}
use Rattle.ham_plain.proofs.Forms.{at, plain_of, ended, object_found, bad_line}

whole_of : (d : Draft) → is_end d ≡ true → (raw : Raw) × (d ≡ Whole raw)
whole_of Nothing h = absurd cc
whole_of (Head f) h = absurd cc
whole_of (Body raw m) h = absurd cc
whole_of (Whole raw) h = (raw, refl)

read_by : (r : PlainReader) (bytes : List ℕ) (found : Result PlainReader ℕ) → read_from (plain_of r) (at r Nothing) 1 (pieces_of bytes) ≡ found → (s : Result Raw FileFault) × IsPlainReading bytes s
read_by r bytes (Ok t) e = (let w = whole_of t.draft (ended r bytes t e) in (Ok w.0, object_found r bytes t w.0 e w.1))
read_by r bytes (Err n) e = (Err (BadLine n), bad_line r bytes n e)

pub some_reading : (alloc : Global) (bytes : List ℕ) → (s : Result Raw FileFault) × IsPlainReading bytes s
some_reading alloc bytes = (let r : PlainReader = record { alloc = alloc; draft = Nothing } in read_by r bytes (read_from (plain_of r) (at r Nothing) 1 (pieces_of bytes)) refl)

-- Bytes of whole frames, read back through a decoder.
use Rattle.std.specs.Prelude.{◌≡◌, ℕ, List, [], ◌++◌, Option, None}
use Rattle.ham_frame.specs.declared.frame.Frame.{Frame}
use Rattle.ham_frame.specs.Spelling.{AllFit, stream}
use Rattle.ham_frame.specs.Decoding.{Fed}

-- a decoder that has no bytes left, and met no fault
pub record IsIdle (d : Fed) : Type 0 where
  pub rest : d.rest ≡ []
  pub fault : d.fault ≡ None

-- the bytes spell frames
abbrev pub IsStream : List ℕ → Type 0
IsStream bytes = (fs : List Frame) × AllFit fs × (bytes ≡ stream fs)

-- the frames that the bytes spell were put last
abbrev pub ReadsAll : List ℕ → List Frame → List Frame → Type 0
ReadsAll bytes before after = (fs : List Frame) → AllFit fs → bytes ≡ stream fs → after ≡ before ++ fs

-- Records that are read line by line: which line may come next, and what it adds.
use Rattle.std.specs.Prelude.{ℕ, ◌+◌, ◌==◌, ◌&&◌, nat_le, Bool, true, false, List, [], ◌∷◌, ◌++◌, length, Option, Some, None, option_map, option_and_then, if◌then◌else◌}
use Rattle.ham_records.specs.declared.records.Logged.{Logged}
use Rattle.ham_records.specs.declared.line.RecordLine.{RecordLine}
use Rattle.ham_records.specs.declared.line.RecordLine.TheVariants.{Opening, Replicas, Replica, Call, End}
use Rattle.ham_records.specs.declared.draft.Draft.{Draft}
use Rattle.ham_records.specs.declared.draft.Draft.TheVariants.{Nothing, Opened, Counted, Filling, Whole}
use Rattle.ham_records.specs.declared.reader.RecordsReader.{RecordsReader}
use Rattle.ham_records.specs.Reading.{line_of}

abbrev pub opened_with : RecordLine → Option Draft
opened_with Opening = Some Opened
opened_with (Replicas n) = None
opened_with (Replica r) = None
opened_with (Call e) = None
opened_with End = None

abbrev pub counted_with : RecordLine → Option Draft
counted_with (Replicas n) = Some (Counted n)
counted_with Opening = None
counted_with (Replica r) = None
counted_with (Call e) = None
counted_with End = None

-- the log of replica 1 comes first
abbrev pub first_with : ℕ → RecordLine → Option Draft
first_with n (Replica r) = if r == 1 then Some (Filling n [] []) else None
first_with n Opening = None
first_with n (Replicas m) = None
first_with n (Call e) = None
first_with n End = None

abbrev pub with_call : ℕ → List (List Logged) → List Logged → Logged → Option Draft
with_call n logs log e = Some (Filling n logs (log ++ e ∷ []))

-- the replica after the one whose log is being read
abbrev pub with_replica : ℕ → List (List Logged) → List Logged → ℕ → Option Draft
with_replica n logs log r = if nat_le r n && (length logs + 2 == r) then Some (Filling n (logs ++ log ∷ []) []) else None

abbrev pub with_end : ℕ → List (List Logged) → List Logged → Option Draft
with_end n logs log = if length logs + 1 == n then Some (Whole (logs ++ log ∷ [])) else None

abbrev pub filled_with : ℕ → List (List Logged) → List Logged → RecordLine → Option Draft
filled_with n logs log (Call e) = with_call n logs log e
filled_with n logs log (Replica r) = with_replica n logs log r
filled_with n logs log End = with_end n logs log
filled_with n logs log Opening = None
filled_with n logs log (Replicas m) = None

-- what is read with one line more
unfoldable pub draft_with : Draft → RecordLine → Option Draft
draft_with Nothing line = opened_with line
draft_with Opened line = counted_with line
draft_with (Counted n) line = first_with n line
draft_with (Filling n logs log) line = filled_with n logs log line
draft_with (Whole logs) line = None

abbrev pub after : RecordsReader → List (List ℕ) → Option RecordsReader
after r words = option_map (λ d. record r { draft = d }) (option_and_then (draft_with r.draft) (line_of r.object.now words))

abbrev pub is_end : Draft → Bool
is_end Nothing = false
is_end Opened = false
is_end (Counted n) = false
is_end (Filling n logs log) = false
is_end (Whole logs) = true

-- the last line is read
abbrev pub is_whole : RecordsReader → Bool
is_whole r = is_end r.draft

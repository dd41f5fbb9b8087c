-- What became of a script: how many of its turns had each answer, what was sent and logged, and how the replicas compare.
--     bulk_text       the summary, or its first line and a refusal
use Rattle.std.specs.Prelude.{ℕ, Bool, true, false, List, ◌∷◌, ◌++◌, map, reverse, length, count_by, sum_by, Option, Some, None, codes}
use Rattle.std.specs.List.{flat_map, range_with_len}
use Rattle.std.specs.Fmt.{decimal}
use Rattle.ham_text.specs.Written.{ended}
use Rattle.ham_syntax.specs.Objects.{Schema}
use Rattle.ham_turns.specs.declared.turn.What.{What}
use Rattle.ham_turns.specs.declared.turn.What.TheVariants as whats
use Rattle.ham_turns.specs.declared.turn.Issued.{Issued}
use Rattle.ham_turns.specs.declared.turn.Issued.TheVariants as issued
use Rattle.ham_turns.specs.declared.turn.Delivered.{Delivered}
use Rattle.ham_turns.specs.declared.turn.Delivered.TheVariants as delivered
use Rattle.ham_turns.specs.declared.event.Event.{Event}
use Rattle.ham_turns.specs.Settings.{Setting}
use Rattle.ham_runs.specs.Runs.{Note, log_of}
use Rattle.ham_lines.specs.Texts.{compared_text}
use Rattle.ham_world.specs.declared.refusal.StepRefusal.{StepRefusal}
use Rattle.ham_world.specs.declared.note.Note.{Note as Told}
use Rattle.ham_world.specs.Worlds.{shown, state_at, same_calls, equal_states}
use Rattle.ham_replay.specs.declared.end.Refusal.{Refusal}
use Rattle.ham_replay.specs.declared.end.ReplayEnd.{ReplayEnd}
use Rattle.ham_replay.specs.declared.end.ReplayEnd.TheVariants as ends
use Rattle.ham_bulk.specs.declared.tally.Sort.{Sort}
use Rattle.ham_bulk.specs.declared.tally.Sort.TheVariants as sorts
use Rattle.ham_bulk.specs.Scripts.{Script, generated}
use Rattle.ham_bulk.specs.ScriptTexts.{others, refused_after}

-- ---- sorts of turns

abbrev pub is_issue_of : Sort → Issued → Bool
is_issue_of sorts.Issues a = true
is_issue_of sorts.Applied (issued.Applied place) = true
is_issue_of sorts.Forwarded (issued.Forwarded g k) = true
is_issue_of sorts.Impermissible (issued.Impermissible u) = true
is_issue_of _ a = false

abbrev pub is_delivery_of : Sort → Delivered → Bool
is_delivery_of sorts.Deliveries d = true
is_delivery_of sorts.Fresh delivered.Fresh = true
is_delivery_of sorts.Repeat delivered.Repeat = true
is_delivery_of sorts.Noted delivered.Noted = true
is_delivery_of sorts.Early delivered.Early = true
is_delivery_of _ d = false

abbrev pub is_tick_of : Sort → Bool
is_tick_of sorts.Ticks = true
is_tick_of _ = false

abbrev pub is_of : Sort → What → Bool
is_of sort (whats.Issued a) = is_issue_of sort a
is_of sort (whats.Delivered d) = is_delivery_of sort d
is_of sort whats.Torn = false
is_of sort whats.Ticked = is_tick_of sort

-- how many turns are of a sort
abbrev pub turns : Sort → List Told → ℕ
turns sort notes = count_by (λ (t : Told). is_of sort t.what) notes

-- ---- lines

-- a word, and a number after it
abbrev pub worded : List ℕ → ℕ → List ℕ
worded word n = word ++ (32 ∷ decimal n)

-- a word, and after it how many turns are of a sort
abbrev pub tallied : List ℕ → Sort → List Told → List ℕ
tallied word sort notes = worded word (turns sort notes)

abbrev pub first_line_of_bulk : (seed replicas rounds : ℕ) → List ℕ
first_line_of_bulk seed n k = ended (worded (codes "bulk") seed ++ ((32 ∷ decimal n) ++ (32 ∷ decimal k)))

abbrev pub issues_line : List Told → List ℕ
issues_line notes = ended (tallied (codes "issues") sorts.Issues notes ++ (tallied (codes " applied") sorts.Applied notes
    ++ (tallied (codes " forwarded") sorts.Forwarded notes ++ tallied (codes " impermissible") sorts.Impermissible notes)))

abbrev pub deliveries_line : List Told → List ℕ
deliveries_line notes = ended (tallied (codes "deliveries") sorts.Deliveries notes ++ (tallied (codes " fresh") sorts.Fresh notes
    ++ (tallied (codes " repeat") sorts.Repeat notes ++ (tallied (codes " noted") sorts.Noted notes ++ tallied (codes " early") sorts.Early notes))))

-- ticks, and the frames that were sent on all links
abbrev pub other_lines : List Told → List ℕ
other_lines notes = ended (tallied (codes "ticks") sorts.Ticks notes) ++ ended (worded (codes "sent") (sum_by (λ (t : Told). t.sent) notes))

-- what came of turns
abbrev pub turn_lines : List Told → List ℕ
turn_lines notes = issues_line notes ++ (deliveries_line notes ++ other_lines notes)

abbrev pub logged_line : List Note → ℕ → List ℕ
logged_line notes r = ended (worded (codes "replica") r ++ worded (codes " logged") (length (log_of notes r)))

abbrev pub logged_lines : Setting → List Note → List ℕ
logged_lines y notes = flat_map (logged_line notes) (range_with_len 1 y.replicas)

abbrev pub compared_line : Schema → Setting → List Note → ℕ → List ℕ
compared_line o y notes r = ended (worded (codes "compare 1") r ++ (32 ∷ compared_text (same_calls (log_of notes 1) (log_of notes r)) (equal_states (state_at o y notes 1) (state_at o y notes r))))

abbrev pub compared_lines : Schema → Setting → List Note → List ℕ
compared_lines o y notes = flat_map (compared_line o y notes) (others y.replicas)

-- the notes of a run in their order, as the code keeps them
abbrev pub told : List Note → List Told
told notes = map shown (reverse notes)

abbrev pub end_line : List ℕ
end_line = ended (codes "end")

abbrev pub summary : Schema → Setting → List Note → List ℕ
summary o y notes = turn_lines (told notes) ++ (logged_lines y notes ++ (compared_lines o y notes ++ end_line))

-- what comes after the first line
abbrev pub bulk_rest : Schema → Setting → List Event → List Note → Option StepRefusal → List ℕ
bulk_rest o y es notes None = summary o y notes
bulk_rest o y es notes (Some why) = refused_after es why

abbrev pub bulk_lines : Schema → Setting → (seed rounds : ℕ) → Script → List ℕ
bulk_lines o y seed n s = first_line_of_bulk seed y.replicas n ++ bulk_rest o y s.events s.notes s.refused

abbrev pub bulk_text : Schema → Setting → (seed rounds : ℕ) → List ℕ
bulk_text o y seed n = bulk_lines o y seed n (generated o y seed n)

-- how a replay ends that refused this, or nothing
abbrev pub end_of : Option Refusal → ReplayEnd
end_of None = ends.Done
end_of (Some r) = ends.Refused r.line r.why

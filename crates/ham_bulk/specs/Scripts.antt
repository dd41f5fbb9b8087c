-- Schedules made from a number: rounds of drawn events, and then two sweeps over all links.
--     round           what a round draws: an event, or none, and the number after it
--     swept           deliveries of what is left on each link
--     generated       the events of a script, and the run that they make
use Rattle.std.specs.Prelude.{ℕ, zero, suc, ◌+◌, ◌-◌, ◌*◌, ◌/◌, ◌%◌, ◌^◌, ◌||◌, ◌==◌, nat_le, is_some, if◌then◌else◌, List, [], ◌∷◌, ◌++◌, map, fold, length, replicate, slice_get, slice_index, slice_set, Option, Some, None}
use Rattle.std.specs.List.{flat_map, range_with_len}
use Rattle.ham_syntax.specs.declared.limits.TheConstants.{MAX_REPLICAS}
use Rattle.ham_syntax.specs.declared.object.Kind.{Kind}
use Rattle.ham_syntax.specs.declared.object.Kind.TheVariants.{Id, Amount}
use Rattle.ham_syntax.specs.declared.object.Param.{Param}
use Rattle.ham_syntax.specs.declared.object.Method.{Method}
use Rattle.ham_syntax.specs.Objects.{Schema}
use Rattle.ham_turns.specs.Settings.{Setting}
use Rattle.ham_turns.specs.declared.event.Event.{Event}
use Rattle.ham_turns.specs.declared.event.Event.TheVariants as events
use Rattle.ham_runs.specs.Runs.{Note, on_link}
use Rattle.ham_world.specs.declared.refusal.StepRefusal.{StepRefusal}
use Rattle.ham_world.specs.Worlds.{inputs_of, refusal_of, taken}
use Rattle.ham_bulk.specs.declared.round.Draw.{Draw}
use Rattle.ham_bulk.specs.declared.reached.TheConstants.{MAX_LINKS}

-- ---- draws

abbrev pub next : ℕ → ℕ
next x = (x * 6364136223846793005 + 1442695040888963407) % 2 ^ 64

-- what the number gives, of so many; the draw replaces it by the next first
abbrev pub given_by : ℕ → ℕ → ℕ
given_by x k = x / 2 ^ 33 % k

-- what is drawn of so many
abbrev pub drawn : ℕ → ℕ → ℕ
drawn x k = given_by (next x) k

-- how many ids and amounts there are to draw of
abbrev pub many : Kind → ℕ
many Id = 16
many Amount = 100

-- the arguments, from the left
abbrev pub args_drawn : List Param → ℕ → List ℕ
args_drawn [] x = []
args_drawn (p ∷ ps) x = drawn x (many p.kind) ∷ args_drawn ps (next x)

-- the number after a draw for each
abbrev pub after_args : List Param → ℕ → ℕ
after_args [] x = x
after_args (p ∷ ps) x = after_args ps (next x)

-- ---- rounds

abbrev pub replica_drawn : Setting → ℕ → ℕ
replica_drawn y x = drawn x y.replicas + 1

-- no event
abbrev pub none_drawn : ℕ → Draw
none_drawn x = record { event = None; number = x }

abbrev pub tick_drawn : Setting → ℕ → Draw
tick_drawn y x = record { event = Some (events.Tick (replica_drawn y x)); number = next x }

-- a frame of a link on which so many were sent
abbrev pub frame_drawn : (from to count : ℕ) → ℕ → Draw
frame_drawn from to count x =
    if (from == to) || (count == 0) then none_drawn x
    else record { event = Some (events.Deliver from to (drawn x count + 1)); number = next x }

abbrev pub deliver_drawn : Setting → List Note → ℕ → Draw
deliver_drawn y notes x =
    frame_drawn (replica_drawn y x) (replica_drawn y (next x)) (length (on_link notes (replica_drawn y x) (replica_drawn y (next x)))) (next (next x))

abbrev pub params_of : Option Method → List Param
params_of None = []
params_of (Some m) = m.params

-- an act of the method with this number, issued at a replica
abbrev pub act_drawn : Schema → (replica method : ℕ) → ℕ → Draw
act_drawn o replica method x = record {
  event = Some (events.Issue replica (record { method = method; args = args_drawn (params_of (slice_get o.methods method)) x }));
  number = after_args (params_of (slice_get o.methods method)) x;
}

abbrev pub issue_drawn : Schema → Setting → ℕ → Draw
issue_drawn o y x =
    if length o.methods == 0 then none_drawn x
    else act_drawn o (replica_drawn y x) (drawn (next x) (length o.methods)) (next (next x))

-- by what was drawn of 256: 0 a tick, 1 to 127 a delivery, 128 to 255 an issue
abbrev pub round_by : Schema → Setting → List Note → ℕ → ℕ → Draw
round_by o y notes d x =
    if d == 0 then tick_drawn y x
    else if nat_le d 127 then deliver_drawn y notes x
    else issue_drawn o y x

unfoldable pub round : Schema → Setting → List Note → ℕ → Draw
round o y notes x = round_by o y notes (drawn x 256) (next x)

-- ---- scripts

-- a script so far: the number, the events that were taken, the oldest first, the notes of their run, and the refusal that ends it if there is one
pub record Script : Type 0 where
  pub number : ℕ
  pub events : List Event
  pub notes : List Note
  pub refused : Option StepRefusal

abbrev pub after_refusal : Schema → Setting → Script → Event → Option StepRefusal → Script
after_refusal o y s e None = record s { events = s.events ++ e ∷ []; notes = taken o y s.notes (inputs_of e) }
after_refusal o y s e (Some why) = record s { refused = Some why }

-- one event more, unless one was refused
unfoldable pub after_event : Schema → Setting → Script → Event → Script
after_event o y s e = if is_some s.refused then s else after_refusal o y s e (refusal_of o y s.notes e)

abbrev pub after_draw : Schema → Setting → Script → Option Event → Script
after_draw o y s None = s
after_draw o y s (Some e) = after_event o y s e

-- one round more
unfoldable pub after_round : Schema → Setting → Script → Script
after_round o y s = after_draw o y (record s { number = (round o y s.notes s.number).number }) (round o y s.notes s.number).event

abbrev pub rounds : Schema → Setting → ℕ → Script → Script
rounds o y zero s = s
rounds o y (suc n) s = after_round o y (rounds o y n s)

-- a link
pub record Link : Type 0 where
  pub from : ℕ
  pub to : ℕ

abbrev pub link_if : (from to : ℕ) → List Link
link_if from to = if from == to then [] else record { from = from; to = to } ∷ []

-- the links from a replica to each other, by the receiver
abbrev pub links_from : (replicas from : ℕ) → List Link
links_from n from = flat_map (link_if from) (range_with_len 1 n)

-- a script, and up to which frame each link was swept, in rows of MAX_REPLICAS links, a row for each sender
pub record Swept : Type 0 where
  pub script : Script
  pub done : List ℕ

abbrev pub place_of : Link → ℕ
place_of l = MAX_REPLICAS * (l.from - 1) + (l.to - 1)

-- up to which frame a link was swept, and that it is swept up to this one
abbrev pub reached_last : List ℕ → Link → ℕ
reached_last done l = slice_index done (place_of l)

abbrev pub reached_with : List ℕ → Link → ℕ → List ℕ
reached_with done l count = slice_set done (place_of l) count

-- deliveries of the frames of a link after those that are done
abbrev pub deliveries : Link → (done count : ℕ) → List Event
deliveries l done count = map (events.Deliver l.from l.to) (range_with_len (done + 1) (count - done))

-- the frames of a link that were sent when it is reached
unfoldable pub link_swept : Schema → Setting → Swept → Link → Swept
link_swept o y s l = record {
  script = fold (after_event o y) s.script (deliveries l (reached_last s.done l) (length (on_link s.script.notes l.from l.to)));
  done = reached_with s.done l (length (on_link s.script.notes l.from l.to));
}

abbrev pub swept_from : Schema → Setting → Swept → ℕ → Swept
swept_from o y s from = fold (link_swept o y) s (links_from y.replicas from)

-- the links by their senders, and then by their receivers
unfoldable pub swept : Schema → Setting → Swept → Swept
swept o y s = fold (swept_from o y) s (range_with_len 1 y.replicas)

-- two sweeps; the second goes on where the first stopped
unfoldable pub swept_twice : Schema → Setting → Script → Script
swept_twice o y s = (swept o y (swept o y (record { script = s; done = replicate MAX_LINKS 0 }))).script

abbrev pub opening_script : ℕ → Script
opening_script seed = record { number = seed; events = []; notes = []; refused = None }

-- the script of a number and so many rounds
unfoldable pub generated : Schema → Setting → ℕ → ℕ → Script
generated o y seed n = swept_twice o y (rounds o y n (opening_script seed))

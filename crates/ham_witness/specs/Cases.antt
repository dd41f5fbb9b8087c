-- The cases that are tried for a claim, as a list in order.
--     first_id, second_id       the two ids
--     args_by                   the arguments that a mask gives
--     state_of                  the state of a kind of rows and a kind of counters
--     cases                     the cases, in order
use Rattle.std.specs.Prelude.{ℕ, ◌+◌, ◌^◌, ◌/◌, ◌%◌, ℤ, pos, negsuc, ◌+ℤ◌, nat_abs, Bool, true, false, nat_le, ◌==◌, if◌then◌else◌, min, List, [], ◌∷◌, ◌++◌, map, length, slice_get, unwrap_or, Option, Some, None}
use Rattle.std.specs.Int.{int_max, int_min}
use Rattle.std.specs.List.{flat_map, list_any}
use Rattle.ham_syntax.specs.declared.act.Act.{Act}
use Rattle.ham_syntax.specs.declared.term.Term.{Term}
use Rattle.ham_syntax.specs.declared.term.Term.TheVariants.{Param as Parameter, Const, Any}
use Rattle.ham_syntax.specs.declared.object.Kind.{Kind}
use Rattle.ham_syntax.specs.declared.object.Kind.TheVariants.{Id, Amount}
use Rattle.ham_syntax.specs.declared.object.Param.{Param}
use Rattle.ham_syntax.specs.declared.object.Counter.{Counter}
use Rattle.ham_syntax.specs.declared.object.Effect.{Effect}
use Rattle.ham_syntax.specs.declared.object.Effect.TheVariants as effects
use Rattle.ham_syntax.specs.declared.object.Guard.{Guard}
use Rattle.ham_syntax.specs.declared.object.Guard.TheVariants as guards
use Rattle.ham_syntax.specs.declared.object.Invariant.{Invariant}
use Rattle.ham_syntax.specs.declared.object.Invariant.TheVariants as invariants
use Rattle.ham_syntax.specs.declared.object.Method.{Method}
use Rattle.ham_syntax.specs.Objects.{Schema, columns_of}
use Rattle.ham_steps.specs.declared.step.Step.{Step}
use Rattle.ham_steps.specs.declared.step.Step.TheVariants as steps
use Rattle.ham_steps.specs.Content.{State, opening}
use Rattle.ham_steps.specs.Steps.{after_steps}
use Rattle.ham_rules.specs.declared.claim.Claim.{Claim}
use Rattle.ham_rules.specs.declared.claim.Claim.TheVariants.{Sc, Is, Pr, Pl}
use Rattle.ham_rules.specs.Claims.{each_below, lists_below}
use Rattle.ham_witness.specs.declared.kinds.Kinds.{Kinds}
use Rattle.ham_witness.specs.declared.kinds.RowKind.{RowKind}
use Rattle.ham_witness.specs.declared.kinds.RowKind.TheVariants.{NoRows, Referred, AllRows}
use Rattle.ham_witness.specs.declared.kinds.CounterKind.{CounterKind}
use Rattle.ham_witness.specs.declared.kinds.CounterKind.TheVariants.{Zero, AboveLow, BelowHigh}
use Rattle.ham_witness.specs.declared.ids.Ids.{Ids}

-- ---- the two ids

-- the id constants of a term, of terms and of a key; an amount is none
abbrev pub term_ids : Term → List ℕ
term_ids (Parameter p) = []
term_ids (Const n) = n ∷ []
term_ids Any = []

abbrev pub terms_ids : List Term → List ℕ
terms_ids terms = flat_map term_ids terms

abbrev pub key_ids : Option Term → List ℕ
key_ids None = []
key_ids (Some t) = term_ids t

abbrev pub guard_ids : Guard → List ℕ
guard_ids (guards.Present r terms) = terms_ids terms
guard_ids (guards.Absent r terms) = terms_ids terms
guard_ids (guards.AtLeast c key amount) = key_ids key
guard_ids (guards.AtMost c key amount) = key_ids key

abbrev pub effect_ids : Effect → List ℕ
effect_ids (effects.Insert r terms) = terms_ids terms
effect_ids (effects.Delete r terms) = terms_ids terms
effect_ids (effects.Add c key amount) = key_ids key
effect_ids (effects.Subtract c key amount) = key_ids key

abbrev pub method_ids : Option Method → List ℕ
method_ids None = []
method_ids (Some m) = flat_map guard_ids m.guards ++ flat_map effect_ids m.effects

-- the claim's methods
abbrev pub first_method : Claim → ℕ
first_method (Sc m n) = m
first_method (Is m) = m
first_method (Pr m n) = m
first_method (Pl m n) = m

abbrev pub second_method : Claim → Option ℕ
second_method (Sc m n) = Some n
second_method (Is m) = None
second_method (Pr m n) = Some n
second_method (Pl m n) = Some n

abbrev pub second_ids : Schema → Option ℕ → List ℕ
second_ids o None = []
second_ids o (Some n) = method_ids (slice_get o.methods n)

-- the id constants of the claim's methods
abbrev pub claim_ids : Schema → Claim → List ℕ
claim_ids o claim = method_ids (slice_get o.methods (first_method claim)) ++ second_ids o (second_method claim)

-- the pick of two that may be missing, and of a list, if it has any
abbrev pub either : {A : Type 0} → (A → A → A) → Option A → Option A → Option A
either pick None b = b
either pick (Some x) None = Some x
either pick (Some x) (Some y) = Some (pick x y)

abbrev pub picked : {A : Type 0} → (A → A → A) → List A → Option A
picked pick [] = None
picked pick (x ∷ xs) = either pick (Some x) (picked pick xs)

abbrev pub least : List ℕ → Option ℕ
least xs = picked min xs

-- the id after an id; after the greatest comes 0
abbrev pub next_id : ℕ → ℕ
next_id c = (c + 1) % 2 ^ 64

-- c is the least id constant of the claim's methods, or 1; d comes after it
unfoldable pub ids_of : Schema → Claim → Ids
ids_of o claim = let c = unwrap_or (least (claim_ids o claim)) 1 in record { c = c; d = next_id c }

-- ---- acts

-- id number k by a mask: d where bit k of the mask is set, else c
abbrev pub id_by : Ids → ℕ → ℕ → ℕ
id_by ids mask k = if mask / 2 ^ k % 2 == 1 then ids.d else ids.c

-- an amount is 1
abbrev pub arg_of : Kind → ℕ → ℕ
arg_of Id id = id
arg_of Amount id = 1

-- how many of the parameters are ids
abbrev pub one_if_id : Kind → ℕ
one_if_id Id = 1
one_if_id Amount = 0

abbrev pub count_ids : List Param → ℕ
count_ids [] = 0
count_ids (p ∷ ps) = one_if_id p.kind + count_ids ps

-- every id is c
abbrev pub plain_args : Ids → List Param → List ℕ
plain_args ids params = map (λ p. arg_of p.kind ids.c) params

-- the ids are by the mask, and their numbers begin with k
abbrev pub args_from : Ids → ℕ → ℕ → List Param → List ℕ
args_from ids mask k [] = []
args_from ids mask k (p ∷ ps) = arg_of p.kind (id_by ids mask k) ∷ args_from ids mask (k + one_if_id p.kind) ps

abbrev pub params_by : Option Method → List Param
params_by None = []
params_by (Some m) = m.params

abbrev pub params_at : Schema → ℕ → List Param
params_at o m = params_by (slice_get o.methods m)

abbrev pub first_act : Schema → Ids → Claim → Act
first_act o ids claim = record { method = first_method claim; args = plain_args ids (params_at o (first_method claim)) }

abbrev pub second_act : Schema → Ids → ℕ → Option ℕ → Option Act
second_act o ids mask None = None
second_act o ids mask (Some n) = Some (record { method = n; args = args_from ids mask 0 (params_at o n) })

-- where there is no second act, one mask
abbrev pub mask_count : Schema → Option ℕ → ℕ
mask_count o None = 1
mask_count o (Some n) = 2 ^ count_ids (params_at o n)

-- ---- states

-- a row over the two ids, by a mask, and all rows of a width
abbrev pub row_by : Ids → ℕ → ℕ → List ℕ
row_by ids width mask = each_below width (id_by ids mask)

abbrev pub refers_to : ℕ → Invariant → Bool
refers_to r (invariants.Reference from columns to) = to == r
refers_to r (invariants.Unique s columns) = false
refers_to r (invariants.Low c limit) = false
refers_to r (invariants.High c limit) = false

-- all rows stand in the relation
abbrev pub stands : Schema → RowKind → ℕ → Bool
stands o NoRows r = false
stands o Referred r = list_any (refers_to r) o.invariants
stands o AllRows r = true

-- the inserts of all rows over the two ids
abbrev pub inserts : Ids → ℕ → ℕ → List Step
inserts ids r width = each_below (2 ^ width) (λ mask. steps.Insert r (row_by ids width mask))

abbrev pub inserts_if : Ids → Bool → ℕ → Option ℕ → List Step
inserts_if ids there r None = []
inserts_if ids there r (Some width) = if there then inserts ids r width else []

abbrev pub row_steps_of : Schema → Ids → RowKind → ℕ → List Step
row_steps_of o ids kind r = inserts_if ids (stands o kind r) r (slice_get (columns_of o) r)

abbrev pub row_steps : Schema → Ids → RowKind → List Step
row_steps o ids kind = lists_below (length o.relations) (row_steps_of o ids kind)

-- the low limits of a counter, and its high limits
abbrev pub low_limit : ℕ → Invariant → List ℤ
low_limit c (invariants.Reference from columns to) = []
low_limit c (invariants.Unique r columns) = []
low_limit c (invariants.Low d limit) = if d == c then limit ∷ [] else []
low_limit c (invariants.High d limit) = []

abbrev pub high_limit : ℕ → Invariant → List ℤ
high_limit c (invariants.Reference from columns to) = []
high_limit c (invariants.Unique r columns) = []
high_limit c (invariants.Low d limit) = []
high_limit c (invariants.High d limit) = if d == c then limit ∷ [] else []

abbrev pub greatest_low : List Invariant → ℕ → Option ℤ
greatest_low vs c = picked int_max (flat_map (low_limit c) vs)

abbrev pub least_high : List Invariant → ℕ → Option ℤ
least_high vs c = picked int_min (flat_map (high_limit c) vs)

-- a value whose magnitude is above 2 ^ 50 is replaced by 0
abbrev pub small_or_0 : ℤ → ℤ
small_or_0 z = if nat_le (nat_abs z) (2 ^ 50) then z else pos 0

abbrev pub beside : ℤ → Option ℤ → ℤ
beside by None = pos 0
beside by (Some limit) = small_or_0 (limit +ℤ by)

abbrev pub value_by : Schema → CounterKind → ℕ → ℤ
value_by o Zero c = pos 0
value_by o AboveLow c = beside (pos 1) (greatest_low o.invariants c)
value_by o BelowHigh c = beside (negsuc 0) (least_high o.invariants c)

-- key 0 of a plain counter, the two ids of a keyed one
abbrev pub keys_by : Ids → Option Counter → List ℕ
keys_by ids None = []
keys_by ids (Some counter) = if counter.keyed then ids.c ∷ ids.d ∷ [] else 0 ∷ []

abbrev pub value_steps_of : Schema → Ids → CounterKind → ℕ → List Step
value_steps_of o ids kind c = map (λ key. steps.Change c key (value_by o kind c)) (keys_by ids (slice_get o.counters c))

abbrev pub value_steps : Schema → Ids → CounterKind → List Step
value_steps o ids kind = lists_below (length o.counters) (value_steps_of o ids kind)

abbrev pub state_steps : Schema → Ids → Kinds → List Step
state_steps o ids kinds = row_steps o ids kinds.rows ++ value_steps o ids kinds.counters

-- the rows and the values, put into the opening state
unfoldable pub state_of : Schema → Ids → Kinds → State
state_of o ids kinds = after_steps (state_steps o ids kinds) opening

-- ---- cases

pub record Case : Type 0 where
  pub state : State
  pub m : Act
  pub n : Option Act

-- a kind of rows and a kind of counters; rows are outermost
abbrev pub kinds_with : RowKind → List Kinds
kinds_with rows = record { rows = rows; counters = Zero } ∷ record { rows = rows; counters = AboveLow } ∷ record { rows = rows; counters = BelowHigh } ∷ []

abbrev pub all_kinds : List Kinds
all_kinds = flat_map kinds_with (NoRows ∷ Referred ∷ AllRows ∷ [])

abbrev pub case_of : Schema → Ids → Claim → Kinds → ℕ → Case
case_of o ids claim kinds mask = record { state = state_of o ids kinds; m = first_act o ids claim; n = second_act o ids mask (second_method claim) }

-- the cases of a kind, by ascending masks
abbrev pub cases_with : Schema → Ids → Claim → Kinds → List Case
cases_with o ids claim kinds = each_below (mask_count o (second_method claim)) (case_of o ids claim kinds)

unfoldable pub cases : Schema → Claim → List Case
cases o claim = flat_map (cases_with o (ids_of o claim) claim) all_kinds

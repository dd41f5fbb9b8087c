-- What a world's parts show of their run.
use Rattle.std.proofs.Common.{◌≡◌, ℕ, zero, suc, ◌+◌, ◌-◌, ◌<◌, ◌≤◌, List, [], ◌∷◌, ◌++◌, Bool, true, false, cond, ◌&&◌, nat_lt, nat_le, ◌⊎◌, inl, inr, Option, Some, None, is_some, length, map, take, drop, get_or, refl, sym, ap, ◌∙◌, arith, subst}
use Rattle.std.specs.Prelude.{slice_get, option_map}
use Rattle.std.specs.List.{flat_map}
use Rattle.std.proofs.lemmas.List.{append-nil, length-map}
use Rattle.std.proofs.lemmas.Bool.Decides.{nat_tests}
use Rattle.std.proofs.lemmas.Option.{slice_get_within, slice_get_read}
use Rattle.ham_syntax.specs.declared.act.Act.{Act}
use Rattle.ham_syntax.specs.declared.limits.TheConstants.{MAX_LANES, MAX_REQUESTS}
use Rattle.ham_syntax.specs.Objects.{Schema}
use Rattle.ham_plan.specs.Plans.{Plan}
use Rattle.ham_frame.specs.declared.frame.Frame.{Frame}
use Rattle.ham_frame.specs.Spelling.{spelling, stream}
use Rattle.ham_resend.specs.declared.asks.Ask.{Ask}
use Rattle.ham_resend.specs.declared.asks.Asked.TheVariants as asked
use Rattle.ham_resend.specs.Asking as asking
use Rattle.ham_resend.specs.Asking.{asked_by, asked_with, verdict_on}
use Rattle.ham_turns.specs.Settings.{rules_of, setting_of, IsReplica}
use Rattle.ham_turns.specs.Words.{ReplicaWords, numbered}
use Rattle.ham_replica.specs.Values.{Replica, words}
use Rattle.ham_runs.specs.Runs.{Note, log_of, requests_of, verdict_of}
use Rattle.ham_world.specs.Worlds.{bytes_of, between, state_at, asked_of}
use Rattle.ham_world.specs.Keeping.{HasReplica, IsAt}
use Rattle.ham_world.proofs.Kept.{is_at}
use Rattle.ham_world.proofs.Refused.{span_stream}
use Rattle.ham_world.proofs.Requested.{FewRequests}

pub none_there : (o : Option Frame) → is_some o ≡ false → o ≡ None
none_there None e = refl
none_there (Some f) e = cc

one_at : (fs : List Frame) (n : ℕ) → n < length fs → bytes_of (slice_get fs n) ≡ Some (stream (take 1 (drop n fs)))
one_at [] n h = absurd (omega arith)
one_at (f ∷ fs) zero h = ap Some (sym (append-nil (spelling f)))
one_at (f ∷ fs) (suc n) h = one_at fs n (omega arith)

-- a frame's bytes, read off its link
pub frame_bytes : (fs : List Frame) (link : List (List ℕ)) (k : ℕ) (bytes : List ℕ) → link ≡ map spelling fs → 1 ≤ k → k ≤ length fs →
    bytes ≡ flat_map (λ (b : List ℕ). b) (take (k + 1 - k) (drop (k - 1) link)) → bytes_of (numbered fs k) ≡ Some bytes
frame_bytes fs link zero bytes e a b is = absurd (omega arith)
frame_bytes fs link (suc n) bytes e a b is =
    let one : suc n + 1 - suc n ≡ 1 = omega arith in
    let before : suc n - 1 ≡ n = omega arith in
    one_at fs n (omega arith)
    ∙ (ap (λ m. Some (stream (take 1 (drop m fs)))) (sym before)
    ∙ (ap (λ m. Some (stream (take m (drop (suc n - 1) fs)))) (sym one)
    ∙ ap Some (sym (is ∙ (ap (λ l. flat_map (λ (b : List ℕ). b) (take (suc n + 1 - suc n) (drop (suc n - 1) l))) e ∙ span_stream (suc n) (suc n) fs)))))

pub log_at : (o : Schema) (p : Plan) (notes : List Note) (vs : List Replica) (r : ℕ) (v : Replica) → HasReplica o p notes vs r → slice_get vs (r - 1) ≡ Some v → v.lists.log ≡ log_of notes r
log_at o p notes vs r v has there = ap (λ (w : ReplicaWords). w.log) (is_at o p notes vs r v has there).said

pub state_of : (o : Schema) (p : Plan) (notes : List Note) (vs : List Replica) (r : ℕ) (v : Replica) → HasReplica o p notes vs r → slice_get vs (r - 1) ≡ Some v → v.lists.state ≡ state_at o (setting_of p) notes r
unfolding state_at
state_of o p notes vs r v has there = ap (λ (w : ReplicaWords). w.state) (is_at o p notes vs r v has there).said

pub opened_for : (o : Schema) (p : Plan) (notes : List Note) (vs : List Replica) (r : ℕ) (v : Replica) → HasReplica o p notes vs r → slice_get vs (r - 1) ≡ Some v → v.site.object.invariants ≡ o.invariants
opened_for o p notes vs r v has there = ap (λ (q : Schema). q.invariants) (is_at o p notes vs r v has there).object

pub read_replica : (vs : List Replica) (r i : ℕ) (v : Replica) → i ≡ r → 1 ≤ r → r ≤ length vs → v ≡ get_or vs (i - 1) v → slice_get vs (r - 1) ≡ Some v
read_replica vs r i v e a b is =
    let lt : r - 1 < length vs = omega arith in
    slice_get_read vs (length vs) (r - 1) v refl lt (rw e at is)

-- ---- requests

slice_get_none : (made : List Ask) (n : ℕ) → slice_get made n ≡ None → length made ≤ n
slice_get_none [] n e = omega arith
slice_get_none (a ∷ made) zero e = cc
slice_get_none (a ∷ made) (suc n) e = omega (arith, slice_get_none made n e)

asked_some : (made : List Ask) (n : ℕ) (o : Option Ask) → slice_get made n ≡ o →
    asked_by o ≡ cond (nat_lt 0 (suc n) && nat_le (suc n) (length made)) (asked_with (verdict_on o)) asked.Unknown
asked_some made n None e =
    let past : length made ≤ n = slice_get_none made n e in
    let t : nat_le (suc n) (length made) ≡ false = grind (arith, nat_tests) in
    let u : nat_lt 0 (suc n) ≡ true = grind (arith, nat_tests) in
    rw (u, t) refl
asked_some made n (Some a) e =
    let lt : n < length made = slice_get_within made n a e in
    let t : nat_le (suc n) (length made) ≡ true = grind (arith, nat_tests) in
    let u : nat_lt 0 (suc n) ≡ true = grind (arith, nat_tests) in
    rw (u, t) refl

asked_here : (made : List Ask) (k : ℕ) → asked_by (numbered made k) ≡ cond (nat_lt 0 k && nat_le k (length made)) (asked_with (verdict_on (numbered made k))) asked.Unknown
asked_here made zero = refl
asked_here made (suc n) = asked_some made n (slice_get made n) refl

pub asked_is : (o : Schema) (p : Plan) (notes : List Note) (vs : List Replica) (r : ℕ) (v : Replica) (g k : ℕ) → HasReplica o p notes vs r → slice_get vs (r - 1) ≡ Some v →
    asking.asked_of v.lists.asks g k ≡ asked_of notes r g k
unfolding asked_of
asked_is o p notes vs r v g k has there =
    let asks : List Ask = get_or v.lists.asks g [] in
    let said = (is_at o p notes vs r v has there).said in
    let many : length asks ≡ length (requests_of notes r g) = sym (length-map asks (λ (a : Ask). a.act)) ∙ ap (λ (w : ReplicaWords). length (w.requests g)) said in
    let told : verdict_on (numbered asks k) ≡ verdict_of notes r g k = ap (λ (w : ReplicaWords). w.verdict g k) said in
    asked_here asks k
    ∙ (ap (λ n. cond (nat_lt 0 k && nat_le k n) (asked_with (verdict_on (numbered asks k))) asked.Unknown) many
    ∙ ap (λ t. cond (nat_lt 0 k && nat_le k (length (requests_of notes r g))) (asked_with t) asked.Unknown) told)

beyond_test : (made : List Act) (g k : ℕ) → FewRequests made g → (MAX_LANES ≤ g) ⊎ (MAX_REQUESTS < k) → (nat_lt 0 k && nat_le k (length made)) ≡ false
beyond_test made g zero few h = refl
beyond_test made g (suc n) few (inl h) =
    let none : length made ≡ 0 = ap length (few.beyond h) in
    let lt : length made < suc n = omega arith in
    let t : nat_le (suc n) (length made) ≡ false = grind (arith, nat_tests) in
    let u : nat_lt 0 (suc n) ≡ true = grind (arith, nat_tests) in
    rw (u, t) refl
beyond_test made g (suc n) few (inr h) =
    let lt : length made < suc n = omega (arith, few.few, h) in
    let t : nat_le (suc n) (length made) ≡ false = grind (arith, nat_tests) in
    let u : nat_lt 0 (suc n) ≡ true = grind (arith, nat_tests) in
    rw (u, t) refl

pub unknown_beyond : (notes : List Note) (r g k : ℕ) → FewRequests (requests_of notes r g) g → (MAX_LANES ≤ g) ⊎ (MAX_REQUESTS < k) → asked_of notes r g k ≡ asked.Unknown
unfolding asked_of
unknown_beyond notes r g k few h = rw (beyond_test (requests_of notes r g) g k few h) refl

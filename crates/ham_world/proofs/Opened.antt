-- A world before its first event.
use Rattle.std.proofs.Common.{◌≡◌, ℕ, zero, suc, ◌+◌, ◌-◌, ◌*◌, ◌<◌, ◌≤◌, List, [], ◌∷◌, ◌++◌, Bool, true, false, cond, ◌==◌, ◌⊎◌, inl, inr, Option, Some, None, length, map, replicate, get_or, refl, sym, ap, ◌∙◌, arith, subst}
use Rattle.std.specs.Prelude.{slice_get, option_map}
use Rattle.std.specs.FinMap as finmap
use Rattle.std.proofs.lemmas.List.{length-replicate, get_or-replicate, length-append, get_or_push, get_or_append_left}
use Rattle.std.proofs.lemmas.Bool.{cases_eq}
use Rattle.std.proofs.lemmas.Option.{slice_get-get_or}
use Rattle.ham_syntax.specs.declared.act.Call.{Call}
use Rattle.ham_syntax.specs.declared.act.Place.{Place}
use Rattle.ham_syntax.specs.declared.limits.TheConstants.{MAX_REPLICAS}
use Rattle.ham_syntax.specs.Objects.{Schema}
use Rattle.ham_state.specs.Content.{opening}
use Rattle.ham_plan.specs.Plans.{Plan}
use Rattle.ham_laws.specs.Constrained.{IsPlanned}
use Rattle.ham_frame.specs.declared.frame.Ruled.{Ruled}
use Rattle.ham_frame.specs.Decoding.{Fed}
use Rattle.ham_buffer.specs.declared.buffer.Kept.{Kept}
use Rattle.ham_buffer.specs.Buffers.{place_cmp, kept_call, begun as buffer_begun}
use Rattle.ham_resend.specs.declared.asks.Ask.{Ask}
use Rattle.ham_resend.specs.Asking.{verdict_on}
use Rattle.ham_turns.specs.Settings.{Rules, Setting, rules_of, setting_of, IsReplica}
use Rattle.ham_turns.specs.Words.{ReplicaWords, numbered}
use Rattle.ham_turns.specs.Work.{first_of_two}
use Rattle.ham_turns.specs.Ready.{IsSettled}
use Rattle.ham_site.specs.Sites.{Site, slots_at}
use Rattle.ham_replica.specs.Values.{Replica, words}
use Rattle.ham_replica.specs.Opening.{opening_lists}
use Rattle.ham_runs.specs.Runs.{words_of}
use Rattle.ham_runs.specs.Next.{run_of}
use Rattle.ham_wire.specs.Streams.{IsIdle}
use Rattle.ham_world.specs.Keeping.{notes_of, Keeps, IsKept}
use Rattle.ham_world.specs.Opened.{site_of, opened}
use Rattle.ham_world.proofs.Each.{each-replicate}

pub setting_replicas : (p : Plan) → (setting_of p).replicas ≡ p.replicas
unfolding setting_of
setting_replicas p = refl

pub nothing_noted : (o : Schema) (p : Plan) → notes_of o p [] ≡ []
unfolding notes_of run_of
nothing_noted o p = refl

pub begun_kept : (o : Schema) (p : Plan) → IsPlanned o p → IsKept o p []
begun_kept o p sound = record { sound = sound; shown_are = rw (nothing_noted o p) refl }

-- ---- the words of a replica that took in nothing

no_calls : (b : Bool) (none : List Call) → none ≡ [] → cond b none [] ≡ []
no_calls true none e = e
no_calls false none e = refl

default : {X : Type 0} (n : ℕ) (x : X) (i : ℕ) → get_or (replicate n x) i x ≡ x
default zero x i = refl
default (suc n) x zero = refl
default (suc n) x (suc i) = default n x i

default_row : {X : Type 0} (n m : ℕ) (x : X) (i j : ℕ) → get_or (get_or (replicate n (replicate m x)) i []) j x ≡ x
default_row zero m x i j = refl
default_row (suc n) m x zero j = default m x j
default_row (suc n) m x (suc i) j = default_row n m x i j

-- the empty list of a type
abbrev nil : (A : Type 0) → List A
nil A = []

numbered_none : {X : Type 0} (k : ℕ) → numbered (nil X) k ≡ None
numbered_none zero = refl
numbered_none (suc k) = refl

no_call : (k : ℕ) → numbered (nil Call) k ≡ None
no_call k = numbered_none {X = Call} k

no_kept : (lanes slots : ℕ) (q : Place) → kept_call (buffer_begun lanes slots) q ≡ None
no_kept lanes slots q = ap (option_map (λ (k : Kept). k.call)) (finmap.get-empty {X = Kept} place_cmp q)

kept_none : (lanes slots : ℕ) (q : Place) → first_of_two (numbered (get_or (replicate lanes (nil Call)) q.lane []) q.number) (kept_call (buffer_begun lanes slots) q) ≡ None
kept_none lanes slots q =
    ap (λ (cs : List Call). first_of_two (numbered cs q.number) (kept_call (buffer_begun lanes slots) q)) (default lanes (nil Call) q.lane)
    ∙ (ap (λ (c : Option Call). first_of_two c (kept_call (buffer_begun lanes slots) q)) (no_call q.number) ∙ no_kept lanes slots q)

pub begun_words : (o : Schema) (p : Plan) (r : ℕ) → words (opened o p r).lists ≡ words_of (rules_of o) (setting_of p) [] r
begun_words o p r =
    let site : Site = site_of o p r in
    λ i. record {
      state = opening;
      log = [];
      count_of = λ s. default (slots_at site) 0 s i;
      decided = λ l. (default (setting_of p).lanes (nil Call) l ∙ sym (no_calls ((setting_of p).decider l == r) [] refl)) i;
      kept = λ q. kept_none (setting_of p).lanes (slots_at site) q i;
      requests = λ g. ap (map (λ (a : Ask). a.act)) (default (setting_of p).groups (nil Ask) g) i;
      verdict = λ g n. (ap (λ (made : List Ask). verdict_on (numbered made n)) (default (setting_of p).groups (nil Ask) g) ∙ ap verdict_on (numbered_none {X = Ask} n)) i;
      rulings = λ q g. default_row ((setting_of p).replicas + 1) (setting_of p).groups (nil Ruled) q g i;
      acked = λ l q. default_row (setting_of p).lanes ((setting_of p).replicas + 1) 0 l q i;
    }

pub begun_settled : (o : Schema) (p : Plan) (r : ℕ) → IsSettled (setting_of p) (words_of (rules_of o) (setting_of p) [] r)
begun_settled o p r = λ c. λ h. let e = h.kept in cc

-- ---- links

abbrev no_frames : List (List ℕ)
no_frames = []

no_link : (i : ℕ) → i < MAX_REPLICAS * MAX_REPLICAS → slice_get (replicate (MAX_REPLICAS * MAX_REPLICAS) no_frames) i ≡ Some no_frames
no_link i h =
    let lt : i < length (replicate (MAX_REPLICAS * MAX_REPLICAS) no_frames) = omega (arith, length-replicate (MAX_REPLICAS * MAX_REPLICAS) no_frames) in
    slice_get-get_or (replicate (MAX_REPLICAS * MAX_REPLICAS) no_frames) i no_frames lt ∙ ap Some (get_or-replicate (MAX_REPLICAS * MAX_REPLICAS) i no_frames no_frames h)

-- ---- replicas

more_replicas : (xs : List Replica) (v : Replica) (i : ℕ) (Q : ℕ → Replica) → length xs ≡ i → ((r : ℕ) → 1 ≤ r → r ≤ i → slice_get xs (r - 1) ≡ Some (Q r)) → v ≡ Q (i + 1) →
    (r : ℕ) → 1 ≤ r → r ≤ i + 1 → (r ≡ i + 1) ⊎ (r ≡ i + 1 → ⊥) → slice_get (xs ++ v ∷ []) (r - 1) ≡ Some (Q r)
more_replicas xs v i Q l all is r a b (inl e) =
    let n : length xs ≡ r - 1 = omega arith in
    let lt : r - 1 < length (xs ++ v ∷ []) = omega (arith, length-append xs (v ∷ [])) in
    slice_get-get_or (xs ++ v ∷ []) (r - 1) v lt ∙ ap Some (get_or_push xs v v (r - 1) n ∙ (is ∙ ap Q (sym e)))
more_replicas xs v i Q l all is r a b (inr e) =
    let le : r ≤ i = omega (arith, e) in
    let n : r - 1 < length xs = omega arith in
    let lt : r - 1 < length (xs ++ v ∷ []) = omega (arith, length-append xs (v ∷ [])) in
    slice_get-get_or (xs ++ v ∷ []) (r - 1) v lt
    ∙ (ap Some (get_or_append_left xs (v ∷ []) v (r - 1) n) ∙ (sym (slice_get-get_or xs (r - 1) v n) ∙ all r a le))

pub one_replica_more : (xs : List Replica) (v : Replica) (i : ℕ) (Q : ℕ → Replica) → length xs ≡ i → ((r : ℕ) → 1 ≤ r → r ≤ i → slice_get xs (r - 1) ≡ Some (Q r)) → v ≡ Q (i + 1) →
    (r : ℕ) → 1 ≤ r → r ≤ i + 1 → slice_get (xs ++ v ∷ []) (r - 1) ≡ Some (Q r)
one_replica_more xs v i Q l all is r a b = more_replicas xs v i Q l all is r a b (cases_eq r (i + 1))

pub is_opened : (o : Schema) (p : Plan) (r : ℕ) (v : Replica) → v.site ≡ site_of o p r → v.lists ≡ opening_lists v.site opening → v ≡ opened o p r
is_opened o p r v site lists =
    let l : v.lists ≡ opening_lists (site_of o p r) opening = lists ∙ ap (λ s. opening_lists s opening) site in
    λ i. record { site = site i; lists = l i }

abbrev pub nothing_fed : Fed
nothing_fed = record { total = 0; rest = []; fault = None }

pub begun_keeps : (o : Schema) (p : Plan) (vs : List Replica) (links : List (List (List ℕ))) (ds : List Fed) →
    ((r : ℕ) → IsReplica (setting_of p) r → slice_get vs (r - 1) ≡ Some (opened o p r)) → links ≡ replicate (MAX_REPLICAS * MAX_REPLICAS) [] →
    ds ≡ replicate (MAX_REPLICAS * MAX_REPLICAS) (record { total = 0; rest = []; fault = None }) → Keeps o p vs links ds [] 0
begun_keeps o p vs links ds at none new = record {
  each = λ r. λ rep. rw (nothing_noted o p) (record {
    value = opened o p r;
    there = at r rep;
    is = record { object = refl; plan = refl; me = refl; said = begun_words o p r; settled = let F : ReplicaWords → Type 0 = λ w. IsSettled (setting_of p) w in subst F (sym (begun_words o p r)) (begun_settled o p r) };
  });
  linked = λ from. λ to. λ a. λ b. λ c. λ d. rw (nothing_noted o p, none) (no_link (MAX_REPLICAS * (from - 1) + (to - 1)) (omega arith));
  fit = λ from. λ to. rw (nothing_noted o p) tt;
  idle = rw new (length-replicate (MAX_REPLICAS * MAX_REPLICAS) nothing_fed, each-replicate IsIdle (MAX_REPLICAS * MAX_REPLICAS) nothing_fed (record { rest = refl; fault = refl }));
  total = rw (nothing_noted o p) refl;
}

-- Requests go to groups that exist, and there are not too many.
use Rattle.std.proofs.Common.{◌≡◌, ℕ, ◌+◌, ◌<◌, ◌≤◌, List, [], ◌∷◌, ◌++◌, Bool, true, false, not, cond, ◌&&◌, ◌==◌, nat_lt, nat_le, Option, Some, None, ◌⊎◌, inl, inr, length, refl, sym, ap, ◌∙◌, arith, subst}
use Rattle.std.proofs.lemmas.Bool.Decides.{nat_tests}
use Rattle.std.proofs.lemmas.List.{length-append, append-nil}
use Rattle.ham_syntax.specs.declared.act.Act.{Act}
use Rattle.ham_syntax.specs.declared.act.Place.{Place}
use Rattle.ham_syntax.specs.declared.limits.TheConstants.{MAX_LANES, MAX_REQUESTS}
use Rattle.ham_meaning.specs.declared.outcome.Outcome.{Outcome}
use Rattle.ham_meaning.specs.declared.outcome.Outcome.TheVariants.{Yes, Guard, Invariant}
use Rattle.ham_turns.specs.declared.turn.IssueRefusal.{IssueRefusal}
use Rattle.ham_turns.specs.declared.turn.IssueRefusal.TheVariants as issue
use Rattle.ham_turns.specs.declared.turn.Issued.TheVariants as issued
use Rattle.ham_turns.specs.declared.turn.What.{What}
use Rattle.ham_turns.specs.declared.turn.What.TheVariants as whats
use Rattle.ham_turns.specs.Settings.{Rules, Setting, IsReplica}
use Rattle.ham_turns.specs.Tables.{IsTabled}
use Rattle.ham_turns.specs.Words.{ReplicaWords, Intake, ActComes, FrameComes, PartComes, Beat, place_of}
use Rattle.ham_turns.specs.Work.{answer_of, issued_by, lane_here, new_call, request_in}
use Rattle.ham_turns.specs.Refusals.{issue_refusal, is_here}
use Rattle.ham_runs.specs.Runs.{Note, MayTake, IsRun, words_of, requests_of}

passes : (b : Bool) (x : IssueRefusal) (rest : Option IssueRefusal) → cond b (Some x) rest ≡ None → (b ≡ false) × (rest ≡ None)
passes true x rest e = cc
passes false x rest e = (refl, e)

not_false : (b : Bool) → not b ≡ false → b ≡ true
not_false true e = refl
not_false false e = cc

when_away : (b : Bool) (n : ℕ) → (not b && nat_le MAX_REQUESTS n) ≡ false → b ≡ false → n < MAX_REQUESTS
when_away true n e f = cc
when_away false n e f = grind (arith, nat_tests)

below : (a b : ℕ) → nat_lt a b ≡ true → a < b
below a b e = grind (arith, nat_tests)

same_number : (a b : ℕ) → (a == b) ≡ true → a ≡ b
same_number a b e = grind (arith, nat_tests)

-- what a turn asks of a group: nothing; or one act, of a group that may be, to which there is room for one more
pub record AsksOne (w : ReplicaWords) (g : ℕ) (acts : List Act) : Type 0 where
  pub act : Act
  pub is : acts ≡ act ∷ []
  pub group : g < MAX_LANES
  pub room : length (w.requests g) < MAX_REQUESTS

abbrev pub Asks : ReplicaWords → ℕ → List Act → Type 0
Asks w g acts = (acts ≡ []) ⊎ AsksOne w g acts

decided : (g : ℕ) (a : Act) (place : Place) (u : Outcome) → request_in g (ActComes a) (whats.Issued (issued_by place u)) ≡ []
decided g a place Yes = refl
decided g a place (Guard i) = refl
decided g a place (Invariant i) = refl

forwarded : (w : ReplicaWords) (g l n : ℕ) (a : Act) (t : Bool) → (l == g) ≡ t → l < MAX_LANES → length (w.requests l) < MAX_REQUESTS → Asks w g (cond t (a ∷ []) [])
forwarded w g l n a true e lane room =
    let s : l ≡ g = same_number l g e in
    inr (record { act = a; is = refl; group = rw (sym s) lane; room = rw (sym s) room })
forwarded w g l n a false e lane room = inl refl

issue_asks : (w : ReplicaWords) (g l n : ℕ) (a : Act) (place : Place) (u : Outcome) (t : Bool) → (t ≡ false → (l < MAX_LANES) × (length (w.requests l) < MAX_REQUESTS)) →
    Asks w g (request_in g (ActComes a) (whats.Issued (cond t (issued_by place u) (issued.Forwarded l n))))
issue_asks w g l n a place u true h = inl (decided g a place u)
issue_asks w g l n a place u false h = let k = h refl in forwarded w g l n a (l == g) refl k.0 k.1

pub turn_asks : (x : Rules) (y : Setting) (slots : ℕ) → IsTabled y slots → (earlier : List Note) (r g : ℕ) (took : Intake) → IsReplica y r → MayTake x y earlier r took →
    Asks (words_of x y earlier r) g (request_in g took (answer_of x y (words_of x y earlier r) r took))
turn_asks x y slots tabled earlier r g (ActComes a) rep may =
    let w : ReplicaWords = words_of x y earlier r in
    let l : ℕ = lane_here y r a in
    let one = passes (not (nat_lt a.method y.methods)) issue.UnknownMethod _ may in
    let two = passes (not (x.fits a)) issue.BadArgs _ one.1 in
    let three = passes (is_here y r a && nat_le x.lane_limit (length (w.decided l))) issue.LaneFull _ two.1 in
    let four = passes (not (is_here y r a) && nat_le MAX_REQUESTS (length (w.requests l))) issue.RequestsFull None three.1 in
    let method : a.method < y.methods = below a.method y.methods (not_false (nat_lt a.method y.methods) one.0) in
    let lane : l < MAX_LANES = omega (arith, tabled.lane_exists a.method r method rep, tabled.few_lanes) in
    issue_asks w g l (length (w.requests l) + 1) a (place_of (new_call y w l a)) (x.outcome w.state a) (is_here y r a) (λ away. (lane, when_away (is_here y r a) (length (w.requests l)) four.0 away))
turn_asks x y slots tabled earlier r g (FrameComes from k f) rep may = inl refl
turn_asks x y slots tabled earlier r g (PartComes from k f) rep may = inl refl
turn_asks x y slots tabled earlier r g Beat rep may = inl refl

pub record FewRequests (made : List Act) (g : ℕ) : Type 0 where
  pub few : length made ≤ MAX_REQUESTS
  pub beyond : MAX_LANES ≤ g → made ≡ []

grown : (w : ReplicaWords) (g : ℕ) (made more : List Act) → made ≡ w.requests g → FewRequests made g → Asks w g more → FewRequests (made ++ more) g
grown w g made more is few (inl e) =
    let F : List Act → Type 0 = λ m. FewRequests (made ++ m) g in
    let G : List Act → Type 0 = λ m. FewRequests m g in
    subst F (sym e) (subst G (sym (append-nil made)) few)
grown w g made more is few (inr one) =
    let n = ap length one.is in
    let room = one.room in
    let same = ap length is in
    record { few = omega (arith, length-append made more, n, room, same); beyond = λ h. absurd (omega (arith, one.group, h)) }

when : (t : Bool) (w : ReplicaWords) (g : ℕ) (made more : List Act) → made ≡ w.requests g → FewRequests made g → (t ≡ true → Asks w g more) → FewRequests (cond t (made ++ more) made) g
when true w g made more is few h = grown w g made more is few (h refl)
when false w g made more is few h = few

pub few_requests : (x : Rules) (y : Setting) (slots : ℕ) → IsTabled y slots → (notes : List Note) → IsRun x y notes → (r g : ℕ) → FewRequests (requests_of notes r g) g
few_requests x y slots tabled [] run r g = record { few = omega arith; beyond = λ h. refl }
few_requests x y slots tabled (n ∷ earlier) run r g =
    let next = run.0 in
    let F : ℕ → Type 0 = λ q. Asks (words_of x y earlier q) g (request_in g n.took n.answer) in
    let asks : Asks (words_of x y earlier n.at) g (request_in g n.took n.answer) =
    rw next.answer (turn_asks x y slots tabled earlier n.at g n.took next.replica next.may) in
    when (n.at == r) (words_of x y earlier r) g (requests_of earlier r g) (request_in g n.took n.answer) refl (few_requests x y slots tabled earlier run.1 r g)
    (λ t. subst F (same_number n.at r t) asks)

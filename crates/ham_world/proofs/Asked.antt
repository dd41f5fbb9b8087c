-- One of several replicas has a turn.
use Rattle.std.proofs.Common.{◌≡◌, ◌≢◌, ℕ, ◌-◌, ◌<◌, ◌≤◌, ◌⊎◌, inl, inr, List, Bool, Result, Ok, Err, Some, None, length, set, get_or, refl, sym, ap, ◌∙◌, arith, subst}
use Rattle.std.specs.Prelude.{slice_get, IfOk, IfErr, OnOk}
use Rattle.std.proofs.lemmas.List.{set-get_or}
use Rattle.std.proofs.lemmas.Option.{slice_get_read, same_Some, get_or_from_slice_get}
use Rattle.ham_lists.specs.declared.list.NoMemory.{NoMemory}
use Rattle.ham_syntax.specs.declared.act.Act.{Act}
use Rattle.ham_syntax.specs.declared.act.Place.{Place}
use Rattle.ham_frame.specs.declared.frame.Frame.{Frame}
use Rattle.ham_turns.specs.declared.turn.Out.{Out}
use Rattle.ham_turns.specs.declared.turn.What.{What}
use Rattle.ham_turns.specs.declared.turn.What.TheVariants as whats
use Rattle.ham_turns.specs.declared.turn.Issued.{Issued}
use Rattle.ham_turns.specs.declared.turn.Delivered.{Delivered}
use Rattle.ham_turns.specs.declared.turn.IssueRefusal.{IssueRefusal}
use Rattle.ham_turns.specs.declared.turn.IssueRefusal.TheVariants as issue_refusals
use Rattle.ham_turns.specs.declared.turn.DeliverRefusal.{DeliverRefusal}
use Rattle.ham_turns.specs.declared.turn.DeliverRefusal.TheVariants as deliver_refusals
use Rattle.ham_turns.specs.Words.{Intake, ActComes, FrameComes, Beat}
use Rattle.ham_site.specs.declared.out.Turn.{Turn}
use Rattle.ham_replica.specs.Values.{Replica}
use Rattle.ham_replica.specs.Turning.{HasTurned, Issues, Delivers, Ticks}
use Rattle.ham_world.specs.Keeping.{TurnsAt, refuses_issue, refuses_delivery}

pub there_at : (xs : List Replica) (r i : ℕ) (x : Replica) → i ≡ r → 1 ≤ r → r ≤ length xs → x ≡ get_or xs (i - 1) x → slice_get xs (r - 1) ≡ Some x
there_at xs r i x e a b is =
    let lt : r - 1 < length xs = omega arith in
    slice_get_read xs (length xs) (r - 1) x refl lt (rw e at is)

-- the r-th replica of these, before a turn and after it
pub record IsThere (xs ys : List Replica) (r : ℕ) (x x' : Replica) : Type 0 where
  pub there : slice_get xs (r - 1) ≡ Some x
  pub replaced : ys ≡ set xs (r - 1) x'

pub is_there : (xs : List Replica) (r i : ℕ) (x x' : Replica) → i ≡ r → 1 ≤ r → r ≤ length xs → x ≡ get_or xs (i - 1) x → IsThere xs (set xs (i - 1) x') r x x'
is_there xs r i x x' e a b is = record { there = there_at xs r i x e a b is; replaced = ap (λ n. set xs (n - 1) x') e }

turned : (xs ys : List Replica) (r : ℕ) (x x' : Replica) (took : Intake) (what : What) (logged : List Place) (outs : List Out) (settled : Bool) →
    IsThere xs ys r x x' → x'.site ≡ x.site → HasTurned x x' took what logged outs settled → TurnsAt xs ys r took what logged outs settled
turned xs ys r x x' took what logged outs settled at site t = record { before = x; after = x'; there = at.there; replaced = at.replaced; site = site; turn = t }

unturned : (xs ys : List Replica) (r : ℕ) (x x' : Replica) → IsThere xs ys r x x' → x' ≡ x → ys ≡ xs
unturned xs ys r x x' at same =
    at.replaced ∙ (ap (set xs (r - 1)) (same ∙ sym (get_or_from_slice_get xs (r - 1) x x at.there)) ∙ set-get_or xs (r - 1) x)

-- what is so of the replica is so of what stands there
at_value : (F : Replica → Type 0) (vs : List Replica) (r : ℕ) (v u : Replica) → slice_get vs (r - 1) ≡ Some v → F v → slice_get vs (r - 1) ≡ Some u → F u
at_value F vs r v u there h other = subst F (same_Some v u (sym there ∙ other)) h

-- ---- an issue

pub issued : (xs ys : List Replica) (r : ℕ) (x x' : Replica) (a : Act) (res : Result (Turn Issued) IssueRefusal) → IsThere xs ys r x x' → x'.site ≡ x.site → Issues x x' a res →
    IfOk res (λ t. TurnsAt xs ys r (ActComes a) (whats.Issued t.answer) t.logged t.out t.settled)
issued xs ys r x x' a (Ok t) at site h = turned xs ys r x x' (ActComes a) (whats.Issued t.answer) t.logged t.out t.settled at site h.1
issued xs ys r x x' a (Err why) at site h = tt

pub issue_taken : (xs ys : List Replica) (r : ℕ) (x x' : Replica) (a : Act) (res : Result (Turn Issued) IssueRefusal) → IsThere xs ys r x x' → Issues x x' a res →
    OnOk res ((v : Replica) → slice_get xs (r - 1) ≡ Some v → refuses_issue v a ≡ None)
issue_taken xs ys r x x' a (Ok t) at h = λ v. λ e. at_value (λ u. refuses_issue u a ≡ None) xs r x v at.there h.0 e
issue_taken xs ys r x x' a (Err why) at h = tt

pub issue_refused : (xs ys : List Replica) (r : ℕ) (x x' : Replica) (a : Act) (res : Result (Turn Issued) IssueRefusal) → IsThere xs ys r x x' → Issues x x' a res →
    IfErr res (λ why. (ys ≡ xs) × ((why ≡ issue_refusals.NoMemory) ⊎ ((v : Replica) → slice_get xs (r - 1) ≡ Some v → refuses_issue v a ≡ Some why)))
issue_refused xs ys r x x' a (Ok t) at h = tt
issue_refused xs ys r x x' a (Err why) at h = (
  unturned xs ys r x x' at h.0,
  elim h.1 [ inl m ↦ inl m | inr m ↦ inr (λ v. λ e. at_value (λ u. refuses_issue u a ≡ Some why) xs r x v at.there m e) ],
)

-- ---- a delivery

pub delivered : (xs ys : List Replica) (r : ℕ) (x x' : Replica) (from : ℕ) (f : Frame) (res : Result (Turn Delivered) DeliverRefusal) → IsThere xs ys r x x' → x'.site ≡ x.site → Delivers x x' from f res →
    IfOk res (λ t. (which : ℕ) → TurnsAt xs ys r (FrameComes from which f) (whats.Delivered t.answer) t.logged t.out t.settled)
delivered xs ys r x x' from f (Ok t) at site h = λ which. turned xs ys r x x' (FrameComes from which f) (whats.Delivered t.answer) t.logged t.out t.settled at site (h.1 which)
delivered xs ys r x x' from f (Err why) at site h = tt

pub delivery_refused : (xs ys : List Replica) (r : ℕ) (x x' : Replica) (from : ℕ) (f : Frame) (res : Result (Turn Delivered) DeliverRefusal) → IsThere xs ys r x x' → Delivers x x' from f res →
    IfErr res (λ why. (why ≡ deliver_refusals.NoMemory) ⊎ ((v : Replica) → slice_get xs (r - 1) ≡ Some v → refuses_delivery v from f ≡ Some why))
delivery_refused xs ys r x x' from f (Ok t) at h = tt
delivery_refused xs ys r x x' from f (Err why) at h =
    elim h.1 [ inl m ↦ inl m | inr m ↦ inr (λ v. λ e. at_value (λ u. refuses_delivery u from f ≡ Some why) xs r x v at.there m e) ]

-- ---- a tick

pub ticked : (xs ys : List Replica) (r : ℕ) (x x' : Replica) (res : Result (Turn Unit) NoMemory) → IsThere xs ys r x x' → x' ≡ x → IfOk res (λ t. Ticks x t) →
    IfOk res (λ t. TurnsAt xs ys r Beat whats.Ticked t.logged t.out t.settled)
ticked xs ys r x x' (Ok t) at same h =
    let F : Replica → Type 0 = λ v. HasTurned x v Beat whats.Ticked t.logged t.out t.settled in
    turned xs ys r x x' Beat whats.Ticked t.logged t.out t.settled at (ap (λ (v : Replica). v.site) same) (subst F (sym same) h)
ticked xs ys r x x' (Err why) at same h = tt

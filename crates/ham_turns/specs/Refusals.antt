-- What a replica refuses: the tests in their order, and the refusal of the first that fails. Want of memory comes last, is
-- no test, and stands for itself.
use Rattle.std.specs.Prelude.{ℕ, Bool, true, false, not, ◌&&◌, ◌==◌, nat_eq, nat_lt, nat_le, if◌then◌else◌, List, [], ◌∷◌, ◌++◌, length, Option, Some, None}
use Rattle.std.specs.Cmp.Lexicographic.{pointwise}
use Rattle.ham_syntax.specs.declared.limits.TheConstants.{MAX_REQUESTS}
use Rattle.ham_syntax.specs.declared.act.Act.{Act}
use Rattle.ham_syntax.specs.declared.act.Call.{Call}
use Rattle.ham_frame.specs.declared.frame.Ruling.{Ruling}
use Rattle.ham_frame.specs.declared.frame.Ruling.TheVariants as rulings
use Rattle.ham_frame.specs.declared.frame.Ruled.{Ruled}
use Rattle.ham_frame.specs.declared.frame.Frame.{Frame}
use Rattle.ham_frame.specs.declared.frame.Frame.TheVariants as frames
use Rattle.ham_turns.specs.declared.turn.IssueRefusal.{IssueRefusal}
use Rattle.ham_turns.specs.declared.turn.IssueRefusal.TheVariants as issue
use Rattle.ham_turns.specs.declared.turn.DeliverRefusal.{DeliverRefusal}
use Rattle.ham_turns.specs.declared.turn.DeliverRefusal.TheVariants as deliver
use Rattle.ham_turns.specs.Settings.{Rules, Setting}
use Rattle.ham_turns.specs.Words.{ReplicaWords, place_of, numbered}
use Rattle.ham_turns.specs.Work.{lane_here}

-- ---- issues

-- calls of the act's method that r issues are decided by r
abbrev pub is_here : Setting → ℕ → Act → Bool
is_here y r a = y.decider (lane_here y r a) == r

abbrev pub issue_refusal : Rules → Setting → ReplicaWords → ℕ → Act → Option IssueRefusal
issue_refusal x y w r a =
    if not (nat_lt a.method y.methods) then Some issue.UnknownMethod
    else if not (x.fits a) then Some issue.BadArgs
    else if is_here y r a && nat_le x.lane_limit (length (w.decided (lane_here y r a))) then Some issue.LaneFull
    else if not (is_here y r a) && nat_le MAX_REQUESTS (length (w.requests (lane_here y r a))) then Some issue.RequestsFull
    else None

-- ---- deliveries

-- the refusal of the first test that fails
abbrev pub first_of : {R : Type 0} → List (Bool × R) → Option R
first_of [] = None
first_of (t ∷ rest) = if t.0 then first_of rest else Some t.1

abbrev pub same_act : Act → Act → Bool
same_act a b = (a.method == b.method) && pointwise nat_eq a.args b.args

abbrev pub same_call : Call → Call → Bool
same_call c d = (c.lane == d.lane) && ((c.number == d.number) && (same_act c.act d.act && pointwise nat_eq c.deps d.deps))

abbrev pub same_ruling : Ruling → Ruling → Bool
same_ruling (rulings.Applied n) (rulings.Applied m) = n == m
same_ruling (rulings.Guard n) (rulings.Guard m) = n == m
same_ruling (rulings.Invariant n) (rulings.Invariant m) = n == m
same_ruling rulings.Full rulings.Full = true
same_ruling v u = false

-- what is kept is the same
abbrev pub calls_differ : Call → Option Call → List (Bool × DeliverRefusal)
calls_differ c None = []
calls_differ c (Some d) = (same_call c d, deliver.Differs (frames.Call d)) ∷ []

abbrev pub requests_differ : ℕ → ℕ → Act → Option Ruled → List (Bool × DeliverRefusal)
requests_differ g n a None = []
requests_differ g n a (Some d) = (same_act a d.act, deliver.Differs (frames.Request g n d.act)) ∷ []

abbrev pub verdicts_differ : ℕ → ℕ → Ruling → Option Ruling → List (Bool × DeliverRefusal)
verdicts_differ g n v None = []
verdicts_differ g n v (Some u) = (same_ruling v u, deliver.Differs (frames.Verdict g n u)) ∷ []

-- of a frame whose fields are in their ranges, delivered by `from` at r
abbrev pub deliver_refusal : Rules → Setting → ReplicaWords → ℕ → ℕ → Frame → Option DeliverRefusal
deliver_refusal x y w r from (frames.Call c) = first_of (
    (nat_lt c.lane y.lanes && (y.decider c.lane == from), deliver.NotYours)
    ∷ (nat_lt c.act.method y.methods && (y.lane c.act.method from == c.lane), deliver.BadMethod)
    ∷ (x.fits c.act, deliver.BadArgs)
    ∷ (length c.deps == length (y.needs c.act.method), deliver.BadDeps)
    ∷ calls_differ c (w.kept (place_of c)))
deliver_refusal x y w r from (frames.Ack lane count) = first_of (
    (nat_lt lane y.lanes && (y.decider lane == r), deliver.NotYours)
    ∷ (nat_le count (length (w.decided lane)), deliver.AckBeyond (length (w.decided lane)))
    ∷ [])
deliver_refusal x y w r from (frames.Request g n a) = first_of (
    (nat_lt g y.groups && (y.decider g == r), deliver.NotYours)
    ∷ (nat_lt a.method y.methods && (y.lane a.method from == g), deliver.BadMethod)
    ∷ (x.fits a, deliver.BadArgs)
    ∷ requests_differ g n a (numbered (w.rulings from g) n))
deliver_refusal x y w r from (frames.Verdict g n v) = first_of (
    (nat_lt g y.groups && (y.decider g == from), deliver.NotYours)
    ∷ (verdicts_differ g n v (w.verdict g n) ++ (nat_le n (length (w.requests g)), deliver.UnknownRequest (length (w.requests g))) ∷ []))
deliver_refusal x y w r from (frames.Hello version digest sender of) = Some deliver.HelloTwice
deliver_refusal x y w r from frames.Bye = None

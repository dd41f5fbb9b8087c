-- Each call that a turn sends is decided.
use Rattle.std.proofs.Common.{◌≡◌, ℕ, zero, suc, ◌+◌, Bool, true, false, List, [], ◌∷◌, ◌++◌, length, map, take, drop, Option, Some, None, if◌then◌else◌, refl, sym, subst, ap, ◌∙◌}
use Rattle.std.specs.Prelude.{is_some, ◌==◌, slice_get}
use Rattle.std.specs.List.{AllByRecursion, flat_map}
use Rattle.std.proofs.lemmas.Bool.{eq-eqb}
use Rattle.std.proofs.lemmas.Option.{none-some, same_Some}
use Rattle.ham_syntax.specs.declared.act.Act.{Act}
use Rattle.ham_syntax.specs.declared.act.Call.{Call}
use Rattle.ham_syntax.specs.declared.act.Place.{Place}
use Rattle.ham_syntax.specs.declared.limits.TheConstants.{MAX_DUE}
use Rattle.ham_frame.specs.declared.frame.Frame.{Frame}
use Rattle.ham_frame.specs.declared.frame.Frame.TheVariants as frames
use Rattle.ham_frame.specs.declared.frame.Ruling.{Ruling}
use Rattle.ham_turns.specs.declared.turn.Out.{Out}
use Rattle.ham_turns.specs.declared.turn.Issued.{Issued}
use Rattle.ham_turns.specs.declared.turn.Issued.TheVariants as issueds
use Rattle.ham_turns.specs.declared.turn.Delivered.TheVariants as delivereds
use Rattle.ham_turns.specs.declared.turn.What.{What}
use Rattle.ham_turns.specs.declared.turn.What.TheVariants as whats
use Rattle.ham_turns.specs.Settings.{Rules, Setting}
use Rattle.ham_turns.specs.Words.{ReplicaWords, Intake, ActComes, FrameComes, PartComes, Beat, numbered}
use Rattle.ham_turns.specs.Work.{logged_made, taken, own_work, made_of, answer_of, ruled_of, decided_after}
use Rattle.ham_turns.specs.Ready.{LogsReady}
use Rattle.ham_turns.specs.Sends.{peers, decided_by, to_peers, back, open_requests, due_calls, due_requests, due_to, sent_back, sent_for, sent_by, kept_ruling}
use Rattle.ham_journal.specs.Closed.{IsPlaced}
use Rattle.ham_journal.specs.Cores.{sent_in}
use Rattle.ham_journal.proofs.Takings.{numbered_last, decided_still, Takes}
use Rattle.ham_replica.proofs.Items.{all_append, all_map, all_flat, all_take, all_drop}
use Rattle.ham_core.specs.Waits.{Decided, IsKnown, Grows}
use Rattle.ham_core.proofs.Steps.{logs_decided}

all_same : {X : Type 0} (P : X → Type 0) (xs : List X) → ((x : X) → P x) → AllByRecursion P xs
all_same P [] f = tt
all_same P (x ∷ xs) f = (f x, all_same P xs f)

-- what each numbered item has
by_number : {X : Type 0} (P : X → Type 0) (xs : List X) → ((n : ℕ) (x : X) → numbered xs n ≡ Some x → P x) → AllByRecursion P xs
by_number P [] f = tt
by_number P (x ∷ xs) f = (f 1 x refl, by_number P xs rest)
  where
    rest : (n : ℕ) (z : _) → numbered xs n ≡ Some z → P z
    rest zero z h = absurd (none-some z h)
    rest (suc n) z h = f (suc (suc n)) z h

-- what is decided after a turn that decides this
abbrev pub after_made : Decided → Option Call → Decided
after_made d made = λ l. decided_after l (d l) made

made_decided : (x : Rules) (y : Setting) (w : ReplicaWords) (made : Option Call) → (logged_made x y w made).decided ≡ w.decided
made_decided x y w None = refl
made_decided x y w (Some c) = refl

pub turn_decided : (x : Rules) (y : Setting) (me : ℕ) (w after : ReplicaWords) (took : Intake) (calls : List Call) → LogsReady x y (own_work x y w me took) calls after
    → after.decided ≡ after_made w.decided (made_of x y w me took)
turn_decided x y me w after took calls h =
    logs_decided x y (own_work x y w me took) after calls h
    ∙ made_decided x y (taken w took (answer_of x y w me took) (ruled_of x w took) (made_of x y w me took)) (made_of x y w me took)

pub grows : (d : Decided) (made : Option Call) → Grows d (after_made d made)
grows d made l n c h = decided_still l n (d l) made c h

-- the number of a new call is the next of its lane
abbrev IsNext : Decided → Option Call → Type 0
IsNext d made = (c : Call) → made ≡ Some c → c.number ≡ length (d c.lane) + 1

abbrev AllKnown : Decided → List Out → Type 0
AllKnown d outs = AllByRecursion (λ o. IsKnown d o.frame) outs

new_known : (d : Decided) (c : Call) → IsNext d (Some c) → IsKnown (after_made d (Some c)) (frames.Call c)
new_known d c next =
    ap (λ (b : Bool). numbered (if b then d c.lane ++ c ∷ [] else d c.lane) c.number) (eq-eqb c.lane c.lane refl) ∙ numbered_last (d c.lane) c c.number (next c refl)

to_known : (y : Setting) (r : ℕ) (d : Decided) (made : Option Call) → IsNext d made → AllKnown (after_made d made) (to_peers y r made)
to_known y r d None next = tt
to_known y r d (Some c) next =
    all_map (λ (o : Out). IsKnown (after_made d (Some c)) o.frame) (λ q. record { to = q; frame = frames.Call c }) (peers r y.replicas)
    (all_same (λ (q : ℕ). IsKnown (after_made d (Some c)) (frames.Call c)) (peers r y.replicas) (λ q. new_known d c next))

back_known : (d : Decided) (from g n : ℕ) (v : Option Ruling) → AllKnown d (back from g n v)
back_known d from g n None = tt
back_known d from g n (Some v) = (tt, tt)

issued_known : (y : Setting) (r : ℕ) (a : Act) (d : Decided) (made : Option Call) (answer : What) → IsNext d made → AllKnown (after_made d made) (sent_for y r a made answer)
issued_known y r a d made (whats.Issued (issueds.Applied place)) next = to_known y r d made next
issued_known y r a d made (whats.Issued (issueds.Forwarded g n)) next = (tt, tt)
issued_known y r a d made (whats.Issued (issueds.Impermissible u)) next = tt
issued_known y r a d made (whats.Delivered e) next = tt
issued_known y r a d made whats.Torn next = tt
issued_known y r a d made whats.Ticked next = tt

request_known : (y : Setting) (r from g n : ℕ) (d : Decided) (made : Option Call) (ruled : Option Ruling) → IsNext d made → AllKnown (after_made d made) (to_peers y r made ++ back from g n ruled)
request_known y r from g n d made ruled next =
    all_append (λ (o : Out). IsKnown (after_made d made) o.frame) (to_peers y r made) (back from g n ruled) (to_known y r d made next) (back_known (after_made d made) from g n ruled)

delivered_known : (y : Setting) (w : ReplicaWords) (r from : ℕ) (f : Frame) (answer : What) (ruled : Option Ruling) (made : Option Call) (log : List Place) → IsNext w.decided made
    → AllKnown (after_made w.decided made) (sent_back y w r from f answer ruled made log)
delivered_known y w r from (frames.Call c) answer ruled made log next = (tt, tt)
delivered_known y w r from (frames.Ack lane count) answer ruled made log next = tt
delivered_known y w r from (frames.Verdict g n v) answer ruled made log next = tt
delivered_known y w r from (frames.Hello version digest sender of) answer ruled made log next = tt
delivered_known y w r from frames.Bye answer ruled made log next = tt
delivered_known y w r from (frames.Request g n a) (whats.Delivered delivereds.Repeat) ruled made log next =
    back_known (after_made w.decided made) from g n (kept_ruling (numbered (w.rulings from g) n))
delivered_known y w r from (frames.Request g n a) (whats.Delivered delivereds.Fresh) ruled made log next = request_known y r from g n w.decided made ruled next
delivered_known y w r from (frames.Request g n a) (whats.Delivered delivereds.Noted) ruled made log next = request_known y r from g n w.decided made ruled next
delivered_known y w r from (frames.Request g n a) (whats.Delivered delivereds.Early) ruled made log next = request_known y r from g n w.decided made ruled next
delivered_known y w r from (frames.Request g n a) (whats.Issued i) ruled made log next = request_known y r from g n w.decided made ruled next
delivered_known y w r from (frames.Request g n a) whats.Torn ruled made log next = request_known y r from g n w.decided made ruled next
delivered_known y w r from (frames.Request g n a) whats.Ticked ruled made log next = request_known y r from g n w.decided made ruled next

-- ---- what is sent again

lane_known : (w : ReplicaWords) → IsPlaced w → (l : ℕ) → AllByRecursion (λ c. IsKnown w.decided (frames.Call c)) (w.decided l)
lane_known w placed l = by_number (λ (c : Call). IsKnown w.decided (frames.Call c)) (w.decided l) stands
  where
    stands : (n : ℕ) (c : Call) → numbered (w.decided l) n ≡ Some c → IsKnown w.decided (frames.Call c)
    stands n c h =
        let at = placed l n c h in
        ap (λ (k : ℕ). numbered (w.decided k) c.number) at.0 ∙ ap (λ (k : ℕ). numbered (w.decided l) k) at.1 ∙ h

open_known : (d : Decided) (g : ℕ) (verdict : ℕ → Option Ruling) (n : ℕ) (acts : List Act) → AllByRecursion (IsKnown d) (open_requests g verdict n acts)
open_known d g verdict n [] = tt
open_known d g verdict n (a ∷ acts) =
    all_append (IsKnown d) (if is_some (verdict n) then [] else frames.Request g n a ∷ []) (open_requests g verdict (n + 1) acts) (by_test (is_some (verdict n))) (open_known d g verdict (n + 1) acts)
  where
    by_test : (b : Bool) → AllByRecursion (IsKnown d) (if b then [] else frames.Request g n a ∷ [])
    by_test true = tt
    by_test false = (tt, tt)

due_known : (y : Setting) (w : ReplicaWords) (r peer : ℕ) → IsPlaced w → AllByRecursion (IsKnown w.decided) (due_to y w r peer)
due_known y w r peer placed =
    all_append (IsKnown w.decided) (flat_map (due_calls w peer) (decided_by y r y.lanes)) (flat_map (due_requests w) (decided_by y peer y.groups))
    (all_flat (IsKnown w.decided) (due_calls w peer) (decided_by y r y.lanes) (all_same (λ (l : ℕ). AllByRecursion (IsKnown w.decided) (due_calls w peer l)) (decided_by y r y.lanes) lane))
    (all_flat (IsKnown w.decided) (due_requests w) (decided_by y peer y.groups) (all_same (λ (g : ℕ). AllByRecursion (IsKnown w.decided) (due_requests w g)) (decided_by y peer y.groups) group))
  where
    lane : (l : ℕ) → AllByRecursion (IsKnown w.decided) (due_calls w peer l)
    lane l = all_map (IsKnown w.decided) frames.Call (take MAX_DUE (drop (w.acked l peer) (w.decided l)))
        (all_take (λ (c : Call). IsKnown w.decided (frames.Call c)) MAX_DUE (drop (w.acked l peer) (w.decided l))
        (all_drop (λ (c : Call). IsKnown w.decided (frames.Call c)) (w.acked l peer) (w.decided l) (lane_known w placed l)))

    group : (g : ℕ) → AllByRecursion (IsKnown w.decided) (due_requests w g)
    group g = all_take (IsKnown w.decided) MAX_DUE (open_requests g (w.verdict g) 1 (w.requests g)) (open_known w.decided g (w.verdict g) 1 (w.requests g))

beat_known : (y : Setting) (w : ReplicaWords) (r : ℕ) → IsPlaced w → AllKnown w.decided (flat_map (λ q. map (λ f. record { to = q; frame = f }) (due_to y w r q)) (peers r y.replicas))
beat_known y w r placed =
    all_flat (λ (o : Out). IsKnown w.decided o.frame) to_one (peers r y.replicas) (all_same (λ (q : ℕ). AllKnown w.decided (to_one q)) (peers r y.replicas)
    (λ q. all_map (λ (o : Out). IsKnown w.decided o.frame) (λ f. record { to = q; frame = f }) (due_to y w r q) (due_known y w r q placed)))
  where
    to_one : ℕ → List Out
    to_one q = map (λ f. record { to = q; frame = f }) (due_to y w r q)

-- ---- each turn

pub sent_known : (x : Rules) (y : Setting) (me : ℕ) (w : ReplicaWords) (took : Intake) (log : List Place) → Takes x y me w took → IsPlaced w
    → AllKnown (after_made w.decided (made_of x y w me took)) (sent_in x y me w took log)
sent_known x y me w (ActComes a) log t placed = issued_known y me a w.decided (made_of x y w me (ActComes a)) (answer_of x y w me (ActComes a)) t.number
sent_known x y me w (FrameComes from k f) log t placed =
    delivered_known y w me from f (answer_of x y w me (FrameComes from k f)) (ruled_of x w (FrameComes from k f)) (made_of x y w me (FrameComes from k f)) log t.number
sent_known x y me w (PartComes from k f) log t placed = tt
sent_known x y me w Beat log t placed = beat_known y w me placed

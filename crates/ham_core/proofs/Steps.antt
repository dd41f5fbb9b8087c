-- Turns of a replica, as entries tell them.
use Rattle.std.proofs.Common.{◌≡◌, ℕ, zero, suc, ◌+◌, ◌-◌, ◌≤◌, ◌<◌, ◌⊎◌, Bool, true, false, List, [], ◌∷◌, ◌++◌, length, map, take, drop, set, get_or, Option, Some, None, if◌then◌else◌, refl, sym, subst, ap, ◌∙◌, inl, inr, arith, append_assoc, true≢false}
use Rattle.std.specs.Prelude.{nat_le, not, is_some, fold, option_map, option_and_then}
use Rattle.std.proofs.lemmas.List.Sums.{fold-append}
use Rattle.std.proofs.lemmas.List.{append-nil, length-append, length-map}
use Rattle.ham_syntax.specs.declared.act.Place.{Place}
use Rattle.ham_syntax.specs.declared.act.Call.{Call}
use Rattle.ham_syntax.specs.declared.act.Act.{Act}
use Rattle.ham_turns.specs.declared.turn.Out.{Out}
use Rattle.ham_frame.specs.declared.frame.Frame.{Frame}
use Rattle.ham_turns.specs.declared.turn.Issued.{Issued}
use Rattle.ham_turns.specs.declared.turn.What.{What}
use Rattle.ham_turns.specs.declared.turn.What.TheVariants as whats
use Rattle.ham_turns.specs.declared.turn.IssueRefusal.{IssueRefusal}
use Rattle.ham_turns.specs.declared.turn.IssueRefusal.TheVariants as refusals
use Rattle.ham_journal.specs.declared.entry.Entry.{Entry}
use Rattle.ham_journal.specs.declared.input.Reply.{Reply}
use Rattle.ham_journal.specs.declared.input.Input.{Input}
use Rattle.ham_journal.specs.declared.input.Input.TheVariants as inputs
use Rattle.ham_journal.specs.declared.input.Reply.TheVariants as replies
use Rattle.ham_journal.specs.declared.entry.Mark.{Mark}
use Rattle.ham_journal.specs.declared.entry.Mark.TheVariants as marks
use Rattle.ham_turns.specs.Settings.{Rules, Setting}
use Rattle.ham_journal.specs.Cores.{asked_in, lane_counts, Core, Answered, turn, turn_to, sent_in, boxed, reply_of, step, issued, delivered, where_settled, history, core_after, entered, by_mark}
use Rattle.ham_state.specs.Content.{value, rows}
use Rattle.ham_journal.specs.Drains.{drained, is_settled, least_ready}
use Rattle.ham_journal.specs.Histories.{core_by, Works, Tells}
use Rattle.ham_turns.specs.Turns.{IsTurnOf}
use Rattle.ham_turns.specs.Words.{ReplicaWords, Intake, ActComes, FrameComes, Beat, place_of}
use Rattle.ham_turns.specs.declared.turn.Delivered.{Delivered}
use Rattle.ham_resend.specs.declared.asks.Asked.{Asked}
use Rattle.ham_turns.specs.declared.turn.DeliverRefusal.{DeliverRefusal}
use Rattle.ham_turns.specs.declared.turn.DeliverRefusal.TheVariants as bads
use Rattle.ham_turns.specs.Work.{logged_one, logged_made, taken, own_work, place_made, made_of, answer_of, ruled_of}
use Rattle.ham_turns.specs.Ready.{LogsReady, Stop, Log, IsSettled}
use Rattle.ham_turns.specs.Refusals.{issue_refusal, deliver_refusal}
use Rattle.ham_core.specs.Marks.{mark_of, not_issued_mark, not_issued_reply, not_delivered_mark, not_delivered_reply}
use Rattle.ham_journal.proofs.Drained.{logs_drained, settled_none, none_settled}

-- a drain adds its calls' places to the log
pub logs_log : (x : Rules) (y : Setting) (w after : ReplicaWords) (calls : List Call) → LogsReady x y w calls after → after.log ≡ w.log ++ map place_of calls
logs_log x y w after calls Stop = sym (append-nil w.log)
logs_log x y w after calls (Log {rest = rest} c ready least more) =
    logs_log x y (logged_one x y w c) after rest more ∙ append_assoc w.log (place_of c ∷ []) (map place_of rest)

pub drain_length : (x : Rules) (y : Setting) (w after : ReplicaWords) (calls : List Call) → LogsReady x y w calls after → length after.log ≡ length w.log + length calls
drain_length x y w after calls h =
    ap length (logs_log x y w after calls h) ∙ length-append w.log (map place_of calls) ∙ ap (λ (n : ℕ). length w.log + n) (length-map calls place_of)

-- the calls that a drain logged are as many as the log grew by
pub settles : (x : Rules) (y : Setting) (w after : ReplicaWords) (n : ℕ) (calls : List Call) → LogsReady x y w calls after → n ≡ length after.log - length w.log → drained x y n w ≡ Some after
settles x y w after n calls d e =
    let count : n ≡ length calls = omega (arith, e, drain_length x y w after calls d) in
    rw count (logs_drained x y w after calls d)

-- a drain decides nothing
pub logs_decided : (x : Rules) (y : Setting) (w after : ReplicaWords) (calls : List Call) → LogsReady x y w calls after → after.decided ≡ w.decided
logs_decided x y w after calls Stop = refl
logs_decided x y w after calls (Log {rest = rest} c ready least more) = logs_decided x y (logged_one x y w c) after rest more

-- ---- a turn

drop_all : (xs ys : List Place) → drop (length xs) (xs ++ ys) ≡ ys
drop_all [] ys = refl
drop_all (x ∷ xs) ys = drop_all xs ys

taken_if : {X : Type 0} (b : Bool) (a : Option X) → b ≡ true → (if b then a else None) ≡ a
taken_if true a q = refl
taken_if false a q = absurd (true≢false (sym q))

logged_made_log : (x : Rules) (y : Setting) (w : ReplicaWords) (made : Option Call) → (logged_made x y w made).log ≡ w.log ++ place_made made
logged_made_log x y w None = sym (append-nil w.log)
logged_made_log x y w (Some c) = refl

own_log : (x : Rules) (y : Setting) (me : ℕ) (w : ReplicaWords) (took : Intake) → (own_work x y w me took).log ≡ w.log ++ place_made (made_of x y w me took)
own_log x y me w took =
    logged_made_log x y (taken w took (answer_of x y w me took) (ruled_of x w took) (made_of x y w me took)) (made_of x y w me took)

pub turn_log : (x : Rules) (y : Setting) (me : ℕ) (w after : ReplicaWords) (took : Intake) (answer : What) (logged : List Place) (out : List Out) (settled : Bool)
    → IsTurnOf x y me w after took answer logged out settled → after.log ≡ w.log ++ logged
turn_log x y me w after took answer logged out settled h =
    logs_log x y (own_work x y w me took) after h.calls h.drain
    ∙ ap (λ (l : List Place). l ++ map place_of h.calls) (own_log x y me w took)
    ∙ append_assoc w.log (place_made (made_of x y w me took)) (map place_of h.calls)
    ∙ ap (λ (l : List Place). w.log ++ l) (sym h.logged)

abbrev pub answer_by : ReplicaWords → List (List Frame) → What → List Place → List Out → Option Answered
answer_by after boxes answer logged out =
    Some (record { core = core_by after (fold boxed boxes out) false; reply = reply_of answer logged (length out) })

pub turn_is : (x : Rules) (y : Setting) (me : ℕ) (w after : ReplicaWords) (boxes : List (List Frame)) (took : Intake) (answer : What) (logged : List Place) (out : List Out) (settled : Bool) (n : ℕ)
    → IsTurnOf x y me w after took answer logged out settled → n ≡ length logged
    → turn x y me (core_by w boxes false) took n ≡ answer_by after boxes answer logged out
turn_is x y me w after boxes took answer logged out settled n h e =
    let made : ℕ = length (place_made (made_of x y w me took)) in
    let log : after.log ≡ w.log ++ logged = turn_log x y me w after took answer logged out settled h in
    let count : length logged ≡ made + length h.calls =
    ap length h.logged ∙ length-append (place_made (made_of x y w me took)) (map place_of h.calls) ∙ ap (λ (k : ℕ). made + k) (length-map h.calls place_of) in
    let le : nat_le made n ≡ true = grind (arith, e, count) in
    let rest : n - made ≡ length h.calls = omega (arith, e, count) in
    let d : drained x y (n - made) (own_work x y w me took) ≡ Some after = rw rest (logs_drained x y (own_work x y w me took) after h.calls h.drain) in
    let dropped : drop (length w.log) after.log ≡ logged = ap (drop (length w.log)) log ∙ drop_all w.log logged in
    let sent : sent_in x y me w took after.log ≡ out = sym h.sent in
    taken_if (nat_le made n) (option_map (turn_to x y me (core_by w boxes false) took) (drained x y (n - made) (own_work x y w me took))) le
    ∙ ap (option_map (turn_to x y me (core_by w boxes false) took)) d
    ∙ ap (λ (a : What). answer_by after boxes a (drop (length w.log) after.log) (sent_in x y me w took after.log)) (sym h.answer)
    ∙ ap (λ (l : List Place). answer_by after boxes answer l (sent_in x y me w took after.log)) dropped
    ∙ ap (λ (o : List Out). answer_by after boxes answer logged o) sent

settled_is_true : (y : Setting) (w : ReplicaWords) → IsSettled y w → is_settled y w ≡ true
settled_is_true y w h = ap (λ (a : Option Call). not (is_some a)) (settled_none y w h)

unsettled_is_false : (y : Setting) (w : ReplicaWords) → (IsSettled y w → ⊥) → is_settled y w ≡ false
unsettled_is_false y w h = by_least (least_ready y w y.lanes) refl
  where
    by_least : (a : Option Call) → least_ready y w y.lanes ≡ a → is_settled y w ≡ false
    by_least None e = absurd (h (none_settled y w e))
    by_least (Some c) e = ap (λ (b : Option Call). not (is_some b)) e

-- a turn on a settled core, told by the mark
pub turn_works : (x : Rules) (y : Setting) (me : ℕ) (w after : ReplicaWords) (boxes : List (List Frame)) (input : Input) (took : Intake) (answer : What) (logged : List Place) (out : List Out) (settled : Bool) (n : ℕ)
    → IsSettled y w → step x y me (core_by w boxes false) input n ≡ turn x y me (core_by w boxes false) took n
    → IsTurnOf x y me w after took answer logged out settled → n ≡ length after.log - length w.log
    → Works x y me (core_by w boxes false) (core_by after (fold boxed boxes out) false) input n (mark_of settled) (reply_of answer logged (length out))
turn_works x y me w after boxes input took answer logged out settled n ready same h e = by_settled settled h
  where
    count : (s : Bool) → IsTurnOf x y me w after took answer logged out s → n ≡ length logged
    count s h = omega (arith, e, ap length (turn_log x y me w after took answer logged out s h), length-append w.log logged)

    stepped : (s : Bool) → IsTurnOf x y me w after took answer logged out s
        → step x y me (core_by w boxes false) input n ≡ answer_by after boxes answer logged out
    stepped s h = same ∙ turn_is x y me w after boxes took answer logged out s n h (count s h)

    by_settled : (s : Bool) → IsTurnOf x y me w after took answer logged out s
        → Works x y me (core_by w boxes false) (core_by after (fold boxed boxes out) false) input n (mark_of s) (reply_of answer logged (length out))
    by_settled true h =
        rw (settled_is_true y w ready)
        (ap (option_and_then (where_settled y true)) (stepped true h)
        ∙ (rw (settled_is_true y after (h.settled.0 refl)) refl))
    by_settled false h =
        rw (settled_is_true y w ready)
        (ap (option_and_then (where_settled y false)) (stepped false h)
        ∙ (rw (unsettled_is_false y after (λ s. true≢false (sym (h.settled.1 s)))) refl))

pub issue_works : (x : Rules) (y : Setting) (me : ℕ) (w after : ReplicaWords) (boxes : List (List Frame)) (a : Act) (answer : Issued) (logged : List Place) (out : List Out) (settled : Bool) (n : ℕ)
    → IsSettled y w → issue_refusal x y w me a ≡ None
    → IsTurnOf x y me w after (ActComes a) (whats.Issued answer) logged out settled → n ≡ length after.log - length w.log
    → Works x y me (core_by w boxes false) (core_by after (fold boxed boxes out) false) (inputs.Issue a) n (mark_of settled) (replies.Issued answer logged)
issue_works x y me w after boxes a answer logged out settled n ready allowed h e =
    turn_works x y me w after boxes (inputs.Issue a) (ActComes a) (whats.Issued answer) logged out settled n ready
    (ap (issued x y me (core_by w boxes false) a n) allowed) h e

pub deliver_works : (x : Rules) (y : Setting) (me : ℕ) (w after : ReplicaWords) (boxes : List (List Frame)) (from : ℕ) (f : Frame) (answer : Delivered) (logged : List Place) (out : List Out) (settled : Bool) (n : ℕ)
    → IsSettled y w → deliver_refusal x y w me from f ≡ None
    → IsTurnOf x y me w after (FrameComes from 0 f) (whats.Delivered answer) logged out settled → n ≡ length after.log - length w.log
    → Works x y me (core_by w boxes false) (core_by after (fold boxed boxes out) false) (inputs.Deliver from f) n (mark_of settled) (replies.Delivered answer logged)
deliver_works x y me w after boxes from f answer logged out settled n ready allowed h e =
    turn_works x y me w after boxes (inputs.Deliver from f) (FrameComes from 0 f) (whats.Delivered answer) logged out settled n ready
    (ap (delivered x y me (core_by w boxes false) from f n) allowed) h e

pub tick_works : (x : Rules) (y : Setting) (me : ℕ) (w after : ReplicaWords) (boxes : List (List Frame)) (logged : List Place) (out : List Out) (settled : Bool) (n sent : ℕ)
    → IsSettled y w → IsTurnOf x y me w after Beat whats.Ticked logged out settled → n ≡ length after.log - length w.log → sent ≡ length out
    → Works x y me (core_by w boxes false) (core_by after (fold boxed boxes out) false) inputs.Tick n (mark_of settled) (replies.Ticked sent)
tick_works x y me w after boxes logged out settled n sent ready h e s =
    rw s (turn_works x y me w after boxes inputs.Tick Beat whats.Ticked logged out settled n ready refl h e)

pub no_memory_works : (x : Rules) (y : Setting) (me : ℕ) (k : Core) (input : Input) → Works x y me k k input 0 marks.NoMemory replies.NoMemory
no_memory_works x y me k input = refl

refused_works : (x : Rules) (y : Setting) (me : ℕ) (w : ReplicaWords) (boxes : List (List Frame)) (a : Act) (why : IssueRefusal)
    → IsSettled y w → issue_refusal x y w me a ≡ Some why
    → Works x y me (core_by w boxes false) (core_by w boxes false) (inputs.Issue a) 0 marks.Done (replies.NotIssued why)
refused_works x y me w boxes a why ready refused =
    rw (settled_is_true y w ready)
    (ap (λ (r : Option IssueRefusal). option_and_then (where_settled y true) (issued x y me (core_by w boxes false) a 0 r)) refused
    ∙ (rw (settled_is_true y w ready) refl))

pub not_issued : (x : Rules) (y : Setting) (me : ℕ) (w : ReplicaWords) (boxes : List (List Frame)) (a : Act) (why : IssueRefusal)
    → IsSettled y w → (why ≡ refusals.NoMemory) ⊎ (issue_refusal x y w me a ≡ Some why)
    → Works x y me (core_by w boxes false) (core_by w boxes false) (inputs.Issue a) 0 (not_issued_mark why) (not_issued_reply why)
not_issued x y me w boxes a refusals.NoMemory ready h = refl
not_issued x y me w boxes a refusals.UnknownMethod ready (inl e) = absurd (cc)
not_issued x y me w boxes a refusals.UnknownMethod ready (inr e) = refused_works x y me w boxes a refusals.UnknownMethod ready e
not_issued x y me w boxes a refusals.BadArgs ready (inl e) = absurd (cc)
not_issued x y me w boxes a refusals.BadArgs ready (inr e) = refused_works x y me w boxes a refusals.BadArgs ready e
not_issued x y me w boxes a refusals.LaneFull ready (inl e) = absurd (cc)
not_issued x y me w boxes a refusals.LaneFull ready (inr e) = refused_works x y me w boxes a refusals.LaneFull ready e
not_issued x y me w boxes a refusals.RequestsFull ready (inl e) = absurd (cc)
not_issued x y me w boxes a refusals.RequestsFull ready (inr e) = refused_works x y me w boxes a refusals.RequestsFull ready e

bad_works : (x : Rules) (y : Setting) (me : ℕ) (w : ReplicaWords) (boxes : List (List Frame)) (from : ℕ) (f : Frame) (why : DeliverRefusal)
    → IsSettled y w → deliver_refusal x y w me from f ≡ Some why
    → Works x y me (core_by w boxes false) (core_by w boxes false) (inputs.Deliver from f) 0 marks.Done (replies.NotDelivered why)
bad_works x y me w boxes from f why ready refused =
    rw (settled_is_true y w ready)
    (ap (λ (r : Option DeliverRefusal). option_and_then (where_settled y true) (delivered x y me (core_by w boxes false) from f 0 r)) refused
    ∙ (rw (settled_is_true y w ready) refl))

pub not_delivered : (x : Rules) (y : Setting) (me : ℕ) (w : ReplicaWords) (boxes : List (List Frame)) (from : ℕ) (f : Frame) (why : DeliverRefusal)
    → IsSettled y w → (why ≡ bads.NoMemory) ⊎ (deliver_refusal x y w me from f ≡ Some why)
    → Works x y me (core_by w boxes false) (core_by w boxes false) (inputs.Deliver from f) 0 (not_delivered_mark why) (not_delivered_reply why)
not_delivered x y me w boxes from f bads.NoMemory ready h = refl
not_delivered x y me w boxes from f bads.NotYours ready (inl e) = absurd (cc)
not_delivered x y me w boxes from f bads.NotYours ready (inr e) = bad_works x y me w boxes from f bads.NotYours ready e
not_delivered x y me w boxes from f bads.BadMethod ready (inl e) = absurd (cc)
not_delivered x y me w boxes from f bads.BadMethod ready (inr e) = bad_works x y me w boxes from f bads.BadMethod ready e
not_delivered x y me w boxes from f bads.BadArgs ready (inl e) = absurd (cc)
not_delivered x y me w boxes from f bads.BadArgs ready (inr e) = bad_works x y me w boxes from f bads.BadArgs ready e
not_delivered x y me w boxes from f bads.BadDeps ready (inl e) = absurd (cc)
not_delivered x y me w boxes from f bads.BadDeps ready (inr e) = bad_works x y me w boxes from f bads.BadDeps ready e
not_delivered x y me w boxes from f (bads.AckBeyond len) ready (inl e) = absurd (cc)
not_delivered x y me w boxes from f (bads.AckBeyond len) ready (inr e) = bad_works x y me w boxes from f (bads.AckBeyond len) ready e
not_delivered x y me w boxes from f (bads.Differs kept) ready (inl e) = absurd (cc)
not_delivered x y me w boxes from f (bads.Differs kept) ready (inr e) = bad_works x y me w boxes from f (bads.Differs kept) ready e
not_delivered x y me w boxes from f (bads.UnknownRequest len) ready (inl e) = absurd (cc)
not_delivered x y me w boxes from f (bads.UnknownRequest len) ready (inr e) = bad_works x y me w boxes from f (bads.UnknownRequest len) ready e
not_delivered x y me w boxes from f bads.HelloTwice ready (inl e) = absurd (cc)
not_delivered x y me w boxes from f bads.HelloTwice ready (inr e) = bad_works x y me w boxes from f bads.HelloTwice ready e

pub turn_length : (x : Rules) (y : Setting) (me : ℕ) (w after : ReplicaWords) (took : Intake) (answer : What) (logged : List Place) (out : List Out) (settled : Bool)
    → IsTurnOf x y me w after took answer logged out settled → length after.log ≡ length w.log + length logged
turn_length x y me w after took answer logged out settled h =
    ap length (turn_log x y me w after took answer logged out settled h) ∙ length-append w.log logged

-- ---- one entry more

pub one_more : (x : Rules) (y : Setting) (me : ℕ) (k0 k : Core) (es new : List Entry) (e : Entry) (a : Answered)
    → history x y me k0 es ≡ Some k → entered x y me k e ≡ Some a → new ≡ es ++ e ∷ [] → history x y me k0 new ≡ Some a.core
unfolding history
one_more x y me k0 k es new e a h t n =
    rw (n, fold-append (core_after x y me) (Some k0) es (e ∷ []), h, t)

-- what the work on a settled core is, told as an entry
pub as_entry : (x : Rules) (y : Setting) (me : ℕ) (w first : ReplicaWords) (boxes : List (List Frame)) (new : Core) (seat before : ℕ) (input : Input) (n : ℕ) (mark : Mark) (reply : Reply)
    → drained x y before w ≡ Some first → Works x y me (core_by first boxes false) new input n mark reply
    → Tells x y me (core_by w boxes false) new (record { seat = seat; input = input; before = before; logged = n; mark = mark }) reply
as_entry x y me w first boxes new seat before input n mark reply d h =
    ap (option_and_then (λ (v : ReplicaWords). by_mark x y me (core_by v boxes false) input n mark)) d ∙ h

-- ---- inputs that log nothing

-- an input whose step leaves this and is replied so
pub quiet : (x : Rules) (y : Setting) (me : ℕ) (w : ReplicaWords) (boxes boxes' : List (List Frame)) (stopped : Bool) (input : Input) (reply : Reply)
    → IsSettled y w → step x y me (core_by w boxes false) input 0 ≡ Some (record { core = core_by w boxes' stopped; reply = reply })
    → Works x y me (core_by w boxes false) (core_by w boxes' stopped) input 0 marks.Done reply
quiet x y me w boxes boxes' stopped input reply ready e =
    rw (settled_is_true y w ready)
    (ap (option_and_then (where_settled y true)) e ∙ (rw (settled_is_true y w ready) refl))

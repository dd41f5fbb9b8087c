-- What an entry that can be replayed says.
use Rattle.std.proofs.Common.{◌≡◌, ◌≢◌, ℕ, zero, suc, ◌-◌, ◌⊎◌, Bool, true, false, List, [], ◌∷◌, ◌++◌, length, take, drop, set, get_or, Option, Some, None, if◌then◌else◌, refl, sym, subst, ap, ◌∙◌, inl, inr, arith, true≢false}
use Rattle.std.specs.Prelude.{◌&&◌, nat_lt, ◌==◌, max, nat_le, not, is_some, fold, option_map, option_and_then}
use Rattle.std.proofs.lemmas.List.{append-nil}
use Rattle.std.proofs.lemmas.Option.{none-some, same_Some}
use Rattle.ham_syntax.specs.declared.act.Act.{Act}
use Rattle.ham_syntax.specs.declared.act.Call.{Call}
use Rattle.ham_frame.specs.declared.frame.Ruling.{Ruling}
use Rattle.ham_frame.specs.declared.frame.Ruled.{Ruled}
use Rattle.ham_journal.specs.declared.limits.TheConstants.{MAX_COLLECTED}
use Rattle.std.specs.List.{AllByRecursion}
use Rattle.ham_frame.specs.declared.frame.Frame.{Frame}
use Rattle.ham_frame.specs.declared.frame.Frame.TheVariants as frames
use Rattle.ham_turns.specs.declared.turn.Out.{Out}
use Rattle.ham_turns.specs.declared.turn.Delivered.{Delivered}
use Rattle.ham_turns.specs.declared.turn.What.{What}
use Rattle.ham_turns.specs.declared.turn.What.TheVariants as whats
use Rattle.ham_turns.specs.declared.turn.IssueRefusal.{IssueRefusal}
use Rattle.ham_turns.specs.declared.turn.IssueRefusal.TheVariants as issue
use Rattle.ham_turns.specs.declared.turn.DeliverRefusal.{DeliverRefusal}
use Rattle.ham_turns.specs.declared.turn.DeliverRefusal.TheVariants as deliver
use Rattle.ham_journal.specs.declared.entry.Entry.{Entry}
use Rattle.ham_journal.specs.declared.input.Input.{Input}
use Rattle.ham_journal.specs.declared.input.Input.TheVariants as inputs
use Rattle.ham_journal.specs.declared.input.Reply.{Reply}
use Rattle.ham_journal.specs.declared.input.Reply.TheVariants as replies
use Rattle.ham_journal.specs.declared.entry.Mark.{Mark}
use Rattle.ham_journal.specs.declared.entry.Mark.TheVariants as marks
use Rattle.ham_turns.specs.Settings.{Rules, Setting}
use Rattle.ham_journal.specs.Cores.{Core, Answered, told, turn, turn_to, sent_in, reply_of, boxed, box_of, step, issued, delivered, where_settled, by_mark, entered}
use Rattle.ham_journal.specs.Drains.{drained, is_settled, least_ready}
use Rattle.ham_journal.specs.Histories.{Tells}
use Rattle.ham_journal.specs.Replies.{IsAnswer, IsNothing, IsOfKind}
use Rattle.ham_turns.specs.Words.{ReplicaWords, Intake, ActComes, FrameComes, Beat, place_of, numbered}
use Rattle.ham_turns.specs.Work.{own_work, place_made, made_of, answer_to, first_of_two, logged_one}
use Rattle.ham_turns.specs.Refusals.{issue_refusal, deliver_refusal, first_of, calls_differ, requests_differ, verdicts_differ}

pub some_if : {X : Type 0} (b : Bool) (a : Option X) (c : X) → (if b then a else None) ≡ Some c → (b ≡ true) × (a ≡ Some c)
some_if true a c e = (refl, e)
some_if false a c e = absurd (none-some c e)

pub some_unless : {X : Type 0} (b : Bool) (a : Option X) (c : X) → (if b then None else a) ≡ Some c → (b ≡ false) × (a ≡ Some c)
some_unless true a c e = absurd (none-some c e)
some_unless false a c e = (refl, e)

pub and_then_some : {X Y : Type 0} (f : X → Option Y) (a : Option X) (c : Y) → option_and_then f a ≡ Some c → (b : X) × (a ≡ Some b) × (f b ≡ Some c)
and_then_some f None c e = absurd (none-some c e)
and_then_some f (Some b) c e = (b, refl, e)

pub mapped_some : {X Y : Type 0} (f : X → Y) (a : Option X) (c : Y) → option_map f a ≡ Some c → (b : X) × (a ≡ Some b) × (f b ≡ c)
mapped_some f None c e = absurd (none-some c e)
mapped_some f (Some b) c e = (b, refl, same_Some (f b) c e)

-- how the mark tells whether calls are left
abbrev pub IsMarked : Setting → Mark → Answered → Type 0
IsMarked y m a = (m ≡ marks.Done) ⊎ ((m ≡ marks.Unsettled) × (is_settled y a.core.words ≡ false))

-- an entry did no work for want of memory, or its input's step
pub record Replayed (x : Rules) (y : Setting) (me : ℕ) (k : Core) (e : Entry) (a : Answered) : Type 0 where
  pub going : k.stopped ≡ false
  pub first : ReplicaWords
  pub before : drained x y e.before k.words ≡ Some first
  pub work : ((e.mark ≡ marks.NoMemory) × ((record { core = record k { words = first }; reply = replies.NoMemory }) ≡ a))
      ⊎ ((is_settled y first ≡ true) × (step x y me (record k { words = first }) e.input e.logged ≡ Some a) × IsMarked y e.mark a)

pub told_is : (k : Core) (r : Reply) (n : ℕ) (a : Answered) → told k r n ≡ Some a → (record { core = k; reply = r }) ≡ a
told_is k r n a e = same_Some (record { core = k; reply = r }) a (some_if (n == 0) (Some (record { core = k; reply = r })) a e).1

marked : (x : Rules) (y : Setting) (me : ℕ) (k : Core) (i : Input) (n : ℕ) (m : Mark) (a : Answered) → by_mark x y me k i n m ≡ Some a
    → ((m ≡ marks.NoMemory) × ((record { core = k; reply = replies.NoMemory }) ≡ a)) ⊎ ((is_settled y k.words ≡ true) × (step x y me k i n ≡ Some a) × IsMarked y m a)
marked x y me k i n marks.NoMemory a e = inl (refl, told_is k replies.NoMemory n a e)
marked x y me k i n marks.Done a e =
    let p = some_if (is_settled y k.words) (option_and_then (where_settled y true) (step x y me k i n)) a e in
    let q = and_then_some (where_settled y true) (step x y me k i n) a p.1 in
    let r = some_if (is_settled y q.0.core.words) (Some q.0) a q.2 in
    inr (p.0, q.1 ∙ r.1, inl refl)
marked x y me k i n marks.Unsettled a e =
    let p = some_if (is_settled y k.words) (option_and_then (where_settled y false) (step x y me k i n)) a e in
    let q = and_then_some (where_settled y false) (step x y me k i n) a p.1 in
    let r = some_unless (is_settled y q.0.core.words) (Some q.0) a q.2 in
    inr (p.0, q.1 ∙ r.1, inr (refl, sym (ap (λ (z : Answered). is_settled y z.core.words) (same_Some q.0 a r.1)) ∙ r.0))

pub replayed : (x : Rules) (y : Setting) (me : ℕ) (k : Core) (e : Entry) (a : Answered) → entered x y me k e ≡ Some a → Replayed x y me k e a
replayed x y me k e a h =
    let p = some_unless k.stopped (option_and_then (λ w. by_mark x y me (record k { words = w }) e.input e.logged e.mark) (drained x y e.before k.words)) a h in
    let q = and_then_some (λ (w : ReplicaWords). by_mark x y me (record k { words = w }) e.input e.logged e.mark) (drained x y e.before k.words) a p.1 in
    record { going = p.0; first = q.0; before = q.1; work = marked x y me (record k { words = q.0 }) e.input e.logged e.mark a q.2 }

-- ---- a turn

pub record Turned (x : Rules) (y : Setting) (me : ℕ) (k : Core) (took : Intake) (n : ℕ) (a : Answered) : Type 0 where
  pub after : ReplicaWords
  pub drains : drained x y (n - length (place_made (made_of x y k.words me took))) (own_work x y k.words me took) ≡ Some after
  pub ends : turn_to x y me k took after ≡ a

pub turned : (x : Rules) (y : Setting) (me : ℕ) (k : Core) (took : Intake) (n : ℕ) (a : Answered) → turn x y me k took n ≡ Some a → Turned x y me k took n a
turned x y me k took n a e =
    let d : Option ReplicaWords = drained x y (n - length (place_made (made_of x y k.words me took))) (own_work x y k.words me took) in
    let p = some_if (nat_le (length (place_made (made_of x y k.words me took))) n) (option_map (turn_to x y me k took) d) a e in
    let q = mapped_some (turn_to x y me k took) d a p.1 in
    record { after = q.0; drains = q.1; ends = q.2 }

delivered_answer : (w : ReplicaWords) (from : ℕ) (f : Frame) → (d : Delivered) × (answer_to w from f ≡ whats.Delivered d)
delivered_answer w from (frames.Call c) = (_, refl)
delivered_answer w from (frames.Ack lane count) = (_, refl)
delivered_answer w from (frames.Request g n a) = (_, refl)
delivered_answer w from (frames.Verdict g n v) = (_, refl)
delivered_answer w from (frames.Hello version digest sender of) = (_, refl)
delivered_answer w from frames.Bye = (_, refl)

-- ---- want of memory is no test

if_why : (b : Bool) (rest : Option IssueRefusal) (first why : IssueRefusal) → first ≢ issue.NoMemory → (rest ≡ Some why → why ≢ issue.NoMemory)
    → (if b then Some first else rest) ≡ Some why → why ≢ issue.NoMemory
if_why true rest first why h g e = subst (λ (z : IssueRefusal). z ≢ issue.NoMemory) (same_Some first why e) h
if_why false rest first why h g e = g e

issue_why : (x : Rules) (y : Setting) (w : ReplicaWords) (me : ℕ) (a : Act) (why : IssueRefusal) → issue_refusal x y w me a ≡ Some why → why ≢ issue.NoMemory
issue_why x y w me a why = if_why _ _ issue.UnknownMethod why (λ q. cc)
    (if_why _ _ issue.BadArgs why (λ q. cc)
    (if_why _ _ issue.LaneFull why (λ q. cc)
    (if_why _ _ issue.RequestsFull why (λ q. cc) (λ e. absurd (none-some why e)))))

abbrev AreTests : List (Bool × DeliverRefusal) → Type 0
AreTests tests = AllByRecursion (λ t. t.1 ≢ deliver.NoMemory) tests

first_why : (tests : List (Bool × DeliverRefusal)) (why : DeliverRefusal) → AreTests tests → first_of tests ≡ Some why → why ≢ deliver.NoMemory
first_why [] why h e = absurd (none-some why e)
first_why ((true, first) ∷ tests) why h e = first_why tests why h.1 e
first_why ((false, first) ∷ tests) why h e = subst (λ (z : DeliverRefusal). z ≢ deliver.NoMemory) (same_Some first why e) h.0

calls_tests : (c : Call) (kept : Option Call) → AreTests (calls_differ c kept)
calls_tests c None = tt
calls_tests c (Some d) = (λ q. cc, tt)

requests_tests : (g n : ℕ) (a : Act) (kept : Option Ruled) → AreTests (requests_differ g n a kept)
requests_tests g n a None = tt
requests_tests g n a (Some d) = (λ q. cc, tt)

verdicts_tests : (g n len : ℕ) (b : Bool) (v : Ruling) (kept : Option Ruling) → AreTests (verdicts_differ g n v kept ++ (b, deliver.UnknownRequest len) ∷ [])
verdicts_tests g n len b v None = (λ q. cc, tt)
verdicts_tests g n len b v (Some u) = (λ q. cc, (λ q. cc, tt))

deliver_why : (x : Rules) (y : Setting) (w : ReplicaWords) (me from : ℕ) (f : Frame) (why : DeliverRefusal) → deliver_refusal x y w me from f ≡ Some why → why ≢ deliver.NoMemory
deliver_why x y w me from (frames.Call c) why e = first_why (
    (nat_lt c.lane y.lanes && (y.decider c.lane == from), deliver.NotYours)
    ∷ (nat_lt c.act.method y.methods && (y.lane c.act.method from == c.lane), deliver.BadMethod)
    ∷ (x.fits c.act, deliver.BadArgs)
    ∷ (length c.deps == length (y.needs c.act.method), deliver.BadDeps)
    ∷ calls_differ c (w.kept (place_of c))) why (λ q. cc, (λ q. cc, (λ q. cc, (λ q. cc, calls_tests c (w.kept (place_of c)))))) e
deliver_why x y w me from (frames.Ack lane count) why e = first_why (
    (nat_lt lane y.lanes && (y.decider lane == me), deliver.NotYours)
    ∷ (nat_le count (length (w.decided lane)), deliver.AckBeyond (length (w.decided lane)))
    ∷ []) why (λ q. cc, (λ q. cc, tt)) e
deliver_why x y w me from (frames.Request g n a) why e = first_why (
    (nat_lt g y.groups && (y.decider g == me), deliver.NotYours)
    ∷ (nat_lt a.method y.methods && (y.lane a.method from == g), deliver.BadMethod)
    ∷ (x.fits a, deliver.BadArgs)
    ∷ requests_differ g n a (numbered (w.rulings from g) n)) why (λ q. cc, (λ q. cc, (λ q. cc, requests_tests g n a (numbered (w.rulings from g) n)))) e
deliver_why x y w me from (frames.Verdict g n v) why e = first_why (
    (nat_lt g y.groups && (y.decider g == from), deliver.NotYours)
    ∷ (verdicts_differ g n v (w.verdict g n) ++ (nat_le n (length (w.requests g)), deliver.UnknownRequest (length (w.requests g))) ∷ []))
    why (λ q. cc, verdicts_tests g n (length (w.requests g)) (nat_le n (length (w.requests g))) v (w.verdict g n)) e
deliver_why x y w me from (frames.Hello version digest sender of) why e = subst (λ (z : DeliverRefusal). z ≢ deliver.NoMemory) (same_Some deliver.HelloTwice why e) (λ q. cc)
deliver_why x y w me from frames.Bye why e = absurd (none-some why e)

-- ---- what a step says

-- it answers as its input asks, and stops the node at a Stop alone
pub record Says (k : Core) (i : Input) (a : Answered) : Type 0 where
  pub kind : IsAnswer i a.reply
  pub stop : i ≢ inputs.Stop → a.core.stopped ≡ k.stopped
  pub stopped : i ≡ inputs.Stop → a.core.stopped ≡ true

issue_says : (x : Rules) (y : Setting) (me : ℕ) (k : Core) (act : _) (n : ℕ) (a : Answered) (r : Option IssueRefusal) → ((why : IssueRefusal) → r ≡ Some why → why ≢ issue.NoMemory) → issued x y me k act n r ≡ Some a → Says k (inputs.Issue act) a
issue_says x y me k act n a None not e =
    let t = turned x y me k (ActComes act) n a e in
    subst (λ (z : Answered). Says k (inputs.Issue act) z) t.ends
    (record { kind = inl (_, _, refl); stop = λ _. refl; stopped = λ q. absurd (cc) })
issue_says x y me k act n a (Some why) not e =
    subst (λ (z : Answered). Says k (inputs.Issue act) z) (told_is k (replies.NotIssued why) n a e)
    (record { kind = inr (why, refl, not why refl); stop = λ _. refl; stopped = λ q. absurd (cc) })

deliver_says : (x : Rules) (y : Setting) (me : ℕ) (k : Core) (from : ℕ) (f : Frame) (n : ℕ) (a : Answered) (r : Option DeliverRefusal) → ((why : DeliverRefusal) → r ≡ Some why → why ≢ deliver.NoMemory) → delivered x y me k from f n r ≡ Some a → Says k (inputs.Deliver from f) a
deliver_says x y me k from f n a None not e =
    let t = turned x y me k (FrameComes from 0 f) n a e in
    let d = delivered_answer k.words from f in
    subst (λ (z : Answered). Says k (inputs.Deliver from f) z) t.ends
    (record { kind = inl (d.0, drop (length k.words.log) t.after.log, ap (λ (v : What). reply_of v (drop (length k.words.log) t.after.log) (length (sent_in x y me k.words (FrameComes from 0 f) t.after.log))) d.1); stop = λ _. refl; stopped = λ q. absurd (cc) })
deliver_says x y me k from f n a (Some why) not e =
    subst (λ (z : Answered). Says k (inputs.Deliver from f) z) (told_is k (replies.NotDelivered why) n a e)
    (record { kind = inr (why, refl, not why refl); stop = λ _. refl; stopped = λ q. absurd (cc) })

tells_says : (k c : Core) (i : Input) (r : Reply) (n : ℕ) (a : Answered) → told c r n ≡ Some a → IsAnswer i r → (i ≢ inputs.Stop → c.stopped ≡ k.stopped) → (i ≡ inputs.Stop → c.stopped ≡ true) → Says k i a
tells_says k c i r n a e kind stop stopped =
    subst (λ (z : Answered). Says k i z) (told_is c r n a e) (record { kind = kind; stop = stop; stopped = stopped })

pub step_says : (x : Rules) (y : Setting) (me : ℕ) (k : Core) (i : Input) (n : ℕ) (a : Answered) → step x y me k i n ≡ Some a → Says k i a
step_says x y me k (inputs.Issue act) n a e = issue_says x y me k act n a (issue_refusal x y k.words me act) (issue_why x y k.words me act) e
step_says x y me k (inputs.Deliver from f) n a e = deliver_says x y me k from f n a (deliver_refusal x y k.words me from f) (deliver_why x y k.words me from f) e
step_says x y me k inputs.Tick n a e =
    let t = turned x y me k Beat n a e in
    subst (λ (z : Answered). Says k inputs.Tick z) t.ends
    (record { kind = (_, refl); stop = λ _. refl; stopped = λ q. absurd (cc) })
step_says x y me k (inputs.Collect peer) n a e = tells_says k _ (inputs.Collect peer) _ n a e (_, refl) (λ _. refl) (λ q. absurd (cc))
step_says x y me k (inputs.Show counter key) n a e = tells_says k _ (inputs.Show counter key) _ n a e (_, refl) (λ _. refl) (λ q. absurd (cc))
step_says x y me k (inputs.Rows relation) n a e = tells_says k _ (inputs.Rows relation) _ n a e (_, refl) (λ _. refl) (λ q. absurd (cc))
step_says x y me k (inputs.Verdict group number) n a e = tells_says k _ (inputs.Verdict group number) _ n a e (_, refl) (λ _. refl) (λ q. absurd (cc))
step_says x y me k inputs.Log n a e = tells_says k _ inputs.Log _ n a e (_, refl) (λ _. refl) (λ q. absurd (cc))
step_says x y me k inputs.Counts n a e = tells_says k _ inputs.Counts _ n a e (_, refl) (λ _. refl) (λ q. absurd (cc))
step_says x y me k inputs.Record n a e = tells_says k _ inputs.Record _ n a e (_, refl) (λ _. refl) (λ q. absurd (cc))
step_says x y me k inputs.Stop n a e = tells_says k _ inputs.Stop _ n a e refl (λ h. absurd (h refl)) (λ _. refl)

-- ---- a tick leaves the words

first_none : {X : Type 0} (a : Option X) → first_of_two a None ≡ a
first_none None = refl
first_none (Some z) = refl

max_none : (n : ℕ) → max n 0 ≡ n
max_none n = omega arith

pub beat_leaves : (x : Rules) (y : Setting) (me : ℕ) (w : ReplicaWords) → own_work x y w me Beat ≡ w
beat_leaves x y me w = λ i. record w {
  kept = λ p. first_none (w.kept p) i;
  requests = λ g. append-nil (w.requests g) i;
  verdict = λ g n. first_none (w.verdict g n) i;
  rulings = λ q g. append-nil (w.rulings q g) i;
  acked = λ l p. max_none (w.acked l p) i;
}

-- where nothing is ready the drain logs nothing
pub settled_stays : (x : Rules) (y : Setting) (n : ℕ) (w after : ReplicaWords) → is_settled y w ≡ true → drained x y n w ≡ Some after → w ≡ after
settled_stays x y zero w after s e = same_Some w after e
settled_stays x y (suc n) w after s e = by_least (least_ready y w y.lanes) refl
  where
    by_least : (l : Option Call) → least_ready y w y.lanes ≡ l → w ≡ after
    by_least None q = absurd (none-some after (sym (ap (option_and_then (λ (c : Call). drained x y n (logged_one x y w c))) q) ∙ e))
    by_least (Some c) q = absurd (true≢false (sym s ∙ ap (λ (l : Option Call). not (is_some l)) q))

pub empty_list : {X : Type 0} (xs : List X) → length xs ≡ 0 → xs ≡ []
empty_list [] e = refl
empty_list (x ∷ xs) e = absurd (omega arith)

empty_front : (fs : List Frame) → take MAX_COLLECTED fs ≡ [] → fs ≡ []
empty_front [] e = refl
empty_front (f ∷ fs) e = absurd (cc)

pub set_same : (boxes : List (List Frame)) (n : ℕ) → get_or boxes n [] ≡ [] → set boxes n [] ≡ boxes
set_same [] n e = refl
set_same (b ∷ boxes) zero e = ap (λ (z : List Frame). z ∷ boxes) (sym e)
set_same (b ∷ boxes) (suc n) e = ap (λ (z : List (List Frame)). b ∷ z) (set_same boxes n e)

-- a step of nothing leaves the core
pub nothing_leaves : (x : Rules) (y : Setting) (me : ℕ) (k : Core) (i : Input) (n : ℕ) (a : Answered) → is_settled y k.words ≡ true → step x y me k i n ≡ Some a → IsNothing a.reply → k ≡ a.core
nothing_leaves x y me k inputs.Tick n a s e nothing =
    let t = turned x y me k Beat n a e in
    let same : k.words ≡ t.after = settled_stays x y _ k.words t.after s (sym (ap (drained x y (n - 0)) (beat_leaves x y me k.words)) ∙ t.drains) in
    let none : sent_in x y me k.words Beat t.after.log ≡ [] = empty_list (sent_in x y me k.words Beat t.after.log) (subst (λ (z : Answered). IsNothing z.reply) (sym t.ends) nothing) in
    ap (λ (w : ReplicaWords). record k { words = w }) same
    ∙ ap (λ (o : List Out). record { words = t.after; boxes = fold boxed k.boxes o; stopped = k.stopped }) (sym none)
    ∙ ap (λ (z : Answered). z.core) t.ends
nothing_leaves x y me k (inputs.Collect peer) n a s e nothing =
    let t = told_is _ _ n a e in
    let box : box_of k.boxes peer ≡ [] = empty_front (box_of k.boxes peer) (subst (λ (z : Answered). IsNothing z.reply) (sym t) nothing) in
    ap (λ (b : List (List Frame)). record k { boxes = b }) (sym (set_same k.boxes (peer - 1) box))
    ∙ ap (λ (f : List Frame). record k { boxes = set k.boxes (peer - 1) (drop MAX_COLLECTED f) }) (sym box)
    ∙ ap (λ (z : Answered). z.core) t
nothing_leaves x y me k (inputs.Issue act) n a s e nothing = elim ((step_says x y me k (inputs.Issue act) n a e).kind) [
  | inl h ↦ absurd (subst (λ (r : Reply). IsNothing r) h.2 nothing)
  | inr h ↦ absurd (subst (λ (r : Reply). IsNothing r) h.1 nothing)
]
nothing_leaves x y me k (inputs.Deliver from f) n a s e nothing = elim ((step_says x y me k (inputs.Deliver from f) n a e).kind) [
  | inl h ↦ absurd (subst (λ (r : Reply). IsNothing r) h.2 nothing)
  | inr h ↦ absurd (subst (λ (r : Reply). IsNothing r) h.1 nothing)
]
nothing_leaves x y me k (inputs.Show counter key) n a s e nothing = absurd (subst (λ (r : Reply). IsNothing r) (step_says x y me k (inputs.Show counter key) n a e).kind.1 nothing)
nothing_leaves x y me k (inputs.Rows relation) n a s e nothing = absurd (subst (λ (r : Reply). IsNothing r) (step_says x y me k (inputs.Rows relation) n a e).kind.1 nothing)
nothing_leaves x y me k (inputs.Verdict group number) n a s e nothing = absurd (subst (λ (r : Reply). IsNothing r) (step_says x y me k (inputs.Verdict group number) n a e).kind.1 nothing)
nothing_leaves x y me k inputs.Log n a s e nothing = absurd (subst (λ (r : Reply). IsNothing r) (step_says x y me k inputs.Log n a e).kind.1 nothing)
nothing_leaves x y me k inputs.Counts n a s e nothing = absurd (subst (λ (r : Reply). IsNothing r) (step_says x y me k inputs.Counts n a e).kind.1 nothing)
nothing_leaves x y me k inputs.Record n a s e nothing = absurd (subst (λ (r : Reply). IsNothing r) (step_says x y me k inputs.Record n a e).kind.1 nothing)
nothing_leaves x y me k inputs.Stop n a s e nothing = absurd (subst (λ (r : Reply). IsNothing r) (step_says x y me k inputs.Stop n a e).kind nothing)

-- and so does an entry of nothing with nothing to settle
pub idle_leaves : (x : Rules) (y : Setting) (me : ℕ) (k new : Core) (e : Entry) (reply : Reply) → Tells x y me k new e reply → e.before ≡ 0 → IsNothing reply → k ≡ new
idle_leaves x y me k new e reply h b nothing =
    let r = replayed x y me k e (record { core = new; reply = reply }) h in
    let same : k.words ≡ r.first = same_Some k.words r.first (ap (λ (n : ℕ). drained x y n k.words) (sym b) ∙ r.before) in
    let core : k ≡ record k { words = r.first } = ap (λ (w : ReplicaWords). record k { words = w }) same in
    elim r.work [
      | inl none ↦ absurd (subst (λ (z : Answered). IsNothing z.reply) (sym none.1) nothing)
      | inr did ↦ core ∙ nothing_leaves x y me (record k { words = r.first }) e.input e.logged (record { core = new; reply = reply }) did.0 did.1 nothing
    ]

-- ---- entries

pub tells_kind : (x : Rules) (y : Setting) (me : ℕ) (k new : Core) (e : Entry) (reply : Reply) → Tells x y me k new e reply → IsAnswer e.input reply ⊎ (reply ≡ replies.NoMemory)
tells_kind x y me k new e reply h =
    let r = replayed x y me k e (record { core = new; reply = reply }) h in
    elim r.work [
      | inl none ↦ inr (sym (ap (λ (z : Answered). z.reply) none.1))
      | inr did ↦ inl ((step_says x y me (record k { words = r.first }) e.input e.logged (record { core = new; reply = reply }) did.1).kind)
    ]

pub tells_going : (x : Rules) (y : Setting) (me : ℕ) (k new : Core) (e : Entry) (reply : Reply) → Tells x y me k new e reply → (k.stopped ≡ false) × (e.input ≢ inputs.Stop → new.stopped ≡ false)
tells_going x y me k new e reply h =
    let r = replayed x y me k e (record { core = new; reply = reply }) h in (
      r.going,
      λ other. elim r.work [
        | inl none ↦ sym (ap (λ (z : Answered). z.core.stopped) none.1) ∙ r.going
        | inr did ↦ (step_says x y me (record k { words = r.first }) e.input e.logged (record { core = new; reply = reply }) did.1).stop other ∙ r.going
      ],
    )

answer_not : (i : Input) (r : Reply) → IsAnswer i r → (r ≢ replies.Stopped) × (r ≢ replies.Full)
answer_not (inputs.Issue a) r (inl h) = let e : r ≡ replies.Issued h.0 h.1 = h.2 in (λ q. cc, λ q. cc)
answer_not (inputs.Issue a) r (inr h) = let e : r ≡ replies.NotIssued h.0 = h.1 in (λ q. cc, λ q. cc)
answer_not (inputs.Deliver from f) r (inl h) = let e : r ≡ replies.Delivered h.0 h.1 = h.2 in (λ q. cc, λ q. cc)
answer_not (inputs.Deliver from f) r (inr h) = let e : r ≡ replies.NotDelivered h.0 = h.1 in (λ q. cc, λ q. cc)
answer_not inputs.Tick r h = let e : r ≡ replies.Ticked h.0 = h.1 in (λ q. cc, λ q. cc)
answer_not (inputs.Collect peer) r h = let e : r ≡ replies.Collected h.0 = h.1 in (λ q. cc, λ q. cc)
answer_not (inputs.Show counter key) r h = let e : r ≡ replies.Value h.0 = h.1 in (λ q. cc, λ q. cc)
answer_not (inputs.Rows relation) r h = let e : r ≡ replies.Rows h.0 = h.1 in (λ q. cc, λ q. cc)
answer_not (inputs.Verdict group number) r h = let e : r ≡ replies.Asked h.0 = h.1 in (λ q. cc, λ q. cc)
answer_not inputs.Log r h = let e : r ≡ replies.Log h.0 = h.1 in (λ q. cc, λ q. cc)
answer_not inputs.Counts r h = let e : r ≡ replies.Counts h.0 = h.1 in (λ q. cc, λ q. cc)
answer_not inputs.Record r h = let e : r ≡ replies.Recorded h.0 = h.1 in (λ q. cc, λ q. cc)
answer_not inputs.Stop r h = let e : r ≡ replies.Stopping = h in (λ q. cc, λ q. cc)

pub tells_not : (x : Rules) (y : Setting) (me : ℕ) (k new : Core) (e : Entry) (reply : Reply) → Tells x y me k new e reply → (reply ≢ replies.Stopped) × (reply ≢ replies.Full)
tells_not x y me k new e reply h = elim (tells_kind x y me k new e reply h) [
  | inl kind ↦ answer_not e.input reply kind
  | inr none ↦ (let q : reply ≡ replies.NoMemory = none in (λ z. cc, λ z. cc))
]

pub tells_of_kind : (x : Rules) (y : Setting) (me : ℕ) (k new : Core) (e : Entry) (input : Input) (reply : Reply) → Tells x y me k new e reply → e.input ≡ input → IsOfKind input reply
tells_of_kind x y me k new e input reply h q = elim (tells_kind x y me k new e reply h) [
  | inl kind ↦ inl (subst (λ (i : Input). IsAnswer i reply) q kind)
  | inr none ↦ inr (inl none)
]

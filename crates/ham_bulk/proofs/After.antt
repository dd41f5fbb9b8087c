-- A draft that goes on as its script does.
use Rattle.std.proofs.Common.{◌≡◌, ℕ, zero, suc, ◌+◌, ◌-◌, ◌<◌, ◌≤◌, Bool, true, false, List, [], ◌∷◌, ◌++◌, length, map, Option, Some, None, Result, Ok, Err, inl, inr, refl, sym, ap, subst, ◌∙◌, arith, append_assoc, append-nil, add-one}
use Rattle.std.specs.Prelude.{fold, if◌then◌else◌, ◌==◌, is_some, replicate, OnOk, IfOk}
use Rattle.std.specs.List.{flat_map, range_with_len, AllByRecursion}
use Rattle.std.proofs.lemmas.Bool.{cases_lt}
use Rattle.std.proofs.lemmas.List.FromFn.{map-range_with_len_more}
use Rattle.std.proofs.lemmas.List.Sums.{fold-append}
use Rattle.std.proofs.lemmas.List.Concat.{flat_map-append}
use Rattle.ham_syntax.specs.Objects.{Schema}
use Rattle.ham_turns.specs.Settings.{Setting, IsReplica, setting_of}
use Rattle.ham_plan.specs.Plans.{Plan}
use Rattle.ham_turns.specs.declared.event.Event.{Event}
use Rattle.ham_turns.specs.declared.event.Event.TheVariants as events
use Rattle.ham_runs.specs.Runs.{Note, on_link}
use Rattle.ham_world.specs.declared.refusal.StepRefusal.{StepRefusal}
use Rattle.ham_world.specs.declared.refusal.StepRefusal.TheVariants as step
use Rattle.ham_world.specs.Worlds.{Run, Steps, Takes, Refuses, begun}
use Rattle.ham_replay.specs.Ends.{is_memory}
use Rattle.ham_grammar.specs.Lines.{IsPrintableEvent}
use Rattle.ham_bulk.specs.declared.round.Draw.{Draw}
use Rattle.ham_bulk.specs.declared.reached.TheConstants.{MAX_LINKS}
use Rattle.ham_bulk.specs.declared.draft.Draft.{Draft}
use Rattle.ham_bulk.specs.Scripted.{ScriptsPrint}
use Rattle.ham_bulk.specs.Scripts.{Script, Swept, Link, link_if, deliveries, reached_last, reached_with, link_swept, swept_from, after_event, after_draw, after_round, round, rounds, swept, swept_twice, opening_script, generated}
use Rattle.ham_bulk.specs.Drafts.{seen, swept_so_far, kept, IsAfter, IsSweptAfter, IsDraftOf}

pub ok_then : {A E P Q : Type 0} (r : Result A E) → (P → Q) → OnOk r P → OnOk r Q
ok_then (Ok x) f h = f h
ok_then (Err e) f h = h

pub ok_both : {A E P R Q : Type 0} (r : Result A E) → (P → R → Q) → OnOk r P → OnOk r R → OnOk r Q
ok_both (Ok x) f h k = f h k
ok_both (Err e) f h k = h

pub if_ok_then : {A E : Type 0} {P Q : A → Type 0} (r : Result A E) → ((x : A) → P x → Q x) → IfOk r P → IfOk r Q
if_ok_then (Ok x) f h = f x h
if_ok_then (Err e) f h = h

-- nothing happened yet
pub at_first : (w : Run) (d : Draft) → IsAfter w w d (seen w d)
at_first w d = record { ran = refl; drafted = refl }

abbrev ran_to : Run → Script → Run
ran_to w s = record w { notes = s.notes }

-- one after the other
pub goes_on : (f : Schema → Setting → Script → Script) (old mid new : Run) (before after : Draft) (s : Script) → IsAfter old mid before s →
    IsAfter mid new after (f mid.object (setting_of mid.plan) (seen mid before)) → IsAfter old new after (f old.object (setting_of old.plan) s)
goes_on f old mid new before after s h k =
    let At : Run → Draft → Type 0 = λ w d. IsAfter w new after (f w.object (setting_of w.plan) (seen w d)) in
    let is : At (ran_to old s) (kept s) = subst (λ (d : Draft). At (ran_to old s) d) h.drafted (subst (λ (w : Run). At w before) h.ran k) in
    record { ran = is.ran; drafted = is.drafted }

pub swept_then : (f : Schema → Setting → Swept → Swept) (old mid new : Run) (before after : Draft) (done now : List ℕ) (s : Swept) → IsSweptAfter old mid before done s →
    IsSweptAfter mid new after now (f mid.object (setting_of mid.plan) (record { script = seen mid before; done = done })) → IsSweptAfter old new after now (f old.object (setting_of old.plan) s)
swept_then f old mid new before after done now s h k =
    let At : Run → Draft → List ℕ → Type 0 = λ w d n. IsSweptAfter w new after now (f w.object (setting_of w.plan) (record { script = seen w d; done = n })) in
    let is : At (ran_to old s.script) (kept s.script) s.done =
    subst (λ (n : List ℕ). At (ran_to old s.script) (kept s.script) n) h.swept_to
    (subst (λ (d : Draft). At (ran_to old s.script) d done) h.script.drafted (subst (λ (w : Run). At w before done) h.script.ran k)) in
    record { script = record { ran = is.script.ran; drafted = is.script.drafted }; swept_to = is.swept_to }

pub still_going : (old new : Run) (d : Draft) (s : Script) → IsAfter old new d s → old.stopped ≡ false → new.stopped ≡ false
still_going old new d s h going = ap (λ (w : Run). w.stopped) h.ran ∙ going

pub still_replica : (old new : Run) (d : Draft) (s : Script) (r : ℕ) → IsAfter old new d s → IsReplica (setting_of old.plan) r → IsReplica (setting_of new.plan) r
still_replica old new d s r h is = subst (λ (w : Run). IsReplica (setting_of w.plan) r) (sym h.ran) is

-- ---- ranges

pub range_more : (a n : ℕ) → range_with_len a (n + 1) ≡ range_with_len a n ++ (a + n) ∷ []
range_more a zero = let at : a ≡ a + 0 = omega arith in ap (λ (x : ℕ). x ∷ []) at
range_more a (suc n) =
    let more : suc n + 1 ≡ suc (n + 1) = omega arith in
    let at : a + 1 + n ≡ a + suc n = omega arith in
    ap (range_with_len a) more ∙ ap (λ (xs : List ℕ). a ∷ xs) (range_more (a + 1) n ∙ ap (λ (x : ℕ). range_with_len (a + 1) n ++ x ∷ []) at)

-- ---- folds that go on

none_delivered : (l : Link) (first : ℕ) → deliveries l first first ≡ []
none_delivered l first = let no : first - first ≡ 0 = omega arith in ap (λ (n : ℕ). map (events.Deliver l.from l.to) (range_with_len (first + 1) n)) no

pub nothing_delivered : (l : Link) (first count : ℕ) → count ≤ first → deliveries l first count ≡ []
nothing_delivered l first count h = let no : count - first ≡ 0 = omega (arith, h) in ap (λ (n : ℕ). map (events.Deliver l.from l.to) (range_with_len (first + 1) n)) no

deliveries_more : (l : Link) (first frame : ℕ) → first ≤ frame → deliveries l first (frame + 1) ≡ deliveries l first frame ++ events.Deliver l.from l.to (frame + 1) ∷ []
deliveries_more l first frame h =
    let many : frame + 1 - first ≡ frame - first + 1 = omega (arith, h) in
    ap (λ (n : ℕ). map (events.Deliver l.from l.to) (range_with_len (first + 1) n)) many
    ∙ map-range_with_len_more (events.Deliver l.from l.to) (first + 1) (frame - first) (frame + 1) (omega (arith, h))

fold_more : {A B : Type 0} (f : B → A → B) (s : B) (xs : List A) (x : A) → fold f s (xs ++ x ∷ []) ≡ f (fold f s xs) x
fold_more f s xs x = fold-append f s xs (x ∷ [])

pub none_yet : (old : Run) (d : Draft) (l : Link) (first : ℕ) → IsAfter old old d (fold (after_event old.object (setting_of old.plan)) (seen old d) (deliveries l first first))
none_yet old d l first = rw none_delivered (at_first old d)

pub one_delivered : (old mid new : Run) (before after : Draft) (s : Script) (l : Link) (first frame : ℕ) (e : Event) → first ≤ frame → e ≡ events.Deliver l.from l.to (frame + 1) →
    IsAfter old mid before (fold (after_event old.object (setting_of old.plan)) s (deliveries l first frame)) → IsAfter mid new after (after_event mid.object (setting_of mid.plan) (seen mid before) e) →
    IsAfter old new after (fold (after_event old.object (setting_of old.plan)) s (deliveries l first (frame + 1)))
one_delivered old mid new before after s l first frame e later is h k =
    let o = old.object in
    let y = setting_of old.plan in
    let more : after_event o y (fold (after_event o y) s (deliveries l first frame)) e ≡ fold (after_event o y) s (deliveries l first (frame + 1)) =
    ap (after_event o y (fold (after_event o y) s (deliveries l first frame))) is
    ∙ sym (ap (fold (after_event o y) s) (deliveries_more l first frame later) ∙ fold_more (after_event o y) s (deliveries l first frame) (events.Deliver l.from l.to (frame + 1))) in
    subst (λ (x : Script). IsAfter old new after x) more (goes_on (λ o y x. after_event o y x e) old mid new before after (fold (after_event o y) s (deliveries l first frame)) h k)

-- the loop over them ended
pub all_delivered : (old new : Run) (after : Draft) (s : Script) (l : Link) (first count frame : ℕ) → (count < first → frame ≡ first) → count ≤ frame → (first ≤ count → frame ≤ count) →
    IsAfter old new after (fold (after_event old.object (setting_of old.plan)) s (deliveries l first frame)) → IsAfter old new after (fold (after_event old.object (setting_of old.plan)) s (deliveries l first count))
all_delivered old new after s l first count frame still past within h =
    let To : List Event → Type 0 = λ es. IsAfter old new after (fold (after_event old.object (setting_of old.plan)) s es) in
    elim (cases_lt count first) [
      | inl less ↦ subst To (nothing_delivered l first frame (let at = still less in omega (arith, at)) ∙ sym (nothing_delivered l first count (omega (arith, less)))) h
      | inr more ↦ let at : frame ≡ count = omega (arith, past, within more) in subst (λ (n : ℕ). To (deliveries l first n)) at h
    ]

-- one sender more
pub sender_more : (old mid new : Run) (before after : Draft) (done now : List ℕ) (s : Swept) (n : ℕ) →
    IsSweptAfter old mid before done (fold (swept_from old.object (setting_of old.plan)) s (range_with_len 1 n)) →
    IsSweptAfter mid new after now (swept_from mid.object (setting_of mid.plan) (swept_so_far mid before done) (n + 1)) →
    IsSweptAfter old new after now (fold (swept_from old.object (setting_of old.plan)) s (range_with_len 1 (n + 1)))
sender_more old mid new before after done now s n h k =
    let f = swept_from old.object (setting_of old.plan) in
    let at : 1 + n ≡ n + 1 = omega arith in
    let more : f (fold f s (range_with_len 1 n)) (n + 1) ≡ fold f s (range_with_len 1 (n + 1)) =
    sym (ap (fold f s) (range_more 1 n) ∙ fold_more f s (range_with_len 1 n) (1 + n) ∙ ap (f (fold f s (range_with_len 1 n))) at) in
    subst (λ (x : Swept). IsSweptAfter old new after now x) more (swept_then (λ o y x. swept_from o y x (n + 1)) old mid new before after done now (fold f s (range_with_len 1 n)) h k)

links_more : (from n : ℕ) → flat_map (link_if from) (range_with_len 1 (n + 1)) ≡ flat_map (link_if from) (range_with_len 1 n) ++ link_if from (n + 1)
links_more from n =
    let at : 1 + n ≡ n + 1 = omega arith in
    ap (flat_map (link_if from)) (range_more 1 n) ∙ flat_map-append (link_if from) (range_with_len 1 n) ((1 + n) ∷ [])
    ∙ ap (λ (ls : List Link). flat_map (link_if from) (range_with_len 1 n) ++ ls) (append-nil (link_if from (1 + n)))
    ∙ ap (λ (k : ℕ). flat_map (link_if from) (range_with_len 1 n) ++ link_if from k) at

-- one receiver more
pub receiver_more : (old mid new : Run) (before after : Draft) (done now : List ℕ) (s : Swept) (from n : ℕ) →
    IsSweptAfter old mid before done (fold (link_swept old.object (setting_of old.plan)) s (flat_map (link_if from) (range_with_len 1 n))) →
    IsSweptAfter mid new after now (fold (link_swept mid.object (setting_of mid.plan)) (swept_so_far mid before done) (link_if from (n + 1))) →
    IsSweptAfter old new after now (fold (link_swept old.object (setting_of old.plan)) s (flat_map (link_if from) (range_with_len 1 (n + 1))))
receiver_more old mid new before after done now s from n h k =
    let f = link_swept old.object (setting_of old.plan) in
    let so_far = flat_map (link_if from) (range_with_len 1 n) in
    let more : fold f (fold f s so_far) (link_if from (n + 1)) ≡ fold f s (flat_map (link_if from) (range_with_len 1 (n + 1))) = sym (ap (fold f s) (links_more from n) ∙ fold-append f s so_far (link_if from (n + 1))) in
    subst (λ (x : Swept). IsSweptAfter old new after now x) more (swept_then (λ o y x. fold (link_swept o y) x (link_if from (n + 1))) old mid new before after done now (fold f s so_far) h k)

pub all_from : (old new : Run) (after : Draft) (now : List ℕ) (s : Swept) (from n : ℕ) → n ≡ (setting_of old.plan).replicas →
    IsSweptAfter old new after now (fold (link_swept old.object (setting_of old.plan)) s (flat_map (link_if from) (range_with_len 1 n))) → IsSweptAfter old new after now (swept_from old.object (setting_of old.plan) s from)
all_from old new after now s from n all h = subst (λ (m : ℕ). IsSweptAfter old new after now (fold (link_swept old.object (setting_of old.plan)) s (flat_map (link_if from) (range_with_len 1 m)))) all h

pub is_next : (p : Plan) (n m : ℕ) → n ≡ p.replicas → m < n → IsReplica (setting_of p) (m + 1)
unfolding setting_of
is_next p n m are below = (omega arith, omega (arith, are, below))

pub all_passed : (p : Plan) (n m : ℕ) → n ≡ p.replicas → m ≤ n → n ≤ m → m ≡ (setting_of p).replicas
unfolding setting_of
all_passed p n m are within past = omega (arith, are, within, past)

pub link_reached : (old new : Run) (d after : Draft) (done now : List ℕ) (l : Link) (first count : ℕ) → count ≡ length (on_link old.notes l.from l.to) → first ≡ reached_last done l → now ≡ reached_with done l count →
    IsAfter old new after (fold (after_event old.object (setting_of old.plan)) (seen old d) (deliveries l first count)) → IsSweptAfter old new after now (link_swept old.object (setting_of old.plan) (swept_so_far old d done) l)
unfolding link_swept
link_reached old new d after done now l first count sent last reached k =
    let To : ℕ → ℕ → Type 0 = λ m n. IsAfter old new after (fold (after_event old.object (setting_of old.plan)) (seen old d) (deliveries l m n)) in
    record { script = subst (λ (n : ℕ). To (reached_last done l) n) sent (subst (λ (m : ℕ). To m count) last k); swept_to = reached ∙ ap (reached_with done l) sent }

pub swept_all : (old new : Run) (after : Draft) (now : List ℕ) (s : Swept) (n : ℕ) → n ≡ (setting_of old.plan).replicas →
    IsSweptAfter old new after now (fold (swept_from old.object (setting_of old.plan)) s (range_with_len 1 n)) → IsSweptAfter old new after now (swept old.object (setting_of old.plan) s)
unfolding swept
swept_all old new after now s n all h = subst (λ (m : ℕ). IsSweptAfter old new after now (fold (swept_from old.object (setting_of old.plan)) s (range_with_len 1 m))) all h

pub twice : (old mid new : Run) (d before after : Draft) (zeros done now : List ℕ) → zeros ≡ replicate MAX_LINKS 0 → IsSweptAfter old mid before done (swept old.object (setting_of old.plan) (swept_so_far old d zeros)) →
    IsSweptAfter mid new after now (swept mid.object (setting_of mid.plan) (swept_so_far mid before done)) → IsAfter old new after (swept_twice old.object (setting_of old.plan) (seen old d))
unfolding swept_twice
twice old mid new d before after zeros done now none h k =
    let both = swept_then swept old mid new before after done now (swept old.object (setting_of old.plan) (swept_so_far old d zeros)) h k in
    subst (λ (z : List ℕ). IsAfter old new after (swept old.object (setting_of old.plan) (swept old.object (setting_of old.plan) (swept_so_far old d z))).script) none both.script

-- ---- one event

pub not_taken : (old : Run) (d : Draft) (e : Event) → is_some d.refused ≡ true → IsAfter old old d (after_event old.object (setting_of old.plan) (seen old d) e)
unfolding after_event
not_taken old d e stopped = rw stopped (at_first old d)

pub is_taken : (old new : Run) (e : Event) (count : ℕ) (d after : Draft) → is_some d.refused ≡ false → Takes old new e count → after ≡ record d { events = d.events ++ e ∷ [] } →
    IsAfter old new after (after_event old.object (setting_of old.plan) (seen old d) e)
unfolding after_event
is_taken old new e count d after going h is = rw (going, h.allowed) (record { ran = h.run; drafted = is })

refused_by : (old new : Run) (e : Event) (why : StepRefusal) (d after : Draft) → is_some d.refused ≡ false → Refuses old new e why → after ≡ record d { refused = Some why } →
    IsAfter old new after (after_event old.object (setting_of old.plan) (seen old d) e)
unfolding after_event
refused_by old new e why d after going h is = rw (going, h.0) (record { ran = h.1; drafted = is })

pub is_refused : (old new : Run) (e : Event) (why : StepRefusal) (d after : Draft) → is_some d.refused ≡ false → Steps old new e (Err why) → is_memory why ≡ false → after ≡ record d { refused = Some why } →
    IsAfter old new after (after_event old.object (setting_of old.plan) (seen old d) e)
is_refused old new e step.NoSuchReplica d after going h other is = refused_by old new e step.NoSuchReplica d after going h is
is_refused old new e step.NoSuchFrame d after going h other is = refused_by old new e step.NoSuchFrame d after going h is
is_refused old new e step.BadCut d after going h other is = refused_by old new e step.BadCut d after going h is
is_refused old new e step.SentFull d after going h other is = refused_by old new e step.SentFull d after going h is
is_refused old new e (step.Issue why) d after going h other is = refused_by old new e (step.Issue why) d after going h is
is_refused old new e step.NoMemory d after going h other is = absurd cc

-- ---- one round

pub round_taken : (old new : Run) (d after : Draft) (draw : Draw) (e : Event) → draw ≡ round old.object (setting_of old.plan) old.notes d.number → draw.event ≡ Some e →
    IsAfter old new after (after_event old.object (setting_of old.plan) (seen old (record d { number = draw.number })) e) → IsAfter old new after (after_round old.object (setting_of old.plan) (seen old d))
unfolding after_round
round_taken old new d after draw e is some k =
    let At : Draw → Type 0 = λ r. IsAfter old new after (after_draw old.object (setting_of old.plan) (record (seen old d) { number = r.number }) r.event) in
    subst At is (rw some k)

pub round_empty : (old : Run) (d : Draft) (draw : Draw) → draw ≡ round old.object (setting_of old.plan) old.notes d.number → draw.event ≡ None →
    IsAfter old old (record d { number = draw.number }) (after_round old.object (setting_of old.plan) (seen old d))
unfolding after_round
round_empty old d draw is none =
    let At : Draw → Type 0 = λ r. IsAfter old old (record d { number = draw.number }) (after_draw old.object (setting_of old.plan) (record (seen old d) { number = r.number }) r.event) in
    subst At is (rw none (record { ran = refl; drafted = refl }))

pub round_more : (old mid new : Run) (before after : Draft) (n : ℕ) (s : Script) → IsAfter old mid before (rounds old.object (setting_of old.plan) n s) →
    IsAfter mid new after (after_round mid.object (setting_of mid.plan) (seen mid before)) → IsAfter old new after (rounds old.object (setting_of old.plan) (n + 1) s)
round_more old mid new before after n s h k = rw add-one (goes_on after_round old mid new before after (rounds old.object (setting_of old.plan) n s) h k)

-- ---- the whole

-- after the rounds from the opening, both sweeps make the script
pub opened : (old mid new : Run) (fresh before after : Draft) (seed n : ℕ) → old.notes ≡ [] → fresh ≡ record { number = seed; events = []; refused = None } →
    IsAfter old mid before (rounds old.object (setting_of old.plan) n (seen old fresh)) → IsAfter mid new after (swept_twice mid.object (setting_of mid.plan) (seen mid before)) →
    IsAfter old new after (generated old.object (setting_of old.plan) seed n)
unfolding generated
opened old mid new fresh before after seed n none is h k =
    let first : seen old fresh ≡ opening_script seed = ap (λ (d : Draft). seen old d) is ∙ ap (λ (ns : List Note). record { number = seed; events = []; notes = ns; refused = None }) none in
    subst (λ (s : Script). IsAfter old new after (swept_twice old.object (setting_of old.plan) (rounds old.object (setting_of old.plan) n s))) first
    (goes_on swept_twice old mid new before after (rounds old.object (setting_of old.plan) n (seen old fresh)) h k)

-- in a new world
pub in_new_world : (o : Schema) (p : Plan) (w new : Run) (d : Draft) (seed n : ℕ) → ScriptsPrint → w ≡ begun o p → IsAfter w new d (generated w.object (setting_of w.plan) seed n) →
    IsDraftOf o (generated o (setting_of p) seed n) d
in_new_world o p w new d seed n law is h =
    let at : IsAfter (begun o p) new d (generated o (setting_of p) seed n) = subst (λ (x : Run). IsAfter x new d (generated x.object (setting_of x.plan) seed n)) is h in
    record { drafted = at.drafted; printable = subst (λ (x : Draft). AllByRecursion (IsPrintableEvent o) x.events) (sym at.drafted) (law o (setting_of p) seed n) }

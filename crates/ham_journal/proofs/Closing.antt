-- A history leaves a log that is closed by its frames, and what is recorded of it are the calls of that log.
use Rattle.std.proofs.Common.{◌≡◌, ◌≢◌, ℕ, zero, suc, ◌+◌, ◌≤◌, Bool, true, false, List, [], ◌∷◌, ◌++◌, length, map, cond, if◌then◌else◌, Option, Some, None, refl, sym, ap, subst, ◌∙◌, inl, inr, arith}
use Rattle.std.specs.Prelude.{count_by, ◌==◌, ◌-◌, filter_map}
use Rattle.std.specs.List.{cons_option}
use Rattle.std.proofs.lemmas.List.Recursion.{is_count_by}
use Rattle.std.proofs.lemmas.List.{map-append, length-append}
use Rattle.std.proofs.lemmas.Bool.{eqb-true, eq-eqb}
use Rattle.std.proofs.lemmas.Option.{none-some, same_Some}
use Rattle.ham_syntax.specs.declared.act.Place.{Place}
use Rattle.ham_syntax.specs.declared.act.Call.{Call}
use Rattle.ham_syntax.specs.declared.act.Act.{Act}
use Rattle.ham_frame.specs.declared.frame.Frame.{Frame}
use Rattle.ham_frame.specs.declared.frame.Ruling.{Ruling}
use Rattle.ham_turns.specs.declared.turn.What.{What}
use Rattle.ham_turns.specs.declared.turn.IssueRefusal.{IssueRefusal}
use Rattle.ham_turns.specs.declared.turn.DeliverRefusal.{DeliverRefusal}
use Rattle.ham_journal.specs.declared.entry.Entry.{Entry}
use Rattle.ham_journal.specs.declared.input.Input.{Input}
use Rattle.ham_journal.specs.declared.input.Input.TheVariants as inputs
use Rattle.ham_journal.specs.declared.input.Reply.{Reply}
use Rattle.ham_journal.specs.declared.input.Reply.TheVariants as replies
use Rattle.ham_turns.specs.Settings.{rules_of, setting_of, Rules, Setting}
use Rattle.ham_journal.specs.Replies.{MayEnter, AllMayEnter}
use Rattle.ham_journal.specs.Histories.{HasCore, opening_words, opening_core}
use Rattle.ham_journal.specs.Cores.{Core, Answered, told, turn, issued, delivered, collected, call_had, step, entered, history}
use Rattle.ham_journal.specs.Drains.{drained, least_ready}
use Rattle.ham_syntax.specs.Objects.{Schema}
use Rattle.ham_plan.specs.Plans.{Plan}
use Rattle.ham_journal.specs.Closed.{IsPlaced, of_lane, of_slot, Reached, Nothing, Then, IsHad, AllHad, IsClosed, HistoriesClosed, HistoriesRecorded}
use Rattle.ham_turns.specs.Refusals.{issue_refusal, deliver_refusal}
use Rattle.ham_turns.specs.Words.{ReplicaWords, Intake, ActComes, FrameComes, Beat, place_of, in_lane, numbered}
use Rattle.ham_turns.specs.Work.{logged_one, logged_made, taken, own_work, answer_of, ruled_of, made_of, place_made, call_in, at_place, first_of_two, decided_after}
use Rattle.ham_turns.specs.Ready.{IsWithin, IsReadyHere}
use Rattle.ham_journal.proofs.Drained.{least_sound}
use Rattle.ham_journal.proofs.Parts.{and_then_some, turned, told_is, replayed}
use Rattle.ham_journal.proofs.Takings.{numbered_last, numbered_either, decided_still, Takes, issue_takes, quiet_takes, deliver_takes}
use Rattle.ham_journal.proofs.Stops.{history_cons, history_nil}

-- a count that computes
abbrev counted : {X : Type 0} → (X → Bool) → List X → ℕ
counted p [] = 0
counted p (x ∷ xs) = cond (p x) (1 + counted p xs) (counted p xs)

counted_is : {X : Type 0} (p : X → Bool) (xs : List X) → counted p xs ≡ count_by p xs
counted_is p xs = is_count_by (counted p) p refl (λ x xs. refl) xs

counted_more : {X : Type 0} (p : X → Bool) (xs : List X) (x : X) → counted p (xs ++ x ∷ []) ≡ counted p xs + cond (p x) 1 0
counted_more p [] x = by_test (p x)
  where
    by_test : (b : Bool) → cond b 1 0 ≡ 0 + cond b 1 0
    by_test true = refl
    by_test false = refl
counted_more p (y ∷ xs) x = by_test (p y) (counted_more p xs x)
  where
    by_test : (b : Bool) → counted p (xs ++ x ∷ []) ≡ counted p xs + cond (p x) 1 0
        → cond b (1 + counted p (xs ++ x ∷ [])) (counted p (xs ++ x ∷ [])) ≡ cond b (1 + counted p xs) (counted p xs) + cond (p x) 1 0
    by_test true h = omega (arith, h)
    by_test false h = h

pub count_more : {X : Type 0} (p : X → Bool) (xs : List X) (x : X) → count_by p (xs ++ x ∷ []) ≡ count_by p xs + cond (p x) 1 0
count_more p xs x = sym (counted_is p (xs ++ x ∷ [])) ∙ counted_more p xs x ∙ ap (λ (n : ℕ). n + cond (p x) 1 0) (counted_is p xs)

counted_places : (l : ℕ) (calls : List Call) → counted (in_lane l) (map place_of calls) ≡ counted (of_lane l) calls
counted_places l [] = refl
counted_places l (c ∷ calls) = ap (λ (n : ℕ). cond (c.lane == l) (1 + n) n) (counted_places l calls)

pub count_places : (l : ℕ) (calls : List Call) → count_by (in_lane l) (map place_of calls) ≡ count_by (of_lane l) calls
count_places l calls = sym (counted_is (in_lane l) (map place_of calls)) ∙ counted_places l calls ∙ counted_is (of_lane l) calls

-- what the words of a node keep beside
pub record Sound (y : Setting) (me : ℕ) (w : ReplicaWords) : Type 0 where
  pub closed : IsClosed y w
  pub counts : (s : ℕ) → w.count_of s ≡ count_by (of_slot y s) closed.calls
  pub own : (l : ℕ) → y.decider l ≡ me → length (w.decided l) ≡ count_by (of_lane l) closed.calls
  pub others : (p : Place) (c : Call) → w.kept p ≡ Some c → y.decider p.lane ≢ me
  pub placed : IsPlaced w
  pub mine : (l n : ℕ) (c : Call) → numbered (w.decided l) n ≡ Some c → y.decider l ≡ me

reached : (y : Setting) (w : ReplicaWords) (calls : List Call) (deps slots : List ℕ) → ((s : ℕ) → w.count_of s ≡ count_by (of_slot y s) calls) → IsWithin w deps slots → Reached y calls deps slots
reached y w calls [] slots e h = tt
reached y w calls (n ∷ deps) [] e h = tt
reached y w calls (n ∷ deps) (s ∷ slots) e h = (subst (λ (k : ℕ). n ≤ k) (e s) h.0, reached y w calls deps slots e h.1)

had_more : (w : ReplicaWords) (calls : List Call) (c : Call) → AllHad w calls → IsHad w c → AllHad w (calls ++ c ∷ [])
had_more w [] c h g = (g, tt)
had_more w (d ∷ calls) c h g = (h.0, had_more w calls c h.1 g)

had_same : (x : Rules) (y : Setting) (w : ReplicaWords) (c : Call) (calls : List Call) → AllHad w calls → AllHad (logged_one x y w c) calls
had_same x y w c [] h = tt
had_same x y w c (d ∷ calls) h = (h.0, had_same x y w c calls h.1)

slot_more : (b : Bool) (n : ℕ) → (if b then n + 1 else n) ≡ n + cond b 1 0
slot_more true n = refl
slot_more false n = omega arith

no_more : (b : Bool) (n : ℕ) → (b ≡ true → ⊥) → n ≡ n + cond b 1 0
no_more true n h = absurd (h refl)
no_more false n h = omega arith

-- a call that is ready is logged
pub one_sound : (x : Rules) (y : Setting) (me : ℕ) (w : ReplicaWords) (c : Call) → IsReadyHere y w c → Sound y me w → Sound y me (logged_one x y w c)
one_sound x y me w c r s =
    let k = s.closed in
    record {
      closed = record {
        calls = k.calls ++ c ∷ [];
        log = ap (λ (l : List Place). l ++ place_of c ∷ []) k.log ∙ sym (map-append place_of k.calls (c ∷ []));
        order = Then k.calls c k.order
            (r.next ∙ ap (λ (l : List Place). count_by (in_lane c.lane) l + 1) k.log ∙ ap (λ (n : ℕ). n + 1) (count_places c.lane k.calls))
            (reached y w k.calls c.deps (y.needs c.act.method) s.counts r.counts);
        had = had_more (logged_one x y w c) k.calls c (had_same x y w c k.calls k.had) (inr r.kept);
      };
      counts = λ z. slot_more (of_slot y z c) (w.count_of z) ∙ ap (λ (n : ℕ). n + cond (of_slot y z c) 1 0) (s.counts z) ∙ sym (count_more (of_slot y z) k.calls c);
      own = λ l e. s.own l e
          ∙ no_more (c.lane == l) (count_by (of_lane l) k.calls) (λ q. s.others (place_of c) c r.kept (ap y.decider (eqb-true c.lane l q) ∙ e))
          ∙ sym (count_more (of_lane l) k.calls c);
      others = s.others;
      placed = s.placed;
      mine = s.mine;
    }

-- and so is each of a drain
pub drained_sound : (x : Rules) (y : Setting) (me n : ℕ) (w after : ReplicaWords) → drained x y n w ≡ Some after → Sound y me w → Sound y me after
drained_sound x y me zero w after e s = subst (λ (v : ReplicaWords). Sound y me v) (same_Some w after e) s
drained_sound x y me (suc n) w after e s =
    let q = and_then_some (λ (c : Call). drained x y n (logged_one x y w c)) (least_ready y w y.lanes) after e in
    drained_sound x y me n (logged_one x y w q.0) after q.2
    (one_sound x y me w q.0 (least_sound y w y.lanes q.0 (omega arith) q.1).0 s)

-- ---- a turn's own work

had_taken : (w : ReplicaWords) (took : Intake) (answer : What) (ruled : Option Ruling) (made : Option Call) (calls : List Call) → AllHad w calls → AllHad (taken w took answer ruled made) calls
had_taken w took answer ruled made [] h = tt
had_taken w took answer ruled made (c ∷ calls) h = (by_had h.0, had_taken w took answer ruled made calls h.1)
  where
    by_had : IsHad w c → IsHad (taken w took answer ruled made) c
    by_had (inl d) = inl (decided_still c.lane c.number (w.decided c.lane) made c d)
    by_had (inr k) = inr (ap (λ (o : Option Call). first_of_two o (at_place (call_in took) (place_of c))) k)

kept_other : (y : Setting) (me : ℕ) (p : Place) (old new : Option Call) (c : Call) → (old ≡ Some c → y.decider p.lane ≢ me) → (new ≡ Some c → y.decider p.lane ≢ me) → first_of_two old new ≡ Some c → y.decider p.lane ≢ me
kept_other y me p (Some d) new c f g e = f e
kept_other y me p None new c f g e = g e

within_own : (w : ReplicaWords) (slots : List ℕ) → IsWithin w (map w.count_of slots) slots
within_own w [] = tt
within_own w (s ∷ slots) = (omega arith, within_own w slots)

same_test : (n : ℕ) → (n == n) ≡ true
same_test n = eq-eqb n n refl

decided_grows : (b : Bool) (calls : List Call) (c : Call) → length (if b then calls ++ c ∷ [] else calls) ≡ length calls + cond b 1 0
decided_grows true calls c = length-append calls (c ∷ [])
decided_grows false calls c = omega arith

placed_more : (b : Bool) (calls : List Call) (c d : Call) (l n : ℕ) → (b ≡ true → (c.lane ≡ l) × (c.number ≡ length calls + 1)) → (numbered calls n ≡ Some d → (d.lane ≡ l) × (d.number ≡ n))
    → numbered (if b then calls ++ c ∷ [] else calls) n ≡ Some d → (d.lane ≡ l) × (d.number ≡ n)
placed_more true calls c d l n f g h = elim (numbered_either calls c n d h) [
  | inl old ↦ g old
  | inr new ↦ subst (λ (z : Call). (z.lane ≡ l) × (z.number ≡ n)) new.1 ((f refl).0, (f refl).1 ∙ sym new.0)
]
placed_more false calls c d l n f g h = g h

mine_more : (y : Setting) (me : ℕ) (b : Bool) (calls : List Call) (c d : Call) (l n : ℕ) → (b ≡ true → y.decider l ≡ me) → (numbered calls n ≡ Some d → y.decider l ≡ me)
    → numbered (if b then calls ++ c ∷ [] else calls) n ≡ Some d → y.decider l ≡ me
mine_more y me true calls c d l n f g h = f refl
mine_more y me false calls c d l n f g h = g h

own_parts : (x : Rules) (y : Setting) (me : ℕ) (w : ReplicaWords) (took : Intake) (answer : What) (ruled : Option Ruling) (made : Option Call)
    → Takes x y me w took → made_of x y w me took ≡ made → Sound y me w → Sound y me (logged_made x y (taken w took answer ruled made) made)
own_parts x y me w took answer ruled None t e s =
    let k = s.closed in
    record {
      closed = record { calls = k.calls; log = k.log; order = k.order; had = had_taken w took answer ruled None k.calls k.had };
      counts = s.counts;
      own = s.own;
      others = λ p c h. kept_other y me p (w.kept p) (at_place (call_in took) p) c (s.others p c) (t.brought p c) h;
      placed = s.placed;
      mine = s.mine;
    }
own_parts x y me w took answer ruled (Some c) t e s =
    let k = s.closed in
    let here : y.decider c.lane ≡ me = t.lane c e in
    let had : AllHad (taken w took answer ruled (Some c)) k.calls = had_taken w took answer ruled (Some c) k.calls k.had in
    let mine : numbered (decided_after c.lane (w.decided c.lane) (Some c)) c.number ≡ Some c =
    ap (λ (b : Bool). numbered (if b then w.decided c.lane ++ c ∷ [] else w.decided c.lane) c.number) (same_test c.lane) ∙ numbered_last (w.decided c.lane) c c.number (t.number c e) in
    let v : ReplicaWords = taken w took answer ruled (Some c) in
    record {
      closed = record {
        calls = k.calls ++ c ∷ [];
        log = ap (λ (l : List Place). l ++ place_of c ∷ []) k.log ∙ sym (map-append place_of k.calls (c ∷ []));
        order = Then k.calls c k.order (t.number c e ∙ ap (λ (n : ℕ). n + 1) (s.own c.lane here))
            (reached y w k.calls c.deps (y.needs c.act.method) s.counts
            (subst (λ (d : List ℕ). IsWithin w d (y.needs c.act.method)) (sym (t.deps c e)) (within_own w (y.needs c.act.method))));
        had = had_more (logged_one x y v c) k.calls c (had_same x y v c k.calls had) (inl mine);
      };
      counts = λ z. slot_more (of_slot y z c) (w.count_of z) ∙ ap (λ (n : ℕ). n + cond (of_slot y z c) 1 0) (s.counts z) ∙ sym (count_more (of_slot y z) k.calls c);
      own = λ l q. decided_grows (c.lane == l) (w.decided l) c ∙ ap (λ (n : ℕ). n + cond (c.lane == l) 1 0) (s.own l q) ∙ sym (count_more (of_lane l) k.calls c);
      others = λ p d h. kept_other y me p (w.kept p) (at_place (call_in took) p) d (s.others p d) (t.brought p d) h;
      placed = λ l n d h. placed_more (c.lane == l) (w.decided l) c d l n (λ q. (eqb-true c.lane l q, t.number c e ∙ ap (λ (z : ℕ). length (w.decided z) + 1) (eqb-true c.lane l q))) (s.placed l n d) h;
      mine = λ l n d h. mine_more y me (c.lane == l) (w.decided l) c d l n (λ q. ap y.decider (sym (eqb-true c.lane l q)) ∙ here) (s.mine l n d) h;
    }

own_sound : (x : Rules) (y : Setting) (me : ℕ) (w : ReplicaWords) (took : Intake) → Takes x y me w took → Sound y me w → Sound y me (own_work x y w me took)
own_sound x y me w took t s = own_parts x y me w took (answer_of x y w me took) (ruled_of x w took) (made_of x y w me took) t refl s

-- ---- steps, entries, histories

turn_sound : (x : Rules) (y : Setting) (me : ℕ) (k : Core) (took : Intake) (n : ℕ) (a : Answered) → Takes x y me k.words took → turn x y me k took n ≡ Some a → Sound y me k.words → Sound y me a.core.words
turn_sound x y me k took n a t e s =
    let d = turned x y me k took n a e in
    subst (λ (z : Answered). Sound y me z.core.words) d.ends
    (drained_sound x y me (n - length (place_made (made_of x y k.words me took))) (own_work x y k.words me took) d.after d.drains (own_sound x y me k.words took t s))

told_sound : (y : Setting) (me : ℕ) (k : Core) (r : Reply) (n : ℕ) (a : Answered) → told k r n ≡ Some a → Sound y me k.words → Sound y me a.core.words
told_sound y me k r n a e s = subst (λ (z : Answered). Sound y me z.core.words) (told_is k r n a e) s

issue_sound : (x : Rules) (y : Setting) (me : ℕ) (k : Core) (act : Act) (n : ℕ) (a : Answered) (r : Option IssueRefusal) → issued x y me k act n r ≡ Some a → Sound y me k.words → Sound y me a.core.words
issue_sound x y me k act n a None e s = turn_sound x y me k (ActComes act) n a (issue_takes x y me k.words act) e s
issue_sound x y me k act n a (Some why) e s = told_sound y me k (replies.NotIssued why) n a e s

deliver_sound : (x : Rules) (y : Setting) (me : ℕ) (k : Core) (from : ℕ) (f : Frame) (n : ℕ) (a : Answered) (r : Option DeliverRefusal) → from ≢ me → deliver_refusal x y k.words me from f ≡ r
    → delivered x y me k from f n r ≡ Some a → Sound y me k.words → Sound y me a.core.words
deliver_sound x y me k from f n a None other q e s = turn_sound x y me k (FrameComes from 0 f) n a (deliver_takes x y me k.words from f other q) e s
deliver_sound x y me k from f n a (Some why) other q e s = told_sound y me k (replies.NotDelivered why) n a e s

step_sound : (x : Rules) (y : Setting) (me : ℕ) (k : Core) (i : Input) (n : ℕ) (a : Answered) → MayEnter y me i → step x y me k i n ≡ Some a → Sound y me k.words → Sound y me a.core.words
step_sound x y me k (inputs.Issue act) n a m e s = issue_sound x y me k act n a (issue_refusal x y k.words me act) e s
step_sound x y me k (inputs.Deliver from f) n a m e s = deliver_sound x y me k from f n a (deliver_refusal x y k.words me from f) (m from f refl).other refl e s
step_sound x y me k inputs.Tick n a m e s = turn_sound x y me k Beat n a (quiet_takes x y me k.words Beat refl refl) e s
step_sound x y me k (inputs.Collect peer) n a m e s = told_sound y me (collected k peer) _ n a e s
step_sound x y me k (inputs.Show counter key) n a m e s = told_sound y me k _ n a e s
step_sound x y me k (inputs.Rows relation) n a m e s = told_sound y me k _ n a e s
step_sound x y me k (inputs.Verdict group number) n a m e s = told_sound y me k _ n a e s
step_sound x y me k inputs.Log n a m e s = told_sound y me k _ n a e s
step_sound x y me k inputs.Counts n a m e s = told_sound y me k _ n a e s
step_sound x y me k inputs.Record n a m e s = told_sound y me k _ n a e s
step_sound x y me k inputs.Stop n a m e s = told_sound y me (record k { stopped = true }) _ n a e s

entry_sound : (x : Rules) (y : Setting) (me : ℕ) (k : Core) (e : Entry) (a : Answered) → MayEnter y me e.input → entered x y me k e ≡ Some a → Sound y me k.words → Sound y me a.core.words
entry_sound x y me k e a m h s =
    let r = replayed x y me k e a h in
    let first : Sound y me r.first = drained_sound x y me e.before k.words r.first r.before s in
    elim r.work [
      | inl none ↦ subst (λ (z : Answered). Sound y me z.core.words) none.1 first
      | inr did ↦ step_sound x y me (record k { words = r.first }) e.input e.logged a m did.1 first
    ]

history_sound : (x : Rules) (y : Setting) (me : ℕ) (k0 k : Core) (es : List Entry) → AllMayEnter y me es → history x y me k0 es ≡ Some k → Sound y me k0.words → Sound y me k.words
history_sound x y me k0 k [] m h s = subst (λ (c : Core). Sound y me c.words) (history_nil x y me k0 k h) s
history_sound x y me k0 k (e ∷ es) m h s =
    let r = history_cons x y me k0 k e es h in
    history_sound x y me r.0.core k es m.1 r.2 (entry_sound x y me k0 e r.0 m.0 r.1 s)

nothing_numbered : (n : ℕ) → numbered {X = Call} [] n ≡ None
nothing_numbered zero = refl
nothing_numbered (suc n) = refl

opening_sound : (x : Rules) (y : Setting) (me : ℕ) → Sound y me (opening_words x)
opening_sound x y me = record {
  closed = record { calls = []; log = refl; order = Nothing; had = tt };
  counts = λ z. counted_is (of_slot y z) [];
  own = λ l e. counted_is (of_lane l) [];
  others = λ p c h. absurd (none-some c h);
  placed = λ l n c h. absurd (none-some c (sym (nothing_numbered n) ∙ h));
  mine = λ l n c h. absurd (none-some c (sym (nothing_numbered n) ∙ h));
}

pub histories_closed : HistoriesClosed
histories_closed o p me k es m h =
    (history_sound (rules_of o) (setting_of p) me (opening_core o p) k es m h (opening_sound (rules_of o) (setting_of p) me)).closed

-- a decided call stands where it says
pub histories_placed : (o : Schema) (p : Plan) (me : ℕ) (k : Core) (es : List Entry) → AllMayEnter (setting_of p) me es → HasCore o p me es k → IsPlaced k.words
histories_placed o p me k es m h =
    (history_sound (rules_of o) (setting_of p) me (opening_core o p) k es m h (opening_sound (rules_of o) (setting_of p) me)).placed

-- ---- what is recorded

-- a call that is had is the one of its place
had_found : (y : Setting) (me : ℕ) (w : ReplicaWords) (c : Call) → Sound y me w → IsHad w c → call_had w (place_of c) ≡ Some c
had_found y me w c s (inl d) = ap (λ (o : Option Call). first_of_two o (w.kept (place_of c))) d
had_found y me w c s (inr k) = by_decided (numbered (w.decided c.lane) c.number) refl
  where
    by_decided : (o : Option Call) → numbered (w.decided c.lane) c.number ≡ o → call_had w (place_of c) ≡ Some c
    by_decided None e = ap (λ (o : Option Call). first_of_two o (w.kept (place_of c))) e ∙ k
    by_decided (Some d) e = absurd (s.others (place_of c) c k (s.mine c.lane c.number d e))

recorded_had : (y : Setting) (me : ℕ) (w : ReplicaWords) (calls : List Call) → Sound y me w → AllHad w calls → filter_map (call_had w) (map place_of calls) ≡ calls
recorded_had y me w [] s h = refl
recorded_had y me w (c ∷ calls) s h =
    ap (λ (o : Option Call). cons_option o (filter_map (call_had w) (map place_of calls))) (had_found y me w c s h.0)
    ∙ ap (λ (l : List Call). c ∷ l) (recorded_had y me w calls s h.1)

pub histories_recorded : HistoriesRecorded
histories_recorded o p me k es m h =
    let s = history_sound (rules_of o) (setting_of p) me (opening_core o p) k es m h (opening_sound (rules_of o) (setting_of p) me) in
    (s.closed, ap (filter_map (call_had k.words)) s.closed.log ∙ recorded_had (setting_of p) me k.words s.closed.calls s s.closed.had)

-- What the work of each input leaves.
use Rattle.std.proofs.Common.{◌≡◌, ◌≢◌, ℕ, ◌+◌, ◌-◌, ◌≤◌, ◌⊎◌, Bool, true, false, List, [], ◌∷◌, ◌++◌, length, map, take, drop, set, Option, Some, None, refl, sym, subst, ap, ◌∙◌, inl, inr, arith}
use Rattle.std.specs.Prelude.{fold, Result, Ok, Err, IsTrue, is_ok, count_by, ℤ, get_or, zero, suc, ◌<◌}
use Rattle.std.proofs.lemmas.List.{take_all}
use Rattle.ham_steps.specs.Content.{value, rows}
use Rattle.ham_resend.specs.declared.asks.Ask.{Ask}
use Rattle.ham_resend.specs.declared.asks.Asked.{Asked}
use Rattle.ham_lane.specs.Lanes.{numbered as numbered_ask}
use Rattle.ham_resend.specs.Asking.{asked_by, asked_of, verdict_on}
use Rattle.std.specs.List.{AllByRecursion}
use Rattle.ham_lists.specs.declared.list.NoMemory.{NoMemory}
use Rattle.ham_syntax.specs.declared.act.Act.{Act}
use Rattle.ham_syntax.specs.declared.act.Call.{Call}
use Rattle.ham_syntax.specs.declared.act.Place.{Place}
use Rattle.ham_frame.specs.declared.frame.Frame.{Frame}
use Rattle.ham_frame.specs.Spelling.{Fits, AllFit}
use Rattle.ham_turns.specs.declared.turn.Issued.{Issued}
use Rattle.ham_turns.specs.declared.turn.Delivered.{Delivered}
use Rattle.ham_turns.specs.declared.turn.IssueRefusal.{IssueRefusal}
use Rattle.ham_turns.specs.declared.turn.IssueRefusal.TheVariants as issue
use Rattle.ham_turns.specs.declared.turn.DeliverRefusal.{DeliverRefusal}
use Rattle.ham_turns.specs.declared.turn.DeliverRefusal.TheVariants as deliver
use Rattle.ham_turns.specs.declared.turn.Out.{Out}
use Rattle.ham_turns.specs.declared.turn.What.{What}
use Rattle.ham_turns.specs.declared.turn.What.TheVariants as whats
use Rattle.ham_turns.specs.Settings.{Rules, Setting, rules_of, setting_of}
use Rattle.ham_turns.specs.Words.{ReplicaWords, Intake, ActComes, FrameComes, Beat, numbered, in_lane}
use Rattle.ham_turns.specs.Work.{made_of, own_work}
use Rattle.ham_turns.specs.Ready.{LogsReady, IsSettled}
use Rattle.ham_turns.specs.Refusals.{issue_refusal, deliver_refusal}
use Rattle.ham_site.specs.Sites.{Site}
use Rattle.ham_site.specs.Outs.{IsSendable, AreSendable}
use Rattle.ham_replica.specs.Values.{Replica, words}
use Rattle.ham_replica.specs.Turning.{HasTurned, HasDrained, Settles}
use Rattle.ham_replica.proofs.Items.{all_imp}
use Rattle.ham_journal.specs.declared.limits.TheConstants.{MAX_COLLECTED}
use Rattle.ham_journal.specs.declared.entry.Entry.{Entry}
use Rattle.ham_journal.specs.declared.entry.Mark.{Mark}
use Rattle.ham_journal.specs.declared.entry.Mark.TheVariants as marks
use Rattle.ham_journal.specs.declared.input.Input.{Input}
use Rattle.ham_journal.specs.declared.input.Input.TheVariants as inputs
use Rattle.ham_journal.specs.declared.input.Reply.{Reply}
use Rattle.ham_journal.specs.declared.input.Reply.TheVariants as replies
use Rattle.ham_journal.specs.Drains.{drained}
use Rattle.ham_journal.specs.Cores as journal
use Rattle.ham_journal.specs.Cores.{Core, asked_at, lane_counts, recorded, turn, step, box_of, boxed, reply_of, sent_in}
use Rattle.ham_journal.specs.Closed.{IsPlaced}
use Rattle.ham_journal.specs.Replies.{IsFromPeer, FitsReply, MayEnter}
use Rattle.ham_journal.specs.Histories.{core_by, Works}
use Rattle.ham_journal.proofs.Takings.{Takes, issue_takes, quiet_takes, deliver_takes}
use Rattle.ham_journal.proofs.Parts.{beat_leaves}
use Rattle.ham_core.specs.declared.waiting.Waiting.{Waiting}
use Rattle.ham_core.specs.Marks.{mark_of, not_issued_mark, not_issued_reply, not_delivered_mark, not_delivered_reply}
use Rattle.ham_core.specs.Waits.{shown, shown_in, put, Grows, AreSound, IsKnown}
use Rattle.ham_core.specs.Kept.{Does, Makes, core_in, boxes_of, AreSoundIn}
use Rattle.ham_core.proofs.Steps.{settles, drain_length, logs_decided, turn_works, turn_length, no_memory_works, not_issued, not_delivered, quiet, as_entry}
use Rattle.ham_core.proofs.Known.{after_made, turn_decided, grows, sent_known}
use Rattle.ham_core.proofs.Puts.{all_stay, all_same, puts, taken_shown, dropped_shown, dropped_sound, taken_fit}

-- no frames are told
abbrev pub IsPlain : Reply → Type 0
IsPlain reply = (frames : List Frame) → reply ≢ replies.Collected frames

plain_fits : (reply : Reply) → IsPlain reply → FitsReply reply
plain_fits reply p frames e = absurd (p frames e)

-- ---- settling

-- the calls that were logged, whether or not it came to its end
pub drain_of : (old new : Replica) (r : Result (List Place) NoMemory) → Settles old new r
    → (calls : List Call) × LogsReady (rules_of old.site.object) (setting_of old.site.plan) (words old.lists) calls (words new.lists)
drain_of old new (Ok places) h = (h.calls, h.drain)
drain_of old new (Err e) h = (h.1.calls, h.1.drain)

pub drain_ends : (old new : Replica) (r : Result (List Place) NoMemory) → Settles old new r → IsTrue (is_ok r) → IsSettled (setting_of old.site.plan) (words new.lists)
drain_ends old new (Ok places) h t = h.settled.0 t
drain_ends old new (Err e) h t = absurd (cc)

-- ---- turns

pub log_grows : (old new : Replica) (took : Intake) (what : What) (places : List Place) (out : List Out) (done : Bool) → HasTurned old new took what places out done
    → length old.lists.log ≤ length new.lists.log
log_grows old new took what places out done h =
    let l = turn_length (rules_of old.site.object) (setting_of old.site.plan) old.site.me (words old.lists) (words new.lists) took what places out done h.turn in
    omega (arith, l)

turn_does : (old new : Replica) (held held' : List (List Waiting)) (input : Input) (took : Intake) (what : What) (places : List Place) (out : List Out) (done : Bool) (n : ℕ)
    → IsSettled (setting_of old.site.plan) (words old.lists) → IsPlaced (words old.lists) → AreSoundIn old held
    → Takes (rules_of old.site.object) (setting_of old.site.plan) old.site.me (words old.lists) took
    → step (rules_of old.site.object) (setting_of old.site.plan) old.site.me (core_in old held false) input n ≡ turn (rules_of old.site.object) (setting_of old.site.plan) old.site.me (core_in old held false) took n
    → HasTurned old new took what places out done → new.site ≡ old.site → n ≡ length new.lists.log - length old.lists.log → held' ≡ fold put held out
    → IsPlain (reply_of what places (length out))
    → Does old new held held' false input n (mark_of done) (reply_of what places (length out))
turn_does old new held held' input took what places out done n ready placed sound takes same h site count b plain =
    record {
      works = subst (λ (boxes : List (List Frame)). Works x y me (core_in old held false) (core_by (words new.lists) boxes false) input n (mark_of done) (reply_of what places (length out))) (sym boxes)
          (turn_works x y me (words old.lists) (words new.lists) (boxes_of old held) input took what places out done n ready same h.turn count);
      site = site;
      sound = subst (AreSound d') (sym b) put_well.1;
      fits = plain_fits (reply_of what places (length out)) plain;
    }
  where
    x : Rules
    x = rules_of old.site.object

    y : Setting
    y = setting_of old.site.plan

    me : ℕ
    me = old.site.me

    d : ℕ → List Call
    d = (words old.lists).decided

    d' : ℕ → List Call
    d' = (words new.lists).decided

    decided : d' ≡ after_made d (made_of x y (words old.lists) me took)
    decided = turn_decided x y me (words old.lists) (words new.lists) took h.turn.calls h.turn.drain

    more : Grows d d'
    more = subst (Grows d) (sym decided) (grows d (made_of x y (words old.lists) me took))

    known : AllByRecursion (λ o. IsKnown d' o.frame) out
    known = subst (λ (o : List Out). AllByRecursion (λ z. IsKnown d' z.frame) o) (sym h.turn.sent)
        (subst (λ (e : ℕ → List Call). AllByRecursion (λ z. IsKnown e z.frame) (sent_in x y me (words old.lists) took (words new.lists).log)) (sym decided)
        (sent_known x y me (words old.lists) took (words new.lists).log takes placed))

    fit : AllByRecursion (λ o. Fits o.frame) out
    fit = all_imp (IsSendable y me) (λ o. Fits o.frame) out (λ o s. s.fits) h.sends.each

    put_well : (shown_in d' (fold put held out) ≡ fold boxed (shown_in d' held) out) × AreSound d' (fold put held out)
    put_well = puts d' held out (all_stay d d' held more sound) known fit

    boxes : boxes_of new held' ≡ fold boxed (boxes_of old held) out
    boxes = ap (shown_in d') b ∙ put_well.0 ∙ ap (λ (l : List (List Frame)). fold boxed l out) (all_same d d' held more sound)

pub issue_does : (old new : Replica) (held held' : List (List Waiting)) (a : Act) (answer : Issued) (places : List Place) (out : List Out) (done : Bool) (n : ℕ)
    → IsSettled (setting_of old.site.plan) (words old.lists) → IsPlaced (words old.lists) → AreSoundIn old held
    → issue_refusal (rules_of old.site.object) (setting_of old.site.plan) (words old.lists) old.site.me a ≡ None
    → HasTurned old new (ActComes a) (whats.Issued answer) places out done → new.site ≡ old.site → n ≡ length new.lists.log - length old.lists.log → held' ≡ fold put held out
    → Does old new held held' false (inputs.Issue a) n (mark_of done) (replies.Issued answer places)
issue_does old new held held' a answer places out done n ready placed sound allowed h site count b =
    turn_does old new held held' (inputs.Issue a) (ActComes a) (whats.Issued answer) places out done n ready placed sound
    (issue_takes (rules_of old.site.object) (setting_of old.site.plan) old.site.me (words old.lists) a)
    (ap (journal.issued (rules_of old.site.object) (setting_of old.site.plan) old.site.me (core_in old held false) a n) allowed) h site count b (λ frames q. cc)

pub deliver_does : (old new : Replica) (held held' : List (List Waiting)) (from : ℕ) (f : Frame) (answer : Delivered) (places : List Place) (out : List Out) (done : Bool) (n : ℕ)
    → IsSettled (setting_of old.site.plan) (words old.lists) → IsPlaced (words old.lists) → AreSoundIn old held → from ≢ old.site.me
    → deliver_refusal (rules_of old.site.object) (setting_of old.site.plan) (words old.lists) old.site.me from f ≡ None
    → HasTurned old new (FrameComes from 0 f) (whats.Delivered answer) places out done → new.site ≡ old.site → n ≡ length new.lists.log - length old.lists.log → held' ≡ fold put held out
    → Does old new held held' false (inputs.Deliver from f) n (mark_of done) (replies.Delivered answer places)
deliver_does old new held held' from f answer places out done n ready placed sound other allowed h site count b =
    turn_does old new held held' (inputs.Deliver from f) (FrameComes from 0 f) (whats.Delivered answer) places out done n ready placed sound
    (deliver_takes (rules_of old.site.object) (setting_of old.site.plan) old.site.me (words old.lists) from f other allowed)
    (ap (journal.delivered (rules_of old.site.object) (setting_of old.site.plan) old.site.me (core_in old held false) from f n) allowed) h site count b (λ frames q. cc)

-- a tick logs nothing
pub tick_does : (old : Replica) (held held' : List (List Waiting)) (places : List Place) (out : List Out) (done : Bool) (sent : ℕ)
    → IsSettled (setting_of old.site.plan) (words old.lists) → IsPlaced (words old.lists) → AreSoundIn old held
    → HasTurned old old Beat whats.Ticked places out done → held' ≡ fold put held out → sent ≡ length out
    → Does old old held held' false inputs.Tick 0 (mark_of done) (replies.Ticked sent)
tick_does old held held' places out done sent ready placed sound h b s =
    subst (λ (k : ℕ). Does old old held held' false inputs.Tick 0 (mark_of done) (replies.Ticked k)) (sym s)
    (turn_does old old held held' inputs.Tick Beat whats.Ticked places out done 0 ready placed sound
    (quiet_takes (rules_of old.site.object) (setting_of old.site.plan) old.site.me (words old.lists) Beat refl refl) refl h refl (omega arith) b (λ frames q. cc))

-- ---- refusals, and want of memory

pub nothing_done : (old : Replica) (held : List (List Waiting)) (input : Input) → AreSoundIn old held → Does old old held held false input 0 marks.NoMemory replies.NoMemory
nothing_done old held input sound = record {
  works = no_memory_works (rules_of old.site.object) (setting_of old.site.plan) old.site.me (core_in old held false) input;
  site = refl;
  sound = sound;
  fits = λ frames q. absurd (cc);
}

issue_plain : (why : IssueRefusal) → IsPlain (not_issued_reply why)
issue_plain issue.NoMemory frames q = cc
issue_plain issue.UnknownMethod frames q = cc
issue_plain issue.BadArgs frames q = cc
issue_plain issue.LaneFull frames q = cc
issue_plain issue.RequestsFull frames q = cc

deliver_plain : (why : DeliverRefusal) → IsPlain (not_delivered_reply why)
deliver_plain deliver.NoMemory frames q = cc
deliver_plain deliver.NotYours frames q = cc
deliver_plain deliver.BadMethod frames q = cc
deliver_plain deliver.BadArgs frames q = cc
deliver_plain deliver.BadDeps frames q = cc
deliver_plain (deliver.AckBeyond len) frames q = cc
deliver_plain (deliver.Differs kept) frames q = cc
deliver_plain (deliver.UnknownRequest len) frames q = cc
deliver_plain deliver.HelloTwice frames q = cc

pub issue_refused : (old new : Replica) (held : List (List Waiting)) (a : Act) (why : IssueRefusal) → IsSettled (setting_of old.site.plan) (words old.lists) → AreSoundIn old held
    → (new ≡ old) × ((why ≡ issue.NoMemory) ⊎ (issue_refusal (rules_of old.site.object) (setting_of old.site.plan) (words old.lists) old.site.me a ≡ Some why))
    → Does old new held held false (inputs.Issue a) 0 (not_issued_mark why) (not_issued_reply why)
issue_refused old new held a why ready sound h =
    subst (λ (r : Replica). Does old r held held false (inputs.Issue a) 0 (not_issued_mark why) (not_issued_reply why)) (sym h.0)
    (record {
      works = not_issued (rules_of old.site.object) (setting_of old.site.plan) old.site.me (words old.lists) (boxes_of old held) a why ready h.1;
      site = refl;
      sound = sound;
      fits = plain_fits (not_issued_reply why) (issue_plain why);
    })

pub deliver_refused : (old new : Replica) (held : List (List Waiting)) (from : ℕ) (f : Frame) (why : DeliverRefusal) → IsSettled (setting_of old.site.plan) (words old.lists) → AreSoundIn old held
    → (new ≡ old) × ((why ≡ deliver.NoMemory) ⊎ (deliver_refusal (rules_of old.site.object) (setting_of old.site.plan) (words old.lists) old.site.me from f ≡ Some why))
    → Does old new held held false (inputs.Deliver from f) 0 (not_delivered_mark why) (not_delivered_reply why)
deliver_refused old new held from f why ready sound h =
    subst (λ (r : Replica). Does old r held held false (inputs.Deliver from f) 0 (not_delivered_mark why) (not_delivered_reply why)) (sym h.0)
    (record {
      works = not_delivered (rules_of old.site.object) (setting_of old.site.plan) old.site.me (words old.lists) (boxes_of old held) from f why ready h.1;
      site = refl;
      sound = sound;
      fits = plain_fits (not_delivered_reply why) (deliver_plain why);
    })

-- ---- looks

asked_same : (made : List Ask) (n : ℕ) → asked_by (numbered_ask made n) ≡ asked_at (numbered (map (λ a. a.act) made) n) (verdict_on (numbered made n))
asked_same made zero = refl
asked_same [] (suc n) = refl
asked_same (a ∷ made) (suc zero) = refl
asked_same (a ∷ made) (suc (suc n)) = asked_same made (suc n)

counted_up_to : (counts : List ℕ) (log : List Place) (n : ℕ) → n ≤ length counts → ((l : ℕ) → get_or counts l 0 ≡ count_by (in_lane l) log) → lane_counts log n ≡ take n counts
counted_up_to counts log zero le each = refl
counted_up_to counts log (suc n) le each =
    ap (λ (l : List ℕ). l ++ count_by (in_lane n) log ∷ []) (counted_up_to counts log n (omega arith) each)
    ∙ ap (λ (k : ℕ). take n counts ++ k ∷ []) (sym (each n)) ∙ sym (one_taken counts n (omega arith))
  where
    one_taken : (counts : List ℕ) (n : ℕ) → n < length counts → take (suc n) counts ≡ take n counts ++ get_or counts n 0 ∷ []
    one_taken [] n lt = absurd (omega arith)
    one_taken (c ∷ counts) zero lt = refl
    one_taken (c ∷ counts) (suc n) lt = ap (λ (l : List ℕ). c ∷ l) (one_taken counts n (omega arith))

lanes_counted : (counts : List ℕ) (log : List Place) (n : ℕ) → length counts ≡ n → ((l : ℕ) → get_or counts l 0 ≡ count_by (in_lane l) log) → lane_counts log n ≡ counts
lanes_counted counts log n many each = counted_up_to counts log n (omega (arith, many)) each ∙ take_all n counts (omega (arith, many))

pub look_does : (old : Replica) (held : List (List Waiting)) (input : Input) (reply : Reply) → IsSettled (setting_of old.site.plan) (words old.lists) → AreSoundIn old held
    → step (rules_of old.site.object) (setting_of old.site.plan) old.site.me (core_in old held false) input 0 ≡ Some (record { core = core_in old held false; reply = reply })
    → IsPlain reply → Does old old held held false input 0 marks.Done reply
look_does old held input reply ready sound e plain = record {
  works = quiet (rules_of old.site.object) (setting_of old.site.plan) old.site.me (words old.lists) (boxes_of old held) (boxes_of old held) false input reply ready e;
  site = refl;
  sound = sound;
  fits = plain_fits reply plain;
}

looks : (old : Replica) (held : List (List Waiting)) (stopped : Bool) (input asked : Input) (reply : Reply) → IsSettled (setting_of old.site.plan) (words old.lists) → AreSoundIn old held
    → stopped ≡ false → input ≡ asked
    → step (rules_of old.site.object) (setting_of old.site.plan) old.site.me (core_in old held false) asked 0 ≡ Some (record { core = core_in old held false; reply = reply })
    → IsPlain reply → Does old old held held stopped input 0 marks.Done reply
looks old held stopped input asked reply ready sound s i e plain =
    subst (λ (b : Bool). Does old old held held b input 0 marks.Done reply) (sym s)
    (subst (λ (z : Input). Does old old held held false z 0 marks.Done reply) (sym i) (look_does old held asked reply ready sound e plain))

pub show_does : (old : Replica) (held : List (List Waiting)) (stopped : Bool) (input : Input) (counter key : ℕ) (v : ℤ) → IsSettled (setting_of old.site.plan) (words old.lists) → AreSoundIn old held
    → stopped ≡ false → input ≡ inputs.Show counter key → v ≡ value old.lists.state counter key → Does old old held held stopped input 0 marks.Done (replies.Value v)
show_does old held stopped input counter key v ready sound s i e =
    looks old held stopped input (inputs.Show counter key) (replies.Value v) ready sound s i (ap (λ (z : ℤ). Some (record { core = core_in old held false; reply = replies.Value z })) (sym e)) (λ frames q. cc)

pub rows_does : (old : Replica) (held : List (List Waiting)) (stopped : Bool) (input : Input) (relation : ℕ) (list : List (List ℕ)) → IsSettled (setting_of old.site.plan) (words old.lists) → AreSoundIn old held
    → stopped ≡ false → input ≡ inputs.Rows relation → list ≡ rows old.lists.state relation → Does old old held held stopped input 0 marks.Done (replies.Rows list)
rows_does old held stopped input relation list ready sound s i e =
    looks old held stopped input (inputs.Rows relation) (replies.Rows list) ready sound s i (ap (λ (z : List (List ℕ)). Some (record { core = core_in old held false; reply = replies.Rows z })) (sym e)) (λ frames q. cc)

pub verdict_does : (old : Replica) (held : List (List Waiting)) (stopped : Bool) (input : Input) (group number : ℕ) (a : Asked) → IsSettled (setting_of old.site.plan) (words old.lists) → AreSoundIn old held
    → stopped ≡ false → input ≡ inputs.Verdict group number → a ≡ asked_of old.lists.asks group number → Does old old held held stopped input 0 marks.Done (replies.Asked a)
verdict_does old held stopped input group number a ready sound s i e =
    looks old held stopped input (inputs.Verdict group number) (replies.Asked a) ready sound s i
    (ap (λ (z : Asked). Some (record { core = core_in old held false; reply = replies.Asked z })) (sym (e ∙ asked_same (get_or old.lists.asks group []) number))) (λ frames q. cc)

pub log_does : (old : Replica) (held : List (List Waiting)) (stopped : Bool) (input : Input) (log : List Place) → IsSettled (setting_of old.site.plan) (words old.lists) → AreSoundIn old held
    → stopped ≡ false → input ≡ inputs.Log → log ≡ old.lists.log → Does old old held held stopped input 0 marks.Done (replies.Log log)
log_does old held stopped input log ready sound s i e =
    looks old held stopped input inputs.Log (replies.Log log) ready sound s i (ap (λ (z : List Place). Some (record { core = core_in old held false; reply = replies.Log z })) (sym e)) (λ frames q. cc)

pub counts_do : (old : Replica) (held : List (List Waiting)) (stopped : Bool) (input : Input) (counts : List ℕ) → IsSettled (setting_of old.site.plan) (words old.lists) → AreSoundIn old held
    → stopped ≡ false → input ≡ inputs.Counts → length counts ≡ (setting_of old.site.plan).lanes → ((l : ℕ) → get_or counts l 0 ≡ count_by (in_lane l) old.lists.log)
    → Does old old held held stopped input 0 marks.Done (replies.Counts counts)
counts_do old held stopped input counts ready sound s i many each =
    looks old held stopped input inputs.Counts (replies.Counts counts) ready sound s i
    (ap (λ (z : List ℕ). Some (record { core = core_in old held false; reply = replies.Counts z })) (lanes_counted counts old.lists.log (setting_of old.site.plan).lanes many each)) (λ frames q. cc)

pub record_does : (old : Replica) (held : List (List Waiting)) (stopped : Bool) (input : Input) (calls : List Call) → IsSettled (setting_of old.site.plan) (words old.lists) → AreSoundIn old held
    → stopped ≡ false → input ≡ inputs.Record → calls ≡ recorded (words old.lists) → Does old old held held stopped input 0 marks.Done (replies.Recorded calls)
record_does old held stopped input calls ready sound s i e =
    looks old held stopped input inputs.Record (replies.Recorded calls) ready sound s i (ap (λ (z : List Call). Some (record { core = core_in old held false; reply = replies.Recorded z })) (sym e)) (λ frames q. cc)

pub stop_does : (old : Replica) (held : List (List Waiting)) (stopped : Bool) (input : Input) → IsSettled (setting_of old.site.plan) (words old.lists) → AreSoundIn old held
    → stopped ≡ true → input ≡ inputs.Stop → Does old old held held stopped input 0 marks.Done replies.Stopping
stop_does old held stopped input ready sound s i =
    subst (λ (b : Bool). Does old old held held b input 0 marks.Done replies.Stopping) (sym s)
    (subst (λ (z : Input). Does old old held held true z 0 marks.Done replies.Stopping) (sym i)
    (record {
      works = quiet (rules_of old.site.object) (setting_of old.site.plan) old.site.me (words old.lists) (boxes_of old held) (boxes_of old held) true inputs.Stop replies.Stopping ready refl;
      site = refl;
      sound = sound;
      fits = λ frames q. absurd (cc);
    }))

pub collect_does : (old : Replica) (held held' : List (List Waiting)) (peer : ℕ) (fs : List Frame) → IsSettled (setting_of old.site.plan) (words old.lists) → AreSoundIn old held
    → fs ≡ map (shown (words old.lists).decided) (take MAX_COLLECTED (box_of held peer)) → held' ≡ set held (peer - 1) (drop MAX_COLLECTED (box_of held peer))
    → Does old old held held' false (inputs.Collect peer) 0 marks.Done (replies.Collected fs)
collect_does old held held' peer fs ready sound f b = record {
  works = quiet (rules_of old.site.object) (setting_of old.site.plan) old.site.me (words old.lists) (boxes_of old held) (boxes_of old held') false (inputs.Collect peer) (replies.Collected fs) ready
      (ap (λ (boxes : List (List Frame)). Some (record { core = core_by (words old.lists) boxes false; reply = replies.Collected (take MAX_COLLECTED (box_of (boxes_of old held) peer)) })) (sym (ap (shown_in d) b ∙ dropped_shown d held peer MAX_COLLECTED))
      ∙ ap (λ (l : List Frame). Some (record { core = core_in old held' false; reply = replies.Collected l })) (sym (f ∙ taken_shown d held peer MAX_COLLECTED)));
  site = refl;
  sound = subst (AreSound d) (sym b) (dropped_sound d held peer MAX_COLLECTED sound);
  fits = λ frames q. subst AllFit (f_same frames q) (taken_fit d held peer MAX_COLLECTED sound);
}
  where
    d : ℕ → List Call
    d = (words old.lists).decided

    frames_in : Reply → List Frame
    frames_in (replies.Collected l) = l
    frames_in (replies.Ticked n) = []
    frames_in (replies.Issued i logged) = []
    frames_in (replies.NotIssued why) = []
    frames_in (replies.Delivered e logged) = []
    frames_in (replies.NotDelivered why) = []
    frames_in (replies.Value v) = []
    frames_in (replies.Rows rows) = []
    frames_in (replies.Asked a) = []
    frames_in (replies.Log log) = []
    frames_in (replies.Counts counts) = []
    frames_in (replies.Recorded calls) = []
    frames_in replies.Stopping = []
    frames_in replies.Stopped = []
    frames_in replies.Full = []
    frames_in replies.NoMemory = []

    f_same : (frames : List Frame) → replies.Collected fs ≡ replies.Collected frames → map (shown d) (take MAX_COLLECTED (box_of held peer)) ≡ frames
    f_same frames q = sym f ∙ ap frames_in q

-- ---- entries

-- what settling leaves as it was
pub placed_by : (old first : Replica) → (words first.lists).decided ≡ (words old.lists).decided → IsPlaced (words old.lists) → IsPlaced (words first.lists)
placed_by old first same h l n c e = h l n c (ap (λ (d : ℕ → List Call). numbered (d l) n) (sym same) ∙ e)

pub sound_by : (old first : Replica) (held : List (List Waiting)) → (words first.lists).decided ≡ (words old.lists).decided → AreSoundIn old held → AreSoundIn first held
sound_by old first held same h = subst (λ (d : ℕ → List Call). AreSound d held) (sym same) h

pub enter_by : (old first : Replica) (input : Input) → first.site ≡ old.site → MayEnter (setting_of old.site.plan) old.site.me input → MayEnter (setting_of first.site.plan) first.site.me input
enter_by old first input same h = subst (λ (s : Site). MayEnter (setting_of s.plan) s.me input) (sym same) h

-- what the work on a settled core is, told as an entry
pub makes : (old first new : Replica) (held held' : List (List Waiting)) (stopped : Bool) (seat before : ℕ) (input : Input) (n : ℕ) (mark : Mark) (reply : Reply)
    → drained (rules_of old.site.object) (setting_of old.site.plan) before (words old.lists) ≡ Some (words first.lists) → (words first.lists).decided ≡ (words old.lists).decided → first.site ≡ old.site
    → Does first new held held' stopped input n mark reply
    → Makes old new held held' stopped seat input (record { seat = seat; input = input; before = before; logged = n; mark = mark }) reply
makes old first new held held' stopped seat before input n mark reply d same site does = record {
  tells = as_entry (rules_of old.site.object) (setting_of old.site.plan) old.site.me (words old.lists) (words first.lists) (boxes_of old held) (core_in new held' stopped) seat before input n mark reply d works;
  site = does.site ∙ site;
  sound = does.sound;
  fits = does.fits;
  seat_is = refl;
  input_is = refl;
}
  where
    at_site : Works (rules_of old.site.object) (setting_of old.site.plan) old.site.me (core_in first held false) (core_in new held' stopped) input n mark reply
    at_site = subst (λ (s : Site). Works (rules_of s.object) (setting_of s.plan) s.me (core_in first held false) (core_in new held' stopped) input n mark reply) site does.works

    works : Works (rules_of old.site.object) (setting_of old.site.plan) old.site.me (core_by (words first.lists) (boxes_of old held) false) (core_in new held' stopped) input n mark reply
    works = subst (λ (e : ℕ → List Call). Works (rules_of old.site.object) (setting_of old.site.plan) old.site.me (core_by (words first.lists) (shown_in e held) false) (core_in new held' stopped) input n mark reply) same at_site

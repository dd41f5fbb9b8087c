-- A turn of a replica, with its frames on the links and its note kept, leaves all parts in agreement with the longer run.
use Rattle.std.proofs.Common.{◌≡◌, ◌≢◌, ℕ, ◌+◌, ◌-◌, ◌*◌, ◌<◌, ◌≤◌, List, [], ◌∷◌, ◌++◌, Bool, true, false, cond, Option, Some, length, map, reverse, set, refl, sym, ap, ◌∙◌, arith, subst, ◌⊎◌, inl, inr, ◌==◌}
use Rattle.std.specs.Prelude.{slice_get}
use Rattle.std.specs.List.{AllByRecursion}
use Rattle.std.proofs.lemmas.Bool.{cases_eq}
use Rattle.std.proofs.lemmas.List.{map_push, reverse-append, length_push}
use Rattle.std.proofs.lemmas.Option.{slice_get_within, same_Some}
use Rattle.ham_syntax.specs.declared.act.Act.{Act}
use Rattle.ham_syntax.specs.declared.act.Place.{Place}
use Rattle.ham_syntax.specs.declared.limits.TheConstants.{MAX_REPLICAS}
use Rattle.ham_syntax.specs.Objects.{Schema}
use Rattle.ham_plan.specs.Plans.{Plan}
use Rattle.ham_laws.specs.Constrained.{IsPlanned}
use Rattle.ham_frame.specs.declared.frame.Frame.{Frame}
use Rattle.ham_frame.specs.Spelling.{Fits, AllFit, spelling}
use Rattle.ham_frame.specs.Decoding.{Fed}
use Rattle.ham_turns.specs.declared.turn.IssueRefusal.{IssueRefusal}
use Rattle.ham_turns.specs.declared.turn.DeliverRefusal.{DeliverRefusal}
use Rattle.ham_turns.specs.declared.turn.Out.{Out}
use Rattle.ham_turns.specs.declared.turn.What.{What}
use Rattle.ham_turns.specs.Settings.{Setting, rules_of, setting_of, IsReplica}
use Rattle.ham_turns.specs.Words.{Intake}
use Rattle.ham_turns.specs.Refusals.{issue_refusal, deliver_refusal}
use Rattle.ham_turns.specs.Ready.{IsSettled}
use Rattle.ham_turns.specs.Turns.{IsTurnOf}
use Rattle.ham_site.specs.Outs.{IsSendable, AreSendable, most_frames}
use Rattle.ham_replica.specs.Values.{Replica, words}
use Rattle.ham_replica.specs.Turning.{HasTurned}
use Rattle.ham_runs.specs.Runs.{Note, MayTake, words_of, on_link, addressed}
use Rattle.ham_runs.specs.Next.{input_of, after_input}
use Rattle.ham_world.specs.declared.note.Note.{Note as Told}
use Rattle.ham_world.specs.Worlds.{shown, took_of}
use Rattle.ham_world.specs.Sending.{AreLinks, sent_more, Sends, IsOnLink}
use Rattle.ham_world.specs.Keeping.{notes_of, Goes, Keeps, IsKept, IsAt, HasReplica, AreIdle, TurnsAt, IsSettledAt, refuses_issue, refuses_delivery}
use Rattle.ham_world.proofs.Each.{each-append}
use Rattle.ham_world.proofs.Noted.{RunLaws, Noted, noted, kept_more, runs}
use Rattle.ham_world.proofs.Sent.{slice_get-set_same, slice_get-set_other}

-- ---- the replica that had the turn

pub is_at : (o : Schema) (p : Plan) (notes : List Note) (vs : List Replica) (r : ℕ) (v : Replica) → HasReplica o p notes vs r → slice_get vs (r - 1) ≡ Some v → IsAt o p notes r v
is_at o p notes vs r v has there =
    let F : Replica → Type 0 = λ u. IsAt o p notes r u in
    subst F (same_Some has.value v (sym has.there ∙ there)) has.is

pub record TurnAt (o : Schema) (p : Plan) (r : ℕ) (before after : Replica) (took : Intake) (what : What) (logged : List Place) (outs : List Out) (settled : Bool) : Type 0 where
  pub turn : IsTurnOf (rules_of o) (setting_of p) r (words before.lists) (words after.lists) took what logged outs settled
  pub sends : AreSendable (setting_of p) r outs
  pub object : after.site.object ≡ o
  pub plan : after.site.plan ≡ p
  pub me : after.site.me ≡ r

pub turn_at : (o : Schema) (p : Plan) (notes : List Note) (r : ℕ) (before after : Replica) (took : Intake) (what : What) (logged : List Place) (outs : List Out) (settled : Bool) →
    IsAt o p notes r before → after.site ≡ before.site → HasTurned before after took what logged outs settled → TurnAt o p r before after took what logged outs settled
turn_at o p notes r before after took what logged outs settled is site t = record {
  turn = rw (is.object, is.plan, is.me) at t.turn;
  sends = rw (is.plan, is.me) at t.sends;
  object = ap (λ s. s.object) site ∙ is.object;
  plan = ap (λ s. s.plan) site ∙ is.plan;
  me = ap (λ s. s.me) site ∙ is.me;
}

next_replica : (o : Schema) (p : Plan) (notes : List Note) (vs : List Replica) (r q : ℕ) (before after : Replica) (took : Intake) (what : What) (logged : List Place) (outs : List Out) →
    (n : Noted o p notes r took what logged outs (words after.lists)) → TurnAt o p r before after took what logged outs true →
    IsReplica (setting_of p) r → IsReplica (setting_of p) q → HasReplica o p notes vs r → HasReplica o p notes vs q → (q ≡ r) ⊎ (q ≡ r → ⊥) →
    HasReplica o p (n.note ∷ notes) (set vs (r - 1) after) q
next_replica o p notes vs r q before after took what logged outs n t rr rq hr hq (inl e) =
    let F : ℕ → Type 0 = λ s. HasReplica o p (n.note ∷ notes) (set vs (r - 1) after) s in
    subst F (sym e) (record {
      value = after;
      there = slice_get-set_same vs (r - 1) after (slice_get_within vs (r - 1) hr.value hr.there);
      is = record { object = t.object; plan = t.plan; me = t.me; said = n.own; settled = t.turn.settled.0 refl };
    })
next_replica o p notes vs r q before after took what logged outs n t rr rq hr hq (inr e) = record {
  value = hq.value;
  there = slice_get-set_other vs (r - 1) (q - 1) after (λ s. e (omega (arith, rr.0, rq.0, s))) ∙ hq.there;
  is = record { object = hq.is.object; plan = hq.is.plan; me = hq.is.me; said = hq.is.said ∙ n.others q e; settled = hq.is.settled };
}

-- ---- links

addressed_fit : (y : Setting) (me to : ℕ) (outs : List Out) → AllByRecursion (IsSendable y me) outs → AllFit (addressed to outs)
addressed_fit y me to [] all = tt
addressed_fit y me to (o ∷ outs) all =
    elim (o.to == to) as (λ t. AllFit (cond t (o.frame ∷ addressed to outs) (addressed to outs)))
    [ true ↦ (all.0.fits, addressed_fit y me to outs all.1) | false ↦ addressed_fit y me to outs all.1 ]

fit_more : (t : Bool) (xs ys : List Frame) → AllFit xs → AllFit ys → AllFit (cond t (xs ++ ys) xs)
fit_more true xs ys a b = each-append Fits xs ys a b
fit_more false xs ys a b = a

on_links : (y : Setting) (me : ℕ) (outs : List Out) → y.replicas ≤ MAX_REPLICAS → AllByRecursion (IsSendable y me) outs → AllByRecursion IsOnLink outs
on_links y me [] few all = tt
on_links y me (o ∷ outs) few all =
    let s : IsSendable y me o = all.0 in
    (record { fit = s.fits; some = s.to.0; few = omega (arith, s.to.1) }, on_links y me outs few all.1)

reverse-more : {X : Type 0} (n : X) (ns : List X) → reverse (n ∷ ns) ≡ reverse ns ++ n ∷ []
reverse-more n ns = reverse-append (n ∷ []) ns

-- ---- all parts

pub goes : RunLaws → (o : Schema) (p : Plan) (vs vs' : List Replica) (links links' : List (List (List ℕ))) (ds : List Fed) (kept : List Told) (sent sent' : ℕ) →
    IsKept o p kept → Keeps o p vs links ds kept sent →
    (r : ℕ) (took : Intake) (what : What) (logged : List Place) (outs : List Out) → IsReplica (setting_of p) r → MayTake (rules_of o) (setting_of p) (notes_of o p kept) r took →
    TurnsAt vs vs' r took what logged outs true → Sends links links' r outs → sent' ≡ sent + length outs →
    (s : Told) → s ≡ record { replica = r; took = took_of took; what = what; logged = logged; sent = length outs } →
    Goes o p vs' links' ds kept (kept ++ s ∷ []) sent' r took
goes laws o p vs vs' links links' ds kept sent sent' is keeps r took what logged outs rep may t sends total s s_is =
    let notes : List Note = notes_of o p kept in
    let run = runs laws.computed o p is.sound kept in
    let here : HasReplica o p notes vs r = keeps.each r rep in
    let before : IsAt o p notes r t.before = is_at o p notes vs r t.before here t.there in
    let at = turn_at o p notes r t.before t.after took what logged outs true before t.site t.turn in
    let n : Noted o p notes r took what logged outs (words t.after.lists) = noted laws o p is.sound notes run r took what logged outs (words t.before.lists) (words t.after.lists) rep may before.said at.turn in
    let same : s ≡ shown n.note = s_is ∙ sym n.shown_is in
    let more = kept_more laws o p is.sound kept r took what logged outs (words t.after.lists) rep may n in
    let e : notes_of o p (kept ++ s ∷ []) ≡ n.note ∷ notes = ap (λ x. notes_of o p (kept ++ x ∷ [])) same ∙ more.notes in
    let i : notes_of o p (kept ++ s ∷ []) ≡ after_input (rules_of o) (setting_of p) notes (input_of r took) = ap (λ x. notes_of o p (kept ++ x ∷ [])) same ∙ more.run in
    let linked = sends (on_link notes) keeps.linked in
    record {
      keeps = record {
        each = λ q. λ rq. rw (e, t.replaced) (next_replica o p notes vs r q t.before t.after took what logged outs n at rep rq here (keeps.each q rq) (cases_eq q r));
        linked = λ from. λ to. λ a. λ b. λ c. λ d. rw (e, n.at_is, n.sent_is) (linked from to a b c d);
        fit = λ from. λ to. rw (e, n.at_is, n.sent_is) (fit_more (r == from) (on_link notes from to) (addressed to outs) (keeps.fit from to) (addressed_fit (setting_of p) r to outs at.sends.each));
        idle = keeps.idle;
        total = rw (e, n.sent_is) (total ∙ ap (λ m. m + length outs) keeps.total);
      };
      kept_is = record {
        sound = is.sound;
        shown_are = rw (e, reverse-more n.note notes, map_push shown (reverse notes) n.note, ← same) (ap (λ x. x ++ s ∷ []) is.shown_are);
      };
      run = i;
      one = length_push kept s;
    }

-- ---- what the calls of a turn ask

pub settled_at : (o : Schema) (p : Plan) (notes : List Note) (vs : List Replica) (r : ℕ) → HasReplica o p notes vs r → IsSettledAt vs r
settled_at o p notes vs r has v there =
    let is : IsAt o p notes r v = is_at o p notes vs r v has there in
    rw is.plan is.settled

pub within : (o : Schema) (p : Plan) (notes : List Note) (xs : List Replica) (r : ℕ) → IsReplica (setting_of p) r → HasReplica o p notes xs r → r ≤ length xs
within o p notes xs r rep has =
    let lt : r - 1 < length xs = slice_get_within xs (r - 1) has.value has.there in
    omega (arith, rep.0)

pub replicas_few : (p : Plan) (o : Schema) → IsPlanned o p → (setting_of p).replicas ≤ MAX_REPLICAS
unfolding setting_of
replicas_few p o sound = sound.plan.few_replicas

pub few_replicas : (o : Schema) (p : Plan) (kept : List Told) (r : ℕ) → IsKept o p kept → IsReplica (setting_of p) r → r ≤ MAX_REPLICAS
few_replicas o p kept r is rep = omega (arith, rep.1, replicas_few p o is.sound)

pub in_range : (o : Schema) (p : Plan) (kept : List Told) (r : ℕ) → IsKept o p kept → IsReplica (setting_of p) r → (1 ≤ r) × (r ≤ MAX_REPLICAS)
in_range o p kept r is rep = (rep.0, few_replicas o p kept r is rep)

pub record CanSend (outs : List Out) : Type 0 where
  pub on : AllByRecursion IsOnLink outs
  pub few : length outs ≤ most_frames

pub sendable : (o : Schema) (p : Plan) (kept : List Told) (notes : List Note) (vs vs' : List Replica) (r : ℕ) (took : Intake) (what : What) (logged : List Place) (outs : List Out) (settled : Bool) →
    IsKept o p kept → HasReplica o p notes vs r → TurnsAt vs vs' r took what logged outs settled → CanSend outs
sendable o p kept notes vs vs' r took what logged outs settled is has t =
    let at = turn_at o p notes r t.before t.after took what logged outs settled (is_at o p notes vs r t.before has t.there) t.site t.turn in
    record { on = on_links (setting_of p) r outs (replicas_few p o is.sound) at.sends.each; few = at.sends.few }

pub links_64 : (links : List (List (List ℕ))) (sent : ℕ → ℕ → List Frame) → AreLinks links sent → MAX_REPLICAS * MAX_REPLICAS ≤ length links
links_64 links sent are =
    let h : 63 < length links = slice_get_within links 63 (map spelling (sent 8 8)) (are 8 8 (omega arith) (omega arith) (omega arith) (omega arith)) in
    omega arith

pub issue_at : (o : Schema) (p : Plan) (notes : List Note) (vs : List Replica) (r : ℕ) (a : Act) (w : Option IssueRefusal) → HasReplica o p notes vs r →
    ((v : Replica) → slice_get vs (r - 1) ≡ Some v → refuses_issue v a ≡ w) → issue_refusal (rules_of o) (setting_of p) (words_of (rules_of o) (setting_of p) notes r) r a ≡ w
issue_at o p notes vs r a w has h =
    let v : Replica = has.value in
    sym (ap (λ ob. issue_refusal (rules_of ob) (setting_of v.site.plan) (words v.lists) v.site.me a) has.is.object
    ∙ (ap (λ pl. issue_refusal (rules_of o) (setting_of pl) (words v.lists) v.site.me a) has.is.plan
    ∙ (ap (λ ws. issue_refusal (rules_of o) (setting_of p) ws v.site.me a) has.is.said
    ∙ ap (λ me. issue_refusal (rules_of o) (setting_of p) (words_of (rules_of o) (setting_of p) notes r) me a) has.is.me)))
    ∙ h v has.there

pub delivery_at : (o : Schema) (p : Plan) (notes : List Note) (vs : List Replica) (r from : ℕ) (f : Frame) (w : Option DeliverRefusal) → HasReplica o p notes vs r →
    ((v : Replica) → slice_get vs (r - 1) ≡ Some v → refuses_delivery v from f ≡ w) → deliver_refusal (rules_of o) (setting_of p) (words_of (rules_of o) (setting_of p) notes r) r from f ≡ w
delivery_at o p notes vs r from f w has h =
    let v : Replica = has.value in
    sym (ap (λ ob. deliver_refusal (rules_of ob) (setting_of v.site.plan) (words v.lists) v.site.me from f) has.is.object
    ∙ (ap (λ pl. deliver_refusal (rules_of o) (setting_of pl) (words v.lists) v.site.me from f) has.is.plan
    ∙ (ap (λ ws. deliver_refusal (rules_of o) (setting_of p) ws v.site.me from f) has.is.said
    ∙ ap (λ me. deliver_refusal (rules_of o) (setting_of p) (words_of (rules_of o) (setting_of p) notes r) me from f) has.is.me)))
    ∙ h v has.there

pub from_at : (o : Schema) (p : Plan) (notes : List Note) (vs : List Replica) (r from : ℕ) → HasReplica o p notes vs r → IsReplica (setting_of p) from → from ≢ r →
    (v : Replica) → slice_get vs (r - 1) ≡ Some v → IsReplica (setting_of v.site.plan) from × (from ≢ v.site.me)
from_at o p notes vs r from has rep other v there =
    let is : IsAt o p notes r v = is_at o p notes vs r v has there in
    (rw is.plan rep, rw is.me other)

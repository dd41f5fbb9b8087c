use Rattle.std.proofs.Common.{◌≡◌, ◌++◌, ◌∷◌, [], ℕ, ◌+◌, ◌<◌, length, length-append, length-set, get_or, List, refl, sym, subst, ap, ◌∙◌, arith}
use Rattle.ham_syntax.specs.declared.act.Place.{Place}
use Rattle.ham_site.specs.Sites.{setting_at}
use Rattle.ham_plan.specs.Lists.{In}
use Rattle.ham_records.specs.declared.records.Logged.{Logged}
use Rattle.ham_audit.specs.Lateness.{AreFrontsBelow}
use Rattle.ham_audit.specs.Records.{log_of}
use Rattle.ham_audit.proofs.Choosing.{at_call}
use Rattle.ham_audit.proofs.Indexing.{log_at}
use Rattle.ham_audit.proofs.Looking.{in_at}
use Rattle.ham_audit.proofs.Under.{lane_in}
use Rattle.ham_audit.proofs.Reaching.{method_in, slot_in, highest_next, farthest_next, fronts_next}
use Rattle.ham_audit.proofs.fronts.fronts_of.Goals as goal

is_in : (records : List (List Logged)) (r i : ℕ) (e : Logged) (log : List Logged) → log ≡ log_of records r → i < length log → e ≡ get_or log i e → In e (log_of records r)
is_in records r i e log is h q = subst (λ l. In e l) is (in_at log i e h q)

inside : (records : List (List Logged)) (r i : ℕ) (log : List Logged) → log ≡ log_of records r → i < length log → i < length (log_of records r)
inside records r i log is h = subst (λ (l : List Logged). i < length l) is h

here : (records : List (List Logged)) (r i : ℕ) (e : Logged) (log : List Logged) → log ≡ log_of records r → e ≡ get_or log i e → e ≡ get_or (log_of records r) i e
here records r i e log is q = q ∙ ap (λ (l : List Logged). get_or l i e) is

pub loop-logged-init : goal.loop-logged-init
loop-logged-init c = record {
  log = c.log-log.ensures ∙ log_at c.args.logs.now c.args.replica c.index-logs-replica.result c.requires.replica.0 (let n = c.requires.under.recorded.replicas in let h = c.requires.replica.1 in omega arith) c.index-logs-replica.is;
  lanes = c.in_ok-front.ensures.highest;
  slots = c.in_ok-front.ensures.farthest;
  highest = λ n k. absurd k;
  farthest = record { lane = λ n k. absurd k; far = λ n k. absurd k };
  fronts = λ i e less got own. absurd (omega arith);
  size = ap length c.new-fronts.ensures;
}

pub front_at-requires-clause-lane : goal.front_at-requires-clause-lane
front_at-requires-clause-lane c =
    lane_in c.args.site.now c.args.logs.now c.requires.under c.args.replica c.logged-item.result
    (is_in c.args.logs.now c.args.replica c.loop-logged.logged-index c.logged-item.result c.log-log.result.now c.loop-logged.invariant.log c.loop-logged-test.true c.logged-item.is)

pub front_at-requires-clause-method : goal.front_at-requires-clause-method
front_at-requires-clause-method c =
    method_in c.args.site.now c.args.logs.now c.requires.under c.requires.planned c.args.replica c.logged-item.result
    (is_in c.args.logs.now c.args.replica c.loop-logged.logged-index c.logged-item.result c.log-log.result.now c.loop-logged.invariant.log c.loop-logged-test.true c.logged-item.is)

pub take_in-requires-clause-lane : goal.take_in-requires-clause-lane
take_in-requires-clause-lane c =
    lane_in c.args.site.now c.args.logs.now c.requires.under c.args.replica c.logged-item.result
    (is_in c.args.logs.now c.args.replica c.loop-logged.logged-index c.logged-item.result c.log-log.result.now c.loop-logged.invariant.log c.loop-logged-test.true c.logged-item.is)

pub take_in-requires-clause-method : goal.take_in-requires-clause-method
take_in-requires-clause-method c =
    method_in c.args.site.now c.args.logs.now c.requires.under c.requires.planned c.args.replica c.logged-item.result
    (is_in c.args.logs.now c.args.replica c.loop-logged.logged-index c.logged-item.result c.log-log.result.now c.loop-logged.invariant.log c.loop-logged-test.true c.logged-item.is)

pub loop-logged-preserved : goal.loop-logged-preserved
loop-logged-preserved c =
    let site = c.args.site.now in
    let records = c.args.logs.now in
    let r = c.args.replica in
    let i = c.loop-logged.logged-index in
    let e = c.logged-item.result in
    let log = c.log-log.result.now in
    let inv = c.loop-logged.invariant in
    let h = inside records r i log inv.log c.loop-logged-test.true in
    let at = here records r i e log inv.log c.logged-item.is in
    let old = c.loop-logged.front in
    let new = c.take_in.new.self in
    let size = length-append c.loop-logged.fronts (c.in_ok-front_at.field-0 ∷ []) in
    let many = ap (λ (l : List (List Place)). length l) c.in_ok-push.ensures.ok in
    let was = inv.size in
    record {
      log = inv.log;
      lanes = ap (λ (l : List ℕ). length l) c.take_in.ensures.highest ∙ length-set old.highest.items e.place.lane _ ∙ inv.lanes;
      slots = ap (λ (l : List Place). length l) c.take_in.ensures.farthest ∙ length-set old.farthest.items _ _ ∙ inv.slots;
      highest = highest_next site records c.requires.under c.requires.planned c.me-me.ensures.site r i e h at old.highest.items new.highest.items inv.lanes inv.highest c.take_in.ensures.highest;
      farthest = farthest_next site records c.requires.under c.requires.planned c.me-me.ensures.site r i e h at old.farthest.items new.farthest.items inv.slots inv.farthest c.take_in.ensures.farthest;
      fronts = subst (λ l. AreFrontsBelow (setting_at site) r (log_of records r) l (i + 1)) (sym c.in_ok-push.ensures.ok)
          (fronts_next site records c.requires.under c.requires.planned c.me-me.ensures.site r i e h at old c.loop-logged.fronts c.in_ok-front_at.field-0 inv.size inv.highest inv.farthest c.in_ok-front_at.ensures inv.fronts);
      size = omega (arith, size, many, was);
    }

pub returns-clause-fronts : goal.returns-clause-fronts
returns-clause-fronts c i e got own =
    let end = c.loop-logged-test.false in
    let low = (at_call (log_of c.args.logs.now c.args.replica) i e got).0 in
    let size = ap (λ (l : List Logged). length l) c.loop-logged.invariant.log in
    c.loop-logged.invariant.fronts i e (omega (arith, end, low, size)) got own

-- A torn frame leaves its replica as it was.
use Rattle.std.proofs.Common.{◌≡◌, ℕ, ◌-◌, List, [], true, Option, Some, None, max, set, refl, sym, ap, ◌∙◌, arith, subst}
use Rattle.std.proofs.lemmas.List.{append-nil, set-get_or}
use Rattle.std.proofs.lemmas.Option.{get_or_from_slice_get}
use Rattle.ham_syntax.specs.Objects.{Schema}
use Rattle.ham_plan.specs.Plans.{Plan}
use Rattle.ham_frame.specs.declared.frame.Frame.{Frame}
use Rattle.ham_turns.specs.declared.turn.What.TheVariants as whats
use Rattle.ham_turns.specs.Settings.{Rules, Setting, rules_of, setting_of}
use Rattle.ham_turns.specs.Words.{ReplicaWords, PartComes}
use Rattle.ham_turns.specs.Work.{first_of_two, own_work}
use Rattle.ham_turns.specs.Ready.{LogsReady, Stop}
use Rattle.ham_replica.specs.Values.{Replica, words}
use Rattle.ham_runs.specs.Runs.{Note}
use Rattle.ham_world.specs.Keeping.{HasReplica, TurnsAt}

first-none : {X : Type 0} (o : Option X) → first_of_two o None ≡ o
first-none None = refl
first-none (Some x) = refl

max-zero : (n : ℕ) → max n 0 ≡ n
max-zero n = omega arith

-- the own work of a torn frame is none
pub part_leaves : (x : Rules) (y : Setting) (w : ReplicaWords) (r from k : ℕ) (f : Frame) → own_work x y w r (PartComes from k f) ≡ w
part_leaves x y w r from k f = λ i. record w {
  kept = λ p. first-none (w.kept p) i;
  requests = λ g. append-nil (w.requests g) i;
  verdict = λ g n. first-none (w.verdict g n) i;
  rulings = λ q g. append-nil (w.rulings q g) i;
  acked = λ lane peer. max-zero (w.acked lane peer) i;
}

logs_none : (x : Rules) (y : Setting) (w v : ReplicaWords) → w ≡ v → LogsReady x y w [] v
logs_none x y w v e = let F : ReplicaWords → Type 0 = λ u. LogsReady x y w [] u in subst F e Stop

pub stays : (o : Schema) (p : Plan) (notes : List Note) (vs : List Replica) (r from k : ℕ) (f : Frame) → HasReplica o p notes vs r → TurnsAt vs vs r (PartComes from k f) whats.Torn [] [] true
stays o p notes vs r from k f has = record {
  before = has.value;
  after = has.value;
  there = has.there;
  replaced = sym (ap (set vs (r - 1)) (sym (get_or_from_slice_get vs (r - 1) has.value has.value has.there)) ∙ set-get_or vs (r - 1) has.value);
  site = refl;
  turn = record {
    turn = record {
      calls = [];
      drain = logs_none (rules_of has.value.site.object) (setting_of has.value.site.plan) (own_work (rules_of has.value.site.object) (setting_of has.value.site.plan) (words has.value.lists) has.value.site.me (PartComes from k f)) (words has.value.lists) (part_leaves (rules_of has.value.site.object) (setting_of has.value.site.plan) (words has.value.lists) has.value.site.me from k f);
      settled = ((λ e. rw has.is.plan has.is.settled), (λ s. refl));
      answer = refl;
      logged = refl;
      sent = refl;
    };
    sends = record { each = tt; few = omega arith };
  };
}

-- Turns that log nothing.
use Rattle.std.proofs.Common.{◌≡◌, ◌++◌, ℕ, Bool, true, false, List, [], ◌∷◌, get_or, refl, sym, subst, ap, ◌∙◌, inl, inr}
use Rattle.std.specs.Prelude.{Option, Some, None, if◌then◌else◌, is_some, Result, Ok, Err, IfOk}
use Rattle.ham_lists.specs.declared.list.NoMemory.{NoMemory}
use Rattle.ham_frame.specs.declared.frame.Frame.{Frame}
use Rattle.std.proofs.lemmas.List.{append-nil}
use Rattle.ham_syntax.specs.declared.act.Place.{Place}
use Rattle.ham_syntax.specs.declared.act.Call.{Call}
use Rattle.ham_frame.specs.declared.frame.Frame.TheVariants as frames
use Rattle.ham_turns.specs.declared.turn.Delivered.{Delivered}
use Rattle.ham_turns.specs.declared.turn.Delivered.TheVariants as delivered
use Rattle.ham_turns.specs.declared.turn.What.{What}
use Rattle.ham_turns.specs.declared.turn.What.TheVariants as whats
use Rattle.ham_turns.specs.declared.turn.Out.{Out}
use Rattle.ham_site.specs.Sites.{Site, rules_at, setting_at}
use Rattle.ham_turns.specs.Words.{Intake, FrameComes, Beat, place_of, same_place}
use Rattle.ham_turns.specs.Work.{first_of_two, answer_of, ruled_of, made_of, place_made, own_work}
use Rattle.ham_turns.specs.Sends.{sent_by}
use Rattle.ham_turns.specs.Ready.{LogsReady, Stop, IsSettled}
use Rattle.ham_site.specs.declared.out.Turn.{Turn}
use Rattle.ham_replica.specs.Values.{Lists, words}
use Rattle.ham_replica.specs.Kept.{IsKept}
use Rattle.ham_replica.specs.Issues.{Answers}
use Rattle.ham_replica.specs.Deliveries.{IsPlain, TakesFrame}
use Rattle.ham_replica.specs.Ticks.{all_due}
use Rattle.ham_replica.proofs.Items.{first_none}
use Rattle.ham_replica.proofs.Deciding.{max_none}
use Rattle.ham_replica.proofs.Logging.{same_or_not}
use Rattle.ham_replica.proofs.Delivering.{same_place_true}

pub first_some : {X : Type 0} (a b : Option X) (d : X) → a ≡ Some d → a ≡ first_of_two a b
first_some None b d e = cc
first_some (Some z) b d e = refl

pub some_of : {X : Type 0} (o : Option X) → is_some o ≡ true → (d : X) × (o ≡ Some d)
some_of None e = cc
some_of (Some d) e = (d, refl)

pub not_true : (b : Bool) → (b ≡ true → ⊥) → b ≡ false
not_true true n = absurd (n refl)
not_true false n = refl

module _ (site : Site) (v w : Lists) (took : Intake) where
  -- a turn whose own work is all, and that leaves nothing ready
  pub plain_turn : (what : What) (out : List Out) → IsKept site w → IsSettled (setting_at site) (words w) → words w ≡ own_work (rules_at site) (setting_at site) (words v) site.me took →
      what ≡ answer_of (rules_at site) (setting_at site) (words v) site.me took → made_of (rules_at site) (setting_at site) (words v) site.me took ≡ None →
      out ≡ sent_by (setting_at site) (words v) site.me took (answer_of (rules_at site) (setting_at site) (words v) site.me took) (ruled_of (rules_at site) (words v) took) (made_of (rules_at site) (setting_at site) (words v) site.me took) w.log →
      Answers site v w took what [] out true
  plain_turn what out is settled own answer made sent = record {
    kept = is;
    turn = record {
      calls = [];
      drain = subst (λ z. LogsReady (rules_at site) (setting_at site) z [] (words w)) own Stop;
      settled = (λ t. settled, λ s. refl);
      answer = answer;
      logged = ap (λ m. place_made m ++ []) (sym made);
      sent = sent;
    };
  }

  -- the same, as the code tells it
  pub as_plain : (t : Turn Delivered) (d : Delivered) (out frames : List Out) → IsPlain t d out → out ≡ frames → Answers site v w took (whats.Delivered d) [] frames true →
      Answers site v w took (whats.Delivered t.answer) t.logged t.out t.settled
  as_plain t d out frames p e a =
      subst (λ z. Answers site v w took (whats.Delivered z) t.logged t.out t.settled) (sym p.answered)
      (subst (λ z. Answers site v w took (whats.Delivered d) z t.out t.settled) (sym p.logged)
      (subst (λ z. Answers site v w took (whats.Delivered d) [] z t.settled) (sym (p.sent ∙ e))
      (subst (λ z. Answers site v w took (whats.Delivered d) [] frames z) (sym p.settled) a)))

-- a turn that changes nothing, as the code tells it
pub takes_plain : (site : Site) (v : Lists) (from : ℕ) (f : Frame) (r : Result (Turn Delivered) NoMemory) (d : Delivered) (out : List Out) →
    IfOk r (λ t. IsPlain t d out) → ((which : ℕ) → Answers site v v (FrameComes from which f) (whats.Delivered d) [] out true) → TakesFrame site v v from f r
takes_plain site v from f (Ok t) d out p a = λ which. as_plain site v v (FrameComes from which f) t d out out p refl (a which)
takes_plain site v from f (Err e) d out p a = refl

-- ---- a call that came before, Bye, a tick

module _ (site : Site) (v : Lists) (is : IsKept site v) (settled : IsSettled (setting_at site) (words v)) (from which : ℕ) where
  kept_again : (c d : Call) → (words v).kept (place_of c) ≡ Some d → (p : Place) → (words v).kept p ≡ first_of_two ((words v).kept p) (if same_place (place_of c) p then Some c else None)
  kept_again c d e p = elim (same_or_not p (place_of c)) [
    | inl s ↦ first_some ((words v).kept p) _ d (ap (words v).kept s ∙ e)
    | inr ne ↦
        let apart : same_place (place_of c) p ≡ false = not_true _ (λ t. ne (sym (same_place_true (place_of c) p t))) in
        rw apart (sym (first_none ((words v).kept p)))
  ]

  again_is_own : (c d : Call) → (words v).kept (place_of c) ≡ Some d → words v ≡ own_work (rules_at site) (setting_at site) (words v) site.me (FrameComes from which (frames.Call c))
  again_is_own c d e = λ i. record {
    state = v.state;
    log = v.log;
    count_of = (words v).count_of;
    decided = (words v).decided;
    kept = λ p. kept_again c d e p i;
    requests = λ h. sym (append-nil ((words v).requests h)) i;
    verdict = λ h n. sym (first_none ((words v).verdict h n)) i;
    rulings = λ f h. sym (append-nil ((words v).rulings f h)) i;
    acked = λ l p. sym (max_none ((words v).acked l p)) i;
  }

  pub call_again : (c : Call) → is_some ((words v).kept (place_of c)) ≡ true →
      Answers site v v (FrameComes from which (frames.Call c)) (whats.Delivered delivered.Repeat) [] (record { to = from; frame = frames.Ack c.lane (get_or v.logged c.lane 0) } ∷ []) true
  call_again c known =
      let kept = some_of ((words v).kept (place_of c)) known in
      plain_turn site v v (FrameComes from which (frames.Call c)) (whats.Delivered delivered.Repeat) _ is settled (again_is_own c kept.0 kept.1)
      (ap (λ b. whats.Delivered (if b then delivered.Repeat else delivered.Fresh)) (sym known)) refl
      (ap (λ n. record { to = from; frame = frames.Ack c.lane n } ∷ []) (is.lanes c.lane))

  bye_is_own : words v ≡ own_work (rules_at site) (setting_at site) (words v) site.me (FrameComes from which frames.Bye)
  bye_is_own = λ i. record {
    state = v.state;
    log = v.log;
    count_of = (words v).count_of;
    decided = (words v).decided;
    kept = λ p. sym (first_none ((words v).kept p)) i;
    requests = λ h. sym (append-nil ((words v).requests h)) i;
    verdict = λ h n. sym (first_none ((words v).verdict h n)) i;
    rulings = λ f h. sym (append-nil ((words v).rulings f h)) i;
    acked = λ l p. sym (max_none ((words v).acked l p)) i;
  }

  pub bye : Answers site v v (FrameComes from which frames.Bye) (whats.Delivered delivered.Noted) [] [] true
  bye = plain_turn site v v (FrameComes from which frames.Bye) (whats.Delivered delivered.Noted) [] is settled bye_is_own refl refl refl

module _ (site : Site) (v : Lists) (is : IsKept site v) (settled : IsSettled (setting_at site) (words v)) where
  beat_is_own : words v ≡ own_work (rules_at site) (setting_at site) (words v) site.me Beat
  beat_is_own = λ i. record {
    state = v.state;
    log = v.log;
    count_of = (words v).count_of;
    decided = (words v).decided;
    kept = λ p. sym (first_none ((words v).kept p)) i;
    requests = λ h. sym (append-nil ((words v).requests h)) i;
    verdict = λ h n. sym (first_none ((words v).verdict h n)) i;
    rulings = λ f h. sym (append-nil ((words v).rulings f h)) i;
    acked = λ l p. sym (max_none ((words v).acked l p)) i;
  }

  pub beat : (places : List Place) (out : List Out) (done : Bool) → places ≡ [] → out ≡ all_due (setting_at site) (words v) site.me → done ≡ true → Answers site v v Beat whats.Ticked places out done
  beat places out done none due ends =
      subst (λ z. Answers site v v Beat whats.Ticked z out done) (sym none)
      (subst (λ z. Answers site v v Beat whats.Ticked [] z done) (sym due)
      (subst (λ z. Answers site v v Beat whats.Ticked [] (all_due (setting_at site) (words v) site.me) z) (sym ends)
      (plain_turn site v v Beat whats.Ticked (all_due (setting_at site) (words v) site.me) is settled beat_is_own refl refl refl)))

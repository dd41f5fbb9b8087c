-- The turn of an issue that is decided elsewhere.
use Rattle.std.proofs.Common.{◌≡◌, ◌≢◌, ◌++◌, ℕ, zero, suc, ◌+◌, ◌≤◌, ◌<◌, Bool, true, false, eqb, List, [], ◌∷◌, length, map, get_or, refl, sym, subst, ap, ◌∙◌, inl, inr, arith}
use Rattle.std.specs.Prelude.{None, if◌then◌else◌, slice_get}
use Rattle.std.specs.List.{AllByRecursion}
use Rattle.ham_frame.specs.Spelling.{FitsAct}
use Rattle.std.proofs.lemmas.Bool.{eqb-true, ne_eqb}
use Rattle.std.proofs.lemmas.List.{append-nil, length_push, length-set}
use Rattle.ham_syntax.specs.declared.act.Act.{Act}
use Rattle.ham_syntax.specs.declared.act.Place.{Place}
use Rattle.ham_turns.specs.declared.turn.Issued.{Issued}
use Rattle.ham_turns.specs.declared.turn.Issued.TheVariants as issued
use Rattle.ham_turns.specs.declared.turn.What.TheVariants as whats
use Rattle.ham_turns.specs.declared.turn.Out.{Out}
use Rattle.ham_frame.specs.declared.frame.Frame.TheVariants as frames
use Rattle.ham_site.specs.Sites.{Site, rules_at, setting_at}
use Rattle.ham_turns.specs.Words.{ActComes, numbered}
use Rattle.ham_turns.specs.Work.{lane_here, asked_by, answer_of, made_by, made_of, place_made, logged_made, taken, own_work}
use Rattle.ham_turns.specs.Sends.{sent_for}
use Rattle.ham_turns.specs.Ready.{LogsReady, Stop, IsSettled}
use Rattle.ham_resend.specs.declared.asks.Ask.{Ask}
use Rattle.ham_resend.specs.Asking.{asking, verdict_on}
use Rattle.ham_replica.specs.Values.{Lists, words}
use Rattle.ham_replica.specs.Steps.{with_item}
use Rattle.ham_replica.specs.Kept.{IsKept}
use Rattle.ham_replica.specs.Issues.{Answers, MayForward}
use Rattle.ham_replica.proofs.Items.{true_or_false, all_push, map_push, first_none, get_with_item, length_map}
use Rattle.ham_replica.proofs.Deciding.{max_none}
use Rattle.ham_replica.proofs.Staying.{kept_with, settled_with}

-- a new request has no verdict
get_asked : (xs : List Ask) (a : Act) (n : ℕ) → verdict_on (slice_get (xs ++ asking a ∷ []) n) ≡ verdict_on (slice_get xs n)
get_asked [] a zero = refl
get_asked [] a (suc n) = refl
get_asked (x ∷ xs) a zero = refl
get_asked (x ∷ xs) a (suc n) = get_asked xs a n

numbered_asked : (xs : List Ask) (a : Act) (n : ℕ) → verdict_on (numbered (xs ++ asking a ∷ []) n) ≡ verdict_on (numbered xs n)
numbered_asked xs a zero = refl
numbered_asked xs a (suc n) = get_asked xs a n

answer_by : (b : Bool) (i j : Issued) → b ≡ false → whats.Issued (if b then i else j) ≡ whats.Issued j
answer_by true i j e = cc
answer_by false i j e = refl

abbrev pub ask_more : Lists → ℕ → Act → Lists
ask_more v g a = record v { asks = with_item v.asks g (asking a) }

module _ (site : Site) (v : Lists) (is : IsKept site v) (a : Act) (may : MayForward site a (lane_here (setting_at site) site.me a)) where
  abbrev group : ℕ
  group = lane_here (setting_at site) site.me a

  abbrev number : ℕ
  number = length (map (λ (k : Ask). k.act) (get_or v.asks group [])) + 1

  group_there : group < length v.asks
  group_there = subst (λ n. group < n) (sym is.shaped.asks) (is.at.tabled.group_exists a.method site.me may.method is.at.me_exists may.elsewhere)

  answer : answer_of (rules_at site) (setting_at site) (words v) site.me (ActComes a) ≡ whats.Issued (issued.Forwarded group number)
  answer = answer_by _ _ _ (ne_eqb _ _ may.elsewhere)

  made : made_of (rules_at site) (setting_at site) (words v) site.me (ActComes a) ≡ None
  made = ap (λ z. made_by (setting_at site) (words v) site.me (ActComes a) z None) answer

  requests_more : (h : ℕ) → map (λ (k : Ask). k.act) (get_or (with_item v.asks group (asking a)) h []) ≡ map (λ (k : Ask). k.act) (get_or v.asks h []) ++ asked_by h a (whats.Issued (issued.Forwarded group number))
  requests_more h =
      let item = get_with_item v.asks group h (asking a) group_there in
      elim (true_or_false (eqb group h)) [
        | inl t ↦ let k = rw t at item in rw t (ap (map (λ (z : Ask). z.act)) k ∙ map_push (λ (z : Ask). z.act) (get_or v.asks h []) (asking a))
        | inr f ↦ let k = rw f at item in rw f (ap (map (λ (z : Ask). z.act)) k ∙ sym (append-nil (map (λ (z : Ask). z.act) (get_or v.asks h []))))
      ]

  verdict_same : (h n : ℕ) → verdict_on (numbered (get_or (with_item v.asks group (asking a)) h []) n) ≡ verdict_on (numbered (get_or v.asks h []) n)
  verdict_same h n =
      let item = get_with_item v.asks group h (asking a) group_there in
      elim (true_or_false (eqb group h)) [
        | inl t ↦ let k = rw t at item in ap (λ l. verdict_on (numbered l n)) k ∙ numbered_asked (get_or v.asks h []) a n
        | inr f ↦ let k = rw f at item in ap (λ l. verdict_on (numbered l n)) k
      ]

  ask_is_own : words (ask_more v group a) ≡ own_work (rules_at site) (setting_at site) (words v) site.me (ActComes a)
  ask_is_own = same ∙ sym own
    where
      own : own_work (rules_at site) (setting_at site) (words v) site.me (ActComes a) ≡ taken (words v) (ActComes a) (whats.Issued (issued.Forwarded group number)) None None
      own = λ i. logged_made (rules_at site) (setting_at site) (taken (words v) (ActComes a) (answer i) None (made i)) (made i)

      same : words (ask_more v group a) ≡ taken (words v) (ActComes a) (whats.Issued (issued.Forwarded group number)) None None
      same = λ i. record {
        state = v.state;
        log = v.log;
        count_of = (words v).count_of;
        decided = (words v).decided;
        kept = λ p. sym (first_none ((words v).kept p)) i;
        requests = λ h. requests_more h i;
        verdict = λ h n. (verdict_same h n ∙ sym (first_none ((words v).verdict h n))) i;
        rulings = λ f h. sym (append-nil ((words v).rulings f h)) i;
        acked = λ l p. sym (max_none ((words v).acked l p)) i;
      }

  asked_fit : (h : ℕ) → AllByRecursion (λ (k : Ask). FitsAct k.act) (get_or (with_item v.asks group (asking a)) h [])
  asked_fit h =
      let item = get_with_item v.asks group h (asking a) group_there in
      elim (true_or_false (eqb group h)) [
        | inl t ↦ let k = rw t at item in subst (AllByRecursion (λ (z : Ask). FitsAct z.act)) (sym k) (all_push (λ z. FitsAct z.act) (λ z. FitsAct z.act) (get_or v.asks h []) (asking a) (λ z f. f) (is.ranges.asked h) may.frame)
        | inr f ↦ let k = rw f at item in subst (AllByRecursion (λ (z : Ask). FitsAct z.act)) (sym k) (is.ranges.asked h)
      ]

  few_asked : (h : ℕ) → length (get_or v.asks group []) < 65536 → length (get_or (with_item v.asks group (asking a)) h []) ≤ 65536
  few_asked h room =
      let item = get_with_item v.asks group h (asking a) group_there in
      elim (true_or_false (eqb group h)) [
        | inl t ↦
            let k = ap length (rw t at item) in
            let more = length_push (get_or v.asks h []) (asking a) in
            let here : length (get_or v.asks h []) < 65536 = subst (λ n. length (get_or v.asks n []) < 65536) (eqb-true group h t) room in
            omega arith
        | inr f ↦ let k = ap length (rw f at item) in let before = is.ranges.few_asked h in omega arith
      ]

  pub turn_forwarded : IsSettled (setting_at site) (words v) → length (get_or v.asks group []) < 65536 → Answers site v (ask_more v group a) (ActComes a) (whats.Issued (issued.Forwarded group number)) []
      (record { to = (setting_at site).decider group; frame = frames.Request group number a } ∷ []) true
  turn_forwarded settled room = record {
    kept = kept_with site v v.acked (with_item v.asks group (asking a)) v.rulings is is.shaped.acked is.shaped.peers (length-set v.asks group _ ∙ is.shaped.asks) is.shaped.senders is.shaped.groups
        (record { decided = is.ranges.decided; asked = asked_fit; few_asked = λ h. few_asked h room; ruled = is.ranges.ruled });
    turn = record {
      calls = [];
      drain = subst (λ z. LogsReady (rules_at site) (setting_at site) z [] (words (ask_more v group a))) ask_is_own Stop;
      settled = (λ t. settled_with site v v.acked (with_item v.asks group (asking a)) v.rulings settled, λ s. refl);
      answer = sym answer;
      logged = ap (λ m. place_made m ++ []) (sym made);
      sent = λ i. sent_for (setting_at site) site.me a (sym made i) (sym answer i);
    };
  }

-- the same, as the code tells it
module _ (site : Site) (v : Lists) (is : IsKept site v) (a : Act) (g : ℕ) (may : MayForward site a g) where
  may_here : MayForward site a (lane_here (setting_at site) site.me a)
  may_here = subst (MayForward site a) may.lane may

  abbrev asked_frame : ℕ → ℕ → ℕ → Out
  asked_frame to l n = record { to = to; frame = frames.Request l n a }

  pub forwarded : (n to : ℕ) (asks : List (List Ask)) (out : List Out) (places : List Place) → IsSettled (setting_at site) (words v) → length (get_or v.asks g []) < 65536 →
      n ≡ length (get_or v.asks g []) + 1 → to ≡ (setting_at site).decider g → asks ≡ with_item v.asks g (asking a) → out ≡ asked_frame to g n ∷ [] → places ≡ [] →
      Answers site v (record v { asks = asks }) (ActComes a) (whats.Issued (issued.Forwarded g n)) places out true
  forwarded n to asks out places settled room n-is to-is asks-is out-is places-is =
      let l = lane_here (setting_at site) site.me a in
      let k = length (map (λ (z : Ask). z.act) (get_or v.asks l [])) + 1 in
      let number_is : n ≡ k = n-is ∙ ap (λ h. length (get_or v.asks h []) + 1) may.lane ∙ ap (λ m. m + 1) (sym (length_map (λ (z : Ask). z.act) (get_or v.asks l []))) in
      let here : length (get_or v.asks l []) < 65536 = subst (λ h. length (get_or v.asks h []) < 65536) may.lane room in
      let asks_are : asks ≡ with_item v.asks l (asking a) = asks-is ∙ ap (λ h. with_item v.asks h (asking a)) may.lane in
      let sent : out ≡ asked_frame ((setting_at site).decider l) l k ∷ [] = out-is ∙ (λ i. asked_frame ((to-is ∙ ap (setting_at site).decider may.lane) i) (may.lane i) (number_is i) ∷ []) in
      subst (λ z. Answers site v (record v { asks = asks }) (ActComes a) (whats.Issued (issued.Forwarded g n)) z out true) (sym places-is)
      (subst (λ z. Answers site v (record v { asks = asks }) (ActComes a) (whats.Issued (issued.Forwarded g n)) [] z true) (sym sent)
      (subst (λ z. Answers site v (record v { asks = z }) (ActComes a) (whats.Issued (issued.Forwarded g n)) [] (asked_frame ((setting_at site).decider l) l k ∷ []) true) (sym asks_are)
      (subst (λ z. Answers site v (ask_more v l a) (ActComes a) (whats.Issued (issued.Forwarded g z)) [] (asked_frame ((setting_at site).decider l) l k ∷ []) true) (sym number_is)
      (subst (λ z. Answers site v (ask_more v l a) (ActComes a) (whats.Issued (issued.Forwarded z k)) [] (asked_frame ((setting_at site).decider l) l k ∷ []) true) (sym may.lane)
      (turn_forwarded site v is a may_here settled here)))))

  pub many_requests : (n : ℕ) → length (get_or v.asks g []) ≡ n → length ((words v).requests (lane_here (setting_at site) site.me a)) ≡ n
  many_requests n e = length_map (λ (k : Ask). k.act) (get_or v.asks (lane_here (setting_at site) site.me a) []) ∙ ap (λ l. length (get_or v.asks l [])) (sym may.lane) ∙ e

  pub few_requests : length (get_or v.asks g []) < 65536 → length ((words v).requests (lane_here (setting_at site) site.me a)) < 65536
  few_requests h = subst (λ n. n < 65536) (sym (many_requests (length (get_or v.asks g [])) refl)) h

pub lane_elsewhere : (site : Site) (a : Act) (g : ℕ) → MayForward site a g → (setting_at site).decider (lane_here (setting_at site) site.me a) ≢ site.me
lane_elsewhere site a g may = subst (λ l. (setting_at site).decider l ≢ site.me) may.lane may.elsewhere

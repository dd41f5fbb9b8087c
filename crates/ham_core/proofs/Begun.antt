-- What the lock keeps where nothing was entered yet.
use Rattle.std.proofs.Common.{◌≡◌, ℕ, zero, suc, List, [], ◌∷◌, map, length, get_or, Some, None, refl, sym, ap, subst, ◌∙◌}
use Rattle.std.specs.Prelude.{replicate, option_map, Option, ◌+◌, false}
use Rattle.std.specs.List.{AllByRecursion}
use Rattle.ham_syntax.specs.Objects.{Schema}
use Rattle.ham_syntax.specs.declared.act.Call.{Call}
use Rattle.ham_syntax.specs.declared.act.Place.{Place}
use Rattle.ham_plan.specs.Plans.{Plan}
use Rattle.ham_steps.specs.Content.{opening}
use Rattle.ham_frame.specs.declared.frame.Frame.{Frame}
use Rattle.ham_frame.specs.declared.frame.Ruled.{Ruled}
use Rattle.std.specs.FinMap as finmap
use Rattle.ham_buffer.specs.Buffers.{begun, kept_call, place_cmp}
use Rattle.ham_resend.specs.declared.asks.Ask.{Ask}
use Rattle.ham_resend.specs.Asking.{verdict_on}
use Rattle.ham_turns.specs.Settings.{rules_of, setting_of}
use Rattle.ham_turns.specs.Words.{ReplicaWords, numbered}
use Rattle.ham_turns.specs.Work.{first_of_two}
use Rattle.ham_site.specs.Sites.{Site, setting_at, slots_at}
use Rattle.ham_replica.specs.Values.{Replica, words}
use Rattle.ham_replica.specs.Opening.{opening_lists}
use Rattle.ham_journal.specs.declared.entry.Entry.{Entry}
use Rattle.ham_journal.specs.Cores.{Core, history}
use Rattle.ham_journal.specs.Histories.{opening_words, opening_core, core_by, HasCore}
use Rattle.ham_journal.specs.Replies.{AllMayEnter}
use Rattle.ham_core.specs.declared.waiting.Waiting.{Waiting}
use Rattle.ham_core.specs.Waits.{Decided, IsSound, AreSound, shown_in}
use Rattle.ham_core.specs.Kept.{IsKept, kept_by, core_in, site_by, AreSoundIn}

abbrev nil : {X : Type 0} → List X
nil = []

get_all : {X : Type 0} (n i : ℕ) (a : X) → get_or (replicate n a) i a ≡ a
get_all zero i a = refl
get_all (suc n) zero a = refl
get_all (suc n) (suc i) a = get_all n i a

none_numbered : {X : Type 0} (n : ℕ) → numbered (nil {X = X}) n ≡ None
none_numbered zero = refl
none_numbered (suc n) = refl

-- nothing was given to any sender
none_ruled : (n m from g : ℕ) → get_or (get_or (replicate n (replicate m (nil {X = Ruled}))) from []) g [] ≡ []
none_ruled zero m from g = refl
none_ruled (suc n) m zero g = get_all m g []
none_ruled (suc n) m (suc from) g = none_ruled n m from g

abbrev no_acks : ℕ → List ℕ
no_acks m = replicate m 0

none_acked : (n m l p : ℕ) → get_or (get_or (replicate n (no_acks m)) l []) p 0 ≡ 0
none_acked zero m l p = refl
none_acked (suc n) m zero p = get_all m p 0
none_acked (suc n) m (suc l) p = none_acked n m l p

-- no call came, and none waits
none_waits : (lanes slots : ℕ) (p : Place) → kept_call (begun lanes slots) p ≡ None
none_waits lanes slots p = ap (option_map (λ k. k.call)) (finmap.get-empty place_cmp p)

none_kept : (site : Site) (p : Place) → (words (opening_lists site opening)).kept p ≡ None
none_kept site p =
    ap (λ (calls : List Call). first_of_two (numbered calls p.number) (kept_call (begun (setting_at site).lanes (slots_at site)) p)) (get_all (setting_at site).lanes p.lane [])
    ∙ ap (λ (c : Option Call). first_of_two c (kept_call (begun (setting_at site).lanes (slots_at site)) p)) (none_numbered p.number) ∙ none_waits (setting_at site).lanes (slots_at site) p

none_verdict : (n g k : ℕ) → verdict_on (numbered (get_or (replicate n (nil {X = Ask})) g []) k) ≡ None
none_verdict n g k = ap (λ (made : List Ask). verdict_on (numbered made k)) (get_all n g (nil {X = Ask})) ∙ ap verdict_on (none_numbered {X = Ask} k)

pub words_begun : (site : Site) → words (opening_lists site opening) ≡ opening_words (rules_of site.object)
words_begun site = λ i. record {
  state = opening;
  log = [];
  count_of = λ s. get_all (slots_at site) s 0 i;
  decided = λ l. get_all (setting_at site).lanes l (nil {X = Call}) i;
  kept = λ p. none_kept site p i;
  requests = λ g. map (λ (a : Ask). a.act) (get_all (setting_at site).groups g [] i);
  verdict = λ g n. none_verdict (setting_at site).groups g n i;
  rulings = λ from g. none_ruled ((setting_at site).replicas + 1) (setting_at site).groups from g i;
  acked = λ l p. none_acked (setting_at site).lanes ((setting_at site).replicas + 1) l p i;
}

none_shown : (d : Decided) (n : ℕ) → shown_in d (replicate n []) ≡ replicate n []
none_shown d zero = refl
none_shown d (suc n) = ap (λ (l : List (List Frame)). [] ∷ l) (none_shown d n)

none_sound : (d : Decided) (n : ℕ) → AreSound d (replicate n [])
none_sound d zero = tt
none_sound d (suc n) = (tt, none_sound d n)

no_history : (o : Schema) (p : Plan) (me : ℕ) → HasCore o p me [] (opening_core o p)
unfolding history
no_history o p me = refl

pub core_begun : (o : Schema) (p : Plan) (me : ℕ) (r : Replica) (held : List (List Waiting)) → r.site ≡ site_by o p me → r.lists ≡ opening_lists r.site opening → held ≡ replicate p.replicas []
    → core_in r held false ≡ opening_core o p
core_begun o p me r held site lists empty =
    ap (λ (h : List (List Waiting)). core_in r h false) empty
    ∙ ap (λ (b : List (List Frame)). core_by (words r.lists) b false) (none_shown (words r.lists).decided p.replicas)
    ∙ ap (λ (w : ReplicaWords). core_by w (replicate p.replicas []) false) (ap words lists ∙ words_begun r.site ∙ ap (λ (s : Site). opening_words (rules_of s.object)) site)

pub kept_begun : (o : Schema) (p : Plan) (me : ℕ) (r : Replica) (held : List (List Waiting)) (journal : List Entry) (total : ℕ)
    → r.site ≡ site_by o p me → r.lists ≡ opening_lists r.site opening → held ≡ replicate p.replicas [] → journal ≡ [] → total ≡ 0
    → IsKept o p me (kept_by r held false journal total) × AreSoundIn r held
kept_begun o p me r held journal total site lists empty none zero_is = (
  record {
    site = site;
    folded = subst (λ (l : List Entry). HasCore o p me l (core_in r held false)) (sym none)
        (subst (λ (k : Core). HasCore o p me [] k) (sym (core_begun o p me r held site lists empty)) (no_history o p me));
    counted = zero_is ∙ sym (ap length none);
    others = subst (AllMayEnter (setting_of p) me) (sym none) tt;
  },
  subst (AreSound (words r.lists).decided) (sym empty) (none_sound (words r.lists).decided p.replicas),
)

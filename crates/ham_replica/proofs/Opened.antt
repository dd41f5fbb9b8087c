-- The opening keeps what a replica's type keeps.
use Rattle.std.proofs.Common.{◌≡◌, ℕ, zero, suc, ◌+◌, ◌≤◌, List, [], ◌∷◌, map, length, get_or, refl, sym, subst, ap, ◌∙◌, arith}
use Rattle.std.specs.Prelude.{Some, None, is_some, replicate, true, false}
use Rattle.std.specs.List.{AllByRecursion}
use Rattle.std.specs.FinMap as finmap
use Rattle.std.proofs.lemmas.List.{length-replicate}
use Rattle.ham_buffer.specs.Buffers.{place_cmp}
use Rattle.ham_resend.specs.Giving.{Given}
use Rattle.ham_site.specs.Sites.{Site, IsSite, rules_at, setting_at, slots_at}
use Rattle.ham_syntax.specs.declared.act.Call.{Call}
use Rattle.ham_frame.specs.declared.frame.Ruled.{Ruled}
use Rattle.ham_frame.specs.Spelling.{FitsAct, FitsCall, FitsRuling}
use Rattle.ham_resend.specs.declared.asks.Ask.{Ask}
use Rattle.ham_turns.specs.Words.{numbered}
use Rattle.ham_turns.specs.Work.{first_of_two}
use Rattle.ham_site.proofs.Bounds.{bounded_opening}
use Rattle.ham_replica.specs.Kept.{IsKept}
use Rattle.ham_replica.specs.Opening.{opening_lists}
use Rattle.ham_replica.proofs.Items.{sum_few}

abbrev nil : {X : Type 0} → List X
nil = []

get_all : {X : Type 0} (n i : ℕ) (a : X) → get_or (replicate n a) i a ≡ a
get_all zero i a = refl
get_all (suc n) zero a = refl
get_all (suc n) (suc i) a = get_all n i a

all_replicate : {X : Type 0} (P : X → Type 0) (n : ℕ) (a : X) → P a → AllByRecursion P (replicate n a)
all_replicate P zero a h = tt
all_replicate P (suc n) a h = (h, all_replicate P n a h)

-- a list in which each item shows the same
pub replicated : {X Y : Type 0} (f : X → Y) (xs : List X) (n : ℕ) (y : Y) → length xs ≡ n → AllByRecursion (λ x. f x ≡ y) xs → map f xs ≡ replicate n y
replicated f [] zero y e h = refl
replicated f [] (suc n) y e h = absurd (omega arith)
replicated f (x ∷ xs) zero y e h = absurd (omega arith)
replicated f (x ∷ xs) (suc n) y e h = (ap (λ z. z ∷ map f xs) h.0) ∙ ap (λ l. y ∷ l) (replicated f xs n y (omega arith) h.1)

all_both : {X : Type 0} (P Q R : X → Type 0) (xs : List X) → ((x : X) → P x → Q x → R x) → AllByRecursion P xs → AllByRecursion Q xs → AllByRecursion R xs
all_both P Q R [] f p q = tt
all_both P Q R (x ∷ xs) f p q = (f x p.0 q.0, all_both P Q R xs f p.1 q.1)

pub no_rulings : (rulings : List (List Given)) (n m : ℕ) → length rulings ≡ n → AllByRecursion (λ s. length s ≡ m) rulings → AllByRecursion (λ s. AllByRecursion (λ g. g.ruled ≡ []) s) rulings →
    map (map (λ g. g.ruled)) rulings ≡ replicate n (replicate m [])
no_rulings rulings n m long each none = replicated (map (λ (g : Given). g.ruled)) rulings n (replicate m []) long
    (all_both (λ s. length s ≡ m) (λ s. AllByRecursion (λ (g : Given). g.ruled ≡ []) s) (λ s. map (λ (g : Given). g.ruled) s ≡ replicate m []) rulings
    (λ s l h. replicated (λ (g : Given). g.ruled) s m [] l h) each none)

no_item : {X : Type 0} (n l k : ℕ) → numbered (get_or (replicate n (nil {X = X})) l []) k ≡ None
no_item {X} n l k = ap (λ xs. numbered xs k) (get_all n l (nil {X = X})) ∙ none k
  where
    none : (k : ℕ) → numbered (nil {X = X}) k ≡ None
    none zero = refl
    none (suc k) = refl

pub opening_kept : (site : Site) → IsSite site → IsKept site (opening_lists site (rules_at site).opening)
opening_kept site at = record {
  at = at;
  opened = refl;
  shaped = record {
    counts = length-replicate (slots_at site) 0;
    logged = length-replicate (setting_at site).lanes 0;
    decided = length-replicate (setting_at site).lanes [];
    acked = length-replicate (setting_at site).lanes (replicate ((setting_at site).replicas + 1) 0);
    peers = all_replicate (λ a. length a ≡ (setting_at site).replicas + 1) (setting_at site).lanes (replicate ((setting_at site).replicas + 1) 0) (length-replicate ((setting_at site).replicas + 1) 0);
    came = length-replicate (setting_at site).lanes [];
    lanes = refl;
    buffer = refl;
    asks = length-replicate (setting_at site).groups [];
    senders = length-replicate ((setting_at site).replicas + 1) (replicate (setting_at site).groups []);
    groups = all_replicate (λ s. length s ≡ (setting_at site).groups) ((setting_at site).replicas + 1) (replicate (setting_at site).groups []) (length-replicate (setting_at site).groups []);
  };
  lanes = λ l. get_all (setting_at site).lanes l 0;
  here = λ l e. (get_all (setting_at site).lanes l 0 ∙ ap length (sym (get_all (setting_at site).lanes l [])), get_all (setting_at site).lanes l []);
  elsewhere = λ l e. (get_all (setting_at site).lanes l 0 ∙ ap length (sym (get_all (setting_at site).lanes l [])), get_all (setting_at site).lanes l []);
  few = all_replicate (λ n. n ≤ 65536) (setting_at site).lanes 0 (omega arith);
  total = let few = sum_few 0 (replicate (setting_at site).lanes 0) (all_replicate (λ n. n ≤ 0) (setting_at site).lanes 0 (omega arith)) in omega arith;
  counted = λ s. let e : get_or (replicate (slots_at site) 0) s 0 ≡ 0 = get_all (slots_at site) s 0 in subst (λ n. n ≤ 0) (sym e) (omega arith);
  slotted = λ m r exists replica.
      subst (λ n. n ≤ get_or (replicate (setting_at site).lanes 0) ((setting_at site).lane m r) 0) (sym (get_all (slots_at site) ((setting_at site).slot m r) 0)) (omega arith);
  values = bounded_opening site;
  folded = record {
    calls = [];
    places = refl;
    kept = tt;
    only = λ p some. absurd (nothing (sym (ap is_some (λ i. first_of_two (no_item {X = Call} (setting_at site).lanes p.lane p.number i) (no_item {X = Call} (setting_at site).lanes p.lane p.number i))) ∙ some));
    state = refl;
  };
  waiting = λ p k e. absurd (none_some (sym (finmap.get-empty place_cmp p) ∙ e));
  ranges = record {
    decided = λ l. subst (AllByRecursion FitsCall) (sym (get_all (setting_at site).lanes l [])) tt;
    asked = λ g. subst (AllByRecursion (λ (a : Ask). FitsAct a.act)) (sym (get_all (setting_at site).groups g [])) tt;
    few_asked = λ g. let e = ap length (get_all (setting_at site).groups g (nil {X = Ask})) in omega arith;
    ruled = λ from g.
        subst (AllByRecursion (λ (d : Ruled). FitsRuling d.ruling)) (sym (ruled_none from g)) tt;
  };
}
  where
    none_some : {X : Type 0} {z : X} → None ≡ Some z → ⊥
    none_some h = cc

    nothing : false ≡ true → ⊥
    nothing h = cc

    ruled_none : (from g : ℕ) → get_or (get_or (replicate ((setting_at site).replicas + 1) (replicate (setting_at site).groups (nil {X = Ruled}))) from []) g [] ≡ []
    ruled_none from g = by ((setting_at site).replicas + 1) from
      where
        by : (n k : ℕ) → get_or (get_or (replicate n (replicate (setting_at site).groups (nil {X = Ruled}))) k []) g [] ≡ []
        by zero k = refl
        by (suc n) zero = get_all (setting_at site).groups g []
        by (suc n) (suc k) = by n k

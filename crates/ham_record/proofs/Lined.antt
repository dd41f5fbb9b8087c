-- The lines of logs, put one after another.
use Rattle.std.proofs.Common.{◌≡◌, ℕ, zero, suc, ◌+◌, List, [], ◌∷◌, ◌++◌, map, take, length, get_or, ◌<◌, ◌≤◌, append_assoc, append-nil, inl, inr, refl, sym, subst, ap, ◌∙◌, arith}
use Rattle.std.proofs.lemmas.List.{map_push, take_more}
use Rattle.std.specs.List.{AllByRecursion, range_with_len}
use Rattle.ham_text.specs.Written.{line_text, lines_text}
use Rattle.ham_syntax.specs.declared.act.Place.{Place}
use Rattle.ham_syntax.specs.Objects.{Schema}
use Rattle.ham_syntax.specs.declared.limits.TheConstants.{MAX_REPLICAS}
use Rattle.ham_plan.specs.Lists.{In}
use Rattle.ham_plan.specs.Plans.{Plan, IsPlan}
use Rattle.ham_turns.specs.Settings.{IsReplica, setting_of}
use Rattle.ham_records.specs.declared.records.Logged.{Logged}
use Rattle.ham_records.specs.Texts.{IsLogged, AreLogs, call_words, log_lines, logs_lines, opening_words, replicas_words, replica_words, end_words, text_of}

pub lines_both : (xs ys : List (List (List ℕ))) → lines_text (xs ++ ys) ≡ lines_text xs ++ lines_text ys
lines_both [] ys = refl
lines_both (x ∷ xs) ys = ap (λ (t : List ℕ). line_text x ++ t) (lines_both xs ys) ∙ sym (append_assoc (line_text x) (lines_text xs) (lines_text ys))

-- ---- the logs of the replicas up to one

module _ (o : Schema) (f : ℕ → List Logged) where
  abbrev pub first_logs : ℕ → ℕ → List (List Logged)
  first_logs r k = map f (range_with_len r k)

  one_more : (r k : ℕ) → logs_lines o r (first_logs r (suc k)) ≡ logs_lines o r (first_logs r k) ++ log_lines o (r + k) (f (r + k))
  one_more r zero =
      let q : r ≡ r + 0 = omega arith in
      append-nil (log_lines o r (f r)) ∙ ap (λ n. log_lines o n (f n)) q
  one_more r (suc k) =
      let q : (r + 1) + k ≡ r + suc k = omega arith in
      ap (λ (l : List (List (List ℕ))). log_lines o r (f r) ++ l) (one_more (r + 1) k)
      ∙ sym (append_assoc (log_lines o r (f r)) (logs_lines o (r + 1) (first_logs (r + 1) k)) (log_lines o ((r + 1) + k) (f ((r + 1) + k))))
      ∙ ap (λ n. (log_lines o r (f r) ++ logs_lines o (r + 1) (first_logs (r + 1) k)) ++ log_lines o n (f n)) q

  -- the text so far, with a replica's lines more
  pub next_log : (head before now : List ℕ) (r : ℕ) → before ≡ head ++ lines_text (logs_lines o 1 (first_logs 1 r)) → now ≡ before ++ lines_text (log_lines o (1 + r) (f (1 + r))) →
      now ≡ head ++ lines_text (logs_lines o 1 (first_logs 1 (suc r)))
  next_log head before now r was put =
      put ∙ ap (λ (t : List ℕ). t ++ lines_text (log_lines o (1 + r) (f (1 + r)))) was
      ∙ append_assoc head (lines_text (logs_lines o 1 (first_logs 1 r))) (lines_text (log_lines o (1 + r) (f (1 + r))))
      ∙ ap (λ (t : List ℕ). head ++ t) (sym (lines_both (logs_lines o 1 (first_logs 1 r)) (log_lines o (1 + r) (f (1 + r)))) ∙ ap lines_text (sym (one_more 1 r)))

  more_spelled : (P : List Logged → Type 0) (r k : ℕ) → AllByRecursion P (first_logs r k) → P (f (r + k)) → AllByRecursion P (first_logs r (suc k))
  more_spelled P r zero all here = let q : r + 0 ≡ r = omega arith in (rw q at here, tt)
  more_spelled P r (suc k) all here = let q : r + suc k ≡ (r + 1) + k = omega arith in (all.0, more_spelled P (r + 1) k all.1 (rw q at here))

  pub next_spelled : (P : List Logged → Type 0) (k : ℕ) → AllByRecursion P (first_logs 1 k) → P (f (1 + k)) → AllByRecursion P (first_logs 1 (suc k))
  next_spelled P k all here = more_spelled P 1 k all here

  length_first : (r k : ℕ) → length (first_logs r k) ≡ k
  length_first r zero = refl
  length_first r (suc k) = let h = length_first (r + 1) k in omega (arith, h)

  pub count_first : (k : ℕ) → length (first_logs 1 k) ≡ k
  count_first k = length_first 1 k

  -- the whole text
  pub all_lines : (n : ℕ) (before mid now : List ℕ) → before ≡ [] ++ (line_text opening_words ++ line_text (replicas_words n)) →
      mid ≡ before ++ lines_text (logs_lines o 1 (first_logs 1 n)) → now ≡ mid ++ line_text end_words → now ≡ text_of o (first_logs 1 n)
  unfolding text_of
  all_lines n before mid now opened put ended =
      let logs = first_logs 1 n in
      let head = line_text opening_words ++ line_text (replicas_words n) in
      let last : line_text end_words ≡ lines_text (end_words ∷ []) = sym (append-nil (line_text end_words)) in
      ended ∙ ap (λ (t : List ℕ). t ++ line_text end_words) (put ∙ ap (λ (t : List ℕ). t ++ lines_text (logs_lines o 1 logs)) opened)
      ∙ append_assoc head (lines_text (logs_lines o 1 logs)) (line_text end_words)
      ∙ ap (λ (t : List ℕ). head ++ (lines_text (logs_lines o 1 logs) ++ t)) last
      ∙ ap (λ (t : List ℕ). head ++ t) (sym (lines_both (logs_lines o 1 logs) (end_words ∷ [])))
      ∙ append_assoc (line_text opening_words) (line_text (replicas_words n)) (lines_text (logs_lines o 1 logs ++ end_words ∷ []))
      ∙ ap (λ (m : ℕ). line_text opening_words ++ (line_text (replicas_words m) ++ lines_text (logs_lines o 1 logs ++ end_words ∷ []))) (sym (count_first n))

-- ---- the calls of a log

pub call_more : (o : Schema) (head before now : List ℕ) (entries : List Logged) (e : Logged) → before ≡ head ++ lines_text (map (call_words o) entries) → now ≡ before ++ line_text (call_words o e) →
    now ≡ head ++ lines_text (map (call_words o) (entries ++ e ∷ []))
call_more o head before now entries e was put =
    put ∙ ap (λ (t : List ℕ). t ++ line_text (call_words o e)) was
    ∙ append_assoc head (lines_text (map (call_words o) entries)) (line_text (call_words o e))
    ∙ ap (λ (t : List ℕ). head ++ t) (sym (last entries))
  where
    last : (xs : List Logged) → lines_text (map (call_words o) (xs ++ e ∷ [])) ≡ lines_text (map (call_words o) xs) ++ line_text (call_words o e)
    last [] = append-nil (line_text (call_words o e))
    last (x ∷ xs) = ap (λ (t : List ℕ). line_text (call_words o x) ++ t) (last xs) ∙ sym (append_assoc (line_text (call_words o x)) (lines_text (map (call_words o) xs)) (line_text (call_words o e)))

pub all_more : {X : Type 0} (P : X → Type 0) (xs : List X) (z : X) → AllByRecursion P xs → P z → AllByRecursion P (xs ++ z ∷ [])
all_more P [] z all here = (here, tt)
all_more P (x ∷ xs) z all here = (all.0, all_more P xs z all.1 here)

-- one place more of a log
pub in_get : {X : Type 0} (xs : List X) (i : ℕ) (d x : X) → i < length xs → x ≡ get_or xs i d → In x xs
in_get [] i d x h q = absurd (omega arith)
in_get (y ∷ ys) zero d x h q = inl q
in_get (y ∷ ys) (suc i) d x h q = inr (in_get ys i d x (omega arith) q)

mapped_more : (f : Place → Logged) (log : List Place) (i : ℕ) (d c : Place) → i < length log → c ≡ get_or log i d → map f (take (i + 1) log) ≡ map f (take i log) ++ f c ∷ []
mapped_more f log i d c h q = ap (map f) (take_more log i d h ∙ ap (λ (z : Place). take i log ++ z ∷ []) (sym q)) ∙ map_push f (take i log) c

pub place_more : (o : Schema) (f : Place → Logged) (log : List Place) (i : ℕ) (d c : Place) (head before now : List ℕ) → i < length log → c ≡ get_or log i d →
    before ≡ head ++ lines_text (map (call_words o) (map f (take i log))) → now ≡ before ++ line_text (call_words o (f c)) → now ≡ head ++ lines_text (map (call_words o) (map f (take (i + 1) log)))
place_more o f log i d c head before now h q was put =
    call_more o head before now (map f (take i log)) (f c) was put ∙ ap (λ (es : List Logged). head ++ lines_text (map (call_words o) es)) (sym (mapped_more f log i d c h q))

pub place_spelled : (P : Logged → Type 0) (f : Place → Logged) (log : List Place) (i : ℕ) (d c : Place) → i < length log → c ≡ get_or log i d →
    AllByRecursion P (map f (take i log)) → P (f c) → AllByRecursion P (map f (take (i + 1) log))
place_spelled P f log i d c h q all here = subst (AllByRecursion P) (sym (mapped_more f log i d c h q)) (all_more P (map f (take i log)) (f c) all here)

-- the replica's first line, and those of its calls
pub log_put : (o : Schema) (r : ℕ) (before mid now : List ℕ) (entries : List Logged) → mid ≡ before ++ line_text (replica_words r) → now ≡ mid ++ lines_text (map (call_words o) entries) →
    now ≡ before ++ lines_text (log_lines o r entries)
log_put o r before mid now entries first put =
    put ∙ ap (λ (t : List ℕ). t ++ lines_text (map (call_words o) entries)) first ∙ append_assoc before (line_text (replica_words r)) (lines_text (map (call_words o) entries))

-- ---- each replica in turn

pub next_at : (o : Schema) (f : ℕ → List Logged) (head before now : List ℕ) (r : ℕ) → before ≡ head ++ lines_text (logs_lines o 1 (first_logs o f 1 r)) → now ≡ before ++ lines_text (log_lines o (r + 1) (f (r + 1))) →
    now ≡ head ++ lines_text (logs_lines o 1 (first_logs o f 1 (r + 1)))
next_at o f head before now r was put =
    let q : suc r ≡ r + 1 = omega arith in
    let here : r + 1 ≡ 1 + r = omega arith in
    subst (λ (n : ℕ). now ≡ head ++ lines_text (logs_lines o 1 (first_logs o f 1 n))) q
    (next_log o f head before now r was (subst (λ (n : ℕ). now ≡ before ++ lines_text (log_lines o n (f n))) here put))

pub spelled_at : (o : Schema) (f : ℕ → List Logged) (r : ℕ) → AllByRecursion (AllByRecursion (IsLogged o)) (first_logs o f 1 r) → AllByRecursion (IsLogged o) (f (r + 1)) → AllByRecursion (AllByRecursion (IsLogged o)) (first_logs o f 1 (r + 1))
spelled_at o f r all here =
    let q : suc r ≡ r + 1 = omega arith in
    let next : r + 1 ≡ 1 + r = omega arith in
    subst (λ (n : ℕ). AllByRecursion (AllByRecursion (IsLogged o)) (first_logs o f 1 n)) q
    (next_spelled o f (AllByRecursion (IsLogged o)) r all (subst (λ (n : ℕ). AllByRecursion (IsLogged o) (f n)) next here))

pub is_next : (p : Plan) (n m : ℕ) → n ≡ p.replicas → m < n → IsReplica (setting_of p) (m + 1)
unfolding setting_of
is_next p n m are below = (omega arith, omega (arith, are, below))

all_passed : (p : Plan) (n m : ℕ) → n ≡ p.replicas → m ≤ n → n ≤ m → m ≡ (setting_of p).replicas
unfolding setting_of
all_passed p n m are within past = omega (arith, are, within, past)

pub all_put : (o : Schema) (f : ℕ → List Logged) (p : Plan) (n m : ℕ) (mid now : List ℕ) → n ≡ p.replicas → m ≤ n → n ≤ m →
    mid ≡ ([] ++ (line_text opening_words ++ line_text (replicas_words n))) ++ lines_text (logs_lines o 1 (first_logs o f 1 m)) → now ≡ mid ++ line_text end_words →
    now ≡ text_of o (first_logs o f 1 (setting_of p).replicas)
all_put o f p n m mid now are within past put ended =
    let q : n ≡ m = omega arith in
    subst (λ (k : ℕ). now ≡ text_of o (first_logs o f 1 k)) (all_passed p n m are within past)
    (all_lines o f m ([] ++ (line_text opening_words ++ line_text (replicas_words m))) mid now refl
    (subst (λ (k : ℕ). mid ≡ ([] ++ (line_text opening_words ++ line_text (replicas_words k))) ++ lines_text (logs_lines o 1 (first_logs o f 1 m))) q put) ended)

pub all_spelled : (o : Schema) (f : ℕ → List Logged) (p : Plan) (n m : ℕ) → n ≡ p.replicas → m ≤ n → n ≤ m → IsPlan p → AllByRecursion (AllByRecursion (IsLogged o)) (first_logs o f 1 m) →
    AreLogs o (first_logs o f 1 (setting_of p).replicas)
all_spelled o f p n m are within past plan all =
    let count : length (first_logs o f 1 m) ≡ m = count_first o f m in
    let some : 0 < p.replicas = plan.some_replicas in
    let few : p.replicas ≤ MAX_REPLICAS = plan.few_replicas in
    subst (λ (k : ℕ). AreLogs o (first_logs o f 1 k)) (all_passed p n m are within past)
    (record { some = omega (arith, count, are, past, some); few = omega (arith, count, are, within, few); each = all })

-- What the auditor answers.
use Rattle.std.proofs.Common.{◌≡◌, ℕ, ◌+◌, ◌-◌, ◌^◌, ◌<◌, ◌≤◌, zero, suc, Bool, true, false, cond, not, List, [], ◌∷◌, length, take, drop, get_or, refl, sym, subst, ap, ◌∙◌, Some, None, Option, Ok, Err, Result, arith}
use Rattle.std.specs.Prelude.{All, is_some, slice_get, ◌==◌, ◌&&◌, OnOk}
use Rattle.std.proofs.lemmas.Option.{slice_get_within, get_or_from_slice_get}
use Rattle.ham_syntax.specs.Objects.{Schema}
use Rattle.ham_syntax.specs.declared.act.Place.{Place}
use Rattle.ham_plan.specs.Plans.{Plan}
use Rattle.ham_plan.specs.Lists.{In}
use Rattle.ham_turns.specs.Settings.{Rules, Setting, rules_of, setting_of}
use Rattle.ham_turns.specs.Work.{first_of_two}
use Rattle.ham_runs.specs.Facts.{IsSetting}
use Rattle.ham_site.specs.Sites.{Site, rules_at, setting_at}
use Rattle.ham_records.specs.declared.records.Logged.{Logged}
use Rattle.ham_audit.specs.declared.fault.AuditFault.{AuditFault}
use Rattle.ham_audit.specs.declared.fault.AuditFault.TheVariants.{BadPlace, Twice, NotDecided, Differs, Gap, Cycle, Impermissible, NeedLate, NoMemory}
use Rattle.ham_audit.specs.Claims.{IsAnswer, IsRecorded, IsSound, FaultlessAreSound}
use Rattle.ham_audit.specs.Faults as faults
use Rattle.ham_audit.specs.Lateness.{IsNeeding}
use Rattle.ham_audit.specs.Order.{order}
use Rattle.ham_audit.specs.Records.{log_of, or_empty, stands}
use Rattle.ham_audit.proofs.Looking.{drop_here, some_first, none_next}

-- ---- by the first that finds a fault

is_answer : (x : Rules) (y : Setting) (records : List (List Logged)) (f : AuditFault) → faults.fault_of x y records ≡ Some f → IsAnswer x y records (Err f)
is_answer x y records (BadPlace r i) h = h
is_answer x y records (Twice r i) h = h
is_answer x y records (NotDecided r i) h = h
is_answer x y records (Differs r i) h = h
is_answer x y records (Gap r i) h = h
is_answer x y records (Cycle r i) h = h
is_answer x y records (Impermissible r i u) h = h
is_answer x y records (NeedLate r i n) h = h
is_answer x y records NoMemory h = tt

module _ (x : Rules) (y : Setting) (records : List (List Logged)) where
  pub answers_placed : (f : AuditFault) → faults.place_fault x y records ≡ Some f → IsAnswer x y records (Err f)
  answers_placed f h = is_answer x y records f (ap (λ o. first_of_two o (faults.later_fault x y records)) h)

  past_place : faults.place_fault x y records ≡ None → faults.fault_of x y records ≡ faults.later_fault x y records
  past_place h = ap (λ o. first_of_two o (faults.later_fault x y records)) h

  pub answers_later : (f : AuditFault) → faults.place_fault x y records ≡ None → faults.later_fault x y records ≡ Some f → IsAnswer x y records (Err f)
  answers_later f h k = is_answer x y records f (past_place h ∙ k)

  pub answers_none : (n : ℕ) → faults.place_fault x y records ≡ None → faults.later_fault x y records ≡ None → n ≡ length (order y records) → IsAnswer x y records (Ok n)
  answers_none n h k size = (past_place h ∙ k, size)

-- ---- at a site

abbrev pub site_of : Schema → Plan → Site
site_of o p = record { object = o; plan = p; me = 1 }

module _ (o : Schema) (p : Plan) (site : Site) (is : site ≡ site_of o p) (records : List (List Logged)) where
  pub recorded_there : IsRecorded (rules_of o) (setting_of p) records → IsRecorded (rules_at site) (setting_at site) records
  unfolding rules_at
  recorded_there h = subst (λ s. IsRecorded (rules_at s) (setting_at s) records) (sym is) h

  pub answer_here : (r : Result ℕ AuditFault) → IsAnswer (rules_at site) (setting_at site) records r → IsAnswer (rules_of o) (setting_of p) records r
  unfolding rules_at
  answer_here r h = subst (λ s. IsAnswer (rules_at s) (setting_at s) records r) is h

pub needing_there : (o : Schema) (p : Plan) (site : Site) → site ≡ site_of o p → IsSetting (rules_of o) (setting_of p) → IsNeeding site
unfolding rules_at
needing_there o p site is h = subst IsNeeding (sym is) h

-- records that are accepted are sound
pub sound_here : (x : Rules) (y : Setting) (records : List (List Logged)) (r : Result ℕ AuditFault) → FaultlessAreSound x y → IsRecorded x y records → IsAnswer x y records r → OnOk r (IsSound x y records)
sound_here x y records (Ok n) sound recorded h = sound records recorded h.0
sound_here x y records (Err f) sound recorded h = tt

-- ---- short logs

pub each_few : (logs : List (List Logged)) → All (λ log. length log < 2 ^ 32 - 1) logs → (r : ℕ) → length (log_of logs r) < 2 ^ 32 - 1
each_few logs all zero = omega arith
each_few logs all (suc n) = told (slice_get logs n) refl
  where
    told : (o : Option (List Logged)) → slice_get logs n ≡ o → length (or_empty o) < 2 ^ 32 - 1
    told None q = omega arith
    told (Some log) q =
        subst (λ (l : List Logged). length l < 2 ^ 32 - 1) (get_or_from_slice_get logs n log log q) (all n log (slice_get_within logs n log q))

-- ---- calls that are left

pub left_here : (y : Setting) (taken : List Place) (r : ℕ) (log : List Logged) (i : ℕ) (e : Logged) → i < length log → e ≡ get_or log i e →
    faults.left_along y taken r (i + 1) (drop i log) ≡
    cond ((y.decider e.place.lane == r) && not (stands e.place taken)) (Some (Cycle r (i + 1))) (faults.left_along y taken r (i + 1 + 1) (drop (i + 1) log))
left_here y taken r log i e h at = ap (faults.left_along y taken r (i + 1)) (drop_here log i e h at)

module _ (y : Setting) (taken : List Place) (r : ℕ) (log : List Logged) (i : ℕ) (e : Logged) (h : i < length log) (at : e ≡ get_or log i e) (b : Bool)
    (is : b ≡ ((y.decider e.place.lane == r) && not (stands e.place taken))) where
  pub left_stops : b ≡ true → Some (Cycle r (i + 1)) ≡ faults.left_along y taken r (i + 1) (drop i log)
  left_stops t = sym (left_here y taken r log i e h at ∙ ap (λ c. cond c (Some (Cycle r (i + 1))) (faults.left_along y taken r (i + 1 + 1) (drop (i + 1) log))) (sym is ∙ t))

  pub left_goes : b ≡ false → faults.left_along y taken r (i + 1 + 1) (drop (i + 1) log) ≡ faults.left_along y taken r (i + 1) (drop i log)
  left_goes f = sym (left_here y taken r log i e h at ∙ ap (λ c. cond c (Some (Cycle r (i + 1))) (faults.left_along y taken r (i + 1 + 1) (drop (i + 1) log))) (sym is ∙ f))

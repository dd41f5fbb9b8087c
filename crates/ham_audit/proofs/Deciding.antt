-- Places at their positions, with the limit of lanes as code names it.
use Rattle.std.proofs.Common.{◌≡◌, ℕ, ◌+◌, ◌<◌, Bool, true, false, cond, not, List, length, refl, sym, subst, ap, ◌∙◌, Some, Option}
use Rattle.std.specs.Prelude.{nat_lt, ◌&&◌, ◌==◌}
use Rattle.std.proofs.lemmas.Bool.{ltb-true, and_parts}
use Rattle.ham_syntax.specs.declared.limits.TheConstants.{MAX_LANE_CALLS}
use Rattle.ham_turns.specs.Settings.{Setting}
use Rattle.ham_site.specs.Sites.{Site, rules_at, setting_at}
use Rattle.ham_site.proofs.Bounds.{limit_is}
use Rattle.ham_records.specs.declared.records.Logged.{Logged}
use Rattle.ham_audit.specs.declared.fault.AuditFault.{AuditFault}
use Rattle.ham_audit.specs.declared.fault.AuditFault.TheVariants as audit
use Rattle.ham_audit.specs.Records.{places, stands}
use Rattle.ham_audit.specs.Faults as faults

pub lane_there : (limit : ℕ) (y : Setting) (e : Logged) → faults.has_place limit y e ≡ true → e.place.lane < y.lanes
lane_there limit y e h = ltb-true e.place.lane y.lanes (and_parts (nat_lt e.place.lane y.lanes) _ (and_parts (nat_lt e.place.lane y.lanes && (y.lane e.act.method (y.decider e.place.lane) == e.place.lane)) _ h).0).0

module _ (site : Site) (records : List (List Logged)) (r index : ℕ) (before : List Logged) (e : Logged) (size : length before ≡ index) where
  pub limited : (b : Bool) → faults.has_place MAX_LANE_CALLS (setting_at site) e ≡ b → faults.has_place (rules_at site).lane_limit (setting_at site) e ≡ b
  limited b h = ap (λ n. faults.has_place n (setting_at site) e) (limit_is site) ∙ h

  pub bad_place : faults.has_place MAX_LANE_CALLS (setting_at site) e ≡ false →
      Some (audit.BadPlace r (index + 1)) ≡ faults.fault_at (rules_at site) (setting_at site) records r before e
  bad_place h = sym (first (faults.has_place (rules_at site).lane_limit (setting_at site) e) _ (limited false h) ∙ ap (λ n. Some (audit.BadPlace r (n + 1))) size)
    where
      first : (b : Bool) (rest : Option AuditFault) → b ≡ false → cond (not b) (Some (audit.BadPlace r (length before + 1))) rest ≡ Some (audit.BadPlace r (length before + 1))
      first false rest q = refl
      first true rest q = absurd (cc)

  pub bad_twice : faults.has_place MAX_LANE_CALLS (setting_at site) e ≡ true → stands e.place (places before) ≡ true →
      Some (audit.Twice r (index + 1)) ≡ faults.fault_at (rules_at site) (setting_at site) records r before e
  bad_twice h t = sym (second (faults.has_place (rules_at site).lane_limit (setting_at site) e) (stands e.place (places before)) _ (limited true h) t ∙ ap (λ n. Some (audit.Twice r (n + 1))) size)
    where
      second : (b d : Bool) (rest : Option AuditFault) → b ≡ true → d ≡ true →
          cond (not b) (Some (audit.BadPlace r (length before + 1))) (cond d (Some (audit.Twice r (length before + 1))) rest) ≡ Some (audit.Twice r (length before + 1))
      second true true rest q k = refl
      second true false rest q k = absurd (cc)
      second false d rest q k = absurd (cc)

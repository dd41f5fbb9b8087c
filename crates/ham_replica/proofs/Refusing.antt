-- The refusals of an issue, test by test.
use Rattle.std.proofs.Common.{◌≡◌, ◌≢◌, ◌≤◌, ◌<◌, Bool, true, false, length, refl, arith}
use Rattle.std.specs.Prelude.{Option, Some, None, nat_lt, nat_le, IsTrue, not, ◌&&◌, if◌then◌else◌}
use Rattle.std.proofs.lemmas.Bool.{ltb-true, le-ltb, lt-ltb, leb-false, le-leb, lt-leb, eq-eqb, ne_eqb}
use Rattle.ham_syntax.specs.declared.act.Act.{Act}
use Rattle.ham_turns.specs.declared.turn.IssueRefusal.{IssueRefusal}
use Rattle.ham_turns.specs.declared.turn.IssueRefusal.TheVariants as refusals
use Rattle.ham_site.specs.Sites.{Site, rules_at, setting_at}
use Rattle.ham_site.proofs.Bounds.{limit_is}
use Rattle.ham_turns.specs.Words.{ReplicaWords}
use Rattle.ham_turns.specs.Work.{lane_here}
use Rattle.ham_turns.specs.Refusals.{is_here, issue_refusal}

-- the tests in order: the method exists, the arguments fit, decided here, lane full, requests full
abbrev by_tests : Bool → Bool → Bool → Bool → Bool → Option IssueRefusal
by_tests exists fits here full many =
    if not exists then Some refusals.UnknownMethod
    else if not fits then Some refusals.BadArgs
    else if here && full then Some refusals.LaneFull
    else if not here && many then Some refusals.RequestsFull
    else None

by_none : (exists fits here full many : Bool) → by_tests exists fits here full many ≡ None → (exists ≡ true) × (fits ≡ true) × ((here && full) ≡ false) × ((not here && many) ≡ false)
by_none false fits here full many e = cc
by_none true false here full many e = cc
by_none true true true true many e = cc
by_none true true true false many e = (refl, refl, refl, refl)
by_none true true false full true e = cc
by_none true true false full false e = (refl, refl, refl, refl)

second_false : (b c : Bool) → b ≡ true → (b && c) ≡ false → c ≡ false
second_false true c t e = e
second_false false c t e = cc

second_not : (b c : Bool) → b ≡ false → (not b && c) ≡ false → c ≡ false
second_not false c t e = e
second_not true c t e = cc

-- what the tests of an issue let pass
pub record HasIssued (site : Site) (w : ReplicaWords) (a : Act) : Type 0 where
  pub method : a.method < (setting_at site).methods
  pub fits : IsTrue ((rules_at site).fits a)
  pub room : (setting_at site).decider (lane_here (setting_at site) site.me a) ≡ site.me → length (w.decided (lane_here (setting_at site) site.me a)) < 65536
  pub few : (setting_at site).decider (lane_here (setting_at site) site.me a) ≢ site.me → length (w.requests (lane_here (setting_at site) site.me a)) < 65536

module _ (site : Site) (w : ReplicaWords) (a : Act) where
  tests_are : (exists fits here full many : Bool) → nat_lt a.method (setting_at site).methods ≡ exists → (rules_at site).fits a ≡ fits → is_here (setting_at site) site.me a ≡ here →
      nat_le (rules_at site).lane_limit (length (w.decided (lane_here (setting_at site) site.me a))) ≡ full → nat_le 65536 (length (w.requests (lane_here (setting_at site) site.me a))) ≡ many →
      issue_refusal (rules_at site) (setting_at site) w site.me a ≡ by_tests exists fits here full many
  tests_are exists fits here full many e f h l m = λ i. by_tests (e i) (f i) (h i) (l i) (m i)

  pub unknown_method : (setting_at site).methods ≤ a.method → issue_refusal (rules_at site) (setting_at site) w site.me a ≡ Some refusals.UnknownMethod
  unknown_method h = tests_are false _ _ _ _ (le-ltb a.method (setting_at site).methods h) refl refl refl refl

  pub bad_args : a.method < (setting_at site).methods → (rules_at site).fits a ≡ false → issue_refusal (rules_at site) (setting_at site) w site.me a ≡ Some refusals.BadArgs
  bad_args h f = tests_are true false _ _ _ (lt-ltb a.method (setting_at site).methods h) f refl refl refl

  pub lane_full : a.method < (setting_at site).methods → (rules_at site).fits a ≡ true → (setting_at site).decider (lane_here (setting_at site) site.me a) ≡ site.me → 65536 ≤ length (w.decided (lane_here (setting_at site) site.me a)) →
      issue_refusal (rules_at site) (setting_at site) w site.me a ≡ Some refusals.LaneFull
  lane_full h f mine full = tests_are true true true true _ (lt-ltb a.method (setting_at site).methods h) f (eq-eqb _ _ mine) (le-leb _ _ (let limit = limit_is site in omega arith)) refl

  pub accepted_here : a.method < (setting_at site).methods → (rules_at site).fits a ≡ true → (setting_at site).decider (lane_here (setting_at site) site.me a) ≡ site.me → length (w.decided (lane_here (setting_at site) site.me a)) < 65536 →
      issue_refusal (rules_at site) (setting_at site) w site.me a ≡ None
  accepted_here h f mine room = tests_are true true true false _ (lt-ltb a.method (setting_at site).methods h) f (eq-eqb _ _ mine) (lt-leb _ _ (let limit = limit_is site in omega arith)) refl

  pub requests_full : a.method < (setting_at site).methods → (rules_at site).fits a ≡ true → (setting_at site).decider (lane_here (setting_at site) site.me a) ≢ site.me → 65536 ≤ length (w.requests (lane_here (setting_at site) site.me a)) →
      issue_refusal (rules_at site) (setting_at site) w site.me a ≡ Some refusals.RequestsFull
  requests_full h f other full = tests_are true true false _ true (lt-ltb a.method (setting_at site).methods h) f (ne_eqb _ _ other) refl (le-leb _ _ full)

  pub accepted_elsewhere : a.method < (setting_at site).methods → (rules_at site).fits a ≡ true → (setting_at site).decider (lane_here (setting_at site) site.me a) ≢ site.me → length (w.requests (lane_here (setting_at site) site.me a)) < 65536 →
      issue_refusal (rules_at site) (setting_at site) w site.me a ≡ None
  accepted_elsewhere h f other room = tests_are true true false _ false (lt-ltb a.method (setting_at site).methods h) f (ne_eqb _ _ other) refl (lt-leb _ _ room)

  -- what the tests of an issue let pass
  pub issue_passed : issue_refusal (rules_at site) (setting_at site) w site.me a ≡ None → HasIssued site w a
  issue_passed e =
      let told = by_none (nat_lt a.method (setting_at site).methods) ((rules_at site).fits a) (is_here (setting_at site) site.me a)
      (nat_le (rules_at site).lane_limit (length (w.decided (lane_here (setting_at site) site.me a)))) (nat_le 65536 (length (w.requests (lane_here (setting_at site) site.me a)))) e in
      record {
        method = ltb-true _ _ told.0;
        fits = told.1;
        room = λ mine.
            let few : length (w.decided (lane_here (setting_at site) site.me a)) < (rules_at site).lane_limit = leb-false _ _ (second_false _ _ (eq-eqb _ _ mine) told.2) in
            let limit = limit_is site in
            omega arith;
        few = λ other. leb-false _ _ (second_not _ _ (ne_eqb _ _ other) told.3);
      }

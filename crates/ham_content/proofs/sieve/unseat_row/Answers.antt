use Rattle.std.proofs.Common.{arith, ◌≡◌, ℕ, ◌+◌, ◌<◌, List, Option, Some, None, ◌&&◌, not, cond, Bool, true, false, sym, ap, ◌∙◌, subst, refl, is_some}
use Rattle.std.specs.Prelude.{if◌then◌else◌, ◌==◌}
use Rattle.std.specs.HashMap as hash
use Rattle.ham_content.specs.Numbers.{same}
use Rattle.ham_content.specs.Tallies.{count}
use Rattle.ham_content.specs.Counted.{at_columns}
use Rattle.ham_content.specs.Seats.{same_seat, seat}
use Rattle.ham_content.proofs.Numbers.{alike}
use Rattle.ham_content.proofs.Seating.{listed_less}
use Rattle.ham_content.proofs.sieve.unseat_row.Goals as goal

-- whether a row has a number after one went and one got another's
seated_less : (a b : Bool) (j : ℕ) (o : Option ℕ) → (b ≡ true → is_some o ≡ true) → is_some (cond a None (cond b (Some j) o)) ≡ (not a && is_some o)
seated_less true b j o h = refl
seated_less false true j o h = sym (h refl)
seated_less false false j o h = refl

pub lower-last-requires : goal.lower-last-requires
lower-last-requires c =
    let f = at_columns c.args.columns.now in
    let there : hash.get same c.args.numbers.now c.args.row ≡ Some c.in-Some.number = sym c.number_of.ensures ∙ c.in-Some.is in
    let below : c.in-Some.number < count c.args.tallies.now (f c.args.row) = (c.requires.listed.knows (f c.args.row) c.args.row c.in-Some.number (c.requires.listed.seated c.args.row c.in-Some.number there)).2 in
    record { some = subst (λ k. 0 < count c.args.tallies.now k) (sym c.project-key.ensures) (omega (arith, below)) }

pub stand-requires-clause-last : goal.stand-requires-clause-last
stand-requires-clause-last c =
    (c.requires.listed.knows c.project-key.result c.in-Some-row_at.moved c.lower-last.result (sym c.row_at.ensures ∙ c.in-Some-row_at.is)).1

pub returns-in-Some-row_at-clause-listed : goal.returns-in-Some-row_at-clause-listed
returns-in-Some-row_at-clause-listed c =
    let f = at_columns c.args.columns.now in
    let number = c.in-Some.number in
    let last = c.lower-last.result in
    let moved = c.in-Some-row_at.moved in
    let there : hash.get same c.args.numbers.now c.args.row ≡ Some number = sym c.number_of.ensures ∙ c.in-Some.is in
    let top : hash.get same_seat c.args.seats.now (seat (f c.args.row) last) ≡ Some moved = subst (λ k. hash.get same_seat c.args.seats.now (seat k last) ≡ Some moved) c.project-key.ensures (sym c.row_at.ensures ∙ c.in-Some-row_at.is) in
    let total : last + 1 ≡ count c.args.tallies.now (f c.args.row) = subst (λ k. last + 1 ≡ count c.args.tallies.now k) c.project-key.ensures c.lower-last.ensures.now in
    let counts : (q : List ℕ) → count c.lower-last.new.tallies q + (if same (f c.args.row) q then 1 else 0) ≡ count c.args.tallies.now q = subst (λ k. (q : List ℕ) → count c.lower-last.new.tallies q + (if same k q then 1 else 0) ≡ count c.args.tallies.now q) c.project-key.ensures c.lower-last.ensures.counts in
    let seats : (k : List ℕ) (i : ℕ) → hash.get same_seat c.stand.new.seats (seat k i) ≡ cond (same (f c.args.row) k && (last == i)) None (cond (same (f c.args.row) k && (number == i)) (Some moved) (hash.get same_seat c.args.seats.now (seat k i))) =
    subst (λ z. (k : List ℕ) (i : ℕ) → hash.get same_seat c.stand.new.seats (seat k i) ≡ cond (same z k && (last == i)) None (cond (same z k && (number == i)) (Some moved) (hash.get same_seat c.args.seats.now (seat k i)))) c.project-key.ensures (λ k i. c.stand.ensures.seats (seat k i)) in
    listed_less f (count c.args.tallies.now) (count c.lower-last.new.tallies) (λ k n. hash.get same_seat c.args.seats.now (seat k n)) (λ k n. hash.get same_seat c.stand.new.seats (seat k n)) (hash.get same c.args.numbers.now) (hash.get same c.stand.new.numbers) c.args.row number last moved there total top counts seats c.stand.ensures.numbers c.requires.listed

pub returns-in-Some-row_at-clause-rows : goal.returns-in-Some-row_at-clause-rows
returns-in-Some-row_at-clause-rows c = λ x.
    let moved = c.in-Some-row_at.moved in
    let kept : hash.get same c.args.numbers.now moved ≡ Some c.lower-last.result = (c.requires.listed.knows c.project-key.result moved c.lower-last.result (sym c.row_at.ensures ∙ c.in-Some-row_at.is)).1 in
    ap is_some (c.stand.ensures.numbers x)
    ∙ seated_less (same c.args.row x) (same moved x) c.in-Some.number (hash.get same c.args.numbers.now x) (λ b. ap is_some (ap (hash.get same c.args.numbers.now) (sym (alike moved x b)) ∙ kept))

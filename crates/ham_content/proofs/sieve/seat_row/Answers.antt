use Rattle.std.proofs.Common.{◌≡◌, ℕ, ◌^◌, ◌<◌, Option, Some, cond, ◌&&◌, ◌||◌, Bool, true, false, sym, ap, ◌∙◌, subst, refl, is_some}
use Rattle.std.specs.Prelude.{◌==◌}
use Rattle.std.specs.HashMap as hash
use Rattle.ham_content.specs.Numbers.{same}
use Rattle.ham_content.specs.Tallies.{count}
use Rattle.ham_content.specs.Counted.{at_columns}
use Rattle.ham_content.specs.Seats.{same_seat, seat}
use Rattle.ham_content.proofs.Seating.{listed_more, none_seated, counts_more}
use Rattle.ham_content.proofs.sieve.seat_row.Goals as goal

pub raise-requires-clause-fits : goal.raise-requires-clause-fits
raise-requires-clause-fits c = subst (λ k. count c.args.tallies.now k < 2 ^ 63) (sym c.project-key.ensures) c.requires.fits

pub returns-clause-counts : goal.returns-clause-counts
returns-clause-counts c = counts_more (count c.args.tallies.now) (count c.raise.new.tallies) c.project-key.result (at_columns c.args.columns.now c.args.row) c.project-key.ensures c.raise.ensures.counts

pub returns-clause-listed : goal.returns-clause-listed
returns-clause-listed c =
    let f = at_columns c.args.columns.now in
    let key = c.project-key.ensures in
    let number : c.count_at-number.result ≡ count c.args.tallies.now (f c.args.row) = c.count_at-number.ensures ∙ ap (count c.args.tallies.now) key in
    listed_more f (count c.args.tallies.now) (count c.raise.new.tallies) (λ k n. hash.get same_seat c.args.seats.now (seat k n)) (λ k n. hash.get same_seat c.sit.new.seats (seat k n)) (hash.get same c.args.numbers.now) (hash.get same c.sit.new.numbers) c.args.row
    (none_seated (hash.get same c.args.numbers.now c.args.row) c.requires.absent)
    (counts_more (count c.args.tallies.now) (count c.raise.new.tallies) c.project-key.result (f c.args.row) key c.raise.ensures.counts)
    (λ k n. c.sit.ensures.seats (seat k n) ∙ (λ i. cond (same (key i) k && (number i == n)) (Some c.args.row) (hash.get same_seat c.args.seats.now (seat k n))))
    (λ x. c.sit.ensures.numbers x ∙ (λ i. cond (same c.args.row x) (Some (number i)) (hash.get same c.args.numbers.now x)))
    c.requires.listed

is_one_of : (b : Bool) (n : ℕ) (o : Option ℕ) → is_some (cond b (Some n) o) ≡ (b || is_some o)
is_one_of true n o = refl
is_one_of false n o = refl

pub returns-clause-rows : goal.returns-clause-rows
returns-clause-rows c = λ x. ap is_some (c.sit.ensures.numbers x) ∙ is_one_of (same c.args.row x) c.count_at-number.result (hash.get same c.args.numbers.now x)

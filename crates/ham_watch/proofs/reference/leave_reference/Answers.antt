use Rattle.std.proofs.Common.{refl, arith, ◌≡◌, ℕ, ◌+◌, ◌≤◌, ◌<◌, ◌∙◌, List, sym, ap, subst, ◌&&◌, not, true, false, Bool, cond}
use Rattle.std.specs.Prelude.{if◌then◌else◌, nat_lt, nat_eq, ◌==◌}
use Rattle.std.specs.HashMap as hash
use Rattle.std.specs.HashMap.{HashMap}
use Rattle.std.specs.HashSet as bag
use Rattle.std.proofs.lemmas.Bool.{and_parts, eqb-true, true≢false}
use Rattle.ham_content.specs.Numbers.{same}
use Rattle.ham_content.specs.Tallies.{count}
use Rattle.ham_steps.specs.Pattern.{is_row}
use Rattle.ham_steps.specs.Content.{without_rows, has}
use Rattle.ham_content.specs.Kept.{content}
use Rattle.ham_content.specs.Counted.{at_columns, tally}
use Rattle.ham_content.proofs.Tallies.{tally-some}
use Rattle.ham_content.proofs.Counting.{tally-without_row, there_less}
use Rattle.ham_watch.proofs.Breaking.{vain_less}
use Rattle.ham_watch.proofs.Marking.{room_to_mark, first_keep, second_keep, lost_with, none_lost, emptied}
use Rattle.ham_watch.proofs.reference.leave_reference.Goals as goal

not_there : (x : Bool) → not x ≡ true → x ≡ false
not_there true e = absurd (true≢false (sym e))
not_there false e = refl

was_counted : (n k : ℕ) (h b : Bool) → n ≡ k → b ≡ (nat_lt 0 k && not h) → b ≡ true → nat_lt 0 n ≡ true
was_counted n k h b e is on = ap (nat_lt 0) e ∙ (and_parts (nat_lt 0 k) (not h) (sym is ∙ on)).0

no_tally : {T : Type 0} (tallies : HashMap (List ℕ) ℕ T) (n : ℕ) (key : List ℕ) (h g : Bool) (m b : Bool) → (h ≡ false → g ≡ false) → (k : ℕ) → b ≡ (nat_lt 0 k && not h) → m ≡ (nat_lt 0 n && not g) → n ≡ count tallies key → b ≡ true → m ≡ false → nat_eq (count tallies key) 0 ≡ true
no_tally tallies n key h g m b less k was is same_number on off = ap (λ z. nat_eq z 0) (sym same_number) ∙ emptied n h g m b less k was is on off

pub lower_if-number-requires : goal.lower_if-number-requires
lower_if-number-requires c = record {
  some = λ e.
      let here : has (content c.args.facts.now c.args.amounts.now) c.args.from c.args.row ≡ true = ap (λ z. has (content c.args.facts.now c.args.amounts.now) z c.args.row) (eqb-true c.args.from c.args.relation e) ∙ c.requires.there in
      let some = tally-some (content c.args.facts.now c.args.amounts.now) c.args.from c.args.row c.args.columns here in
      subst (λ n. 0 < n) (sym (c.requires.watched.tallied c.project-key.result ∙ ap (tally (content c.args.facts.now c.args.amounts.now) c.args.from c.args.columns) c.project-key.ensures)) some;
}

-- what was marked had a tally
pub mark_if-requires : goal.mark_if-requires
mark_if-requires c = record {
  room = λ p.
      let asked = and_parts (c.args.from == c.args.relation) (c.is_in_vain-marked.result && not (bag.contains same c.args.broken.now c.project-key.result)) p in
      let parts = and_parts c.is_in_vain-marked.result (not (bag.contains same c.args.broken.now c.project-key.result)) asked.1 in
      let off : bag.contains same c.args.broken.now c.project-key.result ≡ false = not_there (bag.contains same c.args.broken.now c.project-key.result) parts.1 in
      let marks : (q : List ℕ) → bag.contains same c.args.broken.now q ≡ true → nat_lt 0 (count c.args.tallies.now q) ≡ true = λ q e. was_counted (count c.args.tallies.now q) (tally (content c.args.facts.now c.args.amounts.now) c.args.from c.args.columns q) (has (content c.args.facts.now c.args.amounts.now) c.args.to q) (bag.contains same c.args.broken.now q) (c.requires.watched.tallied q) (c.requires.watched.marked q) e in
      let on : nat_lt 0 (count c.lower_if-number.new.tallies c.project-key.result) ≡ true = ap (nat_lt 0) (sym c.lower_if-number.ensures.now) ∙ (and_parts (nat_lt 0 c.lower_if-number.result) (not c.is_there_without-there.result) (sym c.is_in_vain-marked.ensures ∙ parts.0)).0 in
      let len = c.lower_if-number.ensures.len in
      let room : hash.hash_map_len c.lower_if-number.new.tallies ≤ bag.hash_set_len c.args.broken.now + bag.spare c.args.broken.now = let r = c.requires.room.1 in omega arith in
      room_to_mark c.lower_if-number.new.tallies c.args.broken.now c.project-key.result c.len-marks.ensures.unique (first_keep (c.args.from == c.args.relation) c.project-key.result (bag.contains same c.args.broken.now) (count c.args.tallies.now) (count c.lower_if-number.new.tallies) c.lower_if-number.ensures.counts marks off) off on room;
}

pub mark_if-requires-2 : goal.mark_if-requires-2
mark_if-requires-2 c = record {
  room = λ p.
      let asked = and_parts (c.args.to == c.args.relation) (nat_lt 0 c.count_at-aimed.result && not (bag.contains same c.mark_if.new.broken c.args.row)) p in
      let parts = and_parts (nat_lt 0 c.count_at-aimed.result) (not (bag.contains same c.mark_if.new.broken c.args.row)) asked.1 in
      let off : bag.contains same c.mark_if.new.broken c.args.row ≡ false = not_there (bag.contains same c.mark_if.new.broken c.args.row) parts.1 in
      let marks : (q : List ℕ) → bag.contains same c.args.broken.now q ≡ true → nat_lt 0 (count c.args.tallies.now q) ≡ true = λ q e. was_counted (count c.args.tallies.now q) (tally (content c.args.facts.now c.args.amounts.now) c.args.from c.args.columns q) (has (content c.args.facts.now c.args.amounts.now) c.args.to q) (bag.contains same c.args.broken.now q) (c.requires.watched.tallied q) (c.requires.watched.marked q) e in
      let some : c.is_in_vain-marked.result ≡ true → nat_lt 0 (count c.lower_if-number.new.tallies c.project-key.result) ≡ true = λ e. ap (nat_lt 0) (sym c.lower_if-number.ensures.now) ∙ (and_parts (nat_lt 0 c.lower_if-number.result) (not c.is_there_without-there.result) (sym c.is_in_vain-marked.ensures ∙ e)).0 in
      let on : nat_lt 0 (count c.lower_if-number.new.tallies c.args.row) ≡ true = ap (nat_lt 0) (sym c.count_at-aimed.ensures) ∙ parts.0 in
      let lost = lost_with (c.args.from == c.args.relation) (bag.contains same c.args.broken.now c.project-key.result) c.is_in_vain-marked.result (nat_eq (count c.lower_if-number.new.tallies c.project-key.result) 0) (no_tally c.lower_if-number.new.tallies c.lower_if-number.result c.project-key.result (has (content c.args.facts.now c.args.amounts.now) c.args.to c.project-key.result) (has (without_rows (content c.args.facts.now c.args.amounts.now) c.args.relation (is_row c.args.row)) c.args.to c.project-key.result) c.is_in_vain-marked.result (bag.contains same c.args.broken.now c.project-key.result) (λ e. there_less (content c.args.facts.now c.args.amounts.now) c.args.relation c.args.row c.args.to c.project-key.result ∙ ap (λ b. b && not ((c.args.to == c.args.relation) && same c.args.row c.project-key.result)) e) (tally (content c.args.facts.now c.args.amounts.now) c.args.from c.args.columns c.project-key.result) (c.requires.watched.marked c.project-key.result) (c.is_in_vain-marked.ensures ∙ ap (λ b. nat_lt 0 c.lower_if-number.result && not b) c.is_there_without-there.ensures) c.lower_if-number.ensures.now) in
      let len = c.lower_if-number.ensures.len in
      let kept = c.mark_if.ensures.room in
      let room : hash.hash_map_len c.lower_if-number.new.tallies ≤ bag.hash_set_len c.mark_if.new.broken + bag.spare c.mark_if.new.broken = let r = c.requires.room.1 in omega arith in
      room_to_mark c.lower_if-number.new.tallies c.mark_if.new.broken c.args.row c.len-marked.ensures.unique (second_keep (c.args.from == c.args.relation) c.project-key.result c.is_in_vain-marked.result (bag.contains same c.args.broken.now) (bag.contains same c.mark_if.new.broken) (count c.args.tallies.now) (count c.lower_if-number.new.tallies) c.mark_if.ensures.marks c.lower_if-number.ensures.counts marks some) off on room;
}

pub returns-clause-watched : goal.returns-clause-watched
returns-clause-watched c =
    let key : c.project-key.result ≡ at_columns c.args.columns c.args.row = c.project-key.ensures in
    let tallied : (k : List ℕ) → count c.lower_if-number.new.tallies k ≡ tally (without_rows (content c.args.facts.now c.args.amounts.now) c.args.relation (is_row c.args.row)) c.args.from c.args.columns k = λ k.
    let less : count c.lower_if-number.new.tallies k + (if (c.args.from == c.args.relation) && same (at_columns c.args.columns c.args.row) k then 1 else 0) ≡ tally (without_rows (content c.args.facts.now c.args.amounts.now) c.args.relation (is_row c.args.row)) c.args.from c.args.columns k + (if (c.args.from == c.args.relation) && same (at_columns c.args.columns c.args.row) k then 1 else 0) =
    ap (λ z. count c.lower_if-number.new.tallies k + (if (c.args.from == c.args.relation) && same z k then 1 else 0)) (sym key)
    ∙ c.lower_if-number.ensures.counts k ∙ c.requires.watched.tallied k
    ∙ sym (tally-without_row (content c.args.facts.now c.args.amounts.now) c.args.relation c.args.row c.args.from c.args.columns k c.requires.there) in
    omega arith in
    record {
      tallied = tallied;
      marked = vain_less (content c.args.facts.now c.args.amounts.now) c.args.relation c.args.row c.args.from c.args.columns c.args.to c.project-key.result c.is_in_vain-marked.result (nat_lt 0 c.count_at-aimed.result) (bag.contains same c.mark_if-2.new.broken) (bag.contains same c.args.broken.now) key c.requires.there
          (c.is_in_vain-marked.ensures ∙ (λ i. nat_lt 0 ((c.lower_if-number.ensures.now ∙ tallied c.project-key.result) i) && not (c.is_there_without-there.ensures i)))
          (ap (nat_lt 0) (c.count_at-aimed.ensures ∙ tallied c.args.row))
          (λ q. c.mark_if-2.ensures.marks q ∙ ap (λ z. cond ((c.args.to == c.args.relation) && same c.args.row q) (nat_lt 0 c.count_at-aimed.result) z) (c.mark_if.ensures.marks q))
          c.requires.watched.marked;
    }

pub returns-clause-room : goal.returns-clause-room
returns-clause-room c = λ n given.
    let marks : (q : List ℕ) → bag.contains same c.args.broken.now q ≡ true → nat_lt 0 (count c.args.tallies.now q) ≡ true = λ q e. was_counted (count c.args.tallies.now q) (tally (content c.args.facts.now c.args.amounts.now) c.args.from c.args.columns q) (has (content c.args.facts.now c.args.amounts.now) c.args.to q) (bag.contains same c.args.broken.now q) (c.requires.watched.tallied q) (c.requires.watched.marked q) e in
    let some : c.is_in_vain-marked.result ≡ true → nat_lt 0 (count c.lower_if-number.new.tallies c.project-key.result) ≡ true = λ e. ap (nat_lt 0) (sym c.lower_if-number.ensures.now) ∙ (and_parts (nat_lt 0 c.lower_if-number.result) (not c.is_there_without-there.result) (sym c.is_in_vain-marked.ensures ∙ e)).0 in
    let lost = lost_with (c.args.from == c.args.relation) (bag.contains same c.args.broken.now c.project-key.result) c.is_in_vain-marked.result (nat_eq (count c.lower_if-number.new.tallies c.project-key.result) 0) (no_tally c.lower_if-number.new.tallies c.lower_if-number.result c.project-key.result (has (content c.args.facts.now c.args.amounts.now) c.args.to c.project-key.result) (has (without_rows (content c.args.facts.now c.args.amounts.now) c.args.relation (is_row c.args.row)) c.args.to c.project-key.result) c.is_in_vain-marked.result (bag.contains same c.args.broken.now c.project-key.result) (λ e. there_less (content c.args.facts.now c.args.amounts.now) c.args.relation c.args.row c.args.to c.project-key.result ∙ ap (λ b. b && not ((c.args.to == c.args.relation) && same c.args.row c.project-key.result)) e) (tally (content c.args.facts.now c.args.amounts.now) c.args.from c.args.columns c.project-key.result) (c.requires.watched.marked c.project-key.result) (c.is_in_vain-marked.ensures ∙ ap (λ b. nat_lt 0 c.lower_if-number.result && not b) c.is_there_without-there.ensures) c.lower_if-number.ensures.now) in
    let none = none_lost (c.args.to == c.args.relation) (bag.contains same c.mark_if.new.broken c.args.row) (nat_lt 0 c.count_at-aimed.result) (λ e. ap (nat_lt 0) c.count_at-aimed.ensures ∙ second_keep (c.args.from == c.args.relation) c.project-key.result c.is_in_vain-marked.result (bag.contains same c.args.broken.now) (bag.contains same c.mark_if.new.broken) (count c.args.tallies.now) (count c.lower_if-number.new.tallies) c.mark_if.ensures.marks c.lower_if-number.ensures.counts marks some c.args.row e) in
    let len = c.lower_if-number.ensures.len in
    let first = c.mark_if.ensures.room in
    let second = c.mark_if-2.ensures.room in
    let spare = c.lower_if-number.ensures.spare in
    let r = given.1 in
    let r0 = given.0 in
    (omega arith, omega arith)

-- Lists that change in nothing that a drain reads: other acknowledgements, requests and rulings.
use Rattle.std.proofs.Common.{◌≡◌, ◌++◌, ℕ, ◌+◌, List, [], ◌∷◌, length, refl, ap, ◌∙◌}
use Rattle.std.specs.List.{AllByRecursion}
use Rattle.ham_frame.specs.declared.frame.Ruled.{Ruled}
use Rattle.ham_resend.specs.declared.asks.Ask.{Ask}
use Rattle.ham_turns.specs.declared.turn.Out.{Out}
use Rattle.ham_turns.specs.Ready.{IsSettled}
use Rattle.ham_site.specs.Sites.{Site, setting_at}
use Rattle.ham_replica.specs.Values.{Lists, words}
use Rattle.ham_replica.specs.Kept.{IsKept, HasRanges}
use Rattle.ham_replica.proofs.Readiness.{within_to, within_from}

module _ (site : Site) (v : Lists) (acked : List (List ℕ)) (asks : List (List Ask)) (rulings : List (List (List Ruled))) where
  abbrev other : Lists
  other = record v { acked = acked; asks = asks; rulings = rulings }

  pub kept_with : IsKept site v → length acked ≡ (setting_at site).lanes → AllByRecursion (λ a. length a ≡ (setting_at site).replicas + 1) acked → length asks ≡ (setting_at site).groups →
      length rulings ≡ (setting_at site).replicas + 1 → AllByRecursion (λ s. length s ≡ (setting_at site).groups) rulings → HasRanges other → IsKept site other
  kept_with is lanes peers groups senders each ranges = record {
    at = is.at;
    opened = is.opened;
    shaped = record {
      counts = is.shaped.counts;
      logged = is.shaped.logged;
      decided = is.shaped.decided;
      acked = lanes;
      peers = peers;
      came = is.shaped.came;
      lanes = is.shaped.lanes;
      buffer = is.shaped.buffer;
      asks = groups;
      senders = senders;
      groups = each;
    };
    lanes = is.lanes;
    here = is.here;
    elsewhere = is.elsewhere;
    few = is.few;
    total = is.total;
    counted = is.counted;
    slotted = is.slotted;
    values = is.values;
    folded = record { calls = is.folded.calls; places = is.folded.places; kept = is.folded.kept; only = is.folded.only; state = is.folded.state };
    waiting = λ p k e. let w = is.waiting p k e in record { place = w.place; lane = w.lane; elsewhere = w.elsewhere; above = w.above; few = w.few; method = w.method; own = w.own; fits = w.fits; waits = w.waits };
    ranges = ranges;
  }

  pub settled_with : IsSettled (setting_at site) (words v) → IsSettled (setting_at site) (words other)
  settled_with settled c r = settled c (record {
    lane = r.lane;
    kept = r.kept;
    next = r.next;
    counts = within_to (words v) v.counts (λ s. refl) ((setting_at site).needs c.act.method) c.deps (within_from (words other) v.counts (λ s. refl) ((setting_at site).needs c.act.method) c.deps r.counts);
  })

-- one frame, as the code puts it into an empty list
pub one_frame : (out items rest : List Out) (o : Out) → out ≡ items → items ≡ rest ++ o ∷ [] → rest ≡ [] → out ≡ o ∷ []
one_frame out items rest o e f none = e ∙ f ∙ ap (λ l. l ++ o ∷ []) none

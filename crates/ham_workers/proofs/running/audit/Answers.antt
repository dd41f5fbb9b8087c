use Rattle.std.proofs.Common.{◌≡◌, ◌∙◌, ◌↔◌, Bool, IsTrue, vec_len, subst, sym, map, arith}
use Rattle.std.proofs.lemmas.List.{length-map}
use Rattle.std.proofs.lemmas.List.Sums.{sum-map}
use Rattle.ham_journal.specs.Laws.{HoldsStop}
use Rattle.ham_core.specs.Kept.{core_of}
use Rattle.ham_workers.proofs.running.audit.Goals as goal

pub returns : goal.returns
returns g c = record {
  journal = c.into_inner-guarded.result.journal;
  is_journal = record {
    core = core_of c.into_inner-guarded.result;
    folded = c.stopped-stopped.ensures.told;
    closed = c.closed_log.ensures;
    stopped = subst (λ (b : Bool). IsTrue b ↔ HoldsStop c.into_inner-guarded.result.journal) c.stopped-stopped.ensures.stopped c.stopped-stopped.ensures.exactly;
  };
  long = c.gathered.ensures.journal;
  shares = map (λ s. s.share.amount) c.args.back.items;
  each = (let back : vec_len c.args.back ≡ g.L.Ledger.parts = c.requires.back in omega (arith, length-map c.args.back.items (λ s. s.share.amount), back, c.args.back.ok));
  sums = c.gathered.ensures.shares ∙ sym (sum-map (λ s. s.share.amount) c.args.back.items);
}

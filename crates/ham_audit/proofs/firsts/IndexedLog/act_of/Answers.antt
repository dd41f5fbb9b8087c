use Rattle.std.proofs.Common.{sym, ap, ◌∙◌, Some}
use Rattle.std.proofs.lemmas.Option.{slice_get_within, get_or_from_slice_get}
use Rattle.ham_records.specs.declared.records.Logged.{Logged}
use Rattle.ham_audit.specs.Indexed.{first_act}
use Rattle.ham_audit.proofs.Indexing.{found_at, found_not}
use Rattle.ham_audit.proofs.firsts.IndexedLog.act_of.Goals as goal

pub bounds-self-inside-first : goal.bounds-self-inside-first
bounds-self-inside-first c =
    let w = found_at c.self.inside.firsts c.self.inside.log.now c.args.place c.in-Some.first c.self.invariant (sym c.first_of.ensures ∙ c.in-Some.is) in
    slice_get_within c.self.inside.log.now c.in-Some.first w.0 w.1

pub returns-in-Some : goal.returns-in-Some
returns-in-Some c =
    let w = found_at c.self.inside.firsts c.self.inside.log.now c.args.place c.in-Some.first c.self.invariant (sym c.first_of.ensures ∙ c.in-Some.is) in
    ap (λ (e : Logged). Some e.act) (get_or_from_slice_get c.self.inside.log.now c.in-Some.first w.0 c.index-self-first.result w.1)
    ∙ sym w.2 ∙ ap (λ l. first_act c.args.place l) c.self.view_is

pub returns-in-None : goal.returns-in-None
returns-in-None c =
    sym (found_not c.self.inside.firsts c.self.inside.log.now c.args.place c.self.invariant (sym c.first_of.ensures ∙ c.in-None.is)) ∙ ap (λ l. first_act c.args.place l) c.self.view_is

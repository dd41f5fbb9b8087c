use Rattle.std.proofs.Common.{◌≡◌, ◌∙◌, sym, arith, refl, rules, Bool, true, false}
use Rattle.std.specs.Prelude.{not}
use denote.Enum.Bare.{same_true}
use Rattle.std.proofs.lemmas.Result.{err_from_is_err_and}
use Rattle.ham_serve.specs.contracts.serve.Went.{the_type}
use Rattle.ham_serve.specs.declared.serve.Went.TheVariants as went
use Rattle.ham_serve.proofs.Talks.{from_empty}
use Rattle.ham_serve.proofs.Heard.{heard_may, round_served, round_stopped, round_later, rose_later, goes_on}
use Rattle.ham_serve.proofs.serve.serve_lines.Goals as goal

not_false : (b : Bool) → not b ≡ false → b ≡ true
not_false true e = refl
not_false false e = sym e

pub returns-in_err-inputs-clause-untold : goal.returns-in_err-inputs-clause-untold
returns-in_err-inputs-clause-untold g c =
    let p = err_from_is_err_and c.from_residual.result c.from_residual.ensures.1 in
    rw p.1 (_, _, went.On, from_empty _ _ _ _ _ _ _ _ _ _ c.loop-inputs.invariant.served)

pub returns-in_err-room-clause-untold : goal.returns-in_err-room-clause-untold
returns-in_err-room-clause-untold g c =
    let p = err_from_is_err_and c.from_residual-in_err-room.result c.from_residual-in_err-room.ensures.1 in
    rw p.1 (_, _, went.On, from_empty _ _ _ _ _ _ _ _ _ _ c.loop-inputs.invariant.served)

pub serve_round-requires-clause-may : goal.serve_round-requires-clause-may
serve_round-requires-clause-may g c = heard_may _ _ _ _ _ _ c.in_ok-inputs.ensures.heard.heard

pub returns-in_err-went-clause-untold : goal.returns-in_err-went-clause-untold
returns-in_err-went-clause-untold g c =
    let i = c.loop-inputs.invariant in
    let p = err_from_is_err_and c.from_residual-in_err-went.result c.from_residual-in_err-went.ensures.1 in
    let t = round_served _ _ _ _ _ _ _ _ _ _ _ _ _ _ _ _ _ _ _ _ i.object i.plan i.me c.requires.home c.in_err-went.ensures.err.2 c.in_ok-inputs.ensures.heard i.served refl in
    rw p.1 (t.0, _, _, from_empty _ _ _ _ _ _ _ _ _ _ t.1)

pub returns-in_err-went-clause-later : goal.returns-in_err-went-clause-later
returns-in_err-went-clause-later g c = omega (arith, c.loop-inputs.invariant.later, round_later _ _ _ _ _ _ _ _ _ c.in_err-went.ensures.err.2)

pub returns-then-ne-clause-talk : goal.returns-then-ne-clause-talk
returns-then-ne-clause-talk g c =
    let i = c.loop-inputs.invariant in
    let a = c.in_ok-went.ensures.ok in
    round_served _ _ _ _ _ _ _ _ _ _ _ _ _ _ _ _ _ _ _ _ i.object i.plan i.me c.requires.home a.2 c.in_ok-inputs.ensures.heard i.served a.1

pub returns-then-ne-clause-stopped : goal.returns-then-ne-clause-stopped
returns-then-ne-clause-stopped g c = λ q. rose_later _ _ _ c.loop-inputs.invariant.later (round_stopped _ _ _ _ _ _ _ _ _ _ _ _ c.in_ok-inputs.ensures.heard c.in_ok-went.ensures.ok.2 q)

pub returns-then-ne-clause-later : goal.returns-then-ne-clause-later
returns-then-ne-clause-later g c = omega (arith, c.loop-inputs.invariant.later, round_later _ _ _ _ _ _ _ _ _ c.in_ok-went.ensures.ok.2)

pub returns-then-done-clause-talk : goal.returns-then-done-clause-talk
returns-then-done-clause-talk g c =
    let i = c.loop-inputs.invariant in
    let a = c.in_ok-went.ensures.ok in
    round_served _ _ _ _ _ _ _ _ _ _ _ _ _ _ _ _ _ _ _ _ i.object i.plan i.me c.requires.home a.2 c.in_ok-inputs.ensures.heard i.served a.1

pub returns-then-done-clause-no_end : goal.returns-then-done-clause-no_end
returns-then-done-clause-no_end g c = λ q. c.in_ok-inputs.ensures.no_end c.if-done.true

pub returns-then-done-clause-stopped : goal.returns-then-done-clause-stopped
returns-then-done-clause-stopped g c = λ q. rose_later _ _ _ c.loop-inputs.invariant.later (round_stopped _ _ _ _ _ _ _ _ _ _ _ _ c.in_ok-inputs.ensures.heard c.in_ok-went.ensures.ok.2 q)

pub returns-then-done-clause-later : goal.returns-then-done-clause-later
returns-then-done-clause-later g c = omega (arith, c.loop-inputs.invariant.later, round_later _ _ _ _ _ _ _ _ _ c.in_ok-went.ensures.ok.2)

pub loop-inputs-smaller : goal.loop-inputs-smaller
loop-inputs-smaller g c = omega (arith, c.in_ok-inputs.ensures.shorter c.if-done.false)

pub loop-inputs-preserved : goal.loop-inputs-preserved
loop-inputs-preserved g c =
    let i = c.loop-inputs.invariant in
    let a = c.in_ok-went.ensures.ok in
    let on : c.in_ok-went.went ≡ went.On = same_true the_type (search rules) _ _ (not_false _ (sym c.ne.ensures ∙ c.if-ne.false)) in
    record {
      served = goes_on _ _ _ _ _ _ _ _ _ _
          (round_served _ _ _ _ _ _ _ _ _ _ _ _ _ _ _ _ _ _ _ _ i.object i.plan i.me c.requires.home a.2 c.in_ok-inputs.ensures.heard i.served a.1) on;
      later = omega (arith, i.later, round_later _ _ _ _ _ _ _ _ _ a.2);
      object = c.serve_round.ensures.object ∙ i.object;
      plan = c.serve_round.ensures.plan ∙ i.plan;
      me = c.serve_round.ensures.me ∙ i.me;
    }

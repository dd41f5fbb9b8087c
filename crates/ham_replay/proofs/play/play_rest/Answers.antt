use Rattle.std.proofs.Common.{Ok, Err, ap, sym, ◌∙◌, arith}
use Rattle.std.proofs.lemmas.Bool.{eqb-true}
use Rattle.std.proofs.lemmas.Result.{err_from_is_err_and}
use Rattle.ham_replay.specs.Replays.{Played}
use Rattle.ham_replay.proofs.Playing.{begins, goes_on, stops, stops_in, finish, at_end, turned, next_answered, next_refused, still_going}
use Rattle.ham_replay.proofs.play.play_rest.Goals as goal

pub loop-rest-init : goal.loop-rest-init
loop-rest-init g c = record { playing = begins _ _ _ _; going = c.requires.going; few = omega arith }

pub loop-rest-preserved : goal.loop-rest-preserved
loop-rest-preserved g c =
    let is = turned _ _ _ _ _ _ _ c.truncate.ensures c.in-None.is c.in_ok-play_line.ensures in
    let next = next_answered c.loop-rest.number _ _ _ _ _ _ c.first_line.ensures.lines is in
    let put = rw c.items.ensures at c.in_ok-write-in-None.ensures.ok in
    record {
      playing = goes_on _ _ _ _ _ _ _ _ _ _ _ _ _ c.loop-rest.invariant.playing next put c.write.ensures.later;
      going = still_going _ _ _ _ is c.loop-rest.invariant.going;
      few = omega (arith, c.first_line.ensures.shorter, c.loop-rest.invariant.few);
    }

pub returns-in_err-play_line-clause-text : goal.returns-in_err-play_line-clause-text
returns-in_err-play_line-clause-text g c =
    let p = err_from_is_err_and c.from_residual.result c.from_residual.ensures.1 in
    rw p.1 (stops _ _ _ _ _ _ _ _ c.loop-rest.invariant.playing)

pub returns-in_err-write-in-None-clause-text : goal.returns-in_err-write-in-None-clause-text
returns-in_err-write-in-None-clause-text g c =
    let p = err_from_is_err_and c.from_residual-in_err-write-in-None.result c.from_residual-in_err-write-in-None.ensures.1 in
    let is = turned _ _ _ _ _ _ _ c.truncate.ensures c.in-None.is c.in_ok-play_line.ensures in
    let next = next_answered c.loop-rest.number _ _ _ _ _ _ c.first_line.ensures.lines is in
    let put = rw c.items.ensures at c.in_err-write-in-None.ensures.front in
    rw p.1 (stops_in _ _ _ _ _ _ _ _ _ _ _ c.loop-rest.invariant.playing next put)

pub returns-in-Some-clause-end : goal.returns-in-Some-clause-end
returns-in-Some-clause-end g c =
    let is = turned _ _ _ _ _ _ _ c.truncate.ensures c.in-Some.is c.in_ok-play_line.ensures in
    let next = next_refused c.loop-rest.number _ _ _ _ _ _ _ c.first_line.ensures.lines is in
    rw (c.loop-rest.invariant.playing.refused ∙ ap (λ (p : Played). p.refused) next) c.refuse.ensures.end

pub returns-in-Some-clause-text : goal.returns-in-Some-clause-text
returns-in-Some-clause-text g c =
    let is = turned _ _ _ _ _ _ _ c.truncate.ensures c.in-Some.is c.in_ok-play_line.ensures in
    let next = next_refused c.loop-rest.number _ _ _ _ _ _ _ c.first_line.ensures.lines is in
    finish _ _ _ _ _ _ _ _ _ _ _ _ c.loop-rest.invariant.playing (ap (λ (p : Played). p.text) next) c.refuse.ensures.text

pub returns-in_err-put_answer-clause-text : goal.returns-in_err-put_answer-clause-text
returns-in_err-put_answer-clause-text g c =
    let p = err_from_is_err_and c.from_residual-in_err-put_answer.result c.from_residual-in_err-put_answer.ensures.1 in
    let last = at_end c.loop-rest.number c.loop-rest.world _ (eqb-true _ 0 (sym c.is_empty.ensures ∙ c.loop-rest-test.false)) in
    rw p.1 (finish {A = Unit {0}} _ _ _ _ _ c.put_answer.new.gatherer _ _ _ _ _ (Err p.0) c.loop-rest.invariant.playing (ap (λ (q : Played). q.text) last) c.in_err-put_answer.ensures.text)

pub returns-clause-end : goal.returns-clause-end
returns-clause-end g c =
    let last = at_end c.loop-rest.number c.loop-rest.world _ (eqb-true _ 0 (sym c.is_empty.ensures ∙ c.loop-rest-test.false)) in
    sym (c.loop-rest.invariant.playing.refused ∙ ap (λ (p : Played). p.refused) last)

pub returns-clause-text : goal.returns-clause-text
returns-clause-text g c =
    let last = at_end c.loop-rest.number c.loop-rest.world _ (eqb-true _ 0 (sym c.is_empty.ensures ∙ c.loop-rest-test.false)) in
    finish {A = Unit {0}} _ _ _ _ _ _ _ _ _ _ _ (Ok tt) c.loop-rest.invariant.playing (ap (λ (p : Played). p.text) last) c.in_ok-put_answer.ensures.text

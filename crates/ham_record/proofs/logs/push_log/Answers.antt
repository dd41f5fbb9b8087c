use Rattle.std.proofs.Common.{◌≡◌, ◌<◌, ◌≤◌, ◌++◌, List, get_or, length, map, ap, subst, ◌∙◌, refl}
use Rattle.std.specs.List.{AllByRecursion}
use Rattle.std.proofs.lemmas.List.{take_all}
use Rattle.ham_text.specs.Written.{line_text, lines_text}
use Rattle.ham_syntax.specs.declared.act.Place.{Place}
use Rattle.ham_plan.specs.Lists.{In}
use Rattle.ham_records.specs.Texts.{IsLogged, call_words, replica_words}
use Rattle.ham_runs.specs.Runs.{log_of}
use Rattle.ham_record.specs.Recorded.{entry_at, entries_at}
use Rattle.ham_record.proofs.Lined.{in_get, place_more, place_spelled, log_put}
use Rattle.ham_record.proofs.logs.push_log.Goals as goal

abbrev none : Place
none = record { lane = 0; number = 0 }

pub push_call-requires-clause-logged : goal.push_call-requires-clause-logged
push_call-requires-clause-logged c =
    let here = get_or c.log-log.result.now c.loop-place.place-index none in
    subst (λ (l : List Place). In here l) c.log-log.ensures (in_get c.log-log.result.now c.loop-place.place-index none here c.loop-place-test.true refl)

pub loop-place-preserved : goal.loop-place-preserved
loop-place-preserved c =
    let w = c.args.world.now in
    let i = c.loop-place.place-index in
    let log = log_of w.notes c.args.replica in
    let here = get_or c.log-log.result.now i none in
    let h : i < length log = subst (λ (l : List Place). i < length l) c.log-log.ensures c.loop-place-test.true in
    let q : here ≡ get_or log i none = ap (λ (l : List Place). get_or l i none) c.log-log.ensures in
    record {
      text = place_more w.object (entry_at w) log i none here (c.args.text.now ++ line_text (replica_words c.args.replica)) _ _ h q c.loop-place.invariant.text c.in_ok-push_call.ensures.text;
      spelled = place_spelled (IsLogged w.object) (entry_at w) log i none here h q c.loop-place.invariant.spelled c.in_ok-push_call.ensures.spelled;
    }

pub returns-clause-text : goal.returns-clause-text
returns-clause-text c =
    let w = c.args.world.now in
    let i = c.loop-place.place-index in
    let log = log_of w.notes c.args.replica in
    let past : length log ≤ i = subst (λ (l : List Place). length l ≤ i) c.log-log.ensures c.loop-place-test.false in
    let head = c.args.text.now ++ line_text (replica_words c.args.replica) in
    log_put w.object c.args.replica c.args.text.now head _ (entries_at w c.args.replica) refl
    (c.loop-place.invariant.text ∙ ap (λ (l : List Place). head ++ lines_text (map (call_words w.object) (map (entry_at w) l))) (take_all i log past))

pub returns-clause-spelled : goal.returns-clause-spelled
returns-clause-spelled c =
    let w = c.args.world.now in
    let i = c.loop-place.place-index in
    let log = log_of w.notes c.args.replica in
    let past : length log ≤ i = subst (λ (l : List Place). length l ≤ i) c.log-log.ensures c.loop-place-test.false in
    subst (λ (l : List Place). AllByRecursion (IsLogged w.object) (map (entry_at w) l)) (take_all i log past) c.loop-place.invariant.spelled

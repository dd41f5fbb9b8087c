use Rattle.std.proofs.Common.{◌≡◌, ◌<◌, ◌≤◌, Result, Ok, Err, ◌++◌, length, sym, subst, ap, ◌∙◌}
use Rattle.std.specs.Prelude.{OnOk}
use Rattle.ham_text.specs.Numbers.{AreNumbers}
use Rattle.ham_syntax.specs.declared.limits.TheConstants.{MAX_PARAMS}
use Rattle.ham_syntax.specs.declared.act.Act.{Act}
use Rattle.ham_syntax.specs.Objects.{Schema}
use Rattle.ham_text.specs.Written.{line_text}
use Rattle.ham_runs.specs.Runs.{execution}
use Rattle.ham_records.specs.declared.records.Logged.{Logged}
use Rattle.ham_records.specs.Texts.{call_words}
use Rattle.ham_record.specs.Recorded.{entry_at}
use Rattle.ham_record.proofs.Fitting.{method_there, logged_fits}
use Rattle.ham_record.proofs.logs.push_call.Goals as goal

pub push_logged-requires : goal.push_logged-requires
push_logged-requires c =
    let w = c.args.world.now in
    let given = c.plans_are_settings.ensures w.object w.plan c.object-object.ensures.planned in
    let fits = logged_fits w.object w.plan w.notes c.args.replica c.args.place.now given c.requires.run c.requires.logged in
    subst (λ (e : Logged). e.act.method < length c.object-object.result.now.methods) (sym c.call_of-logged.ensures.is)
    (subst (λ (a : Act). a.method < length c.object-object.result.now.methods) (sym c.act-act.ensures)
    (subst (λ (o : Schema). ((execution w.notes).act c.args.place.now).method < length o.methods) (sym c.object-object.ensures.object) (method_there w.object ((execution w.notes).act c.args.place.now) fits)))

ok_then : {A E P Q : Type 0} (r : Result A E) → (P → Q) → OnOk r P → OnOk r Q
ok_then (Ok x) f h = f h
ok_then (Err e) f h = h

pub returns-clause-spelled : goal.returns-clause-spelled
returns-clause-spelled c =
    let w = c.args.world.now in
    let given = c.plans_are_settings.ensures w.object w.plan c.object-object.ensures.planned in
    let fits = logged_fits w.object w.plan w.notes c.args.replica c.args.place.now given c.requires.run c.requires.logged in
    let is : c.act-act.result ≡ (execution w.notes).act c.args.place.now = c.act-act.ensures in
    ok_then c.push_logged.result
    (λ (small : AreNumbers c.call_of-logged.result.act.args). record {
      lane = c.call_of-logged.ensures.lane;
      number = c.call_of-logged.ensures.number;
      fits = fits;
      args = subst (λ (a : Act). AreNumbers a.args) is (subst (λ (e : Logged). AreNumbers e.act.args) c.call_of-logged.ensures.is small);
      few = subst (λ (a : Act). length a.args ≤ MAX_PARAMS) is c.items-few.ensures.few;
    }) c.push_logged.ensures.small

pub returns-clause-text : goal.returns-clause-text
returns-clause-text c =
    let w = c.args.world.now in
    let is : c.call_of-logged.result ≡ entry_at w c.args.place.now = c.call_of-logged.ensures.is ∙ ap (λ (a : Act). record { place = c.args.place.now; act = a }) c.act-act.ensures in
    ok_then c.push_logged.result
    (λ (put : c.push_logged.new.text ≡ c.args.text.now ++ line_text (call_words c.object-object.result.now c.call_of-logged.result)).
    put ∙ ap (λ (o : Schema). c.args.text.now ++ line_text (call_words o c.call_of-logged.result)) c.object-object.ensures.object
    ∙ ap (λ (e : Logged). c.args.text.now ++ line_text (call_words w.object e)) is)
    c.push_logged.ensures.text

-- How `run` ends and completes whatever command the words ask.
use Rattle.std.proofs.Common.{ℕ, List, subst}
use Rattle.ham_bytes.specs.Causes.{Rose}
use Rattle.ham_cli.specs.Commands.{Asks, AsksNothing, seen}
use Rattle.ham_cli.specs.Sought.{AsksFirst}
use Rattle.ham_cli.specs.Top.{Ends, Completes}
use Rattle.ham_cli.proofs.Ending.{for_any, for_one, for_none}
use Rattle.ham_cli.proofs.Completing.{completes}
use Rattle.ham_cli.proofs.top.run.Goals as goal

pub returns-in-Some-clause-ends : goal.returns-in-Some-clause-ends
returns-in-Some-clause-ends g c =
    for_any c.args.words.now _ c.in-Some.command.object.now (seen c.in-Some.command.task) (λ o a files. Ends o a files (g.K.Sink.taken c.args.out.now) (g.K.Sink.taken c.perform.new.out) c.perform.result) (c.words_ask_one_command.ensures c.args.words.now)
    (subst (λ (w : List (List ℕ)). Asks w c.in-Some.command.object.now (seen c.in-Some.command.task)) c.items.ensures c.in-Some.ensures.asks) c.perform.ensures.ends

pub returns-in-Some-clause-complete : goal.returns-in-Some-clause-complete
returns-in-Some-clause-complete g c =
    for_any c.args.words.now _ c.in-Some.command.object.now (seen c.in-Some.command.task)
    (λ o a files. Completes o a files (Rose (g.H.Shelf.faults c.args.shelf.now) (g.H.Shelf.faults c.perform.new.shelf)) (Rose (g.K.Sink.faults c.args.out.now) (g.K.Sink.faults c.perform.new.out)) c.perform.result)
    (c.words_ask_one_command.ensures c.args.words.now) (subst (λ (w : List (List ℕ)). Asks w c.in-Some.command.object.now (seen c.in-Some.command.task)) c.items.ensures c.in-Some.ensures.asks)
    (completes c.answered_once.ensures c.schedules_are_played_once.ensures c.derived_plans_have_one_setting.ensures _ _ _ _ _ _ _ _ _ c.perform.result c.perform.ensures.counted c.perform.ensures.ends)

pub returns-in-Some-clause-sought : goal.returns-in-Some-clause-sought
returns-in-Some-clause-sought g c =
    for_one c.args.words.now c.in-Some.command.object.now (seen c.in-Some.command.task) (λ o a. AsksFirst o a (g.H.Shelf.sought c.args.shelf.now) (g.H.Shelf.sought c.perform.new.shelf) c.perform.result) (c.words_ask_one_command.ensures c.args.words.now)
    (subst (λ (w : List (List ℕ)). Asks w c.in-Some.command.object.now (seen c.in-Some.command.task)) c.items.ensures c.in-Some.ensures.asks) c.perform.ensures.sought

pub returns-in-None-clause-ends : goal.returns-in-None-clause-ends
returns-in-None-clause-ends g c = for_none c.args.words.now _ (λ o a files. Ends o a files (g.K.Sink.taken c.args.out.now) (g.K.Sink.taken c.put_usage.new.out) c.put_usage.result) (subst AsksNothing c.items.ensures c.in-None.ensures.asks)

pub returns-in-None-clause-complete : goal.returns-in-None-clause-complete
returns-in-None-clause-complete g c =
    for_none c.args.words.now _ (λ o a files. Completes o a files (Rose (g.H.Shelf.faults c.args.shelf.now) (g.H.Shelf.faults c.args.shelf.now)) (Rose (g.K.Sink.faults c.args.out.now) (g.K.Sink.faults c.put_usage.new.out)) c.put_usage.result)
    (subst AsksNothing c.items.ensures c.in-None.ensures.asks)

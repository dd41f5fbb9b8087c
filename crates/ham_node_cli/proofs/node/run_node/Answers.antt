-- How `run_node` ends and completes whatever node the words ask.
use Rattle.std.proofs.Common.{ℕ, List, subst}
use Rattle.ham_bytes.specs.Causes.{Rose}
use Rattle.ham_node_cli.specs.NodeWords.{AsksNode}
use Rattle.ham_node_cli.specs.NodeReading.{seen}
use Rattle.ham_node_cli.specs.NodeEnds.{EndsNode, CompletesNode}
use Rattle.ham_node_cli.proofs.NodeSpelling.{for_held}
use Rattle.ham_node_cli.proofs.Noded.{completes_held}
use Rattle.ham_node_cli.proofs.node.run_node.Goals as goal

pub returns-in-Some-clause-ends : goal.returns-in-Some-clause-ends
returns-in-Some-clause-ends g c =
    for_held c.args.words.now _ (seen c.in-Some.node) (λ a files. EndsNode a files (g.K.Sink.taken c.args.out.now) (g.K.Sink.taken c.run_asked.new.out) c.run_asked.result)
    (subst (λ (w : List (List ℕ)). AsksNode w (seen c.in-Some.node)) c.items.ensures c.in-Some.ensures.asks) c.run_asked.ensures.ends

pub returns-in-Some-clause-complete : goal.returns-in-Some-clause-complete
returns-in-Some-clause-complete g c =
    for_held c.args.words.now _ (seen c.in-Some.node)
    (λ a files. CompletesNode a files (Rose (g.H.Shelf.faults c.args.shelf.now) (g.H.Shelf.faults c.run_asked.new.shelf)) (Rose (g.B.Switchboard.faults c.args.board.now) (g.B.Switchboard.faults c.run_asked.new.board))
    (Rose (g.K.Sink.faults c.args.out.now) (g.K.Sink.faults c.run_asked.new.out)) c.run_asked.result)
    (subst (λ (w : List (List ℕ)). AsksNode w (seen c.in-Some.node)) c.items.ensures c.in-Some.ensures.asks)
    (completes_held c.answered_once.ensures (seen c.in-Some.node) _ _ _ _ _ _ _ _ _ c.run_asked.result c.run_asked.ensures.counted c.run_asked.ensures.ends)

pub returns-in-Some-clause-usage : goal.returns-in-Some-clause-usage
returns-in-Some-clause-usage g c none = absurd (none (seen c.in-Some.node) (subst (λ (w : List (List ℕ)). AsksNode w (seen c.in-Some.node)) c.items.ensures c.in-Some.ensures.asks))

pub returns-in-Some-clause-unsought : goal.returns-in-Some-clause-unsought
returns-in-Some-clause-unsought g c none = absurd (none (seen c.in-Some.node) (subst (λ (w : List (List ℕ)). AsksNode w (seen c.in-Some.node)) c.items.ensures c.in-Some.ensures.asks))

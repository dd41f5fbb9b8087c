use Rattle.ham_content.proofs.Filling.{Made}
use Rattle.ham_syntax.specs.declared.object.Param.{Param}
use Rattle.ham_witness.specs.Cases.{arg_of}
use Rattle.ham_witness.proofs.acts.plain_args.Given as goal

abbrev pub invariant-loop-i : goal.invariant-loop-i
invariant-loop-i l = Made (λ (p : Param). arg_of p.kind l.ids.c) l.params l.args l.i

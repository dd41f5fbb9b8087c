use Rattle.std.proofs.Common.{◌≡◌, ◌++◌, length, take, drop}
use Rattle.ham_syntax.specs.declared.limits.TheConstants.{MAX_PARAMS}
use Rattle.ham_bulk.specs.Scripts.{args_drawn, after_args}
use Rattle.ham_bulk.proofs.drawing.arguments.Given as goal

abbrev pub invariant-loop-param : goal.invariant-loop-param
invariant-loop-param l = record {
  args : args_drawn l.params l.fn.number ≡ take l.len l.args ++ args_drawn (drop l.len l.params) l.now;
  number : after_args l.params l.fn.number ≡ after_args (drop l.len l.params) l.now;
  count : l.len ≡ l.param-index;
  room : length l.args ≡ MAX_PARAMS;
}

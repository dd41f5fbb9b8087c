use Rattle.ham_serve.proofs.serve.answer.Goals as goal

pub returns-in-Ok-put_whole-clause-no_end : goal.returns-in-Ok-put_whole-clause-no_end
returns-in-Ok-put_whole-clause-no_end g c = λ e. rw c.in-Ok-from_slice.ensures.items (c.in-Ok.ensures.no_end e)

use Rattle.std.proofs.Common.{◌≡◌, ◌++◌, take}
use Rattle.ham_serve.specs.Hearing.{replies_text}
use Rattle.ham_serve.proofs.reply.push_replies.Given as goal

abbrev pub invariant-loop-reply : goal.invariant-loop-reply
invariant-loop-reply l = l.text ≡ l.fn.text ++ replies_text l.object (take l.reply-index l.replies)

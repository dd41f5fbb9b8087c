use Rattle.std.proofs.Common.{◌≡◌, ◌++◌, ◌∷◌, ◌∙◌, ℕ, List, ap, subst, map}
use Rattle.std.specs.Fmt.{decimal}
use Rattle.std.specs.Prelude.{OnOk, codes}
use Rattle.ham_text.specs.Written.{spaced}
use Rattle.ham_serve.specs.Recorded.{method_word}
use Rattle.ham_serve.proofs.Recording.{call_put}
use Rattle.ham_serve.proofs.recorded.push_call.Goals as goal

pub returns : goal.returns
returns c =
    let e = c.args.call.now in
    subst (λ (t : List ℕ). OnOk c.push_numbers.result (c.push_numbers.new.text ≡ t))
    (ap (λ (ns : List ℕ). c.push_method.new.text ++ spaced (map decimal ns)) c.items.ensures.value
    ∙ call_put (codes "call") (decimal e.lane) (decimal e.number) (method_word c.args.object.now e.act.method) (map decimal e.act.args)
    c.args.text.now c.extend.new.self c.push_number.new.text c.push_number-2.new.text c.push_method.new.text
    c.in_ok-extend.ensures.ok (c.in_ok-push_number.ensures.text ∙ ap (λ (n : ℕ). c.extend.new.self ++ 32 ∷ decimal n) c.from.ensures)
    (c.in_ok-push_number-2.ensures.text ∙ ap (λ (n : ℕ). c.push_number.new.text ++ 32 ∷ decimal n) c.from-2.ensures)
    c.in_ok-push_method.ensures) c.push_numbers.ensures.text

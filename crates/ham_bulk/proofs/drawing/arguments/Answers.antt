use Rattle.std.proofs.Common.{◌≡◌, ℕ, ◌+◌, ◌<◌, List, [], ◌∷◌, ◌++◌, length, length-set, take, drop, get_or, set, refl, sym, ap, subst, ◌∙◌, arith, append_assoc}
use Rattle.std.proofs.lemmas.List.{take_more_set, at_drop_more}
use Rattle.ham_syntax.specs.declared.object.Param.{Param}
use Rattle.ham_bulk.specs.Scripts.{drawn, next, many, args_drawn, after_args}
use Rattle.ham_bulk.proofs.drawing.arguments.Goals as goal

drawn_more : (ps : List Param) (i j : ℕ) (args all : List ℕ) (x v k y : ℕ) (p : Param) → all ≡ take i args ++ args_drawn (drop i ps) x → i < length ps → i < length args →
    i ≡ j → p ≡ get_or ps j p → k ≡ many p.kind → v ≡ drawn x k → y ≡ next x → all ≡ take (i + 1) (set args i v) ++ args_drawn (drop (i + 1) ps) y
drawn_more ps i j args all x v k y p so_far within room at is kind draws goes =
    let item : get_or ps i p ≡ p = ap (λ (n : ℕ). get_or ps n p) at ∙ sym is in
    let first : drawn x (many (get_or ps i p).kind) ≡ v = ap (λ (q : Param). drawn x (many q.kind)) item ∙ ap (drawn x) (sym kind) ∙ sym draws in
    so_far ∙ ap (λ (t : List ℕ). take i args ++ t) (at_drop_more (λ (qs : List Param). args_drawn qs x) ps i p within
    ∙ ap (λ (d : ℕ). d ∷ args_drawn (drop (i + 1) ps) (next x)) first ∙ ap (λ (n : ℕ). v ∷ args_drawn (drop (i + 1) ps) n) (sym goes))
    ∙ sym (append_assoc (take i args) (v ∷ []) (args_drawn (drop (i + 1) ps) y)) ∙ ap (λ (t : List ℕ). t ++ args_drawn (drop (i + 1) ps) y) (sym (take_more_set args i v room))

number_more : (ps : List Param) (i all x y : ℕ) (p : Param) → all ≡ after_args (drop i ps) x → i < length ps → y ≡ next x → all ≡ after_args (drop (i + 1) ps) y
number_more ps i all x y p so_far within goes = so_far ∙ at_drop_more (λ (qs : List Param). after_args qs x) ps i p within ∙ ap (after_args (drop (i + 1) ps)) (sym goes)

pub loop-param-preserved : goal.loop-param-preserved
loop-param-preserved c =
    let at = c.loop-param.invariant.count in
    let within : c.loop-param.len < length c.args.params.now = omega (arith, at) in
    let room = c.loop-param.invariant.room in
    record {
      args = drawn_more c.args.params.now _ _ c.loop-param.args _ _ _ _ _ c.param-item.result c.loop-param.invariant.args within (omega (arith, c.requires, room))
          at c.param-item.is c.many.ensures.many c.drawn.ensures.drawn c.next-now.ensures;
      number = number_more c.args.params.now _ _ _ _ c.param-item.result c.loop-param.invariant.number within c.next-now.ensures;
      count = omega (arith, at);
      room = length-set c.loop-param.args c.loop-param.len c.drawn.result ∙ room;
    }

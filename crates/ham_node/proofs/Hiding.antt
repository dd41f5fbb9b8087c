-- Inputs that were entered one after another, told without the journal.
use Rattle.std.proofs.Common.{◌≡◌, ℕ, Bool, false, List, [], ◌∷◌, length, None, refl, sym, subst}
use Rattle.ham_syntax.specs.Objects.{Schema}
use Rattle.ham_plan.specs.Plans.{Plan}
use Rattle.ham_journal.specs.declared.input.Input.{Input}
use Rattle.ham_journal.specs.declared.input.Reply.{Reply}
use Rattle.ham_core.specs.Each.{Standing, standing, EntersOne, EntersEach, Done, Stops, Goes}

abbrev pub hidden : Standing → Standing
hidden s = standing None s.entries s.stops s.fulls s.refusals

one_hidden : (o : Schema) (p : Plan) (m : ℕ) (s s' : Standing) (i : Input) (r : Reply) → EntersOne o p m s s' i r → EntersOne o p m (hidden s) (hidden s') i r
one_hidden o p m s s' i r e =
    record { told = tt; kind = e.kind; fits = e.fits; entries = e.entries; stops = e.stops; fulls = e.fulls; refusals = e.refusals; causes = e.causes }

pub each_hidden : (o : Schema) (p : Plan) (m : ℕ) (s s' : Standing) (inputs left : List Input) (rs : List Reply) (b : Bool) → EntersEach o p m s s' inputs left rs b → EntersEach o p m (hidden s) (hidden s') inputs left rs b
each_hidden o p m s s' inputs left rs b (Done z) = Done (hidden z)
each_hidden o p m s s' inputs left rs b (Stops z z' i l r one stop) = Stops (hidden z) (hidden z') i l r (one_hidden o p m z z' i r one) stop
each_hidden o p m s s' inputs left rs b (Goes z z1 z' i is l r more c one go rest) =
    Goes (hidden z) (hidden z1) (hidden z') i is l r more c (one_hidden o p m z z1 i r one) go (each_hidden o p m z1 z' is l more c rest)

none_left : (inputs : List Input) → length inputs ≡ 0 → inputs ≡ []
none_left [] e = refl
none_left (i ∷ inputs) e = cc

pub nothing_entered : (o : Schema) (p : Plan) (m : ℕ) (s : Standing) (inputs : List Input) (rs : List Reply) → length inputs ≡ 0 → rs ≡ [] → EntersEach o p m s s inputs inputs rs false
nothing_entered o p m s inputs rs e n =
    subst (λ (r : List Reply). EntersEach o p m s s inputs inputs r false) (sym n)
    (subst (λ (is : List Input). EntersEach o p m s s is is [] false) (sym (none_left inputs e)) (Done s))

-- Inputs that are entered one after another: one more, one that is the last, and no more.
use Rattle.std.proofs.Common.{◌≡◌, ℕ, Bool, true, false, List, [], ◌∷◌, ◌++◌, length, refl, sym, ap, subst, ◌∙◌, append_assoc}
use Rattle.std.proofs.lemmas.List.{append-nil}
use Rattle.std.specs.List.{AllByRecursion}
use Rattle.ham_syntax.specs.Objects.{Schema}
use Rattle.ham_plan.specs.Plans.{Plan}
use Rattle.ham_journal.specs.declared.input.Input.{Input}
use Rattle.ham_journal.specs.declared.input.Reply.{Reply}
use Rattle.ham_journal.specs.Replies.{MayEnter}
use Rattle.ham_turns.specs.Settings.{Setting}
use Rattle.ham_core.specs.Each.{Standing, EntersOne, is_stop, EntersEach, Done, Stops, Goes}

-- what is still to be entered from here on is entered from the start, behind these replies
abbrev pub GoesOn : Schema → Plan → ℕ → Standing → Standing → List Input → List Input → List Reply → Type 0
GoesOn o p m s0 s1 all now before =
    (s : Standing) (left : List Input) (more : List Reply) (b : Bool) → EntersEach o p m s1 s now left more b → EntersEach o p m s0 s all left (before ++ more) b

pub each_start : (o : Schema) (p : Plan) (m : ℕ) (s : Standing) (inputs : List Input) (before : List Reply) → before ≡ [] → GoesOn o p m s s inputs inputs before
each_start o p m s inputs before none s' left more b e = subst (λ (r : List Reply). EntersEach o p m s s' inputs left (r ++ more) b) (sym none) e

pub each_more : (o : Schema) (p : Plan) (m : ℕ) (s0 s1 s2 : Standing) (all now now' : List Input) (input : Input) (reply : Reply) (before after : List Reply) (stops : Bool)
    → GoesOn o p m s0 s1 all now before → now ≡ input ∷ now' → after ≡ before ++ reply ∷ [] → EntersOne o p m s1 s2 input reply → stops ≡ is_stop reply → stops ≡ false
    → GoesOn o p m s0 s2 all now' after
each_more o p m s0 s1 s2 all now now' input reply before after stops on en ea one is go s left more b e =
    subst (λ (r : List Reply). EntersEach o p m s0 s all left r b) (sym (ap (λ (r : List Reply). r ++ more) ea ∙ append_assoc before (reply ∷ []) more))
    (on s left (reply ∷ more) b
    (subst (λ (is : List Input). EntersEach o p m s1 s is left (reply ∷ more) b) (sym en) (Goes s1 s2 s input now' left reply more b one (sym is ∙ go) e)))

pub each_stop : (o : Schema) (p : Plan) (m : ℕ) (s0 s1 s2 : Standing) (all now now' : List Input) (input : Input) (reply : Reply) (before after : List Reply) (stops : Bool)
    → GoesOn o p m s0 s1 all now before → now ≡ input ∷ now' → after ≡ before ++ reply ∷ [] → EntersOne o p m s1 s2 input reply → stops ≡ is_stop reply → stops ≡ true
    → EntersEach o p m s0 s2 all now' after true
each_stop o p m s0 s1 s2 all now now' input reply before after stops on en ea one is stop =
    subst (λ (r : List Reply). EntersEach o p m s0 s2 all now' r true) (sym ea)
    (on s2 now' (reply ∷ []) true
    (subst (λ (is : List Input). EntersEach o p m s1 s2 is now' (reply ∷ []) true) (sym en) (Stops s1 s2 input now' reply one (sym is ∙ stop))))

pub each_end : (o : Schema) (p : Plan) (m : ℕ) (s0 s1 : Standing) (all now left : List Input) (before : List Reply)
    → GoesOn o p m s0 s1 all now before → now ≡ [] → left ≡ [] → EntersEach o p m s0 s1 all left before false
each_end o p m s0 s1 all now left before on en el =
    subst (λ (l : List Input). EntersEach o p m s0 s1 all l before false) (sym el)
    (subst (λ (r : List Reply). EntersEach o p m s0 s1 all [] r false) (append-nil before)
    (on s1 [] [] false (subst (λ (is : List Input). EntersEach o p m s1 s1 is [] [] false) (sym en) (Done s1))))

pub rest_may : (y : Setting) (me : ℕ) (now now' : List Input) (input : Input) → now ≡ input ∷ now' → AllByRecursion (MayEnter y me) now → AllByRecursion (MayEnter y me) now'
rest_may y me now now' input e h = (subst (AllByRecursion (MayEnter y me)) e h).1

pub none_left : (inputs : List Input) → length inputs ≡ 0 → inputs ≡ []
none_left [] e = refl
none_left (i ∷ inputs) e = cc

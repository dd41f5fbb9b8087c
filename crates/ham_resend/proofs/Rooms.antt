-- Room is made for one sender and group; the rulings stay.
use Rattle.std.proofs.Common.{◌≡◌, ℕ, zero, suc, ◌<◌, List, [], ◌∷◌, length, get_or, set, refl, sym, subst, ap, ◌∙◌, arith}
use Rattle.std.proofs.lemmas.List.{get_or-set_same}
use Rattle.ham_resend.specs.Giving.{Given, given_at, none_given, KeepsRulings}

any_default : {X : Type 0} (xs : List X) (i : ℕ) (d e : X) → i < length xs → get_or xs i d ≡ get_or xs i e
any_default [] i d e h = absurd (omega arith)
any_default (x ∷ xs) zero d e h = refl
any_default (x ∷ xs) (suc i) d e h = any_default xs i d e (omega arith)

module _ (now senders : List (List Given)) (sender groups : List Given) (given new : Given) (from group : ℕ)
    (view : senders ≡ now) (there : from < length now) (is_sender : sender ≡ get_or senders from sender)
    (inner : groups ≡ sender) (group_there : group < length (get_or now from [])) (is_given : given ≡ get_or groups group given) where
  sender_is : groups ≡ get_or now from []
  sender_is = inner ∙ is_sender ∙ ap (λ s. get_or s from sender) view ∙ any_default now from sender [] there

  given_is : given ≡ given_at now from group
  given_is = is_given ∙ ap (λ g. get_or g group given) sender_is ∙ any_default (get_or now from []) group given none_given group_there

  pub room_made : new.ruled ≡ given.ruled → KeepsRulings now (set senders from (set groups group new)) from group
  room_made ruled =
      let same : new ≡ record { ruled = (given_at now from group).ruled; spare = new.spare } =
      λ i. record { ruled = (ruled ∙ ap (λ g. g.ruled) given_is) i; spare = new.spare } in
      record {
        room = new.spare;
        same = ap (λ s. set s from (set groups group new)) view ∙ ap (λ g. set now from (set g group new)) sender_is
            ∙ ap (λ g. set now from (set (get_or now from []) group g)) same;
      }

  pub room_is : given_at (set senders from (set groups group new)) from group ≡ new
  room_is =
      ap (λ s. given_at (set s from (set groups group new)) from group) view
      ∙ ap (λ l. get_or l group none_given) (get_or-set_same now from (set groups group new) [] there)
      ∙ get_or-set_same groups group new none_given (subst (λ g. group < length g) (sym sender_is) group_there)

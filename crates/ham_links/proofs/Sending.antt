-- A text that goes out piece by piece.
use Rattle.std.proofs.Common.{◌≡◌, ℕ, List, [], ◌∷◌, ◌++◌, length, take, drop, Option, Some, None, refl, sym, ap, ◌∙◌, append_assoc, arith}
use Rattle.std.proofs.lemmas.List.{append-nil, take-append-drop}
use Rattle.ham_links.specs.Links.{Goes, GoesSome, Loses}

pub record Sending (sent sent' : Option (List ℕ)) (text rest : List ℕ) : Type 0 where
  pub front : List ℕ
  pub whole : text ≡ front ++ rest
  pub went : Goes sent sent' front

pub goes_none : (sent : Option (List ℕ)) → Goes sent sent []
goes_none (Some s) = sym (append-nil s)
goes_none None = tt

pub goes_more : (a b c : Option (List ℕ)) (x y : List ℕ) → Goes a b x → Goes b c y → Goes a c (x ++ y)
goes_more (Some a) (Some b) (Some c) x y h k = k ∙ ap (λ (l : List ℕ). l ++ y) h ∙ append_assoc a x y
goes_more None None None x y h k = tt
goes_more (Some a) (Some b) None x y h k = absurd k
goes_more (Some a) None (Some c) x y h k = absurd h
goes_more (Some a) None None x y h k = absurd h
goes_more None (Some b) (Some c) x y h k = absurd h
goes_more None (Some b) None x y h k = absurd h
goes_more None None (Some c) x y h k = absurd k

pub sending_start : (sent : Option (List ℕ)) (text : List ℕ) → Sending sent sent text text
sending_start sent text = record { front = []; whole = refl; went = goes_none sent }

pub sending_more : (a b c : Option (List ℕ)) (text rest next : List ℕ) (n : ℕ) → Sending a b text rest → Goes b c (take n rest) → next ≡ drop n rest → Sending a c text next
sending_more a b c text rest next n s g e =
    record {
      front = s.front ++ take n rest;
      whole = s.whole ∙ ap (λ (l : List ℕ). s.front ++ l) (sym (take-append-drop n rest)) ∙ sym (append_assoc s.front (take n rest) (drop n rest))
          ∙ ap (λ (l : List ℕ). (s.front ++ take n rest) ++ l) (sym e);
      went = goes_more a b c s.front (take n rest) s.went g;
    }

pub sending_end : (a b : Option (List ℕ)) (text rest : List ℕ) → Sending a b text rest → length rest ≡ 0 → Goes a b text
sending_end a b text [] s e = rw (s.whole, append-nil s.front) s.went
sending_end a b text (x ∷ xs) s e = absurd (omega arith)

pub sending_front : (a b c : Option (List ℕ)) (text rest : List ℕ) → Sending a b text rest → c ≡ b → GoesSome a c text
sending_front a b c text rest s e = (s.front, rest, s.whole, rw e s.went)

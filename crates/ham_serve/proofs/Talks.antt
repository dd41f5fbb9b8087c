-- A line more of a talk.
use Rattle.std.proofs.Common.{◌≡◌, ℕ, List, [], ◌∷◌, ◌++◌, Option, Some, None, refl, sym, ap, subst, ◌∙◌, append_assoc, arith}
use Rattle.std.specs.List.{flat_map}
use Rattle.std.proofs.lemmas.List.{append-nil}
use Rattle.ham_syntax.specs.Objects.{Schema}
use Rattle.ham_plan.specs.Plans.{Plan}
use Rattle.std.specs.Prelude.{◌<◌, ◌≤◌, length, take}
use Rattle.ham_serve.specs.Lines.{joined, IsLine}
use Rattle.ham_serve.specs.Talks.{Talk, Silent, More, Served, Tells_to}
use Rattle.ham_serve.specs.declared.serve.Went.{Went}
use Rattle.ham_serve.specs.declared.serve.Went.TheVariants as went
use Rattle.ham_serve.specs.declared.serve.ClientEnd.{ClientEnd}
use Rattle.ham_serve.specs.declared.serve.ClientEnd.TheVariants as ends
use Rattle.ham_links.specs.Links.{Loses, Goes, GoesSome}
use Rattle.ham_serve.specs.Rounds.{Talked, Broke, Round, Halt, EndOf}
use Rattle.ham_links.proofs.Sending.{goes_more, goes_none}
use Rattle.ham_journal.specs.declared.entry.Entry.{Entry}

pub serving_start : (o : Schema) (p : Plan) (m : ℕ) (h : Option (List Entry)) (held out : List ℕ) → Served o p m h h went.On held held out out
serving_start o p m h held out = record { lines = []; text = []; read = refl; talk = Silent; gathered = sym (append-nil out) }

pub joined_more : (lines : List (List ℕ)) (line after : List ℕ) → joined lines ++ (line ++ 10 ∷ after) ≡ joined (lines ++ line ∷ []) ++ after
joined_more [] line after = sym (ap (λ (l : List ℕ). l ++ after) (append-nil (line ++ 10 ∷ [])) ∙ append_assoc line (10 ∷ []) after)
joined_more (l ∷ lines) line after =
    append_assoc (l ++ 10 ∷ []) (joined lines) (line ++ 10 ∷ after)
    ∙ ap (λ (r : List ℕ). (l ++ 10 ∷ []) ++ r) (joined_more lines line after)
    ∙ sym (append_assoc (l ++ 10 ∷ []) (joined (lines ++ line ∷ [])) after)

pub serving_more : (o o1 : Schema) (p p1 : Plan) (m m1 : ℕ) (h h1 h2 : Option (List Entry)) (held rest line after out out1 out2 said : List ℕ) (v w : Went)
    → Served o p m h h1 v held rest out out1 → v ≡ went.On → IsLine line → o1 ≡ o → p1 ≡ p → m1 ≡ m → rest ≡ line ++ 10 ∷ after → out2 ≡ out1 ++ said
    → Tells_to o1 p1 m1 h1 line h2 said w → Served o p m h h2 w held after out out2
serving_more o o1 p p1 m m1 h h1 h2 held rest line after out out1 out2 said v w s on good eo ep em r g t =
    record {
      lines = s.lines ++ line ∷ [];
      text = s.text ++ said;
      read = s.read ∙ ap (λ (l : List ℕ). joined s.lines ++ l) r ∙ joined_more s.lines line after;
      talk = More s.lines h1 h2 s.text said line w (subst (λ (z : Went). Talk o p m h s.lines h1 s.text z) on s.talk) good
          (subst (λ (n : ℕ). Tells_to o p n h1 line h2 said w) em
          (subst (λ (q : Plan). Tells_to o q m1 h1 line h2 said w) ep
          (subst (λ (c : Schema). Tells_to c p1 m1 h1 line h2 said w) eo t)));
      gathered = g ∙ ap (λ (l : List ℕ). l ++ said) s.gathered ∙ append_assoc out s.text said;
    }

-- the same, whatever was gathered before
pub from_empty : (o : Schema) (p : Plan) (m : ℕ) (h h' : Option (List Entry)) (w : Went) (held rest out out' : List ℕ) → (s : Served o p m h h' w held rest out out') → Served o p m h h' w held rest [] s.text
from_empty o p m h h' w held rest out out' s = record { lines = s.lines; text = s.text; read = s.read; talk = s.talk; gathered = refl }

-- two talks, one after the other
pub talk_on : (o : Schema) (p : Plan) (m : ℕ) (h h1 h2 : Option (List Entry)) (w : Went) (lines more : List (List ℕ)) (text said : List ℕ)
    → Talk o p m h lines h1 text went.On → Talk o p m h1 more h2 said w → Talk o p m h (lines ++ more) h2 (text ++ said) w
talk_on o p m h h1 h2 w lines more text said a Silent =
    subst (λ (ls : List (List ℕ)). Talk o p m h ls h2 (text ++ []) went.On) (sym (append-nil lines))
    (subst (λ (t : List ℕ). Talk o p m h lines h2 t went.On) (sym (append-nil text)) a)
talk_on o p m h h1 h2 w lines more text said a (More ls g1 g2 t s line v b good tells) =
    subst (λ (z : List (List ℕ)). Talk o p m h z h2 (text ++ (t ++ s)) w) (append_assoc lines ls (line ∷ []))
    (subst (λ (z : List ℕ). Talk o p m h ((lines ++ ls) ++ line ∷ []) h2 z w) (append_assoc text t s)
    (More (lines ++ ls) g1 g2 (text ++ t) s line v (talk_on o p m h h1 g1 went.On lines ls text t a b) good tells))

pub joined_append : (lines more : List (List ℕ)) → joined (lines ++ more) ≡ joined lines ++ joined more
joined_append [] more = refl
joined_append (l ∷ lines) more =
    ap (λ (r : List ℕ). (l ++ 10 ∷ []) ++ r) (joined_append lines more) ∙ sym (append_assoc (l ++ 10 ∷ []) (joined lines) (joined more))

pub loses_more : (a b c : Option (List ℕ)) (x y : List ℕ) → Loses a b x → Loses b c y → Loses a c (x ++ y)
loses_more (Some a) (Some b) (Some c) x y h k = h ∙ ap (λ (l : List ℕ). x ++ l) k ∙ sym (append_assoc x y c)
loses_more None None None x y h k = tt
loses_more (Some a) (Some b) None x y h k = absurd k
loses_more (Some a) None (Some c) x y h k = absurd h
loses_more (Some a) None None x y h k = absurd h
loses_more None (Some b) (Some c) x y h k = absurd h
loses_more None (Some b) None x y h k = absurd h
loses_more None None (Some c) x y h k = absurd k

rejoin : (lines more : List (List ℕ)) (held taken rest : List ℕ) → held ++ taken ≡ joined more ++ rest
    → (joined lines ++ held) ++ taken ≡ joined (lines ++ more) ++ rest
rejoin lines more held taken rest e =
    append_assoc (joined lines) held taken ∙ ap (λ (l : List ℕ). joined lines ++ l) e
    ∙ sym (append_assoc (joined lines) (joined more) rest) ∙ ap (λ (l : List ℕ). l ++ rest) (sym (joined_append lines more))

-- a talk goes on by one round more
pub round_on : (o : Schema) (p : Plan) (m : ℕ) (h h1 h2 : Option (List Entry)) (l0 l1 l2 s0 s1 s2 : Option (List ℕ)) (held held' : List ℕ)
    → Talked o p m h h1 l0 l1 s0 s1 held → Round o p m h1 h2 l1 l2 s1 s2 held held' → Talked o p m h h2 l0 l2 s0 s2 held'
round_on o p m h h1 h2 l0 l1 l2 s0 s1 s2 held held' a b =
    record {
      lines = a.lines ++ b.lines;
      text = a.text ++ b.text;
      talk = talk_on o p m h h1 h2 went.On a.lines b.lines a.text b.text a.talk b.talk;
      held = b.kept;
      took = subst (λ (t : List ℕ). Loses l0 l2 t) (rejoin a.lines b.lines held b.taken held' b.cut) (loses_more l0 l1 l2 (joined a.lines ++ held) b.taken a.took b.took);
      told = goes_more s0 s1 s2 a.text b.text a.told b.told;
    }

whole_more : (end : ClientEnd) (o : Schema) (p : Plan) (m : ℕ) (h' : Option (List Entry)) (left' : Option (List ℕ)) (w : Went) (rest : List ℕ) (A B : Type 0) → (A → B) → EndOf end o p m h' left' w rest A → EndOf end o p m h' left' w rest B
whole_more ends.Quit o p m h' left' w rest A B f e = (f e.0, e.1)
whole_more ends.Stopped o p m h' left' w rest A B f e = (f e.0, e.1)
whole_more ends.Closed o p m h' left' w rest A B f e = (f e.0, e.1, e.2, e.3)
whole_more ends.LineTooLong o p m h' left' w rest A B f e = (f e.0, e.1, e.2)
whole_more ends.LinkFault o p m h' left' w rest A B f e = tt
whole_more ends.NoMemory o p m h' left' w rest A B f e = tt

-- and ends by one that was broken off
pub halt_on : (end : ClientEnd) (o : Schema) (p : Plan) (m : ℕ) (h h1 h2 : Option (List Entry)) (l0 l1 l2 s0 s1 s2 : Option (List ℕ)) (held : List ℕ)
    → Talked o p m h h1 l0 l1 s0 s1 held → Halt end o p m h1 h2 l1 l2 s1 s2 held → Broke end o p m h h2 l0 l2 s0 s2
halt_on end o p m h h1 h2 l0 l1 l2 s0 s1 s2 held a b =
    record {
      lines = a.lines ++ b.lines;
      text = a.text ++ b.text;
      rest = b.rest;
      way = b.way;
      talk = talk_on o p m h h1 h2 b.way a.lines b.lines a.text b.text a.talk b.talk;
      took = subst (λ (t : List ℕ). Loses l0 l2 t) (rejoin a.lines b.lines held b.taken b.rest b.cut) (loses_more l0 l1 l2 (joined a.lines ++ held) b.taken a.took b.took);
      told = (
        a.text ++ b.told.0,
        b.told.1,
        ap (λ (l : List ℕ). a.text ++ l) b.told.2 ∙ sym (append_assoc a.text b.told.0 b.told.1),
        goes_more s0 s1 s2 a.text b.told.0 a.told b.told.3,
      );
      ended = whole_more end o p m h2 l2 b.way b.rest (Goes s1 s2 b.text) (Goes s0 s2 (a.text ++ b.text)) (λ g. goes_more s0 s1 s2 a.text b.text a.told g) b.ended;
    }

loses_none : (left : Option (List ℕ)) → Loses left left []
loses_none (Some l) = refl
loses_none None = tt

-- where nothing came
pub round_none : (o : Schema) (p : Plan) (m : ℕ) (h h' : Option (List Entry)) (left left' sent sent' : Option (List ℕ)) (held : List ℕ) → IsLine held → h' ≡ h → left' ≡ left → sent' ≡ sent → Round o p m h h' left left' sent sent' held held
round_none o p m h h' left left' sent sent' held good eh el es =
    record { lines = []; text = []; taken = []; talk = rw eh Silent; took = rw el (loses_none left); cut = append-nil held; told = rw es (goes_none sent); kept = good }

pub halt_none : (end : ClientEnd) (o : Schema) (p : Plan) (m : ℕ) (h h' : Option (List Entry)) (left left' sent sent' : Option (List ℕ)) (held : List ℕ) → h' ≡ h → left' ≡ left → sent' ≡ sent → EndOf end o p m h' left' went.On held (Goes sent sent' []) → Halt end o p m h h' left left' sent sent' held
halt_none end o p m h h' left left' sent sent' held eh el es ended =
    record { lines = []; text = []; taken = []; rest = held; way = went.On; ended = ended; talk = rw eh Silent; took = rw el (loses_none left); cut = append-nil held; told = ([], [], refl, rw es (goes_none sent)) }

pub whole : (sent sent' : Option (List ℕ)) (text : List ℕ) → Goes sent sent' text → GoesSome sent sent' text
whole sent sent' text g = (text, [], sym (append-nil text), g)

pub talked_start : (o : Schema) (p : Plan) (m : ℕ) (h : Option (List Entry)) (left sent : Option (List ℕ)) (held : List ℕ) → held ≡ [] → Talked o p m h h left left sent sent held
talked_start o p m h left sent held e =
    record { lines = []; text = []; talk = Silent; took = rw e (loses_none left); told = goes_none sent; held = rw e (record { short = omega arith; no_end = tt }) }

pub round_at : (o o1 : Schema) (p p1 : Plan) (m m1 : ℕ) (h h1 h2 : Option (List Entry)) (l0 l1 l2 s0 s1 s2 : Option (List ℕ)) (held held' : List ℕ)
    → o1 ≡ o → p1 ≡ p → m1 ≡ m → Talked o p m h h1 l0 l1 s0 s1 held → Round o1 p1 m1 h1 h2 l1 l2 s1 s2 held held' → Talked o p m h h2 l0 l2 s0 s2 held'
round_at o o1 p p1 m m1 h h1 h2 l0 l1 l2 s0 s1 s2 held held' eo ep em a b =
    round_on o p m h h1 h2 l0 l1 l2 s0 s1 s2 held held' a
    (subst (λ (n : ℕ). Round o p n h1 h2 l1 l2 s1 s2 held held') em
    (subst (λ (q : Plan). Round o q m1 h1 h2 l1 l2 s1 s2 held held') ep
    (subst (λ (c : Schema). Round c p1 m1 h1 h2 l1 l2 s1 s2 held held') eo b)))

pub halt_at : (end : ClientEnd) (o o1 : Schema) (p p1 : Plan) (m m1 : ℕ) (h h1 h2 : Option (List Entry)) (l0 l1 l2 s0 s1 s2 : Option (List ℕ)) (held : List ℕ)
    → o1 ≡ o → p1 ≡ p → m1 ≡ m → Talked o p m h h1 l0 l1 s0 s1 held → Halt end o1 p1 m1 h1 h2 l1 l2 s1 s2 held → Broke end o p m h h2 l0 l2 s0 s2
halt_at end o o1 p p1 m m1 h h1 h2 l0 l1 l2 s0 s1 s2 held eo ep em a b =
    halt_on end o p m h h1 h2 l0 l1 l2 s0 s1 s2 held a
    (subst (λ (n : ℕ). Halt end o p n h1 h2 l1 l2 s1 s2 held) em
    (subst (λ (q : Plan). Halt end o q m1 h1 h2 l1 l2 s1 s2 held) ep
    (subst (λ (c : Schema). Halt end c p1 m1 h1 h2 l1 l2 s1 s2 held) eo b)))

pub served_on : (o : Schema) (p : Plan) (m : ℕ) (h h' : Option (List Entry)) (w : Went) (held rest out out' : List ℕ) → Served o p m h h' w held rest out out' → w ≡ went.On → Served o p m h h' went.On held rest out out'
served_on o p m h h' w held rest out out' s e = subst (λ (v : Went). Served o p m h h' v held rest out out') e s

pub told_text : (out out' text d : List ℕ) → out ≡ [] → out' ≡ out ++ text → d ≡ out' → d ≡ text
told_text out out' text d e h k = k ∙ h ∙ ap (λ (l : List ℕ). l ++ text) e

-- Feeding a peer, step by step.
use Rattle.std.proofs.Common.{◌≡◌, ℕ, ◌⊎◌, List, [], ◌∷◌, ◌++◌, ◌+◌, ◌<◌, length, get_or, take, drop, Option, refl, sym, ap, subst, ◌∙◌, inl, inr}
use Rattle.std.proofs.lemmas.List.{append-nil, append_assoc}
use Rattle.ham_syntax.specs.Objects.{Schema}
use Rattle.ham_plan.specs.Plans.{Plan}
use Rattle.ham_bytes.specs.Causes.{Rose}
use Rattle.ham_links.specs.Links.{Goes, GoesSome}
use Rattle.ham_frame.specs.Spelling.{Fits, stream, spelling}
use Rattle.ham_frame.proofs.Streams.{stream-append}
use Rattle.ham_peer.proofs.Each.{item_next, item_cut}
use Rattle.ham_peer.specs.Delivering.{hello_of}
use Rattle.ham_peer.specs.Collecting.{Way, Goes_on, Gets, Collects, None_yet, And_then, given_by, way_by, FeedEndOf, FeedRound, FeedHalt, Feeding, FedPeer, FeedEndsBy}
use Rattle.ham_journal.specs.declared.entry.Entry.{Entry}
use Rattle.ham_journal.specs.declared.input.Reply.{Reply}
use Rattle.ham_frame.specs.declared.frame.Frame.{Frame}
use Rattle.ham_frame.specs.declared.frame.Frame.TheVariants as frames
use Rattle.ham_peer.specs.declared.greeting.Greeting.{Greeting}
use Rattle.ham_peer.specs.declared.feeding.FeedEnd.{FeedEnd}
use Rattle.ham_peer.specs.declared.feeding.FeedEnd.TheVariants as ends
use Rattle.ham_links.proofs.Sending.{goes_none, goes_more}

abbrev Bytes : Type 0
Bytes = Option (List ℕ)

-- more goes, and then a front
some_more : (s0 s1 s2 : Bytes) (first text : List ℕ) → Goes s0 s1 first → GoesSome s1 s2 text → GoesSome s0 s2 (first ++ text)
some_more s0 s1 s2 first text a b =
    (first ++ b.0, b.1, ap (λ (l : List ℕ). first ++ l) b.2 ∙ sym (append_assoc first b.0 b.1), goes_more s0 s1 s2 first b.0 a b.3)

-- a front of a front
some_beyond : (s0 s1 : Bytes) (text later : List ℕ) → GoesSome s0 s1 text → GoesSome s0 s1 (text ++ later)
some_beyond s0 s1 text later b = (b.0, b.1 ++ later, ap (λ (l : List ℕ). l ++ later) b.2 ∙ append_assoc b.0 b.1 later, b.3)

-- the whole is one
pub all_some : (s0 s1 : Bytes) (text : List ℕ) → Goes s0 s1 text → GoesSome s0 s1 text
all_some s0 s1 text a = (text, [], sym (append-nil text), a)

one_stream : (fs : List Frame) (f : Frame) → stream (fs ++ f ∷ []) ≡ stream fs ++ spelling f
one_stream fs f = stream-append fs (f ∷ []) ∙ ap (λ (l : List ℕ). stream fs ++ l) (append-nil (spelling f))

-- ---- frames in order

pub sent_next : (s0 s1 s2 : Bytes) (all : List Frame) (i : ℕ) (f : Frame) → i < length all → f ≡ get_or all i f → Goes s0 s1 (stream (take i all)) → Goes s1 s2 (spelling f) → Goes s0 s2 (stream (take (i + 1) all))
sent_next s0 s1 s2 all i f in_all is a b =
    subst (λ (t : List ℕ). Goes s0 s2 t) (sym (ap stream (item_next all i f in_all is) ∙ one_stream (take i all) f)) (goes_more s0 s1 s2 (stream (take i all)) (spelling f) a b)

pub sent_front : (s0 s1 s2 : Bytes) (all : List Frame) (i : ℕ) (f : Frame) → i < length all → f ≡ get_or all i f → Goes s0 s1 (stream (take i all)) → GoesSome s1 s2 (spelling f) → GoesSome s0 s2 (stream all)
sent_front s0 s1 s2 all i f in_all is a b =
    subst (λ (t : List ℕ). GoesSome s0 s2 t) (sym (ap stream (item_cut all i f in_all is) ∙ stream-append (take i all) (f ∷ drop (i + 1) all)))
    (some_more s0 s1 s2 (stream (take i all)) (stream (f ∷ drop (i + 1) all)) a (some_beyond s1 s2 (spelling f) (stream (drop (i + 1) all)) b))

-- ---- rounds

pub hello_sent : (o : Schema) (p : Plan) (m peer : ℕ) (g : Greeting) (h : Option (List Entry)) (s0 s1 : Bytes) → Goes s0 s1 (spelling (hello_of g)) → Feeding o p m peer g h h s0 s1
hello_sent o p m peer g h s0 s1 a = record { given = []; collects = None_yet; told = subst (λ (t : List ℕ). Goes s0 s1 t) (sym (append-nil (spelling (hello_of g)))) a }

free_end : (e : FeedEnd) (w : Way) (A : Type 0) (l l' : ℕ) → (e ≡ ends.NoMemory) ⊎ ((e ≡ ends.LinkFault) × Rose l l') → FeedEndOf e w A
free_end e w A l l' (inl n) = rw n tt
free_end e w A l l' (inr f) = rw f.0 tt

pub free_causes : (e : FeedEnd) (l l' s s' f f' : ℕ) → (e ≡ ends.NoMemory) ⊎ ((e ≡ ends.LinkFault) × Rose l l') → FeedEndsBy e l l' s s' f f'
free_causes e l l' s s' f f' (inl n) = rw n tt
free_causes e l l' s s' f f' (inr h) = rw h.0 h.1

pub hello_failed : (e : FeedEnd) (o : Schema) (p : Plan) (m peer : ℕ) (g : Greeting) (h : Option (List Entry)) (s0 s1 : Bytes) (l l' : ℕ) → GoesSome s0 s1 (spelling (hello_of g))
    → (e ≡ ends.NoMemory) ⊎ ((e ≡ ends.LinkFault) × Rose l l') → FedPeer e o p m peer g h h s0 s1
hello_failed e o p m peer g h s0 s1 l l' a c = record {
  given = [];
  way = Goes_on;
  collects = None_yet;
  told = some_beyond s0 s1 (spelling (hello_of g)) [] a;
  ended = free_end e Goes_on _ l l' c;
}

pub feeding_on : (o : Schema) (p : Plan) (m peer : ℕ) (g : Greeting) (h h1 h2 : Option (List Entry)) (s0 s1 s2 : Bytes)
    → Feeding o p m peer g h h1 s0 s1 → FeedRound o p m peer h1 h2 s1 s2 → Feeding o p m peer g h h2 s0 s2
feeding_on o p m peer g h h1 h2 s0 s1 s2 a (r, entered, on, sent) =
    record {
      given = a.given ++ given_by r;
      collects = subst (λ (w : Way). Collects o p m peer h (a.given ++ given_by r) w h2) on (And_then a.given h1 h2 r a.collects entered);
      told = subst (λ (t : List ℕ). Goes s0 s2 t) (sym (stream-append (hello_of g ∷ a.given) (given_by r))) (goes_more s0 s1 s2 (stream (hello_of g ∷ a.given)) (stream (given_by r)) a.told sent);
    }

whole_end : (e : FeedEnd) (w : Way) (A B : Type 0) → (A → B) → FeedEndOf e w A → FeedEndOf e w B
whole_end ends.LinkFault w A B f h = tt
whole_end ends.Stopped w A B f h = (h.0, f h.1)
whole_end ends.Full w A B f h = (h.0, f h.1)
whole_end ends.NoMemory w A B f h = tt

pub feeding_ends : (e : FeedEnd) (o : Schema) (p : Plan) (m peer : ℕ) (g : Greeting) (h h1 h2 : Option (List Entry)) (s0 s1 s2 : Bytes)
    → Feeding o p m peer g h h1 s0 s1 → FeedHalt e o p m peer h1 h2 s1 s2 → FedPeer e o p m peer g h h2 s0 s2
feeding_ends e o p m peer g h h1 h2 s0 s1 s2 a (r, entered, sent, ended) =
    let all = stream-append (hello_of g ∷ a.given) (given_by r) in
    record {
      given = a.given ++ given_by r;
      way = way_by r;
      collects = And_then a.given h1 h2 r a.collects entered;
      told = subst (λ (t : List ℕ). GoesSome s0 s2 t) (sym all) (some_more s0 s1 s2 (stream (hello_of g ∷ a.given)) (stream (given_by r)) a.told sent);
      ended = whole_end e (way_by r) _ _ (λ q. subst (λ (t : List ℕ). Goes s0 s2 t) (sym all) (goes_more s0 s1 s2 (stream (hello_of g ∷ a.given)) (stream (given_by r)) a.told q)) ended;
    }

-- ---- what one reply gives

pub halt_free : (e : FeedEnd) (o : Schema) (p : Plan) (m peer : ℕ) (h h' : Option (List Entry)) (s0 s1 : Bytes) (r : Reply) (l l' : ℕ) → Gets o p m peer h h' r
    → GoesSome s0 s1 (stream (given_by r)) → (e ≡ ends.NoMemory) ⊎ ((e ≡ ends.LinkFault) × Rose l l') → FeedHalt e o p m peer h h' s0 s1
halt_free e o p m peer h h' s0 s1 r l l' entered sent c = (r, entered, sent, free_end e (way_by r) _ l l' c)

-- a Bye fits
pub bye_fits : (f : Frame) → f ≡ frames.Bye → Fits f
bye_fits f e = rw e tt

-- Serving a peer, step by step.
use Rattle.std.proofs.Common.{◌≡◌, ◌≢◌, ℕ, zero, suc, ◌+◌, ◌≤◌, ◌<◌, ◌⊎◌, Bool, true, false, List, [], ◌∷◌, ◌++◌, length, get_or, take, Option, Some, None, Result, Ok, Err, refl, sym, ap, subst, ◌∙◌, inl, inr, arith}
use Rattle.std.proofs.lemmas.List.{append-nil, append_assoc, length-append}
use Rattle.ham_syntax.specs.Objects.{Schema}
use Rattle.ham_plan.specs.Plans.{Plan}
use Rattle.ham_frame.specs.declared.frame.Frame.{Frame}
use Rattle.ham_frame.specs.declared.frame.Frame.TheVariants as frames
use Rattle.ham_frame.specs.declared.field.Why.{Why}
use Rattle.ham_frame.specs.declared.decoder.FrameFault.{FrameFault}
use Rattle.ham_frame.specs.declared.decoder.FrameFault.TheVariants.{Bad, NoMemory}
use Rattle.ham_frame.specs.Spelling.{AllFit, IsUnfinished, IsFault, stream}
use Rattle.ham_frame.specs.Decoding.{Fed, Reads, ReadsFront, Refuses}
use Rattle.ham_frame.proofs.Streams.{all_fit-append, stream-append, fault_later}
use Rattle.std.specs.Prelude.{IfErr}
use Rattle.ham_journal.specs.declared.entry.Entry.{Entry}
use Rattle.ham_journal.specs.declared.input.Input.TheVariants as inputs
use Rattle.ham_journal.specs.declared.input.Reply.{Reply}
use Rattle.ham_journal.specs.Replies.{IsOfKind}
use Rattle.ham_core.specs.Doors.{EntersBy}
use Rattle.ham_links.specs.Links.{Loses}
use Rattle.ham_peer.proofs.Each.{item_next}
use Rattle.ham_peer.specs.Delivering.{Way, Waits, is_bye, way_after, Goes, Ends, going, Meets, Delivers, None_yet, And_then, IsGoing, IsCaughtUp, EndsAt, PeerEndOf, Going, Peered, GoesOn, EndsIn, PeerRound, PeerHalt, end_by, MetBy, PeerEndsBy, Feeds}
use Rattle.ham_peer.specs.declared.greeting.Greeting.{Greeting}
use Rattle.ham_peer.specs.declared.meeting.PeerEnd.{PeerEnd}
use Rattle.ham_peer.specs.declared.meeting.PeerEnd.TheVariants as ends

abbrev History : Type 0
History = Option (List Entry)

none_lost : (left : Option (List ℕ)) → Loses left left []
none_lost (Some l) = refl
none_lost None = tt

loses_more : (a b c : Option (List ℕ)) (x y : List ℕ) → Loses a b x → Loses b c y → Loses a c (x ++ y)
loses_more (Some a) (Some b) (Some c) x y h k = h ∙ ap (λ (l : List ℕ). x ++ l) k ∙ sym (append_assoc x y c)
loses_more None None None x y h k = tt
loses_more (Some a) (Some b) None x y h k = absurd k
loses_more (Some a) None (Some c) x y h k = absurd h
loses_more (Some a) None None x y h k = absurd h
loses_more None (Some b) (Some c) x y h k = absurd h
loses_more None (Some b) None x y h k = absurd h
loses_more None None (Some c) x y h k = absurd k

pub at_home : (P : Schema → Plan → ℕ → Type 0) (o o1 : Schema) (p p1 : Plan) (m m1 : ℕ) → o1 ≡ o → p1 ≡ p → m1 ≡ m → P o1 p1 m1 → P o p m
at_home P o o1 p p1 m m1 eo ep em h =
    subst (λ (n : ℕ). P o p n) em (subst (λ (q : Plan). P o q m1) ep (subst (λ (c : Schema). P c p1 m1) eo h))

delivers_on : (o : Schema) (p : Plan) (m : ℕ) (g : Greeting) (w w1 : Way) (h h1 : History) (fs : List Frame) (w2 : Way) (h2 : History) (gs : List Frame)
    → Delivers o p m g w h fs w1 h1 → Delivers o p m g w1 h1 gs w2 h2 → Delivers o p m g w h (fs ++ gs) w2 h2
delivers_on o p m g w w1 h h1 fs w2 h2 gs a None_yet = subst (λ (l : List Frame). Delivers o p m g w h l w2 h2) (sym (append-nil fs)) a
delivers_on o p m g w w1 h h1 fs w2 h2 gs a (And_then es v1 v2 g1 g2 f b met) =
    subst (λ (l : List Frame). Delivers o p m g w h l w2 h2) (append_assoc fs es (f ∷ []))
    (And_then (fs ++ es) v1 v2 g1 g2 f (delivers_on o p m g w w1 h h1 fs v1 g1 es a b) met)

-- one frame more of those that a loop goes over
pub delivers_next : (o : Schema) (p : Plan) (m : ℕ) (g : Greeting) (w : Way) (h h1 h2 : History) (w1 w2 : Way) (all : List Frame) (i : ℕ) (f : Frame)
    → i < length all → f ≡ get_or all i f → Delivers o p m g w h (take i all) w1 h1 → Meets o p m g w1 h1 f w2 h2 → Delivers o p m g w h (take (i + 1) all) w2 h2
delivers_next o p m g w h h1 h2 w1 w2 all i f in_all is a met =
    subst (λ (l : List Frame). Delivers o p m g w h l w2 h2) (sym (item_next all i f in_all is)) (And_then (take i all) w1 w2 h1 h2 f a met)

-- a frame after the Hello, whose reply ends it
pub meets_off : (o : Schema) (p : Plan) (m : ℕ) (g : Greeting) (greeted bye : Bool) (h h' : History) (f : Frame) (r : Reply) (e : Result Unit PeerEnd) → greeted ≡ true → bye ≡ is_bye f
    → EntersBy o p m h h' (inputs.Deliver g.from f) r → IsOfKind (inputs.Deliver g.from f) r → IfErr e (λ d. way_after bye r ≡ Ends d) → IfErr e (λ d. Meets o p m g (going greeted) h f (Ends d) h')
meets_off o p m g greeted bye h h' f r (Ok done) eg eb told kind w = tt
meets_off o p m g greeted bye h h' f r (Err d) eg eb told kind w =
    subst (λ (b : Bool). Meets o p m g (going b) h f (Ends d) h') (sym eg) (r, told, kind, sym (subst (λ (b : Bool). way_after b r ≡ Ends d) eb w))

-- bytes cut after some frames, and again after more
rejoin : (fs gs : List Frame) (held taken rest : List ℕ) → held ++ taken ≡ stream gs ++ rest → (stream fs ++ held) ++ taken ≡ stream (fs ++ gs) ++ rest
rejoin fs gs held taken rest e =
    append_assoc (stream fs) held taken ∙ ap (λ (l : List ℕ). stream fs ++ l) e
    ∙ sym (append_assoc (stream fs) (stream gs) rest) ∙ ap (λ (l : List ℕ). l ++ rest) (sym (stream-append fs gs))

whole_of : (fs gs : List Frame) (rest : List ℕ) → stream (fs ++ gs) ++ rest ≡ stream fs ++ (stream gs ++ rest)
whole_of fs gs rest = ap (λ (l : List ℕ). l ++ rest) (stream-append fs gs) ∙ append_assoc (stream fs) (stream gs) rest

length_of : (fs gs : List Frame) (rest : List ℕ) → length (stream (fs ++ gs) ++ rest) ≡ length (stream fs) + length (stream gs ++ rest)
length_of fs gs rest = ap length (whole_of fs gs rest) ∙ length-append (stream fs) (stream gs ++ rest)

-- a round more
pub going_on : (o : Schema) (p : Plan) (m : ℕ) (g : Greeting) (h h1 h2 : History) (l0 l1 l2 : Option (List ℕ)) (b c : Bool) (fed fed' : Fed)
    → Going o p m g h h1 l0 l1 b fed → PeerRound o p m g h1 h2 l1 l2 b c fed fed' → Going o p m g h h2 l0 l2 c fed'
going_on o p m g h h1 h2 l0 l1 l2 b c fed fed' a (taken, took, r) =
    record {
      met = a.met ++ r.met;
      fit = all_fit-append a.met r.met a.fit r.fit;
      delivers = delivers_on o p m g Waits (going b) h h1 a.met (going c) h2 r.met a.delivers r.delivers;
      took = subst (λ (t : List ℕ). Loses l0 l2 t) (rejoin a.met r.met fed.rest taken fed'.rest r.bytes_are) (loses_more l0 l1 l2 (stream a.met ++ fed.rest) taken a.took took);
      working = r.working;
      unfinished = r.unfinished;
      total = omega (arith, r.total, a.total, length-append (stream a.met ++ fed.rest) taken, ap length (rejoin a.met r.met fed.rest taken fed'.rest r.bytes_are));
    }

-- an end, told from the first byte of the stream
end_at : (e : PeerEnd) (o : Schema) (p : Plan) (m : ℕ) (h' : History) (left' : Option (List ℕ)) (fs gs : List Frame) (w : Way) (rest : List ℕ) → AllFit fs
    → PeerEndOf e o p m h' left' (length (stream fs)) gs w rest → PeerEndOf e o p m h' left' 0 (fs ++ gs) w rest
end_at ends.Bye o p m h' left' fs gs w rest fit (inl h) = inl h
end_at ends.Bye o p m h' left' fs gs w rest fit (inr h) = inr (h.0, omega (arith, h.1, length_of fs gs rest))
end_at (ends.Closed torn) o p m h' left' fs gs w rest fit h = h
end_at ends.BadHello o p m h' left' fs gs w rest fit h = h
end_at (ends.Bad at why) o p m h' left' fs gs w rest fit (still, (place, there, fault)) = (
  still,
  (
    length (stream fs) + place,
    omega (arith, there),
    subst (λ (l : List ℕ). IsFault (length (stream fs) + place) why l) (sym (whole_of fs gs rest)) (fault_later fs (stream gs ++ rest) place why fit fault),
  ),
)
end_at (ends.Refused why) o p m h' left' fs gs w rest fit h = h
end_at ends.LinkFault o p m h' left' fs gs w rest fit h = h
end_at ends.Stopped o p m h' left' fs gs w rest fit h = h
end_at ends.Full o p m h' left' fs gs w rest fit h = h
end_at ends.NoMemory o p m h' left' fs gs w rest fit h = h

pub halts : (e : PeerEnd) (o : Schema) (p : Plan) (m : ℕ) (g : Greeting) (h h1 h2 : History) (l0 l1 l2 : Option (List ℕ)) (b : Bool) (fed : Fed)
    → Going o p m g h h1 l0 l1 b fed → PeerHalt e o p m g h1 h2 l1 l2 b fed → Peered e o p m g h h2 l0 l2
halts e o p m g h h1 h2 l0 l1 l2 b fed a (taken, took, r) =
    record {
      met = a.met ++ r.met;
      rest = r.rest;
      way = r.way;
      delivers = delivers_on o p m g Waits (going b) h h1 a.met r.way h2 r.met a.delivers r.delivers;
      took = subst (λ (t : List ℕ). Loses l0 l2 t) (rejoin a.met r.met fed.rest taken r.rest r.bytes_are) (loses_more l0 l1 l2 (stream a.met ++ fed.rest) taken a.took took);
      ended = end_at e o p m h2 l2 a.met r.met r.way r.rest a.fit (r.ended (length (stream a.met)) (omega (arith, a.total, length-append (stream a.met) fed.rest)));
    }

none_unfinished : (rest : List ℕ) → rest ≡ [] → IsUnfinished rest
none_unfinished rest e = subst IsUnfinished (sym e) (record { frame = frames.Bye; more = 6 ∷ []; fits = tt; some = omega arith; is = refl })

pub starts : (o : Schema) (p : Plan) (m : ℕ) (g : Greeting) (h : History) (left : Option (List ℕ)) (fed : Fed) → fed ≡ record { total = 0; rest = []; fault = None }
    → Going o p m g h h left left false fed
starts o p m g h left fed e =
    record {
      met = [];
      fit = tt;
      delivers = None_yet;
      took = rw e (none_lost left);
      working = ap (λ (f : Fed). f.fault) e;
      unfinished = none_unfinished fed.rest (ap (λ (f : Fed). f.rest) e);
      total = rw e refl;
    }

-- where 2 ^ 40 bytes were carried
pub carried : (o : Schema) (p : Plan) (m : ℕ) (g : Greeting) (h h' : History) (l0 l1 : Option (List ℕ)) (b : Bool) (fed : Fed) → Going o p m g h h' l0 l1 b fed → 1099511627776 ≤ fed.total
    → Peered ends.Bye o p m g h h' l0 l1
carried o p m g h h' l0 l1 b fed a full =
    record {
      met = a.met;
      rest = fed.rest;
      way = going b;
      delivers = a.delivers;
      took = a.took;
      ended = inr (((b, refl), a.unfinished), omega (arith, a.total, full));
    }

-- ---- a piece

-- some bytes of a piece were read, and these are left
abbrev ReadsSome : Fed → Fed → List Frame → List Frame → List ℕ → Type 0
ReadsSome old new held given piece = (read : List ℕ) × (tail : List ℕ) × (piece ≡ read ++ tail) × Reads old new held given read

fed_some : (r : Result Unit FrameFault) (old new : Fed) (held given : List Frame) (piece : List ℕ) → Feeds r old new held given piece → ReadsSome old new held given piece
fed_some (Ok done) old new held given piece f = (piece, [], sym (append-nil piece), f.1)
fed_some (Err NoMemory) old new held given piece f = (f.1.read, f.0, f.1.parts, f.1.reads)
fed_some (Err (Bad at why)) old new held given piece f = (f.read, f.rest, f.parts, f.reads)

pub fed_fit : (r : Result Unit FrameFault) (old new : Fed) (held given : List Frame) (piece : List ℕ) → held ≡ [] → Feeds r old new held given piece → AllFit given
fed_fit r old new held given piece e f =
    let s = fed_some r old new held given piece f in
    subst AllFit (sym (s.3.grown ∙ ap (λ (l : List Frame). l ++ s.3.frames) e)) s.3.fit

-- the frames that were put are those of the stream
only_given : (old new : Fed) (held given : List Frame) (read : List ℕ) → held ≡ [] → (r : Reads old new held given read) → old.rest ++ read ≡ stream given ++ new.rest
only_given old new held given read e r =
    r.stream ∙ ap (λ (l : List Frame). stream l ++ new.rest) (sym (r.grown ∙ ap (λ (l : List Frame). l ++ r.frames) e))

-- what was taken, where some of it was read
cut : (old new : Fed) (held given met later : List Frame) (piece : List ℕ) → held ≡ [] → (s : ReadsSome old new held given piece) → given ≡ met ++ later
    → old.rest ++ piece ≡ stream met ++ (stream later ++ (new.rest ++ s.1))
cut old new held given met later piece none (read, tail, parts, r) e =
    ap (λ (l : List ℕ). old.rest ++ l) parts
    ∙ sym (append_assoc old.rest read tail)
    ∙ ap (λ (l : List ℕ). l ++ tail) (only_given old new held given read none r ∙ ap (λ (l : List Frame). stream l ++ new.rest) e ∙ whole_of met later new.rest)
    ∙ append_assoc (stream met) (stream later ++ new.rest) tail
    ∙ ap (λ (l : List ℕ). stream met ++ l) (append_assoc (stream later) new.rest tail)

-- a frame at which it ends, told as the end of a stream
met_ends : (e : PeerEnd) (o : Schema) (p : Plan) (m : ℕ) (h' : History) (left' : Option (List ℕ)) (start : ℕ) (met : List Frame) (rest : List ℕ) (s s' f f' r r' : ℕ)
    → MetBy e s s' f f' r r' → PeerEndOf e o p m h' left' start met (Ends e) rest
met_ends ends.Bye o p m h' left' start met rest s s' f f' r r' h = inl refl
met_ends (ends.Closed torn) o p m h' left' start met rest s s' f f' r r' h = absurd h
met_ends ends.BadHello o p m h' left' start met rest s s' f f' r r' h = refl
met_ends (ends.Bad at why) o p m h' left' start met rest s s' f f' r r' h = absurd h
met_ends (ends.Refused why) o p m h' left' start met rest s s' f f' r r' h = refl
met_ends ends.LinkFault o p m h' left' start met rest s s' f f' r r' h = absurd h
met_ends ends.Stopped o p m h' left' start met rest s s' f f' r r' h = inl refl
met_ends ends.Full o p m h' left' start met rest s s' f f' r r' h = refl
met_ends ends.NoMemory o p m h' left' start met rest s s' f f' r r' h = inl refl

-- the same, or for want of memory before the next frame
stop_ends : (e : PeerEnd) (w : Way) (o : Schema) (p : Plan) (m : ℕ) (h' : History) (left' : Option (List ℕ)) (start : ℕ) (met : List Frame) (rest : List ℕ) (s s' f f' r r' : ℕ)
    → EndsAt e w → MetBy e s s' f f' r r' → PeerEndOf e o p m h' left' start met w rest
stop_ends e w o p m h' left' start met rest s s' f f' r r' (inl h) by =
    subst (λ (v : Way). PeerEndOf e o p m h' left' start met v rest) (sym h) (met_ends e o p m h' left' start met rest s s' f f' r r' by)
stop_ends e w o p m h' left' start met rest s s' f f' r r' (inr h) by =
    subst (λ (d : PeerEnd). PeerEndOf d o p m h' left' start met w rest) (sym h.0) (inr h.1)

pub met_causes : (e : PeerEnd) (l l' n n' s s' f f' r r' : ℕ) → MetBy e s s' f f' r r' → PeerEndsBy e l l' n n' s s' f f' r r'
met_causes ends.Bye l l' n n' s s' f f' r r' h = tt
met_causes (ends.Closed torn) l l' n n' s s' f f' r r' h = absurd h
met_causes ends.BadHello l l' n n' s s' f f' r r' h = tt
met_causes (ends.Bad at why) l l' n n' s s' f f' r r' h = tt
met_causes (ends.Refused why) l l' n n' s s' f f' r r' h = h
met_causes ends.LinkFault l l' n n' s s' f f' r r' h = absurd h
met_causes ends.Stopped l l' n n' s s' f f' r r' h = h
met_causes ends.Full l l' n n' s s' f f' r r' h = h
met_causes ends.NoMemory l l' n n' s s' f f' r r' h = tt

pub piece_ends : (e : PeerEnd) (o : Schema) (p : Plan) (m : ℕ) (g : Greeting) (h h' : History) (left : Option (List ℕ)) (b : Bool) (r : Result Unit FrameFault) (old new : Fed) (held given : List Frame) (piece : List ℕ) (s s' f f' q q' : ℕ)
    → held ≡ [] → Feeds r old new held given piece
    → ((met : List Frame) × (later : List Frame) × (way : Way) × (given ≡ met ++ later) × EndsAt e way × Delivers o p m g (going b) h met way h') → MetBy e s s' f f' q q'
    → EndsIn e o p m g h h' left b old piece
piece_ends e o p m g h h' left b r old new held given piece s s' f f' q q' none fed (met, later, way, split, stop, did) by =
    let some = fed_some r old new held given piece fed in
    record {
      met = met;
      rest = stream later ++ (new.rest ++ some.1);
      way = way;
      delivers = did;
      bytes_are = cut old new held given met later piece none some split;
      ended = λ start at. stop_ends e way o p m h' left start met _ s s' f f' q q' stop by;
    }

pub piece_goes : (o : Schema) (p : Plan) (m : ℕ) (g : Greeting) (h h' : History) (b c : Bool) (old new : Fed) (held given : List Frame) (piece : List ℕ)
    → held ≡ [] → (new.fault ≡ None) × Reads old new held given piece → IsUnfinished new.rest → Delivers o p m g (going b) h given (going c) h' → GoesOn o p m g h h' b c old new piece
piece_goes o p m g h h' b c old new held given piece none f left did =
    record {
      met = given;
      fit = subst AllFit (sym (f.1.grown ∙ ap (λ (l : List Frame). l ++ f.1.frames) none)) f.1.fit;
      delivers = did;
      bytes_are = only_given old new held given piece none f.1;
      working = f.0;
      unfinished = left;
      total = f.1.total;
    }

-- where a byte was refused, or memory ran out
front_rest : (old new : Fed) (held given : List Frame) (piece : List ℕ) → held ≡ [] → (s : ReadsSome old new held given piece) → old.rest ++ piece ≡ stream given ++ (new.rest ++ s.1)
front_rest old new held given piece none s = cut old new held given given [] piece none s (sym (append-nil given))

piece_lacks : (o : Schema) (p : Plan) (m : ℕ) (g : Greeting) (h h' : History) (left : Option (List ℕ)) (b c : Bool) (old new : Fed) (held given : List Frame) (piece : List ℕ)
    → held ≡ [] → ReadsFront old new held given piece → Delivers o p m g (going b) h given (going c) h' → EndsIn ends.NoMemory o p m g h h' left b old piece
piece_lacks o p m g h h' left b c old new held given piece none f did =
    record {
      met = given;
      rest = new.rest ++ f.0;
      way = going c;
      delivers = did;
      bytes_are = front_rest old new held given piece none (f.1.read, f.0, f.1.parts, f.1.reads);
      ended = λ start at. inr (c, refl);
    }

piece_bad : (o : Schema) (p : Plan) (m : ℕ) (g : Greeting) (h h' : History) (left : Option (List ℕ)) (b c : Bool) (old new : Fed) (held given : List Frame) (piece : List ℕ) (at : ℕ) (why : Why)
    → held ≡ [] → Refuses old new held given piece at why → Delivers o p m g (going b) h given (going c) h' → EndsIn (ends.Bad at why) o p m g h h' left b old piece
piece_bad o p m g h h' left b c old new held given piece at why none f did =
    let all = front_rest old new held given piece none (f.read, f.rest, f.parts, f.reads) in
    record {
      met = given;
      rest = new.rest ++ f.rest;
      way = going c;
      delivers = did;
      bytes_are = all;
      ended = λ start begun. (
        (c, refl),
        (
          length (old.rest ++ f.read),
          omega (arith, f.place, f.reads.total, begun, length-append old.rest f.read),
          subst (λ (l : List ℕ). IsFault (length (old.rest ++ f.read)) why l) all f.refused,
        ),
      );
    }

-- a feed that failed
pub piece_fails : (fault : FrameFault) (end : PeerEnd) (o : Schema) (p : Plan) (m : ℕ) (g : Greeting) (h h' : History) (left : Option (List ℕ)) (b c : Bool) (r : Result Unit FrameFault) (old new : Fed) (held given : List Frame) (piece : List ℕ)
    → held ≡ [] → Feeds r old new held given piece → r ≡ Err fault → end ≡ end_by fault → Delivers o p m g (going b) h given (going c) h' → EndsIn end o p m g h h' left b old piece
piece_fails (Bad at why) end o p m g h h' left b c r old new held given piece none f is e did =
    rw e (piece_bad o p m g h h' left b c old new held given piece at why none (subst (λ (q : Result Unit FrameFault). Feeds q old new held given piece) is f) did)
piece_fails NoMemory end o p m g h h' left b c r old new held given piece none f is e did =
    rw e (piece_lacks o p m g h h' left b c old new held given piece none (subst (λ (q : Result Unit FrameFault). Feeds q old new held given piece) is f) did)

-- ---- a look at the link without bytes

pub looked : (o : Schema) (p : Plan) (m : ℕ) (g : Greeting) (h h' : History) (left left' : Option (List ℕ)) (b : Bool) (fed : Fed) → h' ≡ h → left' ≡ left → fed.fault ≡ None → IsUnfinished fed.rest
    → PeerRound o p m g h h' left left' b b fed fed
looked o p m g h h' left left' b fed eh el w u =
    ([], rw el (none_lost left), record { met = []; fit = tt; delivers = rw eh None_yet; bytes_are = append-nil fed.rest; working = w; unfinished = u; total = omega arith })

pub looked_last : (e : PeerEnd) (o : Schema) (p : Plan) (m : ℕ) (g : Greeting) (h h' : History) (left left' : Option (List ℕ)) (b : Bool) (fed : Fed) → h' ≡ h → left' ≡ left
    → ((start : ℕ) → PeerEndOf e o p m h' left' start [] (going b) fed.rest) → PeerHalt e o p m g h h' left left' b fed
looked_last e o p m g h h' left left' b fed eh el ended =
    ([], rw el (none_lost left), record { met = []; rest = fed.rest; way = going b; delivers = rw eh None_yet; bytes_are = append-nil fed.rest; ended = λ start at. ended start })

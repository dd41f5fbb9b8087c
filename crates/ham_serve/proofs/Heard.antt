-- Lines that were read, and what was answered to them, make a talk.
use Rattle.std.proofs.Common.{◌≡◌, ℕ, ◌+◌, ◌≤◌, ◌<◌, length, Bool, true, false, List, [], ◌∷◌, ◌++◌, Option, Some, None, refl, sym, ap, subst, ◌∙◌, ◌⊎◌, inl, inr, append_assoc, arith}
use Rattle.std.specs.Prelude.{Result, Ok, Err}
use Rattle.std.specs.List.{AllByRecursion}
use Rattle.std.proofs.lemmas.List.{append-nil, length-append}
use Rattle.ham_bytes.specs.Causes.{Rose}
use Rattle.ham_syntax.specs.Objects.{Schema}
use Rattle.ham_plan.specs.Plans.{Plan}
use Rattle.ham_turns.specs.Settings.{Setting}
use Rattle.ham_lines.specs.declared.client.ClientLine.{ClientLine}
use Rattle.ham_lines.specs.declared.fault.LineFault.{LineFault}
use Rattle.ham_journal.specs.declared.entry.Entry.{Entry}
use Rattle.ham_journal.specs.declared.input.Input.{Input}
use Rattle.ham_journal.specs.declared.input.Reply.{Reply}
use Rattle.ham_journal.specs.declared.input.Reply.TheVariants as replies
use Rattle.ham_journal.specs.Replies.{MayEnter}
use Rattle.ham_core.specs.Doors.{EntersBy, Causes}
use Rattle.ham_core.specs.Each.{Standing, EntersOne, is_stop, EntersEach, Done, Stops, Goes}
use Rattle.ham_serve.specs.declared.serve.Said.{Said}
use Rattle.ham_serve.specs.declared.serve.Said.TheVariants as said
use Rattle.ham_serve.specs.declared.serve.Went.{Went}
use Rattle.ham_serve.specs.declared.serve.Went.TheVariants as went
use Rattle.ham_serve.specs.Lines.{IsLine, joined}
use Rattle.ham_serve.specs.Texts.{input_by, said_text, way_of}
use Rattle.ham_serve.specs.Talks.{Tells_to, TellsRead, TellsInput, Served}
use Rattle.ham_serve.specs.Hearing.{asked, asked_by, Asks, Enter, Heard, HeardTo, way_after, last_text, last_way, replies_text, Answered}
use Rattle.ham_serve.proofs.Talks.{serving_more, joined_more}
use Rattle.ham_serve.proofs.Telling.{may_enter}

-- ---- ways and stops

stops_way : (r : Reply) → is_stop r ≡ true → way_of r ≡ went.Stopped
stops_way replies.Stopping e = refl
stops_way replies.Stopped e = refl
stops_way (replies.Issued i logged) e = cc
stops_way (replies.NotIssued why) e = cc
stops_way (replies.Delivered d logged) e = cc
stops_way (replies.NotDelivered why) e = cc
stops_way (replies.Ticked n) e = cc
stops_way (replies.Collected frames) e = cc
stops_way (replies.Value v) e = cc
stops_way (replies.Rows rows) e = cc
stops_way (replies.Asked a) e = cc
stops_way (replies.Log log) e = cc
stops_way (replies.Counts counts) e = cc
stops_way (replies.Recorded calls) e = cc
stops_way replies.Full e = cc
stops_way replies.NoMemory e = cc

goes_way : (r : Reply) → is_stop r ≡ false → way_of r ≡ went.On
goes_way replies.Stopping e = cc
goes_way replies.Stopped e = cc
goes_way (replies.Issued i logged) e = refl
goes_way (replies.NotIssued why) e = refl
goes_way (replies.Delivered d logged) e = refl
goes_way (replies.NotDelivered why) e = refl
goes_way (replies.Ticked n) e = refl
goes_way (replies.Collected frames) e = refl
goes_way (replies.Value v) e = refl
goes_way (replies.Rows rows) e = refl
goes_way (replies.Asked a) e = refl
goes_way (replies.Log log) e = refl
goes_way (replies.Counts counts) e = refl
goes_way (replies.Recorded calls) e = refl
goes_way replies.Full e = refl
goes_way replies.NoMemory e = refl

stop_rose : (r : Reply) (s s' f f' n n' : ℕ) → is_stop r ≡ true → Causes r s s' f f' n n' → Rose s s'
stop_rose replies.Stopping s s' f f' n n' e h = h
stop_rose replies.Stopped s s' f f' n n' e h = h
stop_rose (replies.Issued i logged) s s' f f' n n' e h = cc
stop_rose (replies.NotIssued why) s s' f f' n n' e h = cc
stop_rose (replies.Delivered d logged) s s' f f' n n' e h = cc
stop_rose (replies.NotDelivered why) s s' f f' n n' e h = cc
stop_rose (replies.Ticked k) s s' f f' n n' e h = cc
stop_rose (replies.Collected frames) s s' f f' n n' e h = cc
stop_rose (replies.Value v) s s' f f' n n' e h = cc
stop_rose (replies.Rows rows) s s' f f' n n' e h = cc
stop_rose (replies.Asked a) s s' f f' n n' e h = cc
stop_rose (replies.Log log) s s' f f' n n' e h = cc
stop_rose (replies.Counts counts) s s' f f' n n' e h = cc
stop_rose (replies.Recorded calls) s s' f f' n n' e h = cc
stop_rose replies.Full s s' f f' n n' e h = cc
stop_rose replies.NoMemory s s' f f' n n' e h = cc

-- the count of stops never falls, and rises by one
pub each_later : (o : Schema) (p : Plan) (m : ℕ) (s s' : Standing) (inputs left : List Input) (rs : List Reply) (b : Bool) → EntersEach o p m s s' inputs left rs b → s.stops ≤ s'.stops
each_later o p m s s' inputs left rs b (Done z) = omega arith
each_later o p m s s' inputs left rs b (Stops z z' i l r one stop) = one.stops
each_later o p m s s' inputs left rs b (Goes z z1 z' i is l r more c one go rest) = omega (arith, one.stops, each_later o p m z1 z' is l more c rest)

pub rose_later : (a b c : ℕ) → a ≤ b → Rose b c → Rose a c
rose_later a b c h r = omega (arith, h, r)

pub each_stopped : (o : Schema) (p : Plan) (m : ℕ) (s s' : Standing) (inputs left : List Input) (rs : List Reply) (b : Bool) → EntersEach o p m s s' inputs left rs b → b ≡ true → Rose s.stops s'.stops
each_stopped o p m s s' inputs left rs b (Done z) e = cc
each_stopped o p m s s' inputs left rs b (Stops z z' i l r one stop) e = stop_rose r _ _ _ _ _ _ stop one.causes
each_stopped o p m s s' inputs left rs b (Goes z z1 z' i is l r more c one go rest) e = rose_later z.stops z1.stops z'.stops one.stops (each_stopped o p m z1 z' is l more c rest e)

-- ---- one line

told_by : (o : Schema) (p : Plan) (m : ℕ) (h h' : Option (List Entry)) (x : Option Input) (i : Input) (r : Reply) → Ok i ≡ asked_by x → EntersBy o p m h h' i r → TellsInput o p m h x h' (said.Reply r) (way_of r)
told_by o p m h h' None i r e t = cc
told_by o p m h h' (Some j) i r e t = (r, subst (λ (z : Input). EntersBy o p m h h' z r) (cc) t, refl, refl)

read_told : (o : Schema) (p : Plan) (m : ℕ) (h h' : Option (List Entry)) (reading : Result ClientLine LineFault) (i : Input) (r : Reply) → Ok i ≡ asked reading → EntersBy o p m h h' i r → TellsRead o p m h reading h' (said.Reply r) (way_of r)
read_told o p m h h' (Err fault) i r e t = cc
read_told o p m h h' (Ok l) i r e t = told_by o p m h h' (input_by l) i r e t

-- a line that enters an input is told of by its reply
entered_told : (o : Schema) (p : Plan) (m : ℕ) (h h' : Option (List Entry)) (line : List ℕ) (i : Input) (r : Reply) → Asks o line (Ok i) → EntersBy o p m h h' i r → Tells_to o p m h line h' (said_text o (said.Reply r)) (way_of r)
entered_told o p m h h' line i r a t = record { reading = a.reading; read = a.read; says = said.Reply r; tells = read_told o p m h h' a.reading i r a.what_is t; text_is = refl }

bye_by : (o : Schema) (p : Plan) (m : ℕ) (h : Option (List Entry)) (x : Option Input) (s : Said) → Err s ≡ asked_by x → TellsInput o p m h x h s (way_after s)
bye_by o p m h None s e = let q : s ≡ said.Bye = cc in (refl, q, ap way_after q)
bye_by o p m h (Some j) s e = cc

read_said : (o : Schema) (p : Plan) (m : ℕ) (h : Option (List Entry)) (reading : Result ClientLine LineFault) (s : Said) → Err s ≡ asked reading → TellsRead o p m h reading h s (way_after s)
read_said o p m h (Err fault) s e = let q : s ≡ said.Fault fault = cc in (refl, q, ap way_after q)
read_said o p m h (Ok l) s e = bye_by o p m h (input_by l) s e

-- one that enters nothing leaves the journal as it is
nothing_told : (o : Schema) (p : Plan) (m : ℕ) (h : Option (List Entry)) (line : List ℕ) (s : Said) → Asks o line (Err s) → Tells_to o p m h line h (said_text o s) (way_after s)
nothing_told o p m h line s a = record { reading = a.reading; read = a.read; says = s; tells = read_said o p m h a.reading s a.what_is; text_is = refl }

-- ---- what lines enter is no delivery

by_line : (x : Option Input) (i : Input) → Ok i ≡ asked_by x → Some i ≡ x
by_line None i e = cc
by_line (Some j) i e = cc

asks_may : (y : Setting) (me : ℕ) (reading : Result ClientLine LineFault) (i : Input) → Ok i ≡ asked reading → MayEnter y me i
asks_may y me (Err fault) i e = cc
asks_may y me (Ok l) i e = may_enter l i y me (by_line (input_by l) i e)

enter_may : (o : Schema) (y : Setting) (me : ℕ) (lines : List (List ℕ)) (inputs : List Input) → Enter o lines inputs → AllByRecursion (MayEnter y me) inputs
enter_may o y me [] [] h = tt
enter_may o y me (line ∷ lines) (i ∷ inputs) h = (asks_may y me h.1.reading i h.1.what_is, enter_may o y me lines inputs h.2)
enter_may o y me [] (i ∷ inputs) h = absurd h
enter_may o y me (line ∷ lines) [] h = absurd h

pub heard_may : (o : Schema) (y : Setting) (me : ℕ) (lines : List (List ℕ)) (inputs : List Input) (last : Option Said) → Heard o lines inputs last → AllByRecursion (MayEnter y me) inputs
heard_may o y me lines inputs None h = enter_may o y me lines inputs h
heard_may o y me lines inputs (Some s) h = enter_may o y me h.0 inputs h.3

-- ---- a line more was read

enter_more : (o : Schema) (lines : List (List ℕ)) (inputs : List Input) (line : List ℕ) (i : Input) → Enter o lines inputs → IsLine line → Asks o line (Ok i) → Enter o (lines ++ line ∷ []) (inputs ++ i ∷ [])
enter_more o [] [] line i h good a = (good, a, tt)
enter_more o (l ∷ lines) (j ∷ inputs) line i h good a = (h.0, h.1, enter_more o lines inputs line i h.2 good a)
enter_more o [] (j ∷ inputs) line i h good a = absurd h
enter_more o (l ∷ lines) [] line i h good a = absurd h

pub heard_none : (o : Schema) (held rest : List ℕ) (inputs : List Input) → rest ≡ held → inputs ≡ [] → HeardTo o held inputs None rest
heard_none o held rest inputs e n = record { lines = []; heard = subst (Enter o []) (sym n) tt; read = sym e }

pub heard_more : (o : Schema) (held rest line after : List ℕ) (inputs inputs' : List Input) (i : Input) → HeardTo o held inputs None rest → rest ≡ line ++ 10 ∷ after → IsLine line → Asks o line (Ok i) → inputs' ≡ inputs ++ i ∷ []
    → HeardTo o held inputs' None after
heard_more o held rest line after inputs inputs' i h r good a e = record {
  lines = h.lines ++ line ∷ [];
  heard = subst (Enter o (h.lines ++ line ∷ [])) (sym e) (enter_more o h.lines inputs line i h.heard good a);
  read = h.read ∙ ap (λ (l : List ℕ). joined h.lines ++ l) r ∙ joined_more h.lines line after;
}

pub left_more : (held rest after : List ℕ) (inputs inputs' : List Input) (i : Input) → inputs' ≡ inputs ++ i ∷ [] → length after < length rest → length rest + length inputs ≤ length held → length after + length inputs' ≤ length held
left_more held rest after inputs inputs' i e h k = omega (arith, ap length e, length-append inputs (i ∷ []), h, k)

pub heard_last : (o : Schema) (held rest line after : List ℕ) (inputs : List Input) (s : Said) → HeardTo o held inputs None rest → rest ≡ line ++ 10 ∷ after → IsLine line → Asks o line (Err s)
    → HeardTo o held inputs (Some s) after
heard_last o held rest line after inputs s h r good a = record {
  lines = h.lines ++ line ∷ [];
  heard = (h.lines, line, refl, h.heard, good, a);
  read = h.read ∙ ap (λ (l : List ℕ). joined h.lines ++ l) r ∙ joined_more h.lines line after;
}

-- ---- what was answered makes a talk

abbrev way_by : Bool → Went
way_by true = went.Stopped
way_by false = went.On

line_cut : (line : List ℕ) (lines : List (List ℕ)) (rest : List ℕ) → joined (line ∷ lines) ++ rest ≡ line ++ 10 ∷ (joined lines ++ rest)
line_cut line lines rest = append_assoc (line ++ 10 ∷ []) (joined lines) rest ∙ append_assoc line (10 ∷ []) (joined lines ++ rest)

-- a line that was entered was served
one_served : (o : Schema) (p : Plan) (m : ℕ) (h : Option (List Entry)) (held rest out out1 : List ℕ) (s s' : Standing) (line : List ℕ) (lines : List (List ℕ)) (i : Input) (r : Reply) (w : Went)
    → Served o p m h s.history went.On held (joined (line ∷ lines) ++ rest) out out1 → IsLine line → Asks o line (Ok i) → EntersOne o p m s s' i r → way_of r ≡ w
    → Served o p m h s'.history w held (joined lines ++ rest) out (out1 ++ said_text o (said.Reply r))
one_served o p m h held rest out out1 s s' line lines i r w served good a one e =
    subst (λ (v : Went). Served o p m h s'.history v held (joined lines ++ rest) out (out1 ++ said_text o (said.Reply r))) e
    (serving_more o o p p m m h s.history s'.history held (joined (line ∷ lines) ++ rest) line (joined lines ++ rest) out out1 (out1 ++ said_text o (said.Reply r)) (said_text o (said.Reply r)) went.On (way_of r)
    served refl good refl refl refl (line_cut line lines rest) refl (entered_told o p m s.history s'.history line i r a one.told))

-- lines that were entered were served, up to one that a stop was replied to
entered_served : (o : Schema) (p : Plan) (m : ℕ) (h : Option (List Entry)) (held rest out out1 : List ℕ) (s s' : Standing) (lines : List (List ℕ)) (inputs left : List Input) (rs : List Reply) (b : Bool)
    → Served o p m h s.history went.On held (joined lines ++ rest) out out1 → Enter o lines inputs → EntersEach o p m s s' inputs left rs b
    → (after : List ℕ) × Served o p m h s'.history (way_by b) held after out (out1 ++ replies_text o rs) × (b ≡ false → after ≡ rest)
entered_served o p m h held rest out out1 s s' [] inputs left rs b served e (Done z) =
    (rest, subst (λ (t : List ℕ). Served o p m h z.history went.On held rest out t) (sym (append-nil out1)) served, λ f. refl)
entered_served o p m h held rest out out1 s s' (line ∷ lines) inputs left rs b served e (Done z) = absurd e
entered_served o p m h held rest out out1 s s' [] inputs left rs b served e (Stops z z' i l r one stop) = absurd e
entered_served o p m h held rest out out1 s s' (line ∷ lines) inputs left rs b served e (Stops z z' i l r one stop) = (
  joined lines ++ rest,
  subst (λ (t : List ℕ). Served o p m h z'.history went.Stopped held (joined lines ++ rest) out (out1 ++ t)) (sym (append-nil (said_text o (said.Reply r))))
      (one_served o p m h held rest out out1 z z' line lines i r went.Stopped served e.0 e.1 one (stops_way r stop)),
  λ f. cc,
)
entered_served o p m h held rest out out1 s s' [] inputs left rs b served e (Goes z z1 z' i is l r more c one go each) = absurd e
entered_served o p m h held rest out out1 s s' (line ∷ lines) inputs left rs b served e (Goes z z1 z' i is l r more c one go each) =
    let on = one_served o p m h held rest out out1 z z1 line lines i r went.On served e.0 e.1 one (goes_way r go) in
    let t = entered_served o p m h held rest out (out1 ++ said_text o (said.Reply r)) z1 z' lines is l more c on e.2 each in
    (t.0, subst (λ (x : List ℕ). Served o p m h z'.history (way_by c) held t.0 out x) (append_assoc out1 (said_text o (said.Reply r)) (replies_text o more)) t.1, t.2)

-- the line that ended them was served, where no stop came before it
last_served : (o : Schema) (p : Plan) (m : ℕ) (h h1 : Option (List Entry)) (held rest after out out1 line : List ℕ) (b : Bool) (said : Said)
    → Served o p m h h1 (way_by b) held after out out1 → (b ≡ false → after ≡ line ++ 10 ∷ rest) → IsLine line → Asks o line (Err said)
    → (left : List ℕ) × Served o p m h h1 (last_way b (Some said)) held left out (out1 ++ last_text o b (Some said)) × (last_way b (Some said) ≡ went.On → left ≡ rest)
last_served o p m h h1 held rest after out out1 line true s served e good a =
    (after, subst (λ (t : List ℕ). Served o p m h h1 went.Stopped held after out t) (sym (append-nil out1)) served, λ w. cc)
last_served o p m h h1 held rest after out out1 line false s served e good a = (
  rest,
  serving_more o o p p m m h h1 h1 held after line rest out out1 (out1 ++ said_text o s) (said_text o s) went.On (way_after s) served refl good refl refl refl (e refl) refl (nothing_told o p m h1 line s a),
  λ w. refl,
)

none_served : (o : Schema) (p : Plan) (m : ℕ) (h h1 : Option (List Entry)) (held rest after out out1 : List ℕ) (b : Bool)
    → Served o p m h h1 (way_by b) held after out out1 → (b ≡ false → after ≡ rest)
    → (left : List ℕ) × Served o p m h h1 (last_way b None) held left out (out1 ++ last_text o b None) × (last_way b None ≡ went.On → left ≡ rest)
none_served o p m h h1 held rest after out out1 true served e = (after, subst (λ (t : List ℕ). Served o p m h h1 went.Stopped held after out t) (sym (append-nil out1)) served, λ w. cc)
none_served o p m h h1 held rest after out out1 false served e = (after, subst (λ (t : List ℕ). Served o p m h h1 went.On held after out t) (sym (append-nil out1)) served, λ w. e refl)

abbrev pub RoundServed : Schema → Plan → ℕ → Option (List Entry) → Option (List Entry) → Went → List ℕ → List ℕ → List ℕ → List ℕ → Type 0
RoundServed o p m h h' w held rest out out' = (left : List ℕ) × Served o p m h h' w held left out out' × (w ≡ went.On → left ≡ rest)

heard_served : (o : Schema) (p : Plan) (m : ℕ) (h : Option (List Entry)) (held rest out out1 : List ℕ) (s s' : Standing) (lines : List (List ℕ)) (inputs left : List Input) (last : Option Said) (rs : List Reply) (b : Bool)
    → Served o p m h s.history went.On held (joined lines ++ rest) out out1 → Heard o lines inputs last → EntersEach o p m s s' inputs left rs b
    → RoundServed o p m h s'.history (last_way b last) held rest out ((out1 ++ replies_text o rs) ++ last_text o b last)
heard_served o p m h held rest out out1 s s' lines inputs left None rs b served e each =
    let t = entered_served o p m h held rest out out1 s s' lines inputs left rs b served e each in
    none_served o p m h s'.history held rest t.0 out (out1 ++ replies_text o rs) b t.1 t.2
heard_served o p m h held rest out out1 s s' lines inputs left (Some s1) rs b served e each =
    let front = e.0 in
    let line = e.1 in
    let at : joined lines ++ rest ≡ joined front ++ (line ++ 10 ∷ rest) =
    ap (λ (ls : List (List ℕ)). joined ls ++ rest) e.2 ∙ sym (joined_more front line rest) in
    let t = entered_served o p m h held (line ++ 10 ∷ rest) out out1 s s' front inputs left rs b (subst (λ (x : List ℕ). Served o p m h s.history went.On held x out out1) at served) e.3 each in
    last_served o p m h s'.history held rest t.0 out (out1 ++ replies_text o rs) line b s1 t.1 t.2 e.4 e.5

-- a round's lines were served
pub round_served : (o o1 object : Schema) (p p1 : Plan) (m m1 : ℕ) (h : Option (List Entry)) (held before rest out out1 out2 text : List ℕ) (s s' : Standing) (inputs : List Input) (last : Option Said) (w : Went)
    → o1 ≡ o → p1 ≡ p → m1 ≡ m → o ≡ object → Answered o1 p1 m1 s s' inputs last text w → HeardTo object before inputs last rest → Served o p m h s.history went.On held before out out1 → out2 ≡ out1 ++ text
    → RoundServed o p m h s'.history w held rest out out2
round_served o o1 object p p1 m m1 h held before rest out out1 out2 text s s' inputs last w eo ep em home a1 heard1 served q =
    let a = subst (λ (n : ℕ). Answered o p n s s' inputs last text w) em
    (subst (λ (q : Plan). Answered o q m1 s s' inputs last text w) ep
    (subst (λ (c : Schema). Answered c p1 m1 s s' inputs last text w) eo a1)) in
    let heard = subst (λ (c : Schema). HeardTo c before inputs last rest) (sym home) heard1 in
    let t = heard_served o p m h held rest out out1 s s' heard.lines inputs a.left last a.replies a.stopped
    (subst (λ (x : List ℕ). Served o p m h s.history went.On held x out out1) heard.read served) heard.heard a.entered in
    subst (λ (v : Went). RoundServed o p m h s'.history v held rest out out2) (sym a.way)
    (subst (λ (x : List ℕ). RoundServed o p m h s'.history (last_way a.stopped last) held rest out x)
    (append_assoc out1 (replies_text o a.replies) (last_text o a.stopped last) ∙ ap (λ (x : List ℕ). out1 ++ x) (sym a.text_is) ∙ sym q) t)

-- and the talk goes on from what stands behind them
pub goes_on : (o : Schema) (p : Plan) (m : ℕ) (h h' : Option (List Entry)) (w : Went) (held rest out out' : List ℕ) → RoundServed o p m h h' w held rest out out' → w ≡ went.On → Served o p m h h' went.On held rest out out'
goes_on o p m h h' w held rest out out' t e =
    subst (λ (v : Went). Served o p m h h' v held rest out out') e (subst (λ (l : List ℕ). Served o p m h h' w held l out out') (t.2 e) t.1)

way_stopped : (b : Bool) (last : Option Said) (w : Went) → w ≡ last_way b last → w ≡ went.Stopped → (b ≡ true) ⊎ ((s : Said) × (last ≡ Some s) × (way_after s ≡ went.Stopped))
way_stopped true last w e q = inl refl
way_stopped false None w e q = absurd (on_stopped (sym e ∙ q))
  where
    on_stopped : went.On ≡ went.Stopped → ⊥
    on_stopped z = cc
way_stopped false (Some s) w e q = inr (s, refl, sym e ∙ q)

-- what is said of a line that enters nothing is no reply
said_stops : (reading : Result ClientLine LineFault) (s : Said) → Err s ≡ asked reading → way_after s ≡ went.Stopped → ⊥
said_stops (Err fault) s e w = let q : s ≡ said.Fault fault = cc in fault_stops fault (sym (ap way_after q) ∙ w)
  where
    fault_stops : (f : LineFault) → went.On ≡ went.Stopped → ⊥
    fault_stops f z = cc
said_stops (Ok l) s e w = by_input (input_by l) e
  where
    by_input : (x : Option Input) → Err s ≡ asked_by x → ⊥
    by_input None q = bye_stops (let q1 : s ≡ said.Bye = cc in sym (ap way_after q1) ∙ w)
      where
        bye_stops : went.Quit ≡ went.Stopped → ⊥
        bye_stops z = cc
    by_input (Some j) q = cc

heard_stops : (o : Schema) (lines : List (List ℕ)) (inputs : List Input) (last : Option Said) (s : Said) → Heard o lines inputs last → last ≡ Some s → way_after s ≡ went.Stopped → ⊥
heard_stops o lines inputs last s h e w = let k = subst (Heard o lines inputs) e h in said_stops k.5.reading s k.5.what_is w

-- a round that ends by a stop raised the count of stops
pub round_stopped : (o o1 : Schema) (p1 : Plan) (m1 : ℕ) (before rest text : List ℕ) (s s' : Standing) (inputs : List Input) (last : Option Said) (w : Went)
    → HeardTo o before inputs last rest → Answered o1 p1 m1 s s' inputs last text w → w ≡ went.Stopped → Rose s.stops s'.stops
round_stopped o o1 p1 m1 before rest text s s' inputs last w heard a q = by_way (way_stopped a.stopped last w a.way q)
  where
    by_way : (a.stopped ≡ true) ⊎ ((s1 : Said) × (last ≡ Some s1) × (way_after s1 ≡ went.Stopped)) → Rose s.stops s'.stops
    by_way (inl b) = each_stopped o1 p1 m1 s s' inputs a.left a.replies a.stopped a.entered b
    by_way (inr t) = absurd (heard_stops o heard.lines inputs last t.0 heard.heard t.1 t.2)

pub round_later : (o : Schema) (p : Plan) (m : ℕ) (s s' : Standing) (inputs : List Input) (last : Option Said) (text : List ℕ) (w : Went) → Answered o p m s s' inputs last text w → s.stops ≤ s'.stops
round_later o p m s s' inputs last text w a = each_later o p m s s' inputs a.left a.replies a.stopped a.entered

-- ---- how a round was answered

pub answered_any : (o : Schema) (p : Plan) (m : ℕ) (s s' : Standing) (inputs left : List Input) (rs : List Reply) (b : Bool) (last : Option Said)
    → EntersEach o p m s s' inputs left rs b → (text : List ℕ) × (w : Went) × Answered o p m s s' inputs last text w
answered_any o p m s s' inputs left rs b last e = (
  replies_text o rs ++ last_text o b last,
  last_way b last,
  record { left = left; replies = rs; stopped = b; entered = e; text_is = refl; way = refl },
)

answered_by : (o object : Schema) (p : Plan) (m : ℕ) (s s' : Standing) (inputs left : List Input) (rs : List Reply) (b : Bool) (last : Option Said) (out out1 : List ℕ) (w : Went)
    → o ≡ object → EntersEach o p m s s' inputs left rs b → out1 ≡ (out ++ replies_text object rs) ++ last_text object b last → w ≡ last_way b last
    → (text : List ℕ) × (out1 ≡ out ++ text) × Answered o p m s s' inputs last text w
answered_by o object p m s s' inputs left rs b last out out1 w eo e t q = (
  replies_text o rs ++ last_text o b last,
  t ∙ append_assoc out (replies_text object rs) (last_text object b last) ∙ ap (λ (z : Schema). out ++ (replies_text z rs ++ last_text z b last)) (sym eo),
  record { left = left; replies = rs; stopped = b; entered = e; text_is = refl; way = q },
)

pub answered_stop : (o object : Schema) (p : Plan) (m : ℕ) (s s' : Standing) (inputs left : List Input) (rs : List Reply) (b : Bool) (last : Option Said) (out out1 : List ℕ)
    → o ≡ object → EntersEach o p m s s' inputs left rs b → out1 ≡ out ++ replies_text object rs → b ≡ true
    → (text : List ℕ) × (out1 ≡ out ++ text) × Answered o p m s s' inputs last text went.Stopped
answered_stop o object p m s s' inputs left rs b last out out1 eo e t q =
    answered_by o object p m s s' inputs left rs b last out out1 went.Stopped eo e
    (t ∙ sym (append-nil (out ++ replies_text object rs)) ∙ ap (λ (z : Bool). (out ++ replies_text object rs) ++ last_text object z last) (sym q))
    (ap (λ (z : Bool). last_way z last) (sym q))

pub answered_on : (o object : Schema) (p : Plan) (m : ℕ) (s s' : Standing) (inputs left : List Input) (rs : List Reply) (b : Bool) (last : Option Said) (out out1 : List ℕ)
    → o ≡ object → EntersEach o p m s s' inputs left rs b → out1 ≡ out ++ replies_text object rs → b ≡ false → last ≡ None
    → (text : List ℕ) × (out1 ≡ out ++ text) × Answered o p m s s' inputs last text went.On
answered_on o object p m s s' inputs left rs b last out out1 eo e t q n =
    answered_by o object p m s s' inputs left rs b last out out1 went.On eo e
    (t ∙ sym (append-nil (out ++ replies_text object rs)) ∙ ap (λ (z : Option Said). (out ++ replies_text object rs) ++ last_text object false z) (sym n)
    ∙ ap (λ (z : Bool). (out ++ replies_text object rs) ++ last_text object z last) (sym q))
    (ap (λ (z : Option Said). last_way false z) (sym n) ∙ ap (λ (z : Bool). last_way z last) (sym q))

pub answered_said : (o object : Schema) (p : Plan) (m : ℕ) (s s' : Standing) (inputs left : List Input) (rs : List Reply) (b : Bool) (last : Option Said) (s1 : Said) (out out1 out2 : List ℕ) (w : Went)
    → o ≡ object → EntersEach o p m s s' inputs left rs b → out1 ≡ out ++ replies_text object rs → b ≡ false → last ≡ Some s1 → out2 ≡ out1 ++ said_text object s1 → w ≡ way_after s1
    → (text : List ℕ) × (out2 ≡ out ++ text) × Answered o p m s s' inputs last text w
answered_said o object p m s s' inputs left rs b last s1 out out1 out2 w eo e t q n r v =
    answered_by o object p m s s' inputs left rs b last out out2 w eo e
    (r ∙ ap (λ (z : List ℕ). z ++ said_text object s1) t ∙ ap (λ (z : Option Said). (out ++ replies_text object rs) ++ last_text object false z) (sym n)
    ∙ ap (λ (z : Bool). (out ++ replies_text object rs) ++ last_text object z last) (sym q))
    (v ∙ ap (λ (z : Option Said). last_way false z) (sym n) ∙ ap (λ (z : Bool). last_way z last) (sym q))

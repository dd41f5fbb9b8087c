-- Frames are read back as they were spelled, however their bytes come.
use Rattle.std.proofs.Common.{◌≡◌, ℕ, ◌+◌, ◌-◌, ◌<◌, ◌≤◌, List, [], ◌∷◌, ◌++◌, length, take, drop, None, refl, sym, ap, ◌∙◌, arith, subst, ◌^◌}
use Rattle.std.proofs.lemmas.List.{append-nil, append_assoc, take-append-drop, take_all, drop-drop, length-append, length-take-le}
use Rattle.std.proofs.Math.Seq.{take-add}
use Rattle.ham_frame.specs.declared.field.Why.{Why}
use Rattle.ham_frame.specs.declared.frame.Frame.{Frame}
use Rattle.ham_frame.specs.declared.frame.Frame.TheVariants as frames
use Rattle.ham_frame.specs.Spelling.{Fits, AllFit, spelling, stream, IsViable, IsUnfinished, IsFault}
use Rattle.ham_frame.specs.Decoding.{Fed, Reads}
use Rattle.ham_wire.specs.Streams.{IsIdle, IsStream, ReadsAll}

-- ---- the laws of spellings

abbrev pub Apart : Type 0
Apart = (f g : Frame) (x y : List ℕ) → Fits f → Fits g → spelling f ++ x ≡ spelling g ++ y → (f ≡ g) × (x ≡ y)

abbrev pub OnlyOnes : Type 0
OnlyOnes = (fs gs : List Frame) (r q : List ℕ) → AllFit fs → AllFit gs → IsUnfinished r → IsUnfinished q → stream fs ++ r ≡ stream gs ++ q → (fs ≡ gs) × (r ≡ q)

abbrev pub ReadingsJoin : Type 0
ReadingsJoin = (old mid new : Fed) (held gone given : List Frame) (a b : List ℕ) → Reads old mid held gone a → Reads mid new gone given b → Reads old new held given (a ++ b)

pub nothing_unfinished : IsUnfinished []
nothing_unfinished = record { frame = frames.Bye; more = spelling frames.Bye; fits = tt; some = omega arith; is = refl }

spelling-some : (f : Frame) → 0 < length (spelling f)
spelling-some (frames.Hello version digest from of) = omega arith
spelling-some (frames.Call c) = omega arith
spelling-some (frames.Ack lane count) = omega arith
spelling-some (frames.Request group n act) = omega arith
spelling-some (frames.Verdict group n ruling) = omega arith
spelling-some frames.Bye = omega arith

pub record After (x : List ℕ) : Type 0 where
  pub rest : List Frame
  pub fit : AllFit rest
  pub is : x ≡ stream rest

-- what follows whole frames in a stream is a stream
stream_after : Apart → (fs gs : List Frame) (x : List ℕ) → AllFit fs → AllFit gs → stream fs ++ x ≡ stream gs → After x
stream_after apart [] gs x fit fits e = record { rest = gs; fit = fits; is = e }
stream_after apart (f ∷ fs) [] x fit fits e =
    let some = spelling-some f in
    let l : length ((spelling f ++ stream fs) ++ x) ≡ 0 = ap length e in
    let m = length-append (spelling f ++ stream fs) x in
    let n = length-append (spelling f) (stream fs) in
    absurd (omega arith)
stream_after apart (f ∷ fs) (g ∷ gs) x fit fits e =
    let parts = apart f g (stream fs ++ x) (stream gs) fit.0 fits.0 (sym (append_assoc (spelling f) (stream fs) x) ∙ e) in
    stream_after apart fs gs x fit.1 fits.1 parts.1

pub viable_before : Apart → (fs : List Frame) (x : List ℕ) → AllFit fs → IsViable (stream fs ++ x) → IsViable x
viable_before apart fs x fit v =
    let rest = stream_after apart fs v.frames (x ++ v.more) fit v.fit (sym (append_assoc (stream fs) x v.more) ∙ v.is) in
    record { frames = rest.rest; more = v.more; fit = rest.fit; is = rest.is }

-- bytes that frames go on with have no fault
pub no_fault : (bytes : List ℕ) (at : ℕ) (why : Why) → IsViable bytes → IsFault at why bytes → ⊥
no_fault bytes at why v f = f.refused (record {
  frames = v.frames;
  more = drop (at + 1) bytes ++ v.more;
  fit = v.fit;
  is = sym (append_assoc (take (at + 1) bytes) (drop (at + 1) bytes) v.more) ∙ (ap (λ (x : List ℕ). x ++ v.more) (take-append-drop (at + 1) bytes) ∙ v.is);
})

-- ---- a piece more

pub split_at : (start end : ℕ) (bytes : List ℕ) → start ≤ end → take (end - start) (drop start bytes) ++ drop end bytes ≡ drop start bytes
split_at start end bytes h =
    let s : end ≡ start + (end - start) = omega arith in
    let d : drop end bytes ≡ drop (end - start) (drop start bytes) = ap (λ n. drop n bytes) s ∙ sym (drop-drop (end - start) start bytes) in
    ap (λ x. take (end - start) (drop start bytes) ++ x) d ∙ take-append-drop (end - start) (drop start bytes)

pub take_more_of : (start end : ℕ) (bytes : List ℕ) → start ≤ end → take start bytes ++ take (end - start) (drop start bytes) ≡ take end bytes
take_more_of start end bytes h =
    let s : start + (end - start) ≡ end = omega arith in
    sym (take-add start (end - start) bytes) ∙ ap (λ n. take n bytes) s

-- the bytes were read as far as `start`
pub record IsReading (bytes : List ℕ) (before after : List Frame) (first now : Fed) (start : ℕ) : Type 0 where
  pub reads : Reads first now before after (take start bytes)
  pub fault : now.fault ≡ None
  pub unfinished : IsUnfinished now.rest

pub begun : (bytes : List ℕ) (held : List Frame) (d : Fed) → IsIdle d → IsReading bytes held held d d 0
begun bytes held d idle = record {
  reads = record { frames = []; grown = sym (append-nil held); fit = tt; stream = append-nil d.rest; total = omega arith };
  fault = idle.fault;
  unfinished = let F : List ℕ → Type 0 = λ r. IsUnfinished r in subst F (sym idle.rest) nothing_unfinished;
}

pub read_more : ReadingsJoin → (bytes : List ℕ) (before mid after : List Frame) (first now new : Fed) (start end : ℕ) → start ≤ end →
    IsReading bytes before mid first now start → Reads now new mid after (take (end - start) (drop start bytes)) → new.fault ≡ None → IsUnfinished new.rest →
    IsReading bytes before after first new end
read_more join bytes before mid after first now new start end le d r fault un =
    let F : List ℕ → Type 0 = λ b. Reads first new before after b in
    record {
      reads = subst F (take_more_of start end bytes le) (join first now new before mid after (take start bytes) (take (end - start) (drop start bytes)) d.reads r);
      fault = fault;
      unfinished = un;
    }

pub piece_viable : Apart → (bytes : List ℕ) (before after : List Frame) (first now : Fed) (start end : ℕ) → start ≤ end →
    first.rest ≡ [] → IsStream bytes → IsReading bytes before after first now start → IsViable (now.rest ++ take (end - start) (drop start bytes))
piece_viable apart bytes before after first now start end le none s d =
    let r = d.reads in
    let p : List ℕ = take (end - start) (drop start bytes) in
    let front : take start bytes ≡ stream r.frames ++ now.rest = ap (λ (x : List ℕ). x ++ take start bytes) (sym none) ∙ r.stream in
    let whole : take start bytes ++ (p ++ drop end bytes) ≡ bytes = ap (λ (x : List ℕ). take start bytes ++ x) (split_at start end bytes le) ∙ take-append-drop start bytes in
    let joined : (stream r.frames ++ (now.rest ++ p)) ++ drop end bytes ≡ bytes =
    ap (λ (x : List ℕ). x ++ drop end bytes) (sym (append_assoc (stream r.frames) now.rest p))
    ∙ (append_assoc (stream r.frames ++ now.rest) p (drop end bytes)
    ∙ (ap (λ (x : List ℕ). x ++ (p ++ drop end bytes)) (sym front) ∙ whole)) in
    viable_before apart r.frames (now.rest ++ p) r.fit (record { frames = s.0; more = drop end bytes; fit = s.1; is = joined ∙ s.2 })

pub few_read : (bytes : List ℕ) (before after : List Frame) (first now : Fed) (start end : ℕ) → start ≤ end → end ≤ length bytes → first.total + length bytes ≤ 2 ^ 62 →
    IsReading bytes before after first now start → now.total + length (take (end - start) (drop start bytes)) ≤ 2 ^ 62
few_read bytes before after first now start end le within room d =
    let a = length-append (take start bytes) (take (end - start) (drop start bytes)) in
    let b : length (take start bytes ++ take (end - start) (drop start bytes)) ≡ length (take end bytes) = ap length (take_more_of start end bytes le) in
    let c : length (take end bytes) ≡ end = length-take-le end bytes within in
    omega (arith, d.reads.total, a, b, c)

pub all_read : OnlyOnes → (bytes : List ℕ) (before after : List Frame) (first now : Fed) → first.rest ≡ [] → IsReading bytes before after first now (length bytes) →
    ReadsAll bytes before after × (IsStream bytes → IsIdle now)
all_read only bytes before after first now none d =
    let r = d.reads in
    let same : length bytes ≤ length bytes = omega arith in
    let all : take (length bytes) bytes ≡ bytes = take_all (length bytes) bytes same in
    let is : bytes ≡ stream r.frames ++ now.rest =
    sym all ∙ (ap (λ (x : List ℕ). x ++ take (length bytes) bytes) (sym none) ∙ r.stream) in (
      λ fs. λ fit. λ e.
          let k = only r.frames fs now.rest [] r.fit fit d.unfinished nothing_unfinished (sym is ∙ (e ∙ sym (append-nil (stream fs)))) in
          r.grown ∙ ap (λ (x : List Frame). before ++ x) k.0,
      λ s.
          let k = only r.frames s.0 now.rest [] r.fit s.1 d.unfinished nothing_unfinished (sym is ∙ (s.2 ∙ sym (append-nil (stream s.0)))) in
          record { rest = k.1; fault = d.fault },
    )

-- Which files were asked for, put together of what the parts did.
use Rattle.std.proofs.Common.{◌≡◌, ℕ, ◌<◌, List, [], ◌∷◌, ◌++◌, length, Option, Some, None, Err, inl, inr, refl, sym, subst, ap, ◌∙◌, arith, append_assoc}
use Rattle.ham_bytes.specs.Outside.{Seeks}
use Rattle.ham_bytes.specs.declared.shelf.FetchFault.{FetchFault}
use Rattle.ham_bytes.specs.declared.shelf.FetchFault.TheVariants as fetches
use Rattle.ham_cli.specs.declared.exit.Exit.{Exit}
use Rattle.ham_cli.specs.declared.exit.Exit.TheVariants as exits
use Rattle.ham_cli.specs.Commands.{Asked, Normalizes, Replays, Records, Audits, Checks, Derives, Exemplifies, Tabulates, Bulks, Scripts, Beside, beside}
use Rattle.ham_cli.specs.Exits.{exit_of_fetch}
use Rattle.ham_cli.specs.Answers.{refusal_of}
use Rattle.ham_cli.specs.Sought.{names_of, files_of, MayEnd, AsksFirst, IsTextEnd, IsAnswerEnd, SeeksBeside, SeeksOn}

none_more : (xs : List (List ℕ)) → xs ≡ xs ++ []
none_more [] = refl
none_more (x ∷ xs) = ap (λ (ys : List (List ℕ)). x ∷ ys) (none_more xs)

-- no refusal of what is asked is one of words or of the object
no_usage : (asked : Asked) → refusal_of asked ≡ Some exits.Usage → ⊥
no_usage Normalizes e = absurd cc
no_usage (Replays schedule) e = absurd cc
no_usage (Records schedule) e = absurd cc
no_usage (Audits file) e = absurd cc
no_usage (Checks file) e = absurd cc
no_usage (Derives claim) e = absurd cc
no_usage (Exemplifies claim) e = absurd cc
no_usage (Tabulates replicas) e = absurd cc
no_usage (Bulks drawing) e = absurd cc
no_usage (Scripts drawing) e = absurd cc

no_object : (asked : Asked) → refusal_of asked ≡ Some exits.ObjectRefused → ⊥
no_object Normalizes e = absurd cc
no_object (Replays schedule) e = absurd cc
no_object (Records schedule) e = absurd cc
no_object (Audits file) e = absurd cc
no_object (Checks file) e = absurd cc
no_object (Derives claim) e = absurd cc
no_object (Exemplifies claim) e = absurd cc
no_object (Tabulates replicas) e = absurd cc
no_object (Bulks drawing) e = absurd cc
no_object (Scripts drawing) e = absurd cc

refusal_may : (object : List ℕ) (asked : Asked) (count : ℕ) (exit : Exit) → 0 < count → count ≡ length (files_of object asked) → refusal_of asked ≡ Some exit → MayEnd object asked count exit
refusal_may object asked count exits.Done some all h = all
refusal_may object asked count exits.Usage some all h = no_usage asked h
refusal_may object asked count exits.ObjectRefused some all h = absurd (no_object asked h)
refusal_may object asked count exits.ScheduleRefused some all h = (h, all)
refusal_may object asked count exits.ReadFault some all h = some
refusal_may object asked count exits.WriteFault some all h = some
refusal_may object asked count exits.NoMemory some all h = tt
refusal_may object asked count exits.TooLong some all h = some
refusal_may object asked count exits.DerivationRefused some all h = (h, all)
refusal_may object asked count exits.AuditRefused some all h = (h, all)

text_may : (object : List ℕ) (asked : Asked) (count : ℕ) (with exit : Exit) → 0 < count → MayEnd object asked count with → IsTextEnd with exit → MayEnd object asked count exit
text_may object asked count with exit some may h = elim h [
  | inl e ↦ subst (λ (x : Exit). MayEnd object asked count x) (sym e) may
  | inr f ↦ elim f [
    | inl e ↦ subst (λ (x : Exit). MayEnd object asked count x) (sym e) some
    | inr e ↦ subst (λ (x : Exit). MayEnd object asked count x) (sym e) tt
  ]
]

answer_may : (object : List ℕ) (asked : Asked) (count : ℕ) (exit : Exit) → 0 < count → count ≡ length (files_of object asked) → IsAnswerEnd asked exit → MayEnd object asked count exit
answer_may object asked count exit some all h = elim h [
  | inl r ↦ refusal_may object asked count exit some all r
  | inr d ↦ text_may object asked count exits.Done exit some all d
]

-- nothing was asked for, since there was no memory to note it
unasked : (object : List ℕ) (asked : Asked) (before now : List (List ℕ)) (exit : Exit) → now ≡ before → exit ≡ exits.NoMemory → AsksFirst object asked before now exit
unasked object asked before now exit same is = record {
  first = [];
  rest = files_of object asked;
  files = refl;
  noted = same ∙ none_more before;
  end = subst (λ (x : Exit). MayEnd object asked 0 x) (sym is) tt;
}

-- the object's file was asked for
asked_one : (object : List ℕ) (asked : Asked) (before now : List (List ℕ)) (exit : Exit) → now ≡ before ++ object ∷ [] → MayEnd object asked 1 exit → AsksFirst object asked before now exit
asked_one object asked before now exit noted end = record { first = object ∷ []; rest = names_of (beside asked); files = refl; noted = noted; end = end }

-- it was not fetched
pub unfetched : (object : List ℕ) (asked : Asked) (before now : List (List ℕ)) (fault : FetchFault) (exit : Exit) → Seeks before now object (Err fault) → exit ≡ exit_of_fetch fault → AsksFirst object asked before now exit
unfetched object asked before now fetches.Failed exit h end = asked_one object asked before now exit h (subst (λ (x : Exit). MayEnd object asked 1 x) (sym end) (omega arith))
unfetched object asked before now (fetches.TooLong limit) exit h end = asked_one object asked before now exit h (subst (λ (x : Exit). MayEnd object asked 1 x) (sym end) (omega arith))
unfetched object asked before now fetches.NoMemory exit h end = elim h [
  | inl e ↦ asked_one object asked before now exit e (subst (λ (x : Exit). MayEnd object asked 1 x) (sym end) tt)
  | inr e ↦ unasked object asked before now exit e end
]

-- the file beside it was asked for too
asked_two : (object : List ℕ) (asked : Asked) (name : List ℕ) (before mid now : List (List ℕ)) (exit : Exit) → files_of object asked ≡ object ∷ name ∷ [] → mid ≡ before ++ object ∷ [] → now ≡ mid ++ name ∷ [] → MayEnd object asked 2 exit → AsksFirst object asked before now exit
asked_two object asked name before mid now exit is had noted end = record {
  first = object ∷ name ∷ [];
  rest = [];
  files = is;
  noted = noted ∙ ap (λ (xs : List (List ℕ)). xs ++ name ∷ []) had ∙ append_assoc before (object ∷ []) (name ∷ []);
  end = end;
}

beside_sought : (object : List ℕ) (asked : Asked) (b : Option Beside) (before mid now : List (List ℕ)) (exit : Exit) → beside asked ≡ b → mid ≡ before ++ object ∷ [] → SeeksBeside asked b mid now exit → AsksFirst object asked before now exit
beside_sought object asked None before mid now exit is had h =
    asked_one object asked before now exit (h.0 ∙ had) (answer_may object asked 1 exit (omega arith) (sym (ap (λ (b : Option Beside). length (object ∷ names_of b)) is)) h.1)
beside_sought object asked (Some file) before mid now exit is had h =
    let files : files_of object asked ≡ object ∷ file.name ∷ [] = ap (λ (b : Option Beside). object ∷ names_of b) is in
    elim h [
      | inl u ↦ asked_one object asked before now exit (u.1 ∙ had) (subst (λ (x : Exit). MayEnd object asked 1 x) (sym u.0) tt)
      | inr t ↦ asked_two object asked file.name before mid now exit files had t.0 (elim t.1 [
        | inl r ↦ elim r [
          | inl e ↦ subst (λ (x : Exit). MayEnd object asked 2 x) (sym e) (omega arith)
          | inr e ↦ subst (λ (x : Exit). MayEnd object asked 2 x) (sym e) (omega arith)
        ]
        | inr a ↦ answer_may object asked 2 exit (omega arith) (sym (ap length files)) a
      ])
    ]

pub sought_on : (object : List ℕ) (asked : Asked) (before mid now : List (List ℕ)) (exit : Exit) → mid ≡ before ++ object ∷ [] → SeeksOn asked mid now exit → AsksFirst object asked before now exit
sought_on object asked before mid now exit had h = elim h [
  | inl r ↦ asked_one object asked before now exit (r.0 ∙ had) (text_may object asked 1 exits.ObjectRefused exit (omega arith) refl r.1)
  | inr b ↦ beside_sought object asked (beside asked) before mid now exit refl had b
]

-- ---- the file beside the object's

pub no_beside : (asked : Asked) (now : List (List ℕ)) (exit : Exit) → beside asked ≡ None → IsAnswerEnd asked exit → SeeksBeside asked (beside asked) now now exit
no_beside asked now exit none end = subst (λ (b : Option Beside). SeeksBeside asked b now now exit) (sym none) (refl, end)

pub beside_found : (asked : Asked) (file : Beside) (before now : List (List ℕ)) (exit : Exit) → beside asked ≡ Some file → now ≡ before ++ file.name ∷ [] → IsAnswerEnd asked exit → SeeksBeside asked (beside asked) before now exit
beside_found asked file before now exit is noted end = subst (λ (b : Option Beside). SeeksBeside asked b before now exit) (sym is) (inr (noted, inr end))

beside_stops : (asked : Asked) (file : Beside) (before now : List (List ℕ)) (fault : FetchFault) (exit : Exit) → Seeks before now file.name (Err fault) → exit ≡ exit_of_fetch fault → SeeksBeside asked (Some file) before now exit
beside_stops asked file before now fetches.Failed exit h end = inr (h, inl (inl end))
beside_stops asked file before now (fetches.TooLong limit) exit h end = inr (h, inl (inr end))
beside_stops asked file before now fetches.NoMemory exit h end = elim h [
  | inl e ↦ inr (e, inr (inr (inr (inr end))))
  | inr e ↦ inl (end, e)
]

pub beside_unfetched : (asked : Asked) (file : Beside) (before now : List (List ℕ)) (fault : FetchFault) (exit : Exit) → beside asked ≡ Some file → Seeks before now file.name (Err fault) → exit ≡ exit_of_fetch fault → SeeksBeside asked (beside asked) before now exit
beside_unfetched asked file before now fault exit is h end = subst (λ (b : Option Beside). SeeksBeside asked b before now exit) (sym is) (beside_stops asked file before now fault exit h end)

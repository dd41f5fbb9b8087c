-- How a text that was made is put, and the texts of scripts and of what became of them, part by part.
use Rattle.std.proofs.Common.{◌≡◌, ℕ, ◌+◌, ◌-◌, ◌≤◌, ◌<◌, zero, suc, List, [], ◌∷◌, ◌++◌, length, Option, Some, None, Result, Ok, Err, refl, sym, ap, subst, ◌∙◌, arith, append_assoc, append-nil}
use Rattle.std.specs.Prelude.{IfOk, OnOk, IsOk}
use Rattle.std.specs.List.{flat_map, range_with_len}
use Rattle.std.proofs.lemmas.List.Concat.{flat_map-append}
use Rattle.ham_bytes.specs.Outside.{TakesWhole, TakesSome}
use Rattle.ham_syntax.specs.Objects.{Schema}
use Rattle.ham_plan.specs.Plans.{Plan, IsPlan}
use Rattle.ham_laws.specs.Constrained.{IsPlanned}
use Rattle.ham_turns.specs.Settings.{Setting, setting_of}
use Rattle.ham_turns.specs.declared.event.Event.{Event}
use Rattle.ham_grammar.specs.declared.line.Line.TheVariants as lines
use Rattle.ham_world.specs.declared.refusal.StepRefusal.{StepRefusal}
use Rattle.ham_world.specs.Worlds.{Run, begun}
use Rattle.ham_replay.specs.declared.end.Refusal.{Refusal}
use Rattle.ham_replay.specs.declared.end.ReplayEnd.{ReplayEnd}
use Rattle.ham_replay.specs.declared.end.ReplayEnd.TheVariants as ends
use Rattle.ham_replay.specs.Replays.{Played, played}
use Rattle.ham_replay.specs.Ends.{EndsAs, Writes}
use Rattle.ham_bulk.specs.declared.draft.Draft.{Draft}
use Rattle.ham_bulk.specs.declared.made.Made.{Made}
use Rattle.ham_bulk.specs.Scripts.{Script, generated}
use Rattle.ham_bulk.specs.ScriptTexts.{line_of, event_line, refusal_after, last_lines, script_text}
use Rattle.ham_bulk.specs.Summaries.{end_of, first_line_of_bulk, bulk_rest}
use Rattle.ham_bulk.specs.Scripted.{AreSpelled, IsPlayedTo, ScriptsReplay, scripted, bulked}
use Rattle.ham_bulk.specs.Drafts.{kept, IsAfter, IsDraftOf}
use Rattle.ham_bulk.specs.Made.{IsMade}
use Rattle.ham_bulk.proofs.After.{range_more}

-- ---- put

pub setting_replicas : (p : Plan) → (setting_of p).replicas ≡ p.replicas
unfolding setting_of
setting_replicas p = refl

pub ends_of : (p : Played) (r : Option Refusal) → r ≡ p.refused → EndsAs p (end_of r)
ends_of p None is = sym is
ends_of p (Some r) is = sym is

pub writes_of : (before now : Option (List ℕ)) (text : List ℕ) (r : Option Refusal) → TakesWhole before now text → Writes before now text (end_of r)
writes_of before now text None put = put
writes_of before now text (Some r) put = put

pub takes_none : (mid : Option (List ℕ)) (text : List ℕ) → TakesSome mid mid text
takes_none None text = tt
takes_none (Some x) text = (0, omega arith, ap Some (sym (append-nil x)))

-- ---- parts of a text

pub if_ok_both : {A E : Type 0} {P Q R : A → Type 0} (r : Result A E) → ((x : A) → P x → Q x → R x) → IfOk r P → IfOk r Q → IfOk r R
if_ok_both (Ok x) f h k = f x h k
if_ok_both (Err e) f h k = h

pub on_any : {A E P : Type 0} (r : Result A E) → P → OnOk r P
on_any (Ok x) h = h
on_any (Err e) h = tt

pub where_ok : {A E P : Type 0} (r : Result A E) → IsOk r → OnOk r P → P
where_ok (Ok x) is h = h
where_ok (Err e) is h = absurd cc

-- one text after the other
pub both : (t u v a b : List ℕ) → u ≡ t ++ a → v ≡ u ++ b → v ≡ t ++ (a ++ b)
both t u v a b h k = k ∙ ap (λ (x : List ℕ). x ++ b) h ∙ append_assoc t a b

flat_more : (f : ℕ → List ℕ) (a k : ℕ) → flat_map f (range_with_len a (k + 1)) ≡ flat_map f (range_with_len a k) ++ f (a + k)
flat_more f a k =
    ap (flat_map f) (range_more a k) ∙ flat_map-append f (range_with_len a k) ((a + k) ∷ []) ∙ ap (λ (xs : List ℕ). flat_map f (range_with_len a k) ++ xs) (append-nil (f (a + k)))

-- a loop over numbers from a on put one text more
pub put_more : (f : ℕ → List ℕ) (a k m next : ℕ) (before so_far text : List ℕ) → so_far ≡ before ++ flat_map f (range_with_len a k) → text ≡ so_far ++ f m → m ≡ a + k → next ≡ k + 1 →
    text ≡ before ++ flat_map f (range_with_len a next)
put_more f a k m next before so_far text h puts at goes =
    puts ∙ ap (λ (t : List ℕ). t ++ f m) h ∙ append_assoc before (flat_map f (range_with_len a k)) (f m)
    ∙ ap (λ (i : ℕ). before ++ (flat_map f (range_with_len a k) ++ f i)) at ∙ ap (λ (t : List ℕ). before ++ t) (sym (flat_more f a k)) ∙ ap (λ (n : ℕ). before ++ flat_map f (range_with_len a n)) (sym goes)

-- ---- a draft that is the script's

pub script_made : (o : Schema) (y : Setting) (seed rounds : ℕ) (d : Draft) (n : ℕ) (text : List ℕ) (m : Made) → IsDraftOf o (generated o y seed rounds) d → n ≡ y.replicas →
    text ≡ line_of o (lines.Replicas n) ++ flat_map (event_line o) d.events → m.text ≡ text ++ last_lines o n d.events d.refused → m.refused ≡ refusal_after d.events d.refused → IsMade (scripted o y seed rounds) m
script_made o y seed rounds d n text m h are begins ends refused =
    let Whole : ℕ → Draft → List ℕ = λ k x. line_of o (lines.Replicas k) ++ (flat_map (event_line o) x.events ++ last_lines o k x.events x.refused) in
    record {
      text = ends ∙ ap (λ (t : List ℕ). t ++ last_lines o n d.events d.refused) begins
          ∙ append_assoc (line_of o (lines.Replicas n)) (flat_map (event_line o) d.events) (last_lines o n d.events d.refused)
          ∙ ap (Whole n) h.drafted ∙ ap (λ (k : ℕ). Whole k (kept (generated o y seed rounds))) are;
      refused = refused ∙ ap (λ (x : Draft). refusal_after x.events x.refused) h.drafted;
    }

pub all_spelled : (o : Schema) (s : Script) (d : Draft) → IsDraftOf o s d → AreSpelled o d.events → AreSpelled o s.events
all_spelled o s d h are = subst (λ (x : Draft). AreSpelled o x.events) h.drafted are

pub bulk_made : (old new : Run) (seed rounds : ℕ) (d : Draft) (n : ℕ) (text : List ℕ) (m : Made) → IsAfter old new d (generated old.object (setting_of old.plan) seed rounds) → n ≡ new.plan.replicas →
    text ≡ first_line_of_bulk seed n rounds → m.text ≡ text ++ bulk_rest new.object (setting_of new.plan) d.events new.notes d.refused → m.refused ≡ refusal_after d.events d.refused →
    IsMade (bulked old.object (setting_of old.plan) seed rounds) m
bulk_made old new seed rounds d n text m h are begins ends refused =
    let s = generated old.object (setting_of old.plan) seed rounds in
    let Whole : ℕ → Run → Draft → List ℕ = λ k w x. first_line_of_bulk seed k rounds ++ bulk_rest w.object (setting_of w.plan) x.events w.notes x.refused in
    record {
      text = ends ∙ ap (λ (t : List ℕ). t ++ bulk_rest new.object (setting_of new.plan) d.events new.notes d.refused) begins
          ∙ ap (Whole n new) h.drafted ∙ ap (λ (w : Run). Whole n w (kept s)) h.ran
          ∙ ap (λ (k : ℕ). Whole k (record old { notes = s.notes }) (kept s)) (are ∙ ap (λ (w : Run). w.plan.replicas) h.ran ∙ sym (setting_replicas old.plan));
      refused = refused ∙ ap (λ (x : Draft). refusal_after x.events x.refused) h.drafted;
    }

pub in_new : (o : Schema) (p : Plan) (w : Run) (seed rounds : ℕ) (m : Made) → w ≡ begun o p → IsMade (bulked w.object (setting_of w.plan) seed rounds) m → IsMade (bulked o (setting_of p) seed rounds) m
in_new o p w seed rounds m is h = subst (λ (x : Run). IsMade (bulked x.object (setting_of x.plan) seed rounds) m) is h

pub all_others : (p : Plan) (n m : ℕ) → n ≡ p.replicas → IsPlan p → 1 ≤ m → n ≤ m → (1 ≤ n → m ≤ n) → m - 1 ≡ (setting_of p).replicas - 1
unfolding setting_of
all_others p n m are plan some past within = let last = within (omega (arith, are, plan.some_replicas)) in omega (arith, are, past, last)

-- ---- replayed

none_refused : (es : List Event) (refused : Option StepRefusal) → refusal_after es refused ≡ None → refused ≡ None
none_refused es None h = refl
none_refused es (Some why) h = absurd cc

pub script_replays : ScriptsReplay → (o : Schema) (p : Plan) (seed rounds : ℕ) (end : ReplayEnd) → IsPlanned o p → EndsAs (scripted o (setting_of p) seed rounds) end →
    (end ≡ ends.Done → AreSpelled o (generated o (setting_of p) seed rounds).events) → end ≡ ends.Done → (settings : ℕ → Setting) → settings p.replicas ≡ setting_of p →
    IsPlayedTo (played o settings (scripted o (setting_of p) seed rounds).text) p.replicas (scripted o (setting_of p) seed rounds).notes
script_replays law o p seed rounds end h is spelled done settings at =
    let s = generated o (setting_of p) seed rounds in
    let ended : EndsAs (scripted o (setting_of p) seed rounds) ends.Done = subst (EndsAs (scripted o (setting_of p) seed rounds)) done is in
    let Plays : Setting → Type 0 = λ y. y.replicas ≡ p.replicas → (generated o y seed rounds).refused ≡ None → AreSpelled o (generated o y seed rounds).events →
    IsPlayedTo (played o settings (script_text o y seed rounds)) p.replicas (generated o y seed rounds).notes in
    let plays : Plays (settings p.replicas) = law o settings p.replicas seed rounds h.checked (omega (arith, h.plan.some_replicas)) h.plan.few_replicas in
    let go : Plays (setting_of p) = subst Plays at plays in
    go (setting_replicas p) (none_refused s.events s.refused ended) (spelled done)

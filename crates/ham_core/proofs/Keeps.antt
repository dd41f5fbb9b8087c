-- What the lock keeps, after an input.
use Rattle.std.proofs.Common.{◌≡◌, ◌≢◌, ℕ, ◌+◌, ◌≤◌, ◌↔◌, Bool, true, false, List, [], ◌∷◌, ◌++◌, length, get_or, Some, None, refl, sym, ap, subst, ◌∙◌, inl, inr, arith, true≢false}
use Rattle.std.specs.Prelude.{replicate, IsTrue, zero, suc, ◌<◌}
use Rattle.std.specs.List.{AllByRecursion}
use Rattle.std.proofs.lemmas.List.{length-append}
use Rattle.ham_syntax.specs.Objects.{Schema}
use Rattle.ham_plan.specs.Plans.{Plan}
use Rattle.ham_frame.specs.declared.frame.Frame.{Frame}
use Rattle.ham_turns.specs.Settings.{Rules, Setting, rules_of, setting_of}
use Rattle.ham_turns.specs.Words.{ReplicaWords}
use Rattle.ham_site.specs.Sites.{Site}
use Rattle.ham_replica.specs.Values.{Replica, words}
use Rattle.ham_replica.proofs.Items.{all_append}
use Rattle.ham_journal.specs.declared.limits.TheConstants.{MAX_ENTRIES}
use Rattle.ham_journal.specs.declared.entry.Entry.{Entry}
use Rattle.ham_journal.specs.declared.input.Input.{Input}
use Rattle.ham_journal.specs.declared.input.Input.TheVariants as inputs
use Rattle.ham_journal.specs.declared.input.Reply.{Reply}
use Rattle.ham_journal.specs.declared.input.Reply.TheVariants as replies
use Rattle.ham_journal.specs.Cores.{Core, history}
use Rattle.ham_journal.specs.Closed.{IsPlaced}
use Rattle.ham_journal.specs.Replies.{MayEnter, AllMayEnter, IsNothing, IsOfKind}
use Rattle.ham_journal.specs.Histories.{core_by, opening_words, opening_core, HasCore, Tells, Enters}
use Rattle.ham_journal.proofs.Parts.{idle_leaves, tells_not, tells_of_kind}
use Rattle.ham_journal.proofs.Closing.{histories_placed}
use Rattle.ham_core.specs.declared.waiting.Waiting.{Waiting}
use Rattle.ham_core.specs.Waits.{shown_in, AreSound}
use Rattle.ham_core.specs.Doors.{Moves}
use Rattle.ham_core.specs.Kept.{IsKept, Makes, kept_by, core_in, site_by, AreSoundIn}
use Rattle.ham_core.proofs.Steps.{one_more}

-- ---- what stands before

pub placed_in : (o : Schema) (p : Plan) (me : ℕ) (r : Replica) (held : List (List Waiting)) (stopped : Bool) (journal : List Entry) (total : ℕ) → IsKept o p me (kept_by r held stopped journal total) → IsPlaced (words r.lists)
placed_in o p me r held stopped journal total k = histories_placed o p me (core_in r held stopped) journal k.others k.folded

pub may_enter_in : (o : Schema) (p : Plan) (me : ℕ) (r : Replica) (input : Input) → r.site ≡ site_by o p me → MayEnter (setting_of p) me input → MayEnter (setting_of r.site.plan) r.site.me input
may_enter_in o p me r input e h = subst (λ (s : Site). MayEnter (setting_of s.plan) s.me input) (sym e) h

-- ---- an entry more

tells_at : (o : Schema) (p : Plan) (me : ℕ) (old new : Replica) (held held' : List (List Waiting)) (stopped : Bool) (seat : ℕ) (input : Input) (e : Entry) (reply : Reply)
    → old.site ≡ site_by o p me → Makes old new held held' stopped seat input e reply → Tells (rules_of o) (setting_of p) me (core_in old held false) (core_in new held' stopped) e reply
tells_at o p me old new held held' stopped seat input e reply at m =
    subst (λ (s : Site). Tells (rules_of s.object) (setting_of s.plan) s.me (core_in old held false) (core_in new held' stopped) e reply) at m.tells

pub kept_after : (o : Schema) (p : Plan) (me : ℕ) (old new : Replica) (held held' : List (List Waiting)) (s s' : Bool) (journal before after : List Entry) (total total' seat : ℕ) (input : Input) (e : Entry) (reply : Reply)
    → IsKept o p me (kept_by old held s journal total) → s ≡ false → Makes old new held held' s' seat input e reply
    → before ≡ journal → after ≡ before ++ e ∷ [] → total' ≡ total + 1 → MayEnter (setting_of p) me input
    → IsKept o p me (kept_by new held' s' after total') × AreSoundIn new held'
kept_after o p me old new held held' s s' journal before after total total' seat input e reply k going m b a t meets =
    let all : after ≡ journal ++ e ∷ [] = a ∙ ap (λ (l : List Entry). l ++ e ∷ []) b in (
      record {
        site = m.site ∙ k.site;
        folded = one_more (rules_of o) (setting_of p) me (opening_core o p) (core_in old held false) journal after e (record { core = core_in new held' s'; reply = reply })
            (k.folded ∙ ap (λ (z : Bool). Some (core_in old held z)) going)
            (tells_at o p me old new held held' s' seat input e reply k.site m) all;
        counted = omega (arith, t, k.counted, ap length all, length-append journal (e ∷ []));
        others = subst (AllMayEnter (setting_of p) me) (sym all)
            (all_append (λ (z : Entry). MayEnter (setting_of p) me z.input) journal (e ∷ []) k.others (subst (λ (i : Input). MayEnter (setting_of p) me i) (sym m.input_is) meets, tt));
      },
      m.sound,
    )

pub enters_after : (o : Schema) (p : Plan) (me : ℕ) (old new : Replica) (held held' : List (List Waiting)) (s s' b : Bool) (journal before after : List Entry) (total seat : ℕ) (input : Input) (e : Entry) (reply : Reply)
    → IsKept o p me (kept_by old held s journal total) → s ≡ false → Makes old new held held' s' seat input e reply
    → IsTrue b ↔ ((e.before ≡ 0) × IsNothing reply) → b ≡ false → before ≡ journal → after ≡ before ++ e ∷ []
    → Enters (rules_of o) (setting_of p) me seat (core_in old held s) journal (core_in new held' s') after input reply
enters_after o p me old new held held' s s' b journal before after total seat input e reply k going m idle not_idle same a =
    inl (
      e,
      m.seat_is,
      m.input_is,
      a ∙ ap (λ (l : List Entry). l ++ e ∷ []) same,
      subst (λ (z : Bool). Tells (rules_of o) (setting_of p) me (core_in old held z) (core_in new held' s') e reply) (sym going) (tells_at o p me old new held held' s' seat input e reply k.site m),
      λ nothing. some_before (λ none. true≢false (sym (idle.1 (none, nothing)) ∙ not_idle)),
    )
  where
    some_before : (e.before ≡ 0 → ⊥) → 0 < e.before
    some_before h = by_number e.before h
      where
        by_number : (n : ℕ) → (n ≡ 0 → ⊥) → 0 < n
        by_number zero f = absurd (f refl)
        by_number (suc n) f = omega arith

-- ---- where an entry isn't made, since it was of nothing

idle_same : (o : Schema) (p : Plan) (me : ℕ) (old new : Replica) (held held' : List (List Waiting)) (s s' : Bool) (journal : List Entry) (total seat : ℕ) (input : Input) (e : Entry) (reply : Reply)
    → IsKept o p me (kept_by old held s journal total) → Makes old new held held' s' seat input e reply → (e.before ≡ 0) × IsNothing reply
    → core_in old held false ≡ core_in new held' s'
idle_same o p me old new held held' s s' journal total seat input e reply k m i =
    idle_leaves (rules_of o) (setting_of p) me (core_in old held false) (core_in new held' s') e reply (tells_at o p me old new held held' s' seat input e reply k.site m) i.0 i.1

pub kept_idle : (o : Schema) (p : Plan) (me : ℕ) (old new : Replica) (held held' : List (List Waiting)) (s s' : Bool) (journal before : List Entry) (total seat : ℕ) (input : Input) (e : Entry) (reply : Reply)
    → IsKept o p me (kept_by old held s journal total) → s ≡ false → Makes old new held held' s' seat input e reply → (e.before ≡ 0) × IsNothing reply → before ≡ journal
    → IsKept o p me (kept_by new held' s' before total) × AreSoundIn new held'
kept_idle o p me old new held held' s s' journal before total seat input e reply k going m i b = (
  record {
    site = m.site ∙ k.site;
    folded = subst (λ (l : List Entry). HasCore o p me l (core_in new held' s')) (sym b)
        (k.folded ∙ ap (λ (z : Bool). Some (core_in old held z)) going ∙ ap (λ (c : Core). Some c) (idle_same o p me old new held held' s s' journal total seat input e reply k m i));
    counted = k.counted ∙ ap length (sym b);
    others = subst (AllMayEnter (setting_of p) me) (sym b) k.others;
  },
  m.sound,
)

pub enters_idle : (o : Schema) (p : Plan) (me : ℕ) (old new : Replica) (held held' : List (List Waiting)) (s s' : Bool) (journal before : List Entry) (total seat : ℕ) (input : Input) (e : Entry) (reply : Reply)
    → IsKept o p me (kept_by old held s journal total) → s ≡ false → Makes old new held held' s' seat input e reply → (e.before ≡ 0) × IsNothing reply → before ≡ journal
    → Enters (rules_of o) (setting_of p) me seat (core_in old held s) journal (core_in new held' s') before input reply
enters_idle o p me old new held held' s s' journal before total seat input e reply k going m i b =
    let same = idle_same o p me old new held held' s s' journal total seat input e reply k m i in
    let start : core_in old held s ≡ core_in old held false = ap (λ (z : Bool). core_in old held z) going in
    let t = tells_at o p me old new held held' s' seat input e reply k.site m in
    inr (
      sym same ∙ sym start,
      b,
      inr (inr (inr (
        going,
        (
          i.1,
          (
            e,
            m.input_is,
            i.0,
            subst (λ (c : Core). Tells (rules_of o) (setting_of p) me c c e reply) (sym start)
                (subst (λ (c : Core). Tells (rules_of o) (setting_of p) me (core_in old held false) c e reply) (sym same) t),
          ),
        ),
      ))),
    )

-- ---- which replies come when

pub not_stopped : (old new : Replica) (held held' : List (List Waiting)) (s s' : Bool) (seat : ℕ) (input : Input) (e : Entry) (reply : Reply) → Makes old new held held' s' seat input e reply → s ≡ false
    → (reply ≡ replies.Stopped) ↔ (s ≡ true)
not_stopped old new held held' s s' seat input e reply m g =
    (λ q. absurd ((tells_not (rules_of old.site.object) (setting_of old.site.plan) old.site.me (core_in old held false) (core_in new held' s') e reply m.tells).0 q), λ q. absurd (true≢false (sym q ∙ g)))

pub not_full : (old new : Replica) (held held' : List (List Waiting)) (s s' b : Bool) (seat : ℕ) (input : Input) (e : Entry) (reply : Reply) (len n : ℕ) → Makes old new held held' s' seat input e reply
    → IsTrue b ↔ ((MAX_ENTRIES ≤ len) × (input ≢ inputs.Stop)) → b ≡ false → n ≡ len
    → (reply ≡ replies.Full) ↔ ((s ≡ false) × (MAX_ENTRIES ≤ n) × (input ≢ inputs.Stop))
not_full old new held held' s s' b seat input e reply len n m f g l = (
  λ q. absurd ((tells_not (rules_of old.site.object) (setting_of old.site.plan) old.site.me (core_in old held false) (core_in new held' s') e reply m.tells).1 q),
  λ q. absurd (true≢false (sym (f.1 (subst (λ (k : ℕ). MAX_ENTRIES ≤ k) l q.1, q.2)) ∙ g)),
)

pub kind_after : (old new : Replica) (held held' : List (List Waiting)) (s' : Bool) (seat : ℕ) (input : Input) (e : Entry) (reply : Reply) → Makes old new held held' s' seat input e reply → IsOfKind input reply
kind_after old new held held' s' seat input e reply m =
    tells_of_kind (rules_of old.site.object) (setting_of old.site.plan) old.site.me (core_in old held false) (core_in new held' s') e input reply m.tells m.input_is

-- ---- how the number of a door's entries moves

pub nothing_moves : (r : Reply) (n n' : ℕ) → IsNothing r → n' ≡ n → Moves r n n'
nothing_moves (replies.Issued i logged) n n' h e = absurd h
nothing_moves (replies.NotIssued why) n n' h e = absurd h
nothing_moves (replies.Delivered d logged) n n' h e = absurd h
nothing_moves (replies.NotDelivered why) n n' h e = absurd h
nothing_moves (replies.Ticked s) n n' h e = inl (h, e)
nothing_moves (replies.Collected frames) n n' h e = inl (h, e)
nothing_moves (replies.Value v) n n' h e = absurd h
nothing_moves (replies.Rows rows) n n' h e = absurd h
nothing_moves (replies.Asked a) n n' h e = absurd h
nothing_moves (replies.Log log) n n' h e = absurd h
nothing_moves (replies.Counts counts) n n' h e = absurd h
nothing_moves (replies.Recorded calls) n n' h e = absurd h
nothing_moves replies.Stopping n n' h e = absurd h
nothing_moves replies.Stopped n n' h e = absurd h
nothing_moves replies.Full n n' h e = absurd h
nothing_moves replies.NoMemory n n' h e = absurd h

entry_moves : (r : Reply) (n n' : ℕ) → (r ≢ replies.Stopped) × (r ≢ replies.Full) → n' ≡ n + 1 → Moves r n n'
entry_moves (replies.Issued i logged) n n' h e = e
entry_moves (replies.NotIssued why) n n' h e = e
entry_moves (replies.Delivered d logged) n n' h e = e
entry_moves (replies.NotDelivered why) n n' h e = e
entry_moves (replies.Ticked s) n n' h e = inr e
entry_moves (replies.Collected frames) n n' h e = inr e
entry_moves (replies.Value v) n n' h e = e
entry_moves (replies.Rows rows) n n' h e = e
entry_moves (replies.Asked a) n n' h e = e
entry_moves (replies.Log log) n n' h e = e
entry_moves (replies.Counts counts) n n' h e = e
entry_moves (replies.Recorded calls) n n' h e = e
entry_moves replies.Stopping n n' h e = e
entry_moves replies.Stopped n n' h e = absurd (h.0 refl)
entry_moves replies.Full n n' h e = absurd (h.1 refl)
entry_moves replies.NoMemory n n' h e = inr e

pub moves_after : (old new : Replica) (held held' : List (List Waiting)) (s' : Bool) (seat : ℕ) (input : Input) (e : Entry) (reply : Reply) (n n' : ℕ) → Makes old new held held' s' seat input e reply → n' ≡ n + 1 → Moves reply n n'
moves_after old new held held' s' seat input e reply n n' m q =
    entry_moves reply n n' (tells_not (rules_of old.site.object) (setting_of old.site.plan) old.site.me (core_in old held false) (core_in new held' s') e reply m.tells) q

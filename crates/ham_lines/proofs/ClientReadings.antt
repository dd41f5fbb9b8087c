-- What the words of a client's line spell and mean, and that it is read from its words.
use Rattle.std.proofs.Common.{◌≡◌, ◌⊎◌, ℕ, Bool, true, false, cond, List, [], ◌∷◌, Option, Some, None, Result, Ok, Err, refl, sym, ap, ◌∙◌, subst, inl, inr}
use Rattle.std.specs.Prelude.{nat_eq, option_map, codes}
use Rattle.std.specs.Cmp.Lexicographic.{pointwise, same_text}
use Rattle.std.proofs.lemmas.Option.{same_Some, none-some}
use Rattle.ham_text.specs.Cuts.{words_of}
use Rattle.ham_text.proofs.Choices.{branch, mapped}
use Rattle.ham_syntax.specs.declared.act.Act.{Act}
use Rattle.ham_syntax.specs.Objects.{Schema, relation_named}
use Rattle.ham_syntax.specs.Checked.{IsChecked}
use Rattle.ham_lines.specs.declared.fault.LineFault.{LineFault}
use Rattle.ham_lines.specs.declared.fault.LineFault.TheVariants.{NotALine, UnknownName, BadKey, NoMemory}
use Rattle.ham_lines.specs.declared.named.NamedAct.{NamedAct}
use Rattle.ham_lines.specs.declared.named.NamedCounter.{NamedCounter}
use Rattle.ham_lines.specs.declared.client.ClientLine.{ClientLine}
use Rattle.ham_lines.specs.declared.client.ClientLine.TheVariants as lines
use Rattle.ham_lines.specs.declared.client.ClientWritten.{ClientWritten}
use Rattle.ham_lines.specs.declared.client.ClientWritten.TheVariants.{Issue, Show, Rows, Verdict, Log, Counts, Record, Quit, Stop}
use Rattle.ham_lines.specs.Named.{act_meant, counter_meant}
use Rattle.ham_lines.specs.Reading.{two_numbers, act_of, counter_of, relation_of}
use Rattle.ham_lines.specs.Clients.{client_words, IsClientWritten, IsClientSpelling, client_written, IsOfObject, ClientSpells, NamesUnknown, HasWrongKey, IsClientWrong, ClientSpellsWrong, ClientFails, IsClientReading}
use Rattle.ham_lines.specs.ClientReading.{if_verb, verdict_of, single_of, client_of, issue_by, show_by, rows_by, client_meant}
use Rattle.ham_lines.proofs.Spelled.{two_spelled, two_read, act_spelled, act_read, counter_spelled, counter_read, relation_spelled, relation_read}
use Rattle.ham_lines.proofs.Meant.{act_is, act_unknown, act_untold, act_back, counter_means, counter_unmeant, counter_untold, key_untold, shown_back, relation_is, relation_back}

-- ---- what words spell

pub record Spelt (words : List (List ℕ)) (w : ClientWritten) : Type 0 where
  pub is_written : IsClientWritten w
  pub words_are : words ≡ client_words w

pick : (verb text : List ℕ) (ws : List (List ℕ)) (found others : Option ClientWritten) (w : ClientWritten) → (found ≡ Some w → Spelt (text ∷ ws) w) → (others ≡ Some w → Spelt (verb ∷ ws) w)
    → if_verb verb text found others ≡ Some w → Spelt (verb ∷ ws) w
pick verb text ws found others w here more e = elim (branch (pointwise nat_eq verb text) found others w e) [
  | inl p ↦ subst (λ (v : List ℕ). Spelt (v ∷ ws) w) (sym (same_text verb text (sym p.0))) (here p.1)
  | inr h ↦ more h
]

none : (words : List (List ℕ)) (w : ClientWritten) → None ≡ Some w → Spelt words w
none words w e = absurd (none-some w e)

bare : (text : List ℕ) (v w : ClientWritten) → Spelt (text ∷ []) v → Some v ≡ Some w → Spelt (text ∷ []) w
bare text v w h e = subst (Spelt (text ∷ [])) (same_Some v w e) h

issue_spelt : (ws : List (List ℕ)) (w : ClientWritten) → option_map Issue (act_of ws) ≡ Some w → Spelt (codes "issue" ∷ ws) w
issue_spelt ws w e =
    let t = mapped (act_of ws) Issue w e in
    let a = act_spelled ws t.0 t.1 in
    subst (Spelt (codes "issue" ∷ ws)) t.2 (record { is_written = a.0; words_are = ap (λ u. codes "issue" ∷ u) a.1 })

show_spelt : (ws : List (List ℕ)) (w : ClientWritten) → option_map Show (counter_of ws) ≡ Some w → Spelt (codes "show" ∷ ws) w
show_spelt ws w e =
    let t = mapped (counter_of ws) Show w e in
    let a = counter_spelled ws t.0 t.1 in
    subst (Spelt (codes "show" ∷ ws)) t.2 (record { is_written = a.0; words_are = ap (λ u. codes "show" ∷ u) a.1 })

rows_spelt : (ws : List (List ℕ)) (w : ClientWritten) → option_map Rows (relation_of ws) ≡ Some w → Spelt (codes "rows" ∷ ws) w
rows_spelt ws w e =
    let t = mapped (relation_of ws) Rows w e in
    let a = relation_spelled ws t.0 t.1 in
    subst (Spelt (codes "rows" ∷ ws)) t.2 (record { is_written = a.0; words_are = ap (λ u. codes "rows" ∷ u) a.1 })

verdict_spelt : (ws : List (List ℕ)) (w : ClientWritten) → verdict_of ws ≡ Some w → Spelt (codes "verdict" ∷ ws) w
verdict_spelt ws w e =
    let t = mapped (two_numbers ws) (λ p. Verdict p.0 p.1) w e in
    let n = two_spelled ws t.0 t.1 in
    subst (Spelt (codes "verdict" ∷ ws)) t.2 (record { is_written = n.numbers; words_are = ap (λ u. codes "verdict" ∷ u) n.words })

single_spelt : (verb : List ℕ) (ws : List (List ℕ)) (w : ClientWritten) → single_of verb ws ≡ Some w → Spelt (verb ∷ ws) w
single_spelt verb (v ∷ ws) w e = absurd (none-some w e)
single_spelt verb [] w e =
    pick verb (codes "log") [] (Some Log) _ w (bare (codes "log") Log w (record { is_written = tt; words_are = refl }))
    (pick verb (codes "counts") [] (Some Counts) _ w (bare (codes "counts") Counts w (record { is_written = tt; words_are = refl }))
    (pick verb (codes "record") [] (Some Record) _ w (bare (codes "record") Record w (record { is_written = tt; words_are = refl }))
    (pick verb (codes "quit") [] (Some Quit) _ w (bare (codes "quit") Quit w (record { is_written = tt; words_are = refl }))
    (pick verb (codes "stop") [] (Some Stop) None w (bare (codes "stop") Stop w (record { is_written = tt; words_are = refl })) (none (verb ∷ []) w))))) e

pub client_spelt : (words : List (List ℕ)) (w : ClientWritten) → client_of words ≡ Some w → Spelt words w
unfolding client_of
client_spelt [] w e = absurd (none-some w e)
client_spelt (verb ∷ ws) w e =
    pick verb (codes "issue") ws (option_map Issue (act_of ws)) _ w (issue_spelt ws w)
    (pick verb (codes "show") ws (option_map Show (counter_of ws)) _ w (show_spelt ws w)
    (pick verb (codes "rows") ws (option_map Rows (relation_of ws)) _ w (rows_spelt ws w)
    (pick verb (codes "verdict") ws (verdict_of ws) (single_of verb ws) w (verdict_spelt ws w) (single_spelt verb ws w)))) e

-- ---- a line is read from its words

pub client_read : (w : ClientWritten) → IsClientWritten w → client_of (client_words w) ≡ Some w
unfolding client_of
client_read (Issue act) h = ap (option_map Issue) (act_read act h)
client_read (Show counter) h = ap (option_map Show) (counter_read counter h)
client_read (Rows relation) h = ap (option_map Rows) (relation_read relation h)
client_read (Verdict g k) h = ap (option_map (λ p. Verdict p.0 p.1)) (two_read g k h)
client_read Log h = refl
client_read Counts h = refl
client_read Record h = refl
client_read Quit h = refl
client_read Stop h = refl

-- ---- what it means

abbrev pub Means : Schema → ClientWritten → Result ClientLine LineFault → Type 0
Means o w (Ok l) = IsOfObject o l × (w ≡ client_written o l)
Means o w (Err fault) = IsClientWrong o w fault

issue_means : (o : Schema) (a : NamedAct) (found : Option Act) → act_meant o a ≡ found → Means o (Issue a) (issue_by found)
issue_means o a (Some act) e = let m = act_is o a act e in (m.exists, ap Issue m.same)
issue_means o a None e = act_unknown o a e

show_means : (o : Schema) (c : NamedCounter) (found : Result (ℕ × ℕ) LineFault) → counter_meant o c ≡ found → Means o (Show c) (show_by found)
show_means o c (Ok p) e = let m = counter_means o c p e in ((m.exists, m.is_key), ap Show m.same)
show_means o c (Err UnknownName) e = counter_unmeant o c UnknownName e
show_means o c (Err BadKey) e = counter_unmeant o c BadKey e
show_means o c (Err NotALine) e = counter_unmeant o c NotALine e
show_means o c (Err NoMemory) e = counter_unmeant o c NoMemory e

rows_means : (o : Schema) (relation : List ℕ) (found : Option ℕ) → relation_named o relation ≡ found → Means o (Rows relation) (rows_by found)
rows_means o relation (Some n) e = let m = relation_is o relation n e in (m.exists, ap Rows m.is_word)
rows_means o relation None e = e

client_means : (o : Schema) (w : ClientWritten) → Means o w (client_meant o w)
unfolding client_meant
client_means o (Issue act) = issue_means o act (act_meant o act) refl
client_means o (Show counter) = show_means o counter (counter_meant o counter) refl
client_means o (Rows relation) = rows_means o relation (relation_named o relation) refl
client_means o (Verdict g k) = (tt, refl)
client_means o Log = (tt, refl)
client_means o Counts = (tt, refl)
client_means o Record = (tt, refl)
client_means o Quit = (tt, refl)
client_means o Stop = (tt, refl)

-- ---- one spelling

spelling_read : (w : ClientWritten) (bytes : List ℕ) → IsClientSpelling w bytes → client_of (words_of bytes) ≡ Some w
spelling_read w bytes h = ap client_of h.words ∙ client_read w h.is_written

pub one_spelling : (w v : ClientWritten) (bytes : List ℕ) → IsClientSpelling w bytes → IsClientSpelling v bytes → w ≡ v
one_spelling w v bytes h k = same_Some w v (sym (spelling_read w bytes h) ∙ spelling_read v bytes k)

-- ---- what is read

read_as : (o : Schema) (bytes : List ℕ) (w : ClientWritten) → IsClientSpelling w bytes → (r : Result ClientLine LineFault) → Means o w r → IsClientReading o bytes r
read_as o bytes w h (Ok l) m = record { is_of_object = m.0; spelling = subst (λ v. IsClientSpelling v bytes) m.1 h }
read_as o bytes w h (Err NotALine) m = absurd m
read_as o bytes w h (Err UnknownName) m = record { line = w; spelling = h; wrong = m }
read_as o bytes w h (Err BadKey) m = record { line = w; spelling = h; wrong = m }
read_as o bytes w h (Err NoMemory) m = m

pub found_line : (o : Schema) (bytes : List ℕ) (w : ClientWritten) → client_of (words_of bytes) ≡ Some w → IsClientReading o bytes (client_meant o w)
found_line o bytes w e =
    let s = client_spelt (words_of bytes) w e in
    read_as o bytes w (record { is_written = s.is_written; words = s.words_are }) (client_meant o w) (client_means o w)

pub found_none : (o : Schema) (bytes : List ℕ) → client_of (words_of bytes) ≡ None → IsClientReading o bytes (Err NotALine)
found_none o bytes e w h = none-some w (sym e ∙ spelling_read w bytes h)

-- ---- one reading

client_back : (o : Schema) → IsChecked o → (l : ClientLine) → IsOfObject o l → client_meant o (client_written o l) ≡ Ok l
unfolding client_meant
client_back o checked (lines.Issue act) h = ap issue_by (act_back o checked act h)
client_back o checked (lines.Show c key) h = ap show_by (shown_back o checked c key h.0 h.1)
client_back o checked (lines.Rows relation) h = ap rows_by (relation_back o checked relation h)
client_back o checked (lines.Verdict g k) h = refl
client_back o checked lines.Log h = refl
client_back o checked lines.Counts h = refl
client_back o checked lines.Record h = refl
client_back o checked lines.Quit h = refl
client_back o checked lines.Stop h = refl

same_line : (l m : ClientLine) (r : Result ClientLine LineFault) → r ≡ Ok l → r ≡ Ok m → l ≡ m
same_line l m r e f = cc

pub one_line : (o : Schema) → IsChecked o → (l m : ClientLine) (bytes : List ℕ) → ClientSpells o l bytes → ClientSpells o m bytes → l ≡ m
one_line o checked l m bytes h k =
    let same = one_spelling (client_written o l) (client_written o m) bytes h.spelling k.spelling in
    same_line l m (client_meant o (client_written o l)) (client_back o checked l h.is_of_object) (ap (client_meant o) same ∙ client_back o checked m k.is_of_object)

-- ---- one fault, and no other reading

unknown_told : (o : Schema) (w : ClientWritten) → NamesUnknown o w → client_meant o w ≡ Err UnknownName
unfolding client_meant
unknown_told o (Issue act) h = ap issue_by (act_untold o act h)
unknown_told o (Show counter) h = ap show_by (counter_untold o counter h)
unknown_told o (Rows relation) h = ap rows_by h
unknown_told o (Verdict g k) h = absurd h
unknown_told o Log h = absurd h
unknown_told o Counts h = absurd h
unknown_told o Record h = absurd h
unknown_told o Quit h = absurd h
unknown_told o Stop h = absurd h

wrong_key_told : (o : Schema) (w : ClientWritten) → HasWrongKey o w → client_meant o w ≡ Err BadKey
unfolding client_meant
wrong_key_told o (Issue act) h = absurd h
wrong_key_told o (Show counter) h = ap show_by (key_untold o counter h.0 h.1 h.2)
wrong_key_told o (Rows relation) h = absurd h
wrong_key_told o (Verdict g k) h = absurd h
wrong_key_told o Log h = absurd h
wrong_key_told o Counts h = absurd h
wrong_key_told o Record h = absurd h
wrong_key_told o Quit h = absurd h
wrong_key_told o Stop h = absurd h

told : (o : Schema) (w : ClientWritten) (fault : LineFault) → IsClientWrong o w fault → client_meant o w ≡ Err fault
told o w NotALine h = absurd h
told o w UnknownName h = unknown_told o w h
told o w BadKey h = wrong_key_told o w h
told o w NoMemory h = absurd h

-- nothing is written so, or something is and is wrong
abbrev Faulty : Schema → List ℕ → LineFault → Type 0
Faulty o bytes fault = ((fault ≡ NotALine) × ((w : ClientWritten) → IsClientSpelling w bytes → ⊥)) ⊎ ClientSpellsWrong o bytes fault

faulty : (o : Schema) (bytes : List ℕ) (fault : LineFault) → ClientFails o bytes fault → Faulty o bytes fault
faulty o bytes NotALine h = inl (refl, h)
faulty o bytes UnknownName h = inr h
faulty o bytes BadKey h = inr h
faulty o bytes NoMemory h = absurd h

two_told : (r : Result ClientLine LineFault) (f g : LineFault) → r ≡ Err f → r ≡ Err g → f ≡ g
two_told r f g d e = cc

same_wrong : (o : Schema) (bytes : List ℕ) (f g : LineFault) → ClientSpellsWrong o bytes f → ClientSpellsWrong o bytes g → f ≡ g
same_wrong o bytes f g h k =
    let same = one_spelling h.line k.line bytes h.spelling k.spelling in
    two_told (client_meant o h.line) f g (told o h.line f h.wrong) (ap (client_meant o) same ∙ told o k.line g k.wrong)

pub one_fault : (o : Schema) (bytes : List ℕ) (f g : LineFault) → ClientFails o bytes f → ClientFails o bytes g → f ≡ g
one_fault o bytes f g h k = elim (faulty o bytes f h) [
  | inl p ↦ elim (faulty o bytes g k) [
    | inl q ↦ p.0 ∙ sym q.0
    | inr q ↦ absurd (p.1 q.line q.spelling)
  ]
  | inr p ↦ elim (faulty o bytes g k) [
    | inl q ↦ absurd (q.1 p.line p.spelling)
    | inr q ↦ same_wrong o bytes f g p q
  ]
]

line_or_fault : (r : Result ClientLine LineFault) (l : ClientLine) (f : LineFault) → r ≡ Ok l → r ≡ Err f → ⊥
line_or_fault (Ok x) l f d e = absurd cc
line_or_fault (Err x) l f d e = absurd cc

pub no_fault : (o : Schema) → IsChecked o → (l : ClientLine) (bytes : List ℕ) (f : LineFault) → ClientSpells o l bytes → ClientFails o bytes f → ⊥
no_fault o checked l bytes f h k = elim (faulty o bytes f k) [
  | inl p ↦ p.1 (client_written o l) h.spelling
  | inr p ↦
      (let same = one_spelling (client_written o l) p.line bytes h.spelling p.spelling in
      line_or_fault (client_meant o (client_written o l)) l f (client_back o checked l h.is_of_object) (ap (client_meant o) same ∙ told o p.line f p.wrong))
]

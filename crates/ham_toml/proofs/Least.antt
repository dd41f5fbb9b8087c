-- The key that is told as unknown is the least of those that aren't listed.
use Rattle.std.proofs.Common.{◌≡◌, ℕ, Bool, true, false, cond, List, Option, Some, None, Ok, Err, inl, inr, refl, sym, ap, ◌∙◌, subst}
use Rattle.std.specs.Prelude.{◌⊎◌}
use Rattle.std.specs.Ordering.{nat_cmp, is_lt, ordering_reverse}
use Rattle.std.specs.declared.cmp.Ordering.{Ordering}
use Rattle.std.specs.declared.cmp.Ordering.TheVariants.{Less, Equal, Greater}
use Rattle.std.specs.Cmp.Lexicographic.{slice_cmp}
use Rattle.std.proofs.lemmas.Cmp.{nat_list_cmp_total}
use Rattle.std.proofs.lemmas.Map.Lookups.{exact_bytes}
use Rattle.toml.specs.Data.{Data, Members, no_members, member}
use Rattle.ham_forms.specs.declared.fault.FileFault.TheVariants.{UnknownKey}
use Rattle.ham_toml.specs.declared.keys.Form.{Form}
use Rattle.ham_toml.specs.Toml.{is_listed, lesser, least_unlisted, if_all_listed}
use Rattle.ham_toml.specs.KnownKeys.{HasKey, IsLeastUnlisted, AreListed, IsUnknownTheLeast}

-- ---- the order of bytes

-- one text is before the other, or they are one
abbrev Before : List ℕ → List ℕ → Type 0
Before k l = (slice_cmp nat_cmp k l ≡ Less) ⊎ (k ≡ l)

is_less : (r : Ordering) → is_lt r ≡ true → r ≡ Less
is_less Less e = refl
is_less Equal e = absurd cc
is_less Greater e = absurd cc

not_before : (k l : List ℕ) (r : Ordering) → slice_cmp nat_cmp l k ≡ r → is_lt r ≡ false → Before k l
not_before k l Less e h = absurd cc
not_before k l Equal e h = inr (sym (exact_bytes l k e))
not_before k l Greater e h = inl (nat_list_cmp_total.antisymm k l ∙ ap ordering_reverse e)

chained : (k l m : List ℕ) → Before k l → Before l m → Before k m
chained k l m (inl p) (inl q) = inl (nat_list_cmp_total.trans k l m p q)
chained k l m (inl p) (inr q) = inl (subst (λ (o : List ℕ). slice_cmp nat_cmp k o ≡ Less) q p)
chained k l m (inr p) (inl q) = inl (subst (λ (o : List ℕ). slice_cmp nat_cmp o m ≡ Less) (sym p) q)
chained k l m (inr p) (inr q) = inr (p ∙ q)

one_least : (k l : List ℕ) → Before k l → Before l k → k ≡ l
one_least k l (inr p) q = p
one_least k l (inl p) (inr q) = sym q
one_least k l (inl p) (inl q) = absurd (let back : Less ≡ Greater = sym p ∙ (nat_list_cmp_total.antisymm k l ∙ ap ordering_reverse q) in cc)

-- ---- the lesser of two keys

-- a key before both, which is one of them
record IsLesser (m k l : List ℕ) : Type 0 where
  one : (m ≡ k) ⊎ (m ≡ l)
  first : Before m k
  second : Before m l

lesser_by : (t : Bool) (k l : List ℕ) → is_lt (slice_cmp nat_cmp l k) ≡ t → IsLesser (cond t l k) k l
lesser_by true k l e = record { one = inr refl; first = inl (is_less (slice_cmp nat_cmp l k) e); second = inr refl }
lesser_by false k l e = record { one = inl refl; first = inr refl; second = not_before k l (slice_cmp nat_cmp l k) refl e }

lesser_is : (k l : List ℕ) → IsLesser (lesser k (Some l)) k l
lesser_is k l = lesser_by (is_lt (slice_cmp nat_cmp l k)) k l refl

-- ---- the least of those before, and of those after

abbrev pub lesser_of : Option (List ℕ) → Option (List ℕ) → Option (List ℕ)
lesser_of None after = after
lesser_of (Some key) after = Some (lesser key after)

-- a key that is before three others, and one of them
record IsLeastOf (m k l n : List ℕ) : Type 0 where
  one : (m ≡ k) ⊎ ((m ≡ l) ⊎ (m ≡ n))
  first : Before m k
  second : Before m l
  third : Before m n

least_is_one : (m p k l n : List ℕ) → IsLeastOf m k l n → IsLeastOf p k l n → m ≡ p
least_is_one m p k l n h g = one_least m p (below m p h g) (below p m g h)
  where
    below : (m p : List ℕ) → IsLeastOf m k l n → IsLeastOf p k l n → Before m p
    below m p h g = elim g.one [
      | inl e ↦ subst (Before m) (sym e) h.first
      | inr (inl e) ↦ subst (Before m) (sym e) h.second
      | inr (inr e) ↦ subst (Before m) (sym e) h.third
    ]

of_two : (k l m : List ℕ) → IsLesser m k l → IsLeastOf m k l l
of_two k l m h = record { one = elim h.one [ inl e ↦ inl e | inr e ↦ inr (inl e) ]; first = h.first; second = h.second; third = h.second }

of_two_turned : (k l m : List ℕ) → IsLesser m l k → IsLeastOf m k l l
of_two_turned k l m h = record { one = elim h.one [ inl e ↦ inr (inl e) | inr e ↦ inl e ]; first = h.second; second = h.first; third = h.first }

of_front : (a k n p m : List ℕ) → IsLesser p k a → IsLesser m p n → IsLeastOf m a k n
of_front a k n p m h g =
    record {
      one = elim g.one [
        | inl e ↦ elim h.one [ inl f ↦ inr (inl (e ∙ f)) | inr f ↦ inl (e ∙ f) ]
        | inr e ↦ inr (inr e)
      ];
      first = chained m p a g.first h.second;
      second = chained m p k g.first h.first;
      third = g.second;
    }

of_back : (a k n p m : List ℕ) → IsLesser p k n → IsLesser m a p → IsLeastOf m a k n
of_back a k n p m h g =
    record {
      one = elim g.one [
        | inl e ↦ inl e
        | inr e ↦ elim h.one [ inl f ↦ inr (inl (e ∙ f)) | inr f ↦ inr (inr (e ∙ f)) ]
      ];
      first = g.first;
      second = chained m p k g.second h.first;
      third = chained m p n g.second h.second;
    }

regrouped : (a k : List ℕ) (after : Option (List ℕ)) → lesser a (Some (lesser k after)) ≡ lesser (lesser k (Some a)) after
regrouped a k None = least_is_one (lesser a (Some k)) (lesser k (Some a)) a k k (of_two a k (lesser a (Some k)) (lesser_is a k)) (of_two_turned a k (lesser k (Some a)) (lesser_is k a))
regrouped a k (Some n) =
    let p = lesser k (Some n) in
    let q = lesser k (Some a) in
    least_is_one (lesser a (Some p)) (lesser q (Some n)) a k n (of_back a k n p (lesser a (Some p)) (lesser_is k n) (lesser_is a p)) (of_front a k n q (lesser q (Some n)) (lesser_is k a) (lesser_is q n))

-- a key that isn't listed is taken into the least of those before it
pub taken : (least after : Option (List ℕ)) (k : List ℕ) → lesser_of least (Some (lesser k after)) ≡ lesser_of (Some (lesser k least)) after
taken None after k = refl
taken (Some a) after k = ap Some (regrouped a k after)

pub none_after : (least : Option (List ℕ)) → lesser_of least None ≡ least
none_after None = refl
none_after (Some k) = refl

-- ---- what is found

-- the least key that isn't listed, or none where all are listed
abbrev IsFound : Form → Members → Option (List ℕ) → Type 0
IsFound form ms None = AreListed form ms
IsFound form ms (Some key) = IsLeastUnlisted form ms key

true_is_false : (t : Bool) → t ≡ true → t ≡ false → ⊥
true_is_false t e f = (let no_way : true ≡ false = sym e ∙ f in cc)

past_listed : (form : Form) (k : List ℕ) (value : Data) (ms : Members) (found : Option (List ℕ)) → is_listed form k ≡ true → IsFound form ms found → IsFound form (member k value ms) found
past_listed form k value ms None listed rest = λ other h. elim h [
  | inl same ↦ subst (λ (o : List ℕ). is_listed form o ≡ true) same listed
  | inr more ↦ rest other more
]
past_listed form k value ms (Some key) listed rest =
    record {
      there = inr rest.there;
      unlisted = rest.unlisted;
      least = λ other h unlisted. elim h [
        | inl same ↦ absurd (true_is_false (is_listed form other) (subst (λ (o : List ℕ). is_listed form o ≡ true) same listed) unlisted)
        | inr more ↦ rest.least other more unlisted
      ];
    }

with_unlisted : (form : Form) (k : List ℕ) (value : Data) (ms : Members) (found : Option (List ℕ)) → is_listed form k ≡ false → IsFound form ms found → IsLeastUnlisted form (member k value ms) (lesser k found)
with_unlisted form k value ms None unlisted rest =
    record {
      there = inl refl;
      unlisted = unlisted;
      least = λ other h hidden. elim h [
        | inl same ↦ inr same
        | inr more ↦ absurd (true_is_false (is_listed form other) (rest other more) hidden)
      ];
    }
with_unlisted form k value ms (Some key) unlisted rest =
    let m = lesser k (Some key) in
    let h = lesser_is k key in
    record {
      there = elim h.one [
        | inl e ↦ inl (sym e)
        | inr e ↦ inr (subst (HasKey ms) (sym e) rest.there)
      ];
      unlisted = elim h.one [
        | inl e ↦ ap (is_listed form) e ∙ unlisted
        | inr e ↦ ap (is_listed form) e ∙ rest.unlisted
      ];
      least = λ other there hidden. elim there [
        | inl same ↦ subst (Before m) same h.first
        | inr more ↦ chained m key other h.second (rest.least other more hidden)
      ];
    }

found_by : (form : Form) (k : List ℕ) (value : Data) (ms : Members) (t : Bool) → is_listed form k ≡ t → IsFound form ms (least_unlisted form ms) → IsFound form (member k value ms) (cond t (least_unlisted form ms) (Some (lesser k (least_unlisted form ms))))
found_by form k value ms true e rest = past_listed form k value ms (least_unlisted form ms) e rest
found_by form k value ms false e rest = with_unlisted form k value ms (least_unlisted form ms) e rest

found : (form : Form) (ms : Members) → IsFound form ms (least_unlisted form ms)
found form no_members = λ key h. absurd h
found form (member k value ms) = found_by form k value ms (is_listed form k) refl (found form ms)

-- ---- the law

one_key : (form : Form) (ms : Members) (k l : List ℕ) → IsLeastUnlisted form ms k → IsLeastUnlisted form ms l → k ≡ l
one_key form ms k l h g = one_least k l (h.least l g.there g.unlisted) (g.least k h.there h.unlisted)

key_told : (form : Form) (ms : Members) (o : Option (List ℕ)) (key : List ℕ) → IsFound form ms o → if_all_listed o ≡ Err (UnknownKey key) → IsLeastUnlisted form ms key
key_told form ms None key h e = absurd cc
key_told form ms (Some k) key h e = (let same : k ≡ key = cc in subst (IsLeastUnlisted form ms) same h)

tells_key : (form : Form) (ms : Members) (o : Option (List ℕ)) (key : List ℕ) → IsFound form ms o → IsLeastUnlisted form ms key → if_all_listed o ≡ Err (UnknownKey key)
tells_key form ms None key h l = absurd (true_is_false (is_listed form key) (h key l.there) l.unlisted)
tells_key form ms (Some k) key h l = ap (λ (o : List ℕ). Err (UnknownKey o)) (one_key form ms k key h l)

all_listed : (form : Form) (ms : Members) (o : Option (List ℕ)) → IsFound form ms o → if_all_listed o ≡ Ok tt → AreListed form ms
all_listed form ms None h e = h
all_listed form ms (Some k) h e = absurd cc

lets_through : (form : Form) (ms : Members) (o : Option (List ℕ)) → IsFound form ms o → AreListed form ms → if_all_listed o ≡ Ok tt
lets_through form ms None h l = refl
lets_through form ms (Some k) h l = absurd (true_is_false (is_listed form k) (l k h.there) h.unlisted)

pub unknown_is_least : IsUnknownTheLeast
unknown_is_least form ms =
    let o = least_unlisted form ms in
    let h = found form ms in
    (λ key. (key_told form ms o key h, tells_key form ms o key h), (all_listed form ms o h, lets_through form ms o h))

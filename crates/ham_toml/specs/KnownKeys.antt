-- Which key of a table is told as unknown.
use Rattle.std.specs.Prelude.{◌≡◌, ◌⊎◌, ◌↔◌, ℕ, true, false, List, Ok, Err}
use Rattle.std.specs.Ordering.{nat_cmp}
use Rattle.std.specs.declared.cmp.Ordering.TheVariants.{Less}
use Rattle.std.specs.Cmp.Lexicographic.{slice_cmp}
use Rattle.toml.specs.Data.{Members, no_members, member}
use Rattle.ham_forms.specs.declared.fault.FileFault.TheVariants.{UnknownKey}
use Rattle.ham_toml.specs.declared.keys.Form.{Form}
use Rattle.ham_toml.specs.Toml.{is_listed, known}

-- a table has the key
abbrev pub HasKey : Members → List ℕ → Type 0
HasKey no_members key = ⊥
HasKey (member k value ms) key = (k ≡ key) ⊎ HasKey ms key

-- a key of the table that isn't listed, before each other such key in the order of their bytes
pub record IsLeastUnlisted (form : Form) (ms : Members) (key : List ℕ) : Type 0 where
  pub there : HasKey ms key
  pub unlisted : is_listed form key ≡ false
  pub least : (other : List ℕ) → HasKey ms other → is_listed form other ≡ false → (slice_cmp nat_cmp key other ≡ Less) ⊎ (key ≡ other)

-- each key of the table is listed
abbrev pub AreListed : Form → Members → Type 0
AreListed form ms = (key : List ℕ) → HasKey ms key → is_listed form key ≡ true

-- a table is refused by the least of its keys that aren't listed and by no other, in whatever order they stand, and is let
-- through where all are listed
abbrev pub IsUnknownTheLeast : Type 0
IsUnknownTheLeast = (form : Form) (ms : Members) → ((key : List ℕ) → (known form ms ≡ Err (UnknownKey key)) ↔ IsLeastUnlisted form ms key) × ((known form ms ≡ Ok tt) ↔ AreListed form ms)

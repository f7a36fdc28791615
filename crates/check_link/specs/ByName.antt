-- What a table by names has, where the values of the two latest names are at hand.
use Rattle.std.specs.Prelude.{◌≡◌, ℕ, cond, List, None, Option}
use Rattle.std.specs.Borrow.{Bor}
use Rattle.std.specs.BTreeMap.{BTreeMap, get_by}
use Rattle.std.specs.Cmp.Lexicographic.{slice_cmp}
use Rattle.std.specs.Ordering.{nat_cmp}
use Rattle.std.specs.Str.{bytes_eq}
use Rattle.check_link.specs.declared.by_name.ByName.{ByName}

-- what a table has for a name
abbrev pub found_in : {V : Type 0} → BTreeMap (Bor (List ℕ)) V → List ℕ → Option V
found_in table name = get_by (λ k. slice_cmp nat_cmp name k.now) table

-- what is known of names, with another value for one of them
abbrev pub over : {V : Type 0} → List ℕ → Option V → (List ℕ → Option V) → List ℕ → Option V
over name v f n = cond (bytes_eq name n) v (f n)

-- the value of a name but the latest one: the one at hand, or the table's
abbrev pub known_below : {V : Type 0} → ByName V → List ℕ → Option V
known_below t = over t.other.now t.held (found_in t.table)

-- the value of a name: one at hand, or the table's
abbrev pub known : {V : Type 0} → ByName V → List ℕ → Option V
known t = over t.name.now t.value (known_below t)

-- where a name has no value, nothing is known of it
abbrev pub HasNone : {V : Type 0} → (List ℕ → Option V) → List ℕ → Option V → Type 0
HasNone f name v = v ≡ None → f name ≡ None

-- nothing is known below of a name for which nothing is at hand
abbrev pub IsKept : {V : Type 0} → ByName V → Type 0
IsKept t = HasNone (found_in t.table) t.other.now t.held × HasNone (known_below t) t.name.now t.value

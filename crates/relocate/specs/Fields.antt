-- The fields of an object's relocations, as ranges of bytes of its sections.
use Rattle.std.specs.Prelude.{◌≡◌, ℕ, ◌+◌, ◌<◌, ◌≤◌, ◌⊎◌, ◌==◌, ◌&&◌, ◌||◌, Bool, List, fold, length, nat_le, nat_lt, slice_index_or}
use Rattle.elf_model.specs.Link.Relocation.{Relocation, width_of}
use Rattle.relocate.specs.declared.field_run.FieldRun.{FieldRun}
use Rattle.relocate.specs.declared.fields.Field.{Field}

-- the field of a relocation, within its object
abbrev pub field_of : Relocation → Field
field_of r = record { section = r.section; start = r.entry.r_offset; end = r.entry.r_offset + width_of r }

-- a field has a byte
abbrev pub IsSome : Field → Type 0
IsSome f = f.start < f.end

-- no byte of a section lies in both fields
abbrev pub AreApart : Field → Field → Type 0
AreApart f g = f.section ≡ g.section → (k : ℕ) → f.start ≤ k → k < f.end → g.start ≤ k → k < g.end → ⊥

-- a field ends before the other begins, or lies in an earlier section
abbrev pub IsBefore : Field → Field → Type 0
IsBefore f g = (f.section < g.section) ⊎ ((f.section ≡ g.section) × (f.end ≤ g.start))

abbrev pub is_before : Field → Field → Bool
is_before f g = nat_lt f.section g.section || (f.section == g.section && nat_le f.end g.start)

-- fields that came one after the other, and one more
abbrev pub run_with : FieldRun → Field → FieldRun
run_with run f = record { last = f; rises = run.rises && is_before run.last f }

-- and the fields of relocations
abbrev pub run_after : FieldRun → List Relocation → FieldRun
run_after run rs = fold (λ x r. run_with x (field_of r)) run rs

-- each field ends before the next one begins
abbrev pub Rise : List Field → Type 0
Rise xs = (k : ℕ) (d : Field) → k + 1 < length xs → IsBefore (slice_index_or xs k d) (slice_index_or xs (k + 1) d)

-- each field begins where the one in front of it begins, or behind
abbrev pub IsBehind : Field → Field → Type 0
IsBehind f g = (f.section ≤ g.section) × (f.section ≡ g.section → f.start ≤ g.start)

abbrev pub IsOrdered : List Field → Type 0
IsOrdered xs = (k : ℕ) (d : Field) → k + 1 < length xs → IsBehind (slice_index_or xs k d) (slice_index_or xs (k + 1) d)

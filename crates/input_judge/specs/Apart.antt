-- The bytes of places, in order and apart.
use Rattle.std.specs.Prelude.{◌≡◌, ◌⊎◌, ◌+◌, ◌<◌, ◌≤◌, ◌==◌, ◌&&◌, ℕ, Bool, List, [], ◌∷◌, cond, length, not, slice_index_or}
use Rattle.elf_model.specs.Link.Relocation.{Relocation}
use Rattle.elf_model.specs.declared.link_map.DropLine.{DropLine}
use Rattle.judge_model.specs.Certificates.{is_left_out}
use Rattle.judge_model.specs.Fields.{place_start, place_width}
use Rattle.input_judge.specs.declared.fields_apart.FieldBytes.{FieldBytes}

-- the section of a relocation isn't left out
abbrev pub is_in_image : List DropLine → Relocation → Bool
is_in_image drops r = not (is_left_out drops r.object r.section)

abbrev pub field_bytes : Relocation → FieldBytes
field_bytes r = record { at = place_start r; section = r.section; width = place_width r }

-- those of a relocation, where its section isn't left out and its place has any
abbrev pub bytes_of_field : List DropLine → Relocation → List FieldBytes
bytes_of_field drops r = cond (is_in_image drops r && not (place_width r == 0)) (field_bytes r ∷ []) []

abbrev pub HasByte : FieldBytes → Type 0
HasByte f = f.at < f.at + f.width

-- no byte of a section is in both
abbrev pub AreApart : FieldBytes → FieldBytes → Type 0
AreApart f g = f.section ≡ g.section → (k : ℕ) → f.at ≤ k → k < f.at + f.width → g.at ≤ k → k < g.at + g.width → ⊥

-- the one ends before the other begins, or lies in an earlier section
abbrev pub IsBefore : FieldBytes → FieldBytes → Type 0
IsBefore f g = (f.section < g.section) ⊎ ((f.section ≡ g.section) × (f.at + f.width ≤ g.at))

abbrev pub Rise : List FieldBytes → Type 0
Rise xs = (k : ℕ) (d : FieldBytes) → k + 1 < length xs → IsBefore (slice_index_or xs k d) (slice_index_or xs (k + 1) d)

-- the one begins where the other begins, or behind
abbrev pub IsBehind : FieldBytes → FieldBytes → Type 0
IsBehind f g = (f.section ≤ g.section) × (f.section ≡ g.section → f.at ≤ g.at)

abbrev pub IsOrdered : List FieldBytes → Type 0
IsOrdered xs = (k : ℕ) (d : FieldBytes) → k + 1 < length xs → IsBehind (slice_index_or xs k d) (slice_index_or xs (k + 1) d)

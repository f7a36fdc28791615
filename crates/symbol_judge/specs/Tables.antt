-- The tables of an image, clause by clause.
use Rattle.std.specs.Prelude.{◌≡◌, ℕ, ◌<◌, false, List, All, count_by, drop, length}
use Rattle.std.specs.List.{prefix_len}
use Rattle.elf_model.specs.declared.records.Symbol.{Symbol}
use Rattle.judge_model.specs.Links.{ForeignLink}
use Rattle.judge_model.specs.Tables.{AreCovered, AreThere, IsEntryRight, IsSectionTrue, IsTableRight, image_sections, image_symbols, is_local_entry}

pub record AreLocalsFirst (count : ℕ) (es : List Symbol) : Type 0 where
  pub first : count ≡ prefix_len is_local_entry es
  pub all : count ≡ count_by is_local_entry es

pub record AreNamedRight (l : ForeignLink) : Type 0 where
  pub entries_are : All (IsEntryRight l) (drop 1 (image_symbols l.image))
  pub there : l.plan.strips ≡ false → AreThere l

-- what is asked of section headers that lie inside the file
pub record AreReadRight (l : ForeignLink) : Type 0 where
  pub sections_are : All (IsSectionTrue l.image) (image_sections l.image)
  pub covered : AreCovered l
  pub symbols_are : 0 < length (image_symbols l.image) → IsTableRight l

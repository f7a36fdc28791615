-- The rule on the neighbours in one output section.
use Rattle.std.specs.Prelude.{ℕ, cond, List, None, Option, Some, slice_index_or}
use Rattle.std.specs.BTreeMap.{get}
use Rattle.std.specs.Option.{option_or}
use Rattle.std.specs.Ordering.{is_eq}
use Rattle.elf_model.specs.Link.Placement.{IsNear, IsNext, Placed}
use Rattle.check_link.specs.OutputSections.{section_order}
use Rattle.check_link.specs.declared.output_sections.OutputSection.{OutputSection}
use Rattle.check_places.specs.declared.c05_placed.neighbours.Last.{Last}
use Rattle.check_places.specs.declared.c05_placed.neighbours.Lasts.{Lasts}

-- each piece is near the one before it in its output section
abbrev pub AreNear : List Placed → Type 0
AreNear ps = (i j : ℕ) (d : Placed) → IsNext ps i j d → IsNear (slice_index_or ps i d) (slice_index_or ps j d)

-- the last piece of an output section, where it is this one; and it, or what else is known
abbrev pub last_at : Option Last → OutputSection → Option ℕ
last_at None t = None
last_at (Some l) t = cond (is_eq (section_order l.section t)) (Some l.at) None

-- what is known of output sections, once another piece of one is the last
abbrev pub over_last : OutputSection → ℕ → (OutputSection → Option ℕ) → OutputSection → Option ℕ
over_last s i f t = cond (is_eq (section_order s t)) (Some i) (f t)

-- the last piece of an output section: one at hand, or the map's
abbrev pub last_known : Lasts → OutputSection → Option ℕ
last_known l t = option_or (last_at l.latest t) (option_or (last_at l.other t) (get section_order l.map t))

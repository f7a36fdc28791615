-- What a layout as the code has it is of.
use Rattle.std.specs.Prelude.{◌≡◌, length}
use Rattle.elf_model.specs.Link.Pieces.{AreLawfulKinds}
use Rattle.layout.specs.Placements.{Basis}
use Rattle.search.specs.Views.{loaded_views}
use Rattle.debug_image.specs.SectionNumbers.{AreNumbers}
use Rattle.debug_image.specs.SectionViews.{section_views}
use Rattle.debug_image.specs.Symbols.{Laid, thread_start}
use Rattle.debug_image.specs.declared.symbol_rows.Layout.{Layout}

abbrev pub basis_of : Layout → Basis
basis_of l = l.placement.now

abbrev pub laid_in : Layout → Laid
laid_in l = record { base = (basis_of l).base; objects = (basis_of l).objects; sections = section_views l.sections.now }

-- the objects are those that are laid out, of lawful kinds, thread-local storage begins where they have it, and the sections'
-- numbers are theirs
pub record IsLayout (l : Layout) : Type 0 where
  pub objects : (basis_of l).objects ≡ loaded_views l.objects.now
  pub kinds : AreLawfulKinds (basis_of l).objects
  pub threads : l.thread_start ≡ thread_start (laid_in l)
  pub numbers : AreNumbers (length (basis_of l).objects) (section_views l.sections.now) l.numbers.now

-- The numbers of an image's sections as they are looked up.
use Rattle.std.specs.Prelude.{◌≡◌, ◌<◌, ℕ, List}
use Rattle.indexmap.specs.IndexMap.{IndexMap, get}
use Rattle.elf_model.specs.Link.Pieces.{Piece}
use Rattle.resolve.specs.OutputSections.{output_of, output_view}
use Rattle.resolve.specs.declared.output_sections.OutputSection.{OutputSection}
use Rattle.resolve.proofs.OutputKeys.{key_eq}
use Rattle.debug_image.specs.Sections.{Section, blocks_number, section_number}
use Rattle.debug_image.specs.declared.section_numbers.SectionNumbers as code

-- the first sections of output sections: what is found for the output section of a piece of an object is its section's number
abbrev pub AreFirsts : {S : Type 0} → ℕ → List Section → IndexMap OutputSection ℕ S → Type 0
AreFirsts count ss m =
    (p : Piece) (k : OutputSection) → output_view k ≡ output_of p → p.object < count → get key_eq m k ≡ section_number count ss p

pub record AreNumbers (count : ℕ) (ss : List Section) (n : code.SectionNumbers) : Type 0 where
  pub firsts : AreFirsts count ss n.firsts
  pub blocks : n.blocks ≡ blocks_number count ss

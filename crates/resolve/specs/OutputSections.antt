-- Output sections of kept sections as they are numbered.
use Rattle.std.specs.Prelude.{◌≡◌, ℕ, Bool, List, Option, Some, map, option_map}
use Rattle.std.specs.List.{slice_get}
use Rattle.std.specs.Str.{bytes_eq}
use Rattle.elf_model.specs.Link.Loading.{LoadedObject}
use Rattle.elf_model.specs.Own.OwnLayout.{leaders}
use Rattle.elf_model.specs.Link.Pieces.{Piece, is_executable, is_nobits, is_thread_local, is_writable, kept_sections, output_name}
use Rattle.resolve.specs.declared.output_sections.OutputSection.{OutputSection}
use Rattle.resolve.specs.declared.output_sections.OutputSections.{OutputSections}

-- what the pieces of one output section have in common
pub record Output : Type 0 where
  pub name : List ℕ
  pub writable : Bool
  pub executable : Bool
  pub thread_local : Bool
  pub nobits : Bool

abbrev pub output_of : Piece → Output
output_of p = record {
  name = output_name p.name;
  writable = is_writable p.header;
  executable = is_executable p.header;
  thread_local = is_thread_local p.header;
  nobits = is_nobits p.header;
}

abbrev pub output_view : OutputSection → Output
output_view o = record {
  name = o.name.0.now;
  writable = o.writable;
  executable = o.executable;
  thread_local = o.thread_local;
  nobits = o.nobits;
}

-- an output section has a name
abbrev pub is_named : List ℕ → OutputSection → Bool
is_named n o = bytes_eq o.name.0.now n

-- the output section that has a number
abbrev pub output_at : List OutputSection → ℕ → Option Output
output_at sections n = option_map output_view (slice_get sections n)

-- output sections are those of pieces, by first appearance, and numbers are those of each piece's
pub record AreOutputsOf (ps : List Piece) (sections : List OutputSection) (numbers : List ℕ) : Type 0 where
  pub sections_are : map output_view sections ≡ map output_of (leaders ps)
  pub numbers_are : map (output_at sections) numbers ≡ map (λ p. Some (output_of p)) ps

-- those of the kept sections of objects
abbrev pub AreOutputSections : List LoadedObject → OutputSections → Type 0
AreOutputSections objects o = AreOutputsOf (kept_sections objects) o.sections.items o.numbers.items

-- Output sections as the checker keeps them, and how they compare.
use Rattle.std.specs.Prelude.{◌≡◌, ◌&&◌, Bool}
use Rattle.elf_model.specs.Link.Pieces.{Piece, is_executable, is_nobits, is_thread_local, is_writable, output_name, same_bool}
use Rattle.std.specs.declared.cmp.Ordering.{Ordering}
use Rattle.check_link.specs.contracts.output_sections.OutputSectionOrd.TheImpl as section_ord
use Rattle.check_link.specs.declared.output_sections.OutputSection.{OutputSection}

-- what pieces of one output section have in common
pub record IsOutputSection (p : Piece) (s : OutputSection) : Type 0 where
  pub name : s.name.now ≡ output_name p.name
  pub writable : s.writable ≡ is_writable p.header
  pub executable : s.executable ≡ is_executable p.header
  pub thread_local : s.thread_local ≡ is_thread_local p.header
  pub nobits : s.nobits ≡ is_nobits p.header

-- two output sections are one
pub record IsSameSection (s t : OutputSection) : Type 0 where
  pub name : s.name.now ≡ t.name.now
  pub writable : s.writable ≡ t.writable
  pub executable : s.executable ≡ t.executable
  pub thread_local : s.thread_local ≡ t.thread_local
  pub nobits : s.nobits ≡ t.nobits

-- how output sections compare
abbrev pub section_order : OutputSection → OutputSection → Ordering
section_order = (section_ord.ghosts).cmp

-- two pieces are alike in WRITE, EXECINSTR, TLS and NOBITS
abbrev pub same_flags : Piece → Piece → Bool
same_flags p q =
    same_bool (is_writable p.header) (is_writable q.header) && same_bool (is_executable p.header) (is_executable q.header)
    && same_bool (is_thread_local p.header) (is_thread_local q.header)
    && same_bool (is_nobits p.header) (is_nobits q.header)

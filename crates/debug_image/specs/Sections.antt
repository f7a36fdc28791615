-- The output sections of an image (System V gABI 4, "Sections"; which pieces make one is the profile's): runs of neighbours
-- among the places that are of one output section, but for those of which all pieces are empty. The common blocks make a
-- section of their own, and so does the GOT.
use Rattle.std.specs.Prelude.{ℕ, ◌-◌, ◌==◌, ◌&&◌, Bool, cond, List, [], ◌∷◌, Option, bit_and, codes, filter, map, max, nat_le, nat_lt, ◌%◌}
use Rattle.std.specs.List.{position_from}
use Rattle.std.specs.Str.{bytes_eq}
use Rattle.elf_model.specs.Own.OwnLayout.{placed_end}
use Rattle.elf_model.specs.Link.Pieces.{Piece, is_executable, is_nobits, is_thread_local, is_writable, output_name, same_bool}
use Rattle.elf_model.specs.Link.Placement.{Placed}
use Rattle.elf_model.specs.declared.records.SectionHeader.{SectionHeader}
use Rattle.debug_image.specs.Tables.{HeaderRow}

-- an output section: its first piece, the end of the last one that isn't empty, and the greatest alignment of all; where all
-- are empty, it ends where it begins
pub record Section : Type 0 where
  pub first : Placed
  pub end : ℕ
  pub align : ℕ

-- two pieces of so many objects are of one output section; a common block or the GOT, which are numbered as of further objects, is
-- not of one with a section of an object
abbrev pub are_alike : SectionHeader → SectionHeader → Bool
are_alike g h =
    same_bool (is_writable g) (is_writable h)
    && same_bool (is_executable g) (is_executable h)
    && same_bool (is_thread_local g) (is_thread_local h)
    && same_bool (is_nobits g) (is_nobits h)

abbrev pub same_section : ℕ → Piece → Piece → Bool
same_section count p q =
    are_alike p.header q.header && same_bool (nat_le count p.object) (nat_le count q.object) && bytes_eq (output_name p.name) (output_name q.name)

-- an empty piece moves no end
abbrev pub end_with : ℕ → Placed → ℕ
end_with end q = cond (q.piece.size == 0) end (max end (placed_end q))

abbrev pub begun : Placed → Section
begun q = record { first = q; end = placed_end q; align = q.piece.align }

abbrev pub grown : Section → Placed → Section
grown s q = record { first = s.first; end = end_with s.end q; align = max s.align q.piece.align }

-- the section to which the next pieces belong as long as they are of it, and those behind it
abbrev pub runs_from : ℕ → Section → List Placed → List Section
runs_from count s [] = s ∷ []
runs_from count s (q ∷ qs) =
    cond (same_section count s.first.piece q.piece) (runs_from count (grown s q) qs) (s ∷ runs_from count (begun q) qs)

abbrev pub runs_of : ℕ → List Placed → List Section
runs_of count [] = []
runs_of count (q ∷ qs) = runs_from count (begun q) qs

-- one that has an address: an empty one has no byte in memory, and so no header
abbrev pub has_memory : Section → Bool
has_memory s = nat_lt s.first.at s.end

abbrev pub sections_from : ℕ → Section → List Placed → List Section
sections_from count s qs = filter has_memory (runs_from count s qs)

abbrev pub sections_of : ℕ → List Placed → List Section
sections_of count qs = filter has_memory (runs_of count qs)

-- the first section that a piece is of
abbrev pub section_number : ℕ → List Section → Piece → Option ℕ
section_number count ss p = position_from (λ s. same_section count s.first.piece p) 0 ss

-- that of the common blocks of so many objects
abbrev pub blocks_number : ℕ → List Section → Option ℕ
blocks_number count ss = position_from (λ s. s.first.piece.object == count) 0 ss

-- its name: that of the output section; COMMON for the blocks of so many objects, and .got
abbrev pub title_of : ℕ → Piece → List ℕ
title_of count p =
    cond (p.object == count) (codes "COMMON") (cond (nat_lt count p.object) (codes ".got") (output_name p.name))

-- its alignment: the greatest one of its pieces, where its address is a multiple of that, and else that of its first piece
abbrev pub alignment_of : Section → ℕ
alignment_of s = cond (nat_lt 0 s.align && (s.first.at % s.align == 0)) s.align s.first.piece.align

-- its header, in an image that is mapped from a base on: of the type of its first piece, with its address, as far behind the
-- base as in the file, and its size; of the flags WRITE, ALLOC, EXECINSTR and TLS
abbrev pub header_of : ℕ → Section → SectionHeader
header_of base s = record {
  sh_name = 0;
  sh_type = s.first.piece.header.sh_type;
  sh_flags = bit_and s.first.piece.header.sh_flags 0x407;
  sh_addr = s.first.at;
  sh_offset = s.first.at - base;
  sh_size = s.end - s.first.at;
  sh_link = 0;
  sh_info = 0;
  sh_addralign = alignment_of s;
  sh_entsize = 0;
}

-- the sections with their names
abbrev pub section_row : ℕ → ℕ → Section → HeaderRow
section_row base count s = record { title = title_of count s.first.piece; header = header_of base s }

abbrev pub section_rows : ℕ → ℕ → List Section → List HeaderRow
section_rows base count ss = map (section_row base count) ss

-- What section headers say of memory (System V gABI 4, "Sections", sh_flags, sh_addr, sh_offset, sh_size and sh_addralign; 5,
-- "Program Header" and "Program Loading").
use Rattle.std.specs.Prelude.{◌≡◌, ℕ, ◌+◌, ◌%◌, ◌<◌, ◌≤◌, ◌&&◌, Bool, true, false, cond, List, Some, All, AllPairs, Any, filter, slice_index}
use Rattle.elf_model.specs.Image.MemoryImage.{Encloses, loads, memory_of, thread_blocks}
use Rattle.elf_model.specs.Link.Pieces.{is_alloc, is_nobits, is_thread_local, rights_of}
use Rattle.elf_model.specs.declared.records.ProgramHeader.{ProgramHeader}
use Rattle.elf_model.specs.declared.records.SectionHeader.{SectionHeader}

-- a thread-local section without bytes: each thread has its zeros, and memory as the segments make it has no place for them
abbrev pub is_thread_zero : SectionHeader → Bool
is_thread_zero h = is_thread_local h && is_nobits h

-- A section lies whole in a segment that has exactly its rights, as far from the segment's beginning in the file as in memory. Its
-- bytes are in the segment's file part; where it has none it stands behind that.
pub record LiesIn (h : SectionHeader) (g : ProgramHeader) : Type 0 where
  pub memory : Encloses g h.sh_addr h.sh_size
  pub rights : g.p_flags ≡ rights_of h
  pub offset : h.sh_offset + g.p_vaddr ≡ g.p_offset + h.sh_addr
  pub bytes : is_nobits h ≡ false → h.sh_addr + h.sh_size ≤ g.p_vaddr + g.p_filesz
  pub zeros : is_nobits h ≡ true → g.p_vaddr + g.p_filesz ≤ h.sh_addr

-- the byte of a section: that of the file from sh_offset on, and 0 of one without bytes
abbrev pub section_byte : List ℕ → SectionHeader → ℕ → ℕ
section_byte file h k = cond (is_nobits h) 0 (slice_index file (h.sh_offset + k))

-- what memory has of a section, with the section's rights
abbrev pub HoldsSection : List ℕ → SectionHeader → Type 0
HoldsSection file h =
    (k : ℕ) → k < h.sh_size → memory_of file (h.sh_addr + k) ≡ Some (record { byte = section_byte file h k; rights = rights_of h })

-- of two sections that both have, or both haven't, a place in memory, the first ends before the other begins
abbrev pub StandsBefore : SectionHeader → SectionHeader → Type 0
StandsBefore g h = is_thread_zero g ≡ is_thread_zero h → g.sh_addr + g.sh_size ≤ h.sh_addr

-- The headers of a file's sections in memory: none is empty, each lies in one PT_LOAD, or in PT_TLS where memory has no place for
-- it, is aligned, and tells what memory has; and they rise and are apart.
pub record AreMapped (file : List ℕ) (hs : List SectionHeader) : Type 0 where
  pub some : All (λ h. 0 < h.sh_size) hs
  pub aligned : All (λ h. h.sh_addr % h.sh_addralign ≡ 0) hs
  pub lie : All (λ h. is_thread_zero h ≡ false → Any (LiesIn h) (loads file)) hs
  pub threads : All (λ h. is_thread_local h ≡ true → Any (λ g. Encloses g h.sh_addr h.sh_size) (thread_blocks file)) hs
  pub held : All (λ h. is_thread_zero h ≡ false → HoldsSection file h) hs
  pub rising : AllPairs StandsBefore hs

-- those that have the flag ALLOC
abbrev pub in_memory : List SectionHeader → List SectionHeader
in_memory hs = filter is_alloc hs

-- The addresses that a segment maps, as numbers.
use Rattle.std.proofs.Common.{◌≡◌, ℕ, ◌+◌, ◌<◌, ◌≤◌, true, nat_le, nat_lt}
use Rattle.std.proofs.lemmas.Bool.{and_from, and_parts, le-leb, leb-true, lt-ltb, ltb-true}
use Rattle.elf_model.specs.Image.MemoryImage.{maps}
use Rattle.elf_model.specs.declared.records.ProgramHeader.{ProgramHeader}

pub mapped : (h : ProgramHeader) (a : ℕ) → maps h a ≡ true → (h.p_vaddr ≤ a) × (a < h.p_vaddr + h.p_memsz)
mapped h a e =
    let p = and_parts (nat_le h.p_vaddr a) (nat_lt a (h.p_vaddr + h.p_memsz)) e in
    (leb-true h.p_vaddr a p.0, ltb-true a (h.p_vaddr + h.p_memsz) p.1)

pub maps-true : (h : ProgramHeader) (a : ℕ) → h.p_vaddr ≤ a → a < h.p_vaddr + h.p_memsz → maps h a ≡ true
maps-true h a low high =
    and_from (nat_le h.p_vaddr a) (nat_lt a (h.p_vaddr + h.p_memsz)) (le-leb h.p_vaddr a low)
    (lt-ltb a (h.p_vaddr + h.p_memsz) high)

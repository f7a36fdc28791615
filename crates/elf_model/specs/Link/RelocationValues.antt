-- The values of relocations, and whether they fit their fields (AMD64 psABI 4.4, "Relocation Types"; the ranges of all
-- kinds but 32 and 32S are the profile's).
use Rattle.std.specs.Prelude.{ℕ, ◌+◌, ◌-◌, ◌*◌, List, IfSome, All, option_map, unwrap_or}
use Rattle.elf_model.specs.Link.Loading.{LoadedObject}
use Rattle.elf_model.specs.Link.Meaning.{meaning_size, meaning_value}
use Rattle.elf_model.specs.Link.Placement.{Where, got_start, section_address}
use Rattle.elf_model.specs.Link.Relocation.{IsInRange, Relocation, Terms, definition_of, modulo_64, relocation_kind, relocations, whole_value}
use Rattle.elf_model.specs.Link.Slots.{slot_address}
use Rattle.elf_model.specs.Link.ThreadStorage.{block_in, thread_offset}

-- the value of what a relocation uses, 0 of nothing; and the terms
abbrev pub used_value : List LoadedObject → Where → Relocation → ℕ
used_value objects w r = unwrap_or (option_map (meaning_value w) (definition_of objects r.symbol)) 0

abbrev pub terms_of : List LoadedObject → Where → Relocation → Terms
terms_of objects w r = record {
  s = used_value objects w r;
  a = r.entry.r_addend;
  p = section_address w.placed r.object r.section + r.entry.r_offset;
  g = slot_address w.slots r - got_start w.got;
  got = got_start w.got;
  z = unwrap_or (option_map meaning_size (definition_of objects r.symbol)) 0;
  t = thread_offset (block_in w) (used_value objects w r);
}

-- the value of a relocation, 0 for one of no kind
abbrev pub value_of : List LoadedObject → Where → Relocation → ℕ
value_of objects w r =
    unwrap_or (option_map (λ k. modulo_64 (whole_value k.formula (terms_of objects w r))) (relocation_kind r)) 0

abbrev pub Fits : List LoadedObject → Where → Relocation → Type 0
Fits objects w r = IfSome (relocation_kind r) (λ k. IsInRange k.range (8 * k.width) (value_of objects w r))

abbrev pub AllFit : List LoadedObject → Where → Type 0
AllFit objects w = All (Fits objects w) (relocations objects)

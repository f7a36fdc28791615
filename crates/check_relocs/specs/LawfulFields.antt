-- What one relocation asks, by its kind, by what its symbol means, and by the section that it relocates.
use Rattle.std.specs.Prelude.{ℕ, pos, ◌-ℤ◌, ◌≡◌, ◌+◌, ◌*◌, ◌%◌, ◌^◌, ◌≤◌, ◌&&◌, Bool, false, not, codes, List, [], Option, IfSome, IsSome, IsSomeAnd, option_map, unwrap_or}
use Rattle.std.specs.Str.{bytes_eq}
use Rattle.elf_model.specs.Inputs.ObjectFile.{section, section_name, sections}
use Rattle.elf_model.specs.Link.Placement.{section_address}
use Rattle.elf_model.specs.Link.Relocation.{IsInRange, IsMismatch, Kind, Terms, modulo_64, whole_value}
use Rattle.elf_model.specs.declared.records.Rela.{Rela}
use Rattle.check_relocs.specs.Referrers.{object_here}
use Rattle.check_relocs.specs.declared.fields.Field.{Field}
use Rattle.check_relocs.specs.declared.lawful_fields.LinkTerms.{LinkTerms}
use Rattle.check_relocs.specs.declared.lawful_fields.Relocated.{Relocated}
use Rattle.check_relocs.specs.declared.referrer.Referrer.{Referrer}
use Rattle.check_relocs.specs.declared.targets.Target.{Target}

-- a section of an object is .eh_frame
abbrev pub is_frames : List ℕ → ℕ → Bool
is_frames bytes k = bytes_eq (unwrap_or (section_name bytes k) []) (codes ".eh_frame")

-- what entries relocate is what a section of the object is
pub record IsRelocated (r : Referrer) (to : Relocated) : Type 0 where
  pub size : to.size ≡ (section (sections (object_here r).bytes) to.section).sh_size
  pub frames : to.frames ≡ is_frames (object_here r).bytes to.section
  pub address : to.address ≡ section_address r.bindings.now.places.placed r.number to.section

-- entries name a LOCAL symbol of a section that isn't kept, and aren't those of .eh_frame of a dropped one
abbrev pub refers_to_dropped : Target → Relocated → Bool
refers_to_dropped t to = t.unkept && not (t.dropped && to.frames)

-- the terms of an entry's value
abbrev pub terms_with : Target → Relocated → LinkTerms → Rela → Terms
terms_with t to g e = record {
  s = t.value;
  a = e.r_addend;
  p = (to.address + e.r_offset) % 2 ^ 64;
  g = g.slot;
  got = g.got;
  z = t.size;
  t = pos t.value -ℤ pos g.thread_pointer;
}

-- the value of an entry of a kind
abbrev pub value_with : Option Kind → Target → Relocated → LinkTerms → Rela → ℕ
value_with kind t to g e = unwrap_or (option_map (λ k. modulo_64 (whole_value k.formula (terms_with t to g e))) kind) 0

-- an entry of a kind is lawful, and its value fits
pub record IsRightWith (kind : Option Kind) (t : Target) (to : Relocated) (g : LinkTerms) (e : Rela) : Type 0 where
  pub known : IsSome kind
  pub defined : t.undefined ≡ false
  pub kept : refers_to_dropped t to ≡ false
  pub thread : ¬ IsSomeAnd kind (λ k. IsMismatch k.formula t.thread_local)
  pub inside : IfSome kind (λ k. e.r_offset + k.width ≤ to.size)
  pub unmixed : t.mixed ≡ false
  pub fits : IfSome kind (λ k. IsInRange k.range (8 * k.width) (value_with kind t to g e))

-- its field
abbrev pub field_with : Option Kind → Target → Relocated → LinkTerms → Rela → Field
field_with kind t to g e = record {
  section = to.section;
  at = e.r_offset;
  width = unwrap_or (option_map (λ k. k.width) kind) 0;
  value = value_with kind t to g e;
}

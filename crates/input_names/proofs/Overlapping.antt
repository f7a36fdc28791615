-- Two fields of one section share a byte where one begins inside the other.
use Rattle.std.proofs.Common.{◌≡◌, ◌∙◌, ℕ, List, ap, sym, arith}
use Rattle.elf_model.specs.Link.Loading.{LoadedObject}
use Rattle.elf_model.specs.Link.Relocation.{AreFieldsApart, Relocation, width_of}
use Rattle.elf_model.proofs.RelocationFields.{field_has}
use Rattle.input_names.specs.RelocationPlaces.{BeginsIn, IsOverlap, IsRelocationAt}
use Rattle.input_names.specs.declared.relocation_places.RelocationPlace.{RelocationPlace}

object_is : {objects : List LoadedObject} {p : RelocationPlace} {r : Relocation} → IsRelocationAt objects p r → r.object ≡ p.object
object_is at = ap (λ (x : Relocation). x.object) at.relocation

offset_is : {objects : List LoadedObject} {p : RelocationPlace} {r : Relocation} → IsRelocationAt objects p r → r.entry.r_offset ≡ p.entry.r_offset
offset_is at = ap (λ (x : Relocation). x.entry.r_offset) at.relocation

pub not_apart :
    (objects : List LoadedObject) (p q : RelocationPlace) (r t : Relocation) → IsRelocationAt objects p r → IsRelocationAt objects q t →
    BeginsIn p (width_of r) q (width_of t) → ¬ AreFieldsApart r t
not_apart objects p q r t a b begins apart =
    let first = offset_is a in
    let second = offset_is b in
    let from = begins.from in
    let to = begins.to in
    let some = begins.some in
    apart q.object q.section q.entry.r_offset
    (field_has q.object q.section q.entry.r_offset r (object_is a ∙ begins.object) (sym a.told.section ∙ begins.section) (omega (arith, first, from)) (omega (arith, first, to)))
    (field_has q.object q.section q.entry.r_offset t (object_is b) (sym b.told.section) (omega (arith, second)) (omega (arith, second, some)))

-- two places are those of an overlap, where the widths that say so are those of their relocations
pub overlap_of :
    (objects : List LoadedObject) (p q : RelocationPlace) (r t : Relocation) (n m : ℕ) → IsRelocationAt objects p r → IsRelocationAt objects q t →
    n ≡ width_of r → m ≡ width_of t → BeginsIn p n q m → IsOverlap objects p q
overlap_of objects p q r t n m a b wide other begins = record {
  two = begins.two;
  r = r;
  t = t;
  first = a;
  second = b;
  wrong = not_apart objects p q r t a b (rw (sym wide, sym other) begins);
}

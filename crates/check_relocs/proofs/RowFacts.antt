-- What rows of fields have, and the row of an object's right relocations.
use Rattle.std.proofs.Common.{◌≡◌, ℕ, List, Option, Some, None, map, subst, arith}
use Rattle.std.specs.Prelude.{All, IfSome}
use Rattle.std.specs.Global.{Vec}
use Rattle.elf_model.specs.Link.Loading.{LoadedObject}
use Rattle.elf_model.specs.Link.Placement.{Where}
use Rattle.elf_model.specs.Link.Relocation.{relocations_from}
use Rattle.check_relocs.specs.Bytes.{AreRising}
use Rattle.check_relocs.specs.Fields.{AreRows, IsRight, IsRow, IsRowOf, field_of}
use Rattle.check_relocs.specs.declared.fields.Field.{Field}
use Rattle.check_relocs.proofs.WantedFields.{row_inside, some_object}

pub all_rising : (objects : List LoadedObject) (ps : Where) (rows : List (Vec Field)) → AreRows objects ps rows → AreRising rows
all_rising objects ps rows are k d low =
    let count = are.count in
    let o = (some_object objects k (omega (arith, low, count))).0 in
    (are.each k d o low).sorted.rising

-- the fields of an object's right relocations, put in order, are its row
pub row_of_object :
    (objects : List LoadedObject) (ps : Where) (n : ℕ) (b : LoadedObject) (fs : List Field) (o : Option (Vec Field)) →
    fs ≡ map (field_of objects ps) (relocations_from n b) → All (IsRight objects ps) (relocations_from n b) →
    IfSome o (λ v. IsRow fs v.items) → IfSome o (λ v. IsRowOf objects ps n b v.items)
row_of_object objects ps n b fs None same right is = is
row_of_object objects ps n b fs (Some v) same right is =
    let row = subst (λ (gs : List Field). IsRow gs v.items) same is in
    record { sorted = row; inside = row_inside objects ps n b v.items right row.same }

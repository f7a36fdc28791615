-- The fields of an object's relocations against the relocations themselves.
use Rattle.std.proofs.Common.{List, map, arith}
use Rattle.std.specs.Prelude.{All}
use Rattle.std.proofs.lemmas.List.Elements.{All-map, All-weaker}
use Rattle.elf_model.specs.Link.Loading.{LoadedObject}
use Rattle.elf_model.specs.Link.Relocation.{IsLawfulRelocation, Relocation}
use Rattle.elf_model.proofs.RelocationFields.{width_some}
use Rattle.relocate.specs.Fields.{IsSome, field_of}

-- the fields of lawful relocations aren't empty
pub some_fields : (objects : List LoadedObject) (rs : List Relocation) → All (IsLawfulRelocation objects) rs → All IsSome (map field_of rs)
some_fields objects rs each =
    All-map IsSome field_of rs
    (All-weaker (IsLawfulRelocation objects) (λ r. IsSome (field_of r)) (λ r l. let w = (width_some r l.known).0 in omega (arith, w)) rs each)

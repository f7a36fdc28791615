-- The entry of a link by its parts.
use Rattle.std.specs.Prelude.{◌≡◌, ℕ, false, List, Some, IsSomeAnd}
use Rattle.elf_model.specs.Inputs.Records.{file_header}
use Rattle.elf_model.specs.Link.Loading.{LoadedObject}
use Rattle.elf_model.specs.Link.Meaning.{Meaning, meant}
use Rattle.elf_model.specs.Link.Placement.{Placed}
use Rattle.elf_model.specs.Link.Resolution.{SymbolOf, chosen, is_in_thread_section}
use Rattle.judge_model.specs.Certificates.{NameRow}
use Rattle.judge_model.specs.declared.certificate.MergedLine.{MergedLine}
use Rattle.link_fields.specs.Parts.{Parts, value_of}

-- what objects define has a value
pub record HasValue (placed : List Placed) (merged : List MergedLine) (rows : List NameRow) (v : ℕ) (m : Meaning) : Type 0 where
  pub value : value_of placed merged rows m ≡ Some v

-- a chosen symbol means what has a value
pub record IsAt (objects : List LoadedObject) (placed : List Placed) (merged : List MergedLine) (rows : List NameRow) (v : ℕ) (s : SymbolOf) : Type 0 where
  pub at : IsSomeAnd (meant objects s) (HasValue placed merged rows v)

-- and is in no thread-local section
pub record IsOutside (objects : List LoadedObject) (s : SymbolOf) : Type 0 where
  pub outside : is_in_thread_section objects s ≡ false

-- the program is entered at the definition of a name
pub record EntersAt (p : Parts) (name : List ℕ) : Type 0 where
  pub outside : IsSomeAnd (chosen p.objects name) (IsOutside p.objects)
  pub at : IsSomeAnd (chosen p.objects name) (IsAt p.objects p.placed p.merged p.rows (file_header p.image).e_entry)

-- What follows where no segment is found.
use Rattle.std.proofs.Common.{◌≡◌, ℕ, List}
use Rattle.std.specs.Prelude.{All, Any, Some, None}
use Rattle.std.proofs.lemmas.List.Elements.{All-contains}
use Rattle.std.proofs.lemmas.Option.{none-some}
use Rattle.elf_model.specs.Image.MemoryImage.{Encloses}
use Rattle.elf_model.specs.declared.records.ProgramHeader.{ProgramHeader}

-- where no segment is found that encloses a range, none does
pub none_found :
    {P : ProgramHeader → Type 0} (hs : List ProgramHeader) (at size : ℕ) → All (λ g. Encloses g at size → None ≡ Some g) hs →
    ((h : ProgramHeader) → P h → Encloses h at size) → Any P hs → ⊥
none_found hs at size only encloses a =
    none-some a.1
    (All-contains (λ (g : ProgramHeader). Encloses g at size → None ≡ Some g) hs a.1 only (a.0, a.2, a.3) (encloses a.1 a.4))

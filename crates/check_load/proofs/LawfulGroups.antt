-- Groups are lawful where their flags and names are and no two share a section.
use Rattle.std.proofs.Common.{◌↔◌, Bool, Result, Ok, Err, List}
use Rattle.std.specs.Prelude.{AllPairs, IfOk, IsTrue}
use Rattle.std.specs.List.{All}
use Rattle.elf_model.specs.Link.Groups.{AreLawfulGroups, HasKnownFlags, HasNamedSignature, ShareNoSection}
use Rattle.elf_model.specs.Inputs.ObjectFile.{Group}

pub lawful_by : {E : Type 0} (r : Result Bool E) (gs : List Group) → All HasKnownFlags gs → All HasNamedSignature gs → IfOk r (λ b. IsTrue b ↔ AllPairs ShareNoSection gs) →
    IfOk r (λ b. IsTrue b ↔ AreLawfulGroups gs)
lawful_by (Err e) gs known names told = told
lawful_by (Ok b) gs known names told = (
  λ yes. record { named = names; flags = known; apart = told.0 yes },
  λ lawful. told.1 lawful.apart,
)

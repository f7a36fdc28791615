-- Which symbols of an object have names that the linker defines.
use Rattle.std.specs.Prelude.{◌≡◌, ℕ, Bool, false, List, Option}
use Rattle.std.specs.BTreeSet.{BTreeSet}
use Rattle.std.specs.Borrow.{Bor}
use Rattle.std.specs.List.{list_any}
use Rattle.elf_model.specs.Link.Loading.{LoadedObject}
use Rattle.elf_model.specs.Link.Relocation.{relocations, symbol_at}
use Rattle.check_relocs.specs.Known.{AreKnown}
use Rattle.check_relocs.specs.Referrers.{objects_here, symbol_here}
use Rattle.check_relocs.specs.declared.referrer.Referrer.{Referrer}
use Rattle.elf_model.specs.Link.UsedNames.{is_among, is_linker_use, uses_line}

-- a set has the linker's names that kept relocations use and no object defines
abbrev pub AreUsed : List LoadedObject → BTreeSet (Bor (List ℕ)) → Type 0
AreUsed objects names = (n : List ℕ) → is_among names n ≡ list_any (uses_line objects n) (relocations objects)

-- what is known of the symbols of an object is whether they are such
abbrev pub AreUses : Referrer → List (Option Bool) → Type 0
AreUses r us = AreKnown (λ j u. u ≡ is_linker_use (objects_here r) (symbol_here r j)) us

-- no symbol of the object that has a number is such
abbrev pub HaveNoUses : List LoadedObject → ℕ → LoadedObject → Type 0
HaveNoUses objects number o = (j : ℕ) → is_linker_use objects (symbol_at number o j) ≡ false

-- Where a link may enter.
use Rattle.std.specs.Prelude.{◌≡◌, ℕ, false, IsSomeAnd, List, Option}
use Rattle.std.specs.Option.{option_and_then}
use Rattle.elf_model.specs.Link.Loading.{LoadedObject}
use Rattle.elf_model.specs.Link.Meaning.{meaning_value, meant}
use Rattle.elf_model.specs.Link.Placement.{Where}
use Rattle.elf_model.specs.Link.Resolution.{SymbolOf, is_in_thread_section}

-- a definition was found, which stands in no section with SHF_TLS and means something that has a value
abbrev pub Enters : List LoadedObject → Where → ℕ → Option SymbolOf → Type 0
Enters objects w value found =
    IsSomeAnd found (λ s. is_in_thread_section objects s ≡ false)
    × IsSomeAnd (option_and_then (meant objects) found) (λ d. value ≡ meaning_value w d)

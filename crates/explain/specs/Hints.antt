-- What a hint says: a definition of an object that is loaded has a name which is like a wanted one.
use Rattle.std.specs.Prelude.{◌≡◌, ◌≤◌, ℕ, List, false}
use Rattle.elf_model.specs.Inputs.Files.{File}
use Rattle.elf_model.specs.Link.Resolution.{binding, is_undefined}
use Rattle.like_names.specs.Names.{IsLike}
use Rattle.search.specs.Loads.{LoadedPlan}
use Rattle.explain.specs.Places.{IsLoadedAt, IsLoadedBy, IsSymbolOf}
use Rattle.explain.specs.declared.hints.Hint.{Hint}

-- a hint names a symbol of a loaded object that isn't LOCAL and is defined, and how the wanted name is like the symbol's
abbrev pub IsHint : LoadedPlan → Hint → Type 0
IsHint l h =
    IsLoadedAt l.objects h.symbol.object h.object
    (λ o. IsSymbolOf o h.symbol × (1 ≤ binding h.symbol.entry) × (is_undefined h.symbol.entry ≡ false) × IsLike h.wanted.now h.symbol.name.now h.likeness)

-- it is so of what words load from files
abbrev pub IsHintOf : List File → List (List ℕ) → Hint → Type 0
IsHintOf files words h = (l : LoadedPlan) × IsLoadedBy files words l × IsHint l h

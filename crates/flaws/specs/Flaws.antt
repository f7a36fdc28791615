-- The flaws of loaded objects: what refuses their link in a phase (profile), each once, all of them in load order.
use Rattle.std.specs.Prelude.{◌≡◌, ◌⊎◌, ℕ, true, List, [], ◌∷◌, ◌++◌, Some}
use Rattle.std.specs.List.{slice_get}
use Rattle.elf_model.specs.Inputs.ObjectFile.{sections, symbols}
use Rattle.elf_model.specs.Link.Loading.{LoadedObject}
use Rattle.elf_model.specs.Link.Pieces.{AreLawfulKinds, IsLawfulKind, Piece, is_kept, kept_sections}
use Rattle.elf_model.specs.Link.Resolution.{AreSoundCommons, AreSoundSymbols, AreUnique, IsDuplicate, IsSoundCommon, IsSoundSymbol, SymbolOf, all_symbols, is_strong, symbol_of}
use Rattle.elf_model.specs.declared.records.SectionHeader.{SectionHeader}
use Rattle.elf_model.specs.declared.records.Symbol.{Symbol}
use Rattle.flaws.specs.declared.flaw.Flaw.{Flaw}
use Rattle.flaws.specs.declared.flaw.Flaw.TheVariants as flaw

-- a list stays as it is where all is well, and has one flaw more where it isn't
abbrev pub Adds : Type 0 → Type 0 → Flaw → List Flaw → List Flaw → Type 0
Adds Well Wrong f before after = (Well × (after ≡ before)) ⊎ (Wrong × (after ≡ before ++ f ∷ []))

-- what the elements of a list add, one after the other
abbrev pub AreAdded : {A B : Type 0} → (A → B → B → Type 0) → List A → B → B → Type 0
AreAdded Of [] before after = after ≡ before
AreAdded {A} {B} Of (x ∷ xs) before after = (next : B) × Of x before next × AreAdded Of xs next after

-- a kept section of an unlawful kind
abbrev pub AddsSection : Piece → List Flaw → List Flaw → Type 0
AddsSection p = Adds (IsLawfulKind p.header) (¬ IsLawfulKind p.header) (flaw.Section p.object p.section)

-- a symbol that isn't sound as a common one; that isn't sound; a strong definition of a name that has two
abbrev pub AddsCommon : SymbolOf → List Flaw → List Flaw → Type 0
AddsCommon s = Adds (IsSoundCommon s) (¬ IsSoundCommon s) (flaw.Common s.object s.number)

abbrev pub AddsUnsound : List LoadedObject → SymbolOf → List Flaw → List Flaw → Type 0
AddsUnsound objects s = Adds (IsSoundSymbol objects s) (¬ IsSoundSymbol objects s) (flaw.Symbol s.object s.number)

abbrev pub IsTwin : List LoadedObject → SymbolOf → Type 0
IsTwin objects s = (is_strong s ≡ true) × IsDuplicate objects s.name

abbrev pub AddsDefinition : List LoadedObject → SymbolOf → List Flaw → List Flaw → Type 0
AddsDefinition objects s = Adds (¬ IsTwin objects s) (IsTwin objects s) (flaw.Definition s.object s.number)

-- all that is wrong with one symbol
abbrev pub AddsSymbol : List LoadedObject → SymbolOf → List Flaw → List Flaw → Type 0
AddsSymbol objects s before after =
    (common : List Flaw) × (sound : List Flaw)
    × AddsCommon s before common × AddsUnsound objects s common sound × AddsDefinition objects s sound after

-- a flaw is one of some objects: at a kept section of an unlawful kind, or at a symbol of which something wrong stands
pub record IsSectionFlaw (objects : List LoadedObject) (k i : ℕ) : Type 0 where
  pub o : LoadedObject
  pub h : SectionHeader
  pub object : slice_get objects k ≡ Some o
  pub section : slice_get (sections o.bytes) i ≡ Some h
  pub kept : is_kept o i h ≡ true
  pub wrong : ¬ IsLawfulKind h

pub record IsSymbolFlaw (objects : List LoadedObject) (Wrong : SymbolOf → Type 0) (k j : ℕ) : Type 0 where
  pub o : LoadedObject
  pub s : Symbol
  pub object : slice_get objects k ≡ Some o
  pub symbol : slice_get (symbols o.bytes) j ≡ Some s
  pub wrong : Wrong (symbol_of k o j s)

abbrev pub IsFlaw : List LoadedObject → Flaw → Type 0
IsFlaw objects (flaw.Section k i) = IsSectionFlaw objects k i
IsFlaw objects (flaw.Common k j) = IsSymbolFlaw objects (λ s. ¬ IsSoundCommon s) k j
IsFlaw objects (flaw.Symbol k j) = IsSymbolFlaw objects (λ s. ¬ IsSoundSymbol objects s) k j
IsFlaw objects (flaw.Definition k j) = IsSymbolFlaw objects (IsTwin objects) k j

-- the flaws of the phase of resolution: of the kept sections, then of the symbols
abbrev pub AreResolutionFlaws : List LoadedObject → List Flaw → Type 0
AreResolutionFlaws objects flaws =
    (sections : List Flaw)
    × AreAdded AddsSection (kept_sections objects) [] sections
    × AreAdded (AddsSymbol objects) (all_symbols objects) sections flaws

-- nothing in the phase of resolution refuses the link
pub record AreResolvable (objects : List LoadedObject) : Type 0 where
  pub kinds : AreLawfulKinds objects
  pub commons : AreSoundCommons objects
  pub sound : AreSoundSymbols objects
  pub unique : AreUnique objects

-- Fields that share bytes: of each field of an object that shares one with a field before it, in the order of their sections
-- and beginnings, the two.
use Rattle.std.specs.Prelude.{◌≡◌, ◌⊎◌, ◌<◌, ◌≤◌, ℕ, ◌+◌, List, [], ◌∷◌, ◌++◌, All, AllPairs, Contains, IsPermutation, map}
use Rattle.elf_model.specs.Link.Loading.{LoadedObject}
use Rattle.elf_model.specs.Link.Relocation.{width_of}
use Rattle.search.specs.KeptLists.{kept_relas}
use Rattle.flaws.specs.Flaws.{AreAdded}
use Rattle.wrong_references.specs.Entries.{EntryOf, entries_of_relas}
use Rattle.wrong_references.specs.declared.flaw.ReferenceFlaw.{ReferenceFlaw}
use Rattle.wrong_references.specs.declared.flaw.ReferenceFlaw.TheVariants as flaw
use Rattle.wrong_references.specs.declared.overlaps.FieldAt.{FieldAt}

-- the field of an entry: of which section, where it begins, how wide it is
abbrev pub field_at : EntryOf → FieldAt
field_at e = record {
  section = e.relocation.section;
  start = e.relocation.entry.r_offset;
  width = width_of e.relocation;
  entry = record { table = e.table; number = e.number };
}

abbrev pub fields_of : ℕ → LoadedObject → List FieldAt
fields_of k o = map field_at (entries_of_relas k o (kept_relas o))

-- no byte of a section is in both fields of an object
abbrev pub AreApart : FieldAt → FieldAt → Type 0
AreApart f g = f.section ≡ g.section → (n : ℕ) → f.start ≤ n → n < f.start + f.width → g.start ≤ n → n < g.start + g.width → ⊥

-- the second one doesn't begin before the first one
abbrev pub IsBehind : FieldAt → FieldAt → Type 0
IsBehind f g = (f.section ≤ g.section) × (f.section ≡ g.section → f.start ≤ g.start)

-- the fields that came, and the flaws so far
pub record Came : Type 0 where
  pub fields : List FieldAt
  pub flaws : List ReferenceFlaw

abbrev pub came : List FieldAt → List ReferenceFlaw → Came
came fields flaws = record { fields = fields; flaws = flaws }

-- a field of object k comes: where it shares a byte with one that came, it is a flaw, with one of those
abbrev pub AddsField : ℕ → FieldAt → Came → Came → Type 0
AddsField k f before after =
    (after.fields ≡ before.fields ++ f ∷ [])
    × ((All (λ g. AreApart g f) before.fields × (after.flaws ≡ before.flaws))
    ⊎ ((g : FieldAt) × Contains before.fields g × (¬ AreApart g f) × (after.flaws ≡ before.flaws ++ flaw.Overlap k g.entry f.entry ∷ [])))

-- the fields of an object come in the order of their sections and beginnings
abbrev pub AddsOverlaps : ℕ × LoadedObject → List ReferenceFlaw → List ReferenceFlaw → Type 0
AddsOverlaps p before after =
    (order : List FieldAt)
    × IsPermutation (fields_of p.0 p.1) order
    × AllPairs IsBehind order
    × AreAdded (AddsField p.0) order (came [] before) (came order after)

abbrev pub numbered : ℕ → List LoadedObject → List (ℕ × LoadedObject)
numbered k [] = []
numbered k (o ∷ os) = (k, o) ∷ numbered (k + 1) os

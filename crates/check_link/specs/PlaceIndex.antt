-- Addresses of pieces by their sections, and the bounds of their parts and output names.
use Rattle.std.specs.Prelude.{◌≡◌, ◌==◌, ◌&&◌, ℕ, Bool, List, Option, find, option_map}
use Rattle.std.specs.Borrow.{Bor}
use Rattle.std.specs.BTreeMap.{BTreeMap}
use Rattle.std.specs.HashMap.{HashMap, get}
use Rattle.std.specs.declared.hash.BuildHasherDefault.{BuildHasherDefault}
use Rattle.std.specs.declared.hash.FoldHasher.{FoldHasher}
use Rattle.elf_model.specs.Link.Placement.{Placed, is_of_section}
use Rattle.elf_model.specs.declared.link_map.GotLine.{GotLine}
use Rattle.check_link.specs.Outputs.{AreSpans}
use Rattle.check_link.specs.PieceParts.{AreBounds}
use Rattle.check_link.specs.ThreadStorage.{thread_pointer}
use Rattle.check_link.specs.declared.bounds.Bounds.{Bounds}
use Rattle.check_link.specs.declared.bounds.Span.{Span}

-- whether an object's and a section's number are those of others
abbrev pub is_same : ℕ × ℕ → ℕ × ℕ → Bool
is_same a b = a.0 == b.0 && a.1 == b.1

-- a table that finds sections by hash
abbrev pub Addresses : Type 0
Addresses = HashMap (ℕ × ℕ) ℕ (BuildHasherDefault FoldHasher)

-- the address that an index has for a section
abbrev pub address_in : Addresses → ℕ → ℕ → Option ℕ
address_in index object section = get is_same index (object, section)

-- an index has for each section the address of the first piece that is of it
abbrev pub IsPlaceIndex : List Placed → Addresses → Type 0
IsPlaceIndex ps index = (object section : ℕ) → address_in index object section ≡ option_map (λ q. q.at) (find (is_of_section object section) ps)

pub record ArePlaces (ps : List Placed) (got : Option GotLine) (index : Addresses) (bounds : Bounds) (spans : BTreeMap (Bor (List ℕ)) Span) (pointer : ℕ) : Type 0 where
  pub addresses : IsPlaceIndex ps index
  pub bounds_are : AreBounds ps got bounds
  pub spans_are : AreSpans ps spans
  pub pointer_is : pointer ≡ thread_pointer ps

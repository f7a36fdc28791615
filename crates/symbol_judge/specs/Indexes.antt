-- What names mean and where sections are, found by indexes.
use Rattle.std.specs.Prelude.{◌≡◌, ℕ, List, Option, option_map}
use Rattle.std.specs.Borrow.{Bor}
use Rattle.std.specs.BTreeMap.{BTreeMap}
use Rattle.std.specs.Option.{option_and_then}
use Rattle.elf_model.specs.Link.Meaning.{Meaning}
use Rattle.elf_model.specs.Link.Placement.{Placed}
use Rattle.check_link.specs.ByName.{found_in}
use Rattle.check_link.specs.PlaceIndex.{Addresses, address_in}
use Rattle.judge_model.specs.Certificates.{NameRow, value_of_name}
use Rattle.link_fields.specs.Parts.{Parts, object_or_linker, value_of}
use Rattle.symbol_judge.specs.Wanted.{block_start, size_of_section, wanted_of}
use Rattle.symbol_judge.specs.declared.wanted.Wanted.{Wanted}

-- an index has for each section the size of the first piece that is of it, and for each name the value of its first row
abbrev pub IsSizeIndex : List Placed → Addresses → Type 0
IsSizeIndex placed table = (object section : ℕ) → address_in table object section ≡ size_of_section placed object section

abbrev pub IsValueIndex : List NameRow → BTreeMap (Bor (List ℕ)) ℕ → Type 0
IsValueIndex rows table = (name : List ℕ) → found_in table name ≡ value_of_name rows name

pub record AreIndexed (placed : List Placed) (rows : List NameRow) (sizes : Addresses) (values : BTreeMap (Bor (List ℕ)) ℕ) (start : ℕ) : Type 0 where
  pub sizes_are : IsSizeIndex placed sizes
  pub values_are : IsValueIndex rows values
  pub start_is : start ≡ block_start placed

-- what the entry of a name has to be that objects or the linker define; None where it has no value, or is not defined
abbrev pub wanted_at : Parts → Meaning → Option Wanted
wanted_at p m = option_map (wanted_of p.objects p.placed m) (value_of p.placed p.merged p.rows m)

abbrev pub wanted_by : Parts → List ℕ → Option Wanted
wanted_by p name = option_and_then (wanted_at p) (object_or_linker p.objects p.pieces name)

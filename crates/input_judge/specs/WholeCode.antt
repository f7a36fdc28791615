-- Symbols inside instructions, by numbers of where they are defined.
use Rattle.std.specs.Prelude.{◌≡◌, ◌*◌, ◌+◌, ◌<◌, ◌==◌, ◌^◌, ℕ, List, [], ◌∷◌, All, IsPermutation, cond, not, true}
use Rattle.std.specs.List.{flat_map}
use Rattle.elf_model.specs.Inputs.ObjectFile.{symbols}
use Rattle.elf_model.specs.Link.Loading.{LoadedObject}
use Rattle.elf_model.specs.Link.Relocation.{Relocation}
use Rattle.elf_model.specs.declared.link_map.DropLine.{DropLine}
use Rattle.elf_model.specs.declared.records.Symbol.{Symbol}
use Rattle.judge_model.specs.Certificates.{is_left_out}
use Rattle.judge_model.specs.Fields.{IsWholeInstruction}
use Rattle.input_judge.specs.declared.whole_code.Point.{Point}

-- the number of a value in a section
abbrev pub key_of : ℕ → ℕ → ℕ
key_of section value = section * 2 ^ 64 + value

-- where a symbol is defined, unless that is where a section begins
abbrev pub point_of : Symbol → Point
point_of s = record { key = key_of s.st_shndx s.st_value }

abbrev pub points_of : Symbol → List Point
points_of s = cond (s.st_value == 0) [] (point_of s ∷ [])

-- a symbol's value has 64 bits
abbrev pub IsShort : Symbol → Type 0
IsShort s = s.st_value < 2 ^ 64

-- points are where the symbols of an object are defined, in any order
pub record ArePoints (o : LoadedObject) (points : List Point) : Type 0 where
  pub same : IsPermutation (flat_map points_of (symbols o.bytes)) points
  pub short : All IsShort (symbols o.bytes)

-- a number is between two
abbrev pub IsBetween : ℕ → ℕ → Point → Type 0
IsBetween low high p = (low < p.key) × (p.key < high)

-- the instruction of a relocation is whole, or its section is left out
pub record IsWholeUnlessOut (objects : List LoadedObject) (drops : List DropLine) (r : Relocation) : Type 0 where
  pub whole : not (is_left_out drops r.object r.section) ≡ true → IsWholeInstruction objects r

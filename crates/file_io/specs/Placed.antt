-- What is told of bytes that are read from places on, and of an archive of which some were read.
use Rattle.std.specs.Prelude.{◌≡◌, ◌<◌, ◌+◌, ◌^◌, ℕ, List, ◌++◌, Option, None, Some, IfSome, drop, length, map, take}
use Rattle.std.specs.List.{AllZip, concat}
use Rattle.byteview.specs.Numbers.{IsInside, part}
use Rattle.ar_index.specs.Parts.{AreReadOf, Completes, Part, part_bytes, part_text}

-- bytes are those at a place, where the file tells its own
abbrev pub IsToldAt : Option (List ℕ) → ℕ → ℕ → List ℕ → Type 0
IsToldAt None at count bytes = Unit {0}
IsToldAt (Some file) at count bytes = IsInside file at count × (bytes ≡ part file at count)

-- a member was read at a place of a file, and the next one begins at another
pub record IsReadAt (file : List ℕ) (p : Part) (at next : ℕ) : Type 0 where
  pub member : Part
  pub completes : Completes p member
  pub here : drop at file ≡ part_text member ++ drop next file

-- members were read of a file, up to a place
pub record AreReadUpTo (file : List ℕ) (ps : List Part) (at : ℕ) : Type 0 where
  pub members : List Part
  pub each : AllZip Completes ps members
  pub here : file ≡ part_bytes members ++ drop at file

-- the same of a file that may be told, and is as long as it is said to be
abbrev pub IsToldMember : Option (List ℕ) → ℕ → Part → ℕ → ℕ → Type 0
IsToldMember told len p at next = IfSome told (λ file. length file ≡ len → IsReadAt file p at next)

abbrev pub AreToldUpTo : Option (List ℕ) → ℕ → List Part → ℕ → Type 0
AreToldUpTo told len ps at = IfSome told (λ file. length file ≡ len → AreReadUpTo file ps at)

abbrev pub AreTold : Option (List ℕ) → ℕ → List Part → Type 0
AreTold told len ps = IfSome told (λ file. length file ≡ len → AreReadOf ps file)

-- where a member's header is in the file of some
abbrev pub place_of : List Part → ℕ → ℕ
place_of ps i = 8 + length (concat (map part_text (take i ps)))

-- members were read of a file, and the header of member i is at a place
pub record ArePassed (file : List ℕ) (ps : List Part) (i at : ℕ) : Type 0 where
  pub read : AreReadOf ps file
  pub place : at ≡ place_of read.members i

-- the same of a file that may be told, where some members were read of it, and its length is one of the machine
abbrev pub AreToldPassed : Option (List ℕ) → List Part → List Part → ℕ → ℕ → Type 0
AreToldPassed told first ps i at =
    (file : List ℕ) → told ≡ Some file → length file < 2 ^ 64 → AreReadOf first file → ArePassed file ps i at

-- Output names whose kept sections are of several output sections, as they are found.
use Rattle.std.specs.Prelude.{◌↔◌, ℕ, ◌&&◌, ◌||◌, Bool, false, List, [], ◌∷◌, IsTrue}
use Rattle.std.specs.BTreeSet.{BTreeSet}
use Rattle.std.specs.Borrow.{Bor}
use Rattle.std.specs.Str.{bytes_eq}
use Rattle.elf_model.specs.Link.Loading.{LoadedObject}
use Rattle.elf_model.specs.Link.Pieces.{AreOneOutput}
use Rattle.elf_model.specs.Link.UsedNames.{is_among}
use Rattle.resolve.specs.OutputSections.{Output}

-- a name comes twice among output sections, or once where it was seen before
abbrev pub is_twice_from : List ℕ → Bool → List Output → Bool
is_twice_from n seen [] = false
is_twice_from n seen (o ∷ os) = (bytes_eq o.name n && seen) || is_twice_from n (bytes_eq o.name n || seen) os

-- a set has the output names alone whose kept sections are of several output sections
pub record AreMixed (objects : List LoadedObject) (names : BTreeSet (Bor (List ℕ))) : Type 0 where
  pub each : (name : List ℕ) → IsTrue (is_among names name) ↔ (¬ AreOneOutput objects name)

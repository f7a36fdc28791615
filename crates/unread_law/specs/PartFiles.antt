-- Files of which some were read in part, and the files of which they were read.
use Rattle.std.specs.Prelude.{◌≡◌, ℕ, List, ◌++◌, Ok}
use Rattle.std.specs.List.{AllZip}
use Rattle.ar_index.specs.Parts.{AreReadOf, PartialFile}
use Rattle.elf_model.specs.Inputs.Command.{Plan, command_of}
use Rattle.elf_model.specs.Inputs.Files.{File}
use Rattle.elf_model.specs.Image.RightLink.{IsRightLink}
use Rattle.opening.specs.Held.{AreSearched, HeldFiles, all_files}

-- a file was read in part of another
abbrev pub IsFileOf : PartialFile → File → Type 0
IsFileOf p f = (p.name ≡ f.name) × AreReadOf p.members f.bytes

-- files are those of which some were read in part; the others are as they are
pub record AreFilesOf (h : HeldFiles) (files : List File) : Type 0 where
  pub whole : List File
  pub each : AllZip IsFileOf h.parts whole
  pub all : files ≡ whole ++ h.wholes

-- where only archives that are searched were read in part, a right link with zeros for what wasn't read is one of the files
abbrev pub PartsAreEnough : Type 0
PartsAreEnough =
    (h : HeldFiles) (files : List File) (words : List (List ℕ)) (image map_text : List ℕ) (plan : Plan)
    → command_of words ≡ Ok plan → AreSearched h.parts plan → AreFilesOf h files
    → IsRightLink (all_files h) words image map_text → IsRightLink files words image map_text

-- What words say is what the profile can say: names and paths aren't empty, and no path of a file begins as an option does.
use Rattle.std.specs.Prelude.{◌≢◌, ℕ, List, [], ◌++◌, codes}
use Rattle.elf_model.specs.Inputs.Command.{Base, Check, Directory, Entry, GroupEnd, GroupStart, Input, Library, MapFile, NoEffect, Output, Path, Phrase, Strip, Undefined, WholeEnd, WholeStart}
use Rattle.judge_model.specs.Words.{Profile, Says}

abbrev pub IsSoundPhrase : Phrase → Type 0
IsSoundPhrase (Output v) = v ≢ []
IsSoundPhrase (Entry v) = v ≢ []
IsSoundPhrase (Undefined v) = v ≢ []
IsSoundPhrase (Directory v) = v ≢ []
IsSoundPhrase (Input (Library v)) = v ≢ []
IsSoundPhrase (Input (Path v)) = (v ≢ []) × ((w : List ℕ) → v ≢ codes "-" ++ w)
IsSoundPhrase (MapFile v) = ⊥
IsSoundPhrase (Base n) = ⊥
IsSoundPhrase Check = ⊥
IsSoundPhrase NoEffect = ⊥
IsSoundPhrase GroupStart = Unit {0}
IsSoundPhrase GroupEnd = Unit {0}
IsSoundPhrase WholeStart = Unit {0}
IsSoundPhrase WholeEnd = Unit {0}
IsSoundPhrase Strip = Unit {0}

abbrev pub IsSound : Says → Type 0
IsSound (Profile p) = IsSoundPhrase p
IsSound _ = Unit {0}

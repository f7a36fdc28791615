-- The profile's part of what words say as words of the profile, and what may stand where.
use Rattle.std.specs.Prelude.{◌&&◌, ◌||◌, Bool, true, false, not, List, [], ◌∷◌, ℕ, codes}
use Rattle.std.specs.List.{flat_map, list_any}
use Rattle.elf_model.specs.Inputs.Command.{Directory, Entry, GroupEnd, GroupStart, Input, Library, Output, Path, Phrase, Strip, Undefined, WholeEnd, WholeStart, is_archive}
use Rattle.judge_model.specs.Words.{Profile, Says}

abbrev pub phrase_words : Phrase → List (List ℕ)
phrase_words (Output v) = codes "-o" ∷ v ∷ []
phrase_words (Entry v) = codes "-e" ∷ v ∷ []
phrase_words (Undefined v) = codes "-u" ∷ v ∷ []
phrase_words (Directory v) = codes "-L" ∷ v ∷ []
phrase_words (Input (Library v)) = codes "-l" ∷ v ∷ []
phrase_words (Input (Path v)) = v ∷ []
phrase_words GroupStart = codes "-(" ∷ []
phrase_words GroupEnd = codes "-)" ∷ []
phrase_words WholeStart = codes "--whole-archive" ∷ []
phrase_words WholeEnd = codes "--no-whole-archive" ∷ []
phrase_words Strip = codes "-s" ∷ []
phrase_words _ = []

abbrev pub words_for : Says → List (List ℕ)
words_for (Profile p) = phrase_words p
words_for _ = []

abbrev pub spelling : List Says → List (List ℕ)
spelling ss = flat_map words_for ss

-- what may stand where a group is open or isn't, and whether one is open then
abbrev pub may_stand : Bool → Says → Bool
may_stand open_group (Profile GroupStart) = not open_group
may_stand open_group (Profile GroupEnd) = open_group
may_stand open_group (Profile (Input source)) = not open_group || is_archive source
may_stand open_group _ = true

abbrev pub is_open_after : Bool → Says → Bool
is_open_after open_group (Profile GroupStart) = true
is_open_after open_group (Profile GroupEnd) = false
is_open_after open_group _ = open_group

-- each may stand where it does, and no group is open at the end
abbrev pub are_grouped : Bool → List Says → Bool
are_grouped open_group [] = not open_group
are_grouped open_group (s ∷ ss) = may_stand open_group s && are_grouped (is_open_after open_group s) ss

-- there is something to link
abbrev pub is_item : Says → Bool
is_item (Profile (Input source)) = true
is_item _ = false

abbrev pub has_item : List Says → Bool
has_item ss = list_any is_item ss

abbrev pub is_command : List Says → Bool
is_command ss = are_grouped false ss && has_item ss

-- What the check of an image for tools comes to.
use Rattle.std.specs.Prelude.{◌≡◌, ◌≢◌, ◌≤◌, ◌⊎◌, ℕ, Bool, true, false, List, Option, None, Some, length, take}
use Rattle.std.specs.List.{slice_get}
use Rattle.std.specs.Io.KnownBytes.{Appends}
use Rattle.elf_model.specs.Inputs.Files.{File}
use Rattle.elf_model.specs.Inputs.Records.{file_header}
use Rattle.elf_model.specs.Image.RightLink.{IsRightLink, Least}
use Rattle.elf_model.specs.Own.Causes.{Cause}
use Rattle.elf_model.specs.declared.faults.LinkError.{LinkError}
use Rattle.elf_model.specs.declared.faults.LinkError.TheVariants as error
use Rattle.image_write.specs.Linkages.{Linked}
use Rattle.image_write.specs.Listings.{IsListing}
use Rattle.linker.specs.Linkages.{HasOwnLink, IsPrepared}
use Rattle.resolve.specs.Views.{meaning_views}
use Rattle.resolve.specs.declared.definition.Definition as code
use Rattle.debug_image.specs.DebugImage.{CanBeSaid, debug_file}
use Rattle.debug_image.specs.PlainImages.{plain_of}
use Rattle.debug_image.specs.declared.debug_file.Wanted.{Wanted}
use Rattle.debug_main.specs.Lines.{verdict_text}
use Rattle.debug_main.specs.declared.verdict.DebugVerdict.{DebugVerdict}
use Rattle.debug_main.specs.declared.verdict.DebugVerdict.TheVariants as verdict
use Rattle.debug_main.specs.declared.verdict.Difference.{Difference}

-- the status of a verdict
abbrev pub verdict_status : DebugVerdict → ℕ
verdict_status verdict.Yes = 0
verdict_status _ = 1

-- the status of a run: of a link, or of a check with a verdict
abbrev pub answer_status : Option DebugVerdict → ℕ
answer_status None = 0
answer_status (Some v) = verdict_status v

-- A file is the image for tools of the link of files by words: of the plan of the words and of what it loads, by the linker's own layout, of
-- all names that have a line in the map, in their order, where its numbers can be said. There is at most one.
pub record IsToolImage (files : List File) (words : List (List ℕ)) (w : Wanted) (bytes : List ℕ) : Type 0 where
  pub link : Linked
  pub names : List code.Definition
  pub prepared : IsPrepared files words link
  pub own : HasOwnLink files words link
  pub listing : IsListing link.objects names
  pub said : CanBeSaid w link (meaning_views names)
  pub is : bytes ≡ debug_file w link (meaning_views names)

-- an image is at a first byte another one than what is wanted: up to there both are alike
pub record IsDifference (image wanted : List ℕ) (d : Difference) : Type 0 where
  pub alike : take d.offset image ≡ take d.offset wanted
  pub there : d.there ≡ slice_get image d.offset
  pub wanted_is : d.wanted ≡ slice_get wanted d.offset
  pub differs : d.there ≢ d.wanted

-- what was compared tells: the place is behind the bytes that are alike, with what is there and what was wanted
pub record IsFirstWrong (image : List ℕ) (same : ℕ) (wrong : Option ℕ) (d : Difference) : Type 0 where
  pub at : d.offset ≡ same
  pub there : d.there ≡ slice_get image same
  pub wanted_is : d.wanted ≡ wrong
  pub some : (d.there ≡ None) × (d.wanted ≡ None) → ⊥

-- an image is what is wanted, or the first byte that isn't is told
abbrev pub Compares : List ℕ → List ℕ → Option Difference → Type 0
Compares image wanted None = image ≡ wanted
Compares image wanted (Some d) = IsDifference image wanted d

-- an image has no more sections than one that has a symbol table and none for tools
abbrev pub LacksSections : List ℕ → Type 0
LacksSections image = 64 ≤ length image → (file_header image).e_shnum ≤ 4

-- an error is for want of memory
abbrev pub is_memory : LinkError → Bool
is_memory error.Memory = true
is_memory _ = false

-- the link is refused, for another reason than memory
pub record IsRefused (files : List File) (words : List (List ℕ)) : Type 0 where
  pub error : LinkError
  pub cause : Cause files words error
  pub other : is_memory error ≡ false

-- the numbers of the image for tools of the link of files by words can't be said
pub record IsTooLarge (files : List File) (words : List (List ℕ)) (w : Wanted) : Type 0 where
  pub link : Linked
  pub names : List code.Definition
  pub prepared : IsPrepared files words link
  pub listing : IsListing link.objects names
  pub large : ¬ CanBeSaid w link (meaning_views names)

-- an image isn't the one for tools, and is at a first byte another one
pub record IsOther (files : List File) (words : List (List ℕ)) (w : Wanted) (image : List ℕ) (d : Difference) : Type 0 where
  pub wanted : List ℕ
  pub one : IsToolImage files words w wanted
  pub difference : IsDifference image wanted d
  pub none : ¬ IsToolImage files words w image

-- the image isn't the one for tools: it differs from that, and may lack sections for tools; or there is none
abbrev pub IsNone : List File → List (List ℕ) → Wanted → List ℕ → Option Difference → Type 0
IsNone files words w image None =
    (LacksSections image × (d : Difference) × IsOther files words w image d) ⊎ (IsRefused files words ⊎ IsTooLarge files words w)
IsNone files words w image (Some d) = IsOther files words w image d

-- what a verdict says of an image and the text of a map
abbrev pub Says : List File → List (List ℕ) → Wanted → List ℕ → List ℕ → DebugVerdict → Type 0
Says files words w image text verdict.Yes = IsRightLink files words (plain_of image) text × IsToolImage files words w image
Says files words w image text (verdict.No c) = Least c files words (plain_of image) text
Says files words w image text (verdict.NoTables d) = IsRightLink files words (plain_of image) text × IsNone files words w image d

-- the same of an image and a text that were read
abbrev pub SaysSome : List File → List (List ℕ) → Wanted → DebugVerdict → Type 0
SaysSome files words w v = (image : List ℕ) × (text : List ℕ) × Says files words w image text v

-- what a verdict says of the part for tools alone
abbrev pub TellsTables : List File → List (List ℕ) → Wanted → List ℕ → DebugVerdict → Type 0
TellsTables files words w image verdict.Yes = IsToolImage files words w image
TellsTables files words w image (verdict.No c) = ⊥
TellsTables files words w image (verdict.NoTables d) = IsNone files words w image d

-- what is printed of a check of files, an image and a text by words, with a status
abbrev pub Prints : List (List ℕ) → Wanted → ℕ → Option (List ℕ) → Option (List ℕ) → Type 0
Prints words w status old new =
    (files : List File) × (v : DebugVerdict) × SaysSome files words w v × (status ≡ verdict_status v) × Appends old new (verdict_text v)

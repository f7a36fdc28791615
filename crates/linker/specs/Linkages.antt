-- What a prepared link is of, and what it keeps.
use Rattle.std.specs.Prelude.{◌≡◌, ℕ, ◌^◌, ◌<◌, Bool, false, true, List, Option, None, Some, map}
use Rattle.std.specs.Borrow.{Bor}
use Rattle.std.specs.Global.{Vec}
use Rattle.std.specs.Io.KnownBytes.{Appends}
use Rattle.elf_model.specs.Own.Causes.{IsLinkable}
use Rattle.elf_model.specs.Inputs.Command.{IsBase}
use Rattle.elf_model.specs.Inputs.Files.{File}
use Rattle.elf_model.specs.Own.ImageFile.{IsOwnMap, own_entry}
use Rattle.elf_model.specs.Link.Listing.{AreListed}
use Rattle.elf_model.specs.Link.Loading.{LoadedObject, loaded_objects}
use Rattle.elf_model.specs.Image.MapRecord.{MapRecord}
use Rattle.elf_model.specs.Image.MapText.{Ascends, IsMap, SymbolBefore}
use Rattle.elf_model.specs.Image.MapText as map_text
use Rattle.elf_model.specs.Own.OwnLayout.{own_where}
use Rattle.elf_model.specs.Image.RightLink.{IsRightLink, symbol_row_of}
use Rattle.elf_model.specs.declared.bound.Bound.{Bound}
use Rattle.image_write.specs.Linkages.{Linked, own_image}
use Rattle.image_write.specs.Listings.{IsListing}
use Rattle.image_write.specs.Tables.{IsTableOf}
use Rattle.image_write.specs.declared.listed.Listed.{Listed}
use Rattle.image_write.specs.declared.listed.Listed.TheVariants as kept
use Rattle.image_write.specs.declared.symbol_table.SymbolTable.{SymbolTable}
use Rattle.resolve.specs.Views.{meaning_views}
use Rattle.resolve.specs.declared.definition.Definition as code

-- a link of files by words, none of whose phases has a fault; where the image has a symbol table, its list has what names mean
-- that have a line in the map, once each, in the order of the names
pub record IsPrepared (files : List File) (words : List (List ℕ)) (l : Linked) : Type 0 where
  pub objects : l.objects ≡ loaded_objects files l.plan
  pub linkable : IsLinkable files words l.plan
  pub base : IsBase l.plan.base
  pub listed : l.plan.strip ≡ false → AreListed l.objects l.listed
  pub rising : l.plan.strip ≡ false → Ascends SymbolBefore (map (symbol_row_of (own_where l.plan.base l.objects)) l.listed)
  pub entry_fits : own_entry l.plan.base l.objects l.plan.entry < 2 ^ 64

-- with that image, each own map that has a text is a right link of files by words
abbrev pub AreOwnMapsRight : List File → List (List ℕ) → Linked → Type 0
AreOwnMapsRight files words l =
    (m : MapRecord) → IsOwnMap l.plan.base l.objects l.plan.strip m → IsMap m → IsRightLink files words (own_image l) (map_text.text m)

-- the text of a link's own map
pub record IsOwnText (l : Linked) (text : List ℕ) : Type 0 where
  pub record_of : MapRecord
  pub own_map : IsOwnMap l.plan.base l.objects l.plan.strip record_of
  pub is_map : IsMap record_of
  pub spelled : text ≡ map_text.text record_of

-- the text of a link's own map was put behind what is told
abbrev pub PutsOwnText : Linked → Option (List ℕ) → Option (List ℕ) → Type 0
PutsOwnText l old new = (text : List ℕ) × IsOwnText l text × Appends old new text

-- the text of a link's own map, which with the link's own image is a right link of files by words
pub record HasOwnLink (files : List File) (words : List (List ℕ)) (l : Linked) : Type 0 where
  pub text : List ℕ
  pub own_text : IsOwnText l text
  pub right : IsRightLink files words (own_image l) text

-- the definitions that have a line, listed with their symbol table, unless the words ask for none
abbrev pub HasTabled : List LoadedObject → ℕ → Bool → Option (Vec code.Definition × SymbolTable) → Type 0
HasTabled objects e true None = Unit {0}
HasTabled objects e true (Some r) = ⊥
HasTabled objects e false None = ⊥
HasTabled objects e false (Some r) = IsListing objects r.0.items × IsTableOf objects e (meaning_views r.0.items) r.1

-- what is kept of the definitions that have a line
abbrev pub kept_of : List LoadedObject → Vec (Bor (List ℕ) × Bound) → Option (Vec code.Definition × SymbolTable) → Listed
kept_of objects lines None = kept.Unlisted objects lines
kept_of objects lines (Some r) = kept.InOrder r.0 r.1

-- The numbers of headers and symbols of an image for tools fit their fields, and no name has a NUL.
use Rattle.std.proofs.Common.{ℕ, ◌+◌, ◌*◌, ◌^◌, ◌<◌, ◌≤◌, List, [], arith, length}
use Rattle.std.specs.Prelude.{All, Bool, cond, false, true}
use Rattle.std.proofs.lemmas.List.Elements.{All-append, All-nil, All-weaker}
use Rattle.elf_model.specs.Inputs.Records.{FitsSectionHeader, FitsSymbol}
use Rattle.elf_model.specs.Link.Listing.{AreListed}
use Rattle.elf_model.specs.Link.Loading.{LoadedObject}
use Rattle.elf_model.specs.Link.Meaning.{Meaning}
use Rattle.image_write.specs.Linkages.{Linked}
use Rattle.debug_image.specs.DebugImage.{CanBeSaid, data_end_in, end_in, joined_in, laid_of, locals_of, rows_of, sections_in, tables_in}
use Rattle.debug_image.specs.DebugSections.{AreLow, debug_rows, joined_of, joined_rows}
use Rattle.debug_image.specs.Sections.{section_rows}
use Rattle.debug_image.specs.Symbols.{Laid, local_rows, meaning_rows}
use Rattle.debug_image.specs.Tables.{Tables, header_rows, headers_at}
use Rattle.debug_image.specs.declared.debug_file.Wanted.{Wanted}
use Rattle.debug_law.specs.ReadImages.{IsLaidOut}
use Rattle.debug_law.proofs.ObjectFields.{IsText}
use Rattle.debug_law.proofs.SectionFields.{IsSaidHeader, IsSaidJoined, all_joined_said, data_end_low, joined_rows_said, offset_low, sections_said, tables_said}
use Rattle.debug_law.proofs.SymbolFields.{IsSaidRow, locals_said, meaning_rows_said}

pub record AreWritten (w : Wanted) (l : Linked) (ms : List Meaning) : Type 0 where
  pub offset : headers_at (data_end_in w l) (tables_in w l ms) < 2 ^ 64
  pub headers : All (λ r. FitsSectionHeader r.header) (header_rows (data_end_in w l) (tables_in w l ms))
  pub titles : All (λ r. IsText r.title) (header_rows (data_end_in w l) (tables_in w l ms))
  pub symbols : All (λ r. FitsSymbol r.entry) (rows_of w.locals (laid_of l.plan.base l.objects) ms)
  pub names : All (λ r. IsText r.name) (rows_of w.locals (laid_of l.plan.base l.objects) ms)

-- debug data and LOCAL symbols, where they are wanted
joined_by : (wanted : Bool) (objects : List LoadedObject) → AreLow (cond wanted (debug_rows objects) []) → All IsSaidJoined (cond wanted (joined_of objects) [])
joined_by true objects low = all_joined_said objects low
joined_by false objects low = All-nil IsSaidJoined

locals_by : (wanted : Bool) (l : Laid) → All IsSaidRow (local_rows l) → All IsSaidRow (cond wanted (local_rows l) [])
locals_by true l said = said
locals_by false l said = All-nil IsSaidRow

module _ (w : Wanted) (l : Linked) (ms : List Meaning) (laid : IsLaidOut l) (listed : AreListed l.objects ms) (said : CanBeSaid w l ms) where
  abbrev t : Tables
  t = tables_in w l ms

  abbrev x : ℕ
  x = data_end_in w l

  abbrev own_laid : Laid
  own_laid = laid_of l.plan.base l.objects

  joined : All IsSaidJoined (joined_in w l.objects)
  joined = joined_by w.debug l.objects said.few.low

  few : length (joined_in w l.objects) ≤ 256
  few = said.few.few

  end_low : end_in l + 2 ^ 41 * length (joined_in w l.objects) ≤ 2 ^ 60
  end_low = let file = laid.not_too_large.file in omega (arith, file, few)

  low : x ≤ 2 ^ 60
  low = let end = data_end_low (end_in l) (joined_in w l.objects) joined in omega (arith, end, end_low)

  sections : All IsSaidHeader t.sections
  sections =
      All-append IsSaidHeader (section_rows l.plan.base (length l.objects) (sections_in l.plan.base l.objects)) (joined_rows (end_in l) (joined_in w l.objects))
      (sections_said l.plan.base l.objects laid.kinds laid.not_too_large laid.objects laid.bytes)
      (joined_rows_said (end_in l) (joined_in w l.objects) joined end_low)

  all_headers : All IsSaidHeader (header_rows x t)
  all_headers = tables_said x t low said.small sections

  rows : All IsSaidRow (rows_of w.locals own_laid ms)
  rows =
      All-append IsSaidRow (locals_of w.locals own_laid) (meaning_rows own_laid ms)
      (locals_by w.locals own_laid (locals_said own_laid laid.kinds laid.not_too_large laid.bytes))
      (meaning_rows_said own_laid laid.kinds laid.not_too_large laid.bytes ms listed)

  pub are_written : AreWritten w l ms
  are_written = record {
    offset = offset_low x t low said.small;
    headers = All-weaker IsSaidHeader (λ r. FitsSectionHeader r.header) (λ r is. is.fits) (header_rows x t) all_headers;
    titles = All-weaker IsSaidHeader (λ r. IsText r.title) (λ r is. is.name) (header_rows x t) all_headers;
    symbols = All-weaker IsSaidRow (λ r. FitsSymbol r.entry) (λ r is. is.fits) (rows_of w.locals own_laid ms) rows;
    names = All-weaker IsSaidRow (λ r. IsText r.name) (λ r is. is.name) (rows_of w.locals own_laid ms) rows;
  }

-- The definitions that have a line, sorted by their names: no two neighbours have one name.
use Rattle.std.proofs.Common.{◌≡◌, ◌∙◌, ◌+◌, List, get_or, ap, sym, arith}
use Rattle.std.proofs.lemmas.List.{get_or-map, length-map}
use Rattle.std.proofs.lemmas.Slice.Eq.{bytes_eq-Decides}
use Rattle.elf_model.specs.Link.Listing.{AreListed, has_meaning}
use Rattle.elf_model.specs.Link.Loading.{LoadedObject}
use Rattle.elf_model.specs.Link.Meaning.{meaning_name}
use Rattle.elf_model.proofs.RisingNames.{neighbours_count}
use Rattle.resolve.specs.Views.{meaning_view, meaning_views}
use Rattle.resolve.specs.declared.definition.Definition as code
use Rattle.image_write.specs.Listings.{HasNoTwins}

module _ (objects : List LoadedObject) (sorted : List code.Definition) (are : AreListed objects (meaning_views sorted)) where
  pub no_twins : HasNoTwins sorted
  no_twins k d within same =
      let n = meaning_name (meaning_view (get_or sorted k d)) in
      let len = length-map sorted meaning_view in
      let here : meaning_name (get_or (meaning_views sorted) k (meaning_view d)) ≡ n =
      ap meaning_name (get_or-map meaning_view sorted k d (meaning_view d) (omega (arith, within))) in
      let next : meaning_name (get_or (meaning_views sorted) (k + 1) (meaning_view d)) ≡ n =
      ap meaning_name (get_or-map meaning_view sorted (k + 1) d (meaning_view d) within) ∙ sym same in
      let two =
      neighbours_count (has_meaning n) (meaning_views sorted) k (meaning_view d) (omega (arith, within, len))
      ((bytes_eq-Decides (meaning_name (get_or (meaning_views sorted) k (meaning_view d))) n).1 here)
      ((bytes_eq-Decides (meaning_name (get_or (meaning_views sorted) (k + 1) (meaning_view d))) n).1 next) in
      let u = are.once n in
      omega (arith, two, u)

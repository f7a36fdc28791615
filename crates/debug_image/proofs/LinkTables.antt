-- The tables of a link are those of its sections and of its symbols.
use Rattle.std.proofs.Common.{◌≡◌, ◌≤◌, ◌+◌, ◌∙◌, ℕ, Bool, List, ap, arith, length, sym}
use Rattle.std.proofs.lemmas.List.{length-map}
use Rattle.elf_model.specs.Own.ImageFile.{own_end}
use Rattle.elf_model.specs.Link.Loading.{LoadedObject}
use Rattle.elf_model.specs.Link.Meaning.{Meaning}
use Rattle.debug_image.specs.DebugImage.{laid_of, locals_of, rows_of, sections_in, tables_from, tables_with}
use Rattle.debug_image.specs.DebugSections.{Joined, most_names}
use Rattle.debug_image.specs.DebugViews.{joined_view, joined_views}
use Rattle.debug_image.specs.declared.joined.Joined as code
use Rattle.debug_image.specs.Sections.{Section}
use Rattle.debug_image.specs.Symbols.{Laid}
use Rattle.debug_image.specs.Tables.{Row, Tables}

pub tables_are :
    (wanted : Bool) (base : ℕ) (objects : List LoadedObject) (ms : List Meaning) (t : Tables) (ss : List Section) (js : List Joined) (rows : List Row) (n : ℕ) (l : Laid) →
    t ≡ tables_from base (own_end base objects) (length objects) ss js rows n → ss ≡ sections_in base objects → l ≡ laid_of base objects →
    rows ≡ rows_of wanted l ms → n ≡ length (locals_of wanted l) + 1 → t ≡ tables_with wanted base objects js ms
tables_are wanted base objects ms t ss js rows n l is is_ss is_l is_rows is_n =
    is
    ∙ (λ i. tables_from base (own_end base objects) (length objects) (is_ss i) js (is_rows i) (is_n i))
    ∙ ap (λ (k : Laid). tables_from base (own_end base objects) (length objects) (sections_in base objects) js (rows_of wanted k ms) (length (locals_of wanted k) + 1)) is_l

-- what is joined is as few in the code as in the definitions
pub few_of : (js : List code.Joined) (all : List Joined) → joined_views js ≡ all → length js ≤ most_names → length all ≤ most_names
few_of js all is few =
    let same = sym (length-map js joined_view) ∙ ap (λ (xs : List Joined). length xs) is in
    grind (arith, same, few)

-- Common lines where blocks may be left out: each line is that of its name's block.
use Rattle.std.proofs.Common.{◌≡◌, ◌∙◌, List, ℕ, Bool, Option, None, Some, get_or, true, inl, inr, refl, sym, subst}
use Rattle.std.specs.Prelude.{All, find}
use Rattle.std.proofs.lemmas.Bool.{false≢true}
use Rattle.std.proofs.lemmas.List.Elements.{All-contains}
use Rattle.std.proofs.lemmas.Slice.Eq.{bytes_eq-Decides}
use Rattle.elf_model.proofs.Finding.{find-found, none-passes}
use Rattle.elf_model.specs.Image.MapRecord.{CommonRow}
use Rattle.elf_model.specs.Image.RightLink.{HasCommonLine}
use Rattle.elf_model.specs.Link.Loading.{LoadedObject}
use Rattle.elf_model.specs.Link.Placement.{is_common_row_of}
use Rattle.place_judge.specs.Places.{IsCommonIn}

pub every_name :
    (rows : List CommonRow) (objects : List LoadedObject) (collects : Bool) → collects ≡ true →
    All (λ row. HasCommonLine rows objects row.name) rows → (name : List ℕ) → IsCommonIn rows objects collects name
every_name rows objects collects on lines name = by (find (is_common_row_of name) rows) refl
  where
    by : (o : Option CommonRow) → find (is_common_row_of name) rows ≡ o → IsCommonIn rows objects collects name
    by None e = inr (on, e)
    by (Some row) e =
        let is = find-found (is_common_row_of name) rows row e in
        inl (subst (HasCommonLine rows objects) ((bytes_eq-Decides row.name name).0 is.passes)
        (All-contains (λ (r : CommonRow). HasCommonLine rows objects r.name) rows row lines is.there))

pub every_line :
    (rows : List CommonRow) (objects : List LoadedObject) (collects : Bool) → ((name : List ℕ) → IsCommonIn rows objects collects name) →
    All (λ row. HasCommonLine rows objects row.name) rows
every_line rows objects collects each k d low = by (each (row k d).name)
  where
    row : ℕ → CommonRow → CommonRow
    row i e = get_or rows i e

    by : IsCommonIn rows objects collects (row k d).name → HasCommonLine rows objects (row k d).name
    by (inl has) = has
    by (inr none) =
        let never = none-passes (is_common_row_of (row k d).name) rows none.1 k d low in
        absurd (false≢true (sym never ∙ (bytes_eq-Decides (row k d).name (row k d).name).1 refl))

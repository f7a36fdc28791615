-- The common lines of a map against the blocks: names that have a line or a block tell of all.
use Rattle.std.proofs.Common.{◌≡◌, List, ℕ, Option, None, Some, refl, sym, ap, subst, ◌∙◌}
use Rattle.std.specs.Prelude.{All, find, option_map}
use Rattle.std.proofs.lemmas.List.Elements.{All-contains}
use Rattle.std.proofs.lemmas.Slice.Eq.{bytes_eq-Decides}
use Rattle.elf_model.proofs.Finding.{find-found}
use Rattle.elf_model.specs.Link.Commons.{Block, block_named, blocks, is_block_of}
use Rattle.elf_model.specs.Link.Loading.{LoadedObject}
use Rattle.elf_model.specs.Image.MapRecord.{CommonRow}
use Rattle.elf_model.specs.Link.Placement.{is_common_row_of}
use Rattle.elf_model.specs.Image.RightLink.{HasCommonLine, facts_of_block, facts_of_common}

pub every_name :
    (rows : List CommonRow) (objects : List LoadedObject) → All (λ row. HasCommonLine rows objects row.name) rows →
    All (λ b. HasCommonLine rows objects b.name) (blocks objects) → (name : List ℕ) → HasCommonLine rows objects name
every_name rows objects lines found name = by (find (is_common_row_of name) rows) (block_named objects name) refl refl
  where
    by : (o : Option CommonRow) (p : Option Block) → find (is_common_row_of name) rows ≡ o → block_named objects name ≡ p → HasCommonLine rows objects name
    by (Some row) p e f =
        let is = find-found (is_common_row_of name) rows row e in
        subst (HasCommonLine rows objects) ((bytes_eq-Decides row.name name).0 is.passes)
        (All-contains (λ (r : CommonRow). HasCommonLine rows objects r.name) rows row lines is.there)
    by None (Some b) e f =
        let is = find-found (is_block_of name) (blocks objects) b f in
        subst (HasCommonLine rows objects) ((bytes_eq-Decides b.name name).0 is.passes)
        (All-contains (λ (c : Block). HasCommonLine rows objects c.name) (blocks objects) b found is.there)
    by None None e f = ap (option_map facts_of_common) e ∙ sym (ap (option_map facts_of_block) f)

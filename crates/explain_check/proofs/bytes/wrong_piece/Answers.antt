use Rattle.std.proofs.Common.{◌∙◌, List, Some, ap, arith, sym}
use Rattle.std.specs.Prelude.{find}
use Rattle.std.specs.List.{slice_get}
use Rattle.elf_model.specs.Link.Placement.{Placed}
use Rattle.check_link.specs.Views.{placed_view}
use Rattle.check_relocs.proofs.RowFacts.{all_rising}
use Rattle.check_relocs.specs.Bytes.{byte_of, covers}
use Rattle.check_relocs.specs.declared.fields.Field.{Field}
use Rattle.checker.proofs.PieceSections.{wanted_at}
use Rattle.explain_check.proofs.bytes.wrong_piece.Goals as goal

pub fields_in-fields-requires : goal.fields_in-fields-requires
fields_in-fields-requires c = all_rising _ _ c.args.rows.now c.requires

pub wrong_byte-requires-clause-wanted : goal.wrong_byte-requires-clause-wanted
wrong_byte-requires-clause-wanted c =
    let q = c.in_ok-placed.placed in
    let k = c.in_ok-k.k in
    let low = c.if-k-size.false in
    let size = c.load_size-size.ensures in
    let fields = ap (λ (fs : List Field). byte_of q.piece.bytes.now k (find (covers k) fs)) c.fields_in-fields.ensures.fields in
    let there = ap (λ (qs : List Placed). slice_get qs c.args.number) (sym c.placed.ensures) ∙ c.in_ok-placed.ensures in record {
      piece = there;
      below = omega (arith, low, size);
      wanted_is =
          ap Some (c.in_ok-wanted.ensures ∙ fields ∙ wanted_at c.args.bound.now c.args.rows.now c.requires c.args.number (placed_view q) there k);
      field = c.field_place-relocation.ensures;
    }

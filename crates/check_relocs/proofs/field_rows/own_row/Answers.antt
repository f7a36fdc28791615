use Rattle.std.proofs.Common.{refl, subst, sym}
use Rattle.std.specs.Prelude.{All, AllPairs}
use Rattle.std.proofs.lemmas.Bool.{false≢true}
use Rattle.elf_model.specs.Link.Relocation.{relocations_from}
use Rattle.check_load.specs.Views.{loaded_view}
use Rattle.check_relocs.specs.Fields.{AreApart, IsNarrow, field_of}
use Rattle.elf_model.proofs.Pairs.{AllPairs-map, AllPairs-unmap}
use Rattle.elf_model.proofs.RelocationFields.{own_object}
use Rattle.elf_model.proofs.OwnFields.{apart_of_ranges, ranges_of_apart}
use Rattle.check_relocs.proofs.ObjectFields.{narrow_fields}
use Rattle.check_relocs.proofs.RowFacts.{row_of_object}
use Rattle.check_relocs.proofs.field_rows.own_row.Goals as goal

pub returns-in_default-clause-right : goal.returns-in_default-clause-right
returns-in_default-clause-right c =
    let r = rw c.in_default.is at c.in_ok-fields.ensures.right in (
      λ e. absurd (false≢true e),
      λ a. absurd (false≢true (r.1 a.each)),
    )

pub in_order-requires : goal.in_order-requires
in_order-requires c =
    let b = c.args.bindings.now in
    let e = rw c.in-Some.is at c.in_ok-fields.ensures.fields in
    let r = rw c.in-Some.is at c.in_ok-fields.ensures.right in
    subst (All IsNarrow) (sym e) (narrow_fields b.objects b.places (relocations_from c.args.number (loaded_view c.args.loaded.now)) (r.0 refl))

pub returns-clause-right : goal.returns-clause-right
returns-clause-right c =
    let b = c.args.bindings.now in
    let rs = relocations_from c.args.number (loaded_view c.args.loaded.now) in
    let field = field_of b.objects b.places in
    let e = rw c.in-Some.is at c.in_ok-fields.ensures.fields in
    let r = rw c.in-Some.is at c.in_ok-fields.ensures.right in (
      λ t. record {
        each = r.0 refl;
        apart = apart_of_ranges rs (AllPairs-unmap AreApart field rs (subst (AllPairs AreApart) e (c.in_ok-row.ensures.apart.0 t)));
      },
      λ a. c.in_ok-row.ensures.apart.1
          (subst (AllPairs AreApart) (sym e)
          (AllPairs-map AreApart field rs (ranges_of_apart c.args.number rs (own_object c.args.number (loaded_view c.args.loaded.now)) a.apart))),
    )

pub returns-clause-row : goal.returns-clause-row
returns-clause-row c =
    let b = c.args.bindings.now in
    let e = rw c.in-Some.is at c.in_ok-fields.ensures.fields in
    let r = rw c.in-Some.is at c.in_ok-fields.ensures.right in
    row_of_object b.objects b.places c.args.number (loaded_view c.args.loaded.now) _ c.in_ok-row.row e (r.0 refl) c.in_ok-row.ensures.row

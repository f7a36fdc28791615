use Rattle.std.proofs.Common.{◌≡◌, ◌∙◌, Some, rules, sym}
use Rattle.std.specs.List.{slice_get}
use Rattle.elf_model.specs.Inputs.ObjectFile.{relas_of, sections}
use Rattle.check_relocs.specs.Referrers.{object_here, objects_here}
use Rattle.input_names.proofs.KeptPlaces.{kept, placed}
use Rattle.explain_check.proofs.relocations.place_at.Goals as goal

pub returns : goal.returns
returns c =
    let r = c.args.here.now in
    let o = object_here r in
    let k = c.args.relocation.now in
    let p = c.relocation_place-place.result in
    let h = c.in_ok-header.header in
    let x = c.in_ok-entry.entry in
    let has = c.relocation_place-place.ensures in
    let kept_is = c.if-not-is_kept_rela.false in
    let there : slice_get (sections o.bytes) k.table ≡ Some h = search rules in
    let rela : h.sh_type ≡ 4 = c.is_kept_rela.ensures.rela kept_is in
    let listed : slice_get (relas_of o.bytes h) k.number ≡ Some x = search (rules, there, rela) in
    kept (objects_here r) p o h r.number k.table k.number x has
    (placed (objects_here r) p o h r.number k.table k.number x has r.own there (sym c.is_kept_rela.ensures.value ∙ kept_is) listed
    (sym c.is_some_kind.ensures ∙ c.if-not-is_some_kind.false))

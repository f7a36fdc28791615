use Rattle.std.proofs.Common.{◌∙◌, List, ap, get_or, subst}
use Rattle.std.proofs.lemmas.Option.{slice_get_within}
use Rattle.elf_model.specs.Inputs.ObjectFile.{relas_of}
use Rattle.elf_model.specs.declared.records.Rela.{Rela}
use Rattle.elf_model.specs.declared.records.SectionHeader.{SectionHeader}
use Rattle.elf_read.specs.Reading.{null_rela}
use Rattle.input_names.proofs.KeptPlaces.{HasNumbers}
use Rattle.search.specs.Views.{loaded_view}
use Rattle.explain.proofs.ReferencePlaces.{entry_is, place_is}
use Rattle.explain.proofs.reference_places.place_of_entry.Goals as goal

pub object_numbered-one-requires : goal.object_numbered-one-requires
object_numbered-one-requires c = slice_get_within c.args.loaded.now.objects c.args.k c.requires.o c.requires.object

pub returns-clause-kept : goal.returns-clause-kept
returns-clause-kept c = λ e.
    let objects = c.args.loaded.now.objects in
    let o = loaded_view c.object_numbered-one.result.now in
    let there = c.object_numbered-one.ensures in
    let number = c.args.at.number in
    let header = c.section-header.ensures in
    let entries = c.entries_of.ensures ∙ ap (relas_of o.bytes) header in
    let entry = c.at-entry.ensures ∙ ap (λ (xs : List Rela). get_or xs number null_rela) entries in
    let numbers = subst (λ (h : SectionHeader). HasNumbers c.relocation_place.result o h c.args.k c.args.at.table number c.at-entry.result) header c.relocation_place.ensures in
    place_is objects c.args.k c.args.at e o there c.relocation_place.result c.at-entry.result
    (entry_is objects c.args.k c.args.at e o there null_rela c.at-entry.result entry) numbers

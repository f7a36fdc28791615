use Rattle.std.proofs.Common.{◌∙◌, ap, subst, sym}
use Rattle.elf_model.specs.Inputs.ObjectFile.{IsObject}
use Rattle.elf_model.specs.Inputs.Opening.{Opened}
use Rattle.elf_model.specs.Link.Loading.{is_taken}
use Rattle.search.specs.Views.{loaded_views}
use Rattle.archive_notes.proofs.NoteLaws.{fact_of}
use Rattle.archive_notes.proofs.members.fact_of_member.Goals as goal

pub returns-in-Ok-clause-holds : goal.returns-in-Ok-clause-holds
returns-in-Ok-clause-holds c =
    fact_of _ c.args.archive.now c.args.name.now c.args.offset c.fact_of_object.result c.in-Ok.object c.is_taken-taken.result
    (c.in-Ok.ensures.exact ∙ (c.new.ensures ∙ c.data_at-data.ensures))
    (c.is_taken-taken.ensures ∙ ap (λ (o : Opened). is_taken (loaded_views c.args.objects.now) o.number c.args.offset) c.item.ensures)
    (subst IsObject (sym c.in-Ok.ensures.exact) c.in-Ok.ensures.object) c.fact_of_object.ensures

use Rattle.std.proofs.Common.{◌∙◌, sym}
use Rattle.elf_model.specs.Link.Loading.{is_taken}
use Rattle.search.specs.Views.{loaded_view}
use Rattle.archive_notes.proofs.Taken.{any_of_views}
use Rattle.archive_notes.proofs.members.is_taken.Goals as goal

pub returns : goal.returns
unfolding is_taken
returns c = c.has_member.ensures ∙ sym (any_of_views _ loaded_view c.args.objects.now)

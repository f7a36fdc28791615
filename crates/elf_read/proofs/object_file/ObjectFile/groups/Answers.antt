use Rattle.std.proofs.Common.{ap, sym, subst, ◌∙◌}
use Rattle.elf_model.specs.Inputs.ObjectFile.{IsObject, groups}
use Rattle.elf_read.proofs.GroupLists.{NamesSections, members_there}
use Rattle.elf_read.proofs.object_file.ObjectFile.groups.Goals as goal

pub returns-clause-members : goal.returns-clause-members
returns-clause-members c =
    let bytes = c.args.self.now in
    subst (NamesSections bytes) (sym (c.as_slice.ensures.value ∙ c.self.invariant.groups_are ∙ ap groups c.self.view_is))
    (members_there bytes (subst IsObject c.self.view_is c.self.invariant.object))

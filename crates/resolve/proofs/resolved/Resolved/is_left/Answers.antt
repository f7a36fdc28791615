use Rattle.std.proofs.Common.{List, ◌∙◌, subst, sym}
use Rattle.elf_model.specs.Link.Loading.{LoadedObject}
use Rattle.resolve.specs.Left.{HasNoneLeft}
use Rattle.resolve.proofs.LeftNames.{none_numbered}
use Rattle.resolve.proofs.resolved.Resolved.is_left.Goals as goal

pub returns-in-None : goal.returns-in-None
returns-in-None c = λ e.
    subst (λ (objects : List LoadedObject). HasNoneLeft objects c.args.name.now) c.self.view_is
    (none_numbered c.self.inside.loaded c.name_count-named.ensures.named c.objects-objects.ensures.objects c.args.name.now
    (sym c.find_name.ensures ∙ c.in-None.is))

use Rattle.layout.proofs.KindLemmas.{lawful_objects, objects_lawful}
use Rattle.layout.proofs.section_kinds.are_lawful_kinds.Goals as goal

pub returns : goal.returns
returns c = (
  λ e. objects_lawful 0 c.args.objects.now (c.are_lawful_objects.ensures.0 e),
  λ all. c.are_lawful_objects.ensures.1 (lawful_objects 0 c.args.objects.now all),
)

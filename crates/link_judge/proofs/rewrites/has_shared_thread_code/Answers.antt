use Rattle.std.proofs.Common.{◌∙◌}
use Rattle.check_load.specs.Views.{loaded_views}
use Rattle.link_judge.proofs.SharedCode.{shared_in_image}
use Rattle.link_judge.proofs.rewrites.has_shared_thread_code.Goals as goal

pub returns : goal.returns
returns c = λ l same dropped. c.have_shared.ensures ∙ shared_in_image l (loaded_views c.args.objects.now) c.args.drops.now same dropped

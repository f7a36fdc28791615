use Rattle.std.proofs.Common.{◌∙◌, Bool, Option, ap, sym}
use Rattle.std.specs.Prelude.{unwrap_or}
use Rattle.std.specs.List.{list_any}
use Rattle.elf_model.specs.Link.Loading.{LoadedObject}
use Rattle.check_load.specs.Views.{loaded_view, loaded_views}
use Rattle.judge_model.specs.Headers.{asks_for_stack}
use Rattle.header_judge.proofs.Lists.{any_map}
use Rattle.header_judge.proofs.stack.may_execute.Goals as goal

pub returns-in-None : goal.returns-in-None
returns-in-None c =
    c.do_some_ask.ensures
    ∙ any_map (λ (o : LoadedObject). asks_for_stack o.bytes) loaded_view c.args.objects.now
    ∙ ap (λ (e : Option Bool). unwrap_or e (list_any (λ (o : LoadedObject). asks_for_stack o.bytes) (loaded_views c.args.objects.now)))
    (sym c.in-None.is)

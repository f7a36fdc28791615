use Rattle.std.proofs.Common.{◌∙◌, List, ap}
use Rattle.search.specs.Views.{loaded_views}
use Rattle.std.proofs.lemmas.List.{drop_all}
use Rattle.resolve.specs.Views.{meaning_views}
use Rattle.resolve.specs.declared.definition.Definition as code
use Rattle.image_write.specs.Tables.{name_bytes}
use Rattle.image_write.proofs.StreamSteps.{towards_end, towards_fault, towards_is, towards_more}
use Rattle.image_write.proofs.TableParts.{names_left}
use Rattle.image_write.proofs.tables.put_names.Goals as goal

pub loop-definition-preserved : goal.loop-definition-preserved
loop-definition-preserved g c = record {
  towards = towards_more _ _ _ _ _ _ _ c.loop-definition.invariant.towards
      (names_left (loaded_views c.args.names.now.objects.now) c.args.names.now.listed.now c.loop-definition.definition-index _ c.loop-definition-test.true)
      c.in_ok-put_name.ensures.grows;
  failed = c.in_ok-put_name.ensures.grows.failed ∙ c.loop-definition.invariant.failed;
}

pub returns-in_err-put_name : goal.returns-in_err-put_name
returns-in_err-put_name g c =
    towards_fault _ _ _ _ _ _ _ _ c.loop-definition.invariant.towards
    (names_left (loaded_views c.args.names.now.objects.now) c.args.names.now.listed.now c.loop-definition.definition-index _ c.loop-definition-test.true)
    c.from_residual.ensures.0 c.in_err-put_name.ensures.breaks

pub returns : goal.returns
returns g c = record {
  grows = towards_end _ _ _
      (towards_is _ _ _ _ _
      (ap (λ (ys : List code.Definition). name_bytes (loaded_views c.args.names.now.objects.now) (meaning_views ys))
      (drop_all c.loop-definition.definition-index c.args.names.now.listed.now c.loop-definition-test.false))
      c.loop-definition.invariant.towards);
  breaks = tt;
}

use Rattle.std.proofs.Common.{Bool, subst}
use Rattle.std.specs.Prelude.{◌↔◌, IsTrue}
use Rattle.check_link.specs.Views.{placed_views}
use Rattle.check_load.specs.Views.{loaded_views}
use Rattle.header_judge.proofs.Law.{right_by}
use Rattle.header_judge.specs.Rights.{AreRightBy, may_execute}
use Rattle.header_judge.proofs.headers.are_headers_right.Goals as goal

pub returns : goal.returns
returns c = λ l of.
    let told =
    subst (λ (b : Bool). IsTrue c.are_right_by.result ↔ AreRightBy c.args.image.now c.args.physical b (may_execute c.args.executes (loaded_views c.args.objects.now)) (placed_views c.args.placed.now))
    c.must_execute-must.ensures
    (subst (λ (b : Bool). IsTrue c.are_right_by.result ↔ AreRightBy c.args.image.now c.args.physical c.must_execute-must.result b (placed_views c.args.placed.now))
    c.may_execute-may.ensures c.are_right_by.ensures) in
    let law =
    right_by l c.args.image.now (loaded_views c.args.objects.now) (placed_views c.args.placed.now) c.args.physical c.args.executes of in (
      λ yes. law.0 (told.0 yes),
      λ right. told.1 (law.1 right),
    )

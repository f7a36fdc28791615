use Rattle.std.proofs.Common.{◌∙◌, ap, [], List, ℕ}
use Rattle.std.specs.List.{flat_map}
use Rattle.std.specs.Borrow.{Bor}
use Rattle.elf_model.specs.Inputs.Command.{paths_of}
use Rattle.command.specs.declared.items.Item.{Item}
use Rattle.command.specs.Views.{source_of, texts_of}
use Rattle.command.specs.Candidates.{with_all}
use Rattle.command.proofs.PlanPaths.{candidates_is}
use Rattle.command.proofs.paths.candidates.Goals as goal

abbrev paths : List (List ℕ) → List (Bor (List ℕ)) → List Item → List (List ℕ)
paths start ds is = with_all start (flat_map (λ (i : Item). paths_of (texts_of ds) (source_of i.source)) is)

pub returns-clause-paths : goal.returns-clause-paths
returns-clause-paths c =
    let p = c.plan.inside in
    c.found.view_is
    ∙ c.in_ok-add_items.ensures
    ∙ ap (λ s. paths s c.deref.result.now c.deref-2.result.now) c.new-found.ensures
    ∙ ap (λ ds. paths [] ds c.deref-2.result.now) c.deref.ensures.value
    ∙ ap (λ is. paths [] p.directories.items is) c.deref-2.ensures.value
    ∙ candidates_is c.args.plan.now p.items.items p.directories.items p.undefined.items p.entry p.base p.output p.map p.check p.strip c.plan.view_is

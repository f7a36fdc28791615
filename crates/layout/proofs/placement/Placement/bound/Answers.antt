use Rattle.std.proofs.Common.{ℕ, Option, ap, option_map, subst, sym, ◌∙◌}
use Rattle.std.specs.Prelude.{unwrap_or}
use Rattle.elf_model.specs.Link.LinkerValues.{bound_value}
use Rattle.elf_model.specs.Own.OwnLayout.{own_got, own_where}
use Rattle.elf_model.specs.Link.Pieces.{AreLawfulKinds}
use Rattle.layout.specs.Placements.{Basis}
use Rattle.layout.proofs.OwnBounds.{own_bound}
use Rattle.layout.proofs.placement.Placement.bound.Goals as goal

pub returns : goal.returns
returns c =
    c.bound_in.ensures
    ∙ (own_bound c.self.inside.base c.self.inside.loaded.objects
    (subst (λ (b : Basis). AreLawfulKinds b.objects) (sym c.self.view_is) c.requires) _ c.self.inside.tables.bounds c.args.name.now c.args.bound
    (c.unwrap_or-got.ensures
    ∙ ap (λ (o : Option ℕ). unwrap_or o 0)
    (c.got.ensures ∙ ap (λ (b : Basis). option_map (λ g. g.address) (own_got b.base b.objects)) (sym c.self.view_is)))
    c.self.invariant.0.bounds_are
    ∙ ap (λ (b : Basis). bound_value (own_where b.base b.objects) c.args.name.now c.args.bound) c.self.view_is)

use Rattle.std.proofs.Common.{◌<◌, ◌^◌, ◌∙◌, ℕ, ap, subst, sym}
use Rattle.std.specs.Prelude.{All}
use Rattle.elf_model.specs.Image.MapText.{AreBytes}
use Rattle.elf_model.specs.Link.Loading.{LoadedObject}
use Rattle.resolve.specs.Views.{meaning_views}
use Rattle.search.specs.Loads.{LoadedPlan}
use Rattle.debug_main.proofs.read_back.show_read_back.Goals as goal

pub returns : goal.returns
returns c =
    let parts = c.parts-parts.ensures.parts in
    c.images_are_read_back.ensures c.args.wanted c.args.linkage.now (meaning_views c.args.names.now)
    (record {
      kinds = parts.kinds;
      base = parts.base;
      not_too_large = parts.not_too_large;
      objects = parts.objects;
      bytes =
          subst (All (λ (o : LoadedObject). AreBytes o.bytes)) (c.objects.ensures.exact ∙ ap (λ (l : LoadedPlan). l.objects) c.loaded.ensures)
          c.show_contents.ensures;
      entry = subst (λ (e : ℕ). e < 2 ^ 64) (sym parts.entry) parts.entry_fits;
    })
    c.requires.listing.listed c.requires.said

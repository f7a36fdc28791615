use Rattle.std.proofs.Common.{◌∙◌, ap, subst, sym}
use Rattle.elf_model.specs.Own.OwnLayout.{own_in_load_order}
use Rattle.elf_model.specs.Link.Pieces.{AreLawfulKinds}
use Rattle.layout.specs.Placements.{Basis}
use Rattle.layout.specs.Threads.{header_in}
use Rattle.layout.proofs.OwnThreads.{headers_same}
use Rattle.layout.proofs.placement.Placement.thread_header.Goals as goal

pub returns : goal.returns
returns c =
    c.self.invariant.0.header_is
    ∙ (headers_same c.self.inside.base c.self.inside.loaded.objects (subst (λ (b : Basis). AreLawfulKinds b.objects) (sym c.self.view_is) c.requires)
    ∙ ap (λ (b : Basis). header_in b.base (own_in_load_order b.base b.objects)) c.self.view_is)

use Rattle.std.proofs.Common.{rules, ◌≡◌, ◌∙◌, ap, option_map, subst, sym}
use Rattle.elf_model.specs.Own.OwnLayout.{own_in_load_order, own_placed}
use Rattle.elf_model.specs.Link.Pieces.{AreLawfulKinds}
use Rattle.elf_model.specs.Link.ThreadStorage.{thread_block}
use Rattle.layout.specs.Placements.{Basis}
use Rattle.layout.specs.Threads.{block_of}
use Rattle.layout.proofs.OwnThreads.{told_block, threads_same}
use Rattle.layout.proofs.placement.Placement.thread_block.Goals as goal

pub returns-clause-listed : goal.returns-clause-listed
returns-clause-listed c = λ kinds.
    let base = c.self.inside.base in
    let objects = c.self.inside.loaded.objects in
    let is : c.map.result ≡ option_map block_of c.self.inside.tables.thread_header = search rules in
    is
    ∙ (told_block base (own_placed base objects) c.self.inside.tables.thread_header c.self.invariant.0.header_is
    ∙ (threads_same base objects (subst (λ (b : Basis). AreLawfulKinds b.objects) (sym c.self.view_is) kinds)
    ∙ ap (λ (b : Basis). thread_block (own_in_load_order b.base b.objects)) c.self.view_is))

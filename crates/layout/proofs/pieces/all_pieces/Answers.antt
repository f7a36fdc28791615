use Rattle.std.proofs.Common.{ℕ, ◌≤◌, ◌∙◌, ap, arith, map, subst, sym}
use Rattle.std.specs.Prelude.{All}
use Rattle.elf_model.proofs.Blocks.{blocks-each}
use Rattle.elf_model.proofs.Listed.{All-unmap}
use Rattle.elf_model.specs.Link.Commons.{Block, block_piece}
use Rattle.resolve.specs.Blocks.{block_view}
use Rattle.search.specs.Views.{loaded_views}
use Rattle.layout.specs.PieceLists.{got_as, if_sized}
use Rattle.layout.proofs.GotPieces.{got_listed}
use Rattle.layout.proofs.pieces.all_pieces.Goals as goal

pub blocks_of-requires : goal.blocks_of-requires
blocks_of-requires c =
    let objects = loaded_views c.args.objects.now in
    All-unmap (λ (b : Block). 1 ≤ b.align) block_view c.args.blocks.now
    (subst (All (λ (b : Block). 1 ≤ b.align)) (sym c.requires.listed) (blocks-each objects (λ (b : Block). 1 ≤ b.align) (λ k s there. omega arith)))

pub returns : goal.returns
returns c = record {
  kept = c.in_ok-kept_of.ensures;
  got =
      ap if_sized c.got_piece.ensures
      ∙ ap (λ (n : ℕ). if_sized (got_as n c.args.got_size)) c.got_number.ensures
      ∙ got_listed (loaded_views c.args.objects.now) c.args.got_size c.requires.got;
  blocks_are = c.in_ok-blocks_of.ensures ∙ ap (map block_piece) c.requires.listed;
}

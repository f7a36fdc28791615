use Rattle.std.proofs.Common.{◌≡◌, ◌+◌, ◌++◌, List, arith, drop, refl, subst, sym}
use Rattle.image_write.proofs.StreamLaws.{whatever}
use Rattle.elf_model.specs.declared.references.SectionRef.{SectionRef}
use Rattle.debug_image.specs.DebugLayouts.{data_in}
use Rattle.debug_image.specs.DebugViews.{chunk_views}
use Rattle.debug_main.specs.DebugFiles.{left_of}
use Rattle.debug_main.proofs.ChunkSteps.{all_written, left_next, left_whole, none_written, one_written, part_written}
use Rattle.debug_main.proofs.debug_file.write_chunks.Goals as goal

pub loop-chunk-init : goal.loop-chunk-init
loop-chunk-init g c = (none_written _ _ _, c.requires.whole, refl)

pub write_chunk-requires-clause-whole : goal.write_chunk-requires-clause-whole
write_chunk-requires-clause-whole g c = c.loop-chunk.invariant.1

pub returns-in_err-write_chunk-clause-part : goal.returns-in_err-write_chunk-clause-part
returns-in_err-write_chunk-clause-part g c =
    whatever _ c.from_residual.result (part_written _ _ _ _ _ _ _ c.loop-chunk-test.true c.loop-chunk.invariant.0 c.in_err-write_chunk.ensures.part)

pub loop-chunk-preserved : goal.loop-chunk-preserved
loop-chunk-preserved g c = (
  one_written _ _ _ _ _ _ _ c.loop-chunk-test.true c.loop-chunk.invariant.0 c.in_ok-write_chunk.ensures.took,
  c.in_ok-write_chunk.ensures.kept,
  subst (λ (l : List SectionRef). l ++ left_of (data_in c.args.layout.now) (chunk_views (drop (c.loop-chunk.chunk-index + 1) c.args.chunks.now)) ≡ c.args.left.now.items ++ left_of (data_in c.args.layout.now) (chunk_views c.args.chunks.now))
      (sym c.in_ok-write_chunk.ensures.left) (left_next _ _ _ _ _ _ c.loop-chunk-test.true c.loop-chunk.invariant.2),
)

pub returns-clause-took : goal.returns-clause-took
returns-clause-took g c = all_written _ _ _ _ _ (omega (arith, c.loop-chunk-test.false)) c.loop-chunk.invariant.0

pub returns-clause-kept : goal.returns-clause-kept
returns-clause-kept g c = c.loop-chunk.invariant.1

pub returns-clause-left : goal.returns-clause-left
returns-clause-left g c = left_whole (data_in c.args.layout.now) c.args.chunks.now c.loop-chunk.chunk-index _ _ (omega (arith, c.loop-chunk-test.false)) c.loop-chunk.invariant.2

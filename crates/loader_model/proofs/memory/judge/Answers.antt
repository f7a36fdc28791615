use Rattle.std.proofs.Common.{◌≡◌, true, false, subst, sym}
use Rattle.std.specs.Prelude.{AllPairs}
use Rattle.elf_model.specs.Image.MemoryImage.{ShareNoPage}
use Rattle.loader_model.proofs.TableOrder.{ascending_loads}
use Rattle.loader_model.proofs.memory.judge.Goals as goal

pub share_no_page-requires-clause-ascending : goal.share_no_page-requires-clause-ascending
share_no_page-requires-clause-ascending c =
    ascending_loads c.args.headers.now c.args.segments.now c.requires.segments_are
    (c.is_in_order.ensures.0 c.if-not-is_in_order.false)

pub returns-then-not-share_no_page-clause-fault : goal.returns-then-not-share_no_page-clause-fault
returns-then-not-share_no_page-clause-fault c =
    λ apart. let t : false ≡ true = c.if-not-share_no_page.ensures.1 (subst (AllPairs ShareNoPage) (sym c.requires.segments_are) apart) in absurd (cc)

pub returns-clause-good : goal.returns-clause-good
returns-clause-good c = record {
  order = c.is_in_order.ensures.0 c.if-not-is_in_order.false;
  segments = c.are_good_segments.ensures.0 c.if-not-are_good_segments.false;
  pages =
      subst (AllPairs ShareNoPage) c.requires.segments_are (c.share_no_page.ensures.0 c.if-not-share_no_page.false);
}

use Rattle.std.proofs.Common.{◌≡◌, ℕ, true, false, refl, arith}
use Rattle.std.specs.Prelude.{All}
use Rattle.elf_model.proofs.Listed.{All-unmap}
use Rattle.elf_model.proofs.Rests.{all_end, all_more, all_stop}
use Rattle.check_link.specs.PieceParts.{IsInLimit}
use Rattle.checker.specs.ThreadBlock.{IsPlaceClear}
use Rattle.check_link.specs.Views.{placed_view}
use Rattle.check_link.specs.declared.things.Placed.{Placed}
use Rattle.checker.proofs.c08_thread_block.are_places_clear_of.Goals as goal

abbrev Clear : (start end : ℕ) → Placed → Type 0
Clear start end q = IsPlaceClear start end (placed_view q)

pub is_place_clear_of-requires : goal.is_place_clear_of-requires
is_place_clear_of-requires c = All-unmap IsInLimit placed_view c.args.placed.now c.requires c.loop-q.q-index _ c.loop-q-test.true

pub loop-q-preserved : goal.loop-q-preserved
loop-q-preserved c =
    all_more (All (Clear c.args.start c.args.end) c.args.placed.now) (Clear c.args.start c.args.end) c.args.placed.now c.loop-q.q-index _
    c.loop-q-test.true (c.is_place_clear_of.ensures.0 c.if-not-is_place_clear_of.false) c.loop-q.invariant

pub returns-then-not-is_place_clear_of : goal.returns-then-not-is_place_clear_of
returns-then-not-is_place_clear_of c = (
  λ e. absurd (let f : false ≡ true = e in cc),
  λ h. absurd
      (all_stop (All (Clear c.args.start c.args.end) c.args.placed.now) (Clear c.args.start c.args.end) c.args.placed.now c.loop-q.q-index _
      c.loop-q-test.true (λ clear. let f : false ≡ true = c.if-not-is_place_clear_of.ensures.1 clear in cc) c.loop-q.invariant h),
)

pub returns : goal.returns
returns c = (
  λ e. all_end (All (Clear c.args.start c.args.end) c.args.placed.now) (Clear c.args.start c.args.end) c.args.placed.now c.loop-q.q-index
      (omega (arith, c.loop-q-test.false)) c.loop-q.invariant,
  λ h. refl,
)

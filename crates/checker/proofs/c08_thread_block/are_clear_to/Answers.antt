use Rattle.std.proofs.Common.{◌≡◌, ℕ, List, Option, true, false, refl, arith}
use Rattle.std.specs.Prelude.{All}
use Rattle.elf_model.specs.Link.Placement.{Placed}
use Rattle.elf_model.specs.declared.link_map.GotLine.{GotLine}
use Rattle.elf_model.specs.declared.records.ProgramHeader.{ProgramHeader}
use Rattle.elf_model.proofs.Rests.{all_end, all_more, all_stop}
use Rattle.checker.specs.ThreadBlock.{AreOthersClear}
use Rattle.check_link.specs.Views.{placed_views}
use Rattle.checker.proofs.c08_thread_block.are_clear_to.Goals as goal

-- nothing else stands between the beginning of a header's block and an end
abbrev IsClear : ℕ → Option GotLine → List Placed → ProgramHeader → Type 0
IsClear end got qs h = AreOthersClear h.p_vaddr end got qs

pub loop-header-preserved : goal.loop-header-preserved
loop-header-preserved c =
    let Clear : ProgramHeader → Type 0 = IsClear c.args.end c.args.got.now (placed_views c.args.placed.now) in
    all_more (All Clear c.args.headers.now) Clear c.args.headers.now c.loop-header.header-index _ c.loop-header-test.true
    (c.are_others_clear_of.ensures.0 c.if-not-are_others_clear_of.false) c.loop-header.invariant

pub returns-then-not-are_others_clear_of : goal.returns-then-not-are_others_clear_of
returns-then-not-are_others_clear_of c =
    let Clear : ProgramHeader → Type 0 = IsClear c.args.end c.args.got.now (placed_views c.args.placed.now) in (
      λ e. absurd (let f : false ≡ true = e in cc),
      λ all. absurd
          (all_stop (All Clear c.args.headers.now) Clear c.args.headers.now c.loop-header.header-index _ c.loop-header-test.true
          (λ clear. let f : false ≡ true = c.if-not-are_others_clear_of.ensures.1 clear in cc) c.loop-header.invariant all),
    )

pub returns : goal.returns
returns c =
    let Clear : ProgramHeader → Type 0 = IsClear c.args.end c.args.got.now (placed_views c.args.placed.now) in (
      λ e. all_end (All Clear c.args.headers.now) Clear c.args.headers.now c.loop-header.header-index
          (omega (arith, c.loop-header-test.false)) c.loop-header.invariant,
      λ all. refl,
    )

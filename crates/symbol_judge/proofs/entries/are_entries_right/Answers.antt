use Rattle.std.proofs.Common.{◌∙◌, arith, refl, sym}
use Rattle.std.specs.Prelude.{All}
use Rattle.std.proofs.lemmas.Bool.{false≢true}
use Rattle.elf_model.proofs.Rests.{all_end, all_more, all_stop}
use Rattle.symbol_judge.specs.Entries.{IsRightNamed}
use Rattle.symbol_judge.proofs.EntryLaws.{named_own, right_named}
use Rattle.symbol_judge.proofs.entries.are_entries_right.Goals as goal

pub loop-entry-init : goal.loop-entry-init
loop-entry-init c = (
  named_own c.args.meanings.now c.args.strings.now c.args.names.now _ 0 c.named_at-named.ensures,
  (λ h. h, λ h. h),
)

pub loop-entry-preserved : goal.loop-entry-preserved
loop-entry-preserved c =
    let P = IsRightNamed c.args.meanings.now c.args.sections.now c.args.strings.now c.args.names.now c.args.locals.now in
    let law =
    right_named c.args.meanings.now c.args.sections.now c.args.strings.now c.args.names.now c.args.locals.now _ _ c.turned_to-named.ensures in (
      named_own c.args.meanings.now c.args.strings.now c.args.names.now _ _ c.turned_to-named.ensures,
      all_more (All P c.args.entries.now) P c.args.entries.now c.loop-entry.entry-index _ c.loop-entry-test.true
          (law.0 (c.is_right_by.ensures.0 c.if-not-is_right_by.false)) c.loop-entry.invariant.1,
    )

pub returns-then-not-is_right_by : goal.returns-then-not-is_right_by
returns-then-not-is_right_by c =
    let P = IsRightNamed c.args.meanings.now c.args.sections.now c.args.strings.now c.args.names.now c.args.locals.now in
    let law =
    right_named c.args.meanings.now c.args.sections.now c.args.strings.now c.args.names.now c.args.locals.now _ _ c.turned_to-named.ensures in (
      λ t. absurd (false≢true t),
      λ all. absurd
          (all_stop (All P c.args.entries.now) P c.args.entries.now c.loop-entry.entry-index _ c.loop-entry-test.true
          (λ h. false≢true (sym c.if-not-is_right_by.true ∙ c.is_right_by.ensures.1 (law.1 h))) c.loop-entry.invariant.1 all),
    )

pub returns : goal.returns
returns c =
    let P = IsRightNamed c.args.meanings.now c.args.sections.now c.args.strings.now c.args.names.now c.args.locals.now in (
      λ t.
          all_end (All P c.args.entries.now) P c.args.entries.now c.loop-entry.entry-index (omega (arith, c.loop-entry-test.false))
          c.loop-entry.invariant.1,
      λ all. refl,
    )

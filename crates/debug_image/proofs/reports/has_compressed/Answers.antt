use Rattle.std.proofs.Common.{◌≡◌, ◌∙◌, List, ap, arith, length, sym}
use Rattle.elf_model.specs.Inputs.ObjectFile.{sections}
use Rattle.elf_model.specs.declared.records.SectionHeader.{SectionHeader}
use Rattle.search.specs.Views.{loaded_view}
use Rattle.debug_image.specs.Reports.{holds_compressed}
use Rattle.debug_image.proofs.AnySteps.{none_more, some_at}
use Rattle.debug_image.proofs.reports.has_compressed.Goals as goal

pub returns-then-holds_compressed : goal.returns-then-holds_compressed
returns-then-holds_compressed c =
    let o = loaded_view c.args.loaded.now in
    let long : c.len-i-end.result ≡ length (sections o.bytes) = c.len-i-end.ensures ∙ ap (λ (xs : List SectionHeader). length xs) c.sections.ensures in
    let low = c.loop-i-test.true in
    sym (some_at (holds_compressed o) (length (sections o.bytes)) c.loop-i.i (omega (arith, low, long)) (sym c.if-holds_compressed.ensures))

pub loop-i-preserved : goal.loop-i-preserved
loop-i-preserved c = none_more (holds_compressed (loaded_view c.args.loaded.now)) c.loop-i.i c.loop-i.invariant (sym c.if-holds_compressed.ensures)

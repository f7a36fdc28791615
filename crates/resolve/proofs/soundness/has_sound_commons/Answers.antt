use Rattle.std.proofs.Common.{List, subst, false, ◌<◌}
use Rattle.std.specs.Prelude.{◌↔◌, All, IsTrue}
use Rattle.elf_model.specs.Inputs.ObjectFile.{null_symbol}
use Rattle.elf_model.specs.Link.Resolution.{IsSoundCommon, symbols_from}
use Rattle.elf_model.specs.declared.records.Symbol.{Symbol}
use Rattle.search.specs.Views.{loaded_view}
use Rattle.resolve.proofs.SoundWalk.{sound_more, sound_stop}
use Rattle.resolve.proofs.soundness.has_sound_commons.Goals as goal

pub returns-then-not-is_sound_common : goal.returns-then-not-is_sound_common
returns-then-not-is_sound_common c =
    subst (λ (es : List Symbol). IsTrue false ↔ All IsSoundCommon (symbols_from c.args.number (loaded_view c.args.loaded.now) 0 es)) c.symbols-entries.ensures
    (sound_stop IsSoundCommon c.args.number (loaded_view c.args.loaded.now) c.symbols-entries.result.now c.loop-j.j null_symbol (subst (λ n. c.loop-j.j < n) c.len-j-end.ensures c.loop-j-test.true)
    c.is_sound_common.result (rw c.at-entry.ensures at c.is_sound_common.ensures)
    (All IsSoundCommon (symbols_from c.args.number (loaded_view c.args.loaded.now) 0 c.symbols-entries.result.now)) c.loop-j.invariant c.if-not-is_sound_common.true)

pub loop-j-preserved : goal.loop-j-preserved
loop-j-preserved c =
    sound_more IsSoundCommon c.args.number (loaded_view c.args.loaded.now) c.symbols-entries.result.now c.loop-j.j null_symbol (subst (λ n. c.loop-j.j < n) c.len-j-end.ensures c.loop-j-test.true)
    c.is_sound_common.result (rw c.at-entry.ensures at c.is_sound_common.ensures)
    (All IsSoundCommon (symbols_from c.args.number (loaded_view c.args.loaded.now) 0 c.symbols-entries.result.now)) c.loop-j.invariant c.if-not-is_sound_common.false

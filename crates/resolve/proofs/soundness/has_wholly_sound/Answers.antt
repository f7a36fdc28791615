use Rattle.std.proofs.Common.{List, subst, false, ◌<◌}
use Rattle.std.specs.Prelude.{◌↔◌, All, IsTrue}
use Rattle.elf_model.specs.Inputs.ObjectFile.{null_symbol}
use Rattle.elf_model.specs.Link.Resolution.{symbols_from}
use Rattle.elf_model.specs.declared.records.Symbol.{Symbol}
use Rattle.search.specs.Views.{loaded_view, loaded_views}
use Rattle.resolve.specs.Sound.{IsWhollySound}
use Rattle.resolve.proofs.SoundWalk.{sound_more, sound_stop}
use Rattle.resolve.proofs.soundness.has_wholly_sound.Goals as goal

pub returns-then-not-is_wholly_sound : goal.returns-then-not-is_wholly_sound
returns-then-not-is_wholly_sound c =
    let L = loaded_views c.args.objects.now in
    subst (λ (es : List Symbol). IsTrue false ↔ All (IsWhollySound L) (symbols_from c.args.number (loaded_view c.args.loaded.now) 0 es)) c.symbols-entries.ensures
    (sound_stop (IsWhollySound L) c.args.number (loaded_view c.args.loaded.now) c.symbols-entries.result.now c.loop-j.j null_symbol (subst (λ n. c.loop-j.j < n) c.len-j-end.ensures c.loop-j-test.true)
    c.is_wholly_sound.result (rw c.at-entry.ensures at c.is_wholly_sound.ensures)
    (All (IsWhollySound L) (symbols_from c.args.number (loaded_view c.args.loaded.now) 0 c.symbols-entries.result.now)) c.loop-j.invariant c.if-not-is_wholly_sound.true)

pub loop-j-preserved : goal.loop-j-preserved
loop-j-preserved c =
    let L = loaded_views c.args.objects.now in
    sound_more (IsWhollySound L) c.args.number (loaded_view c.args.loaded.now) c.symbols-entries.result.now c.loop-j.j null_symbol (subst (λ n. c.loop-j.j < n) c.len-j-end.ensures c.loop-j-test.true)
    c.is_wholly_sound.result (rw c.at-entry.ensures at c.is_wholly_sound.ensures)
    (All (IsWhollySound L) (symbols_from c.args.number (loaded_view c.args.loaded.now) 0 c.symbols-entries.result.now)) c.loop-j.invariant c.if-not-is_wholly_sound.false

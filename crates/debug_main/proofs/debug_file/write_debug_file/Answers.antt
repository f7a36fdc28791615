use Rattle.std.proofs.Common.{List, ℕ, ap, subst}
use Rattle.image_write.proofs.StreamLaws.{whatever}
use Rattle.image_write.specs.Streams.{Took, TookPart}
use Rattle.debug_image.specs.DebugLayouts.{data_in}
use Rattle.debug_image.specs.DebugValues.{all_bytes}
use Rattle.debug_image.specs.DebugViews.{chunk_views}
use Rattle.debug_main.proofs.Devices.{part_first, part_then}
use Rattle.debug_main.proofs.debug_file.write_debug_file.Goals as goal

pub returns-in_err-put_all-clause-part : goal.returns-in_err-put_all-clause-part
returns-in_err-put_all-clause-part g c =
    let part =
    subst (λ (l : List ℕ). TookPart (g.S.Sink.told c.args.sink.now) l (g.S.Sink.told c.put_all.new.sink)) c.deref.ensures.value c.in_err-put_all.ensures.part in
    whatever _ c.from_residual.result (part_first _ _ _ _ part)

pub returns-in_err-write_chunks-clause-part : goal.returns-in_err-write_chunks-clause-part
returns-in_err-write_chunks-clause-part g c =
    let front =
    subst (λ (l : List ℕ). Took (g.S.Sink.told c.args.sink.now) l (g.S.Sink.told c.put_all.new.sink)) c.deref.ensures.value c.in_ok-put_all.ensures.took in
    let part =
    subst (λ (l : List ℕ). TookPart (g.S.Sink.told c.put_all.new.sink) l (g.S.Sink.told c.write_chunks.new.sink))
    (ap (λ cs. all_bytes (data_in c.args.layout.now) (chunk_views cs)) c.deref-2.ensures.value) c.in_err-write_chunks.ensures.part in
    whatever _ c.from_residual-in_err-write_chunks.result (part_then _ _ _ _ _ front (part_first _ _ _ _ part))

pub returns-in_err-put_all-2-clause-part : goal.returns-in_err-put_all-2-clause-part
returns-in_err-put_all-2-clause-part g c =
    let front =
    subst (λ (l : List ℕ). Took (g.S.Sink.told c.args.sink.now) l (g.S.Sink.told c.put_all.new.sink)) c.deref.ensures.value c.in_ok-put_all.ensures.took in
    let chunks =
    subst (λ (l : List ℕ). Took (g.S.Sink.told c.put_all.new.sink) l (g.S.Sink.told c.write_chunks.new.sink))
    (ap (λ cs. all_bytes (data_in c.args.layout.now) (chunk_views cs)) c.deref-2.ensures.value) c.in_ok-write_chunks.ensures.took in
    let part =
    subst (λ (l : List ℕ). TookPart (g.S.Sink.told c.write_chunks.new.sink) l (g.S.Sink.told c.put_all-2.new.sink)) c.deref-3.ensures.value
    c.in_err-put_all-2.ensures.part in
    whatever _ c.from_residual-in_err-put_all-2.result (part_then _ _ _ _ _ front (part_then _ _ _ _ _ chunks part))

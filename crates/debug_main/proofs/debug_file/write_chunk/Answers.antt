use Rattle.std.proofs.Common.{List, ℕ, ◌∙◌, subst}
use Rattle.image_write.proofs.StreamLaws.{took_more, whatever}
use Rattle.image_write.specs.Streams.{Took, TookPart}
use Rattle.debug_main.proofs.Devices.{part_all, part_first, part_none, part_then}
use Rattle.debug_main.proofs.debug_file.write_chunk.Goals as goal

pub returns-in_err-made-clause-part : goal.returns-in_err-made-clause-part
returns-in_err-made-clause-part g c = whatever _ c.from_residual.result (part_none _ _)

pub returns-in_err-pass-clause-part : goal.returns-in_err-pass-clause-part
returns-in_err-pass-clause-part g c = whatever _ c.from_residual-in_err-pass.result (part_first _ _ _ _ c.in_err-pass.ensures.refused)

pub returns-in_err-put_all-clause-part : goal.returns-in_err-put_all-clause-part
returns-in_err-put_all-clause-part g c =
    whatever _ c.from_residual-in_err-put_all.result
    (part_then _ _ _ _ _ c.in_ok-pass.ensures.took
    (subst (λ (bytes : List ℕ). TookPart (g.S.Sink.told c.pass.new.self) bytes (g.S.Sink.told c.put_all.new.sink)) (c.deref.ensures.value ∙ c.in_ok-made.ensures.bytes)
    c.in_err-put_all.ensures.part))

pub returns-in_err-add_left-clause-part : goal.returns-in_err-add_left-clause-part
returns-in_err-add_left-clause-part g c =
    whatever _ c.from_residual-in_err-add_left.result
    (part_all _ _ _ (took_more _ _ _ _ _ c.in_ok-pass.ensures.took
    (subst (λ (bytes : List ℕ). Took (g.S.Sink.told c.pass.new.self) bytes (g.S.Sink.told c.put_all.new.sink)) (c.deref.ensures.value ∙ c.in_ok-made.ensures.bytes)
    c.in_ok-put_all.ensures.took)))

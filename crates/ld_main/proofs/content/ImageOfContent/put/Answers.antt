use Rattle.std.proofs.Common.{◌≡◌, ℕ, ◌+◌, List, [], ◌++◌, refl, ◌∙◌}
use Rattle.std.specs.Prelude.{Option, Ok, Err, IfErr, OnErr, Result}
use Rattle.image_write.proofs.StreamLaws.{took_nothing}
use Rattle.image_write.specs.Streams.{TookPart, WriteFails}
use Rattle.image_write.specs.declared.sink.WriteFault.{WriteFault}
use Rattle.image_write.specs.declared.sink.WriteFault.TheVariants.{Memory, Device}
use Rattle.ld_main.proofs.content.ImageOfContent.put.Goals as goal

-- a device that isn't given the whole has a beginning of it
fails_part :
    {X : Type 0} (old new : Option (List ℕ)) (failed later : ℕ) (bytes : List ℕ) (r : Result X WriteFault) →
    IfErr r (WriteFails old failed bytes new later) → OnErr r (TookPart old bytes new)
fails_part old new failed later bytes (Ok x) fails = tt
fails_part old new failed later bytes (Err Memory) fails = record { front = []; rest = bytes; parts = refl; took = fails.0 ∙ took_nothing old }
fails_part old new failed later bytes (Err Device) fails = fails.0

pub returns-clause-part : goal.returns-clause-part
returns-clause-part g c = fails_part _ _ _ _ _ c.write_image-done.result c.write_image-done.ensures.fault

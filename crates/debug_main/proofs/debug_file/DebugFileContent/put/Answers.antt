use Rattle.std.proofs.Common.{List, ℕ, refl, subst, sym}
use Rattle.std.specs.Prelude.{None, Option, Some}
use Rattle.std.specs.Io.KnownBytes.{Appends}
use Rattle.std.proofs.lemmas.Result.{on_ok_weaker}
use Rattle.image_write.specs.Streams.{Took}
use Rattle.debug_main.proofs.debug_file.DebugFileContent.put.Goals as goal

-- what is taken is appended
appends : (old new : Option (List ℕ)) (bytes : List ℕ) → Took old bytes new → Appends old new bytes
appends None new bytes took = tt
appends (Some t) new bytes took = subst (λ (o : Option (List ℕ)). Appends (Some t) o bytes) (sym took) refl

pub returns-clause-written : goal.returns-clause-written
returns-clause-written g c =
    on_ok_weaker c.write_debug_file-done.result (λ took. (_, refl, appends _ _ _ took)) c.write_debug_file-done.ensures.written

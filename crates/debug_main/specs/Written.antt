-- How much of some sections of debug data a device has.
use Rattle.std.specs.Prelude.{◌≡◌, ℕ, List, ◌++◌, Option, drop}
use Rattle.image_write.specs.Streams.{Took}
use Rattle.debug_image.specs.DebugValues.{Data, all_bytes}
use Rattle.debug_image.specs.DebugViews.{chunk_views}
use Rattle.debug_image.specs.declared.chunks.Chunk.{Chunk}

-- a device has those before number k
pub record Written (d : Data) (cs : List Chunk) (k : ℕ) (old new : Option (List ℕ)) : Type 0 where
  pub front : List ℕ
  pub parts : all_bytes d (chunk_views cs) ≡ front ++ all_bytes d (chunk_views (drop k cs))
  pub took : Took old front new

-- Bytes that go to a device through a buffer: what the device was given of them, and what the buffer still holds.
use Rattle.std.specs.Prelude.{◌≡◌, ℕ, ◌+◌, List, ◌++◌, Option, Result, OnErr, OnOk}
use Rattle.std.specs.Option.{option_map}
use Rattle.image_write.specs.declared.sink.WriteFault.{WriteFault}
use Rattle.image_write.specs.declared.sink.WriteFault.TheVariants.{Memory, Device}

-- a device that tells the bytes that it took has taken these more; one that doesn't tell still tells nothing
abbrev pub Took : Option (List ℕ) → List ℕ → Option (List ℕ) → Type 0
Took old bytes new = new ≡ option_map (λ t. t ++ bytes) old

-- of some bytes the device has taken the first ones
pub record TookPart (old : Option (List ℕ)) (bytes : List ℕ) (new : Option (List ℕ)) : Type 0 where
  pub front : List ℕ
  pub rest : List ℕ
  pub parts : bytes ≡ front ++ rest
  pub took : Took old front new

-- what the device has taken of an image that isn't written as a whole, and how often it has failed then
abbrev pub WriteFails : Option (List ℕ) → ℕ → List ℕ → Option (List ℕ) → ℕ → WriteFault → Type 0
WriteFails old failed bytes new later Memory = (new ≡ old) × (later ≡ failed)
WriteFails old failed bytes new later Device = TookPart old bytes new × (later ≡ failed + 1)

-- what the device tells, the bytes in the buffer, and the number of the device's failures
pub record Stream : Type 0 where
  pub told : Option (List ℕ)
  pub held : List ℕ
  pub failed : ℕ

-- of the bytes in the buffer, followed by further ones, the device has taken the first, and the rest is left
pub record Moves (old : Stream) (bytes : List ℕ) (told : Option (List ℕ)) (rest : List ℕ) : Type 0 where
  pub front : List ℕ
  pub took : Took old.told front told
  pub parts : old.held ++ bytes ≡ front ++ rest

-- the stream has grown by bytes: what the device hasn't taken of them is in the buffer
pub record Grows (old : Stream) (bytes : List ℕ) (new : Stream) : Type 0 where
  pub moves : Moves old bytes new.told new.held
  pub failed : new.failed ≡ old.failed

-- the device has failed once more, and has taken the first of the bytes
pub record Breaks (old : Stream) (bytes : List ℕ) (new : Stream) : Type 0 where
  pub rest : List ℕ
  pub moves : Moves old bytes new.told rest
  pub failed : new.failed ≡ old.failed + 1

-- what putting bytes into a stream comes to
pub record Puts {X E : Type 0} (old : Stream) (bytes : List ℕ) (r : Result X E) (new : Stream) : Type 0 where
  pub grows : OnOk r (Grows old bytes new)
  pub breaks : OnErr r (Breaks old bytes new)

abbrev pub stream : Option (List ℕ) → List ℕ → ℕ → Stream
stream told held failed = record { told = told; held = held; failed = failed }

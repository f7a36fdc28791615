-- Values that the bytes of a field tell whole.
use Rattle.std.specs.Prelude.{◌≡◌, ◌⊎◌, ℕ, ◌^◌, ◌<◌}
use Rattle.elf_model.specs.Link.Relocation.{IsSigned}

-- a value of 64 bits is told by a field of a width in bytes: by four where it is a signed number of these, by eight always
pub record IsWord (v : ℕ) : Type 0 where
  pub signed : IsSigned 32 v
  pub low : v < 2 ^ 64

abbrev pub IsShown : ℕ → ℕ → Type 0
IsShown width v = ((width ≡ 4) × IsWord v) ⊎ ((width ≡ 8) × (v < 2 ^ 64))

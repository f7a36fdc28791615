-- What the eighth clause asks of an image, where pieces and the GOT are placed.
use Rattle.std.specs.Prelude.{◌≡◌, ℕ, ◌≤◌, ◌++◌, Bool, true, not, List, Option, All, filter, map}
use Rattle.elf_model.specs.Link.LinkerValues.{end_of_pieces}
use Rattle.elf_model.specs.Image.MemoryImage.{loads, thread_blocks}
use Rattle.elf_model.specs.Link.Pieces.{is_thread_zero}
use Rattle.elf_model.specs.Link.Placement.{Placed, got_things, is_thread_place, thing_of}
use Rattle.elf_model.specs.Image.RightLink.{HoldsInitial, IsClearOf}
use Rattle.elf_model.specs.Link.ThreadStorage.{is_thread_data, thread_headers}
use Rattle.elf_model.specs.declared.link_map.GotLine.{GotLine}
use Rattle.elf_model.specs.declared.thing.Thing.{Thing}

abbrev pub is_other_place : Placed → Bool
is_other_place q = not (is_thread_place q)

-- the GOT, and the pieces that aren't thread-local
abbrev pub other_things : Option GotLine → List Placed → List Thing
other_things got qs = got_things got ++ map thing_of (filter is_other_place qs)

-- a piece that isn't thread-local has no address from one address on and below another; and neither has such a piece nor
-- the GOT
abbrev pub IsPlaceClear : ℕ → ℕ → Placed → Type 0
IsPlaceClear start end q = is_other_place q ≡ true → IsClearOf start end (thing_of q)

abbrev pub AreOthersClear : ℕ → ℕ → Option GotLine → List Placed → Type 0
AreOthersClear start end got qs = All (IsClearOf start end) (other_things got qs)

-- a piece begins at or after an address if it is thread-local and has no bytes
abbrev pub BeginsAfter : ℕ → Placed → Type 0
BeginsAfter end q = is_thread_zero q.piece ≡ true → end ≤ q.at

pub record IsBlockRight (base : ℕ) (got : Option GotLine) (qs : List Placed) (image : List ℕ) : Type 0 where
  pub headers : thread_blocks image ≡ thread_headers base qs
  pub before : All (BeginsAfter (end_of_pieces is_thread_data qs)) qs
  pub clear : All (λ h. AreOthersClear h.p_vaddr (end_of_pieces is_thread_data qs) got qs) (thread_blocks image)
  pub held : All (HoldsInitial (loads image)) (thread_blocks image)

-- Where a file is no archive.
use Rattle.std.specs.Prelude.{◌≡◌, ◌⊎◌, ◌<◌, ℕ, true, false, List, [], Contains}
use Rattle.elf_model.specs.Inputs.ArchiveFile.{IsShortName, StoredMember, header_offsets, is_index, is_long_names, stored_member}
use Rattle.elf_model.specs.declared.faults.ArFault.{ArFault}
use Rattle.elf_model.specs.declared.faults.ArFault.TheVariants as fault
use Rattle.ar_index.specs.Reading.{IsFaultAt, IsLongNameField}

-- a member of a name field alone
abbrev pub named : List ℕ → StoredMember
named name = record { offset = 0; name = name; bytes = [] }

-- a member's name field is none of an index, of the long names, of a short name and of a long one
pub record IsNameless (m : StoredMember) : Type 0 where
  pub no_index : is_index m ≡ false
  pub no_long_names : is_long_names m ≡ false
  pub no_short : ¬ IsShortName m.name
  pub no_long : ¬ IsLongNameField m.name

-- the member whose header is at an offset is an index, and not the first member; or it has no name
abbrev pub IsMisnamed : List ℕ → ℕ → ArFault → Type 0
IsMisnamed bytes at fault.BadIndex = (8 < at) × (is_index (stored_member bytes at) ≡ true)
IsMisnamed bytes at fault.BadName = IsNameless (stored_member bytes at)
IsMisnamed bytes at _ = ⊥

-- a header is due at an offset, and its member has a fault: it isn't whole, its header is bad, or its name
pub record IsBadMember (bytes : List ℕ) (f : ArFault) (at : ℕ) : Type 0 where
  pub there : Contains (header_offsets bytes) at
  pub bad : IsFaultAt bytes at f ⊎ IsMisnamed bytes at f

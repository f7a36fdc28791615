-- Two archives written out: that of no members, and that of one with three bytes, so with a pad byte.
use Rattle.std.proofs.Common.{◌≡◌, ℕ, zero, suc, List, [], ◌∷◌, ◌++◌, refl, arith}
use Rattle.std.specs.Prelude.{EachIndex, codes, length, slice_index_or, take}
use Rattle.elf_model.specs.Inputs.ArchiveFile.{StoredMember, null_member, stored_members}
use Rattle.archive_law.specs.ArchiveText.{IsMemberText, SpellsMembers, archive_of}

-- the magic alone spells no members
no_members : SpellsMembers (codes "!<arch>\n") []
no_members = record { texts = []; spelled = refl; each = tt; offsets = λ k within. absurd (omega (arith, within)) }

-- a member `a.o` with the bytes `abc`
abbrev name : List ℕ
name = codes "a.o/            "

abbrev header : List ℕ
header = codes "a.o/            0           0     0     100644  3         `\n"

abbrev member : StoredMember
member = record { offset = 8; name = name; bytes = codes "abc" }

one_text : IsMemberText member (header ++ codes "abc\n")
one_text = record {
  unread = codes "0           0     0     100644  ";
  size = codes "3         ";
  spelled = refl;
  name_length = refl;
  unread_length = refl;
  size_length = refl;
  decimal = refl;
  count = refl;
}

abbrev archive : List ℕ
archive = codes "!<arch>\n" ++ header ++ codes "abc\n"

first_begins : EachIndex (member ∷ []) (λ k. (slice_index_or (member ∷ []) k null_member).offset ≡ length (archive_of (take k ((header ++ codes "abc\n") ∷ []))))
first_begins = elim [ zero ↦ λ within. refl | suc k ↦ λ within. absurd (omega (arith, within)) ]

one_member : SpellsMembers archive (member ∷ [])
one_member = record { texts = (header ++ codes "abc\n") ∷ []; spelled = refl; each = (one_text, tt); offsets = first_begins }

-- the walk reads it so
walk_reads : stored_members archive ≡ member ∷ []
walk_reads = refl

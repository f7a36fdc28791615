-- Faults that are passed on or found in what was read, and what an archive leaves of them.
use Rattle.std.proofs.Common.{◌≡◌, ℕ, ◌<◌, ◌≤◌, ◌⊎◌, inl, inr, List, [], Option, Result, Ok, Err, length, refl, ap, sym, subst, ◌∙◌, arith}
use Rattle.std.specs.Prelude.{All, IfErr, IsSome, unwrap_or}
use Rattle.std.proofs.lemmas.Bool.{cases_lt}
use Rattle.std.proofs.lemmas.List.Elements.{All-nil}
use Rattle.elf_model.specs.Inputs.ArchiveFile.{ArFaultStands, HasIndexData, HasMagic, IndexEntry, IsArchive, IsIntact, IsKnownUpTo, Member, NamesMember, StoredMember, data_of, entries_of, header_offsets, index, index_in, members}
use Rattle.elf_model.specs.declared.faults.ArFault.{ArFault}
use Rattle.elf_model.specs.declared.faults.ArFault.TheVariants as fault
use Rattle.ar_index.specs.Reading.{IsIndexFault, IsPassed}
use Rattle.ar_index.proofs.Walk.{first_header, no_headers}

-- what `?` returns of a fault that stands
pub passed : {X : Type 0} (bytes : List ℕ) (r : Result X ArFault) (f : ArFault) → (y : ArFault) × (r ≡ Err y) × (y ≡ f) → ArFaultStands bytes f
    → IfErr r (ArFaultStands bytes)
passed {X} bytes r f out stands = subst (λ (q : Result X ArFault). IfErr q (ArFaultStands bytes)) (sym (out.1 ∙ ap Err out.2)) stands

-- of an archive no fault stands but want of memory
pub only : (bytes : List ℕ) (f : ArFault) → IsArchive bytes → ArFaultStands bytes f → f ≡ fault.Memory
only bytes fault.Memory a s = refl
only bytes fault.NotArchive a s = absurd (s a.magic)
only bytes fault.Truncated a s = absurd (s.1 a.whole)
only bytes fault.BadHeader a s = absurd (s.1 a.headers)
only bytes fault.BadIndex a s = absurd (elim s.1 [
  | inl place ↦ place a.index.first
  | inr other ↦ elim other [
    | inl form ↦ form.1 a.index.form
    | inr entries ↦ entries.1 (λ k d within known. a.index.entries k d within)
  ]
])
only bytes fault.BadName a s = absurd (s.1 a.names)
only bytes fault.TooMany a s = absurd (omega (arith, a.size))

pub only_memory : {X : Type 0} (bytes : List ℕ) (r : Result X ArFault) → IfErr r (ArFaultStands bytes) → IsArchive bytes → IfErr r (λ f. f ≡ fault.Memory)
only_memory bytes (Ok x) stands a = stands
only_memory bytes (Err f) stands a = only bytes f a stands

-- where all headers were passed, every member is intact
module _ (bytes : List ℕ) (kept : List StoredMember) (all : IsPassed bytes kept) where
  intact : All (IsIntact bytes) (header_offsets bytes)
  intact k d within = let readable = all.readable k d within in record { readable = readable; inside = (all.whole k d within).data_and_pad readable }

  pub known : (offset : ℕ) → IsKnownUpTo bytes offset
  known offset k d within below = intact k d within

  first_intact : 8 < length bytes → IsIntact bytes 8
  first_intact inside = first_header (IsIntact bytes) bytes inside intact

  -- a fault of the index's data is one of the file
  pub index_fails : (f : ArFault) → HasMagic bytes → IsIndexFault (HasIndexData kept) f → ArFaultStands bytes f
  index_fails fault.Memory magic stands = tt
  index_fails fault.NotArchive magic stands = absurd stands
  index_fails fault.Truncated magic stands = absurd stands
  index_fails fault.BadHeader magic stands = absurd stands
  index_fails fault.BadIndex magic stands = by (cases_lt 8 (length bytes)) where
    by : (8 < length bytes) ⊎ (length bytes ≤ 8) → ArFaultStands bytes fault.BadIndex
    by (inl inside) = (magic, inr (inl (first_intact inside, subst (λ (ms : List StoredMember). ¬ HasIndexData ms) all.members stands)))
    by (inr few) = absurd (stands (subst HasIndexData (sym (all.members ∙ no_headers bytes few)) tt))
  index_fails fault.BadName magic stands = absurd stands
  index_fails fault.TooMany magic stands = absurd stands

  -- an entry that names no member is a fault of the file
  pub entries_fail : HasMagic bytes → (¬ All (NamesMember bytes) (entries_of bytes)) → ArFaultStands bytes fault.BadIndex
  entries_fail magic never = by (cases_lt 8 (length bytes)) where
    by : (8 < length bytes) ⊎ (length bytes ≤ 8) → ArFaultStands bytes fault.BadIndex
    by (inl inside) = (magic, inr (inr (first_intact inside, λ each. never (λ k d within. each k d within (known _)))))
    by (inr few) = absurd (never (subst (λ (ms : List StoredMember). All (NamesMember bytes) (unwrap_or (index_in ms) [])) (sym (no_headers bytes few)) (All-nil (NamesMember bytes))))

-- entries and members that were read
pub entries_of_members : (bytes : List ℕ) (ms : List Member) (entries : Option (List IndexEntry)) → ms ≡ members bytes → entries ≡ index bytes
    → All (NamesMember bytes) (entries_of bytes) → All (λ e. IsSome (data_of ms e.offset)) (unwrap_or entries [])
entries_of_members bytes ms entries members_are index_is each =
    subst (λ (o : Option (List IndexEntry)). All (λ e. IsSome (data_of ms e.offset)) (unwrap_or o [])) (sym index_is)
    (subst (λ (xs : List Member). All (λ e. IsSome (data_of xs e.offset)) (entries_of bytes)) (sym members_are) each)

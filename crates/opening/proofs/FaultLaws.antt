-- Faults of archives as those of items, and what they deny.
use Rattle.std.proofs.Common.{◌≡◌, ℕ, List, true, false, true≢false, ◌∙◌, refl, subst, sym}
use Rattle.std.specs.Prelude.{◌≢◌, All, Any}
use Rattle.std.proofs.lemmas.List.Elements.{All-contains}
use Rattle.elf_model.specs.Inputs.ArchiveFile.{ArFaultStands, IsArchive}
use Rattle.elf_model.specs.Own.Causes.{IsBadArchive, IsWithoutIndex}
use Rattle.elf_model.specs.Inputs.Command.{Plan}
use Rattle.elf_model.specs.Inputs.Files.{File}
use Rattle.elf_model.specs.Inputs.Opening.{AreFilesThere, Opened, lacks_index, opened}
use Rattle.elf_model.specs.declared.faults.ArFault.{ArFault}
use Rattle.elf_model.specs.declared.faults.ArFault.TheVariants as archive_fault
use Rattle.ar_index.proofs.Steps.{only}
use Rattle.opening.specs.Faults.{AreUnsearchable, IsSearchable, IsUnsearchable, ReadsBadly, of_archive}
use Rattle.opening.specs.declared.faults.OpenFault.{OpenFault}
use Rattle.opening.specs.declared.faults.OpenFault.TheVariants as error

pub archive_fails : (o : Opened) (f : ArFault) → o.archive ≡ true → ArFaultStands o.bytes f → IsUnsearchable (of_archive f) o
archive_fails o archive_fault.Memory a s = tt
archive_fails o archive_fault.NotArchive a s = (λ m. cc, (a, s))
archive_fails o archive_fault.Truncated a s = (λ m. cc, (a, s))
archive_fails o archive_fault.BadHeader a s = (λ m. cc, (a, s))
archive_fails o archive_fault.BadIndex a s = (λ m. cc, (a, s))
archive_fails o archive_fault.BadName a s = (λ m. cc, (a, s))
archive_fails o archive_fault.TooMany a s = (λ m. cc, (a, s))

-- faults of archives as those of the items of a plan
pub unsearchable_fails : (files : List File) (plan : Plan) (os : List Opened) (e : OpenFault) → os ≡ opened files plan → AreFilesThere files plan →
    AreUnsearchable os e → ReadsBadly files plan e
unsearchable_fails files plan os error.Memory same there s = tt
unsearchable_fails files plan os (error.BadArchive f) same there s =
    let at = subst (Any (IsUnsearchable (error.BadArchive f))) same s in
    (there, at.4.0, (at.0, at.1, at.2, at.3, at.4.1))
unsearchable_fails files plan os error.NoIndex same there s = (there, subst (Any (IsUnsearchable error.NoIndex)) same s)
unsearchable_fails files plan os error.FileMissing same there s = absurd s.4

excluded : {X : Type 0} (P Q : X → Type 0) (xs : List X) → Any P xs → All Q xs → ((x : X) → P x → Q x → ⊥) → ⊥
excluded P Q xs some all not = not some.1 some.4 (All-contains Q xs some.1 all (some.0, some.2, some.3))

-- items that can't be read aren't searchable
pub not_searchable : (files : List File) (plan : Plan) (e : OpenFault) → e ≢ error.Memory → ReadsBadly files plan e → IsSearchable files plan → ⊥
not_searchable files plan error.Memory some s there = some refl
not_searchable files plan error.FileMissing some s there = s there.files_are
not_searchable files plan (error.BadArchive f) some s there =
    excluded (IsBadArchive f) (λ o. o.archive ≡ true → IsArchive o.bytes) (opened files plan) s.2 there.archives
    (λ o bad is. s.1 (only o.bytes f (is bad.0) bad.1))
not_searchable files plan error.NoIndex some s there =
    excluded IsWithoutIndex (λ o. o.archive ≡ true → lacks_index o ≡ false) (opened files plan) s.1 there.indexes
    (λ o bad is. true≢false (sym bad.2 ∙ is bad.0))

-- A fact of a member, by what was read of it; and what entries of an index name.
use Rattle.std.proofs.Common.{◌≡◌, ◌<◌, ℕ, Bool, List, get_or, length, None, Option, Some, refl, subst, sym}
use Rattle.std.proofs.lemmas.Option.{slice_get_read}
use Rattle.std.specs.Prelude.{IfSome, IsSomeAnd}
use Rattle.std.specs.List.{slice_get}
use Rattle.elf_model.specs.Inputs.ArchiveFile.{IndexEntry}
use Rattle.elf_model.specs.Inputs.ObjectFile.{IsObject}
use Rattle.elf_model.specs.Inputs.Opening.{Opened, archive_data}
use Rattle.elf_model.specs.Link.Loading.{LoadedObject, is_taken}
use Rattle.archive_notes.specs.ArchiveNotes.{IsFact, IsNoteIn, IsTold, Stands}
use Rattle.archive_notes.specs.declared.note.ArchiveFact.{ArchiveFact}
use Rattle.archive_notes.specs.declared.note.ArchiveNote.{ArchiveNote}

pub fact_of :
    (objects : List LoadedObject) (item : Opened) (name : List ℕ) (offset : ℕ) (f : ArchiveFact) (bytes : List ℕ) (taken : Bool) →
    bytes ≡ archive_data item.bytes offset → taken ≡ is_taken objects item.number offset → IsObject bytes → Stands taken bytes name f →
    IsFact objects item name offset f
fact_of objects item name offset f bytes taken is told o s = record {
  object = subst IsObject is o;
  stands = subst (λ (b : Bool). Stands b (archive_data item.bytes offset) name f) told (subst (λ (d : List ℕ). Stands taken d name f) is s);
}

-- the entry that is read by its number
pub entry_there : (es all : List IndexEntry) (i : ℕ) (e : IndexEntry) → es ≡ all → i < length es → e ≡ get_or es i e → slice_get all i ≡ Some e
entry_there es all i e is inside read = subst (λ (l : List IndexEntry). slice_get l i ≡ Some e) is (slice_get_read es (length es) i e refl inside read)

-- one that isn't so, and one that is
pub no_entry : (es : List IndexEntry) (i : ℕ) (e : IndexEntry) (P : IndexEntry → Type 0) → slice_get es i ≡ Some e → ¬ P e → ¬ IsSomeAnd (slice_get es i) P
no_entry es i e P is none = λ p. none (subst (λ (o : Option IndexEntry). IsSomeAnd o P) is p)

pub some_entry : (es : List IndexEntry) (i : ℕ) (e : IndexEntry) (P : IndexEntry → Type 0) → slice_get es i ≡ Some e → P e → IsSomeAnd (slice_get es i) P
some_entry es i e P is there = subst (λ (o : Option IndexEntry). IsSomeAnd o P) (sym is) there

-- what is told of a name is a note
pub is_note :
    (objects : List LoadedObject) (items : List Opened) (name : List ℕ) (o : Option ArchiveNote) → IsTold objects items name o →
    IfSome o (IsNoteIn objects items)
is_note objects items name (Some n) told = told.so.1
is_note objects items name None told = tt

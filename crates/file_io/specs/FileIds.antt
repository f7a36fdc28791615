-- Which file a path is of, and which of the files that are read will be written.
use Rattle.std.specs.Prelude.{◌≡◌, ℕ, List, Option, Some, None, All, Any}
use Rattle.std.specs.Borrow.{Bor}
use Rattle.file_io.specs.declared.file_ids.FileId.{FileId}
use Rattle.file_io.specs.declared.file_ids.OutputPath.{OutputPath}

-- two paths are of one file: by device and number where both are told, else by themselves
abbrev pub IsSame : Option FileId → Option FileId → List ℕ → List ℕ → Type 0
IsSame (Some a) (Some b) own path = (a.device ≡ b.device) × (a.inode ≡ b.inode)
IsSame (Some a) None own path = own ≡ path
IsSame None id own path = own ≡ path

-- a path that is written is that of a file that is read
abbrev pub IsRead : OutputPath → List ℕ → Option FileId → Type 0
IsRead output path id = IsSame output.id id output.path.now path

-- such a path is this one
abbrev pub Tells : List ℕ → Option FileId → List ℕ → OutputPath → Type 0
Tells path id told output = IsRead output path id × (output.path.now ≡ told)

-- a path that is written and that is a file that is read is told, or none where there is none
abbrev pub IsOverwritten : List OutputPath → List ℕ → Option FileId → Option (Bor (List ℕ)) → Type 0
IsOverwritten outputs path id None = All (λ o. IsRead o path id → ⊥) outputs
IsOverwritten outputs path id (Some told) = Any (Tells path id told.now) outputs

-- Files gathered one after the other.
use Rattle.std.proofs.Common.{◌≡◌, ◌+◌, List, [], ◌∷◌, ◌++◌, ℕ, String, Global, refl, sym, ◌∙◌, ap, append_assoc, subst}
use Rattle.std.specs.Prelude.{Option, Some, None, string_bytes}
use Rattle.std.proofs.lemmas.List.{append-nil, map-append}
use Rattle.elf_model.specs.Inputs.Files.{File, words_of}
use Rattle.file_io.specs.Sources.{AddFails, AddsFile, AreGathered, Disk, GatherFails, IsPath, file_at, gathered}
use Rattle.file_io.specs.declared.file_source.GatherFault.{GatherFault}
use Rattle.file_io.specs.declared.file_source.GatherFault.TheVariants as gather_fault

gathered-append : (disk : Disk) (xs ys : List (List ℕ)) → gathered disk (xs ++ ys) ≡ gathered disk xs ++ gathered disk ys
gathered-append disk [] ys = refl
gathered-append disk (x ∷ xs) ys =
    ap (λ (fs : List File). file_at disk x ++ fs) (gathered-append disk xs ys) ∙ sym (append_assoc (file_at disk x) (gathered disk xs) (gathered disk ys))

pub gathered_more :
    (told : Option Disk) (paths : List (List ℕ)) (path : List ℕ) (old new : List File) →
    AreGathered told paths old → AddsFile told path old new → AreGathered told (paths ++ path ∷ []) new
gathered_more None paths path old new before more = tt
gathered_more (Some disk) paths path old new before more =
    more
    ∙ (ap (λ (fs : List File). fs ++ file_at disk path) before
    ∙ (ap (λ (fs : List File). gathered disk paths ++ fs) (sym (append-nil (file_at disk path))) ∙ sym (gathered-append disk paths (path ∷ []))))

-- a path that comes next
pub next_path :
    (xs ys zs : List (String Global)) (x : String Global) → zs ≡ xs ++ (x ∷ ys) → IsPath (words_of zs) (string_bytes x)
next_path xs ys zs x is = record {
  front = words_of xs;
  rest = words_of ys;
  parts = ap words_of is ∙ map-append string_bytes xs (x ∷ ys);
}

-- a file that isn't added is one of those that are asked for
pub gather_fails :
    (paths : List (List ℕ)) (path : List ℕ) (f : GatherFault) (old new first : ℕ) → IsPath paths path → old ≡ first →
    AddFails path f old new → GatherFails paths f first new
gather_fails paths path gather_fault.Memory old new first is same fails = fails ∙ same
gather_fails paths path (gather_fault.CannotRead name) old new first is same fails =
    (fails.0 ∙ ap (λ (n : ℕ). n + 1) same, subst (IsPath paths) (sym fails.1) is)

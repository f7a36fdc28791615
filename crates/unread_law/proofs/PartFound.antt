-- The file at a path, among files of which some were read in part and among those of which they were read.
use Rattle.std.proofs.Common.{◌≡◌, ◌⊎◌, inl, inr, ℕ, Bool, true, false, cond, List, [], ◌∷◌, ◌++◌, Option, None, Some, map, refl, sym, ◌∙◌, ap, subst}
use Rattle.std.specs.Prelude.{find, option_map}
use Rattle.std.specs.List.{AllZip}
use Rattle.std.specs.Str.{bytes_eq}
use Rattle.std.proofs.lemmas.Option.{none-some}
use Rattle.ar_index.specs.Parts.{AreReadOf, Part, PartialFile, file_of_parts, part_bytes}
use Rattle.elf_model.specs.Inputs.Files.{File}
use Rattle.elf_model.specs.Inputs.Opening.{file_named}
use Rattle.opening.specs.Held.{is_part_named}
use Rattle.unread_law.specs.PartFiles.{IsFileOf}

-- the bytes are the same, or were read in part of the others
abbrev pub AreBytesOf : List ℕ → List ℕ → Type 0
AreBytesOf a b = (a ≡ b) ⊎ ((ps : List Part) × (a ≡ part_bytes ps) × AreReadOf ps b)

abbrev pub FoundAlike : Option (List ℕ) → Option (List ℕ) → Type 0
FoundAlike None None = Unit {0}
FoundAlike (Some a) (Some b) = AreBytesOf a b
FoundAlike _ _ = ⊥

same_alike : (o : Option (List ℕ)) → FoundAlike o o
same_alike None = tt
same_alike (Some a) = inl refl

module _ (wholes : List File) where
  abbrev held : List PartialFile → List File
  held parts = map file_of_parts parts ++ wholes

  abbrev first : Bool → File → List File → List ℕ → Option (List ℕ)
  first b f fs path = option_map (λ g. g.bytes) (cond b (Some f) (find (λ g. bytes_eq g.name path) fs))

  pub names_same : (parts : List PartialFile) (read : List File) → AllZip IsFileOf parts read
      → map (λ f. f.name) (held parts) ≡ map (λ f. f.name) (read ++ wholes)
  names_same [] [] zip = refl
  names_same [] (f ∷ fs) zip = absurd zip
  names_same (p ∷ ps) [] zip = absurd zip
  names_same (p ∷ ps) (f ∷ fs) zip = (λ i. zip.0.0 i ∷ names_same ps fs zip.1 i)

  pub found_alike : (path : List ℕ) (parts : List PartialFile) (read : List File) → AllZip IsFileOf parts read
      → FoundAlike (file_named (held parts) path) (file_named (read ++ wholes) path)
  found_alike path [] [] zip = same_alike (file_named wholes path)
  found_alike path [] (f ∷ fs) zip = absurd zip
  found_alike path (p ∷ ps) [] zip = absurd zip
  found_alike path (p ∷ ps) (f ∷ fs) zip = by (bytes_eq p.name path) refl (found_alike path ps fs zip.1)
    where
      by : (b : Bool) → bytes_eq p.name path ≡ b → FoundAlike (file_named (held ps) path) (file_named (fs ++ wholes) path)
          → FoundAlike (file_named (held (p ∷ ps)) path) (file_named ((f ∷ fs) ++ wholes) path)
      by true is rest =
          let one : file_named (held (p ∷ ps)) path ≡ Some (part_bytes p.members) = ap (λ (c : Bool). first c (file_of_parts p) (held ps) path) is in
          let other : file_named ((f ∷ fs) ++ wholes) path ≡ Some f.bytes =
          ap (λ (c : Bool). first c f (fs ++ wholes) path) (ap (λ (n : List ℕ). bytes_eq n path) (sym zip.0.0) ∙ is) in
          subst (λ (x : Option (List ℕ)). FoundAlike x (file_named ((f ∷ fs) ++ wholes) path)) (sym one)
          (subst (FoundAlike (Some (part_bytes p.members))) (sym other) (inr (p.members, refl, zip.0.1)))
      by false is rest =
          let one : file_named (held (p ∷ ps)) path ≡ file_named (held ps) path = ap (λ (c : Bool). first c (file_of_parts p) (held ps) path) is in
          let other : file_named ((f ∷ fs) ++ wholes) path ≡ file_named (fs ++ wholes) path =
          ap (λ (c : Bool). first c f (fs ++ wholes) path) (ap (λ (n : List ℕ). bytes_eq n path) (sym zip.0.0) ∙ is) in
          subst (λ (x : Option (List ℕ)). FoundAlike x (file_named ((f ∷ fs) ++ wholes) path)) (sym one)
          (subst (FoundAlike (file_named (held ps) path)) (sym other) rest)

  -- where no file that was read in part is at the path, it is the same one
  pub found_same : (path : List ℕ) (parts : List PartialFile) (read : List File) → AllZip IsFileOf parts read → find (is_part_named path) parts ≡ None
      → file_named (held parts) path ≡ file_named (read ++ wholes) path
  found_same path [] [] zip none = refl
  found_same path [] (f ∷ fs) zip none = absurd zip
  found_same path (p ∷ ps) [] zip none = absurd zip
  found_same path (p ∷ ps) (f ∷ fs) zip none = by (bytes_eq p.name path) refl (λ later. found_same path ps fs zip.1 later)
    where
      by : (b : Bool) → bytes_eq p.name path ≡ b → (find (is_part_named path) ps ≡ None → file_named (held ps) path ≡ file_named (fs ++ wholes) path)
          → file_named (held (p ∷ ps)) path ≡ file_named ((f ∷ fs) ++ wholes) path
      by true is rest =
          absurd (none-some p (sym none ∙ ap (λ (c : Bool). cond c (Some p) (find (is_part_named path) ps)) is))
      by false is rest =
          ap (λ (c : Bool). first c (file_of_parts p) (held ps) path) is
          ∙ rest (sym (ap (λ (c : Bool). cond c (Some p) (find (is_part_named path) ps)) is) ∙ none)
          ∙ sym (ap (λ (c : Bool). first c f (fs ++ wholes) path) (ap (λ (n : List ℕ). bytes_eq n path) (sym zip.0.0) ∙ is))

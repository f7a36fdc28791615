-- The file of a name, where some files were read in part.
use Rattle.std.proofs.Common.{◌≡◌, ℕ, Bool, true, false, cond, List, [], ◌∷◌, ◌++◌, Option, None, Some, map, refl, sym, ◌∙◌, ap}
use Rattle.std.specs.Prelude.{find, option_map}
use Rattle.std.specs.Str.{bytes_eq}
use Rattle.std.proofs.lemmas.Option.{none-some, same_Some}
use Rattle.std.proofs.lemmas.Slice.Eq.{bytes_eq-Decides}
use Rattle.ar_index.specs.Parts.{PartialFile, file_of_parts, part_bytes}
use Rattle.elf_model.specs.Inputs.Files.{File}
use Rattle.elf_model.specs.Inputs.Opening.{file_named}
use Rattle.opening.specs.Held.{is_part_named}

module _ (wholes : List File) (name : List ℕ) where
  abbrev first : Bool → File → List File → Option (List ℕ)
  first b f fs = option_map (λ g. g.bytes) (cond b (Some f) (find (λ g. bytes_eq g.name name) fs))

  pub part_found : (parts : List PartialFile) (p : PartialFile) → find (is_part_named name) parts ≡ Some p
      → file_named (map file_of_parts parts ++ wholes) name ≡ Some (part_bytes p.members)
  part_found [] p found = absurd cc
  part_found (q ∷ qs) p found = by (bytes_eq q.name name) refl (λ later. part_found qs p later)
    where
      by : (b : Bool) → bytes_eq q.name name ≡ b → (find (is_part_named name) qs ≡ Some p → file_named (map file_of_parts qs ++ wholes) name ≡ Some (part_bytes p.members))
          → file_named (map file_of_parts (q ∷ qs) ++ wholes) name ≡ Some (part_bytes p.members)
      by true is rest =
          let same : Some q ≡ Some p = sym (ap (λ (c : Bool). cond c (Some q) (find (is_part_named name) qs)) is) ∙ found in
          ap (λ (c : Bool). first c (file_of_parts q) (map file_of_parts qs ++ wholes)) is ∙ ap (option_map (λ (r : PartialFile). part_bytes r.members)) same
      by false is rest =
          ap (λ (c : Bool). first c (file_of_parts q) (map file_of_parts qs ++ wholes)) is
          ∙ rest (sym (ap (λ (c : Bool). cond c (Some q) (find (is_part_named name) qs)) is) ∙ found)

  pub part_missing : (parts : List PartialFile) → find (is_part_named name) parts ≡ None
      → file_named (map file_of_parts parts ++ wholes) name ≡ file_named wholes name
  part_missing [] none = refl
  part_missing (q ∷ qs) none = by (bytes_eq q.name name) refl (λ later. part_missing qs later)
    where
      by : (b : Bool) → bytes_eq q.name name ≡ b → (find (is_part_named name) qs ≡ None → file_named (map file_of_parts qs ++ wholes) name ≡ file_named wholes name)
          → file_named (map file_of_parts (q ∷ qs) ++ wholes) name ≡ file_named wholes name
      by true is rest = absurd (none-some q (sym none ∙ ap (λ (c : Bool). cond c (Some q) (find (is_part_named name) qs)) is))
      by false is rest =
          ap (λ (c : Bool). first c (file_of_parts q) (map file_of_parts qs ++ wholes)) is
          ∙ rest (sym (ap (λ (c : Bool). cond c (Some q) (find (is_part_named name) qs)) is) ∙ none)

  -- a file that was found has the name
  pub part_name : (parts : List PartialFile) (p : PartialFile) → find (is_part_named name) parts ≡ Some p → p.name ≡ name
  part_name [] p found = absurd cc
  part_name (q ∷ qs) p found = by (bytes_eq q.name name) refl (λ later. part_name qs p later)
    where
      by : (b : Bool) → bytes_eq q.name name ≡ b → (find (is_part_named name) qs ≡ Some p → p.name ≡ name) → p.name ≡ name
      by true is rest =
          let same : Some q ≡ Some p = sym (ap (λ (c : Bool). cond c (Some q) (find (is_part_named name) qs)) is) ∙ found in
          ap (λ (r : PartialFile). r.name) (sym (same_Some q p same)) ∙ (bytes_eq-Decides q.name name).0 is
      by false is rest = rest (sym (ap (λ (c : Bool). cond c (Some q) (find (is_part_named name) qs)) is) ∙ found)

-- The names of a certificate speak of one run each by what the code has of a link exactly where they do.
use Rattle.std.proofs.Common.{◌≡◌, Bool, List, Option, None, Some, map, ℕ, subst, sym}
use Rattle.std.specs.Prelude.{◌↔◌, All, IfSome, IsTrue}
use Rattle.std.proofs.lemmas.List.Elements.{All-map, All-weaker}
use Rattle.elf_model.proofs.Listed.{All-unmap}
use Rattle.elf_model.specs.Link.Loading.{LoadedObject}
use Rattle.elf_model.specs.Link.Pieces.{Piece}
use Rattle.elf_model.specs.declared.bound.Bound.{Bound}
use Rattle.elf_model.specs.declared.bound.Bound.TheVariants.{CodeEnd, DataEnd, GotStart, ImageEnd, ImageStart, OutputEnd, OutputStart, ZeroStart}
use Rattle.judge_model.specs.Certificates.{NameRow, name_row}
use Rattle.judge_model.specs.Links.{ForeignLink, objects_of, pieces_of}
use Rattle.judge_model.specs.Names.{IsBoundOfOne, IsUnmixed, bound_of}
use Rattle.judge_model.specs.declared.certificate.NameLine.{NameLine}
use Rattle.name_judge.specs.Unmixed.{IsOneBound, IsRowUnmixed}

module _ (l : ForeignLink) where
  bound_iff : (name : List ℕ) (b : Bound) → IsOneBound (pieces_of l) name b ↔ IsBoundOfOne l name b
  bound_iff name ImageStart = (λ h. h, λ h. h)
  bound_iff name CodeEnd = (λ h. h, λ h. h)
  bound_iff name DataEnd = (λ h. h, λ h. h)
  bound_iff name ZeroStart = (λ h. h, λ h. h)
  bound_iff name ImageEnd = (λ h. h, λ h. h)
  bound_iff name GotStart = (λ h. h, λ h. h)
  bound_iff name OutputStart = (λ h. h, λ h. h)
  bound_iff name OutputEnd = (λ h. h, λ h. h)

  some_iff : (name : List ℕ) (o : Option Bound) → IfSome o (IsOneBound (pieces_of l) name) ↔ IfSome o (IsBoundOfOne l name)
  some_iff name None = (λ h. h, λ h. h)
  some_iff name (Some b) = bound_iff name b

  row_to : (row : NameRow) → IsRowUnmixed (objects_of l) (pieces_of l) row → IsUnmixed l row
  row_to row r none = (some_iff row.name (bound_of l row.name)).0 (r.unmixed none)

  row_of : (row : NameRow) → IsUnmixed l row → IsRowUnmixed (objects_of l) (pieces_of l) row
  row_of row r = record { unmixed = λ none. (some_iff row.name (bound_of l row.name)).1 (r none) }

  -- by what the code has of a link
  pub unmixed_by :
      (os : List LoadedObject) (ps : List Piece) (rows : List NameLine) (b : Bool) → objects_of l ≡ os → pieces_of l ≡ ps →
      l.certificate.names ≡ map name_row rows → IsTrue b ↔ All (λ r. IsRowUnmixed os ps (name_row r)) rows →
      IsTrue b ↔ All (IsUnmixed l) l.certificate.names
  unmixed_by os ps rows b objects pieces names told = (λ yes. to (own.0 yes), λ all. own.1 (from all))
    where
      own : IsTrue b ↔ All (λ r. IsRowUnmixed (objects_of l) (pieces_of l) (name_row r)) rows
      own =
          subst (λ (x : List LoadedObject). IsTrue b ↔ All (λ r. IsRowUnmixed x (pieces_of l) (name_row r)) rows) (sym objects)
          (subst (λ (x : List Piece). IsTrue b ↔ All (λ r. IsRowUnmixed os x (name_row r)) rows) (sym pieces) told)

      to : All (λ r. IsRowUnmixed (objects_of l) (pieces_of l) (name_row r)) rows → All (IsUnmixed l) l.certificate.names
      to all =
          subst (All (IsUnmixed l)) (sym names)
          (All-map (IsUnmixed l) name_row rows
          (All-weaker (λ (r : NameLine). IsRowUnmixed (objects_of l) (pieces_of l) (name_row r)) (λ (r : NameLine). IsUnmixed l (name_row r))
          (λ r u. row_to (name_row r) u) rows all))

      from : All (IsUnmixed l) l.certificate.names → All (λ r. IsRowUnmixed (objects_of l) (pieces_of l) (name_row r)) rows
      from all =
          All-weaker (λ (r : NameLine). IsUnmixed l (name_row r)) (λ (r : NameLine). IsRowUnmixed (objects_of l) (pieces_of l) (name_row r))
          (λ r u. row_of (name_row r) u) rows (All-unmap (IsUnmixed l) name_row rows (subst (All (IsUnmixed l)) names all))

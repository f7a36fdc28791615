-- Names leave out slots by the greatest ends of these exactly where they leave out each.
use Rattle.std.proofs.Common.{◌≡◌, ℕ, ◌+◌, ◌≤◌, Bool, List, Option, None, Some, map, arith, refl, subst, sym}
use Rattle.std.specs.Prelude.{◌↔◌, All, Any, Contains, IfSome, IsTrue}
use Rattle.std.proofs.lemmas.List.Elements.{All-contains, All-map, All-weaker}
use Rattle.elf_model.proofs.Finding.{Any-from_contains}
use Rattle.elf_model.proofs.Listed.{All-from_contains, All-unmap}
use Rattle.elf_model.specs.Link.LinkerValues.{start_of_pieces}
use Rattle.elf_model.specs.Link.Meaning.{object_meaning}
use Rattle.elf_model.specs.Link.Relocation.{Relocation}
use Rattle.elf_model.specs.declared.bound.Bound.{Bound}
use Rattle.elf_model.specs.declared.bound.Bound.TheVariants.{CodeEnd, DataEnd, GotStart, ImageEnd, ImageStart, OutputEnd, OutputStart, ZeroStart}
use Rattle.judge_model.specs.Certificates.{NameRow, name_row}
use Rattle.judge_model.specs.Fields.{HasSlotAt}
use Rattle.judge_model.specs.Fill.{IsBeforeZeros, IsBehindSlots, SparesSlots}
use Rattle.judge_model.specs.Links.{ForeignLink, objects_of, placed_of, relocations_of}
use Rattle.judge_model.specs.Names.{bound_of, is_some_zeros}
use Rattle.judge_model.specs.declared.certificate.NameLine.{NameLine}
use Rattle.link_fields.specs.Parts.{Parts, parts_of}
use Rattle.link_fields.specs.Slots.{AreSlots}
use Rattle.name_judge.specs.Bounds.{IsRowBehind, end_for}
use Rattle.name_judge.specs.Clear.{IsEndOfSlots, IsSlotBy}

module _ (l : ForeignLink) (slots : List ℕ) (are : AreSlots l slots) where
  -- an address is behind all slots but those among zeros
  behind_all :
      (zeros : Option ℕ) (end : ℕ) → IsEndOfSlots zeros slots end → (v : ℕ) →
      (end ≤ v) ↔ All (λ r. (at : ℕ) → HasSlotAt l r at → IsBeforeZeros zeros v at) (relocations_of l)
  behind_all zeros end ends v = (to, from)
    where
      to : end ≤ v → All (λ r. (at : ℕ) → HasSlotAt l r at → IsBeforeZeros zeros v at) (relocations_of l)
      to low =
          All-from_contains (λ (r : Relocation). (at : ℕ) → HasSlotAt l r at → IsBeforeZeros zeros v at) (relocations_of l)
          (λ r there at has.
          (All-contains (IsSlotBy zeros v) slots at ((ends.told v).0 low)
          ((are.slots_are at).1 (Any-from_contains (λ (s : Relocation). HasSlotAt l s at) (relocations_of l) r there has))).end)

      from : All (λ r. (at : ℕ) → HasSlotAt l r at → IsBeforeZeros zeros v at) (relocations_of l) → end ≤ v
      from all =
          (ends.told v).1
          (All-from_contains (IsSlotBy zeros v) slots (λ at there. by at ((are.slots_are at).0 there)))
        where
          by : (at : ℕ) → Any (λ r. HasSlotAt l r at) (relocations_of l) → IsSlotBy zeros v at
          by at (i, r, low, is, has) =
              record {
                end =
                    All-contains (λ (s : Relocation). (n : ℕ) → HasSlotAt l s n → IsBeforeZeros zeros v n) (relocations_of l) r all (i, low, is) at has;
              }

  module _ (all before : ℕ) (ends : IsEndOfSlots None slots all) (starts : IsEndOfSlots (start_of_pieces is_some_zeros (placed_of l)) slots before) where
    abbrev Spares : NameRow → Type 0
    Spares row = IsBehindSlots l row × SparesSlots l row

    row_to : (row : NameRow) → IsRowBehind (parts_of l) all before row → Spares row
    row_to row h = (
      λ none is. (behind_all None all ends row.value).0 (subst (λ (o : Option Bound). IfSome o (λ b. end_for all before b ≤ row.value)) is (h.behind none)),
      λ none is.
          (behind_all (start_of_pieces is_some_zeros (placed_of l)) before starts row.value).0
          (subst (λ (o : Option Bound). IfSome o (λ b. end_for all before b ≤ row.value)) is (h.behind none)),
    )

    by_bound :
        (row : NameRow) (o : Option Bound) → (o ≡ Some ImageEnd → all ≤ row.value) → (o ≡ Some ZeroStart → before ≤ row.value) →
        IfSome o (λ b. end_for all before b ≤ row.value)
    by_bound row None ends_ starts_ = tt
    by_bound row (Some ImageEnd) ends_ starts_ = ends_ refl
    by_bound row (Some ZeroStart) ends_ starts_ = starts_ refl
    by_bound row (Some ImageStart) ends_ starts_ = omega arith
    by_bound row (Some CodeEnd) ends_ starts_ = omega arith
    by_bound row (Some DataEnd) ends_ starts_ = omega arith
    by_bound row (Some GotStart) ends_ starts_ = omega arith
    by_bound row (Some OutputStart) ends_ starts_ = omega arith
    by_bound row (Some OutputEnd) ends_ starts_ = omega arith

    row_of : (row : NameRow) → Spares row → IsRowBehind (parts_of l) all before row
    row_of row h = record {
      behind = λ none.
          by_bound row (bound_of l row.name) (λ is. (behind_all None all ends row.value).1 (h.0 none is))
          (λ is. (behind_all (start_of_pieces is_some_zeros (placed_of l)) before starts row.value).1 (h.1 none is));
    }

    own : All (IsRowBehind (parts_of l) all before) l.certificate.names ↔ (All (IsBehindSlots l) l.certificate.names × All (SparesSlots l) l.certificate.names)
    own = (
      λ rows. (
        All-weaker (IsRowBehind (parts_of l) all before) (IsBehindSlots l) (λ row h. (row_to row h).0) l.certificate.names rows,
        All-weaker (IsRowBehind (parts_of l) all before) (SparesSlots l) (λ row h. (row_to row h).1) l.certificate.names rows,
      ),
      λ both i d within. row_of _ (both.0 i d within, both.1 i d within),
    )

    -- by what the code has of a link
    pub spared_by :
        (p : Parts) (rows : List NameLine) (b : Bool) → parts_of l ≡ p → p.rows ≡ map name_row rows →
        IsTrue b ↔ All (λ r. IsRowBehind p all before (name_row r)) rows →
        IsTrue b ↔ (All (IsBehindSlots l) l.certificate.names × All (SparesSlots l) l.certificate.names)
    spared_by p rows b parts rows_are told = (λ yes. own.0 (seen.0 yes), λ both. seen.1 (own.1 both))
      where
        in_parts : IsTrue b ↔ All (IsRowBehind p all before) p.rows
        in_parts = (
          λ yes. subst (All (IsRowBehind p all before)) (sym rows_are) (All-map (IsRowBehind p all before) name_row rows (told.0 yes)),
          λ each. told.1 (All-unmap (IsRowBehind p all before) name_row rows (subst (All (IsRowBehind p all before)) rows_are each)),
        )

        seen : IsTrue b ↔ All (IsRowBehind (parts_of l) all before) l.certificate.names
        seen = subst (λ (q : Parts). IsTrue b ↔ All (IsRowBehind q all before) q.rows) (sym parts) in_parts

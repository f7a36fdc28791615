-- The tables of a list, given its bytes.
use Rattle.std.proofs.Common.{◌≡◌, ℕ, true, Bool, List, [], Option, None, Some, refl, subst, sym}
use Rattle.std.specs.Prelude.{◌↔◌, All, Any, IsSomeAnd, is_some}
use Rattle.std.proofs.lemmas.List.Elements.{All-weaker}
use Rattle.byteview.specs.Numbers as numbers
use Rattle.elf_model.specs.Link.Pieces.{Piece}
use Rattle.elf_model.specs.Link.Relocation.{Relocation}
use Rattle.elf_model.specs.declared.records.ProgramHeader.{ProgramHeader}
use Rattle.judge_model.specs.FrameTables.{HasRightTable, IsTableAt, IsTableRight, list_bytes}
use Rattle.judge_model.specs.Frames.{HasRightList, IsFunction, IsListRight, frame_records, records_from, records_of, stretch_bytes}
use Rattle.judge_model.specs.Headers.{frame_tables, table_stretch}
use Rattle.judge_model.specs.Links.{ForeignLink}
use Rattle.judge_model.specs.declared.certificate.MergedLine.{MergedLine}
use Rattle.judge_model.specs.declared.certificate.StretchLine.{StretchLine}
use Rattle.frame_judge.specs.Tables.{AreTablesOf, AreTablesRight, IsListRead, IsTableIn}

-- no bytes are a list
none_read : is_some (frame_records []) ≡ true
unfolding records_from numbers.le
none_read = refl

module _ (image : List ℕ) (ps : List Piece) (rs : List Relocation) (lines : List MergedLine) (areas : List StretchLine) where
  some_read : (s : StretchLine) (o : Option (List ℕ)) → IsSomeAnd o (IsListRight ps rs lines areas s) → IsSomeAnd o (λ bytes. is_some (frame_records bytes) ≡ true)
  some_read s None never = never
  some_read s (Some bytes) h = h.records

  -- a right list is read
  pub list_read : (list : Option StretchLine) → HasRightList image ps rs lines areas list → IsListRead image list
  list_read None none = none_read
  list_read (Some s) h = some_read s (stretch_bytes image s) h

module _ (image : List ℕ) (areas : List StretchLine) (list : Option StretchLine) (frames : List ℕ) (is : list_bytes image list ≡ Some frames) where
  table_of : (h : ProgramHeader) → IsTableIn image areas list frames h → IsTableRight image areas list h
  table_of h t = record {
    whole = t.whole;
    area = t.area;
    table = subst (λ (o : Option (List ℕ)). IsSomeAnd o (IsTableAt image list (table_stretch h))) (sym is) t.table;
  }

  table_in : (h : ProgramHeader) → IsTableRight image areas list h → IsTableIn image areas list frames h
  table_in h t = record {
    whole = t.whole;
    area = t.area;
    table = subst (λ (o : Option (List ℕ)). IsSomeAnd o (IsTableAt image list (table_stretch h))) is t.table;
  }

  -- they are right by the bytes of the list exactly where they are right
  pub tables_right : (asks : Bool) → AreTablesOf image areas list asks frames ↔ AreTablesRight image areas list asks
  tables_right asks = (
    λ t. record {
      each = All-weaker (IsTableIn image areas list frames) (IsTableRight image areas list) table_of (frame_tables image) t.each;
      asked = λ a f. t.asked a (subst (λ (o : Option (List ℕ)). IsSomeAnd o (λ bytes. Any IsFunction (records_of bytes))) is f);
    },
    λ t. record {
      each = All-weaker (IsTableRight image areas list) (IsTableIn image areas list frames) table_in (frame_tables image) t.each;
      asked = λ a f. t.asked a (subst (λ (o : Option (List ℕ)). IsSomeAnd o (λ bytes. Any IsFunction (records_of bytes))) (sym is) f);
    },
  )

-- and so by other names
module _ (l : ForeignLink) (image : List ℕ) (areas : List StretchLine) (list : Option StretchLine) (asks : Bool) (i : l.image ≡ image) (a : l.certificate.areas ≡ areas) (s : l.certificate.list ≡ list) (t : l.plan.tables ≡ asks) where
  own : AreTablesRight l.image l.certificate.areas l.certificate.list l.plan.tables ↔ HasRightTable l
  own = (λ h. record { each = h.each; asked = h.asked }, λ h. record { each = h.each; asked = h.asked })

  pub same_tables : AreTablesRight image areas list asks ↔ HasRightTable l
  same_tables =
      subst (λ (x : List ℕ). AreTablesRight x areas list asks ↔ HasRightTable l) i
      (subst (λ (x : List StretchLine). AreTablesRight l.image x list asks ↔ HasRightTable l) a
      (subst (λ (x : Option StretchLine). AreTablesRight l.image l.certificate.areas x asks ↔ HasRightTable l) s
      (subst (λ (x : Bool). AreTablesRight l.image l.certificate.areas l.certificate.list x ↔ HasRightTable l) t own)))

-- Lines of names by what is found of each, and in the two forms of a certificate.
use Rattle.std.proofs.Common.{◌≡◌, Bool, List, Option, None, Some, map, refl, subst, sym}
use Rattle.std.specs.Prelude.{◌↔◌, All, IfSome, IsTrue, false, is_some}
use Rattle.std.specs.Borrow.{Bor}
use Rattle.std.specs.BTreeMap.{BTreeMap}
use Rattle.std.specs.Prelude.{ℕ}
use Rattle.std.proofs.lemmas.Bool.{false≢true}
use Rattle.std.proofs.lemmas.List.Elements.{All-map}
use Rattle.elf_model.proofs.Listed.{All-unmap}
use Rattle.elf_model.specs.Image.MemoryImage.{loads}
use Rattle.elf_model.specs.Link.LinkerNames.{named_output}
use Rattle.elf_model.specs.Link.Meaning.{object_meaning}
use Rattle.elf_model.specs.declared.bound.Bound.{Bound}
use Rattle.check_link.specs.ByName.{found_in}
use Rattle.check_link.specs.declared.bounds.Span.{Span}
use Rattle.judge_model.specs.Certificates.{NameRow, name_row}
use Rattle.judge_model.specs.declared.certificate.NameLine.{NameLine}
use Rattle.link_fields.specs.Parts.{Parts, bound_of}
use Rattle.name_judge.specs.Bounds.{IsBoundBy, IsRowRight}
use Rattle.name_judge.specs.declared.marks.Marks.{Marks}

pub none_of : {X : Type 0} (o : Option X) → false ≡ is_some o → o ≡ None
none_of None e = refl
none_of (Some x) e = absurd (false≢true e)

module _ (p : Parts) (m : Marks) (spans : BTreeMap (Bor (List ℕ)) Span) where
  -- the row of a name that no object defines and that has a bound
  pub row_right :
      (row : NameRow) (b : Bool) (bound : Bound) (span : Option Span) → object_meaning p.objects row.name ≡ None →
      bound_of p.pieces row.name ≡ Some bound → span ≡ found_in spans (named_output row.name) →
      IsTrue b ↔ IsBoundBy (loads p.image) m p.got span row.value bound → IsTrue b ↔ IsRowRight p m spans row
  row_right row b bound span none is span_is told =
      let by =
      subst (λ (s : Option Span). IsTrue b ↔ IsBoundBy (loads p.image) m p.got s row.value bound) span_is told in (
        λ yes. record {
          right = λ n.
              subst (λ (o : Option Bound). IfSome o (IsBoundBy (loads p.image) m p.got (found_in spans (named_output row.name)) row.value)) (sym is)
              (by.0 yes);
        },
        λ r.
            by.1
            (subst (λ (o : Option Bound). IfSome o (IsBoundBy (loads p.image) m p.got (found_in spans (named_output row.name)) row.value)) is
            (r.right none)),
      )

  -- all rows
  pub rows_seen :
      (rows : List NameLine) (b : Bool) → p.rows ≡ map name_row rows → IsTrue b ↔ All (λ r. IsRowRight p m spans (name_row r)) rows →
      IsTrue b ↔ All (IsRowRight p m spans) p.rows
  rows_seen rows b are told = (
    λ yes. subst (All (IsRowRight p m spans)) (sym are) (All-map (IsRowRight p m spans) name_row rows (told.0 yes)),
    λ all. told.1 (All-unmap (IsRowRight p m spans) name_row rows (subst (All (IsRowRight p m spans)) are all)),
  )

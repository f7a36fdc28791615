-- Where there is no row there are no fields.
use Rattle.std.proofs.Common.{◌≡◌, ◌<◌, ◌≤◌, ◌⊎◌, inl, inr, false, ℕ, List, [], Option, None, Some, ap, get_or, length, nat_lt, sym, arith}
use Rattle.std.specs.Prelude.{filter, option_map, unwrap_or}
use Rattle.std.specs.Global.{Vec}
use Rattle.std.specs.List.{slice_get}
use Rattle.std.proofs.lemmas.Bool.{ltb-false}
use Rattle.std.proofs.lemmas.Option.{slice_get_cases}
use Rattle.check_relocs.specs.Bytes.{fields_in, is_of}
use Rattle.check_relocs.specs.declared.fields.Field.{Field}

pub no_row : (rows : List (Vec Field)) (object section : ℕ) → nat_lt object (length rows) ≡ false → [] ≡ fields_in rows object section
no_row rows object section past =
    ap (λ (o : Option (Vec Field)). filter (is_of section) (unwrap_or (option_map (λ row. row.items) o) [])) (sym (of (slice_get_cases rows object).1))
  where
    of :
        ((x : Vec Field) × (object < length rows) × (slice_get rows object ≡ Some x) × (get_or rows object x ≡ x))
        ⊎ ((length rows ≤ object) × (slice_get rows object ≡ None)) → slice_get rows object ≡ None
    of (inl a) = let p = ltb-false object (length rows) past in absurd (omega (arith, p, a.1))
    of (inr b) = b.1

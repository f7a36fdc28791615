-- The relocation entries of one section, where they are in the file.
use Rattle.std.proofs.Common.{◌≡◌, ◌≢◌, ℕ, nat_lt, true, cond, List, None, Some, get_or, length, ap, sym, subst, ◌∙◌, arith}
use Rattle.std.specs.List.{All, slice_get}
use Rattle.std.specs.Option.{option_and_then}
use Rattle.std.proofs.lemmas.Bool.{eq-eqb, ltb-true, ne_eqb}
use Rattle.std.proofs.lemmas.Option.{get_or_from_slice_get, slice_get-get_or, slice_get_within}
use Rattle.elf_model.specs.Inputs.ObjectFile.{IsPlaced, LiesInside, relas_in, relas_of}
use Rattle.elf_model.specs.declared.records.SectionHeader.{SectionHeader}
use Rattle.elf_read.proofs.SectionLemmas.{placed_inside}

-- an element that was looked up
pub found : {X : Type 0} (xs now : List X) (i : ℕ) (x : X) → true ≡ nat_lt i (length now) → x ≡ get_or now i x → now ≡ xs → slice_get xs i ≡ Some x
found {X} xs now i x within is same =
    subst (λ (ys : List X). slice_get ys i ≡ Some x) same (slice_get-get_or now i x (ltb-true i (length now) (sym within)) ∙ ap Some (sym is))

-- a RELA section among placed ones lies inside
pub rela_inside : (len : ℕ) (ss : List SectionHeader) (i : ℕ) (s : SectionHeader) → slice_get ss i ≡ Some s → s.sh_type ≡ 4
    → All (IsPlaced len) ss → LiesInside len s
rela_inside len ss i s there rela placed =
    let own = subst (IsPlaced len) (get_or_from_slice_get ss i s s there) (placed i s (slice_get_within ss i s there)) in
    placed_inside len 4 s rela (omega arith) (omega arith) own

-- what is told of a section: its entries, or None where it is of another type
pub told : (bytes : List ℕ) (ss : List SectionHeader) (i : ℕ) (s : SectionHeader) → slice_get ss i ≡ Some s → s.sh_type ≡ 4
    → option_and_then (relas_in bytes) (slice_get ss i) ≡ Some (relas_of bytes s)
told bytes ss i s there rela = ap (option_and_then (relas_in bytes)) there ∙ ap (λ b. cond b (Some (relas_of bytes s)) None) (eq-eqb s.sh_type 4 rela)

pub untold : (bytes : List ℕ) (ss : List SectionHeader) (i : ℕ) (s : SectionHeader) → slice_get ss i ≡ Some s → s.sh_type ≢ 4
    → option_and_then (relas_in bytes) (slice_get ss i) ≡ None
untold bytes ss i s there other = ap (option_and_then (relas_in bytes)) there ∙ ap (λ b. cond b (Some (relas_of bytes s)) None) (ne_eqb s.sh_type 4 other)

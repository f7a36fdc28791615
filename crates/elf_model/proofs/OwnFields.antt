-- Within one object the field of a relocation is a range of bytes of its section.
use Rattle.std.proofs.Common.{◌≡◌, ℕ, ◌+◌, ◌<◌, ◌≤◌, ◌==◌, ◌&&◌, Bool, true, false, List, get_or, nat_le, nat_lt, refl, sym, ap, ◌∙◌, arith}
use Rattle.std.specs.Prelude.{All, AllPairs}
use Rattle.std.proofs.lemmas.Bool.{eq-eqb}
use Rattle.elf_model.specs.Link.Relocation.{AreFieldsApart, Relocation, is_in_field, width_of}
use Rattle.elf_model.proofs.Pairs.{AllPairs-weaker}
use Rattle.elf_model.proofs.RelocationFields.{field_has, in_field}

-- no byte of a section lies in both ranges
abbrev pub AreRangesApart : Relocation → Relocation → Type 0
AreRangesApart r t =
    r.section ≡ t.section → (k : ℕ) → r.entry.r_offset ≤ k → k < r.entry.r_offset + width_of r → t.entry.r_offset ≤ k →
    k < t.entry.r_offset + width_of t → ⊥

ranges_apart : (r t : Relocation) → r.object ≡ t.object → AreFieldsApart r t → AreRangesApart r t
ranges_apart r t same apart at k low high low2 high2 =
    apart t.object t.section k (field_has t.object t.section k r same at low high) (field_has t.object t.section k t refl refl low2 high2)

fields_apart : (r t : Relocation) → AreRangesApart r t → AreFieldsApart r t
fields_apart r t apart object s k e f =
    let a = in_field object s k r e in
    let b = in_field object s k t f in
    apart (a.1 ∙ sym b.1) k a.2 a.3 b.2 b.3

-- relocations of one object are apart where their ranges are
pub ranges_of_apart : (n : ℕ) (rs : List Relocation) → All (λ r. r.object ≡ n) rs → AllPairs AreFieldsApart rs → AllPairs AreRangesApart rs
ranges_of_apart n rs own pairs i j d low high =
    ranges_apart (get_or rs i d) (get_or rs j d) (own i d (omega (arith, low, high)) ∙ sym (own j d high)) (pairs i j d low high)

pub apart_of_ranges : (rs : List Relocation) → AllPairs AreRangesApart rs → AllPairs AreFieldsApart rs
apart_of_ranges rs pairs = AllPairs-weaker AreRangesApart AreFieldsApart fields_apart rs pairs

same_test : (a b c : Bool) → b && (a && c) ≡ ((true && b) && a) && c
same_test a true c = refl
same_test a false c = refl

-- byte k of section s lies in a field where it lies in the range
pub in_range :
    (n s k : ℕ) (r : Relocation) → r.object ≡ n →
    r.section == s && (nat_le r.entry.r_offset k && nat_lt k (r.entry.r_offset + width_of r)) ≡ is_in_field n s k r
in_range n s k r own =
    same_test (nat_le r.entry.r_offset k) (r.section == s) (nat_lt k (r.entry.r_offset + width_of r))
    ∙ ap (λ (b : Bool). ((b && (r.section == s)) && nat_le r.entry.r_offset k) && nat_lt k (r.entry.r_offset + width_of r)) (sym (eq-eqb r.object n own))

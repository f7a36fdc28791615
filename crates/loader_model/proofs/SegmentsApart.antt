-- Each segment of an image ends before the next begins.
use Rattle.std.proofs.Common.{◌≡◌, ◌+◌, ◌-◌, ◌<◌, ◌≤◌, Bool, true, false, List, ℕ, get_or, length, refl, subst, sym, ◌∙◌, arith}
use Rattle.std.specs.Prelude.{AllPairs, Any, nat_lt}
use Rattle.std.proofs.lemmas.Bool.{ltb-false, ltb-true}
use Rattle.std.proofs.lemmas.List.{get_or_default}
use Rattle.elf_model.specs.Image.MemoryImage.{Encloses, IsImage, loads, program_headers}
use Rattle.elf_model.specs.declared.records.ProgramHeader.{ProgramHeader}
use Rattle.loader_model.specs.Table.{EndsBefore}
use Rattle.loader_model.proofs.Pages.{before_of_apart}
use Rattle.loader_model.proofs.TableOrder.{ascending_loads}

pub loads_apart : (image : List ℕ) → IsImage image → AllPairs EndsBefore (loads image)
loads_apart image is i j d low within =
    let good = is.segments.segments j d within in
    before_of_apart (get_or (loads image) i d) (get_or (loads image) j d) good.on_a_page good.some_memory
    (ascending_loads (program_headers image) (loads image) refl is.order i j d low within) (is.pages i j d low within)

-- of segments that end before each other, the last that begins at or below an address encloses a range from there on
-- where one does
pub last_encloses :
    (hs : List ProgramHeader) (at len n : ℕ) (d : ProgramHeader) → AllPairs EndsBefore hs → 0 < n → n ≤ length hs →
    (get_or hs (n - 1) d).p_vaddr ≤ at → ((k : ℕ) (e : ProgramHeader) → n ≤ k → k < length hs → at < (get_or hs k e).p_vaddr) →
    Any (λ h. Encloses h at len) hs → Encloses (get_or hs (n - 1) d) at len
last_encloses hs at len n d apart some within begun later (i, h, low, is, inside) = by (nat_lt i (n - 1)) refl
  where
    here : get_or hs i d ≡ h
    here = get_or_default hs i d h low ∙ is

    by : (t : Bool) → nat_lt i (n - 1) ≡ t → Encloses (get_or hs (n - 1) d) at len
    by true e =
        let before = apart i (n - 1) d (ltb-true i (n - 1) e) (omega (arith, some, within)) in
        let ends = subst (λ (g : ProgramHeader). g.p_vaddr + g.p_memsz ≤ (get_or hs (n - 1) d).p_vaddr) here before in
        (begun, omega (arith, ends, inside.1, begun))
    by false e = at_last (nat_lt i n) refl
      where
        at_last : (t : Bool) → nat_lt i n ≡ t → Encloses (get_or hs (n - 1) d) at len
        at_last true f =
            let low_i = ltb-true i n f in
            let high_i = ltb-false i (n - 1) e in
            let same : i ≡ n - 1 = omega (arith, low_i, high_i) in
            subst (λ (k : ℕ). Encloses (get_or hs k d) at len) same (subst (λ (g : ProgramHeader). Encloses g at len) (sym here) inside)
        at_last false f =
            let past = later i h (ltb-false i n f) low in
            let above = subst (λ (g : ProgramHeader). at < g.p_vaddr) is past in
            absurd (omega (arith, above, inside.0))

use Rattle.std.proofs.Common.{◌≡◌, ◌≢◌, ◌∙◌, ◌+◌, ◌<◌, ◌≤◌, ◌++◌, ℕ, List, add-zero, ap, arith, drop, get_or, length, length-drop, refl, sym, subst, take}
use Rattle.std.specs.Prelude.{false, Option, None, Some, is_some, slice_index}
use Rattle.std.specs.List.{slice_get}
use Rattle.std.proofs.Math.Seq.{take-add}
use Rattle.std.proofs.lemmas.List.{append-nil, get_or-drop}
use Rattle.std.proofs.lemmas.Option.{get_or_from_slice_get, slice_get_within}
use Rattle.debug_main.specs.Comparisons.{marked, taken_of}
use Rattle.debug_main.proofs.Differences.{marked_more}
use Rattle.debug_main.proofs.comparing.ComparingSink.put.Goals as goal

-- more bytes of the image are taken
more_taken :
    (image rest bytes : List ℕ) (same count : ℕ) (wrong : Option ℕ) → is_some wrong ≡ false → rest ≡ drop same image →
    take count bytes ≡ take count rest → taken_of image (same + count) wrong ≡ taken_of image same wrong ++ take count bytes
more_taken image rest bytes same count (Some b) none is alike = cc
more_taken image rest bytes same count None none is alike =
    append-nil (take (same + count) image)
    ∙ (take-add same count image
    ∙ (ap (λ (xs : List ℕ). take same image ++ xs) (ap (take count) (sym is) ∙ sym alike)
    ∙ ap (λ (xs : List ℕ). xs ++ take count bytes) (sym (append-nil (take same image)))))

-- the first of the bytes isn't the image's next one
not_next :
    (image rest bytes : List ℕ) (same b k : ℕ) → rest ≡ drop same image → 0 < length bytes → b ≡ get_or bytes 0 0 → k ≤ 0 →
    (k < length bytes → k < length rest → slice_index bytes k ≢ slice_index rest k) → slice_get image same ≡ Some b → ⊥
not_next image rest bytes same b k is some here none differs next =
    let zero_is : k ≡ 0 = omega (arith, none) in
    let inside = slice_get_within image same b next in
    let more : 0 < length rest = omega (arith, ap length is, length-drop same image, inside) in
    let read : get_or image (same + 0) 0 ≡ b = rw add-zero (get_or_from_slice_get image same b 0 next) in
    let e : get_or rest 0 0 ≡ b = ap (λ (xs : List ℕ). get_or xs 0 0) is ∙ (get_or-drop same image 0 0 ∙ read) in
    let first = subst (λ (n : ℕ). n < length bytes → n < length rest → slice_index bytes n ≢ slice_index rest n) zero_is differs in
    first some more (sym here ∙ sym e)

pub returns-then-count-gt0-clause-took : goal.returns-then-count-gt0-clause-took
returns-then-count-gt0-clause-took c =
    let image = c.args.self.now.image.now in
    let old = taken_of image c.args.self.now.same c.args.self.now.wrong in
    let bytes = take c.alike-count.result c.args.bytes.now in
    ap Some (ap (marked image) (more_taken image c.split_at.result.1.now c.args.bytes.now c.args.self.now.same c.alike-count.result c.args.self.now.wrong
    (sym c.is_some.ensures ∙ c.if-is_some.false) c.split_at.ensures.back c.alike-count.ensures.alike)
    ∙ marked_more image old bytes)

pub invariant_of-self-2-clause-differs : goal.invariant_of-self-2-clause-differs
invariant_of-self-2-clause-differs c = λ next.
    absurd (not_next c.args.self.now.image.now c.split_at.result.1.now c.args.bytes.now c.args.self.now.same _ c.alike-count.result
    c.split_at.ensures.back c.requires.some refl c.if-count-gt0.false c.alike-count.ensures.first next)

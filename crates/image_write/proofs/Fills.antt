-- The fill is three runs of one byte each, and that of the own segments.
use Rattle.std.proofs.Common.{◌≡◌, ℕ, ◌-◌, ◌<◌, ◌≤◌, ◌&&◌, ◌||◌, Bool, true, false, cond, List, [], ◌∷◌, ◌++◌, refl, sym, ◌∙◌, ap, append_assoc, arith}
use Rattle.std.specs.Prelude.{max, min, nat_le, nat_lt, replicate}
use Rattle.std.specs.List.{list_any}
use Rattle.std.proofs.lemmas.Bool.{and_from, and_parts, false_from_ne_true, le-leb, leb-true, lt-ltb, ltb-true}
use Rattle.elf_model.specs.Own.ImageFile.{fill_at}
use Rattle.elf_model.specs.Link.Loading.{LoadedObject}
use Rattle.elf_model.specs.Own.OwnLayout.{code_pieces, code_start, data_pieces, data_start, is_nonempty, own_code, own_data, own_read_only, own_segments, read_only_start, segment}
use Rattle.elf_model.specs.Link.Placement.{Placed}
use Rattle.image_write.specs.Parts.{code_part, fill_byte, fill_run}
use Rattle.image_write.specs.declared.fill_bytes.Code.{Code}
use Rattle.image_write.proofs.Runs.{map_between, map_constant}

-- the fill outside of the code and inside it
pub fill_outside : (c : Code) (a : ℕ) → (c.start ≤ a → c.end ≤ a) → fill_byte c a ≡ 0
fill_outside c a out =
    let e : (nat_le c.start a && nat_lt a c.end) ≡ false =
    false_from_ne_true (nat_le c.start a && nat_lt a c.end) (λ t.
    let p = and_parts (nat_le c.start a) (nat_lt a c.end) t in
    let low = leb-true c.start a p.0 in
    let high = ltb-true a c.end p.1 in
    let o = out low in
    omega (arith, high, o)) in
    rw e refl

pub fill_inside : (c : Code) (a : ℕ) → c.start ≤ a → a < c.end → fill_byte c a ≡ 0x90
fill_inside c a low high =
    let e = and_from (nat_le c.start a) (nat_lt a c.end) (le-leb c.start a low) (lt-ltb a c.end high) in
    rw e refl

-- from x to y: zeros up to the code, `nop` up to its end, zeros
pub three_runs :
    (c : Code) (x y s e : ℕ) → x ≤ y → s ≡ min (max x c.start) y → e ≡ min (max s c.end) y →
    replicate (s - x) 0 ++ (replicate (e - s) 0x90 ++ replicate (y - e) 0) ≡ fill_run c x y
three_runs c x y s e order is_s is_e =
    let first : replicate (s - x) 0 ≡ fill_run c x s =
    map_constant (fill_byte c) 0 x (s - x) (λ a low high. fill_outside c a (λ l. omega (arith, low, high, l, is_s, order))) in
    let second : replicate (e - s) 0x90 ≡ fill_run c s e =
    map_constant (fill_byte c) 0x90 s (e - s) (λ a low high.
    fill_inside c a (omega (arith, low, high, is_s, is_e, order)) (omega (arith, low, high, is_s, is_e, order))) in
    let third : replicate (y - e) 0 ≡ fill_run c e y =
    map_constant (fill_byte c) 0 e (y - e) (λ a low high. fill_outside c a (λ l. omega (arith, low, high, l, is_s, is_e, order))) in
    let a : x ≤ s = omega (arith, is_s, order) in
    let b : s ≤ e = omega (arith, is_s, is_e, order) in
    let d : e ≤ y = omega (arith, is_e) in
    ap (λ (bs : List ℕ). bs ++ (replicate (e - s) 0x90 ++ replicate (y - e) 0)) first
    ∙ (ap (λ (bs : List ℕ). fill_run c x s ++ (bs ++ replicate (y - e) 0)) second
    ∙ (ap (λ (bs : List ℕ). fill_run c x s ++ (fill_run c s e ++ bs)) third
    ∙ (ap (λ (bs : List ℕ). fill_run c x s ++ bs) (map_between (fill_byte c) s e y b d)
    ∙ map_between (fill_byte c) x s y a (omega (arith, b, d)))))

-- three runs put behind a list
pub put_three :
    (out a b d xs ys zs whole : List ℕ) → a ≡ out ++ xs → b ≡ a ++ ys → d ≡ b ++ zs → xs ++ (ys ++ zs) ≡ whole → d ≡ out ++ whole
put_three out a b d xs ys zs whole is_a is_b is_d is =
    is_d
    ∙ (ap (λ (bs : List ℕ). bs ++ zs) is_b
    ∙ (append_assoc a ys zs
    ∙ (ap (λ (bs : List ℕ). bs ++ (ys ++ zs)) is_a
    ∙ (append_assoc out xs (ys ++ zs) ∙ ap (λ (bs : List ℕ). out ++ bs) is))))

-- the fill of the own segments is that of their one executable part
or_none : (t : Bool) → cond {A = ℕ} (t || false) 0x90 0 ≡ cond {A = ℕ} t 0x90 0
or_none true = refl
or_none false = refl

no_code : (a : ℕ) → ◌≡◌ {A = ℕ} 0 (fill_byte (record { start = 0; end = 0 }) a)
no_code a = sym (fill_outside (record { start = 0; end = 0 }) a (λ low. low))

code_by :
    (a base s t u f : ℕ) (ps qs rs : List Placed) (b c : Bool) →
    fill_at (segment base 4 s f ps ∷ (cond b (segment base 5 t t qs ∷ []) [] ++ cond c (segment base 6 u u rs ∷ []) [])) a
    ≡ fill_byte (code_part (segment base 4 s f ps ∷ (cond b (segment base 5 t t qs ∷ []) [] ++ cond c (segment base 6 u u rs ∷ []) []))) a
code_by a base s t u f ps qs rs true true = or_none _
code_by a base s t u f ps qs rs true false = or_none _
code_by a base s t u f ps qs rs false true = no_code a
code_by a base s t u f ps qs rs false false = no_code a

pub own_fill_is : (base : ℕ) (objects : List LoadedObject) (a : ℕ) → fill_at (own_segments base objects) a ≡ fill_byte (code_part (own_segments base objects)) a
own_fill_is base objects a =
    code_by a base base (code_start base objects) (data_start base objects) (read_only_start base objects) (own_read_only base objects)
    (own_code base objects) (own_data base objects) (list_any is_nonempty (code_pieces objects)) (list_any is_nonempty (data_pieces objects))

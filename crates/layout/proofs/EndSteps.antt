-- Greatest ends, one more place at a time, and files that are short enough.
use Rattle.std.proofs.Common.{◌≡◌, ℕ, ◌+◌, ◌<◌, ◌^◌, ◌&&◌, Bool, true, false, cond, List, [], ◌∷◌, get_or, drop, length, refl, sym, ◌∙◌, ap, arith}
use Rattle.std.specs.Prelude.{All, max, nat_lt}
use Rattle.std.proofs.lemmas.Bool.{ltb-false, ltb-true}
use Rattle.std.proofs.lemmas.List.Elements.{All-cons, All-head, All-nil, All-tail}
use Rattle.elf_model.specs.Image.MemoryImage.{file_end}
use Rattle.elf_model.specs.Own.OwnLayout.{greatest_end, is_nonempty, placed_end}
use Rattle.elf_model.specs.Link.Placement.{Placed}
use Rattle.elf_model.specs.declared.records.ProgramHeader.{ProgramHeader}
use Rattle.placing.specs.Limits.{IsShort}
use Rattle.placing.specs.PlaceViews.{place_view, place_views}
use Rattle.placing.specs.declared.runs.Place.{Place}
use Rattle.elf_model.proofs.Rests.{rest_at}

max_turn : (a b c : ℕ) → max a (max b c) ≡ max b (max a c)
max_turn a b c = omega arith

greatest_end_max : (t : Placed → Bool) (x e : ℕ) (qs : List Placed) → greatest_end t (max e x) qs ≡ max e (greatest_end t x qs)
greatest_end_max t x e [] = refl
greatest_end_max t x e (q ∷ qs) = by (t q && is_nonempty q.piece) (greatest_end_max t x e qs)
  where
    by :
        (b : Bool) → greatest_end t (max e x) qs ≡ max e (greatest_end t x qs) →
        cond b (max (placed_end q) (greatest_end t (max e x) qs)) (greatest_end t (max e x) qs)
        ≡ max e (cond b (max (placed_end q) (greatest_end t x qs)) (greatest_end t x qs))
    by true ih = ap (max (placed_end q)) ih ∙ max_turn (placed_end q) e (greatest_end t x qs)
    by false ih = ih

greatest_end_step : (t : Placed → Bool) (x : ℕ) (q : Placed) (qs : List Placed) → greatest_end t (greatest_end t x (q ∷ [])) qs ≡ greatest_end t x (q ∷ qs)
greatest_end_step t x q qs = by (t q && is_nonempty q.piece)
  where
    by : (b : Bool) → greatest_end t (cond b (max (placed_end q) x) x) qs ≡ cond b (max (placed_end q) (greatest_end t x qs)) (greatest_end t x qs)
    by true = greatest_end_max t x (placed_end q) qs
    by false = refl

pub end_more :
    (t : Placed → Bool) (x y : ℕ) (places : List Place) (i : ℕ) (d : Place) (whole : ℕ) → i < length places →
    y ≡ greatest_end t x (place_view (get_or places i d) ∷ []) → greatest_end t x (place_views (drop i places)) ≡ whole →
    greatest_end t y (place_views (drop (i + 1) places)) ≡ whole
end_more t x y places i d whole within is so_far =
    ap (λ (z : ℕ). greatest_end t z (place_views (drop (i + 1) places))) is
    ∙ (greatest_end_step t x (place_view (get_or places i d)) (place_views (drop (i + 1) places))
    ∙ (ap (λ (qs : List Place). greatest_end t x (place_views qs)) (sym (rest_at places i d within)) ∙ so_far))

-- no segment's file part reaches the limit where the last one doesn't
pub short_from : (hs : List ProgramHeader) → All IsShort hs → file_end hs < 2 ^ 32
short_from [] all = omega arith
short_from (h ∷ hs) all =
    by (nat_lt 0 h.p_filesz) refl h.p_offset h.p_filesz (file_end hs) (All-head IsShort h hs all) (short_from hs (All-tail IsShort h hs all))
  where
    by :
        (b : Bool) → nat_lt 0 h.p_filesz ≡ b → (offset size rest : ℕ) → (0 < h.p_filesz → offset + size < 2 ^ 32) → rest < 2 ^ 32 →
        cond b (max (offset + size) rest) rest < 2 ^ 32
    by true e offset size rest here ih = let w = here (ltb-true 0 h.p_filesz e) in omega (arith, w, ih)
    by false e offset size rest here ih = ih

pub short_of : (hs : List ProgramHeader) → file_end hs < 2 ^ 32 → All IsShort hs
short_of [] low = All-nil IsShort
short_of (h ∷ hs) low =
    let b = by (nat_lt 0 h.p_filesz) refl h.p_offset h.p_filesz (file_end hs) low in
    All-cons IsShort h hs b.0 (short_of hs b.1)
  where
    by :
        (b : Bool) → nat_lt 0 h.p_filesz ≡ b → (offset size rest : ℕ) → cond b (max (offset + size) rest) rest < 2 ^ 32 →
        (0 < h.p_filesz → offset + size < 2 ^ 32) × (rest < 2 ^ 32)
    by true e offset size rest l = (λ some. omega (arith, l), omega (arith, l))
    by false e offset size rest l = (λ some. absurd (let z = ltb-false 0 h.p_filesz e in omega (arith, z, some)), l)

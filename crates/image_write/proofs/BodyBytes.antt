-- The bytes of the places with fill between them are those of each address.
use Rattle.std.proofs.Common.{◌≡◌, ℕ, ◌+◌, ◌-◌, ◌<◌, ◌≤◌, Bool, true, false, cond, List, [], ◌∷◌, ◌++◌, refl, sym, ◌∙◌, ap, arith}
use Rattle.std.specs.Prelude.{All, AllPairs, map, nat_le, nat_lt}
use Rattle.std.specs.List.{range_with_len}
use Rattle.std.proofs.lemmas.Bool.{and_parts, false_from_ne_true, leb-true, ltb-true, true≢false}
use Rattle.std.proofs.lemmas.List.Elements.{All-cons, All-head, All-nil, All-tail, All-weaker}
use Rattle.elf_model.specs.Own.ImageFile.{covers_address, piece_byte}
use Rattle.elf_model.specs.Link.Loading.{LoadedObject}
use Rattle.elf_model.specs.Own.OwnLayout.{placed_end}
use Rattle.elf_model.specs.Link.Placement.{Placed, Where}
use Rattle.elf_model.proofs.Pairs.{AllPairs-head, AllPairs-tail}
use Rattle.elf_model.proofs.Running.{IsBehind}
use Rattle.image_write.specs.Parts.{Rise, body_from, bytes_of, fill_byte, fill_run, is_written}
use Rattle.image_write.specs.declared.fill_bytes.Code.{Code}
use Rattle.image_write.proofs.Runs.{map_agree, map_between, map_shifted}

-- an address that a place doesn't cover
pub not_covered : (a : ℕ) (q : Placed) → (q.at ≤ a → placed_end q ≤ a) → covers_address a q ≡ false
not_covered a q out =
    false_from_ne_true (covers_address a q) (λ t.
    let p = and_parts (nat_le q.at a) (nat_lt a (placed_end q)) t in
    let low = leb-true q.at a p.0 in
    let high = ltb-true a (placed_end q) p.1 in
    let o = out low in
    omega (arith, high, o))

-- places that follow each other end at or below the last address
rise_by :
    (b : Bool) (x to : ℕ) (q : Placed) (qs : List Placed) → is_written q ≡ b → Rise x to (q ∷ qs) →
    (Rise (placed_end q) to qs → placed_end q ≤ to) → (Rise x to qs → x ≤ to) → x ≤ to
rise_by true x to q qs is rise behind skipped =
    let r = rise.0 is in
    let low = r.0 in
    let high = behind r.1 in
    omega (arith, low, high)
rise_by false x to q qs is rise behind skipped = skipped (rise.1 is)

pub rise_order : (x to : ℕ) (qs : List Placed) → Rise x to qs → x ≤ to
rise_order x to [] rise = rise
rise_order x to (q ∷ qs) rise =
    rise_by (is_written q) x to q qs refl rise (rise_order (placed_end q) to qs) (rise_order x to qs)

-- and begin at or above the first one
abbrev pub BeginsAbove : ℕ → Placed → Type 0
BeginsAbove x q = is_written q ≡ true → x ≤ q.at

above_by :
    (b : Bool) (x to : ℕ) (q : Placed) (qs : List Placed) → is_written q ≡ b → Rise x to (q ∷ qs) →
    (Rise (placed_end q) to qs → All (BeginsAbove (placed_end q)) qs) → (Rise x to qs → All (BeginsAbove x) qs) →
    All (BeginsAbove x) (q ∷ qs)
above_by true x to q qs is rise behind skipped =
    let r = rise.0 is in
    let low = r.0 in
    All-cons (BeginsAbove x) q qs (λ w. low)
    (All-weaker (BeginsAbove (placed_end q)) (BeginsAbove x) (λ p above w. let h = above w in omega (arith, h, low)) qs (behind r.1))
above_by false x to q qs is rise behind skipped =
    All-cons (BeginsAbove x) q qs (λ w. absurd (true≢false (sym w ∙ is))) (skipped (rise.1 is))

pub rise_above : (x to : ℕ) (qs : List Placed) → Rise x to qs → All (BeginsAbove x) qs
rise_above x to [] rise = All-nil (BeginsAbove x)
rise_above x to (q ∷ qs) rise =
    above_by (is_written q) x to q qs refl rise (rise_above (placed_end q) to qs) (rise_above x to qs)

-- places each behind the earlier ones follow each other
abbrev pub EndsAt : ℕ → Placed → Type 0
EndsAt to q = is_written q ≡ true → placed_end q ≤ to

pub rise_of :
    (x to : ℕ) (qs : List Placed) → x ≤ to → All (BeginsAbove x) qs → AllPairs IsBehind qs → All (EndsAt to) qs → Rise x to qs
rise_of x to [] order above pairs ends = order
rise_of x to (q ∷ qs) order above pairs ends =
    let rest = AllPairs-tail IsBehind q qs pairs in
    let later = All-tail (EndsAt to) q qs ends in (
      λ w. (
        All-head (BeginsAbove x) q qs above w,
        rise_of (placed_end q) to qs (All-head (EndsAt to) q qs ends w)
            (All-weaker (IsBehind q) (BeginsAbove (placed_end q)) (λ p b v. b) qs (AllPairs-head IsBehind q qs pairs)) rest later,
      ),
      λ w. rise_of x to qs order (All-tail (BeginsAbove x) q qs above) rest later,
    )

-- the byte of each address is what its place wants, and the fill where none with bytes is
module _ (objects : List LoadedObject) (placing : Where) (c : Code) (to : ℕ) (f : ℕ → ℕ) where
  abbrev pub Wants : Placed → Type 0
  Wants q = is_written q ≡ true → (k : ℕ) → k < q.piece.size → f (q.at + k) ≡ piece_byte objects placing q.piece k

  abbrev pub IsBare : ℕ → Placed → Type 0
  IsBare a q = is_written q ≡ true → covers_address a q ≡ false

  abbrev pub FillsFrom : ℕ → List Placed → Type 0
  FillsFrom x qs = (a : ℕ) → x ≤ a → All (IsBare a) qs → f a ≡ fill_byte c a

  filled : (x y : ℕ) (qs : List Placed) → All (BeginsAbove y) qs → FillsFrom x qs → fill_run c x y ≡ map f (range_with_len x (y - x))
  filled x y qs above fill =
      map_agree (fill_byte c) f x (y - x) (λ a low high.
      sym (fill a low
      (All-weaker (BeginsAbove y) (IsBare a) (λ q b w. not_covered a q (let h = b w in λ l. absurd (omega (arith, h, l, high, low)))) qs above)))

  piece_here : (q : Placed) → is_written q ≡ true → Wants q → bytes_of objects placing q.piece ≡ map f (range_with_len q.at (placed_end q - q.at))
  piece_here q w wants =
      let size : q.piece.size ≡ placed_end q - q.at = omega arith in
      let at : q.at + 0 ≡ q.at = omega arith in
      map_agree (piece_byte objects placing q.piece) (λ k. f (q.at + k)) 0 q.piece.size (λ k low high. sym (wants w k (omega (arith, high))))
      ∙ (map_shifted f q.at 0 q.piece.size
      ∙ (ap (λ (x : ℕ). map f (range_with_len x q.piece.size)) at
      ∙ ap (λ (n : ℕ). map f (range_with_len q.at n)) size))

  body_by :
      (b : Bool) (x : ℕ) (q : Placed) (qs : List Placed) → is_written q ≡ b → Rise x to (q ∷ qs) → All Wants (q ∷ qs) →
      FillsFrom x (q ∷ qs) →
      (Rise (placed_end q) to qs → FillsFrom (placed_end q) qs → body_from objects placing c to (placed_end q) qs ≡ map f (range_with_len (placed_end q) (to - placed_end q))) →
      (Rise x to qs → FillsFrom x qs → body_from objects placing c to x qs ≡ map f (range_with_len x (to - x))) →
      cond b (fill_run c x q.at ++ (bytes_of objects placing q.piece ++ body_from objects placing c to (placed_end q) qs)) (body_from objects placing c to x qs)
      ≡ map f (range_with_len x (to - x))
  body_by true x q qs is rise wants fill behind skipped =
      let r = rise.0 is in
      let low = r.0 in
      let high = rise_order (placed_end q) to qs r.1 in
      let above : All (BeginsAbove q.at) (q ∷ qs) =
      All-cons (BeginsAbove q.at) q qs (λ w. omega arith)
      (All-weaker (BeginsAbove (placed_end q)) (BeginsAbove q.at) (λ p b w. let h = b w in omega (arith, h)) qs (rise_above (placed_end q) to qs r.1)) in
      let first = filled x q.at (q ∷ qs) above fill in
      let second = piece_here q is (All-head Wants q qs wants) in
      let third = behind r.1 (λ a from bare. fill a (omega (arith, from, low)) (All-cons (IsBare a) q qs (λ w. not_covered a q (λ l. from)) bare)) in
      ap (λ (bs : List ℕ). bs ++ (bytes_of objects placing q.piece ++ body_from objects placing c to (placed_end q) qs)) first
      ∙ (ap (λ (bs : List ℕ). map f (range_with_len x (q.at - x)) ++ (bs ++ body_from objects placing c to (placed_end q) qs)) second
      ∙ (ap (λ (bs : List ℕ). map f (range_with_len x (q.at - x)) ++ (map f (range_with_len q.at (placed_end q - q.at)) ++ bs)) third
      ∙ (ap (λ (bs : List ℕ). map f (range_with_len x (q.at - x)) ++ bs) (map_between f q.at (placed_end q) to (omega arith) high)
      ∙ map_between f x q.at to low (omega (arith, high)))))
  body_by false x q qs is rise wants fill behind skipped =
      skipped (rise.1 is) (λ a from bare. fill a from (All-cons (IsBare a) q qs (λ w. absurd (true≢false (sym w ∙ is))) bare))

  pub body_is : (x : ℕ) (qs : List Placed) → Rise x to qs → All Wants qs → FillsFrom x qs → body_from objects placing c to x qs ≡ map f (range_with_len x (to - x))
  body_is x [] rise wants fill =
      map_agree (fill_byte c) f x (to - x) (λ a low high. sym (fill a low (All-nil (IsBare a))))
  body_is x (q ∷ qs) rise wants fill =
      body_by (is_written q) x q qs refl rise wants fill
      (λ r g. body_is (placed_end q) qs r (All-tail Wants q qs wants) g) (λ r g. body_is x qs r (All-tail Wants q qs wants) g)

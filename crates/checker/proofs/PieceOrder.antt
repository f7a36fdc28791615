-- Placed pieces stand by objects, common blocks behind all others; and what is left of them once those of one object more
-- are compared.
use Rattle.std.proofs.Common.{◌≡◌, ℕ, ◌+◌, ◌<◌, ◌≤◌, ◌==◌, inl, inr, Bool, true, false, List, [], ◌∷◌, ◌++◌, drop, get_or, length, length-drop, length-take, refl, subst, sym, take, take-append-drop, ap, ◌∙◌, arith}
use Rattle.std.specs.Prelude.{◌&&◌, All, AllPairs, Contains, ◌↔◌}
use Rattle.std.specs.List.{prefix_len}
use Rattle.std.proofs.lemmas.Bool.{and_parts, eqb-true}
use Rattle.std.proofs.lemmas.Bool.Decides.{nat_tests}
use Rattle.std.proofs.lemmas.List.{drop-map, get_or-drop, get_or-map, get_or-take, length-map, take-map}
use Rattle.std.proofs.lemmas.List.Sums.{prefix_len_passes, prefix_len_stops}
use Rattle.check_link.specs.Views.{placed_view, placed_views}
use Rattle.check_link.specs.declared.things.Placed as things
use Rattle.std.proofs.lemmas.List.Elements.{All-append, All-cons, All-contains_itself, All-head, All-map, All-nil, All-weaker}
use Rattle.std.proofs.lemmas.List.Kept.{AllPairs-cons}
use Rattle.elf_model.proofs.Blocks.{blocks-each}
use Rattle.elf_model.proofs.Listed.{All-parts}
use Rattle.elf_model.proofs.Pairs.{AllPairs-append, AllPairs-head, AllPairs-nil, AllPairs-parts, AllPairs-tail, AllPairs-weaker}
use Rattle.elf_model.proofs.PieceNumbers.{ComesBefore, kept_ascend, kept_below}
use Rattle.elf_model.specs.Link.Commons.{Block, block_piece, blocks}
use Rattle.elf_model.specs.Link.Loading.{LoadedObject}
use Rattle.elf_model.specs.Image.MapRecord.{PlaceRow}
use Rattle.elf_model.specs.Link.Pieces.{Piece, kept_sections}
use Rattle.elf_model.specs.Link.Placement.{Placed, placed_block, placed_blocks, placed_by}
use Rattle.elf_model.specs.Image.RightLink.{HoldsPiece, Subject, objects_of, placed_of, sections_of, where_of}
use Rattle.checker.proofs.PieceSections.{IsThere, is_there, placed_all}
use Rattle.checker.specs.Comparing.{AreCompared, AreHeld, AreLeft, AreOwn}

abbrev NotBefore : Piece → Piece → Type 0
NotBefore p q = p.object ≤ q.object

by_objects : (objects : List LoadedObject) → AllPairs NotBefore (kept_sections objects)
by_objects objects = AllPairs-weaker ComesBefore NotBefore not_before (kept_sections objects) (kept_ascend objects)
  where
    not_before : (p q : Piece) → ComesBefore p q → NotBefore p q
    not_before p q (inl object) = omega (arith, object)
    not_before p q (inr section) = omega (arith, section)

abbrev Behind : Placed → Placed → Type 0
Behind p q = NotBefore p.piece q.piece

placed_by_objects : (rows : List PlaceRow) (ps : List Piece) → AllPairs NotBefore ps → AllPairs Behind (placed_by rows ps)
placed_by_objects [] ps pairs = AllPairs-nil Behind
placed_by_objects (row ∷ rows) [] pairs = AllPairs-nil Behind
placed_by_objects (row ∷ rows) (p ∷ ps) pairs =
    AllPairs-cons Behind (record { at = row.address; piece = p }) (placed_by rows ps)
    (placed_all (NotBefore p) rows ps (AllPairs-head NotBefore p ps pairs))
    (placed_by_objects rows ps (AllPairs-tail NotBefore p ps pairs))

sections_below : (s : Subject) → All (λ q. q.piece.object < length (objects_of s)) (sections_of s)
sections_below s =
    placed_all (λ (p : Piece). p.object < length (objects_of s)) s.map.places (kept_sections (objects_of s)) (kept_below (objects_of s))

blocks_behind : (s : Subject) → All (λ q. q.piece.object ≡ length (objects_of s)) (placed_blocks s.map.commons (blocks (objects_of s)))
blocks_behind s =
    All-map (λ (q : Placed). q.piece.object ≡ length (objects_of s)) (placed_block s.map.commons) (blocks (objects_of s))
    (blocks-each (objects_of s) (λ (b : Block). (block_piece b).object ≡ length (objects_of s)) (λ k t c. refl))

all_by_objects : (s : Subject) → AllPairs Behind (placed_of s)
all_by_objects s =
    let n = length (objects_of s) in
    let first = sections_of s in
    let others = placed_blocks s.map.commons (blocks (objects_of s)) in
    AllPairs-append Behind first others (placed_by_objects s.map.places (kept_sections (objects_of s)) (by_objects (objects_of s)))
    (λ i j d low high.
    let a = blocks_behind s i d (omega (arith, low, high)) in
    let b = blocks_behind s j d high in
    omega (arith, a, b))
    (λ k d low.
    All-weaker (λ (q : Placed). q.piece.object ≡ n) (Behind (get_or first k d))
    (λ q e. let below = sections_below s k d low in omega (arith, e, below)) others (blocks_behind s))

-- Before the first object nothing is compared.
pub compared_none : (s : Subject) (qs : List Placed) → qs ≡ placed_of s → AreCompared s 0 true qs
compared_none s qs same = record {
  left_are = record {
    among = subst (All (Contains (placed_of s))) (sym same) (λ k d low. All-contains_itself (placed_of s) k d low);
    from = λ k d low. omega arith;
    rising = subst (AllPairs Behind) (sym same) (all_by_objects s);
  };
  tells = (λ h. (refl, subst (AreHeld s) (sym same) h), λ h. subst (AreHeld s) same h.1);
}

-- the pieces of an object, which come first, and those behind them
module _ (s : Subject) (n : ℕ) where
  own_are : (own later : List Placed) → AreLeft s n (own ++ later) → All (λ q. q.piece.object ≡ n) own → AreOwn s n own
  own_are own later left same = record { among = (All-parts (Contains (placed_of s)) own later left.among).0; own = same }

  -- the first of them that is not the object's is of a later one, and so are all behind it
  later_are : (later : List Placed) → AreLeft s n later → ((d : Placed) → 0 < length later → (get_or later 0 d).piece.object ≡ n → ⊥) → AreLeft s (n + 1) later
  later_are [] left other = record { among = left.among; from = All-nil (λ (q : Placed). n + 1 ≤ q.piece.object); rising = left.rising }
  later_are (q ∷ qs) left other =
      let here : n + 1 ≤ q.piece.object = let from = All-head (λ (x : Placed). n ≤ x.piece.object) q qs left.from in let never = other q (omega arith) in omega (arith, from, never) in
      record {
        among = left.among;
        from =
            All-cons (λ (x : Placed). n + 1 ≤ x.piece.object) q qs here
            (All-weaker (Behind q) (λ x. n + 1 ≤ x.piece.object) (λ x behind. omega (arith, here, behind)) qs (AllPairs-head Behind q qs left.rising));
        rising = left.rising;
      }

  left_of : (own later : List Placed) → AreLeft s n (own ++ later) → AreLeft s n later
  left_of own later left = record {
    among = (All-parts (Contains (placed_of s)) own later left.among).1;
    from = (All-parts (λ (q : Placed). n ≤ q.piece.object) own later left.from).1;
    rising = (AllPairs-parts Behind own later left.rising).1;
  }

  -- the pieces of one object more are compared
  pub compared_more :
      (held here : Bool) (left own later : List Placed) → left ≡ own ++ later → AreCompared s n held left → All (λ q. q.piece.object ≡ n) own →
      ((d : Placed) → 0 < length later → (get_or later 0 d).piece.object ≡ n → ⊥) → ((here ≡ true) ↔ AreHeld s own) →
      AreCompared s (n + 1) (held && here) later
  compared_more held here left own later parts compared same other tells =
      let are = subst (AreLeft s n) parts compared.left_are in
      record {
        left_are = later_are later (left_of own later are) other;
        tells = (
          λ all. let h = compared.tells.0 all in
              let two = All-parts P own later (subst (AreHeld s) parts h.1) in
              (both held here h.0 (tells.1 two.0), two.1),
          λ h. let two = and_parts held here h.0 in
              compared.tells.1 (two.0, subst (AreHeld s) (sym parts) (All-append P own later (tells.0 two.1) h.1)),
        );
      }
    where
      P : Placed → Type 0
      P q = HoldsPiece (objects_of s) (where_of s) s.image q

      both : (a b : Bool) → a ≡ true → b ≡ true → (a && b) ≡ true
      both a b e f = cc

  pub own_first : (left own later : List Placed) → left ≡ own ++ later → AreLeft s n left → All (λ q. q.piece.object ≡ n) own → AreOwn s n own
  own_first left own later parts are same = own_are own later (subst (AreLeft s n) parts are) same

-- The first pieces that are of an object, and those behind them.
module _ (n : ℕ) (qs own later : List things.Placed) (m : ℕ) (count : m ≡ prefix_len (λ q. q.piece.object == n) qs) (own_is : own ≡ take m qs) (later_is : later ≡ drop m qs) where
  pub cut_parts : placed_views qs ≡ placed_views own ++ placed_views later
  cut_parts =
      sym (take-append-drop m (placed_views qs))
      ∙ (ap (λ (xs : List Placed). xs ++ drop m (placed_views qs)) (take-map placed_view m qs ∙ ap placed_views (sym own_is))
      ∙ ap (λ (ys : List Placed). placed_views own ++ ys) (drop-map placed_view m qs ∙ ap placed_views (sym later_is)))

  pub cut_own : All (λ q. q.piece.object ≡ n) (placed_views own)
  cut_own =
      All-map (λ (q : Placed). q.piece.object ≡ n) placed_view own
      (subst (All (λ (q : things.Placed). q.piece.object ≡ n)) (sym own_is) first)
    where
      first : All (λ (q : things.Placed). q.piece.object ≡ n) (take m qs)
      first k d low =
          let long = length-take m qs in
          let below : k < m = omega (arith, low, long) in
          eqb-true (get_or (take m qs) k d).piece.object n
          (ap (λ (q : things.Placed). q.piece.object == n) (get_or-take m qs k d below)
          ∙ prefix_len_passes (λ (q : things.Placed). q.piece.object == n) qs k d (subst (λ (j : ℕ). k < j) count below))

  pub cut_later : (d : Placed) → 0 < length (placed_views later) → (get_or (placed_views later) 0 d).piece.object ≡ n → ⊥
  cut_later d some same = by qs refl
    where
      long : length (placed_views later) ≡ length (drop m qs)
      long = length-map later placed_view ∙ ap length later_is

      past : m < length qs
      past = let e = length-drop m qs in let l = long in omega (arith, some, e, l)

      at : (x : things.Placed) → get_or (placed_views later) 0 d ≡ placed_view (get_or qs m x)
      at x =
          get_or-map placed_view later 0 x d (let e = length-map later placed_view in omega (arith, some, e))
          ∙ (ap (λ (ys : List things.Placed). placed_view (get_or ys 0 x)) later_is
          ∙ (ap placed_view (get_or-drop m qs 0 x)
          ∙ ap (λ (j : ℕ). placed_view (get_or qs j x)) (let e : m + 0 ≡ m = omega arith in e)))

      differs : (a : ℕ) → a ≡ n → (a == n) ≡ false → ⊥
      differs a e f = grind (arith, nat_tests)

      by : (xs : List things.Placed) → xs ≡ qs → ⊥
      by [] e = let l = ap length e in let p = past in omega (arith, l, p)
      by (x ∷ xs) e =
          let stops : (get_or qs m x).piece.object == n ≡ false =
          ap (λ (j : ℕ). (get_or qs j x).piece.object == n) count
          ∙ prefix_len_stops (λ (q : things.Placed). q.piece.object == n) qs x (subst (λ (j : ℕ). j < length qs) count past) in
          let is : (get_or qs m x).piece.object ≡ n = ap (λ (q : Placed). q.piece.object) (sym (at x)) ∙ same in
          differs (get_or qs m x).piece.object is stops

-- Once all objects and the blocks are compared, no piece is left.
pub none_left : (s : Subject) (qs : List Placed) → AreLeft s (length (objects_of s) + 1) qs → qs ≡ []
none_left s [] left = refl
none_left s (q ∷ qs) left =
    absurd
    (past
    (All-head (λ (x : Placed). length (objects_of s) + 1 ≤ x.piece.object) q qs left.from)
    (is_there s q (All-head (Contains (placed_of s)) q qs left.among)))
  where
    past : length (objects_of s) + 1 ≤ q.piece.object → IsThere (objects_of s) q.piece → ⊥
    past from (inl of) = let t = of.there in omega (arith, from, t)
    past from (inr block) = let t = block.object in omega (arith, from, t)

-- and the tenth clause is told
pub compared_all : (s : Subject) (held : Bool) (qs : List Placed) → AreCompared s (length (objects_of s) + 1) held qs → (held ≡ true) ↔ AreHeld s (placed_of s)
compared_all s held qs compared = (
  λ e. compared.tells.1 (e, subst (AreHeld s) (sym (none_left s qs compared.left_are)) (All-nil (HoldsPiece (objects_of s) (where_of s) s.image))),
  λ all. (compared.tells.0 all).0,
)

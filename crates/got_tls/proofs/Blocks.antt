-- The block of the thread-local pieces, as a relation, and its alignment where they are of objects.
use Rattle.std.proofs.Common.{◌≡◌, ℕ, ◌+◌, ◌-◌, ◌<◌, ◌^◌, ◌≤◌, ◌⊎◌, inl, inr, Bool, true, false, cond, List, [], ◌∷◌, Option, Some, None, map, option_map, refl, sym, subst, arith}
use Rattle.std.specs.Prelude.{All, Contains, IfSome, max, min}
use Rattle.std.proofs.lemmas.Bool.{cases_lt, false≢true}
use Rattle.std.proofs.lemmas.List.Elements.{All-append, All-cons, All-contains, All-head, All-nil, All-tail, All-weaker}
use Rattle.elf_model.specs.Link.Loading.{AreObjects, LoadedObject}
use Rattle.elf_model.specs.Link.LinkerValues.{end_of_pieces, least_of, start_of_pieces}
use Rattle.elf_model.specs.Own.OwnLayout.{got_pieces, laid_out, own_placed, placed_end}
use Rattle.elf_model.specs.Link.Commons.{block_pieces, pieces}
use Rattle.elf_model.specs.Link.Pieces.{Piece, is_thread_local, is_thread_piece, kept_sections}
use Rattle.elf_model.specs.Link.Placement.{Placed, is_thread_place}
use Rattle.elf_model.specs.Link.ThreadStorage.{alignment_of, block_from, thread_block}
use Rattle.elf_model.specs.declared.tls_block.TlsBlock.{TlsBlock}
use Rattle.elf_model.proofs.Blocks.{block_pieces-each}
use Rattle.elf_model.proofs.Listed.{All-unmap, Contains-from_filter, Contains-from_map, Contains-here, Contains-map, Contains-nil, Contains-there}
use Rattle.elf_model.proofs.Places.{All-ordered, own_placed_pieces, some_alignment}
use Rattle.elf_model.proofs.PieceAlignments.{IsLawfulAlignment, kept_lawful}
use Rattle.elf_model.proofs.PieceNumbers.{IsKept, got_pieces-each, laid_out_kept}
use Rattle.elf_model.proofs.Running.{HasAlignment}
use Rattle.layout.specs.Placements.{IsLaidOut}
use Rattle.got_tls.specs.ThreadStorage.{EndsLow, IsAligned, IsBlockOf, IsGreatest, IsLeast, thread_places}

-- the least address of the thread-local ones is one of theirs, and none is below it
abbrev StartIs : Option ℕ → List ℕ → Type 0
StartIs None xs = xs ≡ []
StartIs (Some a) xs = IsLeast xs a

least_first : (x : ℕ) (xs : List ℕ) (o : Option ℕ) → StartIs o xs → IsLeast (x ∷ xs) (least_of x o)
least_first x xs None none = (Contains-here xs x, All-cons (λ y. x ≤ y) x xs (omega arith) (subst (All (λ y. x ≤ y)) (sym none) (All-nil (λ y. x ≤ y))))
least_first x xs (Some b) is = (
  there (cases_lt x b),
  All-cons (λ y. min x b ≤ y) x xs (omega arith) (All-weaker (λ y. b ≤ y) (λ y. min x b ≤ y) (λ y l. omega (arith, l)) xs is.1),
)
  where
    there : (x < b) ⊎ (b ≤ x) → Contains (x ∷ xs) (min x b)
    there (inl low) = let e : x ≡ min x b = omega (arith, low) in subst (Contains (x ∷ xs)) e (Contains-here xs x)
    there (inr high) = let e : b ≡ min x b = omega (arith, high) in subst (Contains (x ∷ xs)) e (Contains-there x xs b is.0)

start_is : (qs : List Placed) → StartIs (start_of_pieces is_thread_piece qs) (map (λ q. q.at) (thread_places qs))
start_is [] = refl
start_is (q ∷ qs) = by (is_thread_piece q.piece) (start_of_pieces is_thread_piece qs) (start_is qs)
  where
    by :
        (b : Bool) (o : Option ℕ) → StartIs o (map (λ p. p.at) (thread_places qs)) →
        StartIs (cond b (Some (least_of q.at o)) o) (map (λ p. p.at) (cond b (q ∷ thread_places qs) (thread_places qs)))
    by true o is = least_first q.at (map (λ p. p.at) (thread_places qs)) o is
    by false o is = is

-- the greatest of what places have, or what is below all of it where there are no places
abbrev IsTop : ℕ → (Placed → ℕ) → List Placed → ℕ → Type 0
IsTop z f ps x = All (λ y. y ≤ x) (map f ps) × (((ps ≡ []) × (x ≡ z)) ⊎ Contains (map f ps) x)

top_more : (z : ℕ) (f : Placed → ℕ) (q : Placed) (ps : List Placed) (x : ℕ) → z ≤ f q → IsTop z f ps x → IsTop z f (q ∷ ps) (max (f q) x)
top_more z f q ps x low top = (
  All-cons (λ y. y ≤ max (f q) x) (f q) (map f ps) (omega arith) (All-weaker (λ y. y ≤ x) (λ y. y ≤ max (f q) x) (λ y l. omega (arith, l)) (map f ps) top.0),
  inr (there top.1 (cases_lt (f q) x)),
)
  where
    here : x ≤ f q → Contains (f q ∷ map f ps) (max (f q) x)
    here l = let e : f q ≡ max (f q) x = omega (arith, l) in subst (Contains (f q ∷ map f ps)) e (Contains-here (map f ps) (f q))

    there : ((ps ≡ []) × (x ≡ z)) ⊎ Contains (map f ps) x → (f q < x) ⊎ (x ≤ f q) → Contains (f q ∷ map f ps) (max (f q) x)
    there (inl none) which = let e = none.1 in here (omega (arith, e, low))
    there (inr c) (inl l) = let e : x ≡ max (f q) x = omega (arith, l) in subst (Contains (f q ∷ map f ps)) e (Contains-there (f q) (map f ps) x c)
    there (inr c) (inr g) = here g

end_is : (qs : List Placed) → IsTop 0 placed_end (thread_places qs) (end_of_pieces is_thread_piece qs)
end_is [] = (All-nil (λ y. y ≤ 0), inl (refl, refl))
end_is (q ∷ qs) = by (is_thread_piece q.piece) (end_is qs)
  where
    by :
        (b : Bool) → IsTop 0 placed_end (thread_places qs) (end_of_pieces is_thread_piece qs) →
        IsTop 0 placed_end (cond b (q ∷ thread_places qs) (thread_places qs))
        (cond b (max (placed_end q) (end_of_pieces is_thread_piece qs)) (end_of_pieces is_thread_piece qs))
    by true top = top_more 0 placed_end q (thread_places qs) (end_of_pieces is_thread_piece qs) (omega arith) top
    by false top = top

abbrev alignment : Placed → ℕ
alignment q = q.piece.align

abbrev greatest_alignment : List Placed → ℕ
greatest_alignment qs = alignment_of is_thread_piece (map (λ q. q.piece) qs)

abbrev AreAligned : List Placed → Type 0
AreAligned qs = All (λ q. HasAlignment q.piece) qs

alignment_is : (qs : List Placed) → AreAligned qs → IsTop 1 alignment (thread_places qs) (greatest_alignment qs)
alignment_is [] all = (All-nil (λ y. y ≤ 1), inl (refl, refl))
alignment_is (q ∷ qs) all =
    by (is_thread_piece q.piece) (All-head (λ (p : Placed). HasAlignment p.piece) q qs all)
    (alignment_is qs (All-tail (λ (p : Placed). HasAlignment p.piece) q qs all))
  where
    by :
        (b : Bool) → 0 < q.piece.align → IsTop 1 alignment (thread_places qs) (greatest_alignment qs) →
        IsTop 1 alignment (cond b (q ∷ thread_places qs) (thread_places qs)) (cond b (max q.piece.align (greatest_alignment qs)) (greatest_alignment qs))
    by true some top = top_more 1 alignment q (thread_places qs) (greatest_alignment qs) (omega (arith, some)) top
    by false some top = top

-- of places that there are, it is the greatest
greatest_there : (z : ℕ) (f g : Placed → ℕ) (ps : List Placed) (x a : ℕ) → Contains (map g ps) a → IsTop z f ps x → IsGreatest (map f ps) x
greatest_there z f g ps x a some top = (there top.1, top.0)
  where
    there : ((ps ≡ []) × (x ≡ z)) ⊎ Contains (map f ps) x → Contains (map f ps) x
    there (inl none) = absurd (Contains-nil a (subst (λ (rs : List Placed). Contains (map g rs) a) none.0 some))
    there (inr c) = c

block_law : (qs : List Placed) → AreAligned qs → IfSome (thread_block qs) (IsBlockOf (thread_places qs))
block_law qs all = by (start_of_pieces is_thread_piece qs) (start_is qs)
  where
    ps : List Placed
    ps = thread_places qs

    by : (o : Option ℕ) → StartIs o (map (λ q. q.at) ps) → IfSome (option_map (block_from qs) o) (IsBlockOf ps)
    by None none = tt
    by (Some a) least =
        let end : ℕ = end_of_pieces is_thread_piece qs in
        let ends = greatest_there 0 placed_end (λ q. q.at) ps end a least.0 (end_is qs) in
        let first = Contains-from_map (λ (q : Placed). q.at) ps a least.0 in
        let at = first.is in
        let within = All-contains (λ y. y ≤ end) (map placed_end ps) (placed_end first.of) ends.1 (Contains-map placed_end ps first.of first.there) in
        let whole : end ≡ a + (end - a) = omega (arith, at, within) in
        record {
          begins = least;
          ends = subst (IsGreatest (map placed_end ps)) whole ends;
          aligned = greatest_there 1 alignment (λ q. q.at) ps (greatest_alignment qs) a least.0 (alignment_is qs all);
        }

-- the pieces of the own layout are aligned
own_are_aligned : (base : ℕ) (objects : List LoadedObject) → AreAligned (own_placed base objects)
own_are_aligned base objects =
    All-unmap HasAlignment (λ (q : Placed). q.piece) (own_placed base objects)
    (subst (All HasAlignment) (sym (own_placed_pieces base objects))
    (All-ordered HasAlignment objects (All-weaker IsKept HasAlignment (λ p k. k.0) (laid_out objects) (laid_out_kept objects))))

pub own_block_law :
    (base : ℕ) (objects : List LoadedObject) (found : Option TlsBlock) → found ≡ thread_block (own_placed base objects) →
    IfSome found (IsBlockOf (thread_places (own_placed base objects)))
own_block_law base objects found is =
    subst (λ (o : Option TlsBlock). IfSome o (IsBlockOf (thread_places (own_placed base objects)))) (sym is)
    (block_law (own_placed base objects) (own_are_aligned base objects))

-- a block has an alignment, and ends where a piece does
pub block_some : (qs : List Placed) (found : Option TlsBlock) → found ≡ thread_block qs → IfSome found (λ b. 0 < b.align)
block_some qs found is = subst (λ (o : Option TlsBlock). IfSome o (λ b. 0 < b.align)) (sym is) (by (start_of_pieces is_thread_piece qs))
  where
    by : (o : Option ℕ) → IfSome (option_map (block_from qs) o) (λ b. 0 < b.align)
    by None = tt
    by (Some a) = some_alignment is_thread_piece (map (λ (q : Placed). q.piece) qs)

pub block_low :
    (base : ℕ) (objects : List LoadedObject) (found : Option TlsBlock) → found ≡ thread_block (own_placed base objects) →
    IsLaidOut base objects → IfSome found EndsLow
block_low base objects found is laid = by found (own_block_law base objects found is)
  where
    qs : List Placed
    qs = own_placed base objects

    by : (o : Option TlsBlock) → IfSome o (IsBlockOf (thread_places qs)) → IfSome o EndsLow
    by None law = tt
    by (Some b) law =
        let last = Contains-from_map placed_end (thread_places qs) (b.start + b.size) law.ends.0 in
        let there = Contains-from_filter is_thread_place qs last.of last.there in
        let low = All-contains (λ (q : Placed). placed_end q ≤ 2 ^ 46) qs last.of laid.fits.ends there.0 in
        let ends = last.is in
        omega (arith, low, ends)

-- the alignments of thread-local pieces; no common block is one
HasLawfulAlignment : Piece → Type 0
HasLawfulAlignment p = is_thread_local p.header ≡ true → IsLawfulAlignment p.align

pieces_lawful : (objects : List LoadedObject) → AreObjects objects → All HasLawfulAlignment (pieces objects)
unfolding HasLawfulAlignment
pieces_lawful objects are =
    All-append HasLawfulAlignment (kept_sections objects) (block_pieces objects)
    (All-weaker (λ (p : Piece). IsLawfulAlignment p.align) HasLawfulAlignment (λ p is t. is) (kept_sections objects)
    (kept_lawful objects are))
    (block_pieces-each objects HasLawfulAlignment (λ k s c t. absurd (false≢true t)))

laid_out_lawful : (objects : List LoadedObject) → AreObjects objects → All HasLawfulAlignment (laid_out objects)
unfolding HasLawfulAlignment
laid_out_lawful objects are =
    All-append HasLawfulAlignment (pieces objects) (got_pieces objects) (pieces_lawful objects are)
    (got_pieces-each objects HasLawfulAlignment (λ t. absurd (false≢true t)))

placed_lawful : (base : ℕ) (objects : List LoadedObject) → AreObjects objects → All (λ q. HasLawfulAlignment q.piece) (own_placed base objects)
placed_lawful base objects are =
    All-unmap HasLawfulAlignment (λ (q : Placed). q.piece) (own_placed base objects)
    (subst (All HasLawfulAlignment) (sym (own_placed_pieces base objects)) (All-ordered HasLawfulAlignment objects (laid_out_lawful objects are)))

aligned_one : (base : ℕ) (objects : List LoadedObject) → AreObjects objects → (b : TlsBlock) → IsBlockOf (thread_places (own_placed base objects)) b → IsAligned b
unfolding HasLawfulAlignment
aligned_one base objects are b is =
    let image = Contains-from_map (λ (q : Placed). q.piece.align) (thread_places (own_placed base objects)) b.align is.aligned.0 in
    let there = Contains-from_filter is_thread_place (own_placed base objects) image.of image.there in
    let has = All-contains (λ (q : Placed). HasLawfulAlignment q.piece) (own_placed base objects) image.of (placed_lawful base objects are) there.0 there.1 in
    let both = subst IsLawfulAlignment image.is has in
    record { power = both.0; small = both.1 }

pub block_aligned :
    (base : ℕ) (objects : List LoadedObject) (found : Option TlsBlock) → found ≡ thread_block (own_placed base objects) →
    IsLaidOut base objects → IfSome found IsAligned
block_aligned base objects found is laid = by found (own_block_law base objects found is)
  where
    by : (o : Option TlsBlock) → IfSome o (IsBlockOf (thread_places (own_placed base objects))) → IfSome o IsAligned
    by None law = tt
    by (Some b) law = aligned_one base objects laid.objects_are b law
